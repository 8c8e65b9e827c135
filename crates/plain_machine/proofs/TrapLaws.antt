-- A user step never traps by the cause of a call.
use Rattle.std.proofs.Common.{◌≡◌, ℕ, ◌%◌, ◌==◌, Bool, true, false, Option, Some, None, if◌then◌else◌, refl}
use Rattle.rv_decode.specs.Alignment.{instruction_alignment}
use Rattle.rv_decode.specs.InsnTable.{insn_of}
use Rattle.rv_decode.specs.declared.instruction.Insn.{Insn}
use Rattle.rv_alu.specs.Effects.{bytes}
use Rattle.rv_alu.specs.declared.causes.Cause.{Cause}
use Rattle.rv_alu.specs.declared.causes.Cause.TheVariants.{Misaligned, FetchAccess, LoadAccess, StoreAccess}
use Rattle.rv_alu.specs.declared.effects.Effect.{Effect}
use Rattle.rv_alu.specs.declared.effects.Effect.TheVariants.{Pass, Set, Jump, Load, Store, Csr, Call, Break, Return, Wait}
use Rattle.plain_machine.specs.UserStep.{UserState, UserStep, next, trap, outside, unless, effect_step, insn_step, word_at}
use Rattle.plain_machine.specs.Laws.{is_user_cause, TrapsAsUser, UserStepsTrap}

unless-traps : (out : Option ℕ) (cause : Cause) (step : UserStep) → is_user_cause cause ≡ true → TrapsAsUser step → TrapsAsUser (unless out cause step)
unless-traps (Some byte) cause step own rest = own
unless-traps None cause step own rest = rest

jump-traps : (even : Bool) (moved : UserState) (target : ℕ) → TrapsAsUser (if even then next moved else trap Misaligned target)
jump-traps true moved target = tt
jump-traps false moved target = refl

effect-traps : (effect : Effect) (bits after : ℕ) (state : UserState) → TrapsAsUser (effect_step effect bits after state)
unfolding effect_step
effect-traps Pass bits after state = tt
effect-traps (Set rd value) bits after state = tt
effect-traps (Jump rd target) bits after state = jump-traps (target % instruction_alignment == 0) _ target
effect-traps (Load rd size extends at) bits after state = unless-traps (outside at (bytes size)) LoadAccess _ refl tt
effect-traps (Store size at value) bits after state = unless-traps (outside at (bytes size)) StoreAccess _ refl tt
effect-traps (Csr rd csr op value writes) bits after state = refl
effect-traps Call bits after state = tt
effect-traps Break bits after state = refl
effect-traps Return bits after state = refl
effect-traps Wait bits after state = refl

insn-traps : (insn : Option Insn) (bits : ℕ) (state : UserState) → TrapsAsUser (insn_step insn bits 4 state)
insn-traps (Some insn) bits state = effect-traps _ bits _ state
insn-traps None bits state = refl

pub user_steps_trap : UserStepsTrap
user_steps_trap state = unless-traps (outside state.pc 4) FetchAccess _ refl (insn-traps (insn_of (word_at state)) (word_at state) state)
