-- What a user step keeps: the pc is a multiple of 4, a trap is no call, and the word of an illegal instruction has 32 bits.
use Rattle.std.proofs.Common.{◌≡◌, ◌≢◌, ℕ, ◌+◌, ◌-◌, ◌%◌, ◌^◌, ◌<◌, ◌==◌, Bool, true, false, Option, Some, None, List, drop, refl, arith, if◌then◌else◌}
use Rattle.std.specs.Prelude.{⊤}
use Rattle.std.proofs.lemmas.Bool.{eqb-true}
use Rattle.std.proofs.lemmas.Grind.{common_steps}
use Rattle.byteorder.specs.Numbers.{little_from-lt}
use Rattle.fe_base.specs.MemoryMap.{user_start}
use Rattle.guest_memory.specs.Memory.{load, AreBytes}
use Rattle.rv_decode.specs.InsnTable.{insn_of}
use Rattle.rv_decode.specs.declared.instruction.Insn.{Insn}
use Rattle.rv_decode.specs.Alignment.{instruction_alignment}
use Rattle.rv_alu.specs.Causes.{cause_number}
use Rattle.rv_alu.specs.declared.causes.Cause.{Cause}
use Rattle.rv_alu.specs.declared.causes.Cause.TheVariants.{Misaligned, FetchAccess, LoadAccess, StoreAccess}
use Rattle.rv_alu.specs.Effects.{effect_of, bytes, put}
use Rattle.rv_alu.specs.declared.effects.Effect.{Effect}
use Rattle.rv_alu.specs.declared.effects.Effect.TheVariants.{Pass, Set, Jump, Load, Store, Csr, Call, Break, Return, Wait}
use Rattle.rv_hart.specs.HartStep.{System, after_step}
use Rattle.kernel_sim.specs.UserMode.{seen}
use Rattle.plain_machine.specs.UserStep.{UserState, UserStep, next, call, trap, unless, outside, effect_step, insn_step, word_at, user_step}

abbrev pub Good : UserStep → Type 0
Good (next state) = state.pc % instruction_alignment ≡ 0
Good call = ⊤
Good (trap cause value) = (cause_number cause ≢ 8) × (cause_number cause ≡ 2 → value < 2 ^ 32)

-- a user step on a hart over its bus, with the trap that it may be
abbrev pub seen_by : UserStep → System → System
seen_by step system = after_step system (seen step system)

four-fits : (m : List ℕ) (place : ℕ) → AreBytes m → load m place 4 < 2 ^ 32
unfolding load
four-fits m place all = little_from-lt 0 4 (drop place m) (λ k. let here = all (place + k) in grind (arith, common_steps))

good-unless : (o : Option ℕ) (cause : Cause) (step : UserStep) → cause_number cause ≢ 8 → cause_number cause ≢ 2 → Good step → Good (unless o cause step)
good-unless (Some byte) cause step a b g = (a, λ e. absurd (b e))
good-unless None cause step a b g = g

jump-good : (even : Bool) (rd target after : ℕ) (state : UserState) → (target % instruction_alignment == 0) ≡ even
    → Good (if even then next (record state { pc = target; registers = put state.registers rd after }) else trap Misaligned target)
jump-good true rd target after state e = eqb-true (target % instruction_alignment) 0 e
jump-good false rd target after state e = (omega arith, λ q. absurd (let z : 0 ≡ 2 = q in omega arith))

good-effect : (effect : Effect) (bits after : ℕ) (state : UserState) → bits < 2 ^ 32 → after % instruction_alignment ≡ 0 → Good (effect_step effect bits after state)
unfolding effect_step
good-effect Pass bits after state b e = e
good-effect (Set rd value) bits after state b e = e
good-effect (Jump rd target) bits after state b e = jump-good (target % instruction_alignment == 0) rd target after state refl
good-effect (Load rd size extends at) bits after state b e = good-unless (outside at (bytes size)) LoadAccess _ (omega arith) (omega arith) e
good-effect (Store size at value) bits after state b e = good-unless (outside at (bytes size)) StoreAccess _ (omega arith) (omega arith) e
good-effect (Csr rd csr op value writes) bits after state b e = (omega arith, λ q. b)
good-effect Call bits after state b e = tt
good-effect Break bits after state b e = (omega arith, λ q. absurd (let z : 3 ≡ 2 = q in omega arith))
good-effect Return bits after state b e = (omega arith, λ q. b)
good-effect Wait bits after state b e = (omega arith, λ q. b)

good-insn : (insn : Option Insn) (bits : ℕ) (state : UserState) → bits < 2 ^ 32 → state.pc % instruction_alignment ≡ 0 → Good (insn_step insn bits 4 state)
good-insn (Some insn) bits state b e = good-effect (effect_of insn state.pc state.registers) bits ((state.pc + 4) % 2 ^ 64) state b (omega arith)
good-insn None bits state b e = (omega arith, λ q. b)

pub good-step : (state : UserState) → AreBytes state.user → state.pc % instruction_alignment ≡ 0 → Good (user_step state)
good-step state all e =
    let fits = four-fits state.user (state.pc - user_start) all in
    good-unless (outside state.pc 4) FetchAccess (insn_step (insn_of (word_at state)) (word_at state) 4 state) (omega arith) (omega arith) (good-insn (insn_of (word_at state)) (word_at state) state fits e)
