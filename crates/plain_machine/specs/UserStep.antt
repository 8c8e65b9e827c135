-- The user step: one instruction on pc, 32 registers and the user bytes.
use Rattle.std.specs.Prelude.{◌≡◌, ℕ, ◌+◌, ◌-◌, ◌%◌, ◌^◌, ◌==◌, ⊤, if◌then◌else◌, Bool, true, false, List, Option, Some}
use Rattle.std.specs.Prelude.{None, refl}
use Rattle.std.proofs.Common.{zero, suc, add-one, ap}
use Rattle.fe_base.specs.ByteRanges.{first_failing, is_between}
use Rattle.fe_base.specs.MemoryMap.{user_start, user_end}
use Rattle.guest_memory.specs.Memory.{load, store}
use Rattle.rv_decode.specs.Alignment.{instruction_alignment}
use Rattle.rv_decode.specs.InsnTable.{insn_of}
use Rattle.rv_decode.specs.declared.instruction.Insn.{Insn}
use Rattle.rv_alu.specs.Effects.{effect_of, bytes, loaded, put, read}
use Rattle.rv_alu.specs.declared.causes.Cause.{Cause}
use Rattle.rv_alu.specs.declared.causes.Cause.TheVariants.{Misaligned, FetchAccess, Illegal, Breakpoint, LoadAccess}
use Rattle.rv_alu.specs.declared.causes.Cause.TheVariants.{StoreAccess}
use Rattle.rv_alu.specs.declared.effects.Effect.{Effect}
use Rattle.rv_alu.specs.declared.effects.Size.{Size}
use Rattle.rv_alu.specs.declared.effects.Effect.TheVariants.{Pass, Set, Jump, Load, Store, Csr, Call, Break, Return}
use Rattle.rv_alu.specs.declared.effects.Effect.TheVariants.{Wait}
use Rattle.plain_machine.specs.declared.cpu.Outcome.{Outcome}
use Rattle.plain_machine.specs.declared.cpu.Outcome.TheVariants.{Moved, Called, Trapped}

-- what a user program sees of the hart: pc, the 32 registers, and the bytes of the user area
pub record UserState : Type 0 where
  pub pc : ℕ
  pub registers : List ℕ
  pub user : List ℕ

-- what a user step gives: a next state, a call, or a trap with its cause and value
pub data UserStep : Type 0 where
  next : UserState → UserStep
  call : UserStep
  trap : Cause → ℕ → UserStep

-- register n
abbrev pub register : UserState → ℕ → ℕ
register state n = read state.registers n

-- a byte of the user area
abbrev pub is_user : ℕ → Bool
is_user at = is_between user_start user_end at

-- the first of so many bytes from an address on that is not of the user area
unfoldable pub outside : ℕ → ℕ → Option ℕ
outside at count = first_failing is_user at count

-- a trap of this cause at the byte that is outside, or else the step
abbrev pub unless : Option ℕ → Cause → UserStep → UserStep
unless (Some byte) cause step = trap cause byte
unless None cause step = step

-- the number of so many user bytes from an address on
abbrev pub user_load : UserState → ℕ → ℕ → ℕ
user_load state at count = load state.user (at - user_start) count

-- a load to a register, with the next instruction at `after` (Unprivileged ISA, RV64I, Load and Store Instructions)
abbrev pub load_step : ℕ → Size → Bool → ℕ → ℕ → UserState → UserStep
load_step rd size extends at after state =
    unless (outside at (bytes size)) LoadAccess
    (next (record state {
      pc = after;
      registers = put state.registers rd (loaded size extends (user_load state at (bytes size)));
    }))

-- a store of a number, with the next instruction at `after` (Unprivileged ISA, RV64I, Load and Store Instructions)
abbrev pub store_step : Size → ℕ → ℕ → ℕ → UserState → UserStep
store_step size at value after state =
    unless (outside at (bytes size)) StoreAccess
    (next (record state { pc = after; user = store state.user (at - user_start) (bytes size) value }))

-- an effect carried out, for an instruction of these bits, with the next one at `after` (Unprivileged ISA, 2.5 to 2.8;
-- Privileged
-- Architecture, 3.1.15 and 3.1.16 for the causes and values of traps)
unfoldable pub effect_step : Effect → ℕ → ℕ → UserState → UserStep
effect_step Pass bits after state = next (record state { pc = after })
effect_step (Set rd value) bits after state =
    next (record state { pc = after; registers = put state.registers rd value })
effect_step (Jump rd target) bits after state =
    if target % instruction_alignment == 0
    then next (record state { pc = target; registers = put state.registers rd after })
    else trap Misaligned target
effect_step (Load rd size extends at) bits after state = load_step rd size extends at after state
effect_step (Store size at value) bits after state = store_step size at value after state
effect_step (Csr rd csr op value writes) bits after state = trap Illegal bits
effect_step Call bits after state = call
effect_step Break bits after state = trap Breakpoint state.pc
effect_step Return bits after state = trap Illegal bits
effect_step Wait bits after state = trap Illegal bits

-- the instruction of these bits and this length, if there is one, done at pc
abbrev pub insn_step : Option Insn → ℕ → ℕ → UserState → UserStep
insn_step (Some insn) bits length state =
    effect_step (effect_of insn state.pc state.registers) bits ((state.pc + length) % 2 ^ 64) state
insn_step None bits length state = trap Illegal bits

-- the word at pc
abbrev pub word_at : UserState → ℕ
word_at state = user_load state state.pc 4

-- the user step: the instruction is the four user bytes at pc
abbrev pub user_step : UserState → UserStep
user_step state = unless (outside state.pc 4) FetchAccess (insn_step (insn_of (word_at state)) (word_at state) 4 state)

-- the user step that this outcome, with the state after it, stands for
abbrev pub step_of : Outcome → UserState → UserStep
step_of Moved new = next new
step_of Called new = call
step_of (Trapped trapped) new = trap trapped.cause trapped.value

-- where the step did not move, the state is as it was
abbrev pub Stays : Outcome → UserState → UserState → Type 0
Stays Moved old new = ⊤
Stays Called old new = new ≡ old
Stays (Trapped trapped) old new = new ≡ old

-- a user step moves on: it is no call and no trap
abbrev pub moves : UserStep → Bool
moves (next moved) = true
moves call = false
moves (trap cause value) = false

-- the state after a user step: its next state; a call and a trap leave the state as it was
abbrev pub state_after : UserStep → UserState → UserState
state_after (next moved) state = moved
state_after call state = state
state_after (trap cause value) state = state

-- the state after so many user steps; the first call or trap is where it stays
unfoldable pub walked : ℕ → UserState → UserState
walked zero state = state
walked (suc n) state = state_after (user_step (walked n state)) (walked n state)

-- after no step the state is the first one
pub walked-zero : (state : UserState) → walked 0 state ≡ state
unfolding walked
walked-zero state = refl

-- one step more is the step of the state reached
pub walked-next : (n : ℕ) (state : UserState)
    → walked (n + 1) state ≡ state_after (user_step (walked n state)) (walked n state)
unfolding walked
walked-next n state = ap (λ k. walked k state) (add-one n)
