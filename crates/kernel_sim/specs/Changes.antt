-- Which fields of a phase a step changes, and how; all others stay.
use Rattle.std.specs.Prelude.{◌≡◌, ◌≢◌, ◌⊎◌, ⊤, ℕ, ◌+◌, ◌<◌, ◌≤◌, ◌==◌, ◌&&◌, List, ◌∷◌, length, replicate, slice_index}
use Rattle.fe_base.specs.Memory.{counted}
use Rattle.fe_base.specs.MemoryMap.{boot, kernel_code_size}
use Rattle.guest_memory.specs.Bus.{BusState}
use Rattle.guest_memory.specs.Memory.{load}
use Rattle.rv_alu.specs.Causes.{cause_number}
use Rattle.rv_alu.specs.declared.causes.Cause.{Cause}
use Rattle.rv_hart.specs.HartStep.{HartState, System}
use Rattle.plain_machine.specs.UserStep.{UserState as ProgramState, next, call, trap, user_step}
use Rattle.plain_machine.specs.Messages.{is_counter_access}
use Rattle.plain_machine.specs.KernelPart.{gives, breaks}
use Rattle.kernel_sim.specs.UserMode.{user_of}
use Rattle.kernel_sim.specs.declared.phase.PhaseKind.{PhaseKind}
use Rattle.kernel_sim.specs.declared.phase.PhaseKind.TheVariants.{Boot, BootWait, Leave, User, Save, Check, Scan}
use Rattle.kernel_sim.specs.declared.phase.PhaseKind.TheVariants.{Wait, Take, Local, Restore, Speak, Closing}
use Rattle.kernel_sim.specs.declared.phase.Phase.{Phase}
use Rattle.kernel_sim.specs.declared.phase.UserState.{UserState}
use Rattle.kernel_sim.specs.declared.phase.Spoken.{Spoken}
use Rattle.kernel_sim.specs.Phases.{dword, answered, message}
use Rattle.kernel_sim.specs.Rows.{call_part}

-- the registers with which the program begins: sp at 0x0100_0000, all others 0
abbrev pub entry_registers : List ℕ
entry_registers = 0 ∷ 0 ∷ 0x1000000 ∷ replicate 29 0

-- the program's state after a step from one kind to another
abbrev pub UserAfter : PhaseKind → PhaseKind → Phase → System → System → UserState → Type 0
-- the break and the first break become the boot block's first break
UserAfter Boot BootWait p old new u =
    u ≡ record p.user { brk = dword new.bus (boot + 8); first_break = dword new.bus (boot + 8) }
-- the program begins at the boot block's entry
UserAfter Leave User p old new u = u ≡ record p.user { pc = dword old.bus boot; regs = entry_registers }
-- a user step of the direct machine, user bytes included
UserAfter User User p old new u =
    (state : ProgramState)
    × (user_step (user_of old) ≡ next state)
    × (u ≡ record p.user { pc = state.pc; regs = state.registers })
    × (new.bus.user ≡ state.user)
-- a0 becomes the request's first doubleword, and the pc goes on behind the call
UserAfter Take Restore p old new u = u ≡ answered (slice_index p.request 0) p.user
-- a0 becomes the answer of the kernel part of the call, and with brk the break does
UserAfter Local Restore p old new u =
    (answer : ℕ)
    × (((call_part p old.bus.user ≡ gives answer) × (u ≡ answered answer p.user))
    ⊎ ((call_part p old.bus.user ≡ breaks answer) × (u ≡ record (answered answer p.user) { brk = answer })))
-- with brk the break may become the answer before
UserAfter Local Local p old new u =
    (u ≡ p.user) ⊎ ((call_part p old.bus.user ≡ breaks u.brk) × (u ≡ record p.user { brk = u.brk }))
UserAfter was now p old new u = u ≡ p.user

-- the message of a trap that the program takes
abbrev pub spoken_of : Cause → ℕ → ℕ → Spoken
spoken_of cause value at = record {
  counter = (cause_number cause == 2) && is_counter_access value;
  cause = cause_number cause;
  at = at;
  value = value;
  posted = 0;
}

-- the message after a step from one kind to another: a trap that is no call sets it, and in Speak it is posted byte by
-- byte
abbrev pub TextAfter : PhaseKind → PhaseKind → Phase → System → Spoken → Type 0
TextAfter User Save p old t =
    ((user_step (user_of old) ≡ call) × (t ≡ p.text))
    ⊎ ((cause : Cause)
    × (value : ℕ)
    × (user_step (user_of old) ≡ trap cause value)
    × (t ≡ spoken_of cause value p.user.pc))
TextAfter Speak Speak p old t = t ≡ record p.text { posted = t.posted }
TextAfter was now p old t = t ≡ p.text

-- the path bytes that were passed, after a step from one kind to another
abbrev pub ScannedAfter : PhaseKind → PhaseKind → ℕ → ℕ → Type 0
ScannedAfter Check Scan old new = new ≡ 0
ScannedAfter Scan Scan old new = (new ≡ old) ⊎ (new ≡ old + 1)
ScannedAfter was now old new = new ≡ old

-- the hart's count of user steps rises in the steps from User, and in no other
abbrev pub StepsCounted : PhaseKind → HartState → HartState → Type 0
StepsCounted User old new = new.user_steps ≡ counted old.user_steps
StepsCounted was old new = new.user_steps ≡ old.user_steps

-- TOHOST stays as it was, and so does the message, with what was posted of it
abbrev pub PutsNone : Phase → Phase → Type 0
PutsNone p q = (q.tohost ≡ p.tohost) × (q.text ≡ p.text)

-- a wait goes on while its word is not there: the waits for FROMHOST are left only where it is not 0, Speak only once
-- the whole message was stored, and Closing never; while TOHOST is not 0, these two store nothing to it
abbrev pub Waits : PhaseKind → Phase → Phase → Type 0
Waits BootWait p q = p.fromhost ≡ 0 → q.kind ≡ BootWait
Waits Wait p q = p.fromhost ≡ 0 → q.kind ≡ Wait
Waits Speak p q = (p.text.posted < length (message p.text) → q.kind ≡ Speak) × (p.tohost ≢ 0 → PutsNone p q)
Waits Closing p q = (q.kind ≡ Closing) × (p.tohost ≢ 0 → PutsNone p q)
Waits kind p q = ⊤

-- the bytes before the kernel's data, its code among them, stay
abbrev pub CodeKept : BusState → BusState → Type 0
CodeKept old new = (at width : ℕ) → at + width ≤ kernel_code_size → load new.kernel at width ≡ load old.kernel at width
