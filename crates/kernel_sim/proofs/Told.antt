-- What the laws of the stages tell of a step, and of the kernel part of the call, for the clauses to be read from.
use Rattle.std.specs.Prelude.{◌+◌, ◌≡◌, ◌≢◌, ◌⊎◌, ℕ, ⊤, List, length, slice_index, slice_set}
use Rattle.fe_base.specs.MemoryMap.{tohost, request, kernel_variables, boot}
use Rattle.guest_memory.specs.Bus.{BusState}
use Rattle.rv_hart.specs.HartStep.{System}
use Rattle.plain_machine.specs.KernelPart.{gives, breaks, posts, scans, first_part}
use Rattle.plain_machine.specs.UserStep.{UserState as ProgramState, next, user_step}
use Rattle.kernel_sim.specs.UserMode.{user_of}
use Rattle.kernel_sim.specs.declared.phase.PhaseKind.{PhaseKind}
use Rattle.kernel_sim.specs.declared.phase.PhaseKind.TheVariants.{Boot, BootWait, BootTake, Leave, User, Save, Scan, Fill, Wait, Take, Local, Restore, Closing}
use Rattle.kernel_sim.specs.declared.phase.Phase.{Phase}
use Rattle.kernel_sim.specs.Phases.{message, dword, request_of}
use Rattle.kernel_sim.specs.Rows.{call_part, IsAnswer, boot_request}
use Rattle.kernel_sim.specs.Changes.{entry_registers}
use Rattle.kernel_sim.specs.Traps.{TrapTold}

-- what is told of a step from one kind to another: the program makes the direct machine's user step, requests are posted by the store of their address to TOHOST, an answer is awaited, and Restore begins with the answer in a0; the break is the answer of brk, and stays in other calls
abbrev pub Told : PhaseKind → PhaseKind → Phase → System → System → Type 0
Told Boot BootWait p old new = (request_of new.bus ≡ boot_request) × (dword new.bus tohost ≡ request) × (dword new.bus kernel_variables ≡ dword new.bus (boot + 8))
Told BootWait BootTake p old new = p.fromhost ≢ 0
Told Leave User p old new = (new.hart.pc ≡ dword old.bus boot) × (new.hart.registers ≡ entry_registers)
Told User User p old new = (state : ProgramState) × (user_step (user_of old) ≡ next state) × (new.hart.pc ≡ state.pc) × (new.hart.registers ≡ state.registers) × (new.bus.user ≡ state.user)
Told User Save p old new = TrapTold old new × (new.bus.user ≡ old.bus.user)
Told Fill Wait p old new = (call_part p old.bus.user ≡ posts (request_of new.bus)) × (dword new.bus tohost ≡ request)
Told Wait Take p old new = p.fromhost ≢ 0
Told Take Restore p old new = (slice_index new.hart.registers 10 ≡ dword new.bus request) × (dword new.bus kernel_variables ≡ p.user.brk)
Told Local Restore p old new =
    ((call_part p old.bus.user ≡ gives (slice_index new.hart.registers 10)) × (dword new.bus kernel_variables ≡ p.user.brk))
    ⊎ ((call_part p old.bus.user ≡ breaks (slice_index new.hart.registers 10)) × (dword new.bus kernel_variables ≡ slice_index new.hart.registers 10))
Told _ _ p old new = ⊤

-- what the kernel part of the call is in the phases that it decides between; Wait's request was posted, and its first doubleword alone may differ since; with Closing the whole text was posted
abbrev pub PartIs : PhaseKind → Phase → BusState → Type 0
PartIs Scan p bus = first_part p.user.regs p.user.brk p.user.first_break ≡ scans
PartIs Local p bus = (answer : ℕ) × IsAnswer p bus.user answer
PartIs Fill p bus = (words : List ℕ) × (call_part p bus.user ≡ posts words)
PartIs Wait p bus = (user : List ℕ) × (first : ℕ) × (call_part p user ≡ posts (slice_set p.request 0 first))
PartIs Closing p bus = p.text.posted ≡ length (message p.text)
PartIs _ p bus = ⊤
