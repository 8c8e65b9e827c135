-- The phase after a step.
use Rattle.std.specs.Prelude.{ℕ, ◌+◌, ◌-◌, ◌%◌, ◌^◌, ◌==◌, ◌&&◌, min, nat_lt, nat_le, Bool, if◌then◌else◌, List, []}
use Rattle.std.specs.Prelude.{◌∷◌, slice_index, slice_set}
use Rattle.guest_memory.specs.Bus.{BusState, bus_load}
use Rattle.rv_csr.specs.declared.privilege.Mode.{Mode}
use Rattle.rv_csr.specs.declared.privilege.Mode.TheVariants as mode
use Rattle.rv_hart.specs.HartStep.{HartState, System}
use Rattle.plain_machine.specs.Messages.{is_counter_access, trap_text, counter_text}
use Rattle.kernel_sim.specs.declared.phase.PhaseKind.{PhaseKind}
use Rattle.kernel_sim.specs.declared.phase.PhaseKind.TheVariants.{Boot, BootWait, BootTake, Leave, User, Save, Check}
use Rattle.kernel_sim.specs.declared.phase.PhaseKind.TheVariants.{Scan, Fill, Wait, Take, Local, Restore, Speak}
use Rattle.kernel_sim.specs.declared.phase.PhaseKind.TheVariants.{Closing}
use Rattle.kernel_sim.specs.declared.phase.Phase.{Phase}
use Rattle.kernel_sim.specs.declared.phase.UserState.{UserState}
use Rattle.kernel_sim.specs.declared.phase.Spoken.{Spoken}
use Rattle.kernel_code.specs.Places.{pc_boot_wait, pc_boot_take, pc_leave, pc_save, pc_check, pc_scan, pc_local}
use Rattle.kernel_code.specs.Places.{pc_fill, pc_wait, pc_take, pc_restore, pc_speak, pc_close, pc_put_done}
use Rattle.kernel_code.specs.Places.{pc_path_passed}
use Rattle.fe_base.specs.MemoryMap.{kernel_start, request, kernel_variables, boot, tohost, fromhost, kernel_end}

-- the kind that a place of the kernel's code belongs to
unfoldable pub kernel_kind : ℕ → PhaseKind
kernel_kind pc =
    if nat_lt pc pc_boot_wait then Boot
    else if nat_lt pc pc_boot_take then BootWait
    else if nat_lt pc pc_leave then BootTake
    else if nat_lt pc pc_save then Leave
    else if nat_lt pc pc_check then Save
    else if nat_lt pc pc_scan then Check
    else if nat_lt pc pc_local then Scan
    else if nat_lt pc pc_fill then Local
    else if nat_lt pc pc_wait then Fill
    else if nat_lt pc pc_take then Wait
    else if nat_lt pc pc_restore then Take
    else if nat_lt pc pc_speak then Restore
    else if nat_lt pc pc_close then Speak
    else Closing

-- the kind of the place at which a hart stands in a mode: the program runs in user mode, the kernel in machine mode
abbrev pub kind_of : Mode → ℕ → PhaseKind
kind_of mode.User pc = User
kind_of mode.Machine pc = kernel_kind pc

-- a doubleword of the kernel area
abbrev pub dword : BusState → ℕ → ℕ
dword bus at = bus_load bus at 8

-- the address of a doubleword of the kernel area
abbrev pub is_dword : ℕ → Bool
is_dword at = nat_le kernel_start at && nat_le (at + 8) kernel_end

-- REQUEST's eight doublewords
abbrev pub request_of : BusState → List ℕ
request_of bus =
    dword bus request ∷ dword bus (request + 8) ∷ dword bus (request + 16) ∷ dword bus (request + 24)
    ∷ dword bus (request + 32) ∷ dword bus (request + 40) ∷ dword bus (request + 48) ∷ dword bus (request + 56) ∷ []

-- an answer in a0, at the next instruction
abbrev pub answered : ℕ → UserState → UserState
answered answer u = record u { pc = (u.pc + 4) % 2 ^ 64; regs = slice_set u.regs 10 answer }

-- the program's registers and break after a step from one kind to another
abbrev pub user_after : PhaseKind → PhaseKind → UserState → System → UserState
user_after Boot BootWait u sys =
    record u { brk = dword sys.bus kernel_variables; first_break = dword sys.bus (boot + 8) }
user_after User User u sys = record u { pc = sys.hart.pc; regs = sys.hart.registers }
user_after Leave User u sys = record u { pc = sys.hart.pc; regs = sys.hart.registers }
user_after Take Restore u sys =
    record (answered (slice_index sys.hart.registers 10) u) { brk = dword sys.bus kernel_variables }
user_after Local Restore u sys =
    record (answered (slice_index sys.hart.registers 10) u) { brk = dword sys.bus kernel_variables }
user_after Local Local u sys = record u { brk = dword sys.bus kernel_variables }
user_after _ _ u sys = u

-- the message after a step from one kind to another
abbrev pub text_after : PhaseKind → PhaseKind → Phase → HartState → Spoken
text_after User Save p hart =
    if hart.csrs.mcause == 8 then p.text
    else record {
      counter = (hart.csrs.mcause == 2) && is_counter_access hart.csrs.mtval;
      cause = hart.csrs.mcause;
      at = p.user.pc;
      value = hart.csrs.mtval;
      posted = 0;
    }
text_after Speak Speak p hart =
    record p.text { posted = if hart.pc == pc_put_done then min (p.text.posted + 1) (2 ^ 32 - 1) else p.text.posted }
text_after _ _ p hart = p.text

-- the count of scanned bytes after a step from one kind to another, which led to this place
abbrev pub scanned_after : PhaseKind → PhaseKind → ℕ → ℕ → ℕ
scanned_after Scan Scan scanned pc = if pc == pc_path_passed then min (scanned + 1) (2 ^ 32 - 1) else scanned
scanned_after Check Scan scanned pc = 0
scanned_after _ _ scanned pc = scanned

-- the bytes of a message
abbrev pub message : Spoken → List ℕ
message text = if text.counter then counter_text text.at else trap_text text.cause text.at text.value

-- the command to device 1 that puts a byte on the console
abbrev pub console_word : ℕ → ℕ
console_word byte = (byte + 0x0101000000000000) % 2 ^ 64

-- the phase after a step from a kind to a kind that led to sys
abbrev pub phase_from : PhaseKind → PhaseKind → Phase → System → Phase
phase_from was now p sys = record {
  kind = now;
  user = user_after was now p.user sys;
  tohost = dword sys.bus tohost;
  fromhost = dword sys.bus fromhost;
  request = request_of sys.bus;
  scanned = scanned_after was now p.scanned sys.hart.pc;
  text = text_after was now p sys.hart;
}

-- the kind of the place at which a hart stands
abbrev pub kind_now : System → PhaseKind
kind_now sys = kind_of sys.hart.mode sys.hart.pc

-- the phase after a step that led to sys
abbrev pub next_phase : Phase → System → Phase
next_phase p sys = phase_from p.kind (kind_now sys) p sys
