-- What holds in each phase, row by row: of the hart, of the kernel area, and of the fields of the phase.
use Rattle.std.specs.Prelude.{◌≡◌, ◌≢◌, ◌⊎◌, ℕ, ◌+◌, ◌*◌, ◌%◌, ◌^◌, ◌<◌, ◌≤◌, ◌==◌, ◌&&◌, ⊤, true, false, List, [], ◌∷◌}
use Rattle.std.specs.Prelude.{length, slice_index, slice_set}
use Rattle.fe_base.specs.MemoryMap.{tohost, fromhost, frame, boot, kernel_variables}
use Rattle.guest_memory.specs.Bus.{BusState}
use Rattle.rv_csr.specs.declared.privilege.Mode.{Mode}
use Rattle.rv_csr.specs.declared.privilege.Mode.TheVariants as mode
use Rattle.rv_hart.specs.HartStep.{System}
use Rattle.rv_hart.specs.declared.debug.Run.TheVariants.{Running}
use Rattle.plain_machine.specs.UserStep.{is_user}
use Rattle.plain_machine.specs.Messages.{is_counter_access}
use Rattle.plain_machine.specs.KernelPart.{Part, gives, breaks, posts, scans, first_part, kernel_part, greatest_path}
use Rattle.plain_machine.specs.KernelPart.{user_byte}
use Rattle.kernel_code.specs.Kernel.{IsImage}
use Rattle.kernel_code.specs.Places.{pc_save}
use Rattle.kernel_sim.specs.UserMode.{IsFenced}
use Rattle.kernel_sim.specs.declared.phase.PhaseKind.{PhaseKind}
use Rattle.kernel_sim.specs.declared.phase.PhaseKind.TheVariants.{Boot, BootWait, BootTake, Leave, User, Save, Check}
use Rattle.kernel_sim.specs.declared.phase.PhaseKind.TheVariants.{Scan, Fill, Wait, Take, Local, Restore, Speak}
use Rattle.kernel_sim.specs.declared.phase.PhaseKind.TheVariants.{Closing}
use Rattle.kernel_sim.specs.declared.phase.Phase.{Phase}
use Rattle.kernel_sim.specs.Phases.{dword, request_of, message}
use Rattle.kernel_sim.specs.Mail.{mail_class, MailIs}

-- user mode in User, machine mode in every other phase
abbrev pub mode_of : PhaseKind → Mode
mode_of User = mode.User
mode_of _ = mode.Machine

-- every phase: the hart runs, in the mode of the phase; the code is the image; TOHOST, FROMHOST and REQUEST hold the
-- fields of those names; in User, and where nothing is asked or told, the first two hold 0
pub record InEvery (p : Phase) (sys : System) : Type 0 where
  pub running : sys.hart.run ≡ Running
  pub mode_is : sys.hart.mode ≡ mode_of p.kind
  pub image : IsImage sys.bus.kernel
  pub tohost_is : p.tohost ≡ dword sys.bus tohost
  pub fromhost_is : p.fromhost ≡ dword sys.bus fromhost
  pub request_is : p.request ≡ request_of sys.bus
  pub mailbox : MailIs (mail_class p.kind) p.tohost p.fromhost

-- every phase after Boot: mtvec and the PMP are set, and the kernel's break and first break are those of the phase
pub record IsSet (p : Phase) (sys : System) : Type 0 where
  pub handler : sys.hart.csrs.mtvec ≡ pc_save
  pub fenced : IsFenced sys.hart.csrs
  pub break_is : p.user.brk ≡ dword sys.bus kernel_variables
  pub first_is : p.user.first_break ≡ dword sys.bus (boot + 8)

-- mscratch holds FRAME's address
abbrev pub HasScratch : System → Type 0
HasScratch sys = sys.hart.csrs.mscratch ≡ frame

-- mscratch holds FRAME's address or one of the program's registers
abbrev pub MayHaveScratch : Phase → System → Type 0
MayHaveScratch p sys = HasScratch sys ⊎ ((n : ℕ) × (n < 32) × (sys.hart.csrs.mscratch ≡ slice_index p.user.regs n))

-- what is set, by the phase
abbrev pub SetRow : PhaseKind → Phase → System → Type 0
SetRow Boot p sys = ⊤
SetRow Save p sys = IsSet p sys × MayHaveScratch p sys
SetRow _ p sys = IsSet p sys × HasScratch sys

-- ---- the program's registers
-- register n in FRAME
abbrev pub in_frame : BusState → ℕ → ℕ
in_frame bus n = dword bus (frame + 8 * n)

-- FRAME holds the program's registers
abbrev pub InFrame : Phase → System → Type 0
InFrame p sys = (n : ℕ) → 0 < n → n < 32 → in_frame sys.bus n ≡ slice_index p.user.regs n

-- each register of the program is in its own place in the hart, in mscratch or in FRAME
abbrev pub IsSaved : Phase → System → Type 0
IsSaved p sys =
    (n : ℕ) → 0 < n → n < 32
    → (slice_index sys.hart.registers n ≡ slice_index p.user.regs n)
    ⊎ ((sys.hart.csrs.mscratch ≡ slice_index p.user.regs n) ⊎ (in_frame sys.bus n ≡ slice_index p.user.regs n))

-- each register of the program is restored or in FRAME; a0 is the answer
pub record IsRestored (p : Phase) (sys : System) : Type 0 where
  pub each : (n : ℕ) → 0 < n → n < 32
      → (slice_index sys.hart.registers n ≡ slice_index p.user.regs n)
      ⊎ (in_frame sys.bus n ≡ slice_index p.user.regs n)
  pub answer : slice_index sys.hart.registers 10 ≡ slice_index p.user.regs 10

-- ---- the trap
-- the message tells the trap that the hart took, which is no call
pub record TellsTrap (p : Phase) (sys : System) : Type 0 where
  pub no_call : sys.hart.csrs.mcause ≢ 8
  pub counter_is : p.text.counter ≡ ((sys.hart.csrs.mcause == 2) && is_counter_access sys.hart.csrs.mtval)
  pub cause_is : p.text.cause ≡ sys.hart.csrs.mcause
  pub at_is : p.text.at ≡ sys.hart.csrs.mepc
  pub value_is : p.text.value ≡ sys.hart.csrs.mtval

-- a call, or a trap that the message tells and of which nothing was posted
abbrev pub IsCallOrTrap : Phase → System → Type 0
IsCallOrTrap p sys = (sys.hart.csrs.mcause ≡ 8) ⊎ (TellsTrap p sys × (p.text.posted ≡ 0))

-- a call of the program, whose registers FRAME holds
pub record InCall (p : Phase) (sys : System) : Type 0 where
  pub call : sys.hart.csrs.mcause ≡ 8
  pub at_is : sys.hart.csrs.mepc ≡ p.user.pc
  pub registers : InFrame p sys

-- the kernel part of the call that the program makes, over these user bytes
abbrev pub call_part : Phase → List ℕ → Part
call_part p user = kernel_part p.user.regs user p.user.brk p.user.first_break

-- the kernel answers the call itself, by the break where it is brk
abbrev pub IsAnswer : Phase → List ℕ → ℕ → Type 0
IsAnswer p user answer = (call_part p user ≡ gives answer) ⊎ (call_part p user ≡ breaks answer)

-- byte k of the path that a1 points to is a user byte and no NUL
abbrev pub IsPathByte : Phase → List ℕ → ℕ → Type 0
IsPathByte p user k =
    (is_user ((slice_index p.user.regs 11 + k) % 2 ^ 64) ≡ true)
    × ((user_byte user ((slice_index p.user.regs 11 + k) % 2 ^ 64) == 0) ≡ false)

-- the request that the kernel posts before the program starts: the main vars, at 0x0100_0000, of at most 65,536 bytes
abbrev pub boot_request : List ℕ
boot_request = 2011 ∷ 0x1000000 ∷ 65536 ∷ 0 ∷ 0 ∷ 0 ∷ 0 ∷ 0 ∷ []

-- ---- the rows
-- what holds in each phase besides
abbrev pub Row : PhaseKind → Phase → System → Type 0
Row Boot p sys = ⊤
-- the request was posted, and only its first doubleword may differ since
Row BootWait p sys = slice_set p.request 0 2011 ≡ boot_request
Row BootTake p sys = ⊤
Row Leave p sys = ⊤
Row User p sys = (sys.hart.pc ≡ p.user.pc) × (sys.hart.registers ≡ p.user.regs)
Row Save p sys = (sys.hart.csrs.mepc ≡ p.user.pc) × IsSaved p sys × IsCallOrTrap p sys
Row Check p sys = (sys.hart.csrs.mepc ≡ p.user.pc) × InFrame p sys × IsCallOrTrap p sys
-- the call has a path, of which so many bytes were passed, no more than a path has
Row Scan p sys =
    InCall p sys
    × (first_part p.user.regs p.user.brk p.user.first_break ≡ scans)
    × ((k : ℕ) → k < p.scanned → IsPathByte p sys.bus.user k)
    × (p.scanned ≤ greatest_path)
-- the call posts a request
Row Fill p sys = InCall p sys × ((words : List ℕ) × (call_part p sys.bus.user ≡ posts words))
-- the request was posted, and only its first doubleword may differ since
Row Wait p sys =
    InCall p sys
    × ((user : List ℕ) × (number : ℕ) × (call_part p user ≡ posts (slice_set p.request 0 number)))
Row Take p sys = InCall p sys
-- the kernel answers the call itself
Row Local p sys = InCall p sys × ((answer : ℕ) × IsAnswer p sys.bus.user answer)
-- the program's state has the answer in a0, and its pc stands behind the call, to which mepc moves on
Row Restore p sys =
    (sys.hart.csrs.mcause ≡ 8)
    × ((sys.hart.csrs.mepc ≡ p.user.pc) ⊎ ((sys.hart.csrs.mepc + 4) % 2 ^ 64 ≡ p.user.pc))
    × IsRestored p sys
Row Speak p sys = TellsTrap p sys × (p.text.posted ≤ length (message p.text))
Row Closing p sys = TellsTrap p sys × (p.text.posted ≡ length (message p.text))
