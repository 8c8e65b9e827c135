-- What is known in each phase beside the rows: at which place of the kernel's code the hart is, and what holds there in
-- terms of the numbers at the program's trap. A phase has several stages, since more is known behind a load, behind its
-- test, or behind a byte that was stored.
use Rattle.std.specs.Prelude.{◌≡◌, ◌≢◌, ◌⊎◌, ℕ, ◌+◌, ◌-◌, ◌*◌, ◌%◌, ◌^◌, ◌<◌, ◌==◌, ◌&&◌, ⊤, nat_lt, Bool, true, false}
use Rattle.std.specs.Prelude.{if◌then◌else◌, List, [], ◌∷◌, length, slice_index}
use Rattle.guest_memory.specs.Memory.{load}
use Rattle.rv_decode.specs.Alignment.{instruction_alignment}
use Rattle.rv_csr.specs.declared.privilege.Mode.TheVariants as mode
use Rattle.rv_hart.specs.HartStep.{System}
use Rattle.rv_hart.specs.declared.debug.Run.TheVariants.{Running}
use Rattle.plain_machine.specs.Messages.{is_counter_access}
use Rattle.kernel_sim.specs.UserMode.{IsFenced}
use Rattle.kernel_sim.specs.declared.phase.PhaseKind.{PhaseKind}
use Rattle.kernel_sim.specs.declared.phase.PhaseKind.TheVariants.{Boot, BootWait, BootTake, Leave, User, Save, Check}
use Rattle.kernel_sim.specs.declared.phase.PhaseKind.TheVariants.{Scan, Fill, Wait, Take, Local, Restore, Speak}
use Rattle.kernel_sim.specs.declared.phase.PhaseKind.TheVariants.{Closing}
use Rattle.kernel_sim.specs.declared.phase.Phase.{Phase}
use Rattle.kernel_sim.specs.declared.phase.UserState.{UserState}
use Rattle.kernel_sim.specs.declared.phase.Spoken.{Spoken}
use Rattle.kernel_steps.specs.States.{CodeIs}
use Rattle.kernel_steps.specs.Blocks.{Here}
use Rattle.kernel_code.specs.Kernel.{kernel, blocks}
use Rattle.fe_base.specs.Limits.{greatest_break}
use Rattle.fe_base.specs.declared.error_numbers.ErrNo.TheVariants.{EFAULT, ENOSYS, ENAMETOOLONG}
use Rattle.plain_machine.specs.KernelPart.{Part, posts, scans, refused, direct_part, with_path, settled, scan}
use Rattle.plain_machine.specs.KernelPart.{user_byte, path_request, greatest_path}
use Rattle.plain_machine.specs.UserStep.{is_user}
use Rattle.kernel_sim.specs.Phases.{message, dword, request_of}
use Rattle.kernel_sim.specs.Mail.{mail_class, MailIs}
use Rattle.kernel_sim.specs.Ready.{need, NeedIs}
use Rattle.kernel_code.specs.Numbers.{counter_words, trap_words, saving_blocks, checking_blocks, starting_blocks}
use Rattle.kernel_code.specs.Numbers.{scanning_blocks, looked_blocks, passed_blocks, full_blocks, found_blocks}
use Rattle.kernel_code.specs.Numbers.{filling_blocks, waiting_blocks, tested_blocks, taking_blocks, no_call_blocks}
use Rattle.kernel_code.specs.Numbers.{outside_blocks, long_blocks, break_blocks, restoring_blocks, choosing_blocks}
use Rattle.kernel_code.specs.Numbers.{counter_end_blocks, trap_end_blocks, counter_idle_blocks, trap_idle_blocks}
use Rattle.kernel_code.specs.Numbers.{v_cause, v_value, v_pc, v_break, v_first_break, v_scanned, v_byte, v_word0}
use Rattle.kernel_code.specs.Numbers.{v_word1, v_word2, v_word3, v_word4, v_word5, v_length, v_fromhost, booting_blocks}
use Rattle.kernel_code.specs.Numbers.{boot_waiting_blocks, boot_tested_blocks, boot_taking_blocks, leaving_blocks}
use Rattle.kernel_code.specs.Numbers.{v_entry}
use Rattle.fe_base.specs.MemoryMap.{frame, tohost, fromhost, kernel_variables, boot}
use Rattle.kernel_code.specs.Places.{pc_save, first_break_place, break_place}

-- parts of a phase; the two last ones with the number of bytes that were posted
pub data Stage : Type 0 where
  Saving : Stage
  Checking : Stage
  Starting : Stage
  Scanning : Stage
  Looked : Stage
  Past : Stage
  Full : Stage
  Found : Stage
  Filling : Stage
  Waiting : Stage
  Tested : Stage
  Taking : Stage
  NoCall : Stage
  Outside : Stage
  Long : Stage
  Breaking : Stage
  Restoring : Stage
  Choosing : Stage
  Saying : Bool → ℕ → Stage
  Said : Bool → ℕ → Stage
  Ending : Bool → Stage
  Ended : Bool → Stage

-- the kind of phase that a stage is part of
abbrev pub stage_kind : Stage → PhaseKind
stage_kind Saving = Save
stage_kind Checking = Check
stage_kind Starting = Scan
stage_kind Scanning = Scan
stage_kind Looked = Scan
stage_kind Past = Scan
stage_kind Full = Scan
stage_kind Found = Fill
stage_kind Filling = Fill
stage_kind Waiting = Wait
stage_kind Tested = Wait
stage_kind Taking = Take
stage_kind NoCall = Local
stage_kind Outside = Local
stage_kind Long = Local
stage_kind Breaking = Local
stage_kind Restoring = Restore
stage_kind Choosing = Speak
stage_kind (Saying c t) = Speak
stage_kind (Said c t) = Speak
stage_kind (Ending c) = Closing
stage_kind (Ended c) = Closing

-- the numbers of a message's blocks begin there
abbrev pub base : Bool → ℕ
base true = counter_words
base false = trap_words

-- the number of a stage's blocks
abbrev pub stage_number : Stage → ℕ
stage_number Saving = saving_blocks
stage_number Checking = checking_blocks
stage_number Starting = starting_blocks
stage_number Scanning = scanning_blocks
stage_number Looked = looked_blocks
stage_number Past = passed_blocks
stage_number Full = full_blocks
stage_number Found = found_blocks
stage_number Filling = filling_blocks
stage_number Waiting = waiting_blocks
stage_number Tested = tested_blocks
stage_number Taking = taking_blocks
stage_number NoCall = no_call_blocks
stage_number Outside = outside_blocks
stage_number Long = long_blocks
stage_number Breaking = break_blocks
stage_number Restoring = restoring_blocks
stage_number Choosing = choosing_blocks
stage_number (Saying c t) = base c + 2 * t
stage_number (Said c t) = base c + 2 * t + 1
stage_number (Ending c) = if c then counter_end_blocks else trap_end_blocks
stage_number (Ended c) = if c then counter_idle_blocks else trap_idle_blocks

-- the trap that the message tells
pub record Says (text : Spoken) (env : ℕ → ℕ) : Type 0 where
  pub counter_is : text.counter ≡ ((env v_cause == 2) && is_counter_access (env v_value))
  pub cause_is : text.cause ≡ env v_cause
  pub at_is : text.at ≡ env v_pc
  pub value_is : text.value ≡ env v_value
  pub word_fits : env v_cause ≡ 2 → env v_value < 2 ^ 32

-- the kernel part of the call, by what the registers, the break and the first break held at the trap
abbrev pub direct : (ℕ → ℕ) → Part
direct env = direct_part (env 17) (env 10) (env 11) (env 12) (env 13) (env v_break) (env v_first_break)

-- and by its path, from a byte on, for so many bytes more
abbrev pub path_scan : (ℕ → ℕ) → List ℕ → ℕ → ℕ → Part
path_scan env user from more = settled (scan user (env 11) from more) (env 17) (env 10) (env 11) (env 12) (env 13)

-- the whole kernel part
abbrev pub part : (ℕ → ℕ) → List ℕ → Part
part env user = with_path (direct env) (path_scan env user 0 greatest_path)

-- a call, or a trap that the message tells
abbrev pub TrapIs : Phase → (ℕ → ℕ) → Type 0
TrapIs p env = (env v_cause ≡ 8) ⊎ ((env v_cause ≢ 8) × Says p.text env × (p.text.posted ≡ 0))

-- a byte of the path is a user byte and no NUL
abbrev pub Passed : List ℕ → (ℕ → ℕ) → ℕ → Type 0
Passed user env k = (is_user ((env 11 + k) % 2 ^ 64) ≡ true) × ((user_byte user ((env 11 + k) % 2 ^ 64) == 0) ≡ false)

-- so many path bytes were looked at, and the scan goes on there
pub record ScanIs (user : List ℕ) (env : ℕ → ℕ) : Type 0 where
  pub has_path : direct env ≡ scans
  pub goes_on : scan user (env 11) 0 greatest_path ≡ scan user (env 11) (env v_scanned) (greatest_path - env v_scanned)
  pub below : env v_scanned < greatest_path
  pub passed : (k : ℕ) → k < env v_scanned → Passed user env k

-- the byte that was looked at last
pub record ByteIs (user : List ℕ) (env : ℕ → ℕ) : Type 0 where
  pub inside : is_user ((env 11 + env v_scanned) % 2 ^ 64) ≡ true
  pub byte_is : env v_byte ≡ user_byte user ((env 11 + env v_scanned) % 2 ^ 64)

-- the kernel part of the call posts the request whose doublewords have these names
abbrev pub asks : (ℕ → ℕ) → Part
asks env =
    posts (env v_word0 ∷ env v_word1 ∷ env v_word2 ∷ env v_word3 ∷ env v_word4 ∷ env v_word5 ∷ 0 ∷ 0 ∷ [])

-- the request was posted by the kernel part of the call, over the user bytes of that moment
abbrev pub WasAsked : (ℕ → ℕ) → Type 0
WasAsked env = (old : List ℕ) × (part env old ≡ asks env)

-- a message has fewer bytes than this
abbrev pub bytes_limit : ℕ
bytes_limit = 400

-- what holds in a stage of the trap, the path, the request, the answer and the message
abbrev pub Extra : Stage → Phase → List ℕ → (ℕ → ℕ) → Type 0
Extra Saving p user env = TrapIs p env
Extra Checking p user env = TrapIs p env
Extra Starting p user env = (direct env ≡ scans) × (p.scanned ≡ 0)
Extra Scanning p user env = ScanIs user env × (p.scanned ≡ env v_scanned)
Extra Looked p user env = ScanIs user env × (p.scanned ≡ env v_scanned) × ByteIs user env
Extra Past p user env =
    ScanIs user env × (p.scanned ≡ env v_scanned + 1) × ByteIs user env × ((env v_byte == 0) ≡ false)
Extra Full p user env =
    ScanIs user env × (p.scanned ≡ env v_scanned + 1) × ByteIs user env × ((env v_byte == 0) ≡ false)
Extra Found p user env =
    (direct env ≡ scans)
    × (part env user ≡ posts (path_request (env 17) (env 10) (env 11) (env v_length) (env 12) (env 13)))
Extra Filling p user env = part env user ≡ asks env
Extra Waiting p user env = WasAsked env
Extra Tested p user env = WasAsked env × (env v_fromhost ≢ 0 → p.fromhost ≢ 0)
Extra Taking p user env = WasAsked env
Extra NoCall p user env = part env user ≡ refused ENOSYS
Extra Outside p user env = part env user ≡ refused EFAULT
Extra Long p user env = part env user ≡ refused ENAMETOOLONG
Extra Breaking p user env = env 17 ≡ 214
Extra Restoring p user env = ⊤
Extra Choosing p user env = Says p.text env × (p.text.posted ≡ 0)
Extra (Saying c t) p user env = Says p.text env × (p.text.counter ≡ c) × (p.text.posted ≡ t) × (t < bytes_limit)
Extra (Said c t) p user env = Says p.text env × (p.text.counter ≡ c) × (p.text.posted ≡ t + 1) × (t + 1 < bytes_limit)
Extra (Ending c) p user env = Says p.text env × (p.text.counter ≡ c) × (p.text.posted ≡ length (message p.text))
Extra (Ended c) p user env = Says p.text env × (p.text.counter ≡ c) × (p.text.posted ≡ length (message p.text))

-- the program's pc is that of the trap, and behind the call while its registers are restored
abbrev pub PcIs : Stage → UserState → (ℕ → ℕ) → Type 0
PcIs Restoring u env = u.pc ≡ (env v_pc + 4) % 2 ^ 64
PcIs _ u env = u.pc ≡ env v_pc

-- the break is that of the trap, but in a call of brk, which may have moved it
abbrev pub BreakIs : Stage → UserState → (ℕ → ℕ) → Type 0
BreakIs Breaking u env =
    (u.brk ≡ env v_break)
    ⊎ ((u.brk ≡ env 10)
    × (nat_lt (env 10) (env v_first_break) ≡ false)
    × (nat_lt greatest_break (env 10) ≡ false))
BreakIs _ u env = u.brk ≡ env v_break

-- a call's cause is 8 behind the test of it, and that of a message is another
abbrev pub CauseIs : Stage → ℕ → Type 0
CauseIs Saving cause = ⊤
CauseIs Checking cause = ⊤
CauseIs Choosing cause = cause ≢ 8
CauseIs (Saying c t) cause = cause ≢ 8
CauseIs (Said c t) cause = cause ≢ 8
CauseIs (Ending c) cause = cause ≢ 8
CauseIs (Ended c) cause = cause ≢ 8
CauseIs _ cause = cause ≡ 8

-- the numbers that the terms speak of are the program's
pub record Links (stage : Stage) (u : UserState) (env : ℕ → ℕ) : Type 0 where
  pub regs_are : (n : ℕ) → n < 32 → env n ≡ slice_index u.regs n
  pub count : length u.regs ≡ 32
  pub zeroth : slice_index u.regs 0 ≡ 0
  pub pc_is : PcIs stage u env
  pub pc_even : env v_pc % instruction_alignment ≡ 0
  pub first_is : u.first_break ≡ env v_first_break
  pub break_is : BreakIs stage u env
  pub cause_is : CauseIs stage (env v_cause)

-- the hart is in the kernel, after a trap of the program
pub record InKernel (kind : PhaseKind) (p : Phase) (sys : System) : Type 0 where
  pub user : List ℕ
  pub env : ℕ → ℕ
  pub stage : Stage
  pub staged : stage_kind stage ≡ kind
  pub here : Here kernel user env blocks (stage_number stage) sys
  pub links : Links stage p.user env
  pub extra : Extra stage p user env

-- parts of the start
pub data BootStage : Type 0 where
  Booting : BootStage
  BootWaiting : BootStage
  BootTested : BootStage
  BootTaking : BootStage
  Leaving : BootStage

-- the kind of phase that such a part is in
abbrev pub boot_kind : BootStage → PhaseKind
boot_kind Booting = Boot
boot_kind BootWaiting = BootWait
boot_kind BootTested = BootWait
boot_kind BootTaking = BootTake
boot_kind Leaving = Leave

-- the number of its blocks
abbrev pub boot_number : BootStage → ℕ
boot_number Booting = booting_blocks
boot_number BootWaiting = boot_waiting_blocks
boot_number BootTested = boot_tested_blocks
boot_number BootTaking = boot_taking_blocks
boot_number Leaving = leaving_blocks

-- behind Boot the break and the first break are the first break that the boot block tells
abbrev pub BootBreak : BootStage → UserState → (ℕ → ℕ) → Type 0
BootBreak Booting u env = ⊤
BootBreak _ u env = (u.brk ≡ env v_first_break) × (u.first_break ≡ env v_first_break)

-- where FROMHOST was loaded and was not 0, it is not 0
abbrev pub BootSeen : BootStage → Phase → (ℕ → ℕ) → Type 0
BootSeen BootTested p env = env v_fromhost ≢ 0 → p.fromhost ≢ 0
BootSeen _ p env = ⊤

-- the hart is in the kernel, before the program starts
pub record InBoot (kind : PhaseKind) (p : Phase) (sys : System) : Type 0 where
  pub user : List ℕ
  pub env : ℕ → ℕ
  pub stage : BootStage
  pub staged : boot_kind stage ≡ kind
  pub here : Here kernel user env blocks (boot_number stage) sys
  pub break_is : BootBreak stage p.user env
  pub seen : BootSeen stage p env
  pub entry_even : env v_entry % instruction_alignment ≡ 0

-- the hart runs the program
pub record InUser (p : Phase) (sys : System) : Type 0 where
  pub run : sys.hart.run ≡ Running
  pub user_mode : sys.hart.mode ≡ mode.User
  pub pc_is : sys.hart.pc ≡ p.user.pc
  pub pc_even : sys.hart.pc % instruction_alignment ≡ 0
  pub regs_are : sys.hart.registers ≡ p.user.regs
  pub fenced : IsFenced sys.hart.csrs
  pub scratch_is : sys.hart.csrs.mscratch ≡ frame
  pub handler_is : sys.hart.csrs.mtvec ≡ pc_save
  pub long : length sys.bus.kernel ≡ 0x10000
  pub code_is : CodeIs kernel sys.bus.kernel
  pub first_is : load sys.bus.kernel first_break_place 8 ≡ p.user.first_break
  pub break_is : load sys.bus.kernel break_place 8 ≡ p.user.brk

-- what holds at a place of a kind
abbrev pub Place : PhaseKind → Phase → System → Type 0
Place User p sys = InUser p sys
Place Boot p sys = InBoot Boot p sys
Place BootWait p sys = InBoot BootWait p sys
Place BootTake p sys = InBoot BootTake p sys
Place Leave p sys = InBoot Leave p sys
Place k p sys = InKernel k p sys

-- what is known at the place, and the phase's fields of the mailbox
pub record HoldsAs (kind : PhaseKind) (p : Phase) (sys : System) : Type 0 where
  pub tohost_is : p.tohost ≡ dword sys.bus tohost
  pub fromhost_is : p.fromhost ≡ dword sys.bus fromhost
  pub request_is : p.request ≡ request_of sys.bus
  pub place : Place kind p sys

-- the kernel's break and first break are those of the phase, after Boot
abbrev pub BreaksAre : PhaseKind → Phase → System → Type 0
BreaksAre Boot p sys = ⊤
BreaksAre _ p sys = (p.user.brk ≡ dword sys.bus kernel_variables) × (p.user.first_break ≡ dword sys.bus (boot + 8))

-- what is known in a phase
unfoldable pub Known : Phase → System → Type 0
Known p sys =
    HoldsAs p.kind p sys
    × MailIs (mail_class p.kind) p.tohost p.fromhost
    × NeedIs (need sys.hart.mode sys.hart.pc) (slice_index sys.hart.registers 6) p.tohost
    × BreaksAre p.kind p sys
