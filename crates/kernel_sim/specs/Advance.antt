-- What one step of the hart does to a phase, and what a write of the host does: the laws that a run of kernel and host
-- stands on.
use Rattle.std.specs.Prelude.{◌≡◌, ℕ, ◌^◌, ◌<◌, ◌≤◌, true, ⊤}
use Rattle.fe_base.specs.MemoryMap.{tohost, fromhost, request}
use Rattle.guest_memory.specs.Bus.{BusState, IsBus, with_beat}
use Rattle.rv_hart.specs.HartStep.{HartState, System, over, hart_step}
use Rattle.rv_hart.specs.Laws.{IsSystem}
use Rattle.plain_machine.specs.KernelPart.{posts}
use Rattle.kernel_sim.specs.declared.phase.PhaseKind.{PhaseKind}
use Rattle.kernel_sim.specs.declared.phase.PhaseKind.TheVariants.{Boot, BootWait, Fill, Wait}
use Rattle.kernel_sim.specs.declared.phase.Phase.{Phase}
use Rattle.kernel_sim.specs.Phases.{dword, request_of, next_phase}
use Rattle.kernel_sim.specs.Rows.{call_part, boot_request}
use Rattle.kernel_sim.specs.Holds.{Holds}
use Rattle.kernel_sim.specs.Steps.{follows}
use Rattle.kernel_sim.specs.Traps.{TrapAfter}
use Rattle.kernel_sim.specs.Changes.{UserAfter, TextAfter, ScannedAfter, StepsCounted, Waits, CodeKept}
use Rattle.kernel_sim.specs.Stores.{Stores}
use Rattle.kernel_sim.specs.Progress.{steps_left, Progress}
use Rattle.kernel_sim.specs.Begins.{begun_hart, IsLoaded}
use Rattle.kernel_sim.specs.Mailbox.{MailboxKept}
use Rattle.kernel_sim.specs.Kept.{UserKept, BootBlockKept}
use Rattle.kernel_sim.specs.HostWrites.{HostWrite, written}

-- the waits are entered by the store of REQUEST's address to TOHOST, behind a whole request: the first one, or that of
-- the kernel part of the call
abbrev pub Posted : PhaseKind → PhaseKind → Phase → System → System → Type 0
Posted Boot BootWait p old new = (request_of new.bus ≡ boot_request) × (dword new.bus tohost ≡ request)
Posted Fill Wait p old new = (call_part p old.bus.user ≡ posts (request_of new.bus)) × (dword new.bus tohost ≡ request)
Posted was now p old new = ⊤

-- a step from one phase to another: the kinds follow each other, the fields change as they may, and the mailbox, the
-- user bytes, the boot block, the code and the count of user steps do
pub record Advances (p : Phase) (old new : System) (q : Phase) : Type 0 where
  pub order : follows p.kind q.kind ≡ true
  pub user : UserAfter p.kind q.kind p old new q.user
  pub text : TextAfter p.kind q.kind p old q.text
  pub scanned : ScannedAfter p.kind q.kind p.scanned q.scanned
  pub posted : Posted p.kind q.kind p old new
  pub stores : Stores p.kind p old.hart new.hart q
  pub mailbox : MailboxKept p.kind q.kind old.bus new.bus
  pub waits : Waits p.kind p q
  pub trap : TrapAfter p.kind q.kind old new
  pub user_bytes : UserKept p.kind q.kind old.bus new.bus
  pub boot_block : BootBlockKept old.bus new.bus
  pub code : CodeKept old.bus new.bus
  pub counted : StepsCounted p.kind old.hart new.hart

-- the phase of a hart that begins: Boot, with what the mailbox holds
pub record IsBegun (p : Phase) (bus : BusState) : Type 0 where
  pub kind : p.kind ≡ Boot
  pub tohost : p.tohost ≡ dword bus tohost
  pub fromhost : p.fromhost ≡ dword bus fromhost
  pub request : p.request ≡ request_of bus

-- over loaded memory, such a phase holds of the hart that begins
abbrev pub BeginHolds : Type 0
BeginHolds = (p : Phase) (bus : BusState) → IsBus bus → IsLoaded bus → IsBegun p bus → Holds p (over bus begun_hart)

-- a step of the hart from a phase that holds leads to the next phase, which holds
abbrev pub StepsAdvance : Type 0
StepsAdvance =
    (p : Phase) (sys : System) → Holds p sys → IsSystem sys
    → Holds (next_phase p (hart_step sys)) (hart_step sys)
    × Advances p sys (hart_step sys) (next_phase p (hart_step sys))

-- a write that the host may make leaves a phase that holds
abbrev pub HostWritesHold : Type 0
HostWritesHold =
    (p : Phase) (sys : System) (at value : ℕ) → value < 2 ^ 64 → IsBus sys.bus → HostWrite at value p → Holds p sys
    → Holds (written at value p) (over (with_beat sys.bus at value) sys.hart)

-- each step makes progress: it lowers the number of steps left, or is one of those that need not
abbrev pub StepsLower : Type 0
StepsLower =
    (p : Phase) (sys : System) → Holds p sys → IsSystem sys
    → Progress p sys.hart (next_phase p (hart_step sys)) (hart_step sys).hart

-- a write of the host does not raise the number of steps left
abbrev pub WritesLower : Type 0
WritesLower =
    (p : Phase) (hart : HartState) (at value : ℕ) → HostWrite at value p
    → steps_left hart (written at value p) ≤ steps_left hart p

-- from where the hart begins there are at most 400 steps left
abbrev pub StepsBounded : Type 0
StepsBounded = (p : Phase) → steps_left begun_hart p ≤ 400
