-- What stands beside the direct run while the program runs, and in the kernel until a call of it is posted to the host.
use Rattle.std.specs.Prelude.{◌≡◌, ◌≢◌, ◌≤◌, ◌<◌, ◌⊎◌, ◌+◌, ◌^◌, ℕ, List}
use Rattle.fe_base.specs.MemoryMap.{request}
use Rattle.host_text.specs.World.{World}
use Rattle.kernel_sim.specs.Holds.{Holds}
use Rattle.kernel_sim.specs.Phases.{message, next_phase}
use Rattle.kernel_sim.specs.Stores.{exit_status}
use Rattle.kernel_sim.specs.declared.phase.Phase.{Phase}
use Rattle.kernel_sim.specs.declared.phase.PhaseKind.{PhaseKind}
use Rattle.kernel_sim.specs.declared.phase.PhaseKind.TheVariants.{User, Save, Check, Scan, Fill, Wait, Local}
use Rattle.kernel_sim.specs.declared.phase.Spoken.{Spoken}
use Rattle.kernel_sim.specs.declared.phase.UserState.{UserState as Program}
use Rattle.plain_machine.specs.Direct.{DirectState, Machine, running, dying, in_world, direct_after}
use Rattle.plain_machine.specs.KernelPart.{posts}
use Rattle.plain_machine.specs.Programs.{part_of}
use Rattle.plain_machine.specs.UserStep.{call, user_step}
use Rattle.rv_hart.specs.HartStep.{System, hart_step}
use Rattle.rv_hart.specs.Laws.{IsSystem}
use Rattle.syscall_proxy.specs.Kept.{Setting}
use Rattle.syscall_proxy.specs.Worlds.{IsWorld}
use Rattle.tether_base.specs.Place.{Book}
use Rattle.tether_base.specs.Serving.{Pending, with_tohost}
use Rattle.tether_base.specs.Waiting.{CallState, Waiting, process_of}

module _ (given : Setting) (start : DirectState) (w : World) (book : Book) where
  -- the direct run after so many steps is this machine in the world
  abbrev pub StandsAt : ℕ → Machine → Type 0
  StandsAt steps machine = direct_after given steps start ≡ in_world machine w

  -- the program runs: the direct run of as many steps as user steps were made runs it too; nothing was said
  pub record RunsBeside (steps : ℕ) (u : Program) (user : List ℕ) : Type 0 where
    pub noted : book.acted_at ≤ steps
    pub silent : book.said ≡ 0
    pub stands : StandsAt steps (running (process_of u user))

  -- the last user step was a call, which has not acted: the direct run stands before it
  pub record IsCalling (steps : ℕ) (u : Program) (user : List ℕ) : Type 0 where
    pub before : ℕ
    pub counted : steps ≡ before + 1
    pub noted : book.acted_at ≤ before
    pub silent : book.said ≡ 0
    pub stands : StandsAt before (running (process_of u user))
    pub is_call : user_step (process_of u user).state ≡ call

  -- the last user step was another trap: the direct run says all of its message
  pub record IsDying (steps : ℕ) (text : Spoken) : Type 0 where
    pub noted : book.acted_at < steps
    pub silent : book.said ≡ 0
    pub unsaid : text.posted ≡ 0
    pub stands : StandsAt steps (dying (message text) (exit_status text))

  -- the call is posted to the host: TOHOST holds the request's address, and the request is that of its kernel part
  pub record IsPosted (p : Phase) (steps : ℕ) (user : List ℕ) : Type 0 where
    pub calls : IsCalling steps p.user user
    pub posted : part_of (process_of p.user user) ≡ posts p.request
    pub tohost_is : p.tohost ≡ request

  -- behind a user step: the program runs on, or has called, or dies
  abbrev pub BehindUser : PhaseKind → Phase → System → Type 0
  BehindUser User p sys = RunsBeside sys.hart.user_steps p.user sys.bus.user
  BehindUser Save p sys =
      (IsCalling sys.hart.user_steps p.user sys.bus.user × (sys.hart.csrs.mcause ≡ 8))
      ⊎ (IsDying sys.hart.user_steps p.text × (sys.hart.csrs.mcause ≢ 8))
  BehindUser _ p sys = ⊥

  -- behind a step of the kernel in a call that was not yet posted: it is still to act, or is posted
  abbrev pub BehindCall : PhaseKind → Phase → System → Type 0
  BehindCall Save p sys = IsCalling sys.hart.user_steps p.user sys.bus.user
  BehindCall Check p sys = IsCalling sys.hart.user_steps p.user sys.bus.user
  BehindCall Scan p sys = IsCalling sys.hart.user_steps p.user sys.bus.user
  BehindCall Fill p sys = IsCalling sys.hart.user_steps p.user sys.bus.user
  BehindCall Local p sys = IsCalling sys.hart.user_steps p.user sys.bus.user
  BehindCall Wait p sys = IsPosted p sys.hart.user_steps sys.bus.user
  BehindCall _ p sys = ⊥

-- the kinds in which the kernel prepares a call, before it answers it itself or posts it
pub data Prepares : PhaseKind → Type 0 where
  saves : Prepares Save
  checks : Prepares Check
  looks : Prepares Scan
  fills : Prepares Fill

-- ---- the laws
-- a step of the hart from a phase is this phase
abbrev pub phase_after : Phase → System → Phase
phase_after p sys = next_phase p (hart_step sys)

-- A step in user mode is a step of the direct run.
abbrev pub UserStepsFollow : Type 0
UserStepsFollow =
    (given : Setting) (start : DirectState) (w : World) (book : Book) (p : Phase) (sys : System) → Holds p sys
    → IsSystem sys
    → p.kind ≡ User → sys.hart.user_steps + 1 < 2 ^ 64
    → RunsBeside given start w book sys.hart.user_steps p.user sys.bus.user
    → BehindUser given start w book (phase_after p sys).kind (phase_after p sys) (hart_step sys)

-- A step of the kernel in a call leaves the call to be made, until it is posted.
abbrev pub CallStepsFollow : Type 0
CallStepsFollow =
    (given : Setting) (start : DirectState) (w : World) (book : Book) (p : Phase) (sys : System) → Holds p sys
    → IsSystem sys
    → Prepares p.kind → sys.hart.csrs.mcause ≡ 8 → IsCalling given start w book sys.hart.user_steps p.user sys.bus.user
    → BehindCall given start w book (phase_after p sys).kind (phase_after p sys) (hart_step sys)
    × ((hart_step sys).hart.csrs.mcause ≡ 8)

-- what stands of a posted call
abbrev pub posted_call : Phase → System → CallState
posted_call p sys =
    record { tohost = request; program = p.user; request = p.request; steps = sys.hart.user_steps }

-- A posted call waits to be handled, beside the direct run; what its request names stands in the user area.
abbrev pub PostedCallsWait : Type 0
PostedCallsWait =
    (given : Setting) (start : DirectState) (w : World) (book : Book) (p : Phase) (sys : System) → Holds p sys
    → IsSystem sys
    → p.kind ≡ Wait → IsPosted given start w book p sys.hart.user_steps sys.bus.user → IsWorld w
    → Waiting (posted_call p sys) sys.bus.user sys
    × Pending given start (with_tohost 0 (posted_call p sys)) sys.bus.user w
