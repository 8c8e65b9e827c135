-- What stands beside the direct run while the kernel answers a call by itself, until its program runs again.
use Rattle.std.specs.Prelude.{◌≡◌, ◌≤◌, ◌⊎◌, ◌+◌, ℕ, List}
use Rattle.host_text.specs.World.{World}
use Rattle.kernel_sim.specs.Holds.{Holds}
use Rattle.kernel_sim.specs.declared.phase.Phase.{Phase}
use Rattle.kernel_sim.specs.declared.phase.PhaseKind.{PhaseKind}
use Rattle.kernel_sim.specs.declared.phase.PhaseKind.TheVariants.{User, Local, Restore}
use Rattle.kernel_sim.specs.declared.phase.UserState.{UserState as Program}
use Rattle.plain_machine.specs.Direct.{DirectState, Machine, running}
use Rattle.plain_machine.specs.KernelPart.{breaks}
use Rattle.plain_machine.specs.Programs.{Process, part_of}
use Rattle.plain_machine.specs.UserStep.{call, user_step}
use Rattle.rv_hart.specs.HartStep.{System, hart_step}
use Rattle.rv_hart.specs.Laws.{IsSystem}
use Rattle.syscall_proxy.specs.Kept.{Setting}
use Rattle.tether_base.specs.Between.{IsCalling, RunsBeside, StandsAt, phase_after}
use Rattle.tether_base.specs.Place.{Book}
use Rattle.tether_base.specs.Waiting.{process_of}

-- the program of a phase with the break that it had at its call
abbrev pub process_before : Program → List ℕ → ℕ → Process
process_before u user break = record (process_of u user) { program_break = break }

module _ (given : Setting) (start : DirectState) (w : World) (book : Book) where
  -- the kernel answers the call itself: the direct run stands before it, and the phase's break is the program's, or is
  -- already the one that the call leaves
  pub record IsAnswering (steps : ℕ) (u : Program) (user : List ℕ) : Type 0 where
    pub before : ℕ
    pub counted : steps ≡ before + 1
    pub noted : book.acted_at ≤ before
    pub silent : book.said ≡ 0
    pub break : ℕ
    pub stands : StandsAt given start w book before (running (process_before u user break))
    pub is_call : user_step (process_before u user break).state ≡ call
    pub break_is : (u.brk ≡ break) ⊎ (part_of (process_before u user break) ≡ breaks u.brk)

  -- the program has the answer, and the call acts at MRET: the direct run stands before it, and its next step leads to
  -- the program
  pub record IsFinishing (steps : ℕ) (u : Program) (user : List ℕ) : Type 0 where
    pub before : ℕ
    pub counted : steps ≡ before + 1
    pub noted : book.acted_at ≤ before
    pub silent : book.said ≡ 0
    pub machine : Machine
    pub stands : StandsAt given start w book before machine
    pub leads : StandsAt given start w book steps (running (process_of u user))

  -- from there to the program that runs again
  abbrev pub BehindOwn : PhaseKind → Phase → System → Type 0
  BehindOwn Local p sys = IsAnswering sys.hart.user_steps p.user sys.bus.user
  BehindOwn Restore p sys = IsFinishing sys.hart.user_steps p.user sys.bus.user
  BehindOwn User p sys = RunsBeside given start w book sys.hart.user_steps p.user sys.bus.user
  BehindOwn _ p sys = ⊥

-- the kinds in which the kernel answers a call itself
pub data AnswersItself : PhaseKind → Type 0 where
  decides : AnswersItself Local
  hands_back : AnswersItself Restore

-- ---- the laws
-- A call to which the kernel comes in Local is one that it answers itself.
abbrev pub OwnCallsBegin : Type 0
OwnCallsBegin =
    (given : Setting) (start : DirectState) (w : World) (book : Book) (p : Phase) (sys : System)
    → IsCalling given start w book sys.hart.user_steps p.user sys.bus.user → BehindOwn given start w book Local p sys

-- Each step of the kernel takes its own answer on, until the program runs, beside the direct run.
abbrev pub OwnAnswersFollow : Type 0
OwnAnswersFollow =
    (given : Setting) (start : DirectState) (w : World) (book : Book) (p : Phase) (sys : System) → Holds p sys
    → IsSystem sys → AnswersItself p.kind → BehindOwn given start w book p.kind p sys
    → BehindOwn given start w book (phase_after p sys).kind (phase_after p sys) (hart_step sys)
