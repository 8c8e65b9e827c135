-- What stands beside the direct run behind a host call that has acted, until its program runs again.
use Rattle.std.specs.Prelude.{◌≡◌, ◌≢◌, ℕ, List, slice_index}
use Rattle.host_text.specs.Runs.{End}
use Rattle.host_text.specs.World.{World}
use Rattle.kernel_sim.specs.Holds.{Holds}
use Rattle.kernel_sim.specs.declared.phase.Phase.{Phase}
use Rattle.kernel_sim.specs.declared.phase.PhaseKind.{PhaseKind}
use Rattle.kernel_sim.specs.declared.phase.PhaseKind.TheVariants.{User, Wait, Take, Restore}
use Rattle.kernel_sim.specs.declared.phase.UserState.{UserState as Program}
use Rattle.plain_machine.specs.Direct.{DirectState, running}
use Rattle.plain_machine.specs.Programs.{replied}
use Rattle.rv_hart.specs.HartStep.{System, hart_step}
use Rattle.rv_hart.specs.Laws.{IsSystem}
use Rattle.syscall_proxy.specs.HostRow.{world_after}
use Rattle.syscall_proxy.specs.Kept.{Kept, Setting}
use Rattle.syscall_proxy.specs.declared.answers.CallAnswer.{CallAnswer}
use Rattle.syscall_proxy.specs.declared.answers.CallAnswer.TheVariants.{Result as Value}
use Rattle.tether_base.specs.Between.{RunsBeside, StandsAt, phase_after}
use Rattle.tether_base.specs.Place.{Book}
use Rattle.tether_base.specs.Serving.{IsAnswered, Pending, Stepped, with_result}
use Rattle.tether_base.specs.Waiting.{CallState, process_of}

module _ (given : Setting) (start : DirectState) (w : World) (book : Book) where
  -- the call has acted, and the direct run stands behind it, with this result, which the program does not have yet
  pub record HasActed (steps value : ℕ) (u : Program) (user : List ℕ) : Type 0 where
    pub noted : book.acted_at ≡ steps
    pub silent : book.said ≡ 0
    pub stands : StandsAt given start w book steps (running (replied (process_of u user) value))

  -- the same where the program has it
  pub record IsReturning (steps : ℕ) (u : Program) (user : List ℕ) : Type 0 where
    pub noted : book.acted_at ≡ steps
    pub silent : book.said ≡ 0
    pub stands : StandsAt given start w book steps (running (process_of u user))

  -- from the wait that is answered to the program that runs again
  abbrev pub BehindAnswer : PhaseKind → Phase → System → Type 0
  BehindAnswer Wait p sys = (p.fromhost ≢ 0)
      × HasActed sys.hart.user_steps (slice_index p.request 0) p.user sys.bus.user
  BehindAnswer Take p sys = HasActed sys.hart.user_steps (slice_index p.request 0) p.user sys.bus.user
  BehindAnswer Restore p sys = IsReturning sys.hart.user_steps p.user sys.bus.user
  BehindAnswer User p sys = RunsBeside given start w book sys.hart.user_steps p.user sys.bus.user
  BehindAnswer _ p sys = ⊥

-- the kinds in which the kernel takes an answer back to the program
pub data TakesBack : PhaseKind → Type 0 where
  waits : TakesBack Wait
  takes : TakesBack Take
  restores : TakesBack Restore

-- ---- the laws
-- Each step of the kernel takes the answer on, until the program runs, beside the direct run, which stays.
abbrev pub AnswerStepsFollow : Type 0
AnswerStepsFollow =
    (given : Setting) (start : DirectState) (w : World) (book : Book) (p : Phase) (sys : System) → Holds p sys
    → IsSystem sys
    → TakesBack p.kind → BehindAnswer given start w book p.kind p sys
    → BehindAnswer given start w book (phase_after p sys).kind (phase_after p sys) (hart_step sys)

-- A call whose result stands in the request, and whose answer was written, is such a wait, in the world behind it.
abbrev pub AnsweredCallsReturn : Type 0
AnsweredCallsReturn =
    (given : Setting) (start : DirectState) (c : CallState) (user : List ℕ) (w : World)
    (pending : Pending given start c user w)
    (end : End (List ℕ) Kept CallAnswer) (value : ℕ) (book : Book) (sys : System)
    → Stepped given start c user end → end.answer ≡ Value value → book.said ≡ 0
    → (answered : IsAnswered (with_result value c) end.place.memory sys)
    → BehindAnswer given start (world_after end.place) (record book { acted_at = c.steps }) Wait answered.phase sys
