-- One step of a hart over its bus and its debug lines.
use Rattle.std.specs.Prelude.{◌≡◌, Bool, true, false, if◌then◌else◌}
use Rattle.rv_hart.specs.HartStep.{System, hart_step}
use Rattle.rv_hart.specs.declared.debug.DebugLines.{DebugLines}
use Rattle.rv_hart.specs.declared.debug.Job.{Job}
use Rattle.rv_hart.specs.declared.debug.Job.TheVariants.{Idle, Move, Buffer}
use Rattle.rv_hart.specs.declared.debug.Run.{Run}
use Rattle.rv_hart.specs.declared.debug.Run.TheVariants.{Held, Running, Halted}

-- a hart over its bus, with the lines between its debug module and it
pub record LinedSystem : Type 0 where
  pub system : System
  pub lines : DebugLines

-- the lines ask for no halt, no resume and no job
pub record AreQuiet (lines : DebugLines) : Type 0 where
  pub no_halt : lines.halt ≡ false
  pub no_resume : lines.resume ≡ false
  pub no_job : lines.job ≡ Idle

-- what a step is
pub data LinedCase : Type 0 where
  resumes : LinedCase
  works : LinedCase
  halts : LinedCase
  quiet : LinedCase

-- a halted hart with a job, or without one
abbrev pub job_case : Job → LinedCase
job_case Idle = quiet
job_case (Move reg write then_run) = works
job_case Buffer = works

-- what a step is, by how the hart stands and what is asked of it, in this order: a halted hart resumes where that is
-- asked, or does
-- its job, or stays as it is; one that is not halted halts where that is asked, or else makes the quiet step (External
-- Debug
-- Support 0.13.2, 3.4 and 3.5)
abbrev pub case_of : Run → DebugLines → LinedCase
case_of (Halted dpc prv held) lines = if lines.resume then resumes else job_case lines.job
case_of Held lines = if lines.halt then halts else quiet
case_of Running lines = if lines.halt then halts else quiet

-- a step of each case. Resuming, halting and jobs are not built: for now each is the quiet step, which leaves the lines
abbrev pub step_for : LinedCase → LinedSystem → LinedSystem
step_for resumes lined = record lined { system = hart_step lined.system }
step_for works lined = record lined { system = hart_step lined.system }
step_for halts lined = record lined { system = hart_step lined.system }
step_for quiet lined = record lined { system = hart_step lined.system }

-- one step of a hart over its bus and its lines
abbrev pub lined_step : LinedSystem → LinedSystem
lined_step lined = step_for (case_of lined.system.hart.run lined.lines) lined
