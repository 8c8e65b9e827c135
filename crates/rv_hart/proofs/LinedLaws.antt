-- Where the lines ask for nothing a step is the quiet step.
use Rattle.std.proofs.Common.{◌≡◌, false, refl}
use Rattle.rv_hart.specs.HartStep.{hart_step}
use Rattle.rv_hart.specs.LinedStep.{LinedSystem, AreQuiet, step_for, case_of}
use Rattle.rv_hart.specs.Laws.{QuietSteps}
use Rattle.rv_hart.specs.declared.debug.Run.{Run}
use Rattle.rv_hart.specs.declared.debug.Run.TheVariants.{Held, Running, Halted}

pub lined_step_quiet : QuietSteps
lined_step_quiet lined asked = go lined.system.hart.run
  where
    go : (run : Run) → step_for (case_of run lined.lines) lined ≡ (record lined { system = hart_step lined.system })
    go Held = rw asked.no_halt refl
    go Running = rw asked.no_halt refl
    go (Halted dpc prv held) = rw (asked.no_resume, asked.no_job) refl
