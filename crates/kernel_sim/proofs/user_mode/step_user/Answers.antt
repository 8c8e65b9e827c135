use Rattle.std.proofs.Common.{◌∙◌}
use Rattle.rv_hart.specs.HartStep.{over}
use Rattle.kernel_sim.proofs.Agreement.{user_steps_agree}
use Rattle.kernel_sim.proofs.user_mode.step_user.Goals as goal

pub returns-clause-step : goal.returns-clause-step
returns-clause-step c =
    c.step.ensures.quiet ∙ user_steps_agree (over c.args.bus.now c.args.hart.now) c.requires.running c.requires.mode c.requires.fenced
