use Rattle.kernel_sim.proofs.StepsLeft
use Rattle.kernel_sim.proofs.laws.steps_lower.Goals as goal

-- src/laws.rt
pub returns : goal.returns
returns c = StepsLeft.steps_lower
