use Rattle.kernel_sim.proofs.StepsLeft
use Rattle.kernel_sim.proofs.laws.steps_bounded.Goals as goal

-- src/laws.rt
pub returns : goal.returns
returns c = StepsLeft.bounds_hold
