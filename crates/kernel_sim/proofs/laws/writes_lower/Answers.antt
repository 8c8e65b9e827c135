use Rattle.kernel_sim.proofs.StepsLeft
use Rattle.kernel_sim.proofs.laws.writes_lower.Goals as goal

-- src/laws.rt
pub returns : goal.returns
returns c = StepsLeft.writes_lower
