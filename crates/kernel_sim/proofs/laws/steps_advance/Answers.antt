use Rattle.kernel_sim.proofs.AdvanceLaws
use Rattle.kernel_sim.proofs.laws.steps_advance.Goals as goal

-- src/laws.rt
pub returns : goal.returns
returns c = AdvanceLaws.steps_advance
