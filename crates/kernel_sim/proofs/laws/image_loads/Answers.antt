use Rattle.kernel_sim.proofs.LoadLaws
use Rattle.kernel_sim.proofs.laws.image_loads.Goals as goal

-- src/laws.rt
pub returns : goal.returns
returns c = LoadLaws.image_loads
