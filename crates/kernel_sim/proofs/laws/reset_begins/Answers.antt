use Rattle.kernel_sim.proofs.LoadLaws
use Rattle.kernel_sim.proofs.laws.reset_begins.Goals as goal

-- src/laws.rt
pub returns : goal.returns
returns c = LoadLaws.reset_begins
