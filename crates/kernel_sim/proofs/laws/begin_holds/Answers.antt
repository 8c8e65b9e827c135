use Rattle.kernel_sim.proofs.RowLaws
use Rattle.kernel_sim.proofs.laws.begin_holds.Goals as goal

-- src/laws.rt
pub returns : goal.returns
returns c = RowLaws.begin_holds_known
