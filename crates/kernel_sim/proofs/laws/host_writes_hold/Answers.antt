use Rattle.kernel_sim.proofs.AdvanceLaws
use Rattle.kernel_sim.proofs.laws.host_writes_hold.Goals as goal

-- src/laws.rt
pub returns : goal.returns
returns c = AdvanceLaws.host_writes_hold
