use Rattle.tether_base.proofs.Loaded as law
use Rattle.tether_base.proofs.laws.loads_hold.Goals as goal

-- src/laws.rt
pub returns : goal.returns
returns c = law.loads_hold
