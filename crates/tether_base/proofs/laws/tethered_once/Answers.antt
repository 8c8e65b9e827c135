use Rattle.tether_base.proofs.Once as law
use Rattle.tether_base.proofs.laws.tethered_once.Goals as goal

-- src/laws.rt
pub returns : goal.returns
returns c = law.tethered_once
