use Rattle.tether_boot.proofs.Images as law
use Rattle.tether_boot.proofs.laws.loads_stand_inside.Goals as goal

-- src/laws.rt
pub returns : goal.returns
returns c = law.loads_stand_inside
