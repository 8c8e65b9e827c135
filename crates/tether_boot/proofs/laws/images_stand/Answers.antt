use Rattle.tether_boot.proofs.Images as law
use Rattle.tether_boot.proofs.laws.images_stand.Goals as goal

-- src/laws.rt
pub returns : goal.returns
returns c = law.images_stand
