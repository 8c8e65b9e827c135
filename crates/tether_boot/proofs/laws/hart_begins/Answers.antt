use Rattle.tether_boot.proofs.Begun as law
use Rattle.tether_boot.proofs.laws.hart_begins.Goals as goal

-- src/laws.rt
pub returns : goal.returns
returns c = law.hart_begins
