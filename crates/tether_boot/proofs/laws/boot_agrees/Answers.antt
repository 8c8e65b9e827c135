use Rattle.tether_boot.proofs.Unbegun as law
use Rattle.tether_boot.proofs.laws.boot_agrees.Goals as goal

-- src/laws.rt
pub returns : goal.returns
returns c = law.boot_agrees
