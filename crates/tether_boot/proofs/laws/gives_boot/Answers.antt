use Rattle.tether_boot.proofs.BootLaws as law
use Rattle.tether_boot.proofs.laws.gives_boot.Goals as goal

-- src/laws.rt
pub returns : goal.returns
returns c = law.gives_boot
