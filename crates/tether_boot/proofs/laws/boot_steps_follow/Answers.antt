use Rattle.tether_boot.proofs.BootLaws as law
use Rattle.tether_boot.proofs.laws.boot_steps_follow.Goals as goal

-- src/laws.rt
pub returns : goal.returns
returns c = law.boot_steps_follow
