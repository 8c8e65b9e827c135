use Rattle.tether_base.proofs.SessionLaws as law
use Rattle.tether_base.proofs.laws.stays_waiting.Goals as goal

-- src/laws.rt
pub returns : goal.returns
returns c = law.stays_waiting
