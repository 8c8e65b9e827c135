use Rattle.tether_base.proofs.SessionLaws as law
use Rattle.tether_base.proofs.laws.takes_user_writes.Goals as goal

-- src/laws.rt
pub returns : goal.returns
returns c = law.takes_user_writes
