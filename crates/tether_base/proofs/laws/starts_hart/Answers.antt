use Rattle.tether_base.proofs.Loaded as law
use Rattle.tether_base.proofs.laws.starts_hart.Goals as goal

-- src/laws.rt
pub returns : goal.returns
returns c = law.starts_hart
