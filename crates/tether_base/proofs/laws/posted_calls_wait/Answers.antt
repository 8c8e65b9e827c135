use Rattle.tether_base.proofs.Followed as law
use Rattle.tether_base.proofs.laws.posted_calls_wait.Goals as goal

-- src/laws.rt
pub returns : goal.returns
returns c = law.posted_calls_wait
