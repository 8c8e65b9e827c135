use Rattle.tether_base.proofs.Returned as law
use Rattle.tether_base.proofs.laws.answered_calls_return.Goals as goal

-- src/laws.rt
pub returns : goal.returns
returns c = law.answered_calls_return
