use Rattle.tether_base.proofs.Agreed as law
use Rattle.tether_base.proofs.laws.calls_agree.Goals as goal

-- src/laws.rt
pub returns : goal.returns
returns c = law.calls_agree
