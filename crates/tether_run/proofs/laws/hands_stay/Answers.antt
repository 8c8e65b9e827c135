use Rattle.tether_run.proofs.HandSteps as law
use Rattle.tether_run.proofs.laws.hands_stay.Goals as goal

-- src/laws.rt
pub returns : goal.returns
returns c = law.hands_stay
