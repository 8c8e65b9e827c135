use Rattle.tether_run.proofs.ServeHands as law
use Rattle.tether_run.proofs.laws.serves_hands.Goals as goal

-- src/laws.rt
pub returns : goal.returns
returns c = law.serves_hands
