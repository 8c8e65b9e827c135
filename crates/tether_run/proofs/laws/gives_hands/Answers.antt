use Rattle.tether_run.proofs.GiveHands as law
use Rattle.tether_run.proofs.laws.gives_hands.Goals as goal

-- src/laws.rt
pub returns : goal.returns
returns c = law.gives_hands
