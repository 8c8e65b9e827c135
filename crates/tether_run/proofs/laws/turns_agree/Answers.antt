use Rattle.tether_run.proofs.TurnsMade as law
use Rattle.tether_run.proofs.laws.turns_agree.Goals as goal

-- src/laws.rt
pub returns : goal.returns
returns c = law.turns_agree
