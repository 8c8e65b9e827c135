use Rattle.tether_run.proofs.Placed as law
use Rattle.tether_run.proofs.laws.standing_is_open.Goals as goal

-- src/laws.rt
pub returns : goal.returns
returns c = law.standing_is_open
