use Rattle.tether_run.proofs.SessionsMade as law
use Rattle.tether_run.proofs.laws.sessions_agree.Goals as goal

-- src/laws.rt
pub returns : goal.returns
returns c = law.sessions_agree
