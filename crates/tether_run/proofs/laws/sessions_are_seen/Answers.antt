use Rattle.tether_run.proofs.SeenSessions as law
use Rattle.tether_run.proofs.laws.sessions_are_seen.Goals as goal

-- src/laws.rt
pub returns : goal.returns
returns c = law.sessions_are_seen
