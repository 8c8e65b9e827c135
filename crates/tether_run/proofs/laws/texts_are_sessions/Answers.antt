use Rattle.tether_run.proofs.TextTurns as law
use Rattle.tether_run.proofs.laws.texts_are_sessions.Goals as goal

-- src/laws.rt
pub returns : goal.returns
returns c = law.texts_are_sessions
