use Rattle.tether_base.proofs.LineSeen as law
use Rattle.tether_base.proofs.laws.lines_are_seen.Goals as goal

-- src/laws.rt
pub returns : goal.returns
returns c = law.lines_are_seen
