use Rattle.tether_base.proofs.WordWalk as law
use Rattle.tether_base.proofs.laws.words_are_seen.Goals as goal

-- src/laws.rt
pub returns : goal.returns
returns c = law.words_are_seen
