use Rattle.tether_base.proofs.Once as law
use Rattle.tether_base.proofs.laws.more_turns.Goals as goal

-- src/laws.rt
pub returns : goal.returns
returns c = law.more_turns
