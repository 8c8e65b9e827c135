use Rattle.tether_base.proofs.WordWalk as law
use Rattle.tether_base.proofs.laws.steps_never_fall.Goals as goal

-- src/laws.rt
pub returns : goal.returns
returns c = law.steps_never_fall
