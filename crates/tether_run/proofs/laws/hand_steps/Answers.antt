use Rattle.tether_run.proofs.HandSteps as law
use Rattle.tether_run.proofs.laws.hand_steps.Goals as goal

-- src/laws.rt
pub returns : goal.returns
returns c = law.hand_steps
