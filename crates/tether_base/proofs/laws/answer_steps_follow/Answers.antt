use Rattle.tether_base.proofs.SessionLaws as law
use Rattle.tether_base.proofs.laws.answer_steps_follow.Goals as goal

-- src/laws.rt
pub returns : goal.returns
returns c = law.answer_steps_follow
