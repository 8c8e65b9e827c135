use Rattle.tether_base.proofs.SessionLaws as law
use Rattle.tether_base.proofs.laws.user_steps_follow.Goals as goal

-- src/laws.rt
pub returns : goal.returns
returns c = law.user_steps_follow
