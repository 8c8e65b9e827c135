use Rattle.tether_base.proofs.SessionLaws as law
use Rattle.tether_base.proofs.laws.own_answers_follow.Goals as goal

-- src/laws.rt
pub returns : goal.returns
returns c = law.own_answers_follow
