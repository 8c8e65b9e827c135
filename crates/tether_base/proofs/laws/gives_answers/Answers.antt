use Rattle.tether_base.proofs.SessionLaws as law
use Rattle.tether_base.proofs.laws.gives_answers.Goals as goal

-- src/laws.rt
pub returns : goal.returns
returns c = law.gives_answers
