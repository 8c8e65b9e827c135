use Rattle.tether_base.proofs.OwnAnswers as law
use Rattle.tether_base.proofs.laws.own_calls_begin.Goals as goal

-- src/laws.rt
pub returns : goal.returns
returns c = law.own_calls_begin
