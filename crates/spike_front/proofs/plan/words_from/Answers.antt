use Rattle.spike_front.proofs.Grammar.{copied}
use Rattle.spike_front.proofs.plan.words_from.Goals as goal

pub loop-i-preserved : goal.loop-i-preserved
loop-i-preserved c = copied c.args.words.now c.loop-i.copy c.push.new.self _ c.loop-i.i _ c.word.ensures c.in_ok-push.ensures.ok c.loop-i.invariant
