use Rattle.std.proofs.Common.{◌≡◌, ◌++◌, drop}
use Rattle.spike_front.proofs.plan.words_from.Given as goal

abbrev pub invariant-loop-i : goal.invariant-loop-i
invariant-loop-i l = l.copy ++ drop l.i l.words ≡ drop l.from l.words
