use Rattle.fe_base.proofs.module_tests.wrong_replies.Given as goal

abbrev pub invariant-loop-row : goal.invariant-loop-row
invariant-loop-row g l = g.W.DmiWire.usable l.wire
