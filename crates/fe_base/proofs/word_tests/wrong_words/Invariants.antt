use Rattle.fe_base.proofs.word_tests.wrong_words.Given as goal

abbrev pub invariant-loop-word : goal.invariant-loop-word
invariant-loop-word g l = g.W.WordWire.usable l.wire
