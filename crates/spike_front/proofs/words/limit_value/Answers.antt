use Rattle.std.proofs.Common.{◌∙◌, sym}
use Rattle.spike_front.proofs.Grammar.{value_given, value_refused}
use Rattle.spike_front.proofs.words.limit_value.Goals as goal

pub returns-in-Some-clause-value : goal.returns-in-Some-clause-value
returns-in-Some-clause-value c = sym (value_given c.args.words.now c.args.at c.in-Some.limit _ c.word.ensures (sym c.number_within.ensures.value ∙ c.in-Some.is))

pub returns-in-None-clause-value : goal.returns-in-None-clause-value
returns-in-None-clause-value c = sym (value_refused c.args.words.now c.args.at _ c.word.ensures (sym c.number_within.ensures.value ∙ c.in-None.is))
