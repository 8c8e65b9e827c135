use Rattle.std.proofs.Common.{◌∙◌, sym, arith}
use Rattle.spike_front.proofs.Grammar.{behind-dashes, behind-none, behind-unknown, behind-word}
use Rattle.spike_front.proofs.words.behind_options.Goals as goal

pub returns-then-len-lt2-clause-value : goal.returns-then-len-lt2-clause-value
returns-then-len-lt2-clause-value c = sym (behind-none c.args.words.now (omega arith))

pub returns-then-not-is_option-clause-value : goal.returns-then-not-is_option-clause-value
returns-then-not-is_option-clause-value c = sym (behind-word c.args.words.now _ c.word-word.ensures (cc))

pub returns-then-eq-clause-value : goal.returns-then-eq-clause-value
returns-then-eq-clause-value c = sym (behind-dashes c.args.words.now _ c.word-word.ensures (cc) (sym c.eq.ensures ∙ c.if-eq.true))

pub returns-clause-value : goal.returns-clause-value
returns-clause-value c = sym (behind-unknown c.args.words.now _ c.word-word.ensures (cc) (sym c.eq.ensures ∙ c.if-eq.false))
