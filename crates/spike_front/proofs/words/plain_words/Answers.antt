use Rattle.std.proofs.Common.{◌≡◌, ◌∙◌, ◌≤◌, true, false, Err, length, ap, sym, arith}
use Rattle.std.proofs.lemmas.Result.{err_from_is_err_and}
use Rattle.std.specs.Prelude.{bytes_eq, codes}
use Rattle.spike_front.specs.Words.{is_option}
use Rattle.spike_front.proofs.Grammar.{words-dashes, words-file, words-next, words-none, words-refused}
use Rattle.spike_front.proofs.words.plain_words.Goals as goal
use Rattle.spike_front.proofs.words.plain_words.Goals.{then-options-test+else-is_option, else-options-test}

pub returns-then-eq-clause-value : goal.returns-then-eq-clause-value
returns-then-eq-clause-value c =
    let dash : is_option c.word-word.result.now ≡ true = cc in
    let both : bytes_eq c.word-word.result.now (codes "--") ≡ true = sym c.eq.ensures ∙ c.if-eq.true in
    c.plain_file.ensures.value ∙ sym (c.options.invariant.read ∙ words-dashes c.options.options c.options.at c.args.words.now _ c.word-word.ensures dash both)

pub returns-in_err-options-clause-value : goal.returns-in_err-options-clause-value
returns-in_err-options-clause-value c =
    let dash : is_option c.word-word.result.now ≡ true = cc in
    let more : bytes_eq c.word-word.result.now (codes "--") ≡ false = sym c.eq.ensures ∙ c.if-eq.false in
    let failed = err_from_is_err_and c.from_residual.result c.from_residual.ensures.1 in
    failed.1 ∙ ap Err failed.2
    ∙ sym (c.options.invariant.read ∙ words-refused c.options.options c.options.at c.args.words.now _ _ c.word-word.ensures dash more (sym c.read_option.ensures.value ∙ c.in_err-options.was))

pub options-preserved : goal.options-preserved
options-preserved c =
    let dash : is_option c.word-word.result.now ≡ true = cc in
    let more : bytes_eq c.word-word.result.now (codes "--") ≡ false = sym c.eq.ensures ∙ c.if-eq.false in
    record {
      read = c.options.invariant.read ∙ words-next c.options.options _ c.options.at c.args.words.now _ c.word-word.ensures dash more (sym c.read_option.ensures.value ∙ c.in_ok-options.was);
      sound = c.in_ok-options.ensures.sound;
    }

pub returns-clause-value : goal.returns-clause-value
returns-clause-value c = elim c.options-test.branch [
  | then-options-test+else-is_option w ↦
      c.plain_file-2.ensures.value ∙ sym (c.options.invariant.read ∙ words-file c.options.options c.options.at c.args.words.now _ w.word.ensures (sym w.is_option.ensures ∙ w.if-is_option.false))
  | else-options-test w ↦
      let past : length c.args.words.now ≤ c.options.at = omega arith in
      c.plain_file-2.ensures.value ∙ sym (c.options.invariant.read ∙ words-none c.options.options c.options.at c.args.words.now past)
]
