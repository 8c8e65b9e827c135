use Rattle.std.proofs.Common.{◌∙◌, Err, ap, length, sym}
use Rattle.std.proofs.lemmas.Result.{err_from_is_err_and}
use Rattle.spike_front.specs.Words.{asm_words}
use Rattle.spike_front.proofs.words.asm_words.Goals as goal

pub returns-in_err-place-clause-value : goal.returns-in_err-place-clause-value
returns-in_err-place-clause-value c =
    let failed = err_from_is_err_and c.from_residual.result c.from_residual.ensures.1 in
    failed.1 ∙ ap Err failed.2 ∙ ap (asm_words (length c.args.words.now)) (sym c.in_err-place.was ∙ c.behind_options.ensures.value)
