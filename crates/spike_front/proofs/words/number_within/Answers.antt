use Rattle.std.proofs.Common.{rules, ◌≢◌, get_or, sym, arith}
use Rattle.std.proofs.lemmas.Str.Parse.{parse_plain}
use Rattle.spike_front.proofs.Numbers.{decimals, number_refused, number_taken, when_err, when_ok}
use Rattle.spike_front.proofs.words.number_within.Goals as goal

pub returns-in-Ok-clause-value : goal.returns-in-Ok-clause-value
returns-in-Ok-clause-value c =
    let plus : get_or c.args.word.now 0 0 ≢ 43 = search rules in
    let read = when_ok c.parse.result _ _ c.in-Ok.number (parse_plain decimals 64 c.args.word.now c.parse.result c.parse.ensures.value.0 plus) c.in-Ok.is in
    sym (number_taken c.args.least c.args.most c.in-Ok.number c.args.word.now read.0.0 read.0.1 (omega arith) read.1 (omega arith) (omega arith))

pub returns-in_default-3-clause-value : goal.returns-in_default-3-clause-value
returns-in_default-3-clause-value c =
    let plus : get_or c.args.word.now 0 0 ≢ 43 = search rules in
    let read = when_err c.parse.result _ _ c.in_default.field-0 (parse_plain decimals 64 c.args.word.now c.parse.result c.parse.ensures.value.0 plus) c.in_default.is in
    sym (number_refused c.args.least c.args.most c.args.word.now (λ digits some low high. read (digits, some, omega arith)))
