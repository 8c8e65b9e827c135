use Rattle.std.proofs.Common.{◌≡◌, ◌<◌, ◌++◌, [], ◌∷◌, append-nil, append_assoc, refl, sym, arith}
use Rattle.fe_base.proofs.DigitLemmas.{hexadecimal-none, hexadecimal-more}
use Rattle.fe_base.proofs.digits.+push_hexadecimal.Goals as goal

pub returns-then-digits-gt0-clause-bytes : goal.returns-then-digits-gt0-clause-bytes
returns-then-digits-gt0-clause-bytes g t c =
    let more : 0 < c.args.digits = omega arith in
    let pushed : c.push.new.self.bytes ≡ c.push_hexadecimal.new.text.bytes ++ c.digit.result ∷ [] = c.push.ensures.ascii c.digit.ensures.ascii in
    rw (pushed, c.push_hexadecimal.ensures.bytes, c.digit.ensures.value, hexadecimal-more c.args.digits c.args.number more, append_assoc) refl

pub returns-else-digits-gt0-clause-bytes : goal.returns-else-digits-gt0-clause-bytes
returns-else-digits-gt0-clause-bytes g t c =
    let none : c.args.digits ≡ 0 = omega arith in
    rw (hexadecimal-none c.args.digits c.args.number none) (sym (append-nil c.args.text.now.bytes))
