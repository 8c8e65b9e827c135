use Rattle.std.proofs.Common.{ap, sym, ◌∙◌}
use Rattle.asm_text.specs.Pieces.{small}
use Rattle.asm_text.proofs.Digits.{overflowed}
use Rattle.asm_text.proofs.pieces.some_digits.Goals as goal

pub returns-in-None : goal.returns-in-None
returns-in-None c =
    sym (ap small c.loop-byte.invariant.same
    ∙ overflowed c.args.base c.loop-byte.number c.loop-byte.byte-index c.in-Some.digit c.args.text.now c.requires
    c.loop-byte-test.true (sym c.digit_of.ensures ∙ c.in-Some.is) (sym c.grown.ensures ∙ c.in-None.is))
