use Rattle.asm_text.proofs.Cutting.{without_end-none, without_end-one}
use Rattle.asm_text.proofs.layout.trimmed_end.Goals as goal

pub returns-then-not-is_blank_byte : goal.returns-then-not-is_blank_byte
returns-then-not-is_blank_byte c =
    without_end-none c.loop-rest.rest.now c.args.text.now c.is_blank_byte.result c.in-len1-up.len_at_least
    c.loop-rest.invariant c.is_blank_byte.ensures c.if-not-is_blank_byte.true

pub loop-rest-preserved : goal.loop-rest-preserved
loop-rest-preserved c =
    without_end-one c.loop-rest.rest.now c.args.text.now c.is_blank_byte.result c.in-len1-up.len_at_least
    c.loop-rest.invariant c.is_blank_byte.ensures c.if-not-is_blank_byte.false
