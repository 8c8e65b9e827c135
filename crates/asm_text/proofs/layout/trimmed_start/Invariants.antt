use Rattle.std.proofs.Common.{◌≡◌, drop}
use Rattle.asm_text.specs.Layout.{drop_while, is_blank}
use Rattle.asm_text.proofs.layout.trimmed_start.Given as goal

abbrev pub invariant-loop-i : goal.invariant-loop-i
invariant-loop-i l = drop_while is_blank l.text ≡ drop_while is_blank (drop l.i l.text)
