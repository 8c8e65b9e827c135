use Rattle.std.proofs.Common.{◌≡◌, drop}
use Rattle.asm_text.specs.Layout.{drop_while}
use Rattle.asm_text.specs.Reading.{is_space}
use Rattle.asm_text.proofs.operands.without_spaces.Given as goal

abbrev pub invariant-loop-i : goal.invariant-loop-i
invariant-loop-i l = drop_while is_space l.text ≡ drop_while is_space (drop l.i l.text)
