use Rattle.std.proofs.Common.{◌≡◌, ◌++◌, take, drop}
use Rattle.asm_text.specs.Layout.{without_comment}
use Rattle.asm_text.specs.declared.layout.At.TheVariants as At
use Rattle.asm_text.proofs.layout.uncommented.Given as goal

abbrev pub invariant-loop-i : goal.invariant-loop-i
invariant-loop-i l = without_comment At.Outside l.line ≡ take l.i l.line ++ without_comment l.at (drop l.i l.line)
