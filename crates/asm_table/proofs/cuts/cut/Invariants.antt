use Rattle.std.proofs.Common.{◌≡◌, ◌++◌, take, drop}
use Rattle.asm_table.specs.Cuts.{before, behind}
use Rattle.asm_table.proofs.cuts.cut.Given as goal

abbrev pub invariant-loop-i : goal.invariant-loop-i
invariant-loop-i l = record {
  front : before l.stop l.text ≡ take l.i l.text ++ before l.stop (drop l.i l.text);
  rest : behind l.stop l.text ≡ behind l.stop (drop l.i l.text);
}
