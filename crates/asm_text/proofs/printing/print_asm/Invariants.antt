use Rattle.std.proofs.Common.{ℕ, List, ◌++◌, take, drop, All}
use Rattle.asm_text.specs.Printing.{IsHeld, PrintsAll}
use Rattle.asm_text.proofs.printing.print_asm.Given as goal

-- what is a text of the rest makes a text of all behind what was written, and the items so far are held
abbrev pub invariant-loop-item : goal.invariant-loop-item
invariant-loop-item l = record {
  prints : (rest : List ℕ) → PrintsAll (drop l.item-index l.items) rest → PrintsAll l.items (l.out ++ rest);
  held : All IsHeld (take l.item-index l.items);
}
