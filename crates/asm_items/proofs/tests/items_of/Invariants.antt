use Rattle.std.proofs.Common.{◌≤◌, ◌*◌, All}
use Rattle.asm_items.specs.ItemMeaning.{IsItemFit, total_words}
use Rattle.asm_items.proofs.tests.items_of.Given as goal

abbrev pub invariant-loop-row : goal.invariant-loop-row
invariant-loop-row l = record { fit : All IsItemFit l.items; short : total_words l.items ≤ 256 * l.row-index }
