use Rattle.std.proofs.Common.{◌≡◌, ◌+◌, drop}
use Rattle.asm_items.specs.ItemMeaning.{total_words}
use Rattle.asm_items.specs.LabelMap.{look_up}
use Rattle.asm_items.proofs.Progress.{Progress}
use Rattle.asm_items.proofs.assembling.assemble.Given as goal

abbrev pub invariant-loop-item : goal.invariant-loop-item
invariant-loop-item l = record {
  walked : Progress (look_up l.labels) l.base l.items l.index l.place (drop l.item-index l.items) l.bytes;
  counted : l.index ≡ l.item-index;
  size : l.place + total_words (drop l.item-index l.items) ≡ total_words l.items;
}
