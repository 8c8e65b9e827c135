use Rattle.std.proofs.Common.{◌≡◌, ◌+◌, ℕ, List, drop}
use Rattle.std.specs.Option.{option_or}
use Rattle.asm_items.specs.LabelMap.{look_up}
use Rattle.asm_items.specs.ItemMeaning.{find_label, labels_of, total_words}
use Rattle.asm_items.proofs.labels.Labels.of.Given as goal

abbrev pub invariant-loop-item : goal.invariant-loop-item
invariant-loop-item l = record {
  same : (name : List ℕ) → option_or (look_up l.labels name)
      (find_label name l.index l.place (drop l.item-index l.items)) ≡ labels_of l.items name;
  counted : l.index ≡ l.item-index;
  size : l.place + total_words (drop l.item-index l.items) ≡ total_words l.items;
}
