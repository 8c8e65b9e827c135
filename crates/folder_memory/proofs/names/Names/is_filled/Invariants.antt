use Rattle.std.proofs.Common.{◌≡◌}
use Rattle.std.specs.List.{list_any}
use Rattle.folder_memory.specs.Names.{stands_below}
use Rattle.folder_memory.proofs.names.Names.is_filled.Given as goal

abbrev pub invariant-loop-name : goal.invariant-loop-name
invariant-loop-name l = record {
  can : (goal.iterator-loop-name).can_next l.name-iterator;
  finite : (goal.iterator-loop-name).is_finite l.name-iterator;
  same : list_any (λ k. stands_below l.text k.items) l.name-iterator
      ≡ list_any (λ k. stands_below l.text k.items) l.initial.name-iterator;
}
