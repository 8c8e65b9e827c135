-- What a map of labels gives for a name.
use Rattle.std.specs.Prelude.{ℕ, List, Option}
use Rattle.std.specs.BTreeMap.{get_by}
use Rattle.std.specs.Ordering.{nat_cmp}
use Rattle.std.specs.Cmp.Lexicographic.{slice_cmp}
use Rattle.asm_items.specs.declared.labels.Labels.{Labels}

-- the index and the place at these bytes
abbrev pub look_up : Labels → List ℕ → Option (ℕ × ℕ)
look_up labels name = get_by (λ k. slice_cmp nat_cmp name k.now) labels.spots
