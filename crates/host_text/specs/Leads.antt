-- Where a text leads, whatever bytes it is given: that each call which it makes suits, and what holds at its end.
use Rattle.std.specs.Prelude.{◌≡◌, ◌≤◌, ℕ, List, length, Some}
use Rattle.folder_tree.specs.Tree.{Tree}
use Rattle.folder_tree.specs.TreeOps.{After}
use Rattle.host_text.specs.Text.{Query, Reply, row_of, Text, Done, Fail, Read, Write, Take, Put, Ask, Note, Look}

-- from a tree and what the host keeps: each call suits the tree that it finds, the text does not fail by itself, and
-- its
-- answer, with the tree and what is kept then, is a good one
abbrev pub Leads : {H A E : Type 0} → (A → Tree → H → Type 0) → Text H A E → Tree → H → Type 0
Leads good (Done a) t h = good a t h
Leads good (Fail e) t h = ⊥
Leads good (Read at count stop k) t h = (bytes : List ℕ) → length bytes ≡ count → Leads good (k bytes) t h
Leads good (Write at bytes stop k) t h = Leads good k t h
Leads good (Take count stop k) t h = (bytes : List ℕ) → length bytes ≤ count → Leads good (k bytes) t h
Leads good (Put bytes stop k) t h = Leads good k t h
Leads good (Ask q stop k) t h = (after : After (Reply q)) × (row_of q t ≡ Some after)
    × Leads good (k after.answer) after.tree h
Leads good (Note g k) t h = Leads good k t (g h)
Leads good (Look k) t h = Leads good (k h) t h
