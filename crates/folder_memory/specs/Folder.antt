-- The folder in memory as a value, and what each call makes of it.
use Rattle.std.specs.Prelude.{◌≡◌, ◌<◌, ◌^◌, ℕ, Bool, true, false, List, [], ◌∷◌, Option, Some, None, IsSome}
use Rattle.std.specs.Prelude.{Result, Ok, Err, refl}
use Rattle.std.specs.Coded.{Coded, code_by, coded×, coded_ℕ, coded_list}
use Rattle.fe_base.specs.Memory.{counted, is_listed}
use Rattle.folder_tree.specs.Paths.{Parts}
use Rattle.folder_tree.specs.Tree.{Tree, kind_of, tree_code}
use Rattle.folder_tree.specs.TreeOps.{After, is_directory}
use Rattle.folder_tree.specs.declared.folder.FolderStop.{FolderStop}
use Rattle.folder_tree.specs.declared.folder.FolderStop.TheVariants.{Failed, NoMemory}

-- a directory that is not the root stands at a path
abbrev pub is_inner_directory : Tree → Parts → Bool
is_inner_directory t [] = false
is_inner_directory t (part ∷ parts) = is_directory (kind_of t (part ∷ parts))

-- the tree, the number of the next call, the calls that fail, and the counts of faults and of wants of memory
pub record FolderState : Type 0 where
  pub tree : Tree
  pub calls : ℕ
  pub failing : List ℕ
  pub faults : ℕ
  pub short : ℕ

-- each count is one of a u64
pub record HasCounts (s : FolderState) : Type 0 where
  pub calls : s.calls < 2 ^ 64
  pub faults : s.faults < 2 ^ 64
  pub short : s.short < 2 ^ 64

-- a call that failed: it and its fault are counted
abbrev pub refused : FolderState → FolderState
refused s = record s { calls = counted s.calls; faults = counted s.faults }

-- a listed call fails, and so does one that doesn't suit the tree; each other gives the row's answer
abbrev pub answer_by : {A : Type 0} → Bool → Option (After A) → Result A FolderStop
answer_by listed None = Err Failed
answer_by true (Some after) = Err Failed
answer_by false (Some after) = Ok after.answer

-- what a call of this row answers
abbrev pub answer_of : {A : Type 0} → FolderState → Option (After A) → Result A FolderStop
answer_of s row = answer_by (is_listed s.calls s.failing) row

-- a failed call leaves the tree and counts a fault, each other leaves the row's tree
abbrev pub after_by : {A : Type 0} → Bool → FolderState → Option (After A) → FolderState
after_by listed s None = refused s
after_by true s (Some after) = refused s
after_by false s (Some after) = record s { tree = after.tree; calls = counted s.calls }

-- what a call of this row leaves
abbrev pub after_call : {A : Type 0} → FolderState → Option (After A) → FolderState
after_call s row = after_by (is_listed s.calls s.failing) s row

-- a call of this row answered this and left this; want of memory comes only where the call would have succeeded, and
-- leaves the tree
abbrev pub Called : {A : Type 0} → FolderState → FolderState → Option (After A) → Result A FolderStop → Type 0
Called s now row (Ok answer) = (answer_of s row ≡ Ok answer) × (now ≡ after_call s row)
Called s now row (Err Failed) = (answer_of s row ≡ Err Failed) × (now ≡ after_call s row)
Called s now row (Err NoMemory) =
    IsSome row × (is_listed s.calls s.failing ≡ false)
    × (now ≡ record s { calls = counted s.calls; short = counted s.short })

-- a state is stored as its tree and its numbers
abbrev pub state_code : Coded FolderState
state_code =
    code_by (Tree × (ℕ × (List ℕ × (ℕ × ℕ)))) (coded× tree_code
    (coded× coded_ℕ (coded× (coded_list coded_ℕ) (coded× coded_ℕ coded_ℕ))))
    (λ s. (s.tree, (s.calls, (s.failing, (s.faults, s.short)))))
    (λ p. record { tree = p.0; calls = p.1.0; failing = p.1.1.0; faults = p.1.1.1.0; short = p.1.1.1.1 }) (λ _. refl)
