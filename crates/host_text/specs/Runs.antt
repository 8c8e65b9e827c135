-- What a text does over a memory and contents that are as they are told: a function.
use Rattle.std.specs.Prelude.{◌≡◌, ◌≤◌, ⊤, ℕ, List, ◌++◌, take, drop, length, Option, Some, None}
use Rattle.folder_tree.specs.Tree.{Tree}
use Rattle.folder_tree.specs.TreeOps.{After}
use Rattle.host_text.specs.Text.{Query, Reply, row_of, Kind, OpenFile, Create, Release, Size, ReadAt, WriteAt, SetSize}
use Rattle.host_text.specs.Text.{Remove, MakeDir, RemoveDir, Text, Done, Fail, Read, Write, Take, Put, Ask, Note, Look}
use Rattle.host_text.specs.Played.{At}
use Rattle.host_text.specs.World.{Contents}

-- a memory, what is told outside of it, and what the host keeps
pub record Place (M H : Type 0) : Type 0 where
  pub memory : M
  pub contents : Contents
  pub kept : H

-- how a memory is read and written
pub record Bytes (M : Type 0) : Type 0 where
  pub get : M → ℕ → ℕ → List ℕ
  pub set : M → ℕ → List ℕ → M

-- an end of a text: its answer, and where it leads
pub record End (M H A : Type 0) : Type 0 where
  pub answer : A
  pub place : Place M H

-- on from a call that suits
abbrev pub on_row : {A B : Type 0} → Option (After A) → (A → Tree → Option B) → Option B
on_row None k = None
on_row (Some after) k = k after.answer after.tree

-- the text's end where each call of the folder suits and it does not fail
abbrev pub run : {M H A E : Type 0} → Bytes M → Text H A E → Place M H → Option (End M H A)
run m (Done a) p = Some (record { answer = a; place = p })
run m (Fail e) p = None
run m (Read at count stop k) p = run m (k (m.get p.memory at count)) p
run m (Write at bytes stop k) p = run m k (record p { memory = m.set p.memory at bytes })
run m (Take count stop k) p = run m (k (take count p.contents.input))
    (record p { contents = record p.contents { input = drop count p.contents.input } })
run m (Put bytes stop k) p = run m k
    (record p { contents = record p.contents { console = p.contents.console ++ bytes } })
run m (Ask q stop k) p = on_row (row_of q p.contents.tree)
    (λ reply tree. run m (k reply) (record p { contents = record p.contents { tree = tree } }))
run m (Note g k) p = run m k (record p { kept = g p.kept })
run m (Look k) p = run m (k p.kept) p

-- where an object stands and where what it tells stands
pub record Ties {X F I C M H : Type 0} (memory : X → M → Type 0) (tree : F → Tree → Type 0)
    (input : I → List ℕ → Type 0) (console : C → List ℕ → Type 0) (s : At X F I C H) (p : Place M H) : Type 0 where
  pub memory_is : memory s.port p.memory
  pub tree_is : tree s.folder p.contents.tree
  pub input_is : input s.input p.contents.input
  pub console_is : console s.console p.contents.console
  pub kept_is : s.kept ≡ p.kept

-- on from an end
abbrev pub on_end : {M H A B : Type 0} → Option (End M H A) → (End M H A → Option B) → Option B
on_end None k = None
on_end (Some e) k = k e

-- a reply is no longer than was asked for
abbrev pub ReplyFits : (q : Query) → Reply q → Type 0
ReplyFits (Kind path) reply = ⊤
ReplyFits (OpenFile path) reply = ⊤
ReplyFits (Create path) reply = ⊤
ReplyFits (Release number) reply = ⊤
ReplyFits (Size number) reply = ⊤
ReplyFits (ReadAt number at count) reply = length reply ≤ count
ReplyFits (WriteAt number at bytes) reply = ⊤
ReplyFits (SetSize number size) reply = ⊤
ReplyFits (Remove path) reply = ⊤
ReplyFits (MakeDir path) reply = ⊤
ReplyFits (RemoveDir path) reply = ⊤

-- each range of the text is one of these
abbrev pub Within : {H A E : Type 0} → (ℕ → ℕ → Type 0) → Text H A E → Type 0
Within fits (Done a) = ⊤
Within fits (Fail e) = ⊤
Within fits (Read at count stop k) = fits at count × ((bytes : List ℕ) → length bytes ≡ count → Within fits (k bytes))
Within fits (Write at bytes stop k) = fits at (length bytes) × Within fits k
Within fits (Take count stop k) = (bytes : List ℕ) → length bytes ≤ count → Within fits (k bytes)
Within fits (Put bytes stop k) = Within fits k
Within fits (Ask q stop k) = (reply : Reply q) → ReplyFits q reply → Within fits (k reply)
Within fits (Note g k) = Within fits k
Within {H = H} fits (Look k) = (h : H) → Within fits (k h)
