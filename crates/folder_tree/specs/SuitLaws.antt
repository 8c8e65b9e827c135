-- When the rows for files suit a tree.
use Rattle.std.specs.Prelude.{◌≡◌, ◌<◌, ◌^◌, ◌+◌, ℕ, Bool, true, false, ◌&&◌, nat_lt, if◌then◌else◌, List, ◌∷◌}
use Rattle.std.specs.Prelude.{length, Option, Some, None, IsSome}
use Rattle.std.proofs.Common.{ap, refl}
use Rattle.std.proofs.lemmas.Bool.{lt-ltb}
use Rattle.folder_tree.specs.Paths.{Parts}
use Rattle.folder_tree.specs.Tree.{Tree, found_at, kind_of, number_at, opens_of}
use Rattle.folder_tree.specs.TreeOps.{After, create_row, is_directory, is_free, is_writable, make_dir_row}
use Rattle.folder_tree.specs.TreeOps.{remove_dir_row, remove_row, set_size_row, unnamed, write_row}
use Rattle.folder_tree.specs.Laws.{if_suits, kind_number}
use Rattle.folder_tree.specs.declared.folder.PathKind.TheVariants.{Directory, File, Free}

-- a file can be created where a path is free
pub create_row-suits : (t : Tree) (path : Parts) → kind_of t path ≡ Free → IsSome (create_row path t)
create_row-suits t path is = if_suits (is_free (kind_of t path)) _ (ap is_free is)

-- and so can a directory
pub make_dir_row-suits : (t : Tree) (path : Parts) → kind_of t path ≡ Free → IsSome (make_dir_row path t)
make_dir_row-suits t path is = if_suits (is_free (kind_of t path)) _ (ap is_free is)

-- a size can be set of an open number
pub set_size_row-suits : (t : Tree) (number size : ℕ) → 0 < opens_of t number → IsSome (set_size_row number size t)
set_size_row-suits t number size above = if_suits (nat_lt 0 (opens_of t number)) _ (lt-ltb 0 (opens_of t number) above)

both_suit : {A : Type 0} (first second : Bool) (row : After A) → first ≡ true → second ≡ true
    → IsSome (if first then (if second then Some row else None) else None)
both_suit true true row e f = refl
both_suit true false row e f = absurd (let no : ⊥ = cc in no)
both_suit false second row e f = absurd (let no : ⊥ = cc in no)

both : (first second : Bool) → first ≡ true → second ≡ true → (first && second) ≡ true
both true second e f = f
both false second e f = cc

-- some bytes that end below 2^63 can be written to an open number
pub write_row-suits : (t : Tree) (number at : ℕ) (new : List ℕ) → 0 < opens_of t number → 0 < length new
    → at + length new < 2 ^ 63 → IsSome (write_row number at new t)
write_row-suits t number at new above some end =
    both_suit (nat_lt 0 (opens_of t number)) (is_writable at new) _ (lt-ltb 0 (opens_of t number) above)
    (both (nat_lt 0 (length new)) (nat_lt (at + length new) (2 ^ 63)) (lt-ltb 0 (length new) some)
    (lt-ltb (at + length new) (2 ^ 63) end))

unnamed_suits : (t : Tree) (path : Parts) (number : Option ℕ) → IsSome number → IsSome (unnamed t path number)
unnamed_suits t path None some = some
unnamed_suits t path (Some number) some = refl

-- the name of a file can be removed
pub remove_row-suits : (t : Tree) (path : Parts) → kind_of t path ≡ File → IsSome (remove_row path t)
remove_row-suits t path is = unnamed_suits t path (number_at t path) (kind_number (found_at t path) is)

-- and so can a directory that is not the root
pub remove_dir_row-suits : (t : Tree) (part : List ℕ) (parts : Parts) → kind_of t (part ∷ parts) ≡ Directory
    → IsSome (remove_dir_row (part ∷ parts) t)
remove_dir_row-suits t part parts is = if_suits (is_directory (kind_of t (part ∷ parts))) _ (ap is_directory is)
