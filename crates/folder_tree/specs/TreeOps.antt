-- The operations on a tree, one row each: `None` where the call doesn't suit the tree, else the answer and the tree
-- after it.
use Rattle.std.specs.Prelude.{◌^◌, ℕ, zero, suc, Bool, true, false, List, [], ◌∷◌, ◌++◌, length, take, drop, replicate}
use Rattle.std.specs.Prelude.{sum, ◌+◌, ◌-◌, Option, Some, None, is_some, ◌==◌, ◌&&◌, not, nat_lt, if◌then◌else◌}
use Rattle.std.specs.List.{list_any}
use Rattle.std.specs.FinMap as map
use Rattle.std.specs.Ordering.{nat_cmp, eq_by_cmp}
use Rattle.std.specs.Cmp.Lexicographic.{slice_cmp}
use Rattle.folder_tree.specs.Paths.{Parts}
use Rattle.folder_tree.specs.Tree.{Entry, directory, stored, Tree, kind_of, number_at, opens_of, bytes_of}
use Rattle.folder_tree.specs.declared.folder.PathKind.{PathKind}
use Rattle.folder_tree.specs.declared.folder.PathKind.TheVariants.{Directory, File, Free, NoParent, UnderFile}

-- an answer, with the tree after it
pub record After (A : Type 0) : Type 0 where
  pub answer : A
  pub tree : Tree

-- what a call does to each tree
abbrev pub Row : Type 0 → Type 0
Row A = Tree → Option (After A)

-- the kind of a path suits every path
abbrev pub kind_row : Parts → Row PathKind
kind_row path t = Some (record { answer = kind_of t path; tree = t })

-- the tree with one more open of a number
abbrev pub opened : Tree → ℕ → Tree
opened t number = record t { opens = map.insert t.opens number (opens_of t number + 1) }

-- an open of the file that was found, if there is one
abbrev pub open_number : Tree → Option ℕ → Option (After ℕ)
open_number t None = None
open_number t (Some number) = Some (record { answer = number; tree = opened t number })

-- to open a file is one more open of its number
abbrev pub open_row : Parts → Row ℕ
open_row path t = open_number t (number_at t path)

-- a row that suits open numbers alone
abbrev pub if_open : {A : Type 0} → ℕ → Row A → Row A
if_open number row t = if nat_lt 0 (opens_of t number) then row t else None

-- the size is the number of bytes
abbrev pub size_row : ℕ → Row ℕ
size_row number = if_open number (λ t. Some (record { answer = length (bytes_of t number); tree = t }))

-- the bytes from a place on, at most so many
abbrev pub read_row : ℕ → ℕ → ℕ → Row (List ℕ)
read_row number at count =
    if_open number (λ t. Some (record { answer = take count (drop at (bytes_of t number)); tree = t }))

-- one open less of a number that is open so often; no count of 0 is kept
abbrev pub fewer_opens : map.FinMap nat_cmp ℕ → ℕ → ℕ → map.FinMap nat_cmp ℕ
fewer_opens opens number count = if count == 1 then map.remove opens number else map.insert opens number (count - 1)

-- an entry is the file of this number
abbrev pub is_file_of : ℕ → Option Entry → Bool
is_file_of number None = false
is_file_of number (Some directory) = false
is_file_of number (Some (stored other)) = number == other

-- some name stands for the file of this number
abbrev pub is_named : Tree → ℕ → Bool
is_named t number = list_any (λ path. is_file_of number (map.get t.names path)) (map.keys t.names)

-- with its last open a file without a name goes
abbrev pub kept_bytes : Tree → ℕ → map.FinMap nat_cmp (List ℕ)
kept_bytes t number = if opens_of t number == 1 && not (is_named t number) then map.remove t.bytes number else t.bytes

-- the tree with one open less of a number
abbrev pub released : Tree → ℕ → Tree
released t number = record t { bytes = kept_bytes t number; opens = fewer_opens t.opens number (opens_of t number) }

-- to release a number is one open less of it
abbrev pub release_row : ℕ → Row Unit
release_row number = if_open number (λ t. Some (record { answer = tt; tree = released t number }))

-- the tree with one more name
abbrev pub named : Tree → Parts → Entry → Tree
named t path entry = record t { names = map.insert t.names path entry }

-- the tree with a new file of this number at a path, which holds these bytes and isn't open
abbrev pub with_file : Tree → Parts → ℕ → List ℕ → Tree
with_file t path number bytes =
    record t { names = map.insert t.names path (stored number); bytes = map.insert t.bytes number bytes }

-- the first number from this one on that has no bytes, looked for so often
abbrev pub free_from : map.FinMap nat_cmp (List ℕ) → ℕ → ℕ → ℕ
free_from bytes zero number = number
free_from bytes (suc more) number = if is_some (map.get bytes number) then free_from bytes more (number + 1) else number

-- the least number that has no bytes; it is at most one more than the sum of those that have some
unfoldable pub least_free : map.FinMap nat_cmp (List ℕ) → ℕ
least_free bytes = free_from bytes (sum (map.keys bytes) + 1) 0

-- nothing stands there, in a directory that does
abbrev pub is_free : PathKind → Bool
is_free Directory = false
is_free File = false
is_free Free = true
is_free NoParent = false
is_free UnderFile = false

-- a directory stands there
abbrev pub is_directory : PathKind → Bool
is_directory Directory = true
is_directory File = false
is_directory Free = false
is_directory NoParent = false
is_directory UnderFile = false

-- a row that suits free paths alone
abbrev pub if_free : {A : Type 0} → Parts → Row A → Row A
if_free path row t = if is_free (kind_of t path) then row t else None

-- a row that suits directories alone
abbrev pub if_directory : {A : Type 0} → Parts → Row A → Row A
if_directory path row t = if is_directory (kind_of t path) then row t else None

-- the tree with a new file, which is empty and open once
abbrev pub created : Tree → Parts → Tree
created t path = opened (with_file t path (least_free t.bytes) []) (least_free t.bytes)

-- to create a file at a free path gives it the least number that has no bytes
abbrev pub create_row : Parts → Row ℕ
create_row path = if_free path (λ t. Some (record { answer = least_free t.bytes; tree = created t path }))

-- a list cut to so many, or filled with zeros
abbrev pub sized : ℕ → List ℕ → List ℕ
sized size bytes = take size bytes ++ replicate (size - length bytes) 0

-- bytes from a place on, with zeros up to it and the rest kept
abbrev pub written : ℕ → List ℕ → List ℕ → List ℕ
written at new bytes = sized at bytes ++ (new ++ drop (at + length new) bytes)

-- the tree in which a number holds these bytes
abbrev pub holding : Tree → ℕ → List ℕ → Tree
holding t number bytes = record t { bytes = map.insert t.bytes number bytes }

-- some bytes that end below 2^63
abbrev pub is_writable : ℕ → List ℕ → Bool
is_writable at new = nat_lt 0 (length new) && nat_lt (at + length new) (2 ^ 63)

-- to write some bytes to an open number, ending below 2^63
abbrev pub write_row : ℕ → ℕ → List ℕ → Row Unit
write_row number at new =
    if_open number (λ t. if is_writable at new then Some
    (record { answer = tt; tree = holding t number (written at new (bytes_of t number)) }) else None)

-- to cut an open number or fill it with zeros
abbrev pub set_size_row : ℕ → ℕ → Row Unit
set_size_row number size =
    if_open number (λ t. Some (record { answer = tt; tree = holding t number (sized size (bytes_of t number)) }))

-- the tree without a name
abbrev pub without : Tree → Parts → Tree
without t path = record t { names = map.remove t.names path }

-- the bytes of a number stay while it is open or has a name
abbrev pub dropped : Tree → ℕ → Tree
dropped t number =
    if opens_of t number == 0 && not (is_named t number) then record t { bytes = map.remove t.bytes number } else t

-- the name of the file that was found goes
abbrev pub unnamed : Tree → Parts → Option ℕ → Option (After Unit)
unnamed t path None = None
unnamed t path (Some number) = Some (record { answer = tt; tree = dropped (without t path) number })

-- to remove the name of a file
abbrev pub remove_row : Parts → Row Unit
remove_row path t = unnamed t path (number_at t path)

-- to make a directory at a free path
abbrev pub make_dir_row : Parts → Row Unit
make_dir_row path = if_free path (λ t. Some (record { answer = tt; tree = named t path directory }))

-- a path stands strictly below another
abbrev pub is_below : Parts → Parts → Bool
is_below [] [] = false
is_below [] (part ∷ below) = true
is_below (part ∷ parts) [] = false
is_below (part ∷ parts) (other ∷ below) = eq_by_cmp (slice_cmp nat_cmp) part other && is_below parts below

-- some name stands below a path
abbrev pub is_filled : Tree → Parts → Bool
is_filled t path = list_any (is_below path) (map.keys t.names)

-- a directory in which a name stands stays, and the answer is false; an empty one goes
abbrev pub emptied : Tree → Parts → After Bool
emptied t path = if is_filled t path then record { answer = false; tree = t }
    else record { answer = true; tree = without t path }

-- to remove a directory that is not the root
abbrev pub remove_dir_row : Parts → Row Bool
remove_dir_row [] t = None
remove_dir_row (part ∷ parts) t = if_directory (part ∷ parts) (λ t. Some (emptied t (part ∷ parts))) t
