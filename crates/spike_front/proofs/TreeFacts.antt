-- What the answers of a folder's calls tell of its files, one after another.
use Rattle.std.proofs.Common.{◌≡◌, ◌<◌, inl, inr, ℕ, List, Option, Some, Ok, Err, IsSome, length, refl, ap, sym, ◌∙◌, subst, arith}
use Rattle.folder_tree.specs.Paths.{Parts}
use Rattle.folder_tree.specs.Tree.{Tree, IsWellFormed, number_at, opens_of}
use Rattle.folder_tree.specs.TreeOps.{After, opened, released, release_row}
use Rattle.folder_tree.specs.Answers.{AnsweredBy, Suits}
use Rattle.folder_tree.specs.Laws.{named-bytes, number_at-named, opened-IsWellFormed, opens_of-opened, release_told, released-opened, files_of-released}
use Rattle.plain_machine.specs.Stands.{HasFiles}
use Rattle.folder_tree.specs.declared.folder.FolderStop.{FolderStop}
use Rattle.folder_tree.specs.declared.folder.FolderStop.TheVariants.{Failed, NoMemory}
use Rattle.spike_front.specs.FoundFiles.{IsFound, IsReadOf, StaysOrOpens, StaysWellFormed}
use Rattle.spike_front.specs.declared.file.FoundFile.{FoundFile}
use Rattle.spike_front.specs.declared.file.FoundFile.TheVariants.{Missing, TooLarge, Bytes}

-- a refused call leaves the tree
pub refused_told : {A : Type 0} (t : Tree) (after : Option Tree) (row : Tree → Option (After A)) (stop : FolderStop) → AnsweredBy {A = A} t after (row t) (Err stop) → after ≡ Some t
refused_told t after row Failed told = told
refused_told t after row NoMemory told = told.1

-- a call suits a told tree where its row does
pub suits_told : {A : Type 0} (t : Tree) (told : Option Tree) (row : Tree → Option (After A)) → told ≡ Some t → IsSome (row t) → Suits {A = A} told row
suits_told t told row is some = subst (λ (o : Option Tree). Suits o row) (sym is) some

pub same_files : (t : Tree) (told : Option Tree) → told ≡ Some t → HasFiles t told
same_files t told is = (t, is, refl)

pub opened_files : (t : Tree) (number : ℕ) (told : Option Tree) → told ≡ Some (opened t number) → HasFiles t told
opened_files t number told is = (opened t number, is, refl)

-- an opened number is open
pub is_open : (t : Tree) (number : ℕ) → 0 < opens_of (opened t number) number
is_open t number = omega (arith, opens_of-opened t number)

-- released after it was opened, the files are as they were, and in a well-formed tree all is
pub released_files : (t : Tree) (path : Parts) (number : ℕ) (after : Option Tree) → number_at t path ≡ Some number
    → AnsweredBy (opened t number) after (release_row number (opened t number)) (Ok tt) → HasFiles t after
released_files t path number after is told = (released (opened t number) number, release_told (opened t number) number after told, files_of-released (opened t number) number (number_at-named t path number is))

pub released_told : (t : Tree) (path : Parts) (number : ℕ) (after : Option Tree) → IsWellFormed t → number_at t path ≡ Some number
    → AnsweredBy (opened t number) after (release_row number (opened t number)) (Ok tt) → after ≡ Some t
released_told t path number after formed is told = release_told (opened t number) number after told ∙ ap Some (released-opened t number formed (number_at-named t path number is))

-- what was read of the file at a path
pub found_of : (limit : ℕ) (file : Option (List ℕ)) (bytes : List ℕ) (found : FoundFile) → file ≡ Some bytes → IsReadOf limit bytes found → IsFound limit file found
found_of limit file bytes Missing is read = absurd read
found_of limit file bytes TooLarge is read = (bytes, is, read)
found_of limit file bytes (Bytes items) is read = (is ∙ ap Some (sym read.1), omega (arith, read.0, ap length read.1))

-- with one of its files open once more, a tree is well formed
pub formed_still : (t : Tree) (told : Option Tree) → IsWellFormed t → StaysOrOpens t told → StaysWellFormed told
formed_still t told formed (inl same) = (t, same, formed)
formed_still t told formed (inr (path, number, at, is)) =
    (opened t number, is, opened-IsWellFormed t number formed (named-bytes t number formed (number_at-named t path number at)))
