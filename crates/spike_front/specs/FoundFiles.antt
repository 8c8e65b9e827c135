-- The file, or the directory, that a word names: what is found at its path, and what finding it leaves of a tree.
use Rattle.std.specs.Prelude.{◌≡◌, ◌<◌, ◌≤◌, ◌⊎◌, ℕ, ⊤, if◌then◌else◌, List, length, Option, Some, None, Result}
use Rattle.std.specs.Prelude.{Ok, Err}
use Rattle.fe_base.specs.declared.error_numbers.ErrNo.{ErrNo}
use Rattle.folder_tree.specs.Paths.{Parts, path_of}
use Rattle.folder_tree.specs.Tree.{Tree, IsWellFormed, file_of, kind_of, number_at}
use Rattle.folder_tree.specs.TreeOps.{is_directory, opened}
use Rattle.folder_tree.specs.declared.folder.FolderStop.{FolderStop}
use Rattle.folder_tree.specs.declared.folder.FolderStop.TheVariants.{Failed, NoMemory}
use Rattle.spike_front.specs.declared.file.Stop.{Stop}
use Rattle.spike_front.specs.declared.file.Stop.TheVariants.{FileFault, OutOfMemory}
use Rattle.spike_front.specs.declared.file.FoundFile.{FoundFile}
use Rattle.spike_front.specs.declared.file.FoundFile.TheVariants.{Missing, TooLarge, Bytes}

-- the file at a path that was read; what is no path names none
abbrev pub file_at : Result Parts ErrNo → Tree → Option (List ℕ)
file_at (Ok path) t = file_of t path
file_at (Err number) t = None

-- the file that a word names
abbrev pub file_named : List ℕ → Tree → Option (List ℕ)
file_named word t = file_at (path_of word) t

-- the path that was read, where it is that of a directory; what is no path names none
abbrev pub directory_at : Result Parts ErrNo → Tree → Option Parts
directory_at (Ok path) t = if is_directory (kind_of t path) then Some path else None
directory_at (Err number) t = None

-- the path of the directory that a word names
abbrev pub directory_named : List ℕ → Tree → Option Parts
directory_named word t = directory_at (path_of word) t

-- what was read of an open file with these bytes, where at most so many are read
abbrev pub IsReadOf : ℕ → List ℕ → FoundFile → Type 0
IsReadOf limit bytes Missing = ⊥
IsReadOf limit bytes TooLarge = limit < length bytes
IsReadOf limit bytes (Bytes read) = (length bytes ≤ limit) × (read.items ≡ bytes)

-- what was found at a path with this file, if it has one, where at most so many bytes are read
abbrev pub IsFound : ℕ → Option (List ℕ) → FoundFile → Type 0
IsFound limit file Missing = file ≡ None
IsFound limit file TooLarge = (bytes : List ℕ) × (file ≡ Some bytes) × (limit < length bytes)
IsFound limit file (Bytes read) = (file ≡ Some read.items) × (length read.items ≤ limit)

-- what was found has at most so many bytes, whatever the folder tells
abbrev pub IsBounded : ℕ → FoundFile → Type 0
IsBounded limit Missing = ⊤
IsBounded limit TooLarge = ⊤
IsBounded limit (Bytes read) = length read.items ≤ limit

-- why a folder's call stops the work
abbrev pub stop_of : FolderStop → Stop
stop_of Failed = FileFault
stop_of NoMemory = OutOfMemory

-- a tree is told as it was, or with one of its files open once more
abbrev pub StaysOrOpens : Tree → Option Tree → Type 0
StaysOrOpens t told = (told ≡ Some t) ⊎ ((path : Parts) × (number : ℕ) × (number_at t path ≡ Some number)
    × (told ≡ Some (opened t number)))

-- a well-formed tree is told
abbrev pub StaysWellFormed : Option Tree → Type 0
StaysWellFormed told = (now : Tree) × (told ≡ Some now) × IsWellFormed now
