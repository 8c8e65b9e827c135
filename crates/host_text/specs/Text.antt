-- What a host does, as a text that asks and goes on by what it is answered.
use Rattle.std.specs.Prelude.{ℕ, Bool, List}
use Rattle.chunk_memory.specs.declared.stops.MemStop.{MemStop}
use Rattle.folder_tree.specs.Paths.{Parts}
use Rattle.folder_tree.specs.TreeOps.{Row, kind_row, open_row, create_row, release_row, size_row, read_row, write_row}
use Rattle.folder_tree.specs.TreeOps.{set_size_row, remove_row, make_dir_row, remove_dir_row}
use Rattle.folder_tree.specs.declared.folder.FolderStop.{FolderStop}
use Rattle.folder_tree.specs.declared.folder.PathKind.{PathKind}

-- what is asked of a folder
pub data Query : Type 0 where
  Kind : (path : Parts) → Query
  OpenFile : (path : Parts) → Query
  Create : (path : Parts) → Query
  Release : (number : ℕ) → Query
  Size : (number : ℕ) → Query
  ReadAt : (number at count : ℕ) → Query
  WriteAt : (number at : ℕ) (bytes : List ℕ) → Query
  SetSize : (number size : ℕ) → Query
  Remove : (path : Parts) → Query
  MakeDir : (path : Parts) → Query
  RemoveDir : (path : Parts) → Query

-- what is answered
abbrev pub Reply : Query → Type 0
Reply (Kind path) = PathKind
Reply (OpenFile path) = ℕ
Reply (Create path) = ℕ
Reply (Release number) = Unit {0}
Reply (Size number) = ℕ
Reply (ReadAt number at count) = List ℕ
Reply (WriteAt number at bytes) = Unit {0}
Reply (SetSize number size) = Unit {0}
Reply (Remove path) = Unit {0}
Reply (MakeDir path) = Unit {0}
Reply (RemoveDir path) = Bool

-- what the call does to a tree
abbrev pub row_of : (q : Query) → Row (Reply q)
row_of (Kind path) = kind_row path
row_of (OpenFile path) = open_row path
row_of (Create path) = create_row path
row_of (Release number) = release_row number
row_of (Size number) = size_row number
row_of (ReadAt number at count) = read_row number at count
row_of (WriteAt number at bytes) = write_row number at bytes
row_of (SetSize number size) = set_size_row number size
row_of (Remove path) = remove_row path
row_of (MakeDir path) = make_dir_row path
row_of (RemoveDir path) = remove_dir_row path

-- a text over what the host keeps, which ends with an answer or a fault: ranges of guest memory are read and
-- written, the outside is asked, and the host notes what it keeps from now on
pub data Text (H A E : Type 0) : Type 0 where
  Done : A → Text H A E
  Fail : E → Text H A E
  Read : (at count : ℕ) → (MemStop → E) → (List ℕ → Text H A E) → Text H A E
  Write : (at : ℕ) (bytes : List ℕ) → (MemStop → E) → Text H A E → Text H A E
  Take : (count : ℕ) → E → (List ℕ → Text H A E) → Text H A E
  Put : (bytes : List ℕ) → E → Text H A E → Text H A E
  Ask : (q : Query) → (FolderStop → E) → (Reply q → Text H A E) → Text H A E
  Note : (H → H) → Text H A E → Text H A E
  Look : (H → Text H A E) → Text H A E

-- one text after another, where the first one's faults are those of the whole
abbrev pub then_do : {H A B D E : Type 0} → (D → E) → Text H A D → (A → Text H B E) → Text H B E
then_do f (Done a) k = k a
then_do f (Fail e) k = Fail (f e)
then_do f (Read at count stop more) k = Read at count (λ why. f (stop why)) (λ bytes. then_do f (more bytes) k)
then_do f (Write at bytes stop more) k = Write at bytes (λ why. f (stop why)) (then_do f more k)
then_do f (Take count e more) k = Take count (f e) (λ bytes. then_do f (more bytes) k)
then_do f (Put bytes e more) k = Put bytes (f e) (then_do f more k)
then_do f (Ask q stop more) k = Ask q (λ why. f (stop why)) (λ reply. then_do f (more reply) k)
then_do f (Note g more) k = Note g (then_do f more k)
then_do f (Look more) k = Look (λ h. then_do f (more h) k)
