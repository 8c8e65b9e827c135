-- What the rows of the call table are made of.
use Rattle.std.specs.Prelude.{ℕ, ◌+◌, ◌-◌, ◌%◌, ◌^◌, min, Bool, true, false, List, length, get_or}
use Rattle.fe_base.specs.ErrorNumbers.{error_number}
use Rattle.fe_base.specs.Limits.{transfer_limit}
use Rattle.fe_base.specs.declared.error_numbers.ErrNo.{ErrNo}
use Rattle.folder_tree.specs.declared.folder.FolderStop.{FolderStop}
use Rattle.folder_tree.specs.declared.folder.FolderStop.TheVariants.{Failed, NoMemory}
use Rattle.host_text.specs.Text.{Text, Done, Write, Note}
use Rattle.host_text.specs.declared.open_numbers.Open.{Open}
use Rattle.host_text.specs.declared.open_numbers.Open.TheVariants.{Closed, Input, Console, File}
use Rattle.host_text.specs.declared.open_numbers.OpenFile.{OpenFile}
use Rattle.syscall_proxy.specs.Kept.{Kept, acts}
use Rattle.syscall_proxy.specs.declared.answers.CallAnswer.{CallAnswer}
use Rattle.syscall_proxy.specs.declared.answers.CallAnswer.TheVariants.{Result as Value}
use Rattle.syscall_proxy.specs.declared.answers.CallFault.{CallFault}
use Rattle.syscall_proxy.specs.declared.answers.CallFault.TheVariants.{Port, FileFault, OutOfMemory}

-- a row: what the host does for a call
abbrev pub Row : Type 0
Row = Text Kept CallAnswer CallFault

-- what a folder's refusal is to the caller
abbrev pub folder_fault : FolderStop → CallFault
folder_fault Failed = FileFault
folder_fault NoMemory = OutOfMemory

-- the call acts by its result
abbrev pub done : ℕ → Row
done value = Note acts (Done (Value value))

-- the call is refused: its result is the negated error number
abbrev pub refuse : ErrNo → Row
refuse error = done (2 ^ 64 - error_number error)

-- bytes are written to the guest, and then this is the result
abbrev pub give_as : ℕ → List ℕ → ℕ → Row
give_as buffer bytes value = Write buffer bytes Port (Done (Value value))

-- bytes are written to the guest, and then the result is how many they are
abbrev pub give : ℕ → List ℕ → Row
give buffer bytes = give_as buffer bytes (length bytes)

-- a file with its place moved
abbrev pub placed : OpenFile → ℕ → Open
placed file place = File (record file { position = place })

-- a place moved on; it stays at the last value of its type
abbrev pub moved : ℕ → ℕ → ℕ
moved position count = min (position + count) (2 ^ 64 - 1)

-- nothing stands at a number
abbrev pub is_closed : Open → Bool
is_closed Closed = true
is_closed Input = false
is_closed Console = false
is_closed (File file) = false

-- a word of the request
abbrev pub word : List ℕ → ℕ → ℕ
word request n = get_or request n 0

-- its low 32 bits
abbrev pub low : ℕ → ℕ
low n = n % 2 ^ 32

-- the count that one call moves at most
abbrev pub bounded : ℕ → ℕ
bounded count = min count transfer_limit
