-- What a step asks of the outside: it calls no other object than this, and puts nothing else on the console.
use Rattle.std.specs.Prelude.{◌≡◌, ℕ, ◌==◌, ◌&&◌, if◌then◌else◌, Bool, true, false, List, [], ◌∷◌}
use Rattle.host_text.specs.declared.open_numbers.Open.{Open}
use Rattle.host_text.specs.declared.open_numbers.Open.TheVariants.{Closed, Input, Console, File}
use Rattle.syscall_proxy.specs.HostRow.{user_bytes}
use Rattle.syscall_proxy.specs.Kept.{open_at}
use Rattle.syscall_proxy.specs.OpenFlags.{cuts}
use Rattle.syscall_proxy.specs.Rows.{word, low, bounded}
use Rattle.plain_machine.specs.Direct.{Machine, running, dying, ended}
use Rattle.plain_machine.specs.KernelPart.{Part, gives, breaks, posts, scans}
use Rattle.plain_machine.specs.Programs.{Process, part_of}
use Rattle.plain_machine.specs.UserStep.{UserStep, next, call, trap, user_step}

-- nothing of the outside, the folder, the input, or the console, on which these bytes are put
pub data Asked : Type 0 where
  nothing : Asked
  the_folder : Asked
  the_input : Asked
  the_console : List ℕ → Asked

-- a call on what stands at a number asks the folder where that is a file
abbrev pub file_asks : Open → Asked
file_asks Closed = nothing
file_asks Input = nothing
file_asks Console = nothing
file_asks (File file) = the_folder

-- a read asks for what stands at its number, but for no bytes it does not ask the input
abbrev pub read_asks : Open → ℕ → Asked
read_asks Closed count = nothing
read_asks Input count = if count == 0 then nothing else the_input
read_asks Console count = nothing
read_asks (File file) count = the_folder

-- a write asks what stands at its number, and puts the buffer's bytes on the console, if there are some
abbrev pub write_asks : Open → List ℕ → ℕ → ℕ → Asked
write_asks Closed user buffer count = nothing
write_asks Input user buffer count = nothing
write_asks Console user buffer count = if count == 0 then nothing else the_console (user_bytes.get user buffer count)
write_asks (File file) user buffer count = the_folder

-- what stands at the number that a request names
abbrev pub number_of : List Open → List ℕ → Open
number_of numbers request = open_at numbers (low (word request 1))

-- what the row of a request asks, by its number, with these open numbers and user bytes: mkdirat, unlinkat, faccessat
-- and openat ask the folder, and so do ftruncate, close, lseek, pread64, pwrite64 and fstat of a file
abbrev pub asks_by : ℕ → List Open → List ℕ → List ℕ → Asked
asks_by number numbers request user =
    if number == 34 then the_folder
    else if number == 35 then the_folder
    else if number == 46 then file_asks (number_of numbers request)
    else if number == 48 then the_folder
    else if number == 56 then the_folder
    else if number == 57 then file_asks (number_of numbers request)
    else if number == 62 then file_asks (number_of numbers request)
    else if number == 63 then read_asks (number_of numbers request) (bounded (word request 3))
    else if number == 64 then write_asks (number_of numbers request) user (word request 2) (bounded (word request 3))
    else if number == 67 then file_asks (number_of numbers request)
    else if number == 68 then file_asks (number_of numbers request)
    else if number == 80 then file_asks (number_of numbers request)
    else nothing

-- what the row of a request asks
abbrev pub row_asks : List Open → List ℕ → List ℕ → Asked
row_asks numbers request user = asks_by (word request 0) numbers request user

-- what a call asks, by its kernel part
abbrev pub part_asks : List Open → List ℕ → Part → Asked
part_asks numbers user (gives answer) = nothing
part_asks numbers user (breaks moved) = nothing
part_asks numbers user (posts request) = row_asks numbers request user
part_asks numbers user scans = nothing

-- what a user step asks: a call alone asks something
abbrev pub user_asks : List Open → Process → UserStep → Asked
user_asks numbers process (next moved) = nothing
user_asks numbers process call = part_asks numbers process.state.user (part_of process)
user_asks numbers process (trap cause value) = nothing

-- what the machine's next direct step asks, with these open numbers
abbrev pub step_asks : List Open → Machine → Asked
step_asks numbers (running process) = user_asks numbers process (user_step process.state)
step_asks numbers (dying [] status) = nothing
step_asks numbers (dying (byte ∷ text) status) = the_console (byte ∷ [])
step_asks numbers (ended status) = nothing

-- the folder is asked
abbrev pub asks_folder : Asked → Bool
asks_folder nothing = false
asks_folder the_folder = true
asks_folder the_input = false
asks_folder (the_console bytes) = false

-- the input is asked
abbrev pub asks_input : Asked → Bool
asks_input nothing = false
asks_input the_folder = false
asks_input the_input = true
asks_input (the_console bytes) = false

-- what the folder or the input answers is needed
abbrev pub needs_outside : Asked → Bool
needs_outside nothing = false
needs_outside the_folder = true
needs_outside the_input = true
needs_outside (the_console bytes) = false

-- the bytes that are put on the console
abbrev pub puts_of : Asked → List ℕ
puts_of nothing = []
puts_of the_folder = []
puts_of the_input = []
puts_of (the_console bytes) = bytes

-- a request of openat, 56, whose flags take a file's bytes away
abbrev pub request_cuts : List ℕ → Bool
request_cuts request = word request 0 == 56 && cuts (low (word request 4))

-- the same of a call, by its kernel part
abbrev pub part_cuts : Part → Bool
part_cuts (gives answer) = false
part_cuts (breaks moved) = false
part_cuts (posts request) = request_cuts request
part_cuts scans = false

-- the same of a user step
abbrev pub user_cuts : Process → UserStep → Bool
user_cuts process (next moved) = false
user_cuts process call = part_cuts (part_of process)
user_cuts process (trap cause value) = false

-- the machine's next direct step is an openat that takes a file's bytes away
abbrev pub step_cuts : Machine → Bool
step_cuts (running process) = user_cuts process (user_step process.state)
step_cuts (dying text status) = false
step_cuts (ended status) = false
