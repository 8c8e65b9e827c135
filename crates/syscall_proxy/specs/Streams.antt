-- What a request asks of the outside: how many bytes of the input, how many it puts on the console, and whether it is to cut
-- a file.
use Rattle.std.specs.Prelude.{◌≡◌, ◌++◌, ℕ, Bool, true, false, List}
use Rattle.folder_tree.specs.Paths.{Parts}
use Rattle.host_text.specs.declared.open_numbers.Open.{Open}
use Rattle.host_text.specs.declared.open_numbers.Open.TheVariants.{Closed, Input, Console, File}
use Rattle.syscall_proxy.specs.CallTable.{service_of}
use Rattle.syscall_proxy.specs.Kept.{Setting, open_at}
use Rattle.syscall_proxy.specs.OpenFlags.{cuts}
use Rattle.syscall_proxy.specs.Rows.{word, low, bounded}
use Rattle.syscall_proxy.specs.declared.service.Service.{Service}
use Rattle.syscall_proxy.specs.declared.service.Service.TheVariants.{MakeDir, Unlink, Truncate, Access, OpenAt, Close}
use Rattle.syscall_proxy.specs.declared.service.Service.TheVariants.{Seek, Read, Write, ReadPlace, WritePlace, Stat}
use Rattle.syscall_proxy.specs.declared.service.Service.TheVariants.{Exit, MainVars, Unknown}

-- a read of so many bytes asks the input for them where it stands at the number
abbrev pub taken_at : Open → ℕ → ℕ
taken_at Closed count = 0
taken_at Input count = count
taken_at Console count = 0
taken_at (File file) count = 0

-- a write of so many bytes puts them where the console stands at the number
abbrev pub put_at : Open → ℕ → ℕ
put_at Closed count = 0
put_at Input count = 0
put_at Console count = count
put_at (File file) count = 0

-- how many bytes a call asks of the input
abbrev pub taken_for : Service → List Open → List ℕ → ℕ
taken_for MakeDir numbers request = 0
taken_for Unlink numbers request = 0
taken_for Truncate numbers request = 0
taken_for Access numbers request = 0
taken_for OpenAt numbers request = 0
taken_for Close numbers request = 0
taken_for Seek numbers request = 0
taken_for Read numbers request = taken_at (open_at numbers (low (word request 1))) (bounded (word request 3))
taken_for Write numbers request = 0
taken_for ReadPlace numbers request = 0
taken_for WritePlace numbers request = 0
taken_for Stat numbers request = 0
taken_for Exit numbers request = 0
taken_for MainVars numbers request = 0
taken_for Unknown numbers request = 0

-- how many bytes it puts on the console
abbrev pub put_for : Service → List Open → List ℕ → ℕ
put_for MakeDir numbers request = 0
put_for Unlink numbers request = 0
put_for Truncate numbers request = 0
put_for Access numbers request = 0
put_for OpenAt numbers request = 0
put_for Close numbers request = 0
put_for Seek numbers request = 0
put_for Read numbers request = 0
put_for Write numbers request = put_at (open_at numbers (low (word request 1))) (bounded (word request 3))
put_for ReadPlace numbers request = 0
put_for WritePlace numbers request = 0
put_for Stat numbers request = 0
put_for Exit numbers request = 0
put_for MainVars numbers request = 0
put_for Unknown numbers request = 0

-- the same by the request
abbrev pub call_takes : List Open → List ℕ → ℕ
call_takes numbers request = taken_for (service_of (word request 0)) numbers request

abbrev pub call_puts : List Open → List ℕ → ℕ
call_puts numbers request = put_for (service_of (word request 0)) numbers request

-- a file stands there
abbrev pub is_file : Open → Bool
is_file Closed = false
is_file Input = false
is_file Console = false
is_file (File file) = true

-- a call asks the folder something: one of a path, and one of an open number at which a file stands
abbrev pub asks_for : Service → List Open → List ℕ → Bool
asks_for MakeDir numbers request = true
asks_for Unlink numbers request = true
asks_for Truncate numbers request = is_file (open_at numbers (low (word request 1)))
asks_for Access numbers request = true
asks_for OpenAt numbers request = true
asks_for Close numbers request = is_file (open_at numbers (low (word request 1)))
asks_for Seek numbers request = is_file (open_at numbers (low (word request 1)))
asks_for Read numbers request = is_file (open_at numbers (low (word request 1)))
asks_for Write numbers request = is_file (open_at numbers (low (word request 1)))
asks_for ReadPlace numbers request = is_file (open_at numbers (low (word request 1)))
asks_for WritePlace numbers request = is_file (open_at numbers (low (word request 1)))
asks_for Stat numbers request = is_file (open_at numbers (low (word request 1)))
asks_for Exit numbers request = false
asks_for MainVars numbers request = false
asks_for Unknown numbers request = false

-- the same by the request
abbrev pub call_asks : List Open → List ℕ → Bool
call_asks numbers request = asks_for (service_of (word request 0)) numbers request

-- openat cuts the file that it opens, if its flags say so
abbrev pub cuts_for : Service → List ℕ → Bool
cuts_for MakeDir request = false
cuts_for Unlink request = false
cuts_for Truncate request = false
cuts_for Access request = false
cuts_for OpenAt request = cuts (low (word request 4))
cuts_for Close request = false
cuts_for Seek request = false
cuts_for Read request = false
cuts_for Write request = false
cuts_for ReadPlace request = false
cuts_for WritePlace request = false
cuts_for Stat request = false
cuts_for Exit request = false
cuts_for MainVars request = false
cuts_for Unknown request = false

-- the same by the request
abbrev pub call_cuts : List ℕ → Bool
call_cuts request = cuts_for (service_of (word request 0)) request

-- a path below a root
abbrev pub StandsBelow : Parts → Parts → Type 0
StandsBelow root path = (below : Parts) × (path ≡ root ++ below)

-- the file at this path may have been opened by a call that was refused: the call was to cut it
abbrev pub MayOpen : Setting → List ℕ → Parts → Type 0
MayOpen given request path = (call_cuts request ≡ true) × StandsBelow given.root path
