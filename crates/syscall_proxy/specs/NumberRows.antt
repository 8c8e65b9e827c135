-- The rows that look at an open number or move its place: close, lseek and ftruncate.
use Rattle.std.specs.Prelude.{ℕ, ◌+◌, ◌-◌, ◌^◌, ◌==◌, not, nat_lt, nat_le, if◌then◌else◌, true, List, Option, Some}
use Rattle.std.specs.Prelude.{None, slice_set}
use Rattle.fe_base.specs.ErrorNumbers.{error_number}
use Rattle.fe_base.specs.Limits.{guest_file_limit}
use Rattle.fe_base.specs.declared.error_numbers.ErrNo.TheVariants.{EBADF, EFBIG, EINVAL, ESPIPE}
use Rattle.host_text.specs.Text.{Done, Ask, Note, Size, SetSize, Release}
use Rattle.host_text.specs.declared.open_numbers.Open.{Open}
use Rattle.host_text.specs.declared.open_numbers.Open.TheVariants.{Closed, Input, Console, File}
use Rattle.host_text.specs.declared.open_numbers.OpenFile.{OpenFile}
use Rattle.syscall_proxy.specs.Kept.{Kept, open_at, acts, opens}
use Rattle.syscall_proxy.specs.Rows.{Row, folder_fault, done, refuse, placed}
use Rattle.syscall_proxy.specs.declared.answers.CallAnswer.{CallAnswer}
use Rattle.syscall_proxy.specs.declared.answers.CallAnswer.TheVariants.{Result as Value}

-- the number is free from now on
abbrev pub close_number : ℕ → Row
close_number fd = Note (opens fd Closed) (Done (Value 0))

-- close of what stands at a number
abbrev pub close_open : Open → ℕ → Row
close_open Closed fd = refuse EBADF
close_open Input fd = close_number fd
close_open Console fd = close_number fd
close_open (File file) fd = Ask (Release file.number) folder_fault (λ all. close_number fd)

-- close, 57
abbrev pub close_row : List Open → ℕ → Row
close_row numbers fd = close_open (open_at numbers fd) fd

-- a place that is none above 2^63 - 1
abbrev pub in_reach : ℕ → Option ℕ
in_reach place = if nat_lt place (2 ^ 63) then Some place else None

-- the place that an offset of 64 bits in two's complement leads to from a base, where it is neither below 0 nor above
-- 2^63 - 1
abbrev pub new_position : ℕ → ℕ → Option ℕ
new_position base offset =
    if nat_lt offset (2 ^ 63) then in_reach (base + offset)
    else if nat_lt base (2 ^ 64 - offset) then None
    else in_reach (base - (2 ^ 64 - offset))

-- the result of a seek
abbrev pub sought_value : Option ℕ → ℕ
sought_value None = 2 ^ 64 - error_number EINVAL
sought_value (Some place) = place

-- the open numbers that it leaves
abbrev pub sought_numbers : List Open → ℕ → OpenFile → Option ℕ → List Open
sought_numbers numbers fd file None = numbers
sought_numbers numbers fd file (Some place) = slice_set numbers fd (placed file place)

-- the call acts, and the file's place is the new one, if there is one
abbrev pub seeks : ℕ → OpenFile → Option ℕ → Kept → Kept
seeks fd file position k = record k { acted = true; numbers = sought_numbers k.numbers fd file position }

-- a seek to such a place
abbrev pub sought : ℕ → OpenFile → Option ℕ → Row
sought fd file position = Note (seeks fd file position) (Done (Value (sought_value position)))

-- lseek of a file, by SEEK_SET 0, SEEK_CUR 1 and SEEK_END 2 (Linux, include/uapi/linux/fs.h)
abbrev pub seek : ℕ → OpenFile → ℕ → ℕ → Row
seek fd file offset whence =
    if nat_lt 2 whence then refuse EINVAL
    else if whence == 2 then Ask (Size file.number) folder_fault (λ size. sought fd file (new_position size offset))
    else if whence == 1 then sought fd file (new_position file.position offset)
    else sought fd file (new_position 0 offset)

-- lseek of what stands at a number
abbrev pub lseek_open : Open → ℕ → ℕ → ℕ → Row
lseek_open Closed fd offset whence = refuse EBADF
lseek_open Input fd offset whence = refuse ESPIPE
lseek_open Console fd offset whence = refuse ESPIPE
lseek_open (File file) fd offset whence = seek fd file offset whence

-- lseek, 62
abbrev pub lseek_row : List Open → ℕ → ℕ → ℕ → Row
lseek_row numbers fd offset whence = lseek_open (open_at numbers fd) fd offset whence

-- ftruncate of a file; a size of 2^63 or more is a negative one
abbrev pub truncate_file : OpenFile → ℕ → Row
truncate_file file size =
    if not file.writes then refuse EINVAL
    else if nat_le (2 ^ 63) size then refuse EINVAL
    else if nat_lt guest_file_limit size then refuse EFBIG
    else Ask (SetSize file.number size) folder_fault (λ all. done 0)

-- ftruncate of what stands at a number
abbrev pub truncate_open : Open → ℕ → Row
truncate_open Closed size = refuse EBADF
truncate_open Input size = refuse EINVAL
truncate_open Console size = refuse EINVAL
truncate_open (File file) size = truncate_file file size

-- ftruncate, 46
abbrev pub truncate_row : List Open → ℕ → ℕ → Row
truncate_row numbers fd size = truncate_open (open_at numbers fd) size
