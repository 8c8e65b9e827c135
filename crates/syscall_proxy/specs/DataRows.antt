-- The rows that move bytes: read, write, pread64 and pwrite64.
use Rattle.std.specs.Prelude.{ℕ, ◌+◌, ◌-◌, ◌^◌, ◌==◌, not, nat_lt, nat_le, if◌then◌else◌, List, length}
use Rattle.fe_base.specs.Limits.{guest_file_limit}
use Rattle.fe_base.specs.declared.error_numbers.ErrNo.TheVariants.{EBADF, EFBIG, EINVAL, ESPIPE}
use Rattle.host_text.specs.Text.{Done, Read, Take, Put, Ask, Note, Size, ReadAt, WriteAt}
use Rattle.host_text.specs.declared.open_numbers.Open.{Open}
use Rattle.host_text.specs.declared.open_numbers.Open.TheVariants.{Closed, Input, Console, File}
use Rattle.host_text.specs.declared.open_numbers.OpenFile.{OpenFile}
use Rattle.syscall_proxy.specs.Kept.{Kept, open_at, acts, opens}
use Rattle.syscall_proxy.specs.Rows.{Row, folder_fault, done, refuse, give, placed, moved}
use Rattle.syscall_proxy.specs.declared.answers.CallAnswer.TheVariants.{Result as Value}
use Rattle.syscall_proxy.specs.declared.answers.CallFault.TheVariants.{Port, InputFault, ConsoleFault}

-- read of the input
abbrev pub read_input : ℕ → ℕ → Row
read_input buffer count = if count == 0 then done 0 else Take count InputFault (λ bytes. Note acts (give buffer bytes))

-- read of a file from its place, which moves
abbrev pub read_file : ℕ → OpenFile → ℕ → ℕ → Row
read_file fd file buffer count =
    if not file.reads then refuse EBADF
    else if count == 0 then done 0
    else Ask (ReadAt file.number file.position count) folder_fault
    (λ bytes. Note (opens fd (placed file (moved file.position (length bytes)))) (give buffer bytes))

-- read of what stands at a number
abbrev pub read_open : Open → ℕ → ℕ → ℕ → Row
read_open Closed fd buffer count = refuse EBADF
read_open Input fd buffer count = read_input buffer count
read_open Console fd buffer count = refuse EBADF
read_open (File file) fd buffer count = read_file fd file buffer count

-- read, 63
abbrev pub read_row : List Open → ℕ → ℕ → ℕ → Row
read_row numbers fd buffer count = read_open (open_at numbers fd) fd buffer count

-- write to the console
abbrev pub write_console : ℕ → ℕ → Row
write_console buffer count = if count == 0 then done 0 else Read buffer count Port
    (λ bytes. Put bytes ConsoleFault (done count))

-- the guest's bytes are read and written to a file at a place, which ends the call
abbrev pub write_bytes : OpenFile → ℕ → ℕ → ℕ → (Kept → Kept) → Row
write_bytes file place buffer count notes =
    if nat_lt (guest_file_limit - count) place then refuse EFBIG
    else Read buffer count Port (λ bytes. Ask (WriteAt file.number place bytes) folder_fault
    (λ all. Note notes (Done (Value count))))

-- write to a file at a place, behind which the file's place is then
abbrev pub write_place : ℕ → OpenFile → ℕ → ℕ → ℕ → Row
write_place fd file place buffer count = write_bytes file place buffer count (opens fd (placed file (place + count)))

-- write to a file: at its end where it appends, else at its place
abbrev pub write_file : ℕ → OpenFile → ℕ → ℕ → Row
write_file fd file buffer count =
    if not file.writes then refuse EBADF
    else if count == 0 then done 0
    else if file.appends then Ask (Size file.number) folder_fault (λ size. write_place fd file size buffer count)
    else write_place fd file file.position buffer count

-- write to what stands at a number
abbrev pub write_open : Open → ℕ → ℕ → ℕ → Row
write_open Closed fd buffer count = refuse EBADF
write_open Input fd buffer count = refuse EBADF
write_open Console fd buffer count = write_console buffer count
write_open (File file) fd buffer count = write_file fd file buffer count

-- write, 64
abbrev pub write_row : List Open → ℕ → ℕ → ℕ → Row
write_row numbers fd buffer count = write_open (open_at numbers fd) fd buffer count

-- read of a file at an offset; its place plays no part
abbrev pub pread_file : OpenFile → ℕ → ℕ → ℕ → Row
pread_file file buffer count offset =
    if not file.reads then refuse EBADF
    else if nat_le (2 ^ 63) offset then refuse EINVAL
    else if count == 0 then done 0
    else Ask (ReadAt file.number offset count) folder_fault (λ bytes. Note acts (give buffer bytes))

-- the same of what stands at a number
abbrev pub pread_open : Open → ℕ → ℕ → ℕ → Row
pread_open Closed buffer count offset = refuse EBADF
pread_open Input buffer count offset = refuse ESPIPE
pread_open Console buffer count offset = refuse ESPIPE
pread_open (File file) buffer count offset = pread_file file buffer count offset

-- pread64, 67
abbrev pub pread_row : List Open → ℕ → ℕ → ℕ → ℕ → Row
pread_row numbers fd buffer count offset = pread_open (open_at numbers fd) buffer count offset

-- write to a file at an offset; neither its place nor whether it appends plays a part
abbrev pub pwrite_file : OpenFile → ℕ → ℕ → ℕ → Row
pwrite_file file buffer count offset =
    if not file.writes then refuse EBADF
    else if nat_le (2 ^ 63) offset then refuse EINVAL
    else if count == 0 then done 0
    else write_bytes file offset buffer count acts

-- the same of what stands at a number
abbrev pub pwrite_open : Open → ℕ → ℕ → ℕ → Row
pwrite_open Closed buffer count offset = refuse EBADF
pwrite_open Input buffer count offset = refuse ESPIPE
pwrite_open Console buffer count offset = refuse ESPIPE
pwrite_open (File file) buffer count offset = pwrite_file file buffer count offset

-- pwrite64, 68
abbrev pub pwrite_row : List Open → ℕ → ℕ → ℕ → ℕ → Row
pwrite_row numbers fd buffer count offset = pwrite_open (open_at numbers fd) buffer count offset
