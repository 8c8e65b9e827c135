-- The host's part of the call table: the text of each request.
use Rattle.std.specs.Prelude.{ℕ, ◌%◌, ◌==◌, ◌||◌, if◌then◌else◌, List}
use Rattle.fe_base.specs.declared.error_numbers.ErrNo.TheVariants.{ENOSYS}
use Rattle.host_text.specs.Text.{Done, Note}
use Rattle.host_text.specs.declared.open_numbers.Open.{Open}
use Rattle.syscall_proxy.specs.Kept.{Setting, acts}
use Rattle.syscall_proxy.specs.Rows.{Row, refuse, word, low, bounded}
use Rattle.syscall_proxy.specs.DataRows.{read_row, write_row, pread_row, pwrite_row}
use Rattle.syscall_proxy.specs.NumberRows.{close_row, lseek_row, truncate_row}
use Rattle.syscall_proxy.specs.PathRows.{make_dir_row, unlink_row, access_row, open_row}
use Rattle.syscall_proxy.specs.RecordRows.{stat_row, main_vars_row}
use Rattle.syscall_proxy.specs.declared.service.Service.{Service}
use Rattle.syscall_proxy.specs.declared.service.Service.TheVariants.{MakeDir, Unlink, Truncate, Access, OpenAt, Close}
use Rattle.syscall_proxy.specs.declared.service.Service.TheVariants.{Seek, Read, Write, ReadPlace, WritePlace, Stat}
use Rattle.syscall_proxy.specs.declared.service.Service.TheVariants.{Exit, MainVars, Unknown}
use Rattle.syscall_proxy.specs.declared.answers.CallAnswer.TheVariants.{Exit as Exits}

-- the table by number: mkdirat 34, unlinkat 35, ftruncate 46, faccessat 48, openat 56, close 57, lseek 62, read 63,
-- write
-- 64, pread64 67, pwrite64 68, fstat 80, exit 93 and exit_group 94 (Linux, include/uapi/asm-generic/unistd.h), and
-- getmainvars 2011 (riscv-pk)
unfoldable pub service_of : ℕ → Service
service_of number =
    if number == 34 then MakeDir
    else if number == 35 then Unlink
    else if number == 46 then Truncate
    else if number == 48 then Access
    else if number == 56 then OpenAt
    else if number == 57 then Close
    else if number == 62 then Seek
    else if number == 63 then Read
    else if number == 64 then Write
    else if number == 67 then ReadPlace
    else if number == 68 then WritePlace
    else if number == 80 then Stat
    else if number == 93 || number == 94 then Exit
    else if number == 2011 then MainVars
    else Unknown

-- the row of each; open numbers, directories, flags and whence are the low 32 bits of a word, and a status is the low 8
abbrev pub row_for : Service → Setting → List Open → List ℕ → Row
row_for MakeDir given numbers request = make_dir_row given.root (low (word request 1)) (word request 2) (word request 3)
row_for Unlink given numbers request =
    unlink_row given.root (low (word request 1)) (word request 2) (word request 3) (low (word request 4))
row_for Truncate given numbers request = truncate_row numbers (low (word request 1)) (word request 2)
row_for Access given numbers request = access_row given.root (low (word request 1)) (word request 2) (word request 3)
row_for OpenAt given numbers request =
    open_row numbers given.root (low (word request 1)) (word request 2) (word request 3) (low (word request 4))
row_for Close given numbers request = close_row numbers (low (word request 1))
row_for Seek given numbers request = lseek_row numbers (low (word request 1)) (word request 2) (low (word request 3))
row_for Read given numbers request = read_row numbers (low (word request 1)) (word request 2) (bounded (word request 3))
row_for Write given numbers request =
    write_row numbers (low (word request 1)) (word request 2) (bounded (word request 3))
row_for ReadPlace given numbers request =
    pread_row numbers (low (word request 1)) (word request 2) (bounded (word request 3)) (word request 4)
row_for WritePlace given numbers request =
    pwrite_row numbers (low (word request 1)) (word request 2) (bounded (word request 3)) (word request 4)
row_for Stat given numbers request = stat_row numbers (low (word request 1)) (word request 2)
row_for Exit given numbers request = Note acts (Done (Exits (word request 1 % 256)))
row_for MainVars given numbers request = main_vars_row given.args (word request 1) (word request 2)
row_for Unknown given numbers request = refuse ENOSYS

-- the row of a request: its number, and then its arguments
abbrev pub call_row : Setting → List Open → List ℕ → Row
call_row given numbers request = row_for (service_of (word request 0)) given numbers request
