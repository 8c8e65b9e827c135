-- The rows that write a record: fstat and getmainvars.
use Rattle.std.specs.Prelude.{ℕ, nat_lt, if◌then◌else◌, List}
use Rattle.elf_loader.specs.MainVars.{main_vars_text}
use Rattle.fe_base.specs.WordLists.{main_vars_length}
use Rattle.fe_base.specs.declared.error_numbers.ErrNo.TheVariants.{EBADF, ENOMEM}
use Rattle.host_text.specs.Text.{Ask, Note, Size}
use Rattle.host_text.specs.declared.open_numbers.Open.{Open}
use Rattle.host_text.specs.declared.open_numbers.Open.TheVariants.{Closed, Input, Console, File}
use Rattle.syscall_proxy.specs.Kept.{open_at, acts}
use Rattle.syscall_proxy.specs.Rows.{Row, folder_fault, refuse, give_as}
use Rattle.syscall_proxy.specs.StatRecord.{stat_record, file_mode, device_mode}

-- the call acts, the bytes go to the guest, and the result is 0
abbrev pub give_record : ℕ → List ℕ → Row
give_record buffer bytes = Note acts (give_as buffer bytes 0)

-- fstat of what stands at a number
abbrev pub stat_open : Open → ℕ → Row
stat_open Closed buffer = refuse EBADF
stat_open Input buffer = give_record buffer (stat_record device_mode 0)
stat_open Console buffer = give_record buffer (stat_record device_mode 0)
stat_open (File file) buffer = Ask (Size file.number) folder_fault
    (λ size. give_record buffer (stat_record file_mode size))

-- fstat, 80
abbrev pub stat_row : List Open → ℕ → ℕ → Row
stat_row numbers fd buffer = stat_open (open_at numbers fd) buffer

-- getmainvars, 2011, which the kernel alone asks: the main vars, made for the place where they go
abbrev pub main_vars_row : List (List ℕ) → ℕ → ℕ → Row
main_vars_row args buffer limit =
    if nat_lt limit (main_vars_length args) then refuse ENOMEM else give_record buffer (main_vars_text args buffer)
