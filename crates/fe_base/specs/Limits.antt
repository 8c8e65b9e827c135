-- The limits of the product under names that clauses and definitions of any crate can cite. Each is its constant's
-- number.
use Rattle.std.specs.Prelude.{ℕ}
use Rattle.fe_base.specs.declared.limits.TheConstants.{ELF_FILE_LIMIT, ASSEMBLY_FILE_LIMIT, MAIN_VARS_LIMIT}
use Rattle.fe_base.specs.declared.limits.TheConstants.{TRANSFER_LIMIT, OPEN_NUMBERS, GUEST_PATH_LIMIT, PATH_TEXT_LIMIT}
use Rattle.fe_base.specs.declared.limits.TheConstants.{PATH_LIMIT, PATH_PART_LIMIT, GUEST_FILE_LIMIT, GREATEST_BREAK}
use Rattle.fe_base.specs.declared.limits.TheConstants.{STACK_TOP, PAUSE_LIMIT, DEFAULT_STEP_LIMIT, GREATEST_STEP_LIMIT}
use Rattle.fe_base.specs.declared.limits.TheConstants.{REPORT_LINE_LIMIT}

-- the most bytes of a program file
abbrev pub elf_file_limit : ℕ
elf_file_limit = ELF_FILE_LIMIT

-- the most bytes of an assembly file
abbrev pub assembly_file_limit : ℕ
assembly_file_limit = ASSEMBLY_FILE_LIMIT

-- the most bytes of a program's main vars
abbrev pub main_vars_limit : ℕ
main_vars_limit = MAIN_VARS_LIMIT

-- the most bytes that one read or write moves
abbrev pub transfer_limit : ℕ
transfer_limit = TRANSFER_LIMIT

-- how many open numbers a program has
abbrev pub open_numbers : ℕ
open_numbers = OPEN_NUMBERS

-- the most bytes of a path in the guest's memory, its NUL among them (PATH_MAX of Linux)
abbrev pub guest_path_limit : ℕ
guest_path_limit = GUEST_PATH_LIMIT

-- the most bytes of the text of a path, without a NUL
abbrev pub path_text_limit : ℕ
path_text_limit = PATH_TEXT_LIMIT

-- the most bytes of a path that is held
abbrev pub path_limit : ℕ
path_limit = PATH_LIMIT

-- the most bytes of one part of a path (NAME_MAX of Linux)
abbrev pub path_part_limit : ℕ
path_part_limit = PATH_PART_LIMIT

-- the most bytes that a guest makes a file have
abbrev pub guest_file_limit : ℕ
guest_file_limit = GUEST_FILE_LIMIT

-- the greatest break of a program
abbrev pub greatest_break : ℕ
greatest_break = GREATEST_BREAK

-- where the stack begins, and where the main vars stand
abbrev pub stack_top : ℕ
stack_top = STACK_TOP

-- the most hart steps of a pause
abbrev pub pause_limit : ℕ
pause_limit = PAUSE_LIMIT

-- the limit of steps, where the words give none
abbrev pub default_step_limit : ℕ
default_step_limit = DEFAULT_STEP_LIMIT

-- the greatest limit of steps that the words may give
abbrev pub greatest_step_limit : ℕ
greatest_step_limit = GREATEST_STEP_LIMIT

-- the most bytes of the report's last line, its newline among them
abbrev pub report_line_limit : ℕ
report_line_limit = REPORT_LINE_LIMIT
