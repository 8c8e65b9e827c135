-- The kernel part of the call table: what comes of a call before the host is asked. The call's number is a7, its
-- arguments are a0 to a5 (Linux, include/uapi/asm-generic/unistd.h).
use Rattle.std.specs.Prelude.{ℕ, zero, suc, ◌+◌, ◌-◌, ◌%◌, ◌^◌, ◌==◌, nat_lt, Bool, if◌then◌else◌, List, [], ◌∷◌}
use Rattle.std.specs.Prelude.{slice_index}
use Rattle.fe_base.specs.Limits.{transfer_limit, guest_path_limit, greatest_break}
use Rattle.fe_base.specs.MemoryMap.{user_start, user_end}
use Rattle.fe_base.specs.ErrorNumbers.{error_number}
use Rattle.fe_base.specs.declared.error_numbers.ErrNo.{ErrNo}
use Rattle.fe_base.specs.declared.error_numbers.ErrNo.TheVariants.{EFAULT, ENOSYS, ENAMETOOLONG}
use Rattle.plain_machine.specs.UserStep.{is_user}

-- the call gets this answer at once, or answers the break that it leaves, or posts this request to the host, or has a
-- path, which is scanned first
pub data Part : Type 0 where
  gives : ℕ → Part
  breaks : ℕ → Part
  posts : List ℕ → Part
  scans : Part

-- a call that is refused answers the negated error number, modulo 2^64
abbrev pub refused : ErrNo → Part
refused error = gives (2 ^ 64 - error_number error)

-- a request: the number of the call, five doublewords, and two of 0
abbrev pub request : ℕ → ℕ → ℕ → ℕ → ℕ → ℕ → List ℕ
request number a b c d e = number ∷ a ∷ b ∷ c ∷ d ∷ e ∷ 0 ∷ 0 ∷ []

-- EFAULT unless a buffer of so many bytes stands whole in the user area, which an empty one may end
abbrev pub in_area : ℕ → ℕ → Part → Part
in_area buffer count part =
    if nat_lt buffer user_start then refused EFAULT
    else if nat_lt user_end buffer then refused EFAULT
    else if nat_lt (user_end - buffer) count then refused EFAULT
    else part

-- the most bytes that one call moves
abbrev pub greatest_count : ℕ
greatest_count = transfer_limit

-- the count of a buffer, lowered to the most that one call moves
abbrev pub lowered : ℕ → (ℕ → Part) → Part
lowered count part = if nat_lt greatest_count count then part greatest_count else part count

-- the break behind brk: the one that is asked for, where it is neither below the first break nor above the greatest;
-- else the one before
abbrev pub break_after : ℕ → ℕ → ℕ → ℕ
break_after asked program_break first_break =
    if nat_lt asked first_break then program_break
    else if nat_lt greatest_break asked then program_break
    else asked

-- the table by number, for arguments a0 to a3, the break and the first break: mkdirat, unlinkat, ftruncate, faccessat,
-- openat, close, lseek, read, write, pread64, pwrite64, fstat, exit, exit_group, brk, and ENOSYS for every other
abbrev pub direct_part : ℕ → ℕ → ℕ → ℕ → ℕ → ℕ → ℕ → Part
direct_part number a b c d program_break first_break =
    if number == 34 then scans
    else if number == 35 then scans
    else if number == 46 then posts (request number a b 0 0 0)
    else if number == 48 then scans
    else if number == 56 then scans
    else if number == 57 then posts (request number a 0 0 0 0)
    else if number == 62 then posts (request number a b c 0 0)
    else if number == 63 then lowered c (λ count. in_area b count (posts (request number a b count 0 0)))
    else if number == 64 then lowered c (λ count. in_area b count (posts (request number a b count 0 0)))
    else if number == 67 then lowered c (λ count. in_area b count (posts (request number a b count d 0)))
    else if number == 68 then lowered c (λ count. in_area b count (posts (request number a b count d 0)))
    else if number == 80 then in_area b 128 (posts (request number a b 0 0 0))
    else if number == 93 then posts (request number a 0 0 0 0)
    else if number == 94 then posts (request number a 0 0 0 0)
    else if number == 214 then breaks (break_after a program_break first_break)
    else refused ENOSYS

-- what a scan of a path comes to: its length, NUL included; a byte outside the user area; or no NUL within the limit
pub data Scanned : Type 0 where
  ends : ℕ → Scanned
  leaves : Scanned
  is_long : Scanned

-- the most bytes of a path, NUL included
abbrev pub greatest_path : ℕ
greatest_path = guest_path_limit

-- the user byte at an address of the user area
abbrev pub user_byte : List ℕ → ℕ → ℕ
user_byte user at = slice_index user (at - user_start)

-- the scan of a path from byte `from` on, for so many bytes more; addresses go on modulo 2^64
unfoldable pub scan : List ℕ → ℕ → ℕ → ℕ → Scanned
scan user path from zero = is_long
scan user path from (suc more) =
    if is_user ((path + from) % 2 ^ 64) then
    (if user_byte user ((path + from) % 2 ^ 64) == 0 then ends (from + 1) else scan user path (from + 1) more)
    else leaves

-- the request of a call with a path: its length follows its address; openat alone has an argument behind that
abbrev pub path_request : ℕ → ℕ → ℕ → ℕ → ℕ → ℕ → List ℕ
path_request number a b length c d = request number a b length c (if number == 56 then d else 0)

-- a call with a path, by what its scan came to
abbrev pub settled : Scanned → ℕ → ℕ → ℕ → ℕ → ℕ → Part
settled (ends length) number a b c d = posts (path_request number a b length c d)
settled leaves number a b c d = refused EFAULT
settled is_long number a b c d = refused ENAMETOOLONG

-- a part, with this one where there is a path to scan
abbrev pub with_path : Part → Part → Part
with_path (gives answer) path = gives answer
with_path (breaks answer) path = breaks answer
with_path (posts words) path = posts words
with_path scans path = path

-- a call with a path, by the registers and the user bytes
abbrev pub path_part : List ℕ → List ℕ → Part
path_part registers user =
    settled (scan user (slice_index registers 11) 0 greatest_path)
    (slice_index registers 17) (slice_index registers 10) (slice_index registers 11)
    (slice_index registers 12) (slice_index registers 13)

-- a call but for its path, by the registers, the break and the first break
abbrev pub first_part : List ℕ → ℕ → ℕ → Part
first_part registers program_break first_break =
    direct_part (slice_index registers 17) (slice_index registers 10) (slice_index registers 11)
    (slice_index registers 12) (slice_index registers 13) program_break first_break

-- the kernel part of a call, by the registers, the user bytes, the break and the first break
unfoldable pub kernel_part : List ℕ → List ℕ → ℕ → ℕ → Part
kernel_part registers user program_break first_break =
    with_path (first_part registers program_break first_break) (path_part registers user)
