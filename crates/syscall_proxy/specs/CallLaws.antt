-- What holds of every row of the table.
use Rattle.std.specs.Prelude.{◌≡◌, ◌≤◌, ◌<◌, ◌++◌, ◌%◌, ⊤, ℕ, Bool, List, min}
use Rattle.std.proofs.Common.{arith, refl}
use Rattle.fe_base.specs.Limits.{transfer_limit}
use Rattle.fe_base.specs.WordLists.{main_vars_length}
use Rattle.fe_base.specs.declared.error_numbers.ErrNo.TheVariants.{ENOSYS}
use Rattle.folder_tree.specs.Paths.{Parts}
use Rattle.folder_tree.specs.Tree.{Tree}
use Rattle.host_text.specs.declared.open_numbers.Open.{Open}
use Rattle.syscall_proxy.specs.CallTable.{row_for, call_row, service_of}
use Rattle.syscall_proxy.specs.Kept.{Setting, kept, open_at}
use Rattle.syscall_proxy.specs.OpenFlags.{has}
use Rattle.syscall_proxy.specs.PathRows.{make_dir_path, unlink_path, access_path, open_path}
use Rattle.syscall_proxy.specs.Rows.{word, low, bounded}
use Rattle.syscall_proxy.specs.RowShapes.{IsRow, LeadsOn, StaysInside, InUserArea}
use Rattle.syscall_proxy.specs.Worlds.{IsWorldOf}
use Rattle.syscall_proxy.specs.LeadRows.{On, on-refuse}
use Rattle.syscall_proxy.specs.ShapeRows.{done-row, by_result}
use Rattle.syscall_proxy.specs.DataLaws.{read_open-row, write_open-row, pread_open-row, pwrite_open-row}
use Rattle.syscall_proxy.specs.DataLaws.{read_open-leads, write_open-leads, pread_open-leads, pwrite_open-leads}
use Rattle.syscall_proxy.specs.DataLaws.{read_open-inside, write_open-inside, pread_open-inside, pwrite_open-inside}
use Rattle.syscall_proxy.specs.NumberLaws.{close_open-row, lseek_open-row, truncate_open-row, close_open-leads}
use Rattle.syscall_proxy.specs.NumberLaws.{lseek_open-leads, truncate_open-leads, close_open-inside, lseek_open-inside}
use Rattle.syscall_proxy.specs.NumberLaws.{truncate_open-inside}
use Rattle.syscall_proxy.specs.PathLaws.{at_path-row, at_path-leads, at_path-inside, make_dir_path-row}
use Rattle.syscall_proxy.specs.PathLaws.{make_dir_path-leads, make_dir_path-inside, unlink_path-row, unlink_path-leads}
use Rattle.syscall_proxy.specs.PathLaws.{unlink_path-inside, access_path-row, access_path-leads, access_path-inside}
use Rattle.syscall_proxy.specs.PathLaws.{open_path-row, open_path-leads, open_path-inside}
use Rattle.syscall_proxy.specs.RecordLaws.{stat_open-row, stat_open-leads, stat_open-inside, main_vars_row-row}
use Rattle.syscall_proxy.specs.RecordLaws.{main_vars_row-leads, main_vars_row-inside}
use Rattle.syscall_proxy.specs.declared.service.Service.{Service}
use Rattle.syscall_proxy.specs.declared.service.Service.TheVariants.{MakeDir, Unlink, Truncate, Access, OpenAt, Close}
use Rattle.syscall_proxy.specs.declared.service.Service.TheVariants.{Seek, Read, Write, ReadPlace, WritePlace, Stat}
use Rattle.syscall_proxy.specs.declared.service.Service.TheVariants.{Exit, MainVars, Unknown}

row_for-row : (service : Service) (given : Setting) (numbers : List Open) (request : List ℕ)
    → IsRow (row_for service given numbers request)
row_for-row MakeDir given numbers request =
    at_path-row (low (word request 1)) (word request 2) (word request 3) (λ path. make_dir_path (given.root ++ path))
    (λ path. make_dir_path-row (given.root ++ path))
row_for-row Unlink given numbers request =
    at_path-row (low (word request 1)) (word request 2) (word request 3)
    (λ path. unlink_path (has (low (word request 4)) 0x200) path (given.root ++ path))
    (λ path. unlink_path-row (has (low (word request 4)) 0x200) path (given.root ++ path))
row_for-row Truncate given numbers request = truncate_open-row (open_at numbers (low (word request 1))) (word request 2)
row_for-row Access given numbers request =
    at_path-row (low (word request 1)) (word request 2) (word request 3) (λ path. access_path (given.root ++ path))
    (λ path. access_path-row (given.root ++ path))
row_for-row OpenAt given numbers request =
    at_path-row (low (word request 1)) (word request 2) (word request 3)
    (λ path. open_path numbers (given.root ++ path) (low (word request 4)))
    (λ path. open_path-row numbers (given.root ++ path) (low (word request 4)))
row_for-row Close given numbers request = close_open-row (open_at numbers (low (word request 1))) (low (word request 1))
row_for-row Seek given numbers request =
    lseek_open-row (open_at numbers (low (word request 1))) (low (word request 1)) (word request 2)
    (low (word request 3))
row_for-row Read given numbers request =
    read_open-row (open_at numbers (low (word request 1))) (low (word request 1)) (word request 2)
    (bounded (word request 3))
row_for-row Write given numbers request =
    write_open-row (open_at numbers (low (word request 1))) (low (word request 1)) (word request 2)
    (bounded (word request 3))
row_for-row ReadPlace given numbers request =
    pread_open-row (open_at numbers (low (word request 1))) (word request 2) (bounded (word request 3)) (word request 4)
row_for-row WritePlace given numbers request =
    pwrite_open-row (open_at numbers (low (word request 1))) (word request 2) (bounded (word request 3))
    (word request 4)
row_for-row Stat given numbers request = stat_open-row (open_at numbers (low (word request 1))) (word request 2)
row_for-row Exit given numbers request = (by_result, tt)
row_for-row MainVars given numbers request = main_vars_row-row given.args (word request 1) (word request 2)
row_for-row Unknown given numbers request = done-row 0

-- every row of the table is a row
pub call_row-row : (given : Setting) (numbers : List Open) (request : List ℕ) → IsRow (call_row given numbers request)
call_row-row given numbers request = row_for-row (service_of (word request 0)) given numbers request

bounded-least : (count : ℕ) → bounded count ≤ transfer_limit
bounded-least count = omega arith

row_for-leads : (service : Service) (given : Setting) (numbers : List Open) (request : List ℕ)
    → LeadsOn numbers (row_for service given numbers request)
row_for-leads MakeDir given numbers request =
    λ t acted waiting w. at_path-leads numbers t acted waiting w (low (word request 1)) (word request 2)
    (word request 3) (λ path. make_dir_path (given.root ++ path))
    (λ path. make_dir_path-leads numbers t acted waiting w (given.root ++ path))
row_for-leads Unlink given numbers request =
    λ t acted waiting w. at_path-leads numbers t acted waiting w (low (word request 1)) (word request 2)
    (word request 3) (λ path. unlink_path (has (low (word request 4)) 0x200) path (given.root ++ path))
    (λ path. unlink_path-leads numbers t acted waiting w (has (low (word request 4)) 0x200) given.root path)
row_for-leads Truncate given numbers request =
    λ t acted waiting w. truncate_open-leads numbers (low (word request 1)) t acted waiting w (word request 2)
    (open_at numbers (low (word request 1))) refl
row_for-leads Access given numbers request =
    λ t acted waiting w. at_path-leads numbers t acted waiting w (low (word request 1)) (word request 2)
    (word request 3) (λ path. access_path (given.root ++ path))
    (λ path. access_path-leads numbers t acted waiting w (given.root ++ path))
row_for-leads OpenAt given numbers request =
    λ t acted waiting w. at_path-leads numbers t acted waiting w (low (word request 1)) (word request 2)
    (word request 3) (λ path. open_path numbers (given.root ++ path) (low (word request 4)))
    (λ path. open_path-leads numbers t acted waiting w (given.root ++ path) (low (word request 4)))
row_for-leads Close given numbers request =
    λ t acted waiting w. close_open-leads numbers (low (word request 1)) t acted waiting w
    (open_at numbers (low (word request 1))) refl
row_for-leads Seek given numbers request =
    λ t acted waiting w. lseek_open-leads numbers (low (word request 1)) t acted waiting w (word request 2)
    (low (word request 3)) (open_at numbers (low (word request 1))) refl
row_for-leads Read given numbers request =
    λ t acted waiting w. read_open-leads numbers (low (word request 1)) (word request 2) (bounded (word request 3))
    (bounded-least (word request 3)) t acted waiting w (open_at numbers (low (word request 1))) refl
row_for-leads Write given numbers request =
    λ t acted waiting w. write_open-leads numbers (low (word request 1)) (word request 2) (bounded (word request 3))
    (bounded-least (word request 3)) t acted waiting w (open_at numbers (low (word request 1))) refl
row_for-leads ReadPlace given numbers request =
    λ t acted waiting w. pread_open-leads numbers (low (word request 1)) (word request 2) (bounded (word request 3))
    (bounded-least (word request 3)) t acted waiting w (word request 4) (open_at numbers (low (word request 1))) refl
row_for-leads WritePlace given numbers request =
    λ t acted waiting w. pwrite_open-leads numbers (low (word request 1)) (word request 2) (bounded (word request 3))
    (bounded-least (word request 3)) t acted waiting w (word request 4) (open_at numbers (low (word request 1))) refl
row_for-leads Stat given numbers request =
    λ t acted waiting w. stat_open-leads numbers t acted waiting w (low (word request 1)) (word request 2)
    (open_at numbers (low (word request 1))) refl
row_for-leads Exit given numbers request = λ t acted waiting w. (omega arith, w)
row_for-leads MainVars given numbers request =
    λ t acted waiting w. main_vars_row-leads numbers t acted waiting w given.args (word request 1) (word request 2)
row_for-leads Unknown given numbers request = λ t acted waiting w. on-refuse ENOSYS t (kept numbers acted waiting) w

-- in a world every row ends well
pub call_row-leads : (given : Setting) (numbers : List Open) (request : List ℕ)
    → LeadsOn numbers (call_row given numbers request)
call_row-leads given numbers request = row_for-leads (service_of (word request 0)) given numbers request

-- the range that a request names stands in the user area
abbrev pub AsksInside : Service → Setting → List ℕ → Type 0
AsksInside MakeDir given request = InUserArea (word request 2) (word request 3)
AsksInside Unlink given request = InUserArea (word request 2) (word request 3)
AsksInside Truncate given request = ⊤
AsksInside Access given request = InUserArea (word request 2) (word request 3)
AsksInside OpenAt given request = InUserArea (word request 2) (word request 3)
AsksInside Close given request = ⊤
AsksInside Seek given request = ⊤
AsksInside Read given request = InUserArea (word request 2) (bounded (word request 3))
AsksInside Write given request = InUserArea (word request 2) (bounded (word request 3))
AsksInside ReadPlace given request = InUserArea (word request 2) (bounded (word request 3))
AsksInside WritePlace given request = InUserArea (word request 2) (bounded (word request 3))
AsksInside Stat given request = InUserArea (word request 2) 128
AsksInside Exit given request = ⊤
AsksInside MainVars given request = InUserArea (word request 1) (main_vars_length given.args)
AsksInside Unknown given request = ⊤

row_for-inside : (service : Service) (given : Setting) (numbers : List Open) (request : List ℕ)
    → AsksInside service given request → StaysInside (row_for service given numbers request)
row_for-inside MakeDir given numbers request inside =
    at_path-inside (low (word request 1)) (word request 2) (word request 3)
    (λ path. make_dir_path (given.root ++ path)) inside (λ path. make_dir_path-inside (given.root ++ path))
row_for-inside Unlink given numbers request inside =
    at_path-inside (low (word request 1)) (word request 2) (word request 3)
    (λ path. unlink_path (has (low (word request 4)) 0x200) path (given.root ++ path)) inside
    (λ path. unlink_path-inside (has (low (word request 4)) 0x200) path (given.root ++ path))
row_for-inside Truncate given numbers request inside =
    truncate_open-inside (open_at numbers (low (word request 1))) (word request 2)
row_for-inside Access given numbers request inside =
    at_path-inside (low (word request 1)) (word request 2) (word request 3)
    (λ path. access_path (given.root ++ path)) inside (λ path. access_path-inside (given.root ++ path))
row_for-inside OpenAt given numbers request inside =
    at_path-inside (low (word request 1)) (word request 2) (word request 3)
    (λ path. open_path numbers (given.root ++ path) (low (word request 4))) inside
    (λ path. open_path-inside numbers (given.root ++ path) (low (word request 4)))
row_for-inside Close given numbers request inside =
    close_open-inside (open_at numbers (low (word request 1))) (low (word request 1))
row_for-inside Seek given numbers request inside =
    lseek_open-inside (open_at numbers (low (word request 1))) (low (word request 1)) (word request 2)
    (low (word request 3))
row_for-inside Read given numbers request inside =
    read_open-inside (word request 2) (bounded (word request 3)) inside (open_at numbers (low (word request 1)))
    (low (word request 1))
row_for-inside Write given numbers request inside =
    write_open-inside (word request 2) (bounded (word request 3)) inside (open_at numbers (low (word request 1)))
    (low (word request 1))
row_for-inside ReadPlace given numbers request inside =
    pread_open-inside (word request 2) (bounded (word request 3)) inside (open_at numbers (low (word request 1)))
    (word request 4)
row_for-inside WritePlace given numbers request inside =
    pwrite_open-inside (word request 2) (bounded (word request 3)) inside (open_at numbers (low (word request 1)))
    (word request 4)
row_for-inside Stat given numbers request inside =
    stat_open-inside (open_at numbers (low (word request 1))) (word request 2) inside
row_for-inside Exit given numbers request inside = tt
row_for-inside MainVars given numbers request inside =
    main_vars_row-inside given.args (word request 1) (word request 2) inside
row_for-inside Unknown given numbers request inside = tt

-- a row touches the user area alone, where the request's range stands in it
pub call_row-inside : (given : Setting) (numbers : List Open) (request : List ℕ)
    → AsksInside (service_of (word request 0)) given request → StaysInside (call_row given numbers request)
call_row-inside given numbers request inside = row_for-inside (service_of (word request 0)) given numbers request inside
