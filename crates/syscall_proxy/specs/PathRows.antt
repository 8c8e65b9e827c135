-- The rows that take a path: mkdirat, unlinkat, faccessat and openat.
use Rattle.std.specs.Prelude.{ℕ, ◌-◌, ◌^◌, Bool, true, false, ◌==◌, ◌||◌, bit_and, position, nat_lt, if◌then◌else◌}
use Rattle.std.specs.Prelude.{List, [], ◌∷◌, ◌++◌, Option, Some, None, Result, Ok, Err}
use Rattle.fe_base.specs.ErrorNumbers.{error_number}
use Rattle.fe_base.specs.Limits.{guest_path_limit}
use Rattle.fe_base.specs.declared.error_numbers.ErrNo.{ErrNo}
use Rattle.fe_base.specs.declared.error_numbers.ErrNo.TheVariants.{EINVAL, ENOENT, EEXIST, EISDIR, ENOTDIR, ENOTEMPTY}
use Rattle.fe_base.specs.declared.error_numbers.ErrNo.TheVariants.{EMFILE}
use Rattle.folder_tree.specs.Paths.{Parts}
use Rattle.folder_tree.specs.declared.folder.PathKind.{PathKind}
use Rattle.folder_tree.specs.declared.folder.PathKind.TheVariants.{Directory, File as PlainFile, Free, NoParent}
use Rattle.folder_tree.specs.declared.folder.PathKind.TheVariants.{UnderFile}
use Rattle.host_text.specs.Text.{Done, Read, Ask, Note, Kind, OpenFile as OpenPath, Create, SetSize}
use Rattle.host_text.specs.Text.{MakeDir as MakeDirAt, Remove, RemoveDir}
use Rattle.host_text.specs.declared.open_numbers.Open.{Open}
use Rattle.host_text.specs.declared.open_numbers.Open.TheVariants.{File}
use Rattle.host_text.specs.declared.open_numbers.OpenFile.{OpenFile}
use Rattle.syscall_proxy.specs.Kept.{opens}
use Rattle.syscall_proxy.specs.OpenFlags.{has, reads, writes, creates, wants_new, appends, cuts}
use Rattle.syscall_proxy.specs.PathRules.{guest_path}
use Rattle.syscall_proxy.specs.Rows.{Row, folder_fault, done, refuse, is_closed}
use Rattle.syscall_proxy.specs.declared.path_rows.PathCall.{PathCall}
use Rattle.syscall_proxy.specs.declared.path_rows.PathCall.TheVariants.{MakeDir, Unlink, Access, Open as OpenAt}
use Rattle.syscall_proxy.specs.declared.answers.CallAnswer.TheVariants.{Result as Value}
use Rattle.syscall_proxy.specs.declared.answers.CallFault.TheVariants.{Port}

-- on with the path that was named, or refused by the first rule that it breaks
abbrev pub with_path : Result Parts ErrNo → (Parts → Row) → Row
with_path (Ok path) next = next path
with_path (Err error) next = refuse error

-- a path in the guest's memory is read and named; a length of 0, or above that of a path, is refused
abbrev pub at_path : ℕ → ℕ → ℕ → (Parts → Row) → Row
at_path dirfd place count next =
    if count == 0 || nat_lt guest_path_limit count then refuse EINVAL
    else Read place count Port (λ bytes. with_path (guest_path dirfd bytes) next)

-- mkdirat, by the kind of its path
abbrev pub make_dir_kind : PathKind → Parts → Row
make_dir_kind UnderFile path = refuse ENOTDIR
make_dir_kind NoParent path = refuse ENOENT
make_dir_kind Directory path = refuse EEXIST
make_dir_kind PlainFile path = refuse EEXIST
make_dir_kind Free path = Ask (MakeDirAt path) folder_fault (λ all. done 0)

-- mkdirat of a path that stands below the root
abbrev pub make_dir_path : Parts → Row
make_dir_path path = Ask (Kind path) folder_fault (λ kind. make_dir_kind kind path)

-- mkdirat, 34
abbrev pub make_dir_row : Parts → ℕ → ℕ → ℕ → Row
make_dir_row root dirfd place count = at_path dirfd place count (λ path. make_dir_path (root ++ path))

-- the result of remove_dir
abbrev pub removed_dir : Bool → Row
removed_dir true = done 0
removed_dir false = refuse ENOTEMPTY

-- unlinkat of a directory by AT_REMOVEDIR; a path of no parts is refused, wherever the root stands
abbrev pub remove_dir_at : Parts → Parts → Row
remove_dir_at [] place = refuse EINVAL
remove_dir_at (part ∷ path) place = Ask (RemoveDir place) folder_fault removed_dir

-- unlinkat of a path that stands at this place, by its kind and whether AT_REMOVEDIR is there
abbrev pub unlink_kind : PathKind → Bool → Parts → Parts → Row
unlink_kind UnderFile dir path place = refuse ENOTDIR
unlink_kind NoParent dir path place = refuse ENOENT
unlink_kind Free dir path place = refuse ENOENT
unlink_kind Directory true path place = remove_dir_at path place
unlink_kind Directory false path place = refuse EISDIR
unlink_kind PlainFile true path place = refuse ENOTDIR
unlink_kind PlainFile false path place = Ask (Remove place) folder_fault (λ all. done 0)

-- unlinkat of a path
abbrev pub unlink_path : Bool → Parts → Parts → Row
unlink_path dir path place = Ask (Kind place) folder_fault (λ kind. unlink_kind kind dir path place)

-- unlinkat, 35; AT_REMOVEDIR is 0x200 (Linux, include/uapi/linux/fcntl.h)
abbrev pub unlink_row : Parts → ℕ → ℕ → ℕ → ℕ → Row
unlink_row root dirfd place count flags =
    at_path dirfd place count (λ path. unlink_path (has flags 0x200) path (root ++ path))

-- the result of faccessat, by the kind of its path
abbrev pub access_value : PathKind → ℕ
access_value UnderFile = 2 ^ 64 - error_number ENOTDIR
access_value NoParent = 2 ^ 64 - error_number ENOENT
access_value Free = 2 ^ 64 - error_number ENOENT
access_value Directory = 0
access_value PlainFile = 0

-- faccessat of a path below the root
abbrev pub access_path : Parts → Row
access_path path = Ask (Kind path) folder_fault (λ kind. done (access_value kind))

-- faccessat, 48
abbrev pub access_row : Parts → ℕ → ℕ → ℕ → Row
access_row root dirfd place count = at_path dirfd place count (λ path. access_path (root ++ path))

-- the file that openat opens: at its beginning, with the rights of the flags
abbrev pub new_file : ℕ → ℕ → OpenFile
new_file number flags = record {
  number = number;
  position = 0;
  reads = reads flags;
  writes = writes flags;
  appends = appends flags;
}

-- the file stands at the open number from now on, which is the result
abbrev pub opened : ℕ → ℕ → ℕ → Row
opened fd number flags = Note (opens fd (File (new_file number flags))) (Done (Value fd))

-- openat of a free path
abbrev pub create_file : ℕ → Parts → ℕ → Row
create_file fd path flags = if creates flags then Ask (Create path) folder_fault
    (λ number. opened fd number flags) else refuse ENOENT

-- a file that was opened loses its bytes, if the flags say so
abbrev pub cut_file : ℕ → ℕ → ℕ → Row
cut_file fd number flags = if cuts flags then Ask (SetSize number 0) folder_fault
    (λ all. opened fd number flags) else opened fd number flags

-- openat of a file
abbrev pub open_found : ℕ → Parts → ℕ → Row
open_found fd path flags = if wants_new flags then refuse EEXIST else Ask (OpenPath path) folder_fault
    (λ number. cut_file fd number flags)

-- the result of openat of a directory
abbrev pub directory_value : ℕ → ℕ
directory_value flags = if wants_new flags then 2 ^ 64 - error_number EEXIST else 2 ^ 64 - error_number EISDIR

-- openat, by the kind of its path
abbrev pub open_kind : PathKind → ℕ → Parts → ℕ → Row
open_kind UnderFile fd path flags = refuse ENOTDIR
open_kind NoParent fd path flags = refuse ENOENT
open_kind Free fd path flags = create_file fd path flags
open_kind Directory fd path flags = done (directory_value flags)
open_kind PlainFile fd path flags = open_found fd path flags

-- openat at the lowest open number that is free, if one is
abbrev pub open_free : Option ℕ → Parts → ℕ → Row
open_free None path flags = refuse EMFILE
open_free (Some fd) path flags = Ask (Kind path) folder_fault (λ kind. open_kind kind fd path flags)

-- openat of a path below the root
abbrev pub open_path : List Open → Parts → ℕ → Row
open_path numbers path flags = if has flags 3 then refuse EINVAL else open_free (position is_closed numbers) path flags

-- openat, 56
abbrev pub open_row : List Open → Parts → ℕ → ℕ → ℕ → ℕ → Row
open_row numbers root dirfd place count flags =
    at_path dirfd place count (λ path. open_path numbers (root ++ path) flags)

-- what a call does with the path that was named
abbrev pub named_row : PathCall → List Open → Parts → Parts → Row
named_row MakeDir numbers root path = make_dir_path (root ++ path)
named_row (Unlink dir) numbers root path = unlink_path dir path (root ++ path)
named_row Access numbers root path = access_path (root ++ path)
named_row (OpenAt flags) numbers root path = open_path numbers (root ++ path) flags.0
