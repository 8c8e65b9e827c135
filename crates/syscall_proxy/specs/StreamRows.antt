-- Which calls of the outside a row makes: what it takes and puts, and where it opens a file.
use Rattle.std.specs.Prelude.{◌≡◌, ⊤, ◌+◌, ◌-◌, ◌^◌, ◌==◌, ◌||◌, ◌++◌, not, nat_lt, nat_le, ℕ, Bool, true, false, List}
use Rattle.std.specs.Prelude.{[]}
use Rattle.std.specs.Prelude.{◌∷◌, length, position, Option, Some, None, Result, Ok, Err, if◌then◌else◌, refl}
use Rattle.std.proofs.Common.{sym, subst, ap, ◌∙◌}
use Rattle.elf_loader.specs.MainVars.{main_vars_text}
use Rattle.fe_base.specs.Limits.{guest_file_limit, guest_path_limit}
use Rattle.fe_base.specs.Outside.{PutSuits}
use Rattle.fe_base.specs.WordLists.{main_vars_length}
use Rattle.fe_base.specs.declared.error_numbers.ErrNo.{ErrNo}
use Rattle.fe_base.specs.declared.error_numbers.ErrNo.TheVariants.{EBADF, EEXIST, EFBIG, EINVAL, ENOENT, ENOMEM}
use Rattle.folder_tree.specs.Paths.{Parts}
use Rattle.folder_tree.specs.declared.folder.PathKind.{PathKind}
use Rattle.folder_tree.specs.declared.folder.PathKind.TheVariants.{Directory, File as PlainFile, Free, NoParent}
use Rattle.folder_tree.specs.declared.folder.PathKind.TheVariants.{UnderFile}
use Rattle.host_text.specs.Openings.{ActsNext, OpensLast, opens_at}
use Rattle.host_text.specs.Streams.{AsksNothing, EachCall, OpensNothing, PutsFit, PutsNothing, TakesNothing, each-also}
use Rattle.host_text.specs.Streams.{nothing-fits, nothing-last}
use Rattle.host_text.specs.Text.{Ask, Note, Put, Take, Read as Reads, ReadAt, WriteAt, Size, SetSize, Create}
use Rattle.host_text.specs.Text.{OpenFile as OpenPath, Done}
use Rattle.host_text.specs.declared.open_numbers.Open.{Open}
use Rattle.host_text.specs.declared.open_numbers.Open.TheVariants.{Closed, Input, Console, File}
use Rattle.host_text.specs.declared.open_numbers.OpenFile.{OpenFile}
use Rattle.syscall_proxy.specs.CallTable.{call_row, row_for, service_of}
use Rattle.syscall_proxy.specs.DataRows.{read_open, write_open, pread_open, pwrite_open, write_place, write_bytes}
use Rattle.syscall_proxy.specs.Kept.{Kept, Setting, acts, open_at, opens}
use Rattle.syscall_proxy.specs.NumberRows.{close_open, lseek_open, truncate_open, sought, new_position}
use Rattle.syscall_proxy.specs.OpenFlags.{has, creates, cuts, wants_new}
use Rattle.syscall_proxy.specs.PathRows.{access_path, at_path, cut_file, make_dir_kind, make_dir_path, open_free}
use Rattle.syscall_proxy.specs.PathRows.{open_kind, open_path, opened, remove_dir_at, removed_dir, unlink_kind}
use Rattle.syscall_proxy.specs.PathRows.{unlink_path, with_path}
use Rattle.syscall_proxy.specs.PathRules.{guest_path}
use Rattle.syscall_proxy.specs.RecordRows.{give_record, main_vars_row, stat_open}
use Rattle.syscall_proxy.specs.Rows.{Row, bounded, done, folder_fault, give, is_closed, low, moved, placed, refuse}
use Rattle.syscall_proxy.specs.Rows.{word}
use Rattle.syscall_proxy.specs.Streams.{MayOpen, StandsBelow, asks_for, call_asks, call_puts, call_takes, cuts_for}
use Rattle.syscall_proxy.specs.Streams.{is_file, put_at, put_for, taken_at, taken_for}
use Rattle.syscall_proxy.specs.declared.answers.CallAnswer.TheVariants.{Result as Value}
use Rattle.syscall_proxy.specs.declared.answers.CallFault.TheVariants.{ConsoleFault, InputFault, Port}
use Rattle.syscall_proxy.specs.declared.service.Service.{Service}
use Rattle.syscall_proxy.specs.declared.service.Service.TheVariants.{MakeDir, Unlink, Truncate, Access, OpenAt, Close}
use Rattle.syscall_proxy.specs.declared.service.Service.TheVariants.{Seek, Read, Write, ReadPlace, WritePlace, Stat}
use Rattle.syscall_proxy.specs.declared.service.Service.TheVariants.{Exit, MainVars, Unknown}

-- the row takes nothing, puts nothing and opens no file that stands in the folder
abbrev Silent : Row → Type 0
Silent row = EachCall (λ count. ⊥) (λ bytes stop. ⊥) (λ q. opens_at q ≡ None) row

-- the row takes nothing and puts nothing
abbrev Still : Row → Type 0
Still row = EachCall (λ count. ⊥) (λ bytes stop. ⊥) (λ q. ⊤) row

silent-puts : (row : Row) → Silent row → PutsNothing row
silent-puts row h =
    each-also (λ count. ⊥) (λ count. ⊤) (λ bytes stop. ⊥) (λ bytes stop. ⊥) (λ q. opens_at q ≡ None) (λ q. ⊤)
    (λ count never. tt) (λ bytes stop never. never) (λ q none. tt) row h

silent-takes : (row : Row) → Silent row → TakesNothing row
silent-takes row h =
    each-also (λ count. ⊥) (λ count. ⊥) (λ bytes stop. ⊥) (λ bytes stop. ⊤) (λ q. opens_at q ≡ None) (λ q. ⊤)
    (λ count never. never) (λ bytes stop never. tt) (λ q none. tt) row h

silent-opens : (row : Row) → Silent row → OpensNothing row
silent-opens row h =
    each-also (λ count. ⊥) (λ count. ⊤) (λ bytes stop. ⊥) (λ bytes stop. ⊤) (λ q. opens_at q ≡ None)
    (λ q. opens_at q ≡ None) (λ count never. tt) (λ bytes stop never. tt) (λ q none. none) row h

still-puts : (row : Row) → Still row → PutsNothing row
still-puts row h =
    each-also (λ count. ⊥) (λ count. ⊤) (λ bytes stop. ⊥) (λ bytes stop. ⊥) (λ q. ⊤) (λ q. ⊤) (λ count never. tt)
    (λ bytes stop never. never) (λ q any. tt) row h

still-takes : (row : Row) → Still row → TakesNothing row
still-takes row h =
    each-also (λ count. ⊥) (λ count. ⊥) (λ bytes stop. ⊥) (λ bytes stop. ⊤) (λ q. ⊤) (λ q. ⊤) (λ count never. never)
    (λ bytes stop never. tt) (λ q any. tt) row h

-- by a test
each-if : (P : Row → Type 0) (b : Bool) (one other : Row) → P one → P other → P (if b then one else other)
each-if P true one other p q = p
each-if P false one other p q = q

silent-if : (b : Bool) (one other : Row) → Silent one → Silent other → Silent (if b then one else other)
silent-if b one other p q = each-if (λ row. Silent row) b one other p q

-- ---- paths

module _ (P : Row → Type 0) (refused : (error : ErrNo) → P (refuse error)) where
  with_path-each : (found : Result Parts ErrNo) (next : Parts → Row) → ((path : Parts) → P (next path))
      → P (with_path found next)
  with_path-each (Ok path) next more = more path
  with_path-each (Err error) next more = refused error

at_path-silent : (dirfd place count : ℕ) (next : Parts → Row) → ((path : Parts) → Silent (next path))
    → Silent (at_path dirfd place count next)
at_path-silent dirfd place count next more =
    silent-if (count == 0 || nat_lt guest_path_limit count) (refuse EINVAL)
    (Reads place count Port (λ bytes. with_path (guest_path dirfd bytes) next)) tt
    (λ bytes size. with_path-each (λ row. Silent row) (λ error. tt) (guest_path dirfd bytes) next more)

make_dir_kind-silent : (kind : PathKind) (path : Parts) → Silent (make_dir_kind kind path)
make_dir_kind-silent UnderFile path = tt
make_dir_kind-silent NoParent path = tt
make_dir_kind-silent Directory path = tt
make_dir_kind-silent PlainFile path = tt
make_dir_kind-silent Free path = (refl, λ all. tt)

removed_dir-silent : (gone : Bool) → Silent (removed_dir gone)
removed_dir-silent true = tt
removed_dir-silent false = tt

remove_dir_at-silent : (path place : Parts) → Silent (remove_dir_at path place)
remove_dir_at-silent [] place = tt
remove_dir_at-silent (part ∷ path) place = (refl, λ gone. removed_dir-silent gone)

unlink_kind-silent : (kind : PathKind) (dir : Bool) (path place : Parts) → Silent (unlink_kind kind dir path place)
unlink_kind-silent UnderFile dir path place = tt
unlink_kind-silent NoParent dir path place = tt
unlink_kind-silent Free dir path place = tt
unlink_kind-silent Directory true path place = remove_dir_at-silent path place
unlink_kind-silent Directory false path place = tt
unlink_kind-silent PlainFile true path place = tt
unlink_kind-silent PlainFile false path place = (refl, λ all. tt)

-- ---- openat

module _ (flags : ℕ) where
  cut_file-still : (fd number : ℕ) → Still (cut_file fd number flags)
  cut_file-still fd number =
      each-if (λ row. Still row) (cuts flags) (Ask (SetSize number 0) folder_fault (λ all. opened fd number flags))
      (opened fd number flags) (tt, λ all. tt) tt

  open_kind-still : (kind : PathKind) (fd : ℕ) (path : Parts) → Still (open_kind kind fd path flags)
  open_kind-still UnderFile fd path = tt
  open_kind-still NoParent fd path = tt
  open_kind-still Free fd path =
      each-if (λ row. Still row) (creates flags)
      (Ask (Create path) folder_fault (λ number. opened fd number flags)) (refuse ENOENT) (tt, λ number. tt) tt
  open_kind-still Directory fd path = tt
  open_kind-still PlainFile fd path =
      each-if (λ row. Still row) (wants_new flags) (refuse EEXIST)
      (Ask (OpenPath path) folder_fault (λ number. cut_file fd number flags)) tt
      (tt, λ number. cut_file-still fd number)

  open_free-still : (free : Option ℕ) (path : Parts) → Still (open_free free path flags)
  open_free-still None path = tt
  open_free-still (Some fd) path = (tt, λ kind. open_kind-still kind fd path)

  open_path-still : (numbers : List Open) (path : Parts) → Still (open_path numbers path flags)
  open_path-still numbers path =
      each-if (λ row. Still row) (has flags 3) (refuse EINVAL) (open_free (position is_closed numbers) path flags) tt
      (open_free-still (position is_closed numbers) path)

  -- it opens a file directly before it acts, and before a call of the folder only where it cuts it
  module _ (such : Parts → Type 0) where
    abbrev CutAt : Parts → Type 0
    CutAt path = (cuts flags ≡ true) × such path

    abbrev LastRow : Row → Type 0
    LastRow row = OpensLast CutAt row

    cut_file-next : (fd number : ℕ) (path : Parts) → such path → ActsNext (CutAt path) (cut_file fd number flags)
    cut_file-next fd number path at =
        by (cuts flags) refl where
          by : (b : Bool) → cuts flags ≡ b → ActsNext (CutAt path) (if b
              then Ask (SetSize number 0) folder_fault (λ all. opened fd number flags)
              else opened fd number flags)
          by true e = ((e, at), refl)
          by false e = tt

    open_kind-last : (kind : PathKind) (fd : ℕ) (path : Parts) → such path → LastRow (open_kind kind fd path flags)
    open_kind-last UnderFile fd path at = tt
    open_kind-last NoParent fd path at = tt
    open_kind-last Free fd path at =
        each-if (λ row. LastRow row) (creates flags)
        (Ask (Create path) folder_fault (λ number. opened fd number flags)) (refuse ENOENT) (λ number. tt) tt
    open_kind-last Directory fd path at = tt
    open_kind-last PlainFile fd path at =
        each-if (λ row. LastRow row) (wants_new flags) (refuse EEXIST)
        (Ask (OpenPath path) folder_fault (λ number. cut_file fd number flags)) tt
        (λ number. cut_file-next fd number path at)

    open_free-last : (free : Option ℕ) (path : Parts) → such path → LastRow (open_free free path flags)
    open_free-last None path at = tt
    open_free-last (Some fd) path at = λ kind. open_kind-last kind fd path at

    open_path-last : (numbers : List Open) (path : Parts) → such path → LastRow (open_path numbers path flags)
    open_path-last numbers path at =
        each-if (λ row. LastRow row) (has flags 3) (refuse EINVAL)
        (open_free (position is_closed numbers) path flags) tt (open_free-last (position is_closed numbers) path at)

-- ---- open numbers and records

close_open-silent : (stands : Open) (fd : ℕ) → Silent (close_open stands fd)
close_open-silent Closed fd = tt
close_open-silent Input fd = tt
close_open-silent Console fd = tt
close_open-silent (File file) fd = (refl, λ reply. tt)

abbrev seek_from : ℕ → OpenFile → ℕ → ℕ → Row
seek_from fd file offset whence =
    if whence == 1 then sought fd file (new_position file.position offset) else sought fd file (new_position 0 offset)

abbrev seek_by : ℕ → OpenFile → ℕ → ℕ → Row
seek_by fd file offset whence = if whence == 2 then Ask (Size file.number) folder_fault
    (λ size. sought fd file (new_position size offset)) else seek_from fd file offset whence

lseek_open-silent : (stands : Open) (fd offset whence : ℕ) → Silent (lseek_open stands fd offset whence)
lseek_open-silent Closed fd offset whence = tt
lseek_open-silent Input fd offset whence = tt
lseek_open-silent Console fd offset whence = tt
lseek_open-silent (File file) fd offset whence =
    silent-if (nat_lt 2 whence) (refuse EINVAL) (seek_by fd file offset whence) tt
    (silent-if (whence == 2) (Ask (Size file.number) folder_fault (λ size. sought fd file (new_position size offset)))
    (seek_from fd file offset whence) (refl, λ size. tt)
    (silent-if (whence == 1) (sought fd file (new_position file.position offset))
    (sought fd file (new_position 0 offset)) tt tt))

abbrev size_set : OpenFile → ℕ → Row
size_set file size = Ask (SetSize file.number size) folder_fault (λ all. done 0)

abbrev size_small : OpenFile → ℕ → Row
size_small file size = if nat_lt guest_file_limit size then refuse EFBIG else size_set file size

abbrev size_positive : OpenFile → ℕ → Row
size_positive file size = if nat_le (2 ^ 63) size then refuse EINVAL else size_small file size

truncate_open-silent : (stands : Open) (size : ℕ) → Silent (truncate_open stands size)
truncate_open-silent Closed size = tt
truncate_open-silent Input size = tt
truncate_open-silent Console size = tt
truncate_open-silent (File file) size =
    silent-if (not file.writes) (refuse EINVAL) (size_positive file size) tt
    (silent-if (nat_le (2 ^ 63) size) (refuse EINVAL) (size_small file size) tt
    (silent-if (nat_lt guest_file_limit size) (refuse EFBIG) (size_set file size) tt (refl, λ reply. tt)))

stat_open-silent : (stands : Open) (buffer : ℕ) → Silent (stat_open stands buffer)
stat_open-silent Closed buffer = tt
stat_open-silent Input buffer = tt
stat_open-silent Console buffer = tt
stat_open-silent (File file) buffer = (refl, λ size. tt)

main_vars_row-silent : (args : List (List ℕ)) (buffer limit : ℕ) → Silent (main_vars_row args buffer limit)
main_vars_row-silent args buffer limit =
    silent-if (nat_lt limit (main_vars_length args)) (refuse ENOMEM)
    (give_record buffer (main_vars_text args buffer)) tt tt

-- ---- bytes

abbrev file_read : ℕ → OpenFile → ℕ → ℕ → Row
file_read fd file buffer count =
    Ask (ReadAt file.number file.position count) folder_fault
    (λ bytes. Note (opens fd (placed file (moved file.position (length bytes)))) (give buffer bytes))

abbrev file_read_some : ℕ → OpenFile → ℕ → ℕ → Row
file_read_some fd file buffer count = if count == 0 then done 0 else file_read fd file buffer count

abbrev input_taken : ℕ → ℕ → Row
input_taken buffer count = Take count InputFault (λ bytes. Note acts (give buffer bytes))

abbrev file_written : OpenFile → ℕ → ℕ → ℕ → (Kept → Kept) → Row
file_written file place buffer count notes =
    Reads buffer count Port (λ bytes. Ask (WriteAt file.number place bytes) folder_fault
    (λ all. Note notes (Done (Value count))))

abbrev file_appended : ℕ → OpenFile → ℕ → ℕ → Row
file_appended fd file buffer count = Ask (Size file.number) folder_fault (λ size. write_place fd file size buffer count)

abbrev file_write_by : ℕ → OpenFile → ℕ → ℕ → Row
file_write_by fd file buffer count =
    if file.appends then file_appended fd file buffer count else write_place fd file file.position buffer count

abbrev file_write_some : ℕ → OpenFile → ℕ → ℕ → Row
file_write_some fd file buffer count = if count == 0 then done 0 else file_write_by fd file buffer count

abbrev console_put : ℕ → ℕ → Row
console_put buffer count = Reads buffer count Port (λ bytes. Put bytes ConsoleFault (done count))

write_bytes-silent : (file : OpenFile) (place buffer count : ℕ) (notes : Kept → Kept)
    → Silent (write_bytes file place buffer count notes)
write_bytes-silent file place buffer count notes =
    silent-if (nat_lt (guest_file_limit - count) place) (refuse EFBIG) (file_written file place buffer count notes) tt
    (λ bytes size. (refl, λ reply. tt))

write_place-silent : (fd : ℕ) (file : OpenFile) (place buffer count : ℕ)
    → Silent (write_place fd file place buffer count)
write_place-silent fd file place buffer count =
    write_bytes-silent file place buffer count (opens fd (placed file (place + count)))

read_file-silent : (fd : ℕ) (file : OpenFile) (buffer count : ℕ) → Silent (read_open (File file) fd buffer count)
read_file-silent fd file buffer count =
    silent-if (not file.reads) (refuse EBADF) (file_read_some fd file buffer count) tt
    (silent-if (count == 0) (done 0) (file_read fd file buffer count) tt (refl, λ bytes. tt))

write_file-silent : (fd : ℕ) (file : OpenFile) (buffer count : ℕ) → Silent (write_open (File file) fd buffer count)
write_file-silent fd file buffer count =
    silent-if (not file.writes) (refuse EBADF) (file_write_some fd file buffer count) tt
    (silent-if (count == 0) (done 0) (file_write_by fd file buffer count) tt
    (silent-if file.appends (file_appended fd file buffer count) (write_place fd file file.position buffer count)
    (refl, λ size. write_place-silent fd file size buffer count)
    (write_place-silent fd file file.position buffer count)))

abbrev place_read : OpenFile → ℕ → ℕ → ℕ → Row
place_read file buffer count offset =
    Ask (ReadAt file.number offset count) folder_fault (λ bytes. Note acts (give buffer bytes))

abbrev place_read_some : OpenFile → ℕ → ℕ → ℕ → Row
place_read_some file buffer count offset = if count == 0 then done 0 else place_read file buffer count offset

abbrev place_read_from : OpenFile → ℕ → ℕ → ℕ → Row
place_read_from file buffer count offset =
    if nat_le (2 ^ 63) offset then refuse EINVAL else place_read_some file buffer count offset

pread_open-silent : (stands : Open) (buffer count offset : ℕ) → Silent (pread_open stands buffer count offset)
pread_open-silent Closed buffer count offset = tt
pread_open-silent Input buffer count offset = tt
pread_open-silent Console buffer count offset = tt
pread_open-silent (File file) buffer count offset =
    silent-if (not file.reads) (refuse EBADF) (place_read_from file buffer count offset) tt
    (silent-if (nat_le (2 ^ 63) offset) (refuse EINVAL) (place_read_some file buffer count offset) tt
    (silent-if (count == 0) (done 0) (place_read file buffer count offset) tt (refl, λ bytes. tt)))

abbrev place_write_some : OpenFile → ℕ → ℕ → ℕ → Row
place_write_some file buffer count offset = if count == 0 then done 0 else write_bytes file offset buffer count acts

abbrev place_write_from : OpenFile → ℕ → ℕ → ℕ → Row
place_write_from file buffer count offset =
    if nat_le (2 ^ 63) offset then refuse EINVAL else place_write_some file buffer count offset

pwrite_open-silent : (stands : Open) (buffer count offset : ℕ) → Silent (pwrite_open stands buffer count offset)
pwrite_open-silent Closed buffer count offset = tt
pwrite_open-silent Input buffer count offset = tt
pwrite_open-silent Console buffer count offset = tt
pwrite_open-silent (File file) buffer count offset =
    silent-if (not file.writes) (refuse EBADF) (place_write_from file buffer count offset) tt
    (silent-if (nat_le (2 ^ 63) offset) (refuse EINVAL) (place_write_some file buffer count offset) tt
    (silent-if (count == 0) (done 0) (write_bytes file offset buffer count acts) tt
    (write_bytes-silent file offset buffer count acts)))

-- ---- read and write

-- a count that is 0 is tested to be
if-none : {A : Type 0} (count : ℕ) (one other : A) → count ≡ 0 → (if count == 0 then one else other) ≡ one
if-none {A} count one other e = let P : ℕ → Type 0 = λ n. (if n == 0 then one else other) ≡ one in subst P (sym e) refl

-- read puts nothing, and opens nothing
abbrev ReadsOnly : Row → Type 0
ReadsOnly row = EachCall (λ count. ⊤) (λ bytes stop. ⊥) (λ q. opens_at q ≡ None) row

read_open-only : (stands : Open) (fd buffer count : ℕ) → ReadsOnly (read_open stands fd buffer count)
read_open-only Closed fd buffer count = tt
read_open-only Input fd buffer count =
    each-if (λ row. ReadsOnly row) (count == 0) (done 0) (input_taken buffer count) tt (tt, λ bytes size. tt)
read_open-only Console fd buffer count = tt
read_open-only (File file) fd buffer count =
    each-also (λ count. ⊥) (λ count. ⊤) (λ bytes stop. ⊥) (λ bytes stop. ⊥) (λ q. opens_at q ≡ None)
    (λ q. opens_at q ≡ None) (λ count never. tt) (λ bytes stop never. never) (λ q none. none)
    (read_open (File file) fd buffer count) (read_file-silent fd file buffer count)

only-puts : (row : Row) → ReadsOnly row → PutsNothing row
only-puts row h =
    each-also (λ count. ⊤) (λ count. ⊤) (λ bytes stop. ⊥) (λ bytes stop. ⊥) (λ q. opens_at q ≡ None) (λ q. ⊤)
    (λ count any. tt) (λ bytes stop never. never) (λ q none. tt) row h

only-opens : (row : Row) → ReadsOnly row → OpensNothing row
only-opens row h =
    each-also (λ count. ⊤) (λ count. ⊤) (λ bytes stop. ⊥) (λ bytes stop. ⊤) (λ q. opens_at q ≡ None)
    (λ q. opens_at q ≡ None) (λ count any. tt) (λ bytes stop never. tt) (λ q none. none) row h

-- and takes nothing where it asks the input for nothing
read_open-takes : (stands : Open) (fd buffer count : ℕ) → taken_at stands count ≡ 0
    → TakesNothing (read_open stands fd buffer count)
read_open-takes Closed fd buffer count none = tt
read_open-takes Input fd buffer count none = let P : Row → Type 0 =
    λ row. TakesNothing row in subst P (sym (if-none count (done 0) (input_taken buffer count) none)) tt
read_open-takes Console fd buffer count none = tt
read_open-takes (File file) fd buffer count none =
    silent-takes (read_open (File file) fd buffer count) (read_file-silent fd file buffer count)

-- write takes nothing, and opens nothing
abbrev WritesOnly : Row → Type 0
WritesOnly row = EachCall (λ count. ⊥) (λ bytes stop. ⊤) (λ q. opens_at q ≡ None) row

write_open-only : (stands : Open) (fd buffer count : ℕ) → WritesOnly (write_open stands fd buffer count)
write_open-only Closed fd buffer count = tt
write_open-only Input fd buffer count = tt
write_open-only Console fd buffer count =
    each-if (λ row. WritesOnly row) (count == 0) (done 0) (console_put buffer count) tt (λ bytes size. (tt, tt))
write_open-only (File file) fd buffer count =
    each-also (λ count. ⊥) (λ count. ⊥) (λ bytes stop. ⊥) (λ bytes stop. ⊤) (λ q. opens_at q ≡ None)
    (λ q. opens_at q ≡ None) (λ count never. never) (λ bytes stop never. tt) (λ q none. none)
    (write_open (File file) fd buffer count) (write_file-silent fd file buffer count)

writes-takes : (row : Row) → WritesOnly row → TakesNothing row
writes-takes row h =
    each-also (λ count. ⊥) (λ count. ⊥) (λ bytes stop. ⊤) (λ bytes stop. ⊤) (λ q. opens_at q ≡ None) (λ q. ⊤)
    (λ count never. never) (λ bytes stop any. tt) (λ q none. tt) row h

writes-opens : (row : Row) → WritesOnly row → OpensNothing row
writes-opens row h =
    each-also (λ count. ⊥) (λ count. ⊤) (λ bytes stop. ⊤) (λ bytes stop. ⊤) (λ q. opens_at q ≡ None)
    (λ q. opens_at q ≡ None) (λ count never. tt) (λ bytes stop any. tt) (λ q none. none) row h

-- puts nothing where it has no byte for the console
write_open-puts : (stands : Open) (fd buffer count : ℕ) → put_at stands count ≡ 0
    → PutsNothing (write_open stands fd buffer count)
write_open-puts Closed fd buffer count none = tt
write_open-puts Input fd buffer count none = tt
write_open-puts Console fd buffer count none = let P : Row → Type 0 =
    λ row. PutsNothing row in subst P (sym (if-none count (done 0) (console_put buffer count) none)) tt
write_open-puts (File file) fd buffer count none =
    silent-puts (write_open (File file) fd buffer count) (write_file-silent fd file buffer count)

-- and fits where the console has room for its bytes
write_open-fits : (room : Option ℕ) (stands : Open) (fd buffer count : ℕ) → PutSuits room (put_at stands count)
    → PutsFit room (write_open stands fd buffer count)
write_open-fits room Closed fd buffer count suits = tt
write_open-fits room Input fd buffer count suits = tt
write_open-fits room Console fd buffer count suits =
    each-if (λ row. PutsFit room row) (count == 0) (done 0) (console_put buffer count) tt
    (λ bytes size. (let P : ℕ → Type 0 = λ n. PutSuits room n in subst P (sym size) suits, tt))
write_open-fits room (File file) fd buffer count suits =
    nothing-fits room (write_open (File file) fd buffer count)
    (silent-puts (write_open (File file) fd buffer count) (write_file-silent fd file buffer count))

-- ---- what does not stand at a file asks the folder nothing

abbrev NoFile : Row → Type 0
NoFile row = AsksNothing row

-- the row of an open number asks nothing where no file stands there
module _ (row : Open → Row) (closed : NoFile (row Closed)) (input : NoFile (row Input))
    (console : NoFile (row Console)) where
  no-file : (stands : Open) → is_file stands ≡ false → NoFile (row stands)
  no-file Closed none = closed
  no-file Input none = input
  no-file Console none = console
  no-file (File file) none = let never : ⊥ = cc in absurd never

read_open-asks : (stands : Open) (fd buffer count : ℕ) → is_file stands ≡ false
    → NoFile (read_open stands fd buffer count)
read_open-asks stands fd buffer count none =
    no-file (λ stands. read_open stands fd buffer count) tt
    (each-if (λ row. NoFile row) (count == 0) (done 0) (input_taken buffer count) tt
    (tt, λ bytes size. tt)) tt stands none

write_open-asks : (stands : Open) (fd buffer count : ℕ) → is_file stands ≡ false
    → NoFile (write_open stands fd buffer count)
write_open-asks stands fd buffer count none =
    no-file (λ stands. write_open stands fd buffer count) tt tt
    (each-if (λ row. NoFile row) (count == 0) (done 0) (console_put buffer count) tt
    (λ bytes size. (tt, tt))) stands none

-- ---- the table

module _ (given : Setting) (numbers : List Open) (request : List ℕ) where
  abbrev at_row : (Parts → Row) → Row
  at_row next = at_path (low (word request 1)) (word request 2) (word request 3) next

  at_row-silent : (next : Parts → Row) → ((path : Parts) → Silent (next path)) → Silent (at_row next)
  at_row-silent next more = at_path-silent (low (word request 1)) (word request 2) (word request 3) next more

  make_dir-silent : Silent (row_for MakeDir given numbers request)
  make_dir-silent = at_row-silent (λ path. make_dir_path (given.root ++ path))
      (λ path. (refl, λ kind. make_dir_kind-silent kind (given.root ++ path)))

  unlink-silent : Silent (row_for Unlink given numbers request)
  unlink-silent = at_row-silent (λ path. unlink_path (has (low (word request 4)) 0x200) path (given.root ++ path))
      (λ path. (refl, λ kind. unlink_kind-silent kind (has (low (word request 4)) 0x200) path (given.root ++ path)))

  access-silent : Silent (row_for Access given numbers request)
  access-silent = at_row-silent (λ path. access_path (given.root ++ path)) (λ path. (refl, λ kind. tt))

  open-still : Still (row_for OpenAt given numbers request)
  open-still =
      each-if (λ row. Still row) (word request 3 == 0 || nat_lt guest_path_limit (word request 3)) (refuse EINVAL)
      (Reads (word request 2) (word request 3) Port (λ bytes. with_path (guest_path (low (word request 1)) bytes)
      (λ path. open_path numbers (given.root ++ path) (low (word request 4))))) tt
      (λ bytes size. with_path-each (λ row. Still row) (λ error. tt) (guest_path (low (word request 1)) bytes)
      (λ path. open_path numbers (given.root ++ path) (low (word request 4)))
      (λ path. open_path-still (low (word request 4)) numbers (given.root ++ path)))

  abbrev Below : Parts → Type 0
  Below path = StandsBelow given.root path

  abbrev LastAt : Row → Type 0
  LastAt row = OpensLast (λ path. (cuts (low (word request 4)) ≡ true) × Below path) row

  open-last : LastAt (row_for OpenAt given numbers request)
  open-last =
      each-if (λ row. LastAt row) (word request 3 == 0 || nat_lt guest_path_limit (word request 3)) (refuse EINVAL)
      (Reads (word request 2) (word request 3) Port (λ bytes. with_path (guest_path (low (word request 1)) bytes)
      (λ path. open_path numbers (given.root ++ path) (low (word request 4))))) tt
      (λ bytes size. with_path-each (λ row. LastAt row) (λ error. tt) (guest_path (low (word request 1)) bytes)
      (λ path. open_path numbers (given.root ++ path) (low (word request 4)))
      (λ path. open_path-last (low (word request 4)) Below numbers (given.root ++ path) (path, refl)))

  abbrev stands : Open
  stands = open_at numbers (low (word request 1))

  abbrev row : Service → Row
  row service = row_for service given numbers request

  -- what a call takes and puts, and which file it opens before it acts
  pub record Touches (service : Service) : Type 0 where
    pub takes : taken_for service numbers request ≡ 0 → TakesNothing (row service)
    pub puts : put_for service numbers request ≡ 0 → PutsNothing (row service)
    pub fits : (room : Option ℕ) → PutSuits room (put_for service numbers request) → PutsFit room (row service)
    pub asks : asks_for service numbers request ≡ false → AsksNothing (row service)
    pub last : OpensLast (λ path. (cuts_for service request ≡ true) × Below path) (row service)

  abbrev MayCut : Service → Parts → Type 0
  MayCut service path = (cuts_for service request ≡ true) × Below path

  never : {A : Type 0} → true ≡ false → A
  never e = let no : ⊥ = cc in absurd no

  neither : (service : Service) → Silent (row service)
      → (asks_for service numbers request ≡ false → AsksNothing (row service)) → Touches service
  neither service silent asks = record {
    takes = λ none. silent-takes (row service) silent;
    puts = λ none. silent-puts (row service) silent;
    fits = λ room suits. nothing-fits room (row service) (silent-puts (row service) silent);
    asks = asks;
    last = nothing-last (MayCut service) (row service) (silent-opens (row service) silent);
  }

  pub row_for-touches : (service : Service) → Touches service
  row_for-touches MakeDir = neither MakeDir make_dir-silent (λ none. never none)
  row_for-touches Unlink = neither Unlink unlink-silent (λ none. never none)
  row_for-touches Truncate =
      neither Truncate (truncate_open-silent stands (word request 2))
      (λ none. no-file (λ stands. truncate_open stands (word request 2)) tt tt tt stands none)
  row_for-touches Access = neither Access access-silent (λ none. never none)
  row_for-touches OpenAt = record {
    takes = λ none. still-takes (row OpenAt) open-still;
    puts = λ none. still-puts (row OpenAt) open-still;
    fits = λ room suits. nothing-fits room (row OpenAt) (still-puts (row OpenAt) open-still);
    asks = λ none. never none;
    last = open-last;
  }
  row_for-touches Close =
      neither Close (close_open-silent stands (low (word request 1)))
      (λ none. no-file (λ stands. close_open stands (low (word request 1))) tt tt tt stands none)
  row_for-touches Seek =
      neither Seek (lseek_open-silent stands (low (word request 1)) (word request 2) (low (word request 3)))
      (λ none. no-file (λ stands. lseek_open stands (low (word request 1)) (word request 2)
      (low (word request 3))) tt tt
      tt stands none)
  row_for-touches Read =
      let only = read_open-only stands (low (word request 1)) (word request 2) (bounded (word request 3)) in
      record {
        takes = λ none. read_open-takes stands (low (word request 1)) (word request 2)
            (bounded (word request 3)) none;
        puts = λ none. only-puts (row Read) only;
        fits = λ room suits. nothing-fits room (row Read) (only-puts (row Read) only);
        asks = λ none. read_open-asks stands (low (word request 1)) (word request 2) (bounded (word request 3)) none;
        last = nothing-last (MayCut Read) (row Read) (only-opens (row Read) only);
      }
  row_for-touches Write =
      let only = write_open-only stands (low (word request 1)) (word request 2) (bounded (word request 3)) in
      record {
        takes = λ none. writes-takes (row Write) only;
        puts = λ none. write_open-puts stands (low (word request 1)) (word request 2) (bounded (word request 3)) none;
        fits = λ room suits. write_open-fits room stands (low (word request 1)) (word request 2)
            (bounded (word request 3)) suits;
        asks = λ none. write_open-asks stands (low (word request 1)) (word request 2) (bounded (word request 3)) none;
        last = nothing-last (MayCut Write) (row Write) (writes-opens (row Write) only);
      }
  row_for-touches ReadPlace =
      neither ReadPlace (pread_open-silent stands (word request 2) (bounded (word request 3)) (word request 4))
      (λ none. no-file (λ stands. pread_open stands (word request 2) (bounded (word request 3))
      (word request 4)) tt tt tt
      stands none)
  row_for-touches WritePlace =
      neither WritePlace (pwrite_open-silent stands (word request 2) (bounded (word request 3)) (word request 4))
      (λ none. no-file (λ stands. pwrite_open stands (word request 2) (bounded (word request 3)) (word request 4)) tt tt
      tt stands none)
  row_for-touches Stat =
      neither Stat (stat_open-silent stands (word request 2))
      (λ none. no-file (λ stands. stat_open stands (word request 2)) tt tt tt stands none)
  row_for-touches Exit = neither Exit tt (λ none. tt)
  row_for-touches MainVars =
      neither MainVars (main_vars_row-silent given.args (word request 1) (word request 2))
      (λ none. each-if (λ row. NoFile row) (nat_lt (word request 2) (main_vars_length given.args)) (refuse ENOMEM)
      (give_record (word request 1) (main_vars_text given.args (word request 1))) tt tt)
  row_for-touches Unknown = neither Unknown tt (λ none. tt)

-- a call that asks the input for nothing takes nothing
pub call_row-takes : (given : Setting) (numbers : List Open) (request : List ℕ) → call_takes numbers request ≡ 0
    → TakesNothing (call_row given numbers request)
call_row-takes given numbers request none =
    (row_for-touches given numbers request (service_of (word request 0))).takes none

-- one that has no bytes for the console puts nothing
pub call_row-puts : (given : Setting) (numbers : List Open) (request : List ℕ) → call_puts numbers request ≡ 0
    → PutsNothing (call_row given numbers request)
call_row-puts given numbers request none =
    (row_for-touches given numbers request (service_of (word request 0))).puts none

-- and one fits where the console has room for the bytes that it puts
pub call_row-fits : (given : Setting) (numbers : List Open) (request : List ℕ) (room : Option ℕ)
    → PutSuits room (call_puts numbers request) → PutsFit room (call_row given numbers request)
call_row-fits given numbers request room suits =
    (row_for-touches given numbers request (service_of (word request 0))).fits room suits

-- a file is opened directly before the call acts, and before a call of the folder only where the request cuts it
pub call_row-last : (given : Setting) (numbers : List Open) (request : List ℕ)
    → OpensLast (MayOpen given request) (call_row given numbers request)
call_row-last given numbers request =
    (row_for-touches given numbers request (service_of (word request 0))).last

-- a call that asks the folder nothing
pub call_row-asks : (given : Setting) (numbers : List Open) (request : List ℕ) → call_asks numbers request ≡ false
    → AsksNothing (call_row given numbers request)
call_row-asks given numbers request none =
    (row_for-touches given numbers request (service_of (word request 0))).asks none
