-- Which object of the outside a row calls before it acts, and with what.
use Rattle.std.proofs.Common.{◌≡◌, ◌≢◌, ◌+◌, ◌-◌, ◌^◌, ◌++◌, ℕ, Bool, true, false, List, [], ◌∷◌, length, Option, Some, None, Result, Ok, Err, refl, sym, ap, subst, ◌∙◌, nat_lt, if◌then◌else◌}
use Rattle.std.specs.Prelude.{nat_le, ◌==◌, ◌||◌, not, position}
use Rattle.std.proofs.lemmas.Bool.{false≢true}
use Rattle.fe_base.specs.Limits.{guest_file_limit, guest_path_limit}
use Rattle.fe_base.specs.WordLists.{main_vars_length}
use Rattle.fe_base.specs.declared.error_numbers.ErrNo.{ErrNo}
use Rattle.fe_base.specs.declared.error_numbers.ErrNo.TheVariants.{EBADF, EFBIG, EINVAL, ENOENT, EEXIST, ENOMEM}
use Rattle.elf_loader.specs.MainVars.{main_vars_text}
use Rattle.folder_tree.specs.Paths.{Parts}
use Rattle.folder_tree.specs.declared.folder.PathKind.{PathKind}
use Rattle.folder_tree.specs.declared.folder.PathKind.TheVariants.{Directory, File as PlainFile, Free, NoParent, UnderFile}
use Rattle.host_text.specs.Shapes.{is_quiet}
use Rattle.host_text.specs.Text.{Reply, OpenFile as OpenPath, Create, Size, ReadAt, WriteAt, SetSize, Done, Fail, Read as ReadRange, Write as WriteRange, Take, Put, Ask, Note, Look}
use Rattle.host_text.specs.declared.open_numbers.Open.{Open}
use Rattle.host_text.specs.declared.open_numbers.Open.TheVariants.{Closed, Input, Console, File}
use Rattle.host_text.specs.declared.open_numbers.OpenFile.{OpenFile}
use Rattle.syscall_proxy.specs.CallLaws.{AsksInside}
use Rattle.syscall_proxy.specs.CallTable.{row_for, call_row, service_of}
use Rattle.syscall_proxy.specs.DataRows.{read_open, write_open, write_place, write_bytes, pread_open, pwrite_open}
use Rattle.syscall_proxy.specs.HostRow.{user_bytes}
use Rattle.syscall_proxy.specs.Kept.{Kept, Setting, acts, opens}
use Rattle.syscall_proxy.specs.NumberRows.{close_open, lseek_open, sought, new_position, truncate_open}
use Rattle.syscall_proxy.specs.OpenFlags.{has, creates, wants_new, cuts}
use Rattle.syscall_proxy.specs.PathRows.{with_path, at_path, make_dir_kind, make_dir_path, remove_dir_at, unlink_kind, unlink_path, access_path, opened, cut_file, open_kind, open_free, open_path}
use Rattle.syscall_proxy.specs.PathRules.{guest_path}
use Rattle.syscall_proxy.specs.RecordRows.{give_record, stat_open, main_vars_row}
use Rattle.syscall_proxy.specs.RowShapes.{InUserArea}
use Rattle.syscall_proxy.specs.Rows.{Row, word, low, bounded, done, refuse, give, placed, moved, folder_fault, is_closed}
use Rattle.syscall_proxy.specs.declared.answers.CallAnswer.TheVariants.{Result as Value}
use Rattle.syscall_proxy.specs.declared.answers.CallFault.TheVariants.{Port, InputFault, ConsoleFault}
use Rattle.plain_machine.specs.Asks.{Asked, nothing, the_folder, the_input, the_console, number_of, asks_by, row_asks, file_asks, read_asks, write_asks}
use Rattle.plain_machine.specs.Rows.{IsInside}
use Rattle.plain_machine.proofs.Numbers.{InNoRow, each-number}

module _ (x : Asked) (user : List ℕ) where
  -- until it acts, the row reads ranges of the user area, and calls what is asked alone
  abbrev pub OnlyCalls : Row → Type 0
  OnlyCalls (Done a) = Unit {0}
  OnlyCalls (Fail e) = Unit {0}
  OnlyCalls (ReadRange at count stop k) = InUserArea at count × (length (user_bytes.get user at count) ≡ count → OnlyCalls (k (user_bytes.get user at count)))
  OnlyCalls (WriteRange at bytes stop k) = Unit {0}
  OnlyCalls (Take count stop k) = x ≡ the_input
  OnlyCalls (Put bytes stop k) = (x ≡ the_console bytes) × (bytes ≢ [])
  OnlyCalls (Ask q stop k) = (x ≡ the_folder) × ((reply : Reply q) → is_quiet q ≡ true → OnlyCalls (k reply))
  OnlyCalls (Note g k) = Unit {0}
  OnlyCalls (Look k) = Unit {0}

  only-if : (t : Bool) (one other : Row) → OnlyCalls one → OnlyCalls other → OnlyCalls (if t then one else other)
  only-if true one other p q = p
  only-if false one other p q = q

-- what is loud is no quiet call
loud : {P : Type 0} → false ≡ true → P
loud e = absurd (false≢true e)

-- ---- rows with a path

module _ (user : List ℕ) where
  abbrev Asks : Row → Type 0
  Asks t = OnlyCalls the_folder user t

  with_path-only : (found : Result Parts ErrNo) (next : Parts → Row) → ((path : Parts) → Asks (next path)) → Asks (with_path found next)
  with_path-only (Ok path) next nexts = nexts path
  with_path-only (Err error) next nexts = tt

  at_path-only : (dirfd place count : ℕ) (next : Parts → Row) → InUserArea place count → ((path : Parts) → Asks (next path)) → Asks (at_path dirfd place count next)
  at_path-only dirfd place count next inside nexts =
      only-if the_folder user (count == 0 || nat_lt guest_path_limit count) (refuse EINVAL) (ReadRange place count Port (λ bytes. with_path (guest_path dirfd bytes) next)) tt
      (inside, λ size. with_path-only (guest_path dirfd (user_bytes.get user place count)) next nexts)

  make_dir_kind-only : (kind : PathKind) (path : Parts) → Asks (make_dir_kind kind path)
  make_dir_kind-only UnderFile path = tt
  make_dir_kind-only NoParent path = tt
  make_dir_kind-only Directory path = tt
  make_dir_kind-only PlainFile path = tt
  make_dir_kind-only Free path = (refl, λ reply q. loud q)

  make_dir_path-only : (path : Parts) → Asks (make_dir_path path)
  make_dir_path-only path = (refl, λ kind q. make_dir_kind-only kind path)

  remove_dir_at-only : (path place : Parts) → Asks (remove_dir_at path place)
  remove_dir_at-only [] place = tt
  remove_dir_at-only (part ∷ path) place = (refl, λ reply q. loud q)

  unlink_kind-only : (kind : PathKind) (dir : Bool) (path place : Parts) → Asks (unlink_kind kind dir path place)
  unlink_kind-only UnderFile dir path place = tt
  unlink_kind-only NoParent dir path place = tt
  unlink_kind-only Free dir path place = tt
  unlink_kind-only Directory true path place = remove_dir_at-only path place
  unlink_kind-only Directory false path place = tt
  unlink_kind-only PlainFile true path place = tt
  unlink_kind-only PlainFile false path place = (refl, λ reply q. loud q)

  unlink_path-only : (dir : Bool) (path place : Parts) → Asks (unlink_path dir path place)
  unlink_path-only dir path place = (refl, λ kind q. unlink_kind-only kind dir path place)

  access_path-only : (path : Parts) → Asks (access_path path)
  access_path-only path = (refl, λ kind q. tt)

-- ---- openat

module _ (user : List ℕ) (flags : ℕ) where
  abbrev AsksOpen : Row → Type 0
  AsksOpen t = OnlyCalls the_folder user t

  cut_file-only : (fd number : ℕ) → AsksOpen (cut_file fd number flags)
  cut_file-only fd number = only-if the_folder user (cuts flags) (Ask (SetSize number 0) folder_fault (λ all. opened fd number flags)) (opened fd number flags) (refl, λ reply q. loud q) tt

  open_kind-only : (kind : PathKind) (fd : ℕ) (path : Parts) → AsksOpen (open_kind kind fd path flags)
  open_kind-only UnderFile fd path = tt
  open_kind-only NoParent fd path = tt
  open_kind-only Free fd path = only-if the_folder user (creates flags) (Ask (Create path) folder_fault (λ number. opened fd number flags)) (refuse ENOENT) (refl, λ reply q. loud q) tt
  open_kind-only Directory fd path = tt
  open_kind-only PlainFile fd path =
      only-if the_folder user (wants_new flags) (refuse EEXIST) (Ask (OpenPath path) folder_fault (λ number. cut_file fd number flags)) tt
      (refl, λ number q. cut_file-only fd number)

  open_free-only : (free : Option ℕ) (path : Parts) → AsksOpen (open_free free path flags)
  open_free-only None path = tt
  open_free-only (Some fd) path = (refl, λ kind q. open_kind-only kind fd path)

  open_path-only : (numbers : List Open) (path : Parts) → AsksOpen (open_path numbers path flags)
  open_path-only numbers path = only-if the_folder user (has flags 3) (refuse EINVAL) (open_free (position is_closed numbers) path flags) tt (open_free-only (position is_closed numbers) path)

-- ---- rows of a number

module _ (user : List ℕ) where
  close_open-only : (stands : Open) (fd : ℕ) → OnlyCalls (file_asks stands) user (close_open stands fd)
  close_open-only Closed fd = tt
  close_open-only Input fd = tt
  close_open-only Console fd = tt
  close_open-only (File file) fd = (refl, λ reply q. loud q)

  lseek_open-only : (stands : Open) (fd offset whence : ℕ) → OnlyCalls (file_asks stands) user (lseek_open stands fd offset whence)
  lseek_open-only Closed fd offset whence = tt
  lseek_open-only Input fd offset whence = tt
  lseek_open-only Console fd offset whence = tt
  lseek_open-only (File file) fd offset whence =
      only-if the_folder user (nat_lt 2 whence) (refuse EINVAL)
      (if whence == 2 then Ask (Size file.number) folder_fault (λ size. sought fd file (new_position size offset)) else if whence == 1 then sought fd file (new_position file.position offset) else sought fd file (new_position 0 offset)) tt
      (only-if the_folder user (whence == 2) (Ask (Size file.number) folder_fault (λ size. sought fd file (new_position size offset)))
      (if whence == 1 then sought fd file (new_position file.position offset) else sought fd file (new_position 0 offset)) (refl, λ size q. tt)
      (only-if the_folder user (whence == 1) (sought fd file (new_position file.position offset)) (sought fd file (new_position 0 offset)) tt tt))

  truncate_open-only : (stands : Open) (size : ℕ) → OnlyCalls (file_asks stands) user (truncate_open stands size)
  truncate_open-only Closed size = tt
  truncate_open-only Input size = tt
  truncate_open-only Console size = tt
  truncate_open-only (File file) size =
      only-if the_folder user (not file.writes) (refuse EINVAL)
      (if nat_le (2 ^ 63) size then refuse EINVAL else if nat_lt guest_file_limit size then refuse EFBIG else Ask (SetSize file.number size) folder_fault (λ all. done 0)) tt
      (only-if the_folder user (nat_le (2 ^ 63) size) (refuse EINVAL) (if nat_lt guest_file_limit size then refuse EFBIG else Ask (SetSize file.number size) folder_fault (λ all. done 0)) tt
      (only-if the_folder user (nat_lt guest_file_limit size) (refuse EFBIG) (Ask (SetSize file.number size) folder_fault (λ all. done 0)) tt (refl, λ reply q. loud q)))

  stat_open-only : (stands : Open) (buffer : ℕ) → OnlyCalls (file_asks stands) user (stat_open stands buffer)
  stat_open-only Closed buffer = tt
  stat_open-only Input buffer = tt
  stat_open-only Console buffer = tt
  stat_open-only (File file) buffer = (refl, λ size q. tt)

  main_vars-only : (args : List (List ℕ)) (buffer limit : ℕ) → OnlyCalls nothing user (main_vars_row args buffer limit)
  main_vars-only args buffer limit = only-if nothing user (nat_lt limit (main_vars_length args)) (refuse ENOMEM) (give_record buffer (main_vars_text args buffer)) tt tt

-- ---- rows that move bytes

module _ (user : List ℕ) (buffer count : ℕ) (inside : InUserArea buffer count) where
  abbrev get : List ℕ
  get = user_bytes.get user buffer count

  read_file-only : (file : OpenFile) (fd : ℕ) → OnlyCalls the_folder user (read_open (File file) fd buffer count)
  read_file-only file fd =
      only-if the_folder user (not file.reads) (refuse EBADF)
      (if count == 0 then done 0 else Ask (ReadAt file.number file.position count) folder_fault (λ bytes. Note (opens fd (placed file (moved file.position (length bytes)))) (give buffer bytes))) tt
      (only-if the_folder user (count == 0) (done 0) (Ask (ReadAt file.number file.position count) folder_fault (λ bytes. Note (opens fd (placed file (moved file.position (length bytes)))) (give buffer bytes))) tt
      (refl, λ bytes q. tt))

  input-only : (t : Bool) → OnlyCalls (if t then nothing else the_input) user (if t then done 0 else Take count InputFault (λ bytes. Note acts (give buffer bytes)))
  input-only true = tt
  input-only false = refl

  read_open-only : (stands : Open) (fd : ℕ) → OnlyCalls (read_asks stands count) user (read_open stands fd buffer count)
  read_open-only Closed fd = tt
  read_open-only Input fd = input-only (count == 0)
  read_open-only Console fd = tt
  read_open-only (File file) fd = read_file-only file fd

  write_bytes-only : (file : OpenFile) (place : ℕ) (notes : Kept → Kept) → OnlyCalls the_folder user (write_bytes file place buffer count notes)
  write_bytes-only file place notes =
      only-if the_folder user (nat_lt (guest_file_limit - count) place) (refuse EFBIG) (ReadRange buffer count Port (λ bytes. Ask (WriteAt file.number place bytes) folder_fault (λ all. Note notes (Done (Value count))))) tt
      (inside, λ size. (refl, λ reply q. loud q))

  write_file-only : (file : OpenFile) (fd : ℕ) → OnlyCalls the_folder user (write_open (File file) fd buffer count)
  write_file-only file fd =
      only-if the_folder user (not file.writes) (refuse EBADF)
      (if count == 0 then done 0 else if file.appends then Ask (Size file.number) folder_fault (λ size. write_place fd file size buffer count) else write_place fd file file.position buffer count) tt
      (only-if the_folder user (count == 0) (done 0) (if file.appends then Ask (Size file.number) folder_fault (λ size. write_place fd file size buffer count) else write_place fd file file.position buffer count) tt
      (only-if the_folder user file.appends (Ask (Size file.number) folder_fault (λ size. write_place fd file size buffer count)) (write_place fd file file.position buffer count)
      (refl, λ size q. write_bytes-only file size (opens fd (placed file (size + count))))
      (write_bytes-only file file.position (opens fd (placed file (file.position + count))))))

  -- some bytes are not none
  some-bytes : length get ≡ count → (count == 0) ≡ false → get ≢ []
  some-bytes size some none =
      let zero_is : 0 ≡ count = sym (ap (λ (l : List ℕ). length l) none) ∙ size in
      false≢true (sym some ∙ ap (λ n. n == 0) (sym zero_is))

  console-only : (t : Bool) → (count == 0) ≡ t → OnlyCalls (if t then nothing else the_console get) user (if t then done 0 else ReadRange buffer count Port (λ bytes. Put bytes ConsoleFault (done count)))
  console-only true e = tt
  console-only false e = (inside, λ size. (refl, some-bytes size e))

  write_open-only : (stands : Open) (fd : ℕ) → OnlyCalls (write_asks stands user buffer count) user (write_open stands fd buffer count)
  write_open-only Closed fd = tt
  write_open-only Input fd = tt
  write_open-only Console fd = console-only (count == 0) refl
  write_open-only (File file) fd = write_file-only file fd

  pread_open-only : (stands : Open) (offset : ℕ) → OnlyCalls (file_asks stands) user (pread_open stands buffer count offset)
  pread_open-only Closed offset = tt
  pread_open-only Input offset = tt
  pread_open-only Console offset = tt
  pread_open-only (File file) offset =
      only-if the_folder user (not file.reads) (refuse EBADF)
      (if nat_le (2 ^ 63) offset then refuse EINVAL else if count == 0 then done 0 else Ask (ReadAt file.number offset count) folder_fault (λ bytes. Note acts (give buffer bytes))) tt
      (only-if the_folder user (nat_le (2 ^ 63) offset) (refuse EINVAL) (if count == 0 then done 0 else Ask (ReadAt file.number offset count) folder_fault (λ bytes. Note acts (give buffer bytes))) tt
      (only-if the_folder user (count == 0) (done 0) (Ask (ReadAt file.number offset count) folder_fault (λ bytes. Note acts (give buffer bytes))) tt (refl, λ bytes q. tt)))

  pwrite_open-only : (stands : Open) (offset : ℕ) → OnlyCalls (file_asks stands) user (pwrite_open stands buffer count offset)
  pwrite_open-only Closed offset = tt
  pwrite_open-only Input offset = tt
  pwrite_open-only Console offset = tt
  pwrite_open-only (File file) offset =
      only-if the_folder user (not file.writes) (refuse EBADF)
      (if nat_le (2 ^ 63) offset then refuse EINVAL else if count == 0 then done 0 else write_bytes file offset buffer count acts) tt
      (only-if the_folder user (nat_le (2 ^ 63) offset) (refuse EINVAL) (if count == 0 then done 0 else write_bytes file offset buffer count acts) tt
      (only-if the_folder user (count == 0) (done 0) (write_bytes file offset buffer count acts) tt (write_bytes-only file offset acts)))

-- ---- every row

module _ (given : Setting) (numbers : List Open) (request user : List ℕ) where
  -- the row of a number calls what is asked
  abbrev By : ℕ → Type 0
  By number = AsksInside (service_of number) given request → OnlyCalls (asks_by number numbers request user) user (row_for (service_of number) given numbers request)

  at-34 : By 34
  unfolding service_of
  at-34 inside = at_path-only user (low (word request 1)) (word request 2) (word request 3) (λ path. make_dir_path (given.root ++ path)) inside (λ path. make_dir_path-only user (given.root ++ path))

  at-35 : By 35
  unfolding service_of
  at-35 inside = at_path-only user (low (word request 1)) (word request 2) (word request 3) (λ path. unlink_path (has (low (word request 4)) 0x200) path (given.root ++ path)) inside (λ path. unlink_path-only user (has (low (word request 4)) 0x200) path (given.root ++ path))

  at-46 : By 46
  unfolding service_of
  at-46 inside = truncate_open-only user (number_of numbers request) (word request 2)

  at-48 : By 48
  unfolding service_of
  at-48 inside = at_path-only user (low (word request 1)) (word request 2) (word request 3) (λ path. access_path (given.root ++ path)) inside (λ path. access_path-only user (given.root ++ path))

  at-56 : By 56
  unfolding service_of
  at-56 inside = at_path-only user (low (word request 1)) (word request 2) (word request 3) (λ path. open_path numbers (given.root ++ path) (low (word request 4))) inside (λ path. open_path-only user (low (word request 4)) numbers (given.root ++ path))

  at-57 : By 57
  unfolding service_of
  at-57 inside = close_open-only user (number_of numbers request) (low (word request 1))

  at-62 : By 62
  unfolding service_of
  at-62 inside = lseek_open-only user (number_of numbers request) (low (word request 1)) (word request 2) (low (word request 3))

  at-63 : By 63
  unfolding service_of
  at-63 inside = read_open-only user (word request 2) (bounded (word request 3)) inside (number_of numbers request) (low (word request 1))

  at-64 : By 64
  unfolding service_of
  at-64 inside = write_open-only user (word request 2) (bounded (word request 3)) inside (number_of numbers request) (low (word request 1))

  at-67 : By 67
  unfolding service_of
  at-67 inside = pread_open-only user (word request 2) (bounded (word request 3)) inside (number_of numbers request) (word request 4)

  at-68 : By 68
  unfolding service_of
  at-68 inside = pwrite_open-only user (word request 2) (bounded (word request 3)) inside (number_of numbers request) (word request 4)

  at-80 : By 80
  unfolding service_of
  at-80 inside = stat_open-only user (number_of numbers request) (word request 2)

  at-93 : By 93
  unfolding service_of
  at-93 inside = tt

  at-94 : By 94
  unfolding service_of
  at-94 inside = tt

  at-2011 : By 2011
  unfolding service_of
  at-2011 inside = main_vars-only user given.args (word request 1) (word request 2)

  at-0 : By 0
  unfolding service_of
  at-0 inside = tt

  -- a number of no call
  others : (n : ℕ) → InNoRow n → By n
  unfolding service_of
  others n h =
      let same : service_of n ≡ service_of 0 = rw (h.not_34, h.not_35, h.not_46, h.not_48, h.not_56, h.not_57, h.not_62, h.not_63, h.not_64, h.not_67, h.not_68, h.not_80, h.not_93, h.not_94, h.not_2011) refl in
      let none : asks_by n numbers request user ≡ nothing = rw (h.not_34, h.not_35, h.not_46, h.not_48, h.not_56, h.not_57, h.not_62, h.not_63, h.not_64, h.not_67, h.not_68, h.not_80) refl in
      subst (λ s. AsksInside s given request → OnlyCalls (asks_by n numbers request user) user (row_for s given numbers request)) (sym same)
      (subst (λ a. AsksInside (service_of 0) given request → OnlyCalls a user (row_for (service_of 0) given numbers request)) (sym none) at-0)

  by-number : (n : ℕ) → By n
  by-number = each-number By at-34 at-35 at-46 at-48 at-56 at-57 at-62 at-63 at-64 at-67 at-68 at-80 at-93 at-94 at-2011 others

-- the row of a request calls what it asks
pub call_row-only : (given : Setting) (numbers : List Open) (request user : List ℕ) → IsInside given request
    → OnlyCalls (row_asks numbers request user) user (call_row given numbers request)
call_row-only given numbers request user inside = by-number given numbers request user (word request 0) inside
