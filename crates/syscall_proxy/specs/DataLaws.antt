-- The rows that move bytes are rows, end well, and stay inside.
use Rattle.std.specs.Prelude.{◌≡◌, ◌≤◌, ◌<◌, ◌+◌, ◌-◌, ◌^◌, ◌==◌, not, nat_lt, nat_le, if◌then◌else◌, ℕ, Bool, true}
use Rattle.std.specs.Prelude.{false, List, length, Option, Some, None}
use Rattle.std.proofs.Common.{sym, subst, ap, ◌∙◌, arith, refl}
use Rattle.std.proofs.lemmas.Bool.{ltb-true, ltb-false, eqb-false}
use Rattle.fe_base.specs.Limits.{guest_file_limit, transfer_limit}
use Rattle.fe_base.specs.declared.error_numbers.ErrNo.TheVariants.{EBADF, EINVAL, EFBIG, ESPIPE}
use Rattle.folder_tree.specs.Tree.{Tree, opens_of}
use Rattle.host_text.specs.Leads.{Leads}
use Rattle.host_text.specs.Text.{Text, Done, Note, Ask, Read, ReadAt, WriteAt, Size, Take, Put}
use Rattle.host_text.specs.declared.open_numbers.Open.{Open}
use Rattle.host_text.specs.declared.open_numbers.Open.TheVariants.{Closed, Input, Console, File}
use Rattle.host_text.specs.declared.open_numbers.OpenFile.{OpenFile}
use Rattle.syscall_proxy.specs.Kept.{Kept, kept, open_at, acts, opens}
use Rattle.syscall_proxy.specs.Rows.{Row, done, refuse, folder_fault, give, placed, moved}
use Rattle.syscall_proxy.specs.DataRows.{read_input, read_file, read_open, read_row, write_console, write_bytes}
use Rattle.syscall_proxy.specs.DataRows.{write_place, write_file, write_open, write_row, pread_file, pread_open}
use Rattle.syscall_proxy.specs.DataRows.{pread_row, pwrite_file, pwrite_open, pwrite_row}
use Rattle.syscall_proxy.specs.RowShapes.{Marks, IsRow, LeadsOn, StaysInside, InUserArea}
use Rattle.syscall_proxy.specs.Worlds.{IsWorldOf, EndsWell}
use Rattle.syscall_proxy.specs.LeadRows.{On, on-if, on-refuse, on-size, on-read, on-write, file-open, world-placed}
use Rattle.syscall_proxy.specs.ShapeRows.{row-if, done-row, by_result, by_opens, done-closes, inside-if}
use Rattle.syscall_proxy.specs.declared.answers.CallAnswer.TheVariants.{Result as Value}
use Rattle.syscall_proxy.specs.declared.answers.CallFault.TheVariants.{Port, InputFault, ConsoleFault}

-- ---- the continuations behind each test, named for the laws

abbrev take_bytes : ℕ → ℕ → Row
take_bytes buffer count = Take count InputFault (λ bytes. Note acts (give buffer bytes))

abbrev read_bytes : ℕ → OpenFile → ℕ → ℕ → Row
read_bytes fd file buffer count =
    Ask (ReadAt file.number file.position count) folder_fault
    (λ bytes. Note (opens fd (placed file (moved file.position (length bytes)))) (give buffer bytes))

abbrev read_some : ℕ → OpenFile → ℕ → ℕ → Row
read_some fd file buffer count = if count == 0 then done 0 else read_bytes fd file buffer count

abbrev put_bytes : ℕ → ℕ → Row
put_bytes buffer count = Read buffer count Port (λ bytes. Put bytes ConsoleFault (done count))

abbrev store_bytes : OpenFile → ℕ → ℕ → ℕ → (Kept → Kept) → Row
store_bytes file place buffer count notes =
    Read buffer count Port (λ bytes. Ask (WriteAt file.number place bytes) folder_fault
    (λ all. Note notes (Done (Value count))))

abbrev append_bytes : ℕ → OpenFile → ℕ → ℕ → Row
append_bytes fd file buffer count = Ask (Size file.number) folder_fault (λ size. write_place fd file size buffer count)

abbrev write_by : ℕ → OpenFile → ℕ → ℕ → Row
write_by fd file buffer count = if file.appends then append_bytes fd file buffer count else write_place fd file
    file.position buffer count

abbrev write_some : ℕ → OpenFile → ℕ → ℕ → Row
write_some fd file buffer count = if count == 0 then done 0 else write_by fd file buffer count

abbrev pread_bytes : OpenFile → ℕ → ℕ → ℕ → Row
pread_bytes file buffer count offset =
    Ask (ReadAt file.number offset count) folder_fault (λ bytes. Note acts (give buffer bytes))

abbrev pread_some : OpenFile → ℕ → ℕ → ℕ → Row
pread_some file buffer count offset = if count == 0 then done 0 else pread_bytes file buffer count offset

abbrev pread_from : OpenFile → ℕ → ℕ → ℕ → Row
pread_from file buffer count offset =
    if nat_le (2 ^ 63) offset then refuse EINVAL else pread_some file buffer count offset

abbrev pwrite_some : OpenFile → ℕ → ℕ → ℕ → Row
pwrite_some file buffer count offset = if count == 0 then done 0 else write_bytes file offset buffer count acts

abbrev pwrite_from : OpenFile → ℕ → ℕ → ℕ → Row
pwrite_from file buffer count offset =
    if nat_le (2 ^ 63) offset then refuse EINVAL else pwrite_some file buffer count offset

-- ---- shapes

read_input-row : (buffer count : ℕ) → IsRow (read_input buffer count)
read_input-row buffer count = row-if (count == 0) (done 0) (take_bytes buffer count) (done-row 0)
    (refl, λ bytes. (by_result, (refl, tt, tt)))

read_file-row : (fd : ℕ) (file : OpenFile) (buffer count : ℕ) → IsRow (read_file fd file buffer count)
read_file-row fd file buffer count =
    row-if (not file.reads) (refuse EBADF) (read_some fd file buffer count) (done-row 0)
    (row-if (count == 0) (done 0) (read_bytes fd file buffer count) (done-row 0)
    (refl, λ bytes. (by_opens fd (placed file (moved file.position (length bytes))), (refl, tt, tt))))

-- read is a row
pub read_open-row : (stands : Open) (fd buffer count : ℕ) → IsRow (read_open stands fd buffer count)
read_open-row Closed fd buffer count = done-row 0
read_open-row Input fd buffer count = read_input-row buffer count
read_open-row Console fd buffer count = done-row 0
read_open-row (File file) fd buffer count = read_file-row fd file buffer count

write_console-row : (buffer count : ℕ) → IsRow (write_console buffer count)
write_console-row buffer count =
    row-if (count == 0) (done 0) (put_bytes buffer count) (done-row 0) (refl, λ bytes. (refl, done-closes count))

write_bytes-row : (file : OpenFile) (place buffer count : ℕ) (notes : Kept → Kept) → Marks notes
    → IsRow (write_bytes file place buffer count notes)
write_bytes-row file place buffer count notes marks =
    row-if (nat_lt (guest_file_limit - count) place) (refuse EFBIG) (store_bytes file place buffer count notes)
    (done-row 0) (refl, λ bytes. (refl, λ all. (marks, tt)))

write_place-row : (fd : ℕ) (file : OpenFile) (place buffer count : ℕ) → IsRow (write_place fd file place buffer count)
write_place-row fd file place buffer count =
    write_bytes-row file place buffer count (opens fd (placed file (place + count)))
    (by_opens fd (placed file (place + count)))

write_file-row : (fd : ℕ) (file : OpenFile) (buffer count : ℕ) → IsRow (write_file fd file buffer count)
write_file-row fd file buffer count =
    row-if (not file.writes) (refuse EBADF) (write_some fd file buffer count) (done-row 0)
    (row-if (count == 0) (done 0) (write_by fd file buffer count) (done-row 0)
    (row-if file.appends (append_bytes fd file buffer count) (write_place fd file file.position buffer count)
    (refl, λ size. write_place-row fd file size buffer count) (write_place-row fd file file.position buffer count)))

-- write is a row
pub write_open-row : (stands : Open) (fd buffer count : ℕ) → IsRow (write_open stands fd buffer count)
write_open-row Closed fd buffer count = done-row 0
write_open-row Input fd buffer count = done-row 0
write_open-row Console fd buffer count = write_console-row buffer count
write_open-row (File file) fd buffer count = write_file-row fd file buffer count

-- pread64 is a row
pub pread_open-row : (stands : Open) (buffer count offset : ℕ) → IsRow (pread_open stands buffer count offset)
pread_open-row Closed buffer count offset = done-row 0
pread_open-row Input buffer count offset = done-row 0
pread_open-row Console buffer count offset = done-row 0
pread_open-row (File file) buffer count offset =
    row-if (not file.reads) (refuse EBADF) (pread_from file buffer count offset) (done-row 0)
    (row-if (nat_le (2 ^ 63) offset) (refuse EINVAL) (pread_some file buffer count offset) (done-row 0)
    (row-if (count == 0) (done 0) (pread_bytes file buffer count offset) (done-row 0)
    (refl, λ bytes. (by_result, (refl, tt, tt)))))

-- pwrite64 is a row
pub pwrite_open-row : (stands : Open) (buffer count offset : ℕ) → IsRow (pwrite_open stands buffer count offset)
pwrite_open-row Closed buffer count offset = done-row 0
pwrite_open-row Input buffer count offset = done-row 0
pwrite_open-row Console buffer count offset = done-row 0
pwrite_open-row (File file) buffer count offset =
    row-if (not file.writes) (refuse EBADF) (pwrite_from file buffer count offset) (done-row 0)
    (row-if (nat_le (2 ^ 63) offset) (refuse EINVAL) (pwrite_some file buffer count offset) (done-row 0)
    (row-if (count == 0) (done 0) (write_bytes file offset buffer count acts) (done-row 0)
    (write_bytes-row file offset buffer count acts by_result)))

-- ---- where they lead

zero_small : 0 < 2 ^ 64
zero_small = omega arith

count_small : (count : ℕ) → count ≤ transfer_limit → count < 2 ^ 64
count_small count h = omega (arith, h)

-- a result of so many bytes, in a world
pub on-count : (n count : ℕ) (t : Tree) (k : Kept) → n ≤ count → count ≤ transfer_limit → IsWorldOf k.numbers t
    → EndsWell (Value n) t k
on-count n count t k short bound w = (omega (arith, short, bound), w)

-- the call is done
pub on-done : (t : Tree) (k : Kept) → IsWorldOf k.numbers t → On (done 0) t k
on-done t k w = (zero_small, w)

module _ (numbers : List Open) (fd buffer count : ℕ) (bound : count ≤ transfer_limit) (t : Tree) (acted : Bool)
    (waiting : List ℕ) (w : IsWorldOf numbers t) where
  abbrev here : Kept
  here = kept numbers acted waiting

  take-leads : On (take_bytes buffer count) t here
  take-leads bytes short = on-count (length bytes) count t (acts here) short bound w

  read-leads : (file : OpenFile) → open_at numbers fd ≡ File file → On (read_bytes fd file buffer count) t here
  read-leads file e =
      on-read file.number file.position count folder_fault
      (λ bytes. Note (opens fd (placed file (moved file.position (length bytes)))) (give buffer bytes)) t here
      (file-open numbers fd file t w e)
      (λ bytes short. on-count (length bytes) count t
      (opens fd (placed file (moved file.position (length bytes))) here) short bound
      (world-placed numbers fd file (moved file.position (length bytes)) t e w))

  pub read_open-leads : (stands : Open) → open_at numbers fd ≡ stands → On (read_open stands fd buffer count) t here
  read_open-leads Closed e = on-refuse EBADF t here w
  read_open-leads Input e = on-if (count == 0) (done 0) (take_bytes buffer count) t here (λ z. on-done t here w)
      (λ z. take-leads)
  read_open-leads Console e = on-refuse EBADF t here w
  read_open-leads (File file) e =
      on-if (not file.reads) (refuse EBADF) (read_some fd file buffer count) t here (λ z. on-refuse EBADF t here w)
      (λ z. on-if (count == 0) (done 0) (read_bytes fd file buffer count) t here (λ y. on-done t here w)
      (λ y. read-leads file e))

  some_count : (count == 0) ≡ false → 0 < count
  some_count z = let h = eqb-false count 0 z in grind (arith, h)

  -- the guest's bytes go to a file, from a place on
  write_bytes-leads : (file : OpenFile) (place : ℕ) (notes : Kept → Kept) → 0 < opens_of t file.number → 0 < count
      → ((now : Tree) → place + count ≤ guest_file_limit → IsWorldOf numbers now → IsWorldOf (notes here).numbers now)
      → On (write_bytes file place buffer count notes) t here
  write_bytes-leads file place notes some filled more =
      on-if (nat_lt (guest_file_limit - count) place) (refuse EFBIG) (store_bytes file place buffer count notes) t here
      (λ z. on-refuse EFBIG t here w)
      (λ z. let fits = ltb-false (guest_file_limit - count) place z in
      let ends : place + count ≤ guest_file_limit = omega (arith, fits, bound) in
      λ bytes size.
      on-write numbers file.number place bytes folder_fault (λ all. Note notes (Done (Value count))) t here w some
      (omega (arith, size, filled)) (omega (arith, size, ends))
      (λ now v. on-count count count now (notes here) (omega arith) bound (more now ends v)))

  write_place-leads : (file : OpenFile) (place : ℕ) → open_at numbers fd ≡ File file → 0 < count
      → On (write_place fd file place buffer count) t here
  write_place-leads file place e filled =
      write_bytes-leads file place (opens fd (placed file (place + count))) (file-open numbers fd file t w e) filled
      (λ now ends v. world-placed numbers fd file (place + count) now e v)

  append-leads : (file : OpenFile) → open_at numbers fd ≡ File file → 0 < count
      → On (append_bytes fd file buffer count) t here
  append-leads file e filled = on-size file.number folder_fault (λ size. write_place fd file size buffer count) t here
      (file-open numbers fd file t w e) (λ small. write_place-leads file _ e filled) w.tree

  pub write_open-leads : (stands : Open) → open_at numbers fd ≡ stands → On (write_open stands fd buffer count) t here
  write_open-leads Closed e = on-refuse EBADF t here w
  write_open-leads Input e = on-refuse EBADF t here w
  write_open-leads Console e = on-if (count == 0) (done 0) (put_bytes buffer count) t here (λ z. on-done t here w)
      (λ z bytes size. (count_small count bound, w))
  write_open-leads (File file) e =
      on-if (not file.writes) (refuse EBADF) (write_some fd file buffer count) t here (λ z. on-refuse EBADF t here w)
      (λ z. on-if (count == 0) (done 0) (write_by fd file buffer count) t here (λ y. on-done t here w)
      (λ y. on-if file.appends (append_bytes fd file buffer count)
      (write_place fd file file.position buffer count) t here
      (λ x. append-leads file e (some_count y)) (λ x. write_place-leads file file.position e (some_count y))))

  pub pread_open-leads : (offset : ℕ) (stands : Open) → open_at numbers fd ≡ stands
      → On (pread_open stands buffer count offset) t here
  pread_open-leads offset Closed e = on-refuse EBADF t here w
  pread_open-leads offset Input e = on-refuse ESPIPE t here w
  pread_open-leads offset Console e = on-refuse ESPIPE t here w
  pread_open-leads offset (File file) e =
      on-if (not file.reads) (refuse EBADF) (pread_from file buffer count offset) t here (λ z. on-refuse EBADF t here w)
      (λ z. on-if (nat_le (2 ^ 63) offset) (refuse EINVAL) (pread_some file buffer count offset) t here
      (λ y. on-refuse EINVAL t here w)
      (λ y. on-if (count == 0) (done 0) (pread_bytes file buffer count offset) t here (λ x. on-done t here w)
      (λ x. on-read file.number offset count folder_fault (λ bytes. Note acts (give buffer bytes)) t here
      (file-open numbers fd file t w e)
      (λ bytes short. on-count (length bytes) count t (acts here) short bound w))))

  pub pwrite_open-leads : (offset : ℕ) (stands : Open) → open_at numbers fd ≡ stands
      → On (pwrite_open stands buffer count offset) t here
  pwrite_open-leads offset Closed e = on-refuse EBADF t here w
  pwrite_open-leads offset Input e = on-refuse ESPIPE t here w
  pwrite_open-leads offset Console e = on-refuse ESPIPE t here w
  pwrite_open-leads offset (File file) e =
      on-if (not file.writes) (refuse EBADF) (pwrite_from file buffer count offset) t here
      (λ z. on-refuse EBADF t here w)
      (λ z. on-if (nat_le (2 ^ 63) offset) (refuse EINVAL) (pwrite_some file buffer count offset) t here
      (λ y. on-refuse EINVAL t here w)
      (λ y. on-if (count == 0) (done 0) (write_bytes file offset buffer count acts) t here (λ x. on-done t here w)
      (λ x. write_bytes-leads file offset acts (file-open numbers fd file t w e) (some_count x) (λ now ends v. v))))

-- ---- where they stay

module _ (buffer count : ℕ) (inside : InUserArea buffer count) where
  shorter : (n : ℕ) → n ≤ count → InUserArea buffer n
  shorter n short = (inside.0, let h = inside.1 in omega (arith, short, h))

  pub read_open-inside : (stands : Open) (fd : ℕ) → StaysInside (read_open stands fd buffer count)
  read_open-inside Closed fd = tt
  read_open-inside Input fd = inside-if (count == 0) (done 0) (take_bytes buffer count) tt
      (λ bytes short. (shorter (length bytes) short, tt))
  read_open-inside Console fd = tt
  read_open-inside (File file) fd =
      inside-if (not file.reads) (refuse EBADF) (read_some fd file buffer count) tt
      (inside-if (count == 0) (done 0) (read_bytes fd file buffer count) tt
      (λ bytes short. (shorter (length bytes) short, tt)))

  write_bytes-inside : (file : OpenFile) (place : ℕ) (notes : Kept → Kept)
      → StaysInside (write_bytes file place buffer count notes)
  write_bytes-inside file place notes =
      inside-if (nat_lt (guest_file_limit - count) place) (refuse EFBIG) (store_bytes file place buffer count notes) tt
      (inside, λ bytes size reply fits. tt)

  pub write_open-inside : (stands : Open) (fd : ℕ) → StaysInside (write_open stands fd buffer count)
  write_open-inside Closed fd = tt
  write_open-inside Input fd = tt
  write_open-inside Console fd = inside-if (count == 0) (done 0) (put_bytes buffer count) tt (inside, λ bytes size. tt)
  write_open-inside (File file) fd =
      inside-if (not file.writes) (refuse EBADF) (write_some fd file buffer count) tt
      (inside-if (count == 0) (done 0) (write_by fd file buffer count) tt
      (inside-if file.appends (append_bytes fd file buffer count) (write_place fd file file.position buffer count)
      (λ size fits. write_bytes-inside file size (opens fd (placed file (size + count))))
      (write_bytes-inside file file.position (opens fd (placed file (file.position + count))))))

  pub pread_open-inside : (stands : Open) (offset : ℕ) → StaysInside (pread_open stands buffer count offset)
  pread_open-inside Closed offset = tt
  pread_open-inside Input offset = tt
  pread_open-inside Console offset = tt
  pread_open-inside (File file) offset =
      inside-if (not file.reads) (refuse EBADF) (pread_from file buffer count offset) tt
      (inside-if (nat_le (2 ^ 63) offset) (refuse EINVAL) (pread_some file buffer count offset) tt
      (inside-if (count == 0) (done 0) (pread_bytes file buffer count offset) tt
      (λ bytes short. (shorter (length bytes) short, tt))))

  pub pwrite_open-inside : (stands : Open) (offset : ℕ) → StaysInside (pwrite_open stands buffer count offset)
  pwrite_open-inside Closed offset = tt
  pwrite_open-inside Input offset = tt
  pwrite_open-inside Console offset = tt
  pwrite_open-inside (File file) offset =
      inside-if (not file.writes) (refuse EBADF) (pwrite_from file buffer count offset) tt
      (inside-if (nat_le (2 ^ 63) offset) (refuse EINVAL) (pwrite_some file buffer count offset) tt
      (inside-if (count == 0) (done 0) (write_bytes file offset buffer count acts) tt
      (write_bytes-inside file offset acts)))
