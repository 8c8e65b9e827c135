-- The rows on open numbers are rows, end well, and stay inside.
use Rattle.std.specs.Prelude.{◌≡◌, ◌≤◌, ◌<◌, ◌+◌, ◌-◌, ◌^◌, ◌==◌, not, nat_lt, nat_le, if◌then◌else◌, ℕ, Bool, true}
use Rattle.std.specs.Prelude.{false, List, length, slice_set, Option, Some, None}
use Rattle.std.proofs.Common.{sym, subst, ap, ◌∙◌, arith, refl}
use Rattle.std.proofs.lemmas.Bool.{ltb-true, ltb-false}
use Rattle.fe_base.specs.Limits.{guest_file_limit}
use Rattle.fe_base.specs.declared.error_numbers.ErrNo.TheVariants.{EBADF, EINVAL, EFBIG, ESPIPE}
use Rattle.folder_tree.specs.Tree.{Tree, bytes_of}
use Rattle.host_text.specs.Text.{Done, Note, Ask, Size, SetSize, Release}
use Rattle.host_text.specs.declared.open_numbers.Open.{Open}
use Rattle.host_text.specs.declared.open_numbers.Open.TheVariants.{Closed, Input, Console, File}
use Rattle.host_text.specs.declared.open_numbers.OpenFile.{OpenFile}
use Rattle.syscall_proxy.specs.Kept.{Kept, kept, open_at, acts, opens}
use Rattle.syscall_proxy.specs.Rows.{Row, done, refuse, folder_fault, placed}
use Rattle.syscall_proxy.specs.NumberRows.{close_number, close_open, in_reach, new_position, sought_value, seeks}
use Rattle.syscall_proxy.specs.NumberRows.{sought, seek, lseek_open, truncate_file, truncate_open}
use Rattle.syscall_proxy.specs.RowShapes.{Marks, IsRow, StaysInside}
use Rattle.syscall_proxy.specs.Worlds.{holds, IsWorldOf, EndsWell}
use Rattle.syscall_proxy.specs.WorldLaws.{stands-inside}
use Rattle.syscall_proxy.specs.LeadRows.{On, on-if, on-refuse, on-size, on-set_size, on-close, error-small, file-open}
use Rattle.syscall_proxy.specs.LeadRows.{world-set, world-placed}
use Rattle.syscall_proxy.specs.ShapeRows.{row-if, done-row, by_opens, done-closes, inside-if}
use Rattle.syscall_proxy.specs.DataLaws.{on-done}
use Rattle.syscall_proxy.specs.declared.answers.CallAnswer.TheVariants.{Result as Value}

-- ---- the continuations behind each test, named for the laws

abbrev seek_end : ℕ → OpenFile → ℕ → Row
seek_end fd file offset = Ask (Size file.number) folder_fault (λ size. sought fd file (new_position size offset))

abbrev seek_here : ℕ → OpenFile → ℕ → ℕ → Row
seek_here fd file offset whence =
    if whence == 1 then sought fd file (new_position file.position offset) else sought fd file (new_position 0 offset)

abbrev seek_by : ℕ → OpenFile → ℕ → ℕ → Row
seek_by fd file offset whence = if whence == 2 then seek_end fd file offset else seek_here fd file offset whence

abbrev set_size : OpenFile → ℕ → Row
set_size file size = Ask (SetSize file.number size) folder_fault (λ all. done 0)

abbrev truncate_to : OpenFile → ℕ → Row
truncate_to file size = if nat_lt guest_file_limit size then refuse EFBIG else set_size file size

abbrev truncate_by : OpenFile → ℕ → Row
truncate_by file size = if nat_le (2 ^ 63) size then refuse EINVAL else truncate_to file size

-- ---- shapes

-- close is a row
pub close_open-row : (stands : Open) (fd : ℕ) → IsRow (close_open stands fd)
close_open-row Closed fd = done-row 0
close_open-row Input fd = (by_opens fd Closed, tt)
close_open-row Console fd = (by_opens fd Closed, tt)
close_open-row (File file) fd = (refl, λ all. (by_opens fd Closed, tt))

by_seek : (fd : ℕ) (file : OpenFile) (position : Option ℕ) → Marks (seeks fd file position)
by_seek fd file position = record { acted = λ k. refl; waiting = λ k w. refl }

-- lseek is a row
pub lseek_open-row : (stands : Open) (fd offset whence : ℕ) → IsRow (lseek_open stands fd offset whence)
lseek_open-row Closed fd offset whence = done-row 0
lseek_open-row Input fd offset whence = done-row 0
lseek_open-row Console fd offset whence = done-row 0
lseek_open-row (File file) fd offset whence =
    row-if (nat_lt 2 whence) (refuse EINVAL) (seek_by fd file offset whence) (done-row 0)
    (row-if (whence == 2) (seek_end fd file offset) (seek_here fd file offset whence)
    (refl, λ size. (by_seek fd file (new_position size offset), tt))
    (row-if (whence == 1) (sought fd file (new_position file.position offset)) (sought fd file (new_position 0 offset))
    (by_seek fd file (new_position file.position offset), tt) (by_seek fd file (new_position 0 offset), tt)))

-- ftruncate is a row
pub truncate_open-row : (stands : Open) (size : ℕ) → IsRow (truncate_open stands size)
truncate_open-row Closed size = done-row 0
truncate_open-row Input size = done-row 0
truncate_open-row Console size = done-row 0
truncate_open-row (File file) size =
    row-if (not file.writes) (refuse EINVAL) (truncate_by file size) (done-row 0)
    (row-if (nat_le (2 ^ 63) size) (refuse EINVAL) (truncate_to file size) (done-row 0)
    (row-if (nat_lt guest_file_limit size) (refuse EFBIG) (set_size file size) (done-row 0)
    (refl, λ all. done-closes 0)))

-- ---- where they lead

module _ (numbers : List Open) (fd : ℕ) (t : Tree) (acted : Bool) (waiting : List ℕ) (w : IsWorldOf numbers t) where
  abbrev here : Kept
  here = kept numbers acted waiting

  freed : (n : ℕ) → (stands : Open) → holds Closed n ≤ holds stands n
  freed n stands = omega arith

  -- a number at which no file stands; one that there is not is closed
  close_number-leads : (inside : fd < length numbers) → On (close_number fd) t here
  close_number-leads inside = (omega arith, world-set numbers fd Closed t inside (λ n. freed n (open_at numbers fd)) w)

  pub close_open-leads : (stands : Open) → open_at numbers fd ≡ stands → On (close_open stands fd) t here
  close_open-leads Closed e = on-refuse EBADF t here w
  close_open-leads Input e = close_number-leads (stands-inside numbers fd e (λ same. let no : ⊥ = cc in no))
  close_open-leads Console e = close_number-leads (stands-inside numbers fd e (λ same. let no : ⊥ = cc in no))
  close_open-leads (File file) e =
      on-close numbers fd file folder_fault (λ all. close_number fd) t here e w (λ now v. (omega arith, v))

  sought-leads : (file : OpenFile) (position : Option ℕ) → ((place : ℕ) → position ≡ Some place → place < 2 ^ 64)
      → open_at numbers fd ≡ File file → On (sought fd file position) t here
  sought-leads file None small e = (error-small EINVAL, w)
  sought-leads file (Some place) small e = (small place refl, world-placed numbers fd file place t e w)

  reach : (b : Bool) (n place : ℕ) → (b ≡ true → n < 2 ^ 63) → (if b then Some n else None) ≡ Some place
      → place < 2 ^ 64
  reach true n place h e = let k : n ≡ place = cc in let l = h refl in omega (arith, k, l)
  reach false n place h e = let no : ⊥ = cc in absurd no

  in_reach-small : (n place : ℕ) → in_reach n ≡ Some place → place < 2 ^ 64
  in_reach-small n place e = reach (nat_lt n (2 ^ 63)) n place (λ h. ltb-true n (2 ^ 63) h) e

  back-small : (b : Bool) (n place : ℕ) → (if b then None else in_reach n) ≡ Some place → place < 2 ^ 64
  back-small true n place e = let no : ⊥ = cc in absurd no
  back-small false n place e = in_reach-small n place e

  by-small : (b c : Bool) (m n place : ℕ) → (if b then in_reach m else if c then None else in_reach n) ≡ Some place
      → place < 2 ^ 64
  by-small true c m n place e = in_reach-small m place e
  by-small false c m n place e = back-small c n place e

  position-small : (base offset place : ℕ) → new_position base offset ≡ Some place → place < 2 ^ 64
  position-small base offset place e =
      by-small (nat_lt offset (2 ^ 63)) (nat_lt base (2 ^ 64 - offset)) (base + offset)
      (base - (2 ^ 64 - offset)) place e

  pub lseek_open-leads : (offset whence : ℕ) (stands : Open) → open_at numbers fd ≡ stands
      → On (lseek_open stands fd offset whence) t here
  lseek_open-leads offset whence Closed e = on-refuse EBADF t here w
  lseek_open-leads offset whence Input e = on-refuse ESPIPE t here w
  lseek_open-leads offset whence Console e = on-refuse ESPIPE t here w
  lseek_open-leads offset whence (File file) e =
      on-if (nat_lt 2 whence) (refuse EINVAL) (seek_by fd file offset whence) t here (λ z. on-refuse EINVAL t here w)
      (λ z. on-if (whence == 2) (seek_end fd file offset) (seek_here fd file offset whence) t here
      (λ y. on-size file.number folder_fault (λ size. sought fd file (new_position size offset)) t here
      (file-open numbers fd file t w e)
      (λ small. sought-leads file (new_position (length (bytes_of t file.number)) offset)
      (position-small (length (bytes_of t file.number)) offset) e) w.tree)
      (λ y. on-if (whence == 1) (sought fd file (new_position file.position offset))
      (sought fd file (new_position 0 offset)) t here
      (λ x. sought-leads file (new_position file.position offset) (position-small file.position offset) e)
      (λ x. sought-leads file (new_position 0 offset) (position-small 0 offset) e)))

  pub truncate_open-leads : (size : ℕ) (stands : Open) → open_at numbers fd ≡ stands
      → On (truncate_open stands size) t here
  truncate_open-leads size Closed e = on-refuse EBADF t here w
  truncate_open-leads size Input e = on-refuse EINVAL t here w
  truncate_open-leads size Console e = on-refuse EINVAL t here w
  truncate_open-leads size (File file) e =
      on-if (not file.writes) (refuse EINVAL) (truncate_by file size) t here (λ z. on-refuse EINVAL t here w)
      (λ z. on-if (nat_le (2 ^ 63) size) (refuse EINVAL) (truncate_to file size) t here (λ y. on-refuse EINVAL t here w)
      (λ y. on-if (nat_lt guest_file_limit size) (refuse EFBIG) (set_size file size) t here
      (λ x. on-refuse EFBIG t here w)
      (λ x. let h = ltb-false guest_file_limit size x in
      on-set_size numbers file.number size folder_fault (λ all. done 0) t here w (file-open numbers fd file t w e)
      (omega (arith, h)) (λ now v. on-done now here v))))

-- ---- where they stay

pub close_open-inside : (stands : Open) (fd : ℕ) → StaysInside (close_open stands fd)
close_open-inside Closed fd = tt
close_open-inside Input fd = tt
close_open-inside Console fd = tt
close_open-inside (File file) fd = λ reply fits. tt

pub lseek_open-inside : (stands : Open) (fd offset whence : ℕ) → StaysInside (lseek_open stands fd offset whence)
lseek_open-inside Closed fd offset whence = tt
lseek_open-inside Input fd offset whence = tt
lseek_open-inside Console fd offset whence = tt
lseek_open-inside (File file) fd offset whence =
    inside-if (nat_lt 2 whence) (refuse EINVAL) (seek_by fd file offset whence) tt
    (inside-if (whence == 2) (seek_end fd file offset) (seek_here fd file offset whence) (λ size fits. tt)
    (inside-if (whence == 1) (sought fd file (new_position file.position offset))
    (sought fd file (new_position 0 offset)) tt tt))

pub truncate_open-inside : (stands : Open) (size : ℕ) → StaysInside (truncate_open stands size)
truncate_open-inside Closed size = tt
truncate_open-inside Input size = tt
truncate_open-inside Console size = tt
truncate_open-inside (File file) size =
    inside-if (not file.writes) (refuse EINVAL) (truncate_by file size) tt
    (inside-if (nat_le (2 ^ 63) size) (refuse EINVAL) (truncate_to file size) tt
    (inside-if (nat_lt guest_file_limit size) (refuse EFBIG) (set_size file size) tt (λ reply fits. tt)))
