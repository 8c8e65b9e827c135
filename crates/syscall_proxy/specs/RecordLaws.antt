-- The rows that write a record are rows, end well, and stay inside.
use Rattle.std.specs.Prelude.{◌≡◌, ◌≤◌, ◌<◌, ◌+◌, ◌^◌, nat_lt, if◌then◌else◌, ℕ, Bool, List, length}
use Rattle.std.proofs.Common.{sym, subst, arith, refl}
use Rattle.elf_loader.proofs.Texts.{length-main_vars_text}
use Rattle.elf_loader.specs.MainVars.{main_vars_text}
use Rattle.fe_base.specs.WordLists.{main_vars_length}
use Rattle.fe_base.specs.declared.error_numbers.ErrNo.TheVariants.{EBADF, ENOMEM}
use Rattle.folder_tree.specs.Tree.{Tree}
use Rattle.host_text.specs.declared.open_numbers.Open.{Open}
use Rattle.host_text.specs.declared.open_numbers.Open.TheVariants.{Closed, Input, Console, File}
use Rattle.syscall_proxy.specs.Kept.{Kept, kept, open_at, acts}
use Rattle.syscall_proxy.specs.RecordRows.{give_record, stat_open, main_vars_row}
use Rattle.syscall_proxy.specs.Rows.{Row, folder_fault, refuse}
use Rattle.syscall_proxy.specs.RowShapes.{IsRow, StaysInside, InUserArea}
use Rattle.syscall_proxy.specs.StatRecord.{stat_record, file_mode, device_mode}
use Rattle.syscall_proxy.specs.Worlds.{IsWorldOf}
use Rattle.syscall_proxy.specs.LeadRows.{On, on-if, on-refuse, on-size, file-open}
use Rattle.syscall_proxy.specs.ShapeRows.{row-if, done-row, by_result, inside-if}

give_record-row : (buffer : ℕ) (bytes : List ℕ) → IsRow (give_record buffer bytes)
give_record-row buffer bytes = (by_result, (refl, tt, tt))

-- fstat is a row
pub stat_open-row : (stands : Open) (buffer : ℕ) → IsRow (stat_open stands buffer)
stat_open-row Closed buffer = done-row 0
stat_open-row Input buffer = give_record-row buffer (stat_record device_mode 0)
stat_open-row Console buffer = give_record-row buffer (stat_record device_mode 0)
stat_open-row (File file) buffer = (refl, λ size. give_record-row buffer (stat_record file_mode size))

-- getmainvars is a row
pub main_vars_row-row : (args : List (List ℕ)) (buffer limit : ℕ) → IsRow (main_vars_row args buffer limit)
main_vars_row-row args buffer limit =
    row-if (nat_lt limit (main_vars_length args)) (refuse ENOMEM) (give_record buffer (main_vars_text args buffer))
    (done-row 0) (give_record-row buffer (main_vars_text args buffer))

module _ (numbers : List Open) (t : Tree) (acted : Bool) (waiting : List ℕ) (w : IsWorldOf numbers t) where
  abbrev here : Kept
  here = kept numbers acted waiting

  give_record-leads : (buffer : ℕ) (bytes : List ℕ) → On (give_record buffer bytes) t here
  give_record-leads buffer bytes = (omega arith, w)

  -- fstat ends well
  pub stat_open-leads : (fd buffer : ℕ) (stands : Open) → open_at numbers fd ≡ stands
      → On (stat_open stands buffer) t here
  stat_open-leads fd buffer Closed e = on-refuse EBADF t here w
  stat_open-leads fd buffer Input e = give_record-leads buffer (stat_record device_mode 0)
  stat_open-leads fd buffer Console e = give_record-leads buffer (stat_record device_mode 0)
  stat_open-leads fd buffer (File file) e =
      on-size file.number folder_fault (λ size. give_record buffer (stat_record file_mode size)) t here
      (file-open numbers fd file t w e) (λ small. (omega arith, w)) w.tree

  -- getmainvars ends well
  pub main_vars_row-leads : (args : List (List ℕ)) (buffer limit : ℕ) → On (main_vars_row args buffer limit) t here
  main_vars_row-leads args buffer limit =
      on-if (nat_lt limit (main_vars_length args)) (refuse ENOMEM)
      (give_record buffer (main_vars_text args buffer)) t here (λ z. on-refuse ENOMEM t here w)
      (λ z. give_record-leads buffer (main_vars_text args buffer))

-- a stat record has 128 bytes
pub stat_record-size : (mode size : ℕ) → length (stat_record mode size) ≡ 128
stat_record-size mode size = refl

give_stat-inside : (buffer mode size : ℕ) → InUserArea buffer 128
    → StaysInside (give_record buffer (stat_record mode size))
give_stat-inside buffer mode size inside = let P : ℕ → Type 0 =
    λ n. InUserArea buffer n in (subst P (sym (stat_record-size mode size)) inside, tt)

-- fstat stays inside where the record does
pub stat_open-inside : (stands : Open) (buffer : ℕ) → InUserArea buffer 128 → StaysInside (stat_open stands buffer)
stat_open-inside Closed buffer inside = tt
stat_open-inside Input buffer inside = give_stat-inside buffer device_mode 0 inside
stat_open-inside Console buffer inside = give_stat-inside buffer device_mode 0 inside
stat_open-inside (File file) buffer inside = λ size fits. give_stat-inside buffer file_mode size inside

-- getmainvars stays inside where the main vars do
pub main_vars_row-inside : (args : List (List ℕ)) (buffer limit : ℕ) → InUserArea buffer (main_vars_length args)
    → StaysInside (main_vars_row args buffer limit)
main_vars_row-inside args buffer limit inside =
    let P : ℕ → Type 0 = λ n. InUserArea buffer n in
    inside-if (nat_lt limit (main_vars_length args)) (refuse ENOMEM)
    (give_record buffer (main_vars_text args buffer)) tt
    (subst P (sym (length-main_vars_text args buffer)) inside, tt)
