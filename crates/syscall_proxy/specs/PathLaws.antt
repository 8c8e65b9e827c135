-- The rows that take a path are rows, end well, and stay inside.
use Rattle.std.specs.Prelude.{◌≡◌, ◌≤◌, ◌<◌, ◌+◌, ◌-◌, ◌^◌, ◌==◌, ◌||◌, cond, nat_lt, if◌then◌else◌, ℕ, Bool, true}
use Rattle.std.specs.Prelude.{false, List, [], ◌∷◌, ◌++◌, length, position, slice_set, Option, Some, None, IsSome}
use Rattle.std.specs.Prelude.{Result, Ok, Err}
use Rattle.std.proofs.Common.{sym, subst, ap, ◌∙◌, arith, refl}
use Rattle.std.proofs.lemmas.List.{length-set}
use Rattle.std.proofs.lemmas.List.Quantifiers.{position-Some}
use Rattle.std.specs.FinMap as map
use Rattle.std.specs.Ordering.{nat_cmp}
use Rattle.fe_base.specs.ErrorNumbers.{error_number}
use Rattle.fe_base.specs.Limits.{guest_path_limit}
use Rattle.fe_base.specs.declared.error_numbers.ErrNo.{ErrNo}
use Rattle.fe_base.specs.declared.error_numbers.ErrNo.TheVariants.{EINVAL, ENOENT, EEXIST, EISDIR, ENOTDIR, ENOTEMPTY}
use Rattle.fe_base.specs.declared.error_numbers.ErrNo.TheVariants.{EMFILE}
use Rattle.folder_tree.specs.Laws.{open_row-Keeps, opens_of-opened, kind_number}
use Rattle.folder_tree.specs.Paths.{Parts}
use Rattle.folder_tree.specs.RemoveDirLaws.{remove_dir_row-Keeps}
use Rattle.folder_tree.specs.RemoveLaws.{remove_row-Keeps, some_value}
use Rattle.folder_tree.specs.RowLaws.{make_dir_row-Keeps, create_row-Keeps}
use Rattle.folder_tree.specs.Tree.{Tree, directory, found_at, kind_of, number_at, opens_of, IsWellFormed}
use Rattle.folder_tree.specs.TreeOps.{After, is_free, is_directory, is_filled, named, with_file, created}
use Rattle.folder_tree.specs.TreeOps.{opened as opened_tree, open_number, unnamed, dropped, without, emptied}
use Rattle.folder_tree.specs.TreeOps.{least_free}
use Rattle.folder_tree.specs.declared.folder.FolderStop.{FolderStop}
use Rattle.folder_tree.specs.declared.folder.PathKind.{PathKind}
use Rattle.folder_tree.specs.declared.folder.PathKind.TheVariants.{Directory, File as PlainFile, Free, NoParent}
use Rattle.folder_tree.specs.declared.folder.PathKind.TheVariants.{UnderFile}
use Rattle.host_text.specs.Shapes.{Closes}
use Rattle.host_text.specs.Text.{Done, Read, Ask, Note, Kind, OpenFile as OpenPath, Create, SetSize, MakeDir, Remove}
use Rattle.host_text.specs.Text.{RemoveDir}
use Rattle.host_text.specs.declared.open_numbers.Open.{Open}
use Rattle.host_text.specs.declared.open_numbers.Open.TheVariants.{Closed, File}
use Rattle.host_text.specs.declared.open_numbers.OpenFile.{OpenFile}
use Rattle.syscall_proxy.specs.Kept.{Kept, kept, open_at, opens}
use Rattle.syscall_proxy.specs.OpenFlags.{has, creates, wants_new, cuts}
use Rattle.syscall_proxy.specs.PathRules.{guest_path}
use Rattle.syscall_proxy.specs.PathRows.{with_path, at_path, make_dir_kind, make_dir_path, removed_dir, remove_dir_at}
use Rattle.syscall_proxy.specs.PathRows.{unlink_kind, unlink_path, access_value, access_path, new_file, opened}
use Rattle.syscall_proxy.specs.PathRows.{create_file, cut_file, open_found, directory_value, open_kind, open_free}
use Rattle.syscall_proxy.specs.PathRows.{open_path}
use Rattle.syscall_proxy.specs.Rows.{Row, folder_fault, done, refuse, is_closed}
use Rattle.syscall_proxy.specs.RowShapes.{stops, Marks, IsResult, IsRow, StaysInside, InUserArea}
use Rattle.syscall_proxy.specs.Worlds.{holds, held, IsWorldOf, EndsWell}
use Rattle.syscall_proxy.specs.WorldLaws.{held-set, opens_of-opened-at}
use Rattle.syscall_proxy.specs.LeadRows.{On, on-if, on-refuse, on-set_size, error-small}
use Rattle.syscall_proxy.specs.ShapeRows.{row-if, done-row, done-closes, by_opens, inside-if}
use Rattle.syscall_proxy.specs.DataLaws.{on-done}
use Rattle.syscall_proxy.specs.declared.answers.CallAnswer.TheVariants.{Result as Value}
use Rattle.syscall_proxy.specs.declared.answers.CallFault.{CallFault}
use Rattle.syscall_proxy.specs.declared.answers.CallFault.TheVariants.{Port}

-- ---- the continuations behind each test, named for the laws

abbrev read_path : ℕ → ℕ → ℕ → (Parts → Row) → Row
read_path dirfd place count next = Read place count Port (λ bytes. with_path (guest_path dirfd bytes) next)

abbrev create_at : ℕ → Parts → ℕ → Row
create_at fd path flags = Ask (Create path) folder_fault (λ number. opened fd number flags)

abbrev cut_at : ℕ → ℕ → ℕ → Row
cut_at fd number flags = Ask (SetSize number 0) folder_fault (λ all. opened fd number flags)

abbrev open_at_path : ℕ → Parts → ℕ → Row
open_at_path fd path flags = Ask (OpenPath path) folder_fault (λ number. cut_file fd number flags)

-- ---- shapes

with_path-row : (found : Result Parts ErrNo) (next : Parts → Row) → ((path : Parts) → IsRow (next path))
    → IsRow (with_path found next)
with_path-row (Ok path) next rows = rows path
with_path-row (Err error) next rows = done-row 0

-- what takes a path is a row where it is one for each path
pub at_path-row : (dirfd place count : ℕ) (next : Parts → Row) → ((path : Parts) → IsRow (next path))
    → IsRow (at_path dirfd place count next)
at_path-row dirfd place count next rows =
    row-if (count == 0 || nat_lt guest_path_limit count) (refuse EINVAL) (read_path dirfd place count next)
    (done-row 0) (refl, λ bytes. with_path-row (guest_path dirfd bytes) next rows)

make_dir_kind-row : (kind : PathKind) (path : Parts) → IsRow (make_dir_kind kind path)
make_dir_kind-row UnderFile path = done-row 0
make_dir_kind-row NoParent path = done-row 0
make_dir_kind-row Directory path = done-row 0
make_dir_kind-row PlainFile path = done-row 0
make_dir_kind-row Free path = (refl, λ all. done-closes 0)

-- mkdirat is a row
pub make_dir_path-row : (path : Parts) → IsRow (make_dir_path path)
make_dir_path-row path = (refl, λ kind. make_dir_kind-row kind path)

removed_dir-closes : (gone : Bool) → Closes stops Marks IsResult (removed_dir gone)
removed_dir-closes true = done-closes 0
removed_dir-closes false = done-closes 0

remove_dir_at-row : (path place : Parts) → IsRow (remove_dir_at path place)
remove_dir_at-row [] place = done-row 0
remove_dir_at-row (part ∷ path) place = (refl, λ gone. removed_dir-closes gone)

unlink_kind-row : (kind : PathKind) (dir : Bool) (path place : Parts) → IsRow (unlink_kind kind dir path place)
unlink_kind-row UnderFile dir path place = done-row 0
unlink_kind-row NoParent dir path place = done-row 0
unlink_kind-row Free dir path place = done-row 0
unlink_kind-row Directory true path place = remove_dir_at-row path place
unlink_kind-row Directory false path place = done-row 0
unlink_kind-row PlainFile true path place = done-row 0
unlink_kind-row PlainFile false path place = (refl, λ all. done-closes 0)

-- unlinkat is a row
pub unlink_path-row : (dir : Bool) (path place : Parts) → IsRow (unlink_path dir path place)
unlink_path-row dir path place = (refl, λ kind. unlink_kind-row kind dir path place)

-- faccessat is a row
pub access_path-row : (path : Parts) → IsRow (access_path path)
access_path-row path = (refl, λ kind. done-row (access_value kind))

opened-closes : (fd number flags : ℕ) → Closes stops Marks IsResult (opened fd number flags)
opened-closes fd number flags = (by_opens fd (File (new_file number flags)), tt)

cut_file-row : (fd number flags : ℕ) → IsRow (cut_file fd number flags)
cut_file-row fd number flags = row-if (cuts flags) (cut_at fd number flags) (opened fd number flags)
    (refl, λ all. opened-closes fd number flags) (opened-closes fd number flags)

open_kind-row : (kind : PathKind) (fd : ℕ) (path : Parts) (flags : ℕ) → IsRow (open_kind kind fd path flags)
open_kind-row UnderFile fd path flags = done-row 0
open_kind-row NoParent fd path flags = done-row 0
open_kind-row Free fd path flags =
    row-if (creates flags) (create_at fd path flags) (refuse ENOENT) (refl, λ number. opened-closes fd number flags)
    (done-row 0)
open_kind-row Directory fd path flags = done-row 0
open_kind-row PlainFile fd path flags =
    row-if (wants_new flags) (refuse EEXIST) (open_at_path fd path flags) (done-row 0)
    (refl, λ number. cut_file-row fd number flags)

open_free-row : (free : Option ℕ) (path : Parts) (flags : ℕ) → IsRow (open_free free path flags)
open_free-row None path flags = done-row 0
open_free-row (Some fd) path flags = (refl, λ kind. open_kind-row kind fd path flags)

-- openat is a row
pub open_path-row : (numbers : List Open) (path : Parts) (flags : ℕ) → IsRow (open_path numbers path flags)
open_path-row numbers path flags =
    row-if (has flags 3) (refuse EINVAL) (open_free (position is_closed numbers) path flags) (done-row 0)
    (open_free-row (position is_closed numbers) path flags)

-- ---- where they lead

suited : {A : Type 0} (b : Bool) (after : After A) → b ≡ true → cond {A = Option (After A)} b (Some after) None
    ≡ Some after
suited true after e = refl
suited false after e = cc

module _ (numbers : List Open) (t : Tree) (acted : Bool) (waiting : List ℕ) (w : IsWorldOf numbers t) where
  abbrev here : Kept
  here = kept numbers acted waiting

  with_path-leads : (found : Result Parts ErrNo) (next : Parts → Row) → ((path : Parts) → On (next path) t here)
      → On (with_path found next) t here
  with_path-leads (Ok path) next leads = leads path
  with_path-leads (Err error) next leads = on-refuse error t here w

  -- what takes a path ends well where it does for each path
  pub at_path-leads : (dirfd place count : ℕ) (next : Parts → Row) → ((path : Parts) → On (next path) t here)
      → On (at_path dirfd place count next) t here
  at_path-leads dirfd place count next leads =
      on-if (count == 0 || nat_lt guest_path_limit count) (refuse EINVAL) (read_path dirfd place count next) t here
      (λ z. on-refuse EINVAL t here w)
      (λ z bytes size. with_path-leads (guest_path dirfd bytes) next leads)

  -- the kind of a path is asked
  on-kind : (path : Parts) (stop : FolderStop → CallFault) (k : PathKind → Row)
      → ((kind : PathKind) → kind_of t path ≡ kind → On (k kind) t here) → On (Ask (Kind path) stop k) t here
  on-kind path stop k leads = (record { answer = kind_of t path; tree = t }, refl, leads (kind_of t path) refl)

  -- a tree with the same opens
  same-opens : (now : Tree) → IsWellFormed now → now.opens ≡ t.opens → IsWorldOf numbers now
  same-opens now well e = record {
    size = w.size;
    tree = well;
    opens = λ n. let P : map.FinMap nat_cmp ℕ → Type 0 =
        λ opens. held numbers n ≤ opens_of (record now { opens = opens }) n in subst P (sym e) (w.opens n);
  }

  make_dir_kind-leads : (kind : PathKind) (path : Parts) → kind_of t path ≡ kind → On (make_dir_kind kind path) t here
  make_dir_kind-leads UnderFile path e = on-refuse ENOTDIR t here w
  make_dir_kind-leads NoParent path e = on-refuse ENOENT t here w
  make_dir_kind-leads Directory path e = on-refuse EEXIST t here w
  make_dir_kind-leads PlainFile path e = on-refuse EEXIST t here w
  make_dir_kind-leads Free path e =
      let now = named t path directory in
      let row = suited (is_free (kind_of t path)) (record { answer = tt; tree = now }) (ap is_free e) in
      (_, row, on-done now here (same-opens now (make_dir_row-Keeps path t tt now w.tree row) refl))

  -- mkdirat ends well
  pub make_dir_path-leads : (path : Parts) → On (make_dir_path path) t here
  make_dir_path-leads path = on-kind path folder_fault (λ kind. make_dir_kind kind path)
      (λ kind e. make_dir_kind-leads kind path e)

  -- faccessat ends well
  pub access_path-leads : (path : Parts) → On (access_path path) t here
  access_path-leads path = on-kind path folder_fault (λ kind. done (access_value kind))
      (λ kind e. (access-small kind, w)) where
        access-small : (kind : PathKind) → access_value kind < 2 ^ 64
        access-small UnderFile = error-small ENOTDIR
        access-small NoParent = error-small ENOENT
        access-small Free = error-small ENOENT
        access-small Directory = omega arith
        access-small PlainFile = omega arith

  removed_dir-leads : (gone : Bool) (now : Tree) → IsWorldOf numbers now → On (removed_dir gone) now here
  removed_dir-leads true now v = on-done now here v
  removed_dir-leads false now v = on-refuse ENOTEMPTY now here v

  emptied-opens : (b : Bool) (stays gone : After Bool) → stays.tree.opens ≡ t.opens → gone.tree.opens ≡ t.opens
      → (if b then stays else gone).tree.opens ≡ t.opens
  emptied-opens true stays gone e f = e
  emptied-opens false stays gone e f = f

  remove_dir-leads : (place : Parts) → (place ≡ [] → ⊥) → kind_of t place ≡ Directory
      → On (Ask (RemoveDir place) folder_fault removed_dir) t here
  remove_dir-leads [] some e = absurd (some refl)
  remove_dir-leads (part ∷ parts) some e =
      let after = emptied t (part ∷ parts) in
      let row = suited (is_directory (kind_of t (part ∷ parts))) after (ap is_directory e) in (
        after,
        row,
        removed_dir-leads after.answer after.tree
            (same-opens after.tree (remove_dir_row-Keeps (part ∷ parts) t after.answer after.tree w.tree row)
            (emptied-opens (is_filled t (part ∷ parts)) (record { answer = false; tree = t })
            (record { answer = true; tree = without t (part ∷ parts) }) refl refl)),
      )

  remove_dir_at-leads : (path place : Parts) → ((path ≡ [] → ⊥) → place ≡ [] → ⊥) → kind_of t place ≡ Directory
      → On (remove_dir_at path place) t here
  remove_dir_at-leads [] place below e = on-refuse EINVAL t here w
  remove_dir_at-leads (part ∷ path) place below e = remove_dir-leads place (below (λ h. let no : ⊥ = cc in no)) e

  dropped-opens : (b : Bool) (s : Tree) (bytes : map.FinMap nat_cmp (List ℕ))
      → (if b then record s { bytes = bytes } else s).opens ≡ s.opens
  dropped-opens true s bytes = refl
  dropped-opens false s bytes = refl

  remove-leads : (place : Parts) (number : ℕ) → number_at t place ≡ Some number
      → On (Ask (Remove place) folder_fault (λ all. done 0)) t here
  remove-leads place number e =
      let now = dropped (without t place) number in
      let row = ap (unnamed t place) e in (
        record { answer = tt; tree = now },
        row,
        on-done now here (same-opens now (remove_row-Keeps place t tt now w.tree row)
            (dropped-opens _ (without t place) _)),
      )

  unlink_kind-leads : (kind : PathKind) (dir : Bool) (path place : Parts) → ((path ≡ [] → ⊥) → place ≡ [] → ⊥)
      → kind_of t place ≡ kind → On (unlink_kind kind dir path place) t here
  unlink_kind-leads UnderFile dir path place below e = on-refuse ENOTDIR t here w
  unlink_kind-leads NoParent dir path place below e = on-refuse ENOENT t here w
  unlink_kind-leads Free dir path place below e = on-refuse ENOENT t here w
  unlink_kind-leads Directory true path place below e = remove_dir_at-leads path place below e
  unlink_kind-leads Directory false path place below e = on-refuse EISDIR t here w
  unlink_kind-leads PlainFile true path place below e = on-refuse ENOTDIR t here w
  unlink_kind-leads PlainFile false path place below e = let found =
      some_value (number_at t place) (kind_number (found_at t place) e) in remove-leads place found.0 found.1

  below_root : (root path : Parts) → (path ≡ [] → ⊥) → root ++ path ≡ [] → ⊥
  below_root [] path some e = some e
  below_root (part ∷ root) path some e = cc

  -- unlinkat ends well
  pub unlink_path-leads : (dir : Bool) (root path : Parts) → On (unlink_path dir path (root ++ path)) t here
  unlink_path-leads dir root path =
      on-kind (root ++ path) folder_fault (λ kind. unlink_kind kind dir path (root ++ path))
      (λ kind e. unlink_kind-leads kind dir path (root ++ path) (below_root root path) e)

  module _ (fd : ℕ) (inside : fd < length numbers) where
    fd-small : fd < 2 ^ 64
    fd-small = let size = w.size in omega (arith, size, inside)

    -- a file that was opened once more stands at a number
    world-opened : (file : OpenFile) (now : Tree) → IsWellFormed now
        → ((n : ℕ) → opens_of now n ≡ opens_of t n + (if file.number == n then 1 else 0))
        → IsWorldOf (slice_set numbers fd (File file)) now
    world-opened file now well more = record {
      size = length-set numbers fd (File file) ∙ w.size;
      tree = well;
      opens = λ n.
          let a = held-set numbers fd (File file) n inside in
          let b = w.opens n in
          let c = more n in
          omega (arith, a, b, c);
    }

    create-leads : (path : Parts) (flags : ℕ) → kind_of t path ≡ Free → On (create_at fd path flags) t here
    create-leads path flags e =
        let number = least_free t.bytes in
        let now = created t path in
        let row = suited (is_free (kind_of t path)) (record { answer = number; tree = now }) (ap is_free e) in (
          record { answer = number; tree = now },
          row,
          (
            fd-small,
            world-opened (new_file number flags) now (create_row-Keeps path t number now w.tree row)
                (λ n. opens_of-opened-at (with_file t path number []) number n),
          ),
        )

    cut_file-leads : (path : Parts) (number flags : ℕ) → number_at t path ≡ Some number
        → On (cut_file fd number flags) (opened_tree t number) here
    cut_file-leads path number flags e =
        let now = opened_tree t number in
        let row = ap (open_number t) e in
        let v = world-opened (new_file number flags) now (open_row-Keeps path t number now w.tree row)
        (λ n. opens_of-opened-at t number n) in
        let some : 0 < opens_of now number = let h = opens_of-opened t number in omega (arith, h) in
        on-if (cuts flags) (cut_at fd number flags) (opened fd number flags) now here
        (λ z. on-set_size (slice_set numbers fd (File (new_file number flags))) number 0 folder_fault
        (λ all. opened fd number flags) now here v some (omega arith) (λ later u. (fd-small, u)))
        (λ z. (fd-small, v))

    open_found-leads : (path : Parts) (number flags : ℕ) → number_at t path ≡ Some number
        → On (open_at_path fd path flags) t here
    open_found-leads path number flags e = (
      record { answer = number; tree = opened_tree t number },
      ap (open_number t) e,
      cut_file-leads path number flags e,
    )

    open_kind-leads : (kind : PathKind) (path : Parts) (flags : ℕ) → kind_of t path ≡ kind
        → On (open_kind kind fd path flags) t here
    open_kind-leads UnderFile path flags e = on-refuse ENOTDIR t here w
    open_kind-leads NoParent path flags e = on-refuse ENOENT t here w
    open_kind-leads Free path flags e =
        on-if (creates flags) (create_at fd path flags) (refuse ENOENT) t here (λ z. create-leads path flags e)
        (λ z. on-refuse ENOENT t here w)
    open_kind-leads Directory path flags e = (directory-small (wants_new flags), w) where
      directory-small : (b : Bool) → (if b then 2 ^ 64 - error_number EEXIST else 2 ^ 64 - error_number EISDIR) < 2 ^ 64
      directory-small true = error-small EEXIST
      directory-small false = error-small EISDIR
    open_kind-leads PlainFile path flags e =
        on-if (wants_new flags) (refuse EEXIST) (open_at_path fd path flags) t here (λ z. on-refuse EEXIST t here w)
        (λ z. let found = some_value (number_at t path)
        (kind_number (found_at t path) e) in open_found-leads path found.0 flags found.1)

  open_free-leads : (free : Option ℕ) (path : Parts) (flags : ℕ) → position is_closed numbers ≡ free
      → On (open_free free path flags) t here
  open_free-leads None path flags e = on-refuse EMFILE t here w
  open_free-leads (Some fd) path flags e =
      let place = position-Some is_closed numbers fd Closed e in
      on-kind path folder_fault (λ kind. open_kind kind fd path flags)
      (λ kind is. open_kind-leads fd place.0 kind path flags is)

  -- openat ends well
  pub open_path-leads : (path : Parts) (flags : ℕ) → On (open_path numbers path flags) t here
  open_path-leads path flags = on-if (has flags 3) (refuse EINVAL)
      (open_free (position is_closed numbers) path flags) t here (λ z. on-refuse EINVAL t here w)
      (λ z. open_free-leads (position is_closed numbers) path flags refl)

-- ---- where they stay

with_path-inside : (found : Result Parts ErrNo) (next : Parts → Row) → ((path : Parts) → StaysInside (next path))
    → StaysInside (with_path found next)
with_path-inside (Ok path) next insides = insides path
with_path-inside (Err error) next insides = tt

-- what takes a path stays inside where the path does
pub at_path-inside : (dirfd place count : ℕ) (next : Parts → Row) → InUserArea place count
    → ((path : Parts) → StaysInside (next path)) → StaysInside (at_path dirfd place count next)
at_path-inside dirfd place count next inside insides =
    inside-if (count == 0 || nat_lt guest_path_limit count) (refuse EINVAL) (read_path dirfd place count next) tt
    (inside, λ bytes size. with_path-inside (guest_path dirfd bytes) next insides)

make_dir_kind-inside : (kind : PathKind) (path : Parts) → StaysInside (make_dir_kind kind path)
make_dir_kind-inside UnderFile path = tt
make_dir_kind-inside NoParent path = tt
make_dir_kind-inside Directory path = tt
make_dir_kind-inside PlainFile path = tt
make_dir_kind-inside Free path = λ all fits. tt

pub make_dir_path-inside : (path : Parts) → StaysInside (make_dir_path path)
make_dir_path-inside path = λ kind fits. make_dir_kind-inside kind path

removed_dir-inside : (gone : Bool) → StaysInside (removed_dir gone)
removed_dir-inside true = tt
removed_dir-inside false = tt

remove_dir_at-inside : (path place : Parts) → StaysInside (remove_dir_at path place)
remove_dir_at-inside [] place = tt
remove_dir_at-inside (part ∷ path) place = λ gone fits. removed_dir-inside gone

unlink_kind-inside : (kind : PathKind) (dir : Bool) (path place : Parts) → StaysInside (unlink_kind kind dir path place)
unlink_kind-inside UnderFile dir path place = tt
unlink_kind-inside NoParent dir path place = tt
unlink_kind-inside Free dir path place = tt
unlink_kind-inside Directory true path place = remove_dir_at-inside path place
unlink_kind-inside Directory false path place = tt
unlink_kind-inside PlainFile true path place = tt
unlink_kind-inside PlainFile false path place = λ all fits. tt

pub unlink_path-inside : (dir : Bool) (path place : Parts) → StaysInside (unlink_path dir path place)
unlink_path-inside dir path place = λ kind fits. unlink_kind-inside kind dir path place

pub access_path-inside : (path : Parts) → StaysInside (access_path path)
access_path-inside path = λ kind fits. tt

cut_file-inside : (fd number flags : ℕ) → StaysInside (cut_file fd number flags)
cut_file-inside fd number flags =
    inside-if (cuts flags) (cut_at fd number flags) (opened fd number flags) (λ all fits. tt) tt

open_kind-inside : (kind : PathKind) (fd : ℕ) (path : Parts) (flags : ℕ) → StaysInside (open_kind kind fd path flags)
open_kind-inside UnderFile fd path flags = tt
open_kind-inside NoParent fd path flags = tt
open_kind-inside Free fd path flags =
    inside-if (creates flags) (create_at fd path flags) (refuse ENOENT) (λ number fits. tt) tt
open_kind-inside Directory fd path flags = tt
open_kind-inside PlainFile fd path flags =
    inside-if (wants_new flags) (refuse EEXIST) (open_at_path fd path flags) tt
    (λ number fits. cut_file-inside fd number flags)

open_free-inside : (free : Option ℕ) (path : Parts) (flags : ℕ) → StaysInside (open_free free path flags)
open_free-inside None path flags = tt
open_free-inside (Some fd) path flags = λ kind fits. open_kind-inside kind fd path flags

pub open_path-inside : (numbers : List Open) (path : Parts) (flags : ℕ) → StaysInside (open_path numbers path flags)
open_path-inside numbers path flags =
    inside-if (has flags 3) (refuse EINVAL) (open_free (position is_closed numbers) path flags) tt
    (open_free-inside (position is_closed numbers) path flags)
