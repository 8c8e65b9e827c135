-- How a row leads on from each of its acts.
use Rattle.std.specs.Prelude.{◌≡◌, ◌≤◌, ◌<◌, ◌+◌, ◌-◌, ◌^◌, ◌==◌, not, ℕ, Bool, true, false, cond, nat_lt, ◌&&◌}
use Rattle.std.specs.Prelude.{if◌then◌else◌, List, [], length, take, drop, slice_set, Option, Some, None}
use Rattle.std.proofs.Common.{sym, subst, ap, ◌∙◌, arith, refl}
use Rattle.std.proofs.lemmas.Bool.{lt-ltb}
use Rattle.std.proofs.lemmas.List.{length-take, length-set}
use Rattle.fe_base.specs.ErrorNumbers.{error_number}
use Rattle.fe_base.specs.declared.error_numbers.ErrNo.{ErrNo}
use Rattle.fe_base.specs.declared.error_numbers.ErrNo.TheVariants.{ENOENT, EBADF, ENOMEM, EACCES, EFAULT, EEXIST}
use Rattle.fe_base.specs.declared.error_numbers.ErrNo.TheVariants.{ENOTDIR, EISDIR, EINVAL, EMFILE, EFBIG, ESPIPE}
use Rattle.fe_base.specs.declared.error_numbers.ErrNo.TheVariants.{ENAMETOOLONG, ENOSYS, ENOTEMPTY}
use Rattle.folder_tree.specs.Laws.{release_row-Keeps}
use Rattle.folder_tree.specs.RowLaws.{bytes-small, write_row-Keeps, set_size_row-Keeps}
use Rattle.folder_tree.specs.Tree.{Tree, opens_of, bytes_of, IsWellFormed}
use Rattle.folder_tree.specs.TreeOps.{After, written, sized, holding, is_writable, released}
use Rattle.folder_tree.specs.declared.folder.FolderStop.{FolderStop}
use Rattle.host_text.specs.Leads.{Leads}
use Rattle.host_text.specs.Text.{Reply, Ask, Size, ReadAt, WriteAt, SetSize, Release}
use Rattle.host_text.specs.declared.open_numbers.Open.{Open}
use Rattle.host_text.specs.declared.open_numbers.Open.TheVariants.{Closed, Input, Console, File}
use Rattle.host_text.specs.declared.open_numbers.OpenFile.{OpenFile}
use Rattle.syscall_proxy.specs.Kept.{Kept, kept, open_at}
use Rattle.syscall_proxy.specs.Rows.{Row, refuse, placed}
use Rattle.syscall_proxy.specs.Worlds.{holds, held, IsWorldOf, EndsWell}
use Rattle.syscall_proxy.specs.WorldLaws.{file-inside, held-set, file-held, opens_of-released-at}
use Rattle.syscall_proxy.specs.declared.answers.CallFault.{CallFault}

-- the row leads to a world
abbrev pub On : Row → Tree → Kept → Type 0
On row t k = Leads EndsWell row t k

-- ---- tests and refusals

-- by a test, each way by what the test says
pub on-if : (b : Bool) (one other : Row) (t : Tree) (k : Kept) → (b ≡ true → On one t k) → (b ≡ false → On other t k)
    → On (if b then one else other) t k
on-if true one other t k f g = f refl
on-if false one other t k f g = g refl

some_error : (error : ErrNo) → 0 < error_number error
some_error ENOENT = omega arith
some_error EBADF = omega arith
some_error ENOMEM = omega arith
some_error EACCES = omega arith
some_error EFAULT = omega arith
some_error EEXIST = omega arith
some_error ENOTDIR = omega arith
some_error EISDIR = omega arith
some_error EINVAL = omega arith
some_error EMFILE = omega arith
some_error EFBIG = omega arith
some_error ESPIPE = omega arith
some_error ENAMETOOLONG = omega arith
some_error ENOSYS = omega arith
some_error ENOTEMPTY = omega arith

-- the negated error number is a doubleword
pub error-small : (error : ErrNo) → 2 ^ 64 - error_number error < 2 ^ 64
error-small error = let h = some_error error in omega (arith, h)

-- a refusal
pub on-refuse : (error : ErrNo) (t : Tree) (k : Kept) → IsWorldOf k.numbers t → On (refuse error) t k
on-refuse error t k w = (error-small error, w)

-- ---- open numbers

-- a file that stands at a number is open
pub file-open : (numbers : List Open) (fd : ℕ) (file : OpenFile) (t : Tree) → IsWorldOf numbers t → open_at numbers fd
    ≡ File file → 0 < opens_of t file.number
file-open numbers fd file t w e = let h = file-held numbers fd file e in let k =
    w.opens file.number in omega (arith, h, k)

-- another thing at a number, which holds no file that was not held there
pub world-set : (numbers : List Open) (fd : ℕ) (stands : Open) (t : Tree) → fd < length numbers
    → ((n : ℕ) → holds stands n ≤ holds (open_at numbers fd) n) → IsWorldOf numbers t
    → IsWorldOf (slice_set numbers fd stands) t
world-set numbers fd stands t inside fewer w = record {
  size = length-set numbers fd stands ∙ w.size;
  tree = w.tree;
  opens = λ n. let a = held-set numbers fd stands n inside in let b = fewer n in let c =
      w.opens n in omega (arith, a, b, c);
}

-- the place of a file moves
pub world-placed : (numbers : List Open) (fd : ℕ) (file : OpenFile) (place : ℕ) (t : Tree) → open_at numbers fd
    ≡ File file → IsWorldOf numbers t → IsWorldOf (slice_set numbers fd (placed file place)) t
world-placed numbers fd file place t e w =
    world-set numbers fd (placed file place) t (file-inside numbers fd file e)
    (λ n. let P : Open → Type 0 = λ s. holds (placed file place) n ≤ holds s n in subst P (sym e)
    (let h : holds (placed file place) n ≤ holds (File file) n = omega arith in h)) w

-- ---- calls of the folder

suited : {A : Type 0} (b : Bool) (after : After A) → b ≡ true → cond {A = Option (After A)} b (Some after) None
    ≡ Some after
suited true after e = refl
suited false after e = cc

suited_twice : {A : Type 0} (b c : Bool) (after : After A) → b ≡ true → c ≡ true
    → cond {A = Option (After A)} b (cond {A = Option (After A)} c (Some after) None) None ≡ Some after
suited_twice true true after e f = refl
suited_twice true false after e f = cc
suited_twice false c after e f = cc

-- the size of an open file
pub on-size : (number : ℕ) (stop : FolderStop → CallFault) (k : ℕ → Row) (t : Tree) (h : Kept) → 0 < opens_of t number
    → (length (bytes_of t number) < 2 ^ 64 → On (k (length (bytes_of t number))) t h) → IsWellFormed t
    → On (Ask (Size number) stop k) t h
on-size number stop k t h some more well = (
  _,
  suited (nat_lt 0 (opens_of t number)) (record { answer = length (bytes_of t number); tree = t })
      (lt-ltb 0 (opens_of t number) some),
  more (bytes-small t number well),
)

-- a read of an open file gives no more than was asked for
pub on-read : (number at count : ℕ) (stop : FolderStop → CallFault) (k : List ℕ → Row) (t : Tree) (h : Kept)
    → 0 < opens_of t number
    → ((bytes : List ℕ) → length bytes ≤ count → On (k bytes) t h) → On (Ask (ReadAt number at count) stop k) t h
on-read number at count stop k t h some more =
    let bytes = take count (drop at (bytes_of t number)) in (
      _,
      suited (nat_lt 0 (opens_of t number)) (record { answer = bytes; tree = t }) (lt-ltb 0 (opens_of t number) some),
      more bytes (omega (arith, length-take count (drop at (bytes_of t number)))),
    )

-- other bytes of an open file leave a world
world-holding : (numbers : List Open) (number : ℕ) (bytes : List ℕ) (t : Tree) → IsWellFormed (holding t number bytes)
    → IsWorldOf numbers t → IsWorldOf numbers (holding t number bytes)
world-holding numbers number bytes t well w = record { size = w.size; tree = well; opens = w.opens }

both_hold : (b c : Bool) → b ≡ true → c ≡ true → (b && c) ≡ true
both_hold true true e f = refl
both_hold true false e f = f
both_hold false c e f = e

-- some bytes are written to an open file, and end below 2^63
pub on-write : (numbers : List Open) (number at : ℕ) (bytes : List ℕ) (stop : FolderStop → CallFault)
    (k : Unit {0} → Row) (t : Tree) (h : Kept) → IsWorldOf numbers t → 0 < opens_of t number
    → 0 < length bytes → at + length bytes < 2 ^ 63 → ((now : Tree) → IsWorldOf numbers now → On (k tt) now h)
    → On (Ask (WriteAt number at bytes) stop k) t h
on-write numbers number at bytes stop k t h w some filled ends more =
    let now = holding t number (written at bytes (bytes_of t number)) in
    let row = suited_twice (nat_lt 0 (opens_of t number)) (is_writable at bytes) (record { answer = tt; tree = now })
    (lt-ltb 0 (opens_of t number) some)
    (both_hold (nat_lt 0 (length bytes)) (nat_lt (at + length bytes) (2 ^ 63)) (lt-ltb 0 (length bytes) filled)
    (lt-ltb (at + length bytes) (2 ^ 63) ends)) in (
      _,
      row,
      more now (world-holding numbers number (written at bytes (bytes_of t number)) t
          (write_row-Keeps number at bytes t tt now w.tree row) w),
    )

-- an open file is cut or filled with zeros
pub on-set_size : (numbers : List Open) (number size : ℕ) (stop : FolderStop → CallFault) (k : Unit {0} → Row)
    (t : Tree) (h : Kept) → IsWorldOf numbers t → 0 < opens_of t number
    → size < 2 ^ 64 → ((now : Tree) → IsWorldOf numbers now → On (k tt) now h)
    → On (Ask (SetSize number size) stop k) t h
on-set_size numbers number size stop k t h w some small more =
    let now = holding t number (sized size (bytes_of t number)) in
    let row = suited (nat_lt 0 (opens_of t number)) (record { answer = tt; tree = now })
    (lt-ltb 0 (opens_of t number) some) in (
      _,
      row,
      more now (world-holding numbers number (sized size (bytes_of t number)) t
          (set_size_row-Keeps number size small t tt now w.tree row) w),
    )

-- the file that stands at a number is released, and then nothing stands there
pub on-close : (numbers : List Open) (fd : ℕ) (file : OpenFile) (stop : FolderStop → CallFault) (k : Unit {0} → Row)
    (t : Tree) (h : Kept) → open_at numbers fd ≡ File file → IsWorldOf numbers t
    → ((now : Tree) → IsWorldOf (slice_set numbers fd Closed) now → On (k tt) now h)
    → On (Ask (Release file.number) stop k) t h
on-close numbers fd file stop k t h e w more =
    let some = file-open numbers fd file t w e in
    let now = released t file.number in
    let row = suited (nat_lt 0 (opens_of t file.number)) (record { answer = tt; tree = now })
    (lt-ltb 0 (opens_of t file.number) some) in
    let at_file : (n : ℕ) → holds (open_at numbers fd) n ≡ (if file.number == n then 1 else 0) =
    λ n. ap (λ s. holds s n) e in (
      _,
      row,
      more now (record {
        size = length-set numbers fd Closed ∙ w.size;
        tree = release_row-Keeps file.number t tt now w.tree row;
        opens = λ n.
            let a = held-set numbers fd Closed n (file-inside numbers fd file e) in
            let b = at_file n in
            let c = w.opens n in
            let d = opens_of-released-at t file.number n some in
            omega (arith, a, b, c, d);
      }),
    )
