-- Files that a text opens before it changes anything, and what a refusal leaves of the tree then.
use Rattle.std.specs.Prelude.{◌≡◌, ◌≤◌, ◌⊎◌, ⊤, ℕ, Bool, true, false, cond, nat_lt, List, length, Option, Some, None}
use Rattle.std.specs.Prelude.{refl}
use Rattle.std.proofs.Common.{sym, subst}
use Rattle.folder_tree.specs.Paths.{Parts}
use Rattle.folder_tree.specs.Tree.{Tree, number_at, opens_of}
use Rattle.folder_tree.specs.TreeOps.{After, open_number, opened}
use Rattle.host_text.specs.Shapes.{is_quiet}
use Rattle.host_text.specs.Text.{
  Query,
  Reply,
  row_of,
  Text,
  Done,
  Fail,
  Read,
  Write,
  Take,
  Put,
  Ask,
  Note,
  Look,
  Kind,
  OpenFile,
  Create,
  Release,
  Size,
  ReadAt,
  WriteAt,
  SetSize,
  Remove,
  MakeDir,
  RemoveDir,
}

-- the path of a file that a call opens
abbrev pub opens_at : Query → Option Parts
opens_at (Kind path) = None
opens_at (OpenFile path) = Some path
opens_at (Create path) = None
opens_at (Release number) = None
opens_at (Size number) = None
opens_at (ReadAt number at count) = None
opens_at (WriteAt number at bytes) = None
opens_at (SetSize number size) = None
opens_at (Remove path) = None
opens_at (MakeDir path) = None
opens_at (RemoveDir path) = None

-- by the path, if there is one
abbrev pub by_path : Option Parts → (Parts → Type 0) → Type 0 → Type 0
by_path (Some path) some none = some path
by_path None some none = none

-- the text acts next: by a note, or by a call of the folder that changes something, where that may be
abbrev pub ActsNext : {H A E : Type 0} → Type 0 → Text H A E → Type 0
ActsNext may (Done a) = ⊥
ActsNext may (Fail e) = ⊥
ActsNext may (Read at count stop k) = ⊥
ActsNext may (Write at bytes stop k) = ⊥
ActsNext may (Take count stop k) = ⊥
ActsNext may (Put bytes stop k) = ⊥
ActsNext may (Ask q stop k) = may × (is_quiet q ≡ false)
ActsNext may (Note g k) = ⊤
ActsNext may (Look k) = ⊥

-- a file is opened directly before the text acts, and by a call of the folder only where its path is one of these
abbrev pub OpensLast : {H A E : Type 0} → (Parts → Type 0) → Text H A E → Type 0
OpensLast may (Done a) = ⊤
OpensLast may (Fail e) = ⊤
OpensLast may (Read at count stop k) = (bytes : List ℕ) → length bytes ≡ count → OpensLast may (k bytes)
OpensLast may (Write at bytes stop k) = OpensLast may k
OpensLast may (Take count stop k) = (bytes : List ℕ) → length bytes ≤ count → OpensLast may (k bytes)
OpensLast may (Put bytes stop k) = OpensLast may k
OpensLast may (Ask q stop k) =
    by_path (opens_at q) (λ path. (reply : Reply q) → ActsNext (may path) (k reply))
    ((reply : Reply q) → OpensLast may (k reply))
OpensLast may (Note g k) = OpensLast may k
OpensLast {H = H} may (Look k) = (h : H) → OpensLast may (k h)

-- the tree has one open more, of the file at such a path
pub record OneOpenMore (may : Parts → Type 0) (t now : Tree) : Type 0 where
  pub path : Parts
  pub such : may path
  pub number : ℕ
  pub stands : number_at t path ≡ Some number
  pub is : now ≡ opened t number

-- the tree is as it was, or has one open more
abbrev pub AsBefore : (Parts → Type 0) → Tree → Tree → Type 0
AsBefore may t now = (now ≡ t) ⊎ OneOpenMore may t now

-- ---- what a call that leaves the files does to a tree

open-stays : (b : Bool) (t : Tree) {A : Type 0} (answer : A) (after : After A)
    → cond b (Some (record { answer = answer; tree = t })) None ≡ Some after → after.tree ≡ t
open-stays true t answer after e = let k : t ≡ after.tree = cc in sym k
open-stays false t answer after e = cc

-- a quiet call that opens nothing leaves the tree
pub quiet-stays : (q : Query) (t : Tree) (after : After (Reply q)) → is_quiet q ≡ true → opens_at q ≡ None
    → row_of q t ≡ Some after → after.tree ≡ t
quiet-stays (Kind path) t after quiet none e = let k : t ≡ after.tree = cc in sym k
quiet-stays (OpenFile path) t after quiet none e = cc
quiet-stays (Create path) t after quiet none e = cc
quiet-stays (Release number) t after quiet none e = cc
quiet-stays (Size number) t after quiet none e = open-stays (nat_lt 0 (opens_of t number)) t _ after e
quiet-stays (ReadAt number at count) t after quiet none e = open-stays (nat_lt 0 (opens_of t number)) t _ after e
quiet-stays (WriteAt number at bytes) t after quiet none e = cc
quiet-stays (SetSize number size) t after quiet none e = cc
quiet-stays (Remove path) t after quiet none e = cc
quiet-stays (MakeDir path) t after quiet none e = cc
quiet-stays (RemoveDir path) t after quiet none e = cc

found-opened : (may : Parts → Type 0) (t : Tree) (path : Parts) (found : Option ℕ) (after : After ℕ) → may path
    → number_at t path ≡ found → open_number t found ≡ Some after → OneOpenMore may t after.tree
found-opened may t path None after such stands e = cc
found-opened may t path (Some number) after such stands e =
    let k : opened t number ≡ after.tree = cc in
    record { path = path; such = such; number = number; stands = stands; is = sym k }

-- one that opens a file leaves one open more
pub opens-more : (may : Parts → Type 0) (q : Query) (t : Tree) (path : Parts) (after : After (Reply q)) → may path
    → opens_at q ≡ Some path → row_of q t ≡ Some after → OneOpenMore may t after.tree
opens-more may (Kind path) t at after such some e = cc
opens-more may (OpenFile path) t at after such some e =
    let same : path ≡ at = cc in
    found-opened may t path (number_at t path) after (subst may (sym same) such) refl e
opens-more may (Create path) t at after such some e = cc
opens-more may (Release number) t at after such some e = cc
opens-more may (Size number) t at after such some e = cc
opens-more may (ReadAt number place count) t at after such some e = cc
opens-more may (WriteAt number place bytes) t at after such some e = cc
opens-more may (SetSize number size) t at after such some e = cc
opens-more may (Remove path) t at after such some e = cc
opens-more may (MakeDir path) t at after such some e = cc
opens-more may (RemoveDir path) t at after such some e = cc
