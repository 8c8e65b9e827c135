-- The laws of texts over objects that tell what they hold.
use Rattle.std.specs.Prelude.{◌≡◌, ◌⊎◌, ◌≤◌, ℕ, Bool, true, false, cond, nat_lt, List, ◌++◌, take, drop, length, Option}
use Rattle.std.specs.Prelude.{Some, None, Result, Ok, Err, refl}
use Rattle.std.proofs.Common.{sym, subst, ap, ◌∙◌, inl, inr, arith, ◌<◌}
use Rattle.chunk_memory.specs.declared.stops.MemStop.{MemStop}
use Rattle.chunk_memory.specs.declared.port.ChunkPort as port
use Rattle.fe_base.specs.declared.outside.Failed.{Failed}
use Rattle.fe_base.specs.declared.outside.Source as source
use Rattle.fe_base.specs.declared.outside.Sink as sink
use Rattle.folder_tree.specs.Paths.{Parts}
use Rattle.folder_tree.specs.Tree.{Tree, files_of, opens_of, bytes_of, number_at}
use Rattle.folder_tree.specs.TreeOps.{After, open_number, opened}
use Rattle.folder_tree.specs.Answers.{AnsweredBy}
use Rattle.folder_tree.specs.declared.folder.FolderStop.{FolderStop}
use Rattle.folder_tree.specs.declared.folder.FolderStop.TheVariants.{Failed as Broken, NoMemory}
use Rattle.folder_tree.specs.declared.folder.Folder as folder
use Rattle.host_text.specs.Text.{Query, Reply, row_of, Text, Kind, OpenFile, Create, Release, Size, ReadAt, WriteAt}
use Rattle.host_text.specs.Text.{SetSize, Remove, MakeDir, RemoveDir}
use Rattle.host_text.specs.Played.{Acts, At, Played, ended, failed, has_read, read_stopped, has_written, write_stopped}
use Rattle.host_text.specs.Played.{has_taken, take_stopped, has_put, put_stopped, has_asked, ask_stopped, noted, looked}
use Rattle.host_text.specs.Openings.{OpensLast}
use Rattle.host_text.specs.Refusals.{Late, Unacted, refused}
use Rattle.host_text.specs.Outside.{HasRead, HasWritten, HasCalled, HasTaken, HasPut, acts}
use Rattle.host_text.specs.Runs.{Place, Bytes, End, run, Ties, Within}
use Rattle.host_text.specs.RunLaws.{came}
use Rattle.host_text.specs.Shapes.{Stops, is_quiet, Shaped, Unchanged, Acted, shaped-fault}

-- what a refused call leaves of a told tree, of told input and of a told console
refused-tree : {A : Type 0} (t : Tree) (after : Option Tree) (row : Option (After A)) (why : FolderStop)
    → AnsweredBy t after row (Err why) → after ≡ Some t
refused-tree t after row Broken h = h
refused-tree t after row NoMemory h = h.1

open-files : (b : Bool) (t : Tree) {A : Type 0} (answer : A) (after : After A)
    → cond b (Some (record { answer = answer; tree = t })) None ≡ Some after → files_of after.tree ≡ files_of t
open-files true t answer after e = let k : t ≡ after.tree = cc in ap files_of (sym k)
open-files false t answer after e = cc

opened-files : (t : Tree) (found : Option ℕ) (after : After ℕ) → open_number t found ≡ Some after → files_of after.tree
    ≡ files_of t
opened-files t None after e = cc
opened-files t (Some number) after e = let k : opened t number ≡ after.tree = cc in ap files_of (sym k)

-- a quiet call leaves the files
pub quiet-files : (q : Query) (t : Tree) (after : After (Reply q)) → is_quiet q ≡ true → row_of q t ≡ Some after
    → files_of after.tree ≡ files_of t
quiet-files (Kind path) t after quiet e = let k : t ≡ after.tree = cc in ap files_of (sym k)
quiet-files (OpenFile path) t after quiet e = opened-files t (number_at t path) after e
quiet-files (Create path) t after quiet e = cc
quiet-files (Release number) t after quiet e = cc
quiet-files (Size number) t after quiet e = open-files (nat_lt 0 (opens_of t number)) t _ after e
quiet-files (ReadAt number at count) t after quiet e = open-files (nat_lt 0 (opens_of t number)) t _ after e
quiet-files (WriteAt number at bytes) t after quiet e = cc
quiet-files (SetSize number size) t after quiet e = cc
quiet-files (Remove path) t after quiet e = cc
quiet-files (MakeDir path) t after quiet e = cc
quiet-files (RemoveDir path) t after quiet e = cc

-- the told files stay
abbrev pub SameFiles : {F : Type 0} → folder.Ghosts F → F → F → Type 0
SameFiles f x x' = (t : Tree) → f.tree x ≡ Some t → (t' : Tree) × (f.tree x' ≡ Some t') × (files_of t' ≡ files_of t)

-- the laws that the law of faults asks for
pub quiet-asks : {F : Type 0} (f : folder.Ghosts F) (q : Query) (x x' : F) (r : Result (Reply q) FolderStop)
    → is_quiet q ≡ true → HasCalled f x x' q r → SameFiles f x x'
quiet-asks f q x x' (Ok reply) quiet d = λ t told. let a =
    d.tree t told in (a.0, a.2, quiet-files q t (record { answer = reply; tree = a.0 }) quiet a.1)
quiet-asks f q x x' (Err why) quiet d = λ t told. (t, refused-tree t (f.tree x') (row_of q t) why (d.tree t told), refl)

pub refused-asks : {F : Type 0} (f : folder.Ghosts F) (q : Query) (x x' : F) (why : FolderStop)
    → HasCalled f x x' q (Err why) → SameFiles f x x'
refused-asks f q x x' why d = λ t told. (t, refused-tree t (f.tree x') (row_of q t) why (d.tree t told), refl)

pub joined-files : {F : Type 0} (f : folder.Ghosts F) (x y w : F) → SameFiles f x y → SameFiles f y w → SameFiles f x w
joined-files f x y w a b = λ t told. let h = a t told in let k = b h.0 h.1 in (k.0, k.1, k.2 ∙ h.2)

module _ {P F I C M H : Type 0} (p : port.Ghosts P) (f : folder.Ghosts F) (i : source.Ghosts I) (c : sink.Ghosts C)
    (m : Bytes M) (fits : ℕ → ℕ → Type 0) (memory : P → M → Type 0)
    (on_read : (x x' : P) (t : M) (at count : ℕ) (bytes : List ℕ) → fits at count → memory x t
    → HasRead p x x' at count (Ok bytes) → memory x' t × (bytes ≡ m.get t at count))
    (on_write : (x x' : P) (t : M) (at : ℕ) (bytes : List ℕ) → fits at (length bytes) → memory x t
    → HasWritten p x x' at bytes (Ok tt) → memory x' (m.set t at bytes)) where
  -- the objects tell this place
  abbrev pub Told : At P F I C H → Place M H → Type 0
  Told s w = Ties memory (λ x t. f.tree x ≡ Some t) (λ x left. i.left x ≡ Some left)
      (λ x held. c.held x ≡ Some held) s w

  -- a text that came to its end is the run of the place that was told
  pub told-runs : {A E : Type 0} {t : Text H A E} {s s' : At P F I C H} {r : Result A E} (a : A) (w : Place M H) → r
      ≡ Ok a → Within fits t → Played (acts p f i c) t s r s' → Told s w
      → (w' : Place M H) × (run m t w ≡ Some (record { answer = a; place = w' })) × Told s' w'
  told-runs a w e inside h ties =
      came (acts p f i c) m fits memory (λ x t. f.tree x ≡ Some t) (λ x left. i.left x ≡ Some left)
      (λ x held. c.held x ≡ Some held)
      (λ x x' t at count bytes fit told d. let got = on_read x x' t at count bytes fit told d in
      (got.0, got.1, d.bytes)) on_write
      (λ x x' t q reply told d. let h = d.tree t told in (h.0, h.1, h.2, d.bound))
      (λ x x' left count bytes told d. let got = d.bytes left told in (got.0, got.1, d.bound))
      (λ x x' held bytes told d. d.bytes held told)
      a w e inside h ties

-- ---- ranges that are known

module _ {P F I C : Type 0} (p : port.Ghosts P) (f : folder.Ghosts F) (i : source.Ghosts I) (c : sink.Ghosts C)
    (fits : ℕ → ℕ → Type 0) where
  -- the acts of these objects, where each range is one of these
  abbrev pub inside_acts : Acts P F I C
  inside_acts = record {
    read = λ x place count r x'. fits place count × HasRead p x x' place count r;
    write = λ x place bytes r x'. fits place (length bytes) × HasWritten p x x' place bytes r;
    ask = λ q x r x'. HasCalled f x x' q r;
    take = λ x count r x'. HasTaken i x x' count r;
    put = λ x bytes r x'. HasPut c x x' bytes r;
  }

  -- a text that keeps to these ranges is followed so, whatever the objects tell
  pub inside-played : {H A E : Type 0} {t : Text H A E} {s s' : At P F I C H} {r : Result A E} → Within fits t
      → Played (acts p f i c) t s r s' → Played inside_acts t s r s'
  inside-played h (ended e same) = ended e same
  inside-played h (failed e same) = failed e same
  inside-played h (has_read {bytes = bytes} d next) = has_read (h.0, d) (inside-played (h.1 bytes d.bytes) next)
  inside-played h (read_stopped d e same) = read_stopped (h.0, d) e same
  inside-played h (has_written d next) = has_written (h.0, d) (inside-played h.1 next)
  inside-played h (write_stopped d e same) = write_stopped (h.0, d) e same
  inside-played h (has_taken {bytes = bytes} d next) = has_taken d (inside-played (h bytes d.bound) next)
  inside-played h (take_stopped d e same) = take_stopped d e same
  inside-played h (has_put d next) = has_put d (inside-played h next)
  inside-played h (put_stopped d e same) = put_stopped d e same
  inside-played h (has_asked {reply = reply} d next) = has_asked d (inside-played (h reply d.bound) next)
  inside-played h (ask_stopped d e same) = ask_stopped d e same
  inside-played h (noted n next) = noted n (inside-played h next)
  inside-played h (looked {s = s} next) = looked (inside-played (h s.kept) next)

-- ---- refusals

module _ {P F I C M H : Type 0} (p : port.Ghosts P) (f : folder.Ghosts F) (i : source.Ghosts I) (c : sink.Ghosts C)
    (m : Bytes M) (fits : ℕ → ℕ → Type 0) (memory left : P → M → Type 0)
    (on_read : (x x' : P) (t : M) (at count : ℕ) (bytes : List ℕ) → fits at count → memory x t
    → HasRead p x x' at count (Ok bytes) → memory x' t × (bytes ≡ m.get t at count))
    (on_write : (x x' : P) (t : M) (at : ℕ) (bytes : List ℕ) → fits at (length bytes) → memory x t
    → HasWritten p x x' at bytes (Ok tt) → memory x' (m.set t at bytes))
    (held : (x : P) (t : M) → memory x t → left x t)
    (off_read : (x x' : P) (t : M) (at count : ℕ) (why : MemStop) → fits at count → memory x t
    → HasRead p x x' at count (Err why) → left x' t)
    (off_write : (x x' : P) (t : M) (at : ℕ) (bytes : List ℕ) (why : MemStop) → fits at (length bytes) → memory x t
    → HasWritten p x x' at bytes (Err why) → left x' t) where
  -- a text of the shape that is refused over objects that tell a place
  pub told-refused : {A E : Type 0} {t : Text H A E} {s s' : At P F I C H} {r : Result A E} (z : Stops E)
      (marks : (H → H) → Type 0) (answers : A → Type 0) (may : Parts → Type 0) (e : E) (w : Place M H) → r ≡ Err e
      → Shaped z marks answers t → OpensLast may t → Within fits t
      → Ties memory (λ x t. f.tree x ≡ Some t) (λ x left. i.left x ≡ Some left) (λ x held. c.held x ≡ Some held) s w
      → Played (acts p f i c) t s r s'
      → Unacted left (λ x t. f.tree x ≡ Some t) (λ x left. i.left x ≡ Some left)
      (λ x held. c.held x ≡ Some held) may s' w
      ⊎ Late left (λ x t. f.tree x ≡ Some t) (λ x left. i.left x ≡ Some left)
      (λ x held. c.held x ≡ Some held) m z answers
      t w s' e
  told-refused z marks answers may e w h shape last inside ties played =
      refused (acts p f i c) m fits memory (λ x t. f.tree x ≡ Some t) (λ x left. i.left x ≡ Some left)
      (λ x held. c.held x ≡ Some held)
      (λ x x' t at count bytes fit told d. let got = on_read x x' t at count bytes fit told d in
      (got.0, got.1, d.bytes))
      on_write
      (λ x x' t q reply told d. let h = d.tree t told in (h.0, h.1, h.2, d.bound))
      (λ x x' left count bytes told d. let got = d.bytes left told in (got.0, got.1, d.bound))
      (λ x x' held bytes told d. d.bytes held told) z marks answers left may held off_read off_write
      (λ x x' t q why told d. refused-tree t (f.tree x') (row_of q t) why (d.tree t told))
      (λ x x' was count why told d. d.bytes was told) (λ x x' was bytes why told d. d.bytes was told) e w h shape last
      inside ties played
