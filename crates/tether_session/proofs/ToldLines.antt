-- A text that was followed over objects that tell what they hold was followed over what they tell.
use Rattle.std.proofs.Common.{◌≡◌, ◌≤◌, ◌-◌, ◌∙◌, ℕ, List, ◌++◌, length, drop, Option, Some, refl}
use Rattle.std.proofs.Common.{sym, ap, subst, arith}
use Rattle.std.specs.Prelude.{Result, Ok, Err}
use Rattle.std.specs.Result.{result_err}
use Rattle.chunk_memory.specs.BeatChunks.{DirectOne, DirectRefused}
use Rattle.chunk_memory.specs.Ports.{Maps}
use Rattle.chunk_memory.specs.Transactions.{ReadsRange, WritesRange}
use Rattle.chunk_memory.specs.declared.port.ChunkPort as port
use Rattle.chunk_memory.specs.declared.stops.MemStop.{MemStop}
use Rattle.chunk_memory.specs.declared.stops.MemStop.TheVariants.{Spent}
use Rattle.fe_base.specs.declared.outside.Failed.{Failed}
use Rattle.fe_base.specs.declared.outside.Source as source
use Rattle.fe_base.specs.declared.outside.Sink as sink
use Rattle.folder_tree.specs.Answers.{AnsweredBy}
use Rattle.folder_tree.specs.Tree.{Tree}
use Rattle.folder_tree.specs.TreeOps.{After}
use Rattle.folder_tree.specs.declared.folder.Folder as folder
use Rattle.folder_tree.specs.declared.folder.FolderStop.{FolderStop}
use Rattle.folder_tree.specs.declared.folder.FolderStop.TheVariants.{Failed as Broken, NoMemory}
use Rattle.host_text.specs.Outside.{HasRead, HasWritten, HasCalled, HasTaken, HasPut, acts}
use Rattle.host_text.specs.Played.{At, Played, at, ended, failed, has_read, read_stopped, has_written, write_stopped}
use Rattle.host_text.specs.Played.{has_taken, take_stopped, has_put, put_stopped, has_asked, ask_stopped, noted, looked}
use Rattle.host_text.specs.Text.{Query, Reply, Text, row_of}
use Rattle.htif_mailbox.specs.Alone.{at_memory, memory_alone}
use Rattle.target_box.specs.Lined.{Lined, lined, next_line, lost_line}
use Rattle.target_box.specs.Turn.{TargetState}
use Rattle.tether_base.specs.ToldActs.{TreeAsked, InputTaken, ConsolePut, AtLimit, KeepsLimit, LineRead, LineWritten}
use Rattle.tether_base.specs.ToldActs.{line_acts}
use Rattle.tether_session.specs.RealLines.{IfAllTold, WasTold}

-- ---- the outside
refused-tree : {A : Type 0} (t : Tree) (after : Option Tree) (row : Option (After A)) (why : FolderStop)
    → AnsweredBy t after row (Err why) → after ≡ Some t
refused-tree t after row Broken h = h
refused-tree t after row NoMemory h = h.1

asks-told : {F : Type 0} (f : folder.Ghosts F) (q : Query) (x x' : F) (t : Tree) (r : Result (Reply q) FolderStop)
    → f.tree x ≡ Some t → HasCalled f x x' q r
    → (now : Tree) × (f.tree x' ≡ Some now) × TreeAsked q t r now
asks-told f q x x' t (Ok reply) told d = let a = d.tree t told in (a.0, a.2, a.1)
asks-told f q x x' t (Err why) told d =
    (t, refused-tree t (f.tree x') (row_of q t) why (d.tree t told), refl)

takes-told : {I : Type 0} (i : source.Ghosts I) (x x' : I) (left : List ℕ) (count : ℕ) (r : Result (List ℕ) Failed)
    → i.left x ≡ Some left → HasTaken i x x' count r
    → (now : List ℕ) × (i.left x' ≡ Some now) × InputTaken left count r now
takes-told i x x' left count (Ok bytes) told d =
    let a = d.bytes left told in (drop count left, a.1, (a.0, refl))
takes-told i x x' left count (Err why) told d = (left, d.bytes left told, refl)

puts-told : {C : Type 0} (c : sink.Ghosts C) (x x' : C) (held bytes : List ℕ) (r : Result Unit Failed)
    → c.held x ≡ Some held → HasPut c x x' bytes r
    → (now : List ℕ) × (c.held x' ≡ Some now) × ConsolePut held bytes r now
puts-told c x x' held bytes (Ok done) told d = (held ++ bytes, d.bytes held told, refl)
puts-told c x x' held bytes (Err why) told d = (held, d.bytes held told, refl)

-- ---- texts
module _ {P : Type 0} (p : port.Ghosts P) (line : P → Lined)
    (on_read : (x x' : P) (at count : ℕ) (r : Result (List ℕ) MemStop) → HasRead p x x' at count r
    → LineRead (line x) at count r (line x'))
    (on_write : (x x' : P) (at : ℕ) (bytes : List ℕ) (r : Result Unit MemStop) → HasWritten p x x' at bytes r
    → LineWritten (line x) at bytes r (line x')) where
  module _ {F I C H : Type 0} (f : folder.Ghosts F) (i : source.Ghosts I) (c : sink.Ghosts C) where
    -- the line of the port in its place
    abbrev pub over : At P F I C H → At Lined F I C H
    over s = at (line s.port) s.folder s.input s.console s.kept

    -- what is told where the text ends
    stays : {A E : Type 0} (t : Text H A E) (z : At Lined Tree (List ℕ) (List ℕ) H) (r : Result A E)
        (s s' : At P F I C H) → s' ≡ s → WasTold f i c t z r (over s) → WasTold f i c t z r (over s')
    stays t z r s s' same was = subst (λ (m : At P F I C H). WasTold f i c t z r (over m)) (sym same) was

    -- over objects that tell what they hold, a text is followed over a line and what is told
    pub told-lines : {A E : Type 0} {t : Text H A E} {s s' : At P F I C H} {r : Result A E} (tree : Tree)
        (left held : List ℕ) → f.tree s.folder ≡ Some tree → i.left s.input ≡ Some left
        → c.held s.console ≡ Some held → Played (acts p f i c) t s r s'
        → WasTold f i c t (at (line s.port) tree left held s.kept) r (over s')
    told-lines {t = t} {s = s} {s' = s'} {r = r} tree left held a b e (ended h same) =
        stays t (at (line s.port) tree left held s.kept) r (at s.port s.folder s.input s.console s.kept) s' same
        (record {
          tree = tree;
          left = left;
          held = held;
          tree_is = a;
          input_is = b;
          console_is = e;
          played = ended h refl;
        })
    told-lines {t = t} {s = s} {s' = s'} {r = r} tree left held a b e (failed h same) =
        stays t (at (line s.port) tree left held s.kept) r (at s.port s.folder s.input s.console s.kept) s' same
        (record {
          tree = tree;
          left = left;
          held = held;
          tree_is = a;
          input_is = b;
          console_is = e;
          played = failed h refl;
        })
    told-lines {s = s} tree left held a b e (has_read {place = place} {count = count} {x = x} {bytes = bytes} d next) =
        let rest = told-lines tree left held a b e next in
        record {
          tree = rest.tree;
          left = rest.left;
          held = rest.held;
          tree_is = rest.tree_is;
          input_is = rest.input_is;
          console_is = rest.console_is;
          played = has_read (on_read s.port x place count (Ok bytes) d) rest.played;
        }
    told-lines {t = t} {s = s} {s' = s'} {r = r} tree left held a b e
        (read_stopped {place = place} {count = count} {x = x} {why = why} d h same) =
        stays t (at (line s.port) tree left held s.kept) r (at x s.folder s.input s.console s.kept) s' same (record {
          tree = tree;
          left = left;
          held = held;
          tree_is = a;
          input_is = b;
          console_is = e;
          played = read_stopped (on_read s.port x place count (Err why) d) h refl;
        })
    told-lines {s = s} tree left held a b e (has_written {place = place} {bytes = bytes} {x = x} d next) =
        let rest = told-lines tree left held a b e next in
        record {
          tree = rest.tree;
          left = rest.left;
          held = rest.held;
          tree_is = rest.tree_is;
          input_is = rest.input_is;
          console_is = rest.console_is;
          played = has_written (on_write s.port x place bytes (Ok tt) d) rest.played;
        }
    told-lines {t = t} {s = s} {s' = s'} {r = r} tree left held a b e
        (write_stopped {place = place} {bytes = bytes} {x = x} {why = why} d h same) =
        stays t (at (line s.port) tree left held s.kept) r (at x s.folder s.input s.console s.kept) s' same (record {
          tree = tree;
          left = left;
          held = held;
          tree_is = a;
          input_is = b;
          console_is = e;
          played = write_stopped (on_write s.port x place bytes (Err why) d) h refl;
        })
    told-lines {s = s} tree left held a b e (has_taken {count = count} {i = x} {bytes = bytes} d next) =
        let one = takes-told i s.input x left count (Ok bytes) b d in
        let rest = told-lines tree one.0 held a one.1 e next in
        record {
          tree = rest.tree;
          left = rest.left;
          held = rest.held;
          tree_is = rest.tree_is;
          input_is = rest.input_is;
          console_is = rest.console_is;
          played = has_taken one.2 rest.played;
        }
    told-lines {t = t} {s = s} {s' = s'} {r = r} tree left held a b e
        (take_stopped {count = count} {i = x} {why = why} d h same) =
        let one = takes-told i s.input x left count (Err why) b d in
        stays t (at (line s.port) tree left held s.kept) r (at s.port s.folder x s.console s.kept) s' same (record {
          tree = tree;
          left = one.0;
          held = held;
          tree_is = a;
          input_is = one.1;
          console_is = e;
          played = take_stopped one.2 h refl;
        })
    told-lines {s = s} tree left held a b e (has_put {bytes = bytes} {c = x} d next) =
        let one = puts-told c s.console x held bytes (Ok tt) e d in
        let rest = told-lines tree left one.0 a b one.1 next in
        record {
          tree = rest.tree;
          left = rest.left;
          held = rest.held;
          tree_is = rest.tree_is;
          input_is = rest.input_is;
          console_is = rest.console_is;
          played = has_put one.2 rest.played;
        }
    told-lines {t = t} {s = s} {s' = s'} {r = r} tree left held a b e
        (put_stopped {bytes = bytes} {c = x} {why = why} d h same) =
        let one = puts-told c s.console x held bytes (Err why) e d in
        stays t (at (line s.port) tree left held s.kept) r (at s.port s.folder s.input x s.kept) s' same (record {
          tree = tree;
          left = left;
          held = one.0;
          tree_is = a;
          input_is = b;
          console_is = one.1;
          played = put_stopped one.2 h refl;
        })
    told-lines {s = s} tree left held a b e (has_asked {q = q} {f = x} {reply = reply} d next) =
        let one = asks-told f q s.folder x tree (Ok reply) a d in
        let rest = told-lines one.0 left held one.1 b e next in
        record {
          tree = rest.tree;
          left = rest.left;
          held = rest.held;
          tree_is = rest.tree_is;
          input_is = rest.input_is;
          console_is = rest.console_is;
          played = has_asked one.2 rest.played;
        }
    told-lines {t = t} {s = s} {s' = s'} {r = r} tree left held a b e
        (ask_stopped {q = q} {f = x} {why = why} d h same) =
        let one = asks-told f q s.folder x tree (Err why) a d in
        stays t (at (line s.port) tree left held s.kept) r (at s.port x s.input s.console s.kept) s' same (record {
          tree = one.0;
          left = left;
          held = held;
          tree_is = one.1;
          input_is = b;
          console_is = e;
          played = ask_stopped one.2 h refl;
        })
    told-lines {s = s} tree left held a b e (noted n next) =
        let rest = told-lines tree left held a b e next in
        record {
          tree = rest.tree;
          left = rest.left;
          held = rest.held;
          tree_is = rest.tree_is;
          input_is = rest.input_is;
          console_is = rest.console_is;
          played = noted n rest.played;
        }
    told-lines {s = s} tree left held a b e (looked next) =
        let rest = told-lines tree left held a b e next in
        record {
          tree = rest.tree;
          left = rest.left;
          held = rest.held;
          tree_is = rest.tree_is;
          input_is = rest.input_is;
          console_is = rest.console_is;
          played = looked rest.played;
        }

  -- a place of memory alone, beside what is told of all else
  abbrev told-at : {H : Type 0} → Tree → List ℕ → List ℕ → At P Unit Unit Unit H → At Lined Tree (List ℕ) (List ℕ) H
  told-at tree left held m = at (line m.port) tree left held m.kept

  -- a text that works on memory alone is followed over a line, whatever is told of all else
  pub alone-lines : {H A E : Type 0} {t : Text H A E} {s s' : At P Unit Unit Unit H} {r : Result A E} (tree : Tree)
      (left held : List ℕ) → Played (memory_alone p) t s r s'
      → Played line_acts t (at (line s.port) tree left held s.kept) r (at (line s'.port) tree left held s'.kept)
  alone-lines tree left held (ended h same) = ended h (ap (told-at tree left held) same)
  alone-lines tree left held (failed h same) = failed h (ap (told-at tree left held) same)
  alone-lines {s = s} tree left held (has_read {place = place} {count = count} {x = x} {bytes = bytes} d next) =
      has_read (on_read s.port x place count (Ok bytes) d) (alone-lines tree left held next)
  alone-lines {s = s} tree left held (read_stopped {place = place} {count = count} {x = x} {why = why} d h same) =
      read_stopped (on_read s.port x place count (Err why) d) h (ap (told-at tree left held) same)
  alone-lines {s = s} tree left held (has_written {place = place} {bytes = bytes} {x = x} d next) =
      has_written (on_write s.port x place bytes (Ok tt) d) (alone-lines tree left held next)
  alone-lines {s = s} tree left held (write_stopped {place = place} {bytes = bytes} {x = x} {why = why} d h same) =
      write_stopped (on_write s.port x place bytes (Err why) d) h (ap (told-at tree left held) same)
  alone-lines tree left held (has_taken d next) = absurd d
  alone-lines tree left held (take_stopped d h same) = absurd d
  alone-lines tree left held (has_put d next) = absurd d
  alone-lines tree left held (put_stopped d h same) = absurd d
  alone-lines tree left held (has_asked d next) = absurd d
  alone-lines tree left held (ask_stopped d h same) = absurd d
  alone-lines tree left held (noted n next) = noted n (alone-lines tree left held next)
  alone-lines tree left held (looked next) = looked (alone-lines tree left held next)

-- ---- a port over a line
-- no turn is left where the count of those left is 0, and no more were made than may be
pub at-limit : (line : Lined) (left : ℕ) → left ≡ line.target.limit - line.target.turns
    → line.target.turns ≤ line.target.limit → left ≡ 0 → AtLimit line
at-limit line left is within none = omega (arith, is, within, none)

-- what ranges of a port are to its line
pub record IsOverLine {P : Type 0} (p : port.Ghosts P) (line : P → Lined) : Type 0 where
  pub left_is : (x : P) → (p.counts x).left ≡ (line x).target.limit - (line x).target.turns
  pub within : (x : P) → p.usable x → (line x).target.turns ≤ (line x).target.limit
  pub reads : (x x' : P) (at count : ℕ) (r : Result (List ℕ) MemStop) → HasRead p x x' at count r
      → ReadsRange (DirectOne next_line) (DirectRefused next_line lost_line) 8 1024 at count r (line x) (line x')
  pub writes : (x x' : P) (at : ℕ) (bytes : List ℕ) (r : Result Unit MemStop) → HasWritten p x x' at bytes r
      → WritesRange (DirectOne next_line) (DirectRefused next_line lost_line) 8 1024 at bytes r (line x) (line x')

module _ {P : Type 0} (p : port.Ghosts P) (line : P → Lined) (is : IsOverLine p line) where
  keeps-limit : (T : Type 0) (x x' : P) (at count : ℕ) (r : Result T MemStop) → p.usable x'
      → Maps at count (result_err r) → (result_err r ≡ Some Spent → (p.counts x').left ≡ 0)
      → KeepsLimit at count (line x) (line x') r
  keeps-limit T x x' at count r usable maps spent =
      let within = is.within x' usable in
      record {
        maps = maps;
        spent = λ none. at-limit (line x') (p.counts x').left (is.left_is x') within
            (spent (ap (λ (z : Result T MemStop). result_err z) none));
        within = λ less. within;
      }

  -- a range that is read over the port is read over the line
  line-read : (x x' : P) (at count : ℕ) (r : Result (List ℕ) MemStop) → HasRead p x x' at count r
      → LineRead (line x) at count r (line x')
  line-read x x' at count r d =
      record {
        made = is.reads x x' at count r d;
        keeps = keeps-limit (List ℕ) x x' at count r d.usable d.maps d.causes.spent;
      }

  -- a range of bytes that is written over the port is written over the line
  line-written : (x x' : P) (at : ℕ) (bytes : List ℕ) (r : Result Unit MemStop) → HasWritten p x x' at bytes r
      → LineWritten (line x) at bytes r (line x')
  line-written x x' at bytes r d =
      record {
        made = is.writes x x' at bytes r d;
        keeps = keeps-limit Unit x x' at (length bytes) r d.usable d.maps d.causes.spent;
        are_bytes = d.are_bytes;
      }

  -- a text that was followed over the port is followed over the line
  pub real-lines : {F I C H A E : Type 0} (f : folder.Ghosts F) (i : source.Ghosts I) (c : sink.Ghosts C)
      (t : Text H A E) (s now : At P F I C H) (r : Result A E) → Played (acts p f i c) t s r now
      → IfAllTold f i c t (at (line s.port) s.folder s.input s.console s.kept) r
      (at (line now.port) now.folder now.input now.console now.kept)
  real-lines f i c t s now r played tree left held a b e =
      told-lines p line line-read line-written f i c tree left held a b e played

  pub real-alone : {H A E : Type 0} (t : Text H A E) (s now : At P Unit Unit Unit H) (r : Result A E)
      → Played (memory_alone p) t s r now → (tree : Tree) (left held : List ℕ)
      → Played line_acts t (at (line s.port) tree left held s.kept) r (at (line now.port) tree left held now.kept)
  real-alone t s now r played tree left held = alone-lines p line line-read line-written tree left held played

-- the same, where the text was followed first
pub real-over : {P F I C H A E : Type 0} {p : port.Ghosts P} {f : folder.Ghosts F} {i : source.Ghosts I}
    {c : sink.Ghosts C} {t : Text H A E} {s now : At P F I C H} {r : Result A E} (line : P → Lined)
    → Played (acts p f i c) t s r now → IsOverLine p line
    → IfAllTold f i c t (at (line s.port) s.folder s.input s.console s.kept) r
    (at (line now.port) now.folder now.input now.console now.kept)
real-over {p = p} {f = f} {i = i} {c = c} {t = t} {s = s} {now = now} {r = r} line played is =
    real-lines p line is f i c t s now r played

pub alone-over : {P H A E : Type 0} {p : port.Ghosts P} {t : Text H A E} {s now : At P Unit Unit Unit H}
    {r : Result A E} (line : P → Lined) → Played (memory_alone p) t s r now → IsOverLine p line → (tree : Tree)
    (left held : List ℕ)
    → Played line_acts t (at (line s.port) tree left held s.kept) r (at (line now.port) tree left held now.kept)
alone-over {p = p} {t = t} {s = s} {now = now} {r = r} line played is tree left held =
    real-alone p line is t s now r played tree left held

-- ---- the same port under other names
pub acts-moved : {P F I C H A E : Type 0} {p : port.Ghosts P} {f : folder.Ghosts F} {i : source.Ghosts I}
    {c : sink.Ghosts C} {t : Text H A E} {r : Result A E} {x x' y y' : P} {u u' : F} {v v' : I} {w w' : C} {k k' : H}
    → x ≡ y → x' ≡ y' → Played (acts p f i c) t (at x u v w k) r (at x' u' v' w' k')
    → Played (acts p f i c) t (at y u v w k) r (at y' u' v' w' k')
acts-moved {P = P} {p = p} {f = f} {i = i} {c = c} {t = t} {r = r} {x' = x'} {y = y} {u = u} {u' = u'} {v = v} {v' = v'}
    {w = w} {w' = w'} {k = k} {k' = k'} first last played =
    subst (λ (z : P). Played (acts p f i c) t (at y u v w k) r (at z u' v' w' k')) last
    (subst (λ (z : P). Played (acts p f i c) t (at z u v w k) r (at x' u' v' w' k')) first played)

pub alone-moved : {P H A E : Type 0} {p : port.Ghosts P} {t : Text H A E} {r : Result A E} {x x' y y' : P} {k k' : H}
    → x ≡ y → x' ≡ y' → Played (memory_alone p) t (at_memory x k) r (at_memory x' k')
    → Played (memory_alone p) t (at_memory y k) r (at_memory y' k')
alone-moved {P = P} {p = p} {t = t} {r = r} {x' = x'} {y = y} {k = k} {k' = k'} first last played =
    subst (λ (z : P). Played (memory_alone p) t (at_memory y k) r (at_memory z k')) last
    (subst (λ (z : P). Played (memory_alone p) t (at_memory z k) r (at_memory x' k')) first played)

-- ---- the same line under other names
pub same-line : {target other : TargetState} {trace bytes : Option (List ℕ)} → target ≡ other → trace ≡ bytes
    → lined target trace ≡ lined other bytes
same-line {other = other} {trace = trace} target_is trace_is =
    ap (λ (t : TargetState). lined t trace) target_is ∙ ap (λ (b : Option (List ℕ)). lined other b) trace_is

pub all-moved : {F I C H A E : Type 0} {f : folder.Ghosts F} {i : source.Ghosts I} {c : sink.Ghosts C} {t : Text H A E}
    {s : At Lined F I C H} {r : Result A E} {line other : Lined} {x : F} {y : I} {z : C} {k : H} → line ≡ other
    → IfAllTold f i c t s r (at line x y z k) → IfAllTold f i c t s r (at other x y z k)
all-moved {f = f} {i = i} {c = c} {t = t} {s = s} {r = r} {x = x} {y = y} {z = z} {k = k} is all =
    subst (λ (l : Lined). IfAllTold f i c t s r (at l x y z k)) is all

pub line-moved : {H A E : Type 0} {t : Text H A E} {r : Result A E} {s : At Lined Tree (List ℕ) (List ℕ) H}
    {line other : Lined} {tree : Tree} {left held : List ℕ} {k : H} → line ≡ other
    → Played line_acts t s r (at line tree left held k) → Played line_acts t s r (at other tree left held k)
line-moved {t = t} {r = r} {s = s} {tree = tree} {left = left} {held = held} {k = k} is played =
    subst (λ (l : Lined). Played line_acts t s r (at l tree left held k)) is played

-- ---- what no call changes
port-kept : {P F I C H : Type 0} (p : port.Ghosts P) (s s' : At P F I C H) → s' ≡ s → p.kept s'.port ≡ p.kept s.port
port-kept {P = P} {F = F} {I = I} {C = C} {H = H} p s s' same = ap (λ (m : At P F I C H). p.kept m.port) same

pub acts-kept : {P F I C H A E : Type 0} {p : port.Ghosts P} {f : folder.Ghosts F} {i : source.Ghosts I}
    {c : sink.Ghosts C} {t : Text H A E} {s s' : At P F I C H} {r : Result A E} → Played (acts p f i c) t s r s'
    → p.kept s'.port ≡ p.kept s.port
acts-kept {p = p} {s = s} {s' = s'} (ended h same) = port-kept p s s' same
acts-kept {p = p} {s = s} {s' = s'} (failed h same) = port-kept p s s' same
acts-kept (has_read d next) = acts-kept next ∙ d.kept
acts-kept {p = p} {s = s} {s' = s'} (read_stopped {x = x} d h same) =
    port-kept p (record s { port = x }) s' same ∙ d.kept
acts-kept (has_written d next) = acts-kept next ∙ d.kept
acts-kept {p = p} {s = s} {s' = s'} (write_stopped {x = x} d h same) =
    port-kept p (record s { port = x }) s' same ∙ d.kept
acts-kept (has_taken d next) = acts-kept next
acts-kept {p = p} {s = s} {s' = s'} (take_stopped {i = x} d h same) = port-kept p (record s { input = x }) s' same
acts-kept (has_put d next) = acts-kept next
acts-kept {p = p} {s = s} {s' = s'} (put_stopped {c = x} d h same) = port-kept p (record s { console = x }) s' same
acts-kept (has_asked d next) = acts-kept next
acts-kept {p = p} {s = s} {s' = s'} (ask_stopped {f = x} d h same) = port-kept p (record s { folder = x }) s' same
acts-kept (noted n next) = acts-kept next
acts-kept (looked next) = acts-kept next

pub alone-kept : {P H A E : Type 0} {p : port.Ghosts P} {t : Text H A E} {s s' : At P Unit Unit Unit H}
    {r : Result A E} → Played (memory_alone p) t s r s' → p.kept s'.port ≡ p.kept s.port
alone-kept {p = p} {s = s} {s' = s'} (ended h same) = port-kept p s s' same
alone-kept {p = p} {s = s} {s' = s'} (failed h same) = port-kept p s s' same
alone-kept (has_read d next) = alone-kept next ∙ d.kept
alone-kept {p = p} {s = s} {s' = s'} (read_stopped {x = x} d h same) =
    port-kept p (record s { port = x }) s' same ∙ d.kept
alone-kept (has_written d next) = alone-kept next ∙ d.kept
alone-kept {p = p} {s = s} {s' = s'} (write_stopped {x = x} d h same) =
    port-kept p (record s { port = x }) s' same ∙ d.kept
alone-kept (has_taken d next) = absurd d
alone-kept (take_stopped d h same) = absurd d
alone-kept (has_put d next) = absurd d
alone-kept (put_stopped d h same) = absurd d
alone-kept (has_asked d next) = absurd d
alone-kept (ask_stopped d h same) = absurd d
alone-kept (noted n next) = alone-kept next
alone-kept (looked next) = alone-kept next
