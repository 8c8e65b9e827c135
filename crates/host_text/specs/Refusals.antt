-- What a call's text comes to that is refused over objects that tell a place: it had not acted, and then all is as
-- before, but for one open more of a file that it was to change next; or it had, and then the world is that of its run.
use Rattle.std.specs.Prelude.{◌≡◌, ◌⊎◌, ◌≤◌, ℕ, Bool, true, false, List, ◌++◌, take, drop, length, Option, Some, None}
use Rattle.std.specs.Prelude.{Result}
use Rattle.std.specs.Prelude.{Ok, Err, refl}
use Rattle.std.proofs.Common.{sym, subst, ap, ◌∙◌, inl, inr}
use Rattle.chunk_memory.specs.declared.stops.MemStop.{MemStop}
use Rattle.fe_base.specs.declared.outside.Failed.{Failed}
use Rattle.folder_tree.specs.Paths.{Parts}
use Rattle.folder_tree.specs.Tree.{Tree}
use Rattle.folder_tree.specs.TreeOps.{After}
use Rattle.folder_tree.specs.declared.folder.FolderStop.{FolderStop}
use Rattle.host_text.specs.Text.{Query, Reply, row_of, Text, Done, Fail, Read, Write, Take, Put, Ask, Note, Look}
use Rattle.host_text.specs.Played.{Acts, At, Played, ended, failed, has_read, read_stopped, has_written, write_stopped}
use Rattle.host_text.specs.Played.{has_taken, take_stopped, has_put, put_stopped, has_asked, ask_stopped, noted, looked}
use Rattle.host_text.specs.World.{Contents}
use Rattle.host_text.specs.Openings.{opens_at, by_path, ActsNext, OpensLast, AsBefore, OneOpenMore, quiet-stays}
use Rattle.host_text.specs.Openings.{opens-more}
use Rattle.host_text.specs.Runs.{Place, Bytes, End, on_row, run, Ties, ReplyFits, Within}
use Rattle.host_text.specs.Shapes.{Stops, is_quiet, either, EndsBy, Ends, Closes, Shaped}

-- where the objects are left: the port so by this memory, and the rest tells this world and keeps this
pub record LeftAt {X F I C M H : Type 0} (left : X → M → Type 0) (tree : F → Tree → Type 0)
    (input : I → List ℕ → Type 0)
    (console : C → List ℕ → Type 0) (s' : At X F I C H) (t : M) (w : Contents) (k : H) : Type 0 where
  pub port : left s'.port t
  pub tree_is : tree s'.folder w.tree
  pub input_is : input s'.input w.input
  pub console_is : console s'.console w.console
  pub kept_is : s'.kept ≡ k

-- a refused text had not acted: all is as it was, but for an open of a file that it was to change next
pub record Unacted {X F I C M H : Type 0} (left : X → M → Type 0) (tree : F → Tree → Type 0)
    (input : I → List ℕ → Type 0)
    (console : C → List ℕ → Type 0) (may : Parts → Type 0) (s' : At X F I C H) (p : Place M H) : Type 0 where
  pub now : Tree
  pub as_before : AsBefore may p.contents.tree now
  pub stands : LeftAt left tree input console s' p.memory (record p.contents { tree = now }) p.kept

-- it had acted, and the port refused a write of the guest: all else is as behind its run
pub record Late {X F I C M H A E : Type 0} (left : X → M → Type 0) (tree : F → Tree → Type 0)
    (input : I → List ℕ → Type 0) (console : C → List ℕ → Type 0) (m : Bytes M) (z : Stops E) (answers : A → Type 0)
    (t : Text H A E) (p : Place M H) (s' : At X F I C H) (fault : E) : Type 0 where
  pub last : End M H A
  pub runs : run m t p ≡ Some last
  pub memory_was : M
  pub stands : LeftAt left tree input console s' memory_was last.place.contents last.place.kept
  pub good : answers last.answer
  pub why : MemStop
  pub fault_is : fault ≡ z.port why

module _ {X F I C M H A E : Type 0} (o : Acts X F I C) (m : Bytes M) (fits : ℕ → ℕ → Type 0) (memory : X → M → Type 0)
    (tree : F → Tree → Type 0) (input : I → List ℕ → Type 0) (console : C → List ℕ → Type 0)
    (on_read : (x x' : X) (t : M) (at count : ℕ) (bytes : List ℕ) → fits at count → memory x t
    → o.read x at count (Ok bytes) x' → memory x' t × (bytes ≡ m.get t at count) × (length bytes ≡ count))
    (on_write : (x x' : X) (t : M) (at : ℕ) (bytes : List ℕ) → fits at (length bytes) → memory x t
    → o.write x at bytes (Ok tt) x' → memory x' (m.set t at bytes))
    (on_ask : (f f' : F) (t : Tree) (q : Query) (reply : Reply q) → tree f t → o.ask q f (Ok reply) f' → (now : Tree)
    × (row_of q t ≡ Some (record { answer = reply; tree = now })) × tree f' now × ReplyFits q reply)
    (on_take : (i i' : I) (left : List ℕ) (count : ℕ) (bytes : List ℕ) → input i left → o.take i count (Ok bytes) i'
    → (bytes ≡ take count left) × input i' (drop count left) × (length bytes ≤ count))
    (on_put : (c c' : C) (held : List ℕ) (bytes : List ℕ) → console c held → o.put c bytes (Ok tt) c'
    → console c' (held ++ bytes))
    (z : Stops E) (marks : (H → H) → Type 0) (answers : A → Type 0) (left : X → M → Type 0) (may : Parts → Type 0)
    (held : (x : X) (t : M) → memory x t → left x t)
    (off_read : (x x' : X) (t : M) (at count : ℕ) (why : MemStop) → fits at count → memory x t
    → o.read x at count (Err why) x' → left x' t)
    (off_write : (x x' : X) (t : M) (at : ℕ) (bytes : List ℕ) (why : MemStop) → fits at (length bytes) → memory x t
    → o.write x at bytes (Err why) x' → left x' t)
    (off_ask : (f f' : F) (t : Tree) (q : Query) (why : FolderStop) → tree f t → o.ask q f (Err why) f' → tree f' t)
    (off_take : (i i' : I) (was : List ℕ) (count : ℕ) (why : Failed) → input i was → o.take i count (Err why) i'
    → input i' was)
    (off_put : (c c' : C) (was : List ℕ) (bytes : List ℕ) (why : Failed) → console c was → o.put c bytes (Err why) c'
    → console c' was) where
  abbrev pub StandsSo : At X F I C H → M → Contents → H → Type 0
  StandsSo s' t w k = LeftAt left tree input console s' t w k

  abbrev pub Spared : At X F I C H → Place M H → Type 0
  Spared s' p = Unacted left tree input console may s' p

  abbrev pub Acted : Text H A E → Place M H → At X F I C H → E → Type 0
  Acted t p s' fault = Late left tree input console m z answers t p s' fault

  -- the same end of a text that runs to it
  late-from : {t u : Text H A E} {p w : Place M H} {s' : At X F I C H} {fault : E} → run m u w ≡ run m t p
      → Acted t p s' fault → Acted u w s' fault
  late-from same l = record {
    last = l.last;
    runs = same ∙ l.runs;
    memory_was = l.memory_was;
    stands = l.stands;
    good = l.good;
    why = l.why;
    fault_is = l.fault_is;
  }

  -- while only the guest is written, the run has an end, which leaves the world
  ends-total : (t : Text H A E) (p : Place M H) → Ends z marks answers t → EndsBy answers t → (e : End M H A)
      × (run m t p ≡ Some e) × (e.place.contents ≡ p.contents) × (e.place.kept ≡ p.kept) × answers e.answer
  ends-total (Done a) p shape by = (record { answer = a; place = p }, refl, refl, refl, by)
  ends-total (Write at bytes stop k) p shape by =
      ends-total k (record p { memory = m.set p.memory at bytes }) shape.1 by
  ends-total (Fail e) p shape by = absurd shape
  ends-total (Read at count stop k) p shape by = absurd shape
  ends-total (Take count stop k) p shape by = absurd shape
  ends-total (Put bytes stop k) p shape by = absurd shape
  ends-total (Ask q stop k) p shape by = absurd shape
  ends-total (Note g k) p shape by = absurd shape
  ends-total (Look k) p shape by = absurd shape

  ends-late : {t : Text H A E} {s s' : At X F I C H} {r : Result A E} (e : E) (p : Place M H) → r ≡ Err e
      → Ends z marks answers t → Within fits t → Ties memory tree input console s p → Played o t s r s' → Acted t p s' e
  ends-late e p h shape inside ties (ended q same) = let no : ⊥ = cc in absurd no
  ends-late e p h shape inside ties (has_written {place = at} {bytes = bytes} {k = k} {s = s} {x = x} d next) =
      let there = record p { memory = m.set p.memory at bytes } in
      let ties2 : Ties memory tree input console (record s { port = x }) there = record {
        memory_is = on_write s.port x p.memory at bytes inside.0 ties.memory_is d;
        tree_is = ties.tree_is;
        input_is = ties.input_is;
        console_is = ties.console_is;
        kept_is = ties.kept_is;
      } in
      late-from refl (ends-late {t = k} e there h shape.1 inside.1 ties2 next)
  ends-late e p h shape inside ties
      (write_stopped {place = at} {bytes = bytes} {stop = stop} {k = k} {s = s} {x = x} {why = why} d q same) =
      let all = ends-total k (record p { memory = m.set p.memory at bytes }) shape.1 shape.2 in
      let here : e ≡ stop why = cc in
      let P : At X F I C H → Type 0 = λ m'. StandsSo m' p.memory all.0.place.contents all.0.place.kept in
      let T : Contents → Type 0 = λ w. tree s.folder w.tree in
      let N : Contents → Type 0 = λ w. input s.input w.input in
      let Q : Contents → Type 0 = λ w. console s.console w.console in
      record {
        last = all.0;
        runs = all.1;
        memory_was = p.memory;
        stands = subst P (sym same) (record {
          port = off_write s.port x p.memory at bytes why inside.0 ties.memory_is d;
          tree_is = subst T (sym all.2) ties.tree_is;
          input_is = subst N (sym all.2) ties.input_is;
          console_is = subst Q (sym all.2) ties.console_is;
          kept_is = ties.kept_is ∙ sym all.3;
        });
        good = all.4;
        why = why;
        fault_is = here ∙ ap (λ f. f why) shape.0;
      }
  ends-late e p h shape inside ties (failed _ _) = absurd shape
  ends-late e p h shape inside ties (has_read _ _) = absurd shape
  ends-late e p h shape inside ties (read_stopped _ _ _) = absurd shape
  ends-late e p h shape inside ties (has_taken _ _) = absurd shape
  ends-late e p h shape inside ties (take_stopped _ _ _) = absurd shape
  ends-late e p h shape inside ties (has_put _ _) = absurd shape
  ends-late e p h shape inside ties (put_stopped _ _ _) = absurd shape
  ends-late e p h shape inside ties (has_asked _ _) = absurd shape
  ends-late e p h shape inside ties (ask_stopped _ _ _) = absurd shape
  ends-late e p h shape inside ties (noted _ _) = absurd shape
  ends-late e p h shape inside ties (looked _) = absurd shape

  closes-late : {t : Text H A E} {s s' : At X F I C H} {r : Result A E} (e : E) (p : Place M H) → r ≡ Err e
      → Closes z marks answers t → Within fits t → Ties memory tree input console s p → Played o t s r s'
      → Acted t p s' e
  closes-late e p h shape inside ties (noted {g = g} {k = k} {s = s} {h = now} n next) =
      let there = record p { kept = g p.kept } in
      let ties2 : Ties memory tree input console (record s { kept = now }) there = record {
        memory_is = ties.memory_is;
        tree_is = ties.tree_is;
        input_is = ties.input_is;
        console_is = ties.console_is;
        kept_is = n ∙ ap g ties.kept_is;
      } in
      late-from refl (ends-late {t = k} e there h shape.1 inside ties2 next)
  closes-late e p h shape inside ties (ended _ _) = absurd shape
  closes-late e p h shape inside ties (failed _ _) = absurd shape
  closes-late e p h shape inside ties (has_read _ _) = absurd shape
  closes-late e p h shape inside ties (read_stopped _ _ _) = absurd shape
  closes-late e p h shape inside ties (has_written _ _) = absurd shape
  closes-late e p h shape inside ties (write_stopped _ _ _) = absurd shape
  closes-late e p h shape inside ties (has_taken _ _) = absurd shape
  closes-late e p h shape inside ties (take_stopped _ _ _) = absurd shape
  closes-late e p h shape inside ties (has_put _ _) = absurd shape
  closes-late e p h shape inside ties (put_stopped _ _ _) = absurd shape
  closes-late e p h shape inside ties (has_asked _ _) = absurd shape
  closes-late e p h shape inside ties (ask_stopped _ _ _) = absurd shape
  closes-late e p h shape inside ties (looked _) = absurd shape

  unmoved : (s s' : At X F I C H) (p : Place M H) → s' ≡ s → StandsSo s p.memory p.contents p.kept → Spared s' p
  unmoved s s' p same l =
      let P : At X F I C H → Type 0 = λ z. StandsSo z p.memory p.contents p.kept in
      record { now = p.contents.tree; as_before = inl refl; stands = subst P (sym same) l }

  -- a text that acts next is refused where that may be, or it had acted
  acts-refused : {t : Text H A E} {s s' : At X F I C H} {r : Result A E} (such : Type 0) (e : E) (p : Place M H) → r
      ≡ Err e
      → ActsNext such t → Shaped z marks answers t → Within fits t → Ties memory tree input console s p
      → Played o t s r s'
      → (such × StandsSo s' p.memory p.contents p.kept) ⊎ Acted t p s' e
  acts-refused such e p h next shape inside ties (noted n more) =
      inr (closes-late e p h shape inside ties (noted n more))
  acts-refused such e p h next shape inside ties (has_asked {q = q} {k = k} {s = s} {f = f} {reply = reply} d more) =
      let got = on_ask s.folder f p.contents.tree q reply ties.tree_is d in
      let there = record p { contents = record p.contents { tree = got.0 } } in
      let ties2 : Ties memory tree input console (record s { folder = f }) there = record {
        memory_is = ties.memory_is;
        tree_is = got.2;
        input_is = ties.input_is;
        console_is = ties.console_is;
        kept_is = ties.kept_is;
      } in
      let closes : (r : Reply q) → Closes z marks answers (k r) =
      let B : Bool → Type 0 = λ b. either b ((r : Reply q) → Shaped z marks answers (k r))
      ((r : Reply q) → Closes z marks answers (k r)) in
      subst B next.1 shape.1 in
      inr (late-from (ap (λ row. on_row row
      (λ reply tree. run m (k reply) (record p { contents = record p.contents { tree = tree } }))) got.1)
      (closes-late {t = k reply} e there h (closes reply) (inside reply got.3) ties2 more))
  acts-refused such e p h next shape inside ties (ask_stopped {q = q} {s = s} {s' = s'} {f = f} {why = why} d w same) =
      let P : At X F I C H → Type 0 = λ z. StandsSo z p.memory p.contents p.kept in
      inl (
        next.0,
        subst P (sym same) (record {
          port = held s.port p.memory ties.memory_is;
          tree_is = off_ask s.folder f p.contents.tree q why ties.tree_is d;
          input_is = ties.input_is;
          console_is = ties.console_is;
          kept_is = ties.kept_is;
        }),
      )
  acts-refused such e p h next shape inside ties (ended _ _) = absurd next
  acts-refused such e p h next shape inside ties (failed _ _) = absurd next
  acts-refused such e p h next shape inside ties (has_read _ _) = absurd next
  acts-refused such e p h next shape inside ties (read_stopped _ _ _) = absurd next
  acts-refused such e p h next shape inside ties (has_written _ _) = absurd next
  acts-refused such e p h next shape inside ties (write_stopped _ _ _) = absurd next
  acts-refused such e p h next shape inside ties (has_taken _ _) = absurd next
  acts-refused such e p h next shape inside ties (take_stopped _ _ _) = absurd next
  acts-refused such e p h next shape inside ties (has_put _ _) = absurd next
  acts-refused such e p h next shape inside ties (put_stopped _ _ _) = absurd next
  acts-refused such e p h next shape inside ties (looked _) = absurd next

  -- a refused text of the shape, which opens a file directly before it acts
  pub refused : {t : Text H A E} {s s' : At X F I C H} {r : Result A E} (e : E) (p : Place M H) → r ≡ Err e
      → Shaped z marks answers t → OpensLast may t → Within fits t → Ties memory tree input console s p
      → Played o t s r s' → Spared s' p ⊎ Acted t p s' e
  refused e p h shape last inside ties
      (has_read {place = at} {count = count} {k = k} {s = s} {x = x} {bytes = bytes} d next) =
      let got = on_read s.port x p.memory at count bytes inside.0 ties.memory_is d in
      let ties2 : Ties memory tree input console (record s { port = x }) p = record {
        memory_is = got.0;
        tree_is = ties.tree_is;
        input_is = ties.input_is;
        console_is = ties.console_is;
        kept_is = ties.kept_is;
      } in
      elim (refused {t = k bytes} e p h (shape.1 bytes) (last bytes got.2) (inside.1 bytes got.2) ties2 next) [
        | inl b ↦ inl b
        | inr l ↦ inr (late-from (ap (λ b. run m (k b) p) (sym got.1)) l)
      ]
  refused e p h shape last inside ties
      (read_stopped {place = at} {count = count} {s = s} {s' = s'} {x = x} {why = why} d q same) =
      inl (unmoved _ s' p same (record {
        port = off_read s.port x p.memory at count why inside.0 ties.memory_is d;
        tree_is = ties.tree_is;
        input_is = ties.input_is;
        console_is = ties.console_is;
        kept_is = ties.kept_is;
      }))
  refused e p h shape last inside ties (has_taken {count = count} {k = k} {s = s} {i = i} {bytes = bytes} d next) =
      let got = on_take s.input i p.contents.input count bytes ties.input_is d in
      let there = record p { contents = record p.contents { input = drop count p.contents.input } } in
      let ties2 : Ties memory tree input console (record s { input = i }) there = record {
        memory_is = ties.memory_is;
        tree_is = ties.tree_is;
        input_is = got.1;
        console_is = ties.console_is;
        kept_is = ties.kept_is;
      } in
      inr (late-from (ap (λ b. run m (k b) there) (sym got.0))
      (closes-late {t = k bytes} e there h (shape.1 bytes) (inside bytes got.2) ties2 next))
  refused e p h shape last inside ties (take_stopped {count = count} {s = s} {s' = s'} {i = i} {why = why} d q same) =
      inl (unmoved _ s' p same (record {
        port = held s.port p.memory ties.memory_is;
        tree_is = ties.tree_is;
        input_is = off_take s.input i p.contents.input count why ties.input_is d;
        console_is = ties.console_is;
        kept_is = ties.kept_is;
      }))
  refused e p h shape last inside ties (has_put {bytes = bytes} {k = k} {s = s} {c = c} d next) =
      let there = record p { contents = record p.contents { console = p.contents.console ++ bytes } } in
      let ties2 : Ties memory tree input console (record s { console = c }) there = record {
        memory_is = ties.memory_is;
        tree_is = ties.tree_is;
        input_is = ties.input_is;
        console_is = on_put s.console c p.contents.console bytes ties.console_is d;
        kept_is = ties.kept_is;
      } in
      inr (late-from refl (closes-late {t = k} e there h shape.1 inside ties2 next))
  refused e p h shape last inside ties (put_stopped {bytes = bytes} {s = s} {s' = s'} {c = c} {why = why} d q same) =
      inl (unmoved _ s' p same (record {
        port = held s.port p.memory ties.memory_is;
        tree_is = ties.tree_is;
        input_is = ties.input_is;
        console_is = off_put s.console c p.contents.console bytes why ties.console_is d;
        kept_is = ties.kept_is;
      }))
  refused e p h shape last inside ties
      (has_asked {q = q} {stop = stop} {k = k} {s = s} {s' = s'} {f = f} {reply = reply} d next) =
      let got = on_ask s.folder f p.contents.tree q reply ties.tree_is d in
      let there = record p { contents = record p.contents { tree = got.0 } } in
      let ties2 : Ties memory tree input console (record s { folder = f }) there = record {
        memory_is = ties.memory_is;
        tree_is = got.2;
        input_is = ties.input_is;
        console_is = ties.console_is;
        kept_is = ties.kept_is;
      } in
      let same : run m (Ask q stop k) p ≡ run m (k reply) there =
      ap (λ row. on_row row (λ reply tree. run m (k reply)
      (record p { contents = record p.contents { tree = tree } }))) got.1 in
      elim (is_quiet q) as (λ b. is_quiet q ≡ b
      → either b ((r : Reply q) → Shaped z marks answers (k r)) ((r : Reply q) → Closes z marks answers (k r))
      → Spared s' p ⊎ Acted (Ask q stop k) p s' e) [
        | true ↦ λ silent more.
            elim (opens_at q) as (λ o. opens_at q ≡ o
            → by_path o (λ path. (r : Reply q) → ActsNext (may path) (k r)) ((r : Reply q) → OpensLast may (k r))
            → Spared s' p ⊎ Acted (Ask q stop k) p s' e) [
              | None ↦ λ none later.
                  let stays : got.0 ≡ p.contents.tree = quiet-stays q p.contents.tree _ silent none got.1 in
                  let Q : Tree → Type 0 = λ tree. Spared s'
                  (record p { contents = record p.contents { tree = tree } }) in
                  elim (refused {t = k reply} e there h (more reply) (later reply) (inside reply got.3) ties2 next) [
                    | inl b ↦ inl (subst Q stays b)
                    | inr l ↦ inr (late-from same l)
                  ]
              | Some path ↦ λ some later.
                  elim (acts-refused {t = k reply} (may path) e there h (later reply) (more reply)
                  (inside reply got.3) ties2 next) [
                    | inl b ↦ inl (record {
                      now = got.0;
                      as_before = inr (opens-more may q p.contents.tree path _ b.0 some got.1);
                      stands = b.1;
                    })
                    | inr l ↦ inr (late-from same l)
                  ]
            ] refl last
        | false ↦ λ loud more. inr (late-from same
            (closes-late {t = k reply} e there h (more reply) (inside reply got.3) ties2 next))
      ] refl shape.1
  refused e p h shape last inside ties (ask_stopped {q = q} {s = s} {s' = s'} {f = f} {why = why} d w same) =
      inl (unmoved _ s' p same (record {
        port = held s.port p.memory ties.memory_is;
        tree_is = off_ask s.folder f p.contents.tree q why ties.tree_is d;
        input_is = ties.input_is;
        console_is = ties.console_is;
        kept_is = ties.kept_is;
      }))
  refused e p h shape last inside ties (noted n next) = inr (closes-late e p h shape inside ties (noted n next))
  refused e p h shape last inside ties (ended _ _) = absurd shape
  refused e p h shape last inside ties (failed _ _) = absurd shape
  refused e p h shape last inside ties (has_written _ _) = absurd shape
  refused e p h shape last inside ties (write_stopped _ _ _) = absurd shape
  refused e p h shape last inside ties (looked _) = absurd shape
