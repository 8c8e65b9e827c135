-- What it says of a text's run, and of a text that was followed, that it leads to a good end.
use Rattle.std.specs.Prelude.{◌≡◌, ◌⊎◌, ◌≤◌, ℕ, Bool, true, false, List, ◌++◌, take, drop, length, Option, Some, None}
use Rattle.std.specs.Prelude.{Result, Ok, Err, refl}
use Rattle.std.proofs.Common.{sym, subst, ap, ◌∙◌, inl, inr, arith}
use Rattle.std.proofs.lemmas.List.{length-take}
use Rattle.chunk_memory.specs.declared.stops.MemStop.{MemStop}
use Rattle.fe_base.specs.declared.outside.Failed.{Failed}
use Rattle.folder_tree.specs.Tree.{Tree}
use Rattle.folder_tree.specs.TreeOps.{After}
use Rattle.folder_tree.specs.declared.folder.FolderStop.{FolderStop}
use Rattle.host_text.specs.Text.{Query, Reply, row_of, Text, Done, Fail, Read, Write, Take, Put, Ask, Note, Look}
use Rattle.host_text.specs.Played.{Acts, At, Played, ended, failed, has_read, read_stopped, has_written, write_stopped}
use Rattle.host_text.specs.Played.{has_taken, take_stopped, has_put, put_stopped, has_asked, ask_stopped, noted, looked}
use Rattle.host_text.specs.World.{Contents}
use Rattle.host_text.specs.Runs.{Place, Bytes, End, on_row, run, Within}
use Rattle.host_text.specs.Shapes.{Stops, is_quiet, either, Ends, Closes, Shaped}
use Rattle.host_text.specs.RunLaws.{reply-fits, some-same}
use Rattle.host_text.specs.Leads.{Leads}

-- ---- the run

module _ {M H A : Type 0} (m : Bytes M) (fits : ℕ → ℕ → Type 0) (holds : M → Type 0) (good : A → Tree → H → Type 0)
    (lengths : (x : M) (at count : ℕ) → fits at count → holds x → length (m.get x at count) ≡ count)
    (stays : (x : M) (at : ℕ) (bytes : List ℕ) → fits at (length bytes) → holds x → holds (m.set x at bytes)) where
  -- an end of the run that is a good one
  abbrev pub HasEnd : Option (End M H A) → Type 0
  HasEnd o = (e : End M H A) × (o ≡ Some e) × good e.answer e.place.contents.tree e.place.kept × holds e.place.memory

  -- a text that leads to a good end has a run
  pub leads-run : {E : Type 0} (t : Text H A E) (p : Place M H) → holds p.memory → Within fits t
      → Leads good t p.contents.tree p.kept → HasEnd (run m t p)
  leads-run (Done a) p h inside leads = (record { answer = a; place = p }, refl, leads, h)
  leads-run (Fail e) p h inside leads = absurd leads
  leads-run (Read at count stop k) p h inside leads =
      let size = lengths p.memory at count inside.0 h in
      leads-run (k (m.get p.memory at count)) p h (inside.1 (m.get p.memory at count) size)
      (leads (m.get p.memory at count) size)
  leads-run (Write at bytes stop k) p h inside leads =
      leads-run k (record p { memory = m.set p.memory at bytes }) (stays p.memory at bytes inside.0 h) inside.1 leads
  leads-run (Take count stop k) p h inside leads =
      let bytes = take count p.contents.input in
      let size : length bytes ≤ count = omega (arith, length-take count p.contents.input) in
      leads-run (k bytes) (record p { contents = record p.contents { input = drop count p.contents.input } }) h
      (inside bytes size) (leads bytes size)
  leads-run (Put bytes stop k) p h inside leads =
      leads-run k (record p { contents = record p.contents { console = p.contents.console ++ bytes } }) h inside leads
  leads-run (Ask q stop k) p h inside leads =
      let after = leads.0 in
      let rest = leads-run (k after.answer) (record p { contents = record p.contents { tree = after.tree } }) h
      (inside after.answer (reply-fits q p.contents.tree after.answer after.tree leads.1)) leads.2 in
      let step : run m (Ask q stop k) p
      ≡ on_row (Some after) (λ reply tree. run m (k reply)
      (record p { contents = record p.contents { tree = tree } })) =
      ap (λ row. on_row row (λ reply tree. run m (k reply)
      (record p { contents = record p.contents { tree = tree } }))) leads.1 in
      (rest.0, step ∙ rest.1, rest.2, rest.3)
  leads-run (Note g k) p h inside leads = leads-run k (record p { kept = g p.kept }) h inside leads
  leads-run (Look k) p h inside leads = leads-run (k p.kept) p h (inside p.kept) leads

-- ---- a text that was followed

module _ {X F I C H A : Type 0} (o : Acts X F I C) (tells : F → Tree → Type 0) (good : A → Tree → H → Type 0)
    (read : (x x' : X) (at count : ℕ) (bytes : List ℕ) → o.read x at count (Ok bytes) x' → length bytes ≡ count)
    (taken : (i i' : I) (count : ℕ) (bytes : List ℕ) → o.take i count (Ok bytes) i' → length bytes ≤ count)
    (asked : (f f' : F) (t : Tree) (q : Query) (reply : Reply q) → tells f t → o.ask q f (Ok reply) f' → (now : Tree)
    × (row_of q t ≡ Some (record { answer = reply; tree = now })) × tells f' now)
    (refuses : (f f' : F) (t : Tree) (q : Query) (why : FolderStop) → tells f t → o.ask q f (Err why) f'
    → tells f' t) where
  -- the folder tells a tree that is good beside this answer and what is kept
  abbrev pub IsGood : A → At X F I C H → Type 0
  IsGood a s = (t : Tree) × tells s.folder t × good a t s.kept

  moved-good : (a : A) (s s' : At X F I C H) → s' ≡ s → IsGood a s → IsGood a s'
  moved-good a s s' same g = let P : At X F I C H → Type 0 = λ z. IsGood a z in subst P (sym same) g

  reached : (q : Query) (good_after : After (Reply q) → Type 0) (t : Tree) (reply : Reply q) (now : Tree)
      (after : After (Reply q))
      → row_of q t ≡ Some (record { answer = reply; tree = now }) → row_of q t ≡ Some after → good_after after
      → good_after (record { answer = reply; tree = now })
  reached q good_after t reply now after e leads g = let same : record { answer = reply; tree = now } ≡ after =
      some-same (sym e ∙ leads) in subst good_after (sym same) g

  -- the end of such a text is a good one
  pub leads-end : {E : Type 0} {t : Text H A E} {s s' : At X F I C H} {r : Result A E} (a : A) (tree : Tree) → r ≡ Ok a
      → tells s.folder tree → Leads good t tree s.kept → Played o t s r s' → IsGood a s'
  leads-end a tree e told leads (ended {a = b} {s = s} {s' = s'} h same) =
      let here : b ≡ a = cc in
      let P : A → Type 0 = λ z. IsGood z s in
      moved-good a s s' same (subst P here (tree, told, leads))
  leads-end a tree e told leads (failed h same) = let no : ⊥ = cc in absurd no
  leads-end a tree e told leads (has_read {place = at} {count = count} {s = s} {x = x} {bytes = bytes} d next) =
      leads-end a tree e told (leads bytes (read s.port x at count bytes d)) next
  leads-end a tree e told leads (read_stopped d h same) = let no : ⊥ = cc in absurd no
  leads-end a tree e told leads (has_written d next) = leads-end a tree e told leads next
  leads-end a tree e told leads (write_stopped d h same) = let no : ⊥ = cc in absurd no
  leads-end a tree e told leads (has_taken {count = count} {s = s} {i = i} {bytes = bytes} d next) =
      leads-end a tree e told (leads bytes (taken s.input i count bytes d)) next
  leads-end a tree e told leads (take_stopped d h same) = let no : ⊥ = cc in absurd no
  leads-end a tree e told leads (has_put d next) = leads-end a tree e told leads next
  leads-end a tree e told leads (put_stopped d h same) = let no : ⊥ = cc in absurd no
  leads-end a tree e told leads (has_asked {q = q} {k = k} {s = s} {f = f} {reply = reply} d next) =
      let got = asked s.folder f tree q reply told d in
      leads-end a got.0 e got.2 (reached q
      (λ z. Leads good (k z.answer) z.tree s.kept) tree reply got.0 leads.0 got.1 leads.1 leads.2) next
  leads-end a tree e told leads (ask_stopped d h same) = let no : ⊥ = cc in absurd no
  leads-end a tree e told leads (noted {k = k} n next) = let P : H → Type 0 =
      λ z. Leads good k tree z in leads-end a tree e told (subst P (sym n) leads) next
  leads-end a tree e told leads (looked next) = leads-end a tree e told leads next

  -- what a refused call leaves: it has changed nothing, but for opens; or all is as at a good end
  abbrev pub Leaves : (Tree → Tree → Type 0) → Tree → H → At X F I C H → Type 0
  Leaves Quiet t h s' = ((now : Tree) × Quiet t now × tells s'.folder now × (s'.kept ≡ h)) ⊎ ((a : A) × IsGood a s')

  module _ {E : Type 0} (z : Stops E) (marks : (H → H) → Type 0) (answers : A → Type 0) (Quiet : Tree → Tree → Type 0)
      (still : (t : Tree) → Quiet t t)
      (joins : (t u v : Tree) → Quiet t u → Quiet u v → Quiet t v)
      (quiet : (q : Query) (t : Tree) (after : After (Reply q)) → is_quiet q ≡ true → row_of q t ≡ Some after
      → Quiet t after.tree) where
    ends-answer : (t : Text H A E) (tree : Tree) (h : H) → Ends z marks answers t → Leads good t tree h → (a : A)
        × good a tree h
    ends-answer (Done a) tree h shape leads = (a, leads)
    ends-answer (Write at bytes stop k) tree h shape leads = ends-answer k tree h shape.1 leads
    ends-answer (Fail e) tree h shape leads = absurd shape
    ends-answer (Read at count stop k) tree h shape leads = absurd shape
    ends-answer (Take count stop k) tree h shape leads = absurd shape
    ends-answer (Put bytes stop k) tree h shape leads = absurd shape
    ends-answer (Ask q stop k) tree h shape leads = absurd shape
    ends-answer (Note g k) tree h shape leads = absurd shape
    ends-answer (Look k) tree h shape leads = absurd shape

    ends-good : {t : Text H A E} {s s' : At X F I C H} {r : Result A E} (e : E) (tree : Tree) → r ≡ Err e
        → tells s.folder tree → Ends z marks answers t → Leads good t tree s.kept → Played o t s r s' → (a : A)
        × IsGood a s'
    ends-good e tree h told shape leads (ended q same) = let no : ⊥ = cc in absurd no
    ends-good e tree h told shape leads (has_written d next) = ends-good e tree h told shape.1 leads next
    ends-good e tree h told shape leads (write_stopped {k = k} {s = s} {s' = s'} {x = x} d q same) =
        let end = ends-answer k tree s.kept shape.1 leads in
        (end.0, moved-good end.0 (record s { port = x }) s' same (tree, told, end.1))
    ends-good e tree h told shape leads (failed _ _) = absurd shape
    ends-good e tree h told shape leads (has_read _ _) = absurd shape
    ends-good e tree h told shape leads (read_stopped _ _ _) = absurd shape
    ends-good e tree h told shape leads (has_taken _ _) = absurd shape
    ends-good e tree h told shape leads (take_stopped _ _ _) = absurd shape
    ends-good e tree h told shape leads (has_put _ _) = absurd shape
    ends-good e tree h told shape leads (put_stopped _ _ _) = absurd shape
    ends-good e tree h told shape leads (has_asked _ _) = absurd shape
    ends-good e tree h told shape leads (ask_stopped _ _ _) = absurd shape
    ends-good e tree h told shape leads (noted _ _) = absurd shape
    ends-good e tree h told shape leads (looked _) = absurd shape

    closes-good : {t : Text H A E} {s s' : At X F I C H} {r : Result A E} (e : E) (tree : Tree) → r ≡ Err e
        → tells s.folder tree → Closes z marks answers t → Leads good t tree s.kept → Played o t s r s' → (a : A)
        × IsGood a s'
    closes-good e tree h told shape leads (noted {k = k} {s = s} n next) =
        let P : H → Type 0 = λ z. Leads good k tree z in
        ends-good e tree h told shape.1 (subst P (sym n) leads) next
    closes-good e tree h told shape leads (ended _ _) = absurd shape
    closes-good e tree h told shape leads (failed _ _) = absurd shape
    closes-good e tree h told shape leads (has_read _ _) = absurd shape
    closes-good e tree h told shape leads (read_stopped _ _ _) = absurd shape
    closes-good e tree h told shape leads (has_written _ _) = absurd shape
    closes-good e tree h told shape leads (write_stopped _ _ _) = absurd shape
    closes-good e tree h told shape leads (has_taken _ _) = absurd shape
    closes-good e tree h told shape leads (take_stopped _ _ _) = absurd shape
    closes-good e tree h told shape leads (has_put _ _) = absurd shape
    closes-good e tree h told shape leads (put_stopped _ _ _) = absurd shape
    closes-good e tree h told shape leads (has_asked _ _) = absurd shape
    closes-good e tree h told shape leads (ask_stopped _ _ _) = absurd shape
    closes-good e tree h told shape leads (looked _) = absurd shape

    unmoved : (tree : Tree) (s s' : At X F I C H) → s' ≡ s → tells s.folder tree → Leaves Quiet tree s.kept s'
    unmoved tree s s' same told = let P : At X F I C H → Type 0 =
        λ m. Leaves Quiet tree s.kept m in subst P (sym same) (inl (tree, still tree, told, refl))

    -- a refused text of the shape that leads to a good end leaves all but opens as it was, or as at a good end
    pub leads-refused : {t : Text H A E} {s s' : At X F I C H} {r : Result A E} (e : E) (tree : Tree) → r ≡ Err e
        → tells s.folder tree → Shaped z marks answers t → Leads good t tree s.kept → Played o t s r s'
        → Leaves Quiet tree s.kept s'
    leads-refused e tree h told shape leads
        (has_read {place = at} {count = count} {s = s} {x = x} {bytes = bytes} d next) =
        leads-refused e tree h told (shape.1 bytes) (leads bytes (read s.port x at count bytes d)) next
    leads-refused e tree h told shape leads (read_stopped {s = s} {s' = s'} {x = x} d q same) =
        unmoved tree (record s { port = x }) s' same told
    leads-refused e tree h told shape leads (has_taken {count = count} {s = s} {i = i} {bytes = bytes} d next) =
        inr (closes-good e tree h told (shape.1 bytes) (leads bytes (taken s.input i count bytes d)) next)
    leads-refused e tree h told shape leads (take_stopped {s = s} {s' = s'} {i = i} d q same) =
        unmoved tree (record s { input = i }) s' same told
    leads-refused e tree h told shape leads (has_put d next) = inr (closes-good e tree h told shape.1 leads next)
    leads-refused e tree h told shape leads (put_stopped {s = s} {s' = s'} {c = c} d q same) =
        unmoved tree (record s { console = c }) s' same told
    leads-refused e tree h told shape leads
        (has_asked {q = q} {k = k} {s = s} {s' = s'} {f = f} {reply = reply} d next) =
        let got = asked s.folder f tree q reply told d in
        let here = reached q (λ z. Leads good
        (k z.answer) z.tree s.kept) tree reply got.0 leads.0 got.1 leads.1 leads.2 in
        elim (is_quiet q) as (λ b. is_quiet q ≡ b
        → either b ((r : Reply q) → Shaped z marks answers (k r)) ((r : Reply q) → Closes z marks answers (k r))
        → Leaves Quiet tree s.kept s') [
          | true ↦ λ silent more. elim (leads-refused e got.0 h got.2 (more reply) here next) [
            | inl b ↦ inl (
              b.0,
              joins tree got.0 b.0
                  (quiet q tree (record { answer = reply; tree = got.0 }) silent got.1) b.1,
              b.2,
              b.3,
            )
            | inr g ↦ inr g
          ]
          | false ↦ λ loud more. inr (closes-good e got.0 h got.2 (more reply) here next)
        ] refl shape.1
    leads-refused e tree h told shape leads (ask_stopped {q = q} {s = s} {s' = s'} {f = f} {why = why} d w same) =
        unmoved tree (record s { folder = f }) s' same (refuses s.folder f tree q why told d)
    leads-refused e tree h told shape leads (noted {k = k} {s = s} n next) = let P : H → Type 0 =
        λ z. Leads good k tree z in inr (ends-good e tree h told shape.1 (subst P (sym n) leads) next)
    leads-refused e tree h told shape leads (ended _ _) = absurd shape
    leads-refused e tree h told shape leads (failed _ _) = absurd shape
    leads-refused e tree h told shape leads (has_written _ _) = absurd shape
    leads-refused e tree h told shape leads (write_stopped _ _ _) = absurd shape
    leads-refused e tree h told shape leads (looked _) = absurd shape
