-- That a text which came to its end over objects that tell what they hold is its run.
use Rattle.std.specs.Prelude.{◌≡◌, ◌≤◌, ℕ, Bool, true, false, cond, nat_lt, List, ◌++◌, take, drop, length, Option}
use Rattle.std.specs.Prelude.{Some, None, Result, Ok, Err, refl}
use Rattle.std.proofs.Common.{sym, subst, ap, ◌∙◌, arith}
use Rattle.std.proofs.lemmas.List.{length-take}
use Rattle.folder_tree.specs.Tree.{Tree, opens_of, bytes_of}
use Rattle.folder_tree.specs.TreeOps.{After}
use Rattle.host_text.specs.Text.{Query, Reply, row_of, Kind, OpenFile, Create, Release, Size, ReadAt, WriteAt, SetSize}
use Rattle.host_text.specs.Text.{Remove, MakeDir, RemoveDir, Text, Done, Fail, Read, Write, Take, Put, Ask, Note, Look}
use Rattle.host_text.specs.Text.{then_do}
use Rattle.host_text.specs.Played.{Acts, At, Played, ended, failed, has_read, read_stopped, has_written, write_stopped}
use Rattle.host_text.specs.Played.{has_taken, take_stopped, has_put, put_stopped, has_asked, ask_stopped, noted, looked}
use Rattle.host_text.specs.Runs.{Place, Bytes, End, on_row, on_end, run, Ties, ReplyFits, Within}

-- what is some is one value
pub some-same : {X : Type 0} {a b : X} → Some a ≡ Some b → a ≡ b
some-same e = cc

read-fits : (b : Bool) (t : Tree) (bytes : List ℕ) (count : ℕ) (reply : List ℕ) (now : Tree)
    → cond {A = Option (After (List ℕ))} b (Some (record { answer = take count bytes; tree = t })) None
    ≡ Some (record { answer = reply; tree = now }) → length reply ≤ count
read-fits true t bytes count reply now e = let same : take count bytes ≡ reply =
    ap (λ (a : After (List ℕ)). a.answer) (some-same e) in let P : List ℕ → Type 0 =
    λ z. length z ≤ count in subst P same
    (let h : length (take count bytes) ≤ count = omega (arith, length-take count bytes) in h)
read-fits false t bytes count reply now e = let no : ⊥ = cc in absurd no

-- a reply is no longer than was asked for, by its row
pub reply-fits : (q : Query) (t : Tree) (reply : Reply q) (now : Tree) → row_of q t
    ≡ Some (record { answer = reply; tree = now }) → ReplyFits q reply
reply-fits (Kind path) t reply now e = tt
reply-fits (OpenFile path) t reply now e = tt
reply-fits (Create path) t reply now e = tt
reply-fits (Release number) t reply now e = tt
reply-fits (Size number) t reply now e = tt
reply-fits (ReadAt number at count) t reply now e =
    read-fits (nat_lt 0 (opens_of t number)) t (drop at (bytes_of t number)) count reply now e
reply-fits (WriteAt number at bytes) t reply now e = tt
reply-fits (SetSize number size) t reply now e = tt
reply-fits (Remove path) t reply now e = tt
reply-fits (MakeDir path) t reply now e = tt
reply-fits (RemoveDir path) t reply now e = tt

row-then : {A B C : Type 0} {M H : Type 0} (row : Option (After A)) (g : A → Tree → Option (End M H B))
    (h : A → Tree → Option C) (k : End M H B → Option C)
    → ((a : A) (t : Tree) → h a t ≡ on_end (g a t) k) → on_row row h ≡ on_end (on_row row g) k
row-then None g h k e = refl
row-then (Some after) g h k e = e after.answer after.tree

-- the run of one text after another
pub run-then : {M H A B D E : Type 0} (m : Bytes M) (f : D → E) (t : Text H A D) (k : A → Text H B E) (p : Place M H)
    → run m (then_do f t k) p ≡ on_end (run m t p) (λ e. run m (k e.answer) e.place)
run-then m f (Done a) k p = refl
run-then m f (Fail e) k p = refl
run-then m f (Read at count stop more) k p = run-then m f (more (m.get p.memory at count)) k p
run-then m f (Write at bytes stop more) k p = run-then m f more k (record p { memory = m.set p.memory at bytes })
run-then m f (Take count stop more) k p =
    run-then m f (more (take count p.contents.input)) k
    (record p { contents = record p.contents { input = drop count p.contents.input } })
run-then m f (Put bytes stop more) k p =
    run-then m f more k (record p { contents = record p.contents { console = p.contents.console ++ bytes } })
run-then m f (Ask q stop more) k p =
    row-then (row_of q p.contents.tree)
    (λ reply tree. run m (more reply) (record p { contents = record p.contents { tree = tree } }))
    (λ reply tree. run m (then_do f (more reply) k) (record p { contents = record p.contents { tree = tree } }))
    (λ e. run m (k e.answer) e.place)
    (λ reply tree. run-then m f (more reply) k (record p { contents = record p.contents { tree = tree } }))
run-then m f (Note g more) k p = run-then m f more k (record p { kept = g p.kept })
run-then m f (Look more) k p = run-then m f (more p.kept) k p

module _ {X F I C M H : Type 0} (o : Acts X F I C) (m : Bytes M) (fits : ℕ → ℕ → Type 0) (memory : X → M → Type 0)
    (tree : F → Tree → Type 0) (input : I → List ℕ → Type 0) (console : C → List ℕ → Type 0)
    (on_read : (x x' : X) (t : M) (at count : ℕ) (bytes : List ℕ) → fits at count → memory x t
    → o.read x at count (Ok bytes) x' → memory x' t × (bytes ≡ m.get t at count) × (length bytes ≡ count))
    (on_write : (x x' : X) (t : M) (at : ℕ) (bytes : List ℕ) → fits at (length bytes) → memory x t
    → o.write x at bytes (Ok tt) x' → memory x' (m.set t at bytes))
    (on_ask : (f f' : F) (t : Tree) (q : Query) (reply : Reply q) → tree f t → o.ask q f (Ok reply) f' → (now : Tree)
    × (row_of q t ≡ Some (record { answer = reply; tree = now })) × tree f' now × ReplyFits q reply)
    (on_take : (i i' : I) (left : List ℕ) (count : ℕ) (bytes : List ℕ) → input i left → o.take i count (Ok bytes) i'
    → (bytes ≡ take count left) × input i' (drop count left) × (length bytes ≤ count))
    (on_put : (c c' : C) (held : List ℕ) (bytes : List ℕ) → console c held → o.put c bytes (Ok tt) c'
    → console c' (held ++ bytes)) where
  -- where a text that came to its end leads: it is the run
  abbrev pub Came : {A E : Type 0} → Text H A E → Place M H → A → At X F I C H → Type 0
  Came t p a s' = (p' : Place M H) × (run m t p ≡ Some (record { answer = a; place = p' }))
      × Ties memory tree input console s' p'

  pub came : {A E : Type 0} {t : Text H A E} {s s' : At X F I C H} {r : Result A E} (a : A) (p : Place M H) → r ≡ Ok a
      → Within fits t → Played o t s r s' → Ties memory tree input console s p → Came t p a s'
  came a p e inside (ended {a = b} h same) ties =
      let here : b ≡ a = cc in
      let P : At X F I C H → Type 0 = λ z. Ties memory tree input console z p in
      (p, ap (λ z. Some (record { answer = z; place = p })) here, subst P (sym same) ties)
  came a p e inside (failed h same) ties = let no : ⊥ = cc in absurd no
  came a p e inside (has_read {place = at} {count = count} {k = k} {s = s} {x = x} {bytes = bytes} d next) ties =
      let got = on_read s.port x p.memory at count bytes inside.0 ties.memory_is d in
      let rest = came a p e (inside.1 bytes got.2) next
      (record {
        memory_is = got.0;
        tree_is = ties.tree_is;
        input_is = ties.input_is;
        console_is = ties.console_is;
        kept_is = ties.kept_is;
      }) in
      (rest.0, ap (λ b. run m (k b) p) (sym got.1) ∙ rest.1, rest.2)
  came a p e inside (read_stopped d h same) ties = let no : ⊥ = cc in absurd no
  came a p e inside (has_written {place = at} {bytes = bytes} {s = s} {x = x} d next) ties =
      let there = record p { memory = m.set p.memory at bytes } in
      came a there e inside.1 next (record {
        memory_is = on_write s.port x p.memory at bytes inside.0 ties.memory_is d;
        tree_is = ties.tree_is;
        input_is = ties.input_is;
        console_is = ties.console_is;
        kept_is = ties.kept_is;
      })
  came a p e inside (write_stopped d h same) ties = let no : ⊥ = cc in absurd no
  came a p e inside (has_taken {count = count} {k = k} {s = s} {i = i} {bytes = bytes} d next) ties =
      let got = on_take s.input i p.contents.input count bytes ties.input_is d in
      let there = record p { contents = record p.contents { input = drop count p.contents.input } } in
      let rest = came a there e (inside bytes got.2) next
      (record {
        memory_is = ties.memory_is;
        tree_is = ties.tree_is;
        input_is = got.1;
        console_is = ties.console_is;
        kept_is = ties.kept_is;
      }) in
      (rest.0, ap (λ b. run m (k b) there) (sym got.0) ∙ rest.1, rest.2)
  came a p e inside (take_stopped d h same) ties = let no : ⊥ = cc in absurd no
  came a p e inside (has_put {bytes = bytes} {s = s} {c = c} d next) ties =
      let there = record p { contents = record p.contents { console = p.contents.console ++ bytes } } in
      came a there e inside next (record {
        memory_is = ties.memory_is;
        tree_is = ties.tree_is;
        input_is = ties.input_is;
        console_is = on_put s.console c p.contents.console bytes ties.console_is d;
        kept_is = ties.kept_is;
      })
  came a p e inside (put_stopped d h same) ties = let no : ⊥ = cc in absurd no
  came a p e inside (has_asked {q = q} {k = k} {s = s} {f = f} {reply = reply} d next) ties =
      let got = on_ask s.folder f p.contents.tree q reply ties.tree_is d in
      let there = record p { contents = record p.contents { tree = got.0 } } in
      let rest = came a there e (inside reply got.3) next
      (record {
        memory_is = ties.memory_is;
        tree_is = got.2;
        input_is = ties.input_is;
        console_is = ties.console_is;
        kept_is = ties.kept_is;
      }) in (
        rest.0,
        ap (λ row. on_row row
            (λ reply tree. run m (k reply) (record p { contents = record p.contents { tree = tree } }))) got.1 ∙ rest.1,
        rest.2,
      )
  came a p e inside (ask_stopped d h same) ties = let no : ⊥ = cc in absurd no
  came a p e inside (noted {g = g} n next) ties =
      let there = record p { kept = g p.kept } in
      came a there e inside next (record {
        memory_is = ties.memory_is;
        tree_is = ties.tree_is;
        input_is = ties.input_is;
        console_is = ties.console_is;
        kept_is = n ∙ ap g ties.kept_is;
      })
  came a p e inside (looked {k = k} {s = s} next) ties =
      let rest = came a p e (inside s.kept) next ties in
      (rest.0, ap (λ h. run m (k h) p) (sym ties.kept_is) ∙ rest.1, rest.2)
