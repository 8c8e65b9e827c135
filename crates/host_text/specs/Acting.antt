-- How far a shaped text went: whether it acted, on each answer, whatever the objects tell.
use Rattle.std.specs.Prelude.{◌≡◌, ◌⊎◌, ⊤, ℕ, Bool, true, false, List, Result, Ok, Err, IsOk}
use Rattle.std.proofs.Common.{refl, sym, ap, ◌∙◌, inl, inr}
use Rattle.chunk_memory.specs.declared.stops.MemStop.{MemStop}
use Rattle.fe_base.specs.declared.outside.Failed.{Failed}
use Rattle.folder_tree.specs.declared.folder.FolderStop.{FolderStop}
use Rattle.host_text.specs.Text.{Query, Reply, Text, Done, Fail, Read, Write, Take, Put, Ask, Note, Look}
use Rattle.host_text.specs.Played.{Acts, At, Played, ended, failed, has_read, read_stopped, has_written, write_stopped}
use Rattle.host_text.specs.Played.{has_taken, take_stopped, has_put, put_stopped, has_asked, ask_stopped, noted, looked}
use Rattle.host_text.specs.Shapes.{Stops, is_quiet, either, EndsBy, Ends, Closes, Shaped}

-- the acts of a text that has not acted: ranges are read and the folder answers what leaves its files; all else that is
-- asked is refused, and nothing is written
abbrev pub early : {X F I C : Type 0} → Acts X F I C → Acts X F I C
early o = record {
  read = λ x place count r x'. o.read x place count r x';
  write = λ x place bytes r x'. ⊥;
  ask = λ q x r x'. o.ask q x r x' × (IsOk r → is_quiet q ≡ true);
  take = λ x count r x'. o.take x count r x' × (IsOk r → ⊥);
  put = λ x bytes r x'. o.put x bytes r x' × (IsOk r → ⊥);
}

-- the acts of a text whose writes of guest memory may come to anything: all else of it is done
abbrev pub unwritten : {X F I C : Type 0} → Acts X F I C → Acts X F I C
unwritten o = record {
  read = λ x place count r x'. o.read x place count r x';
  write = λ x place bytes r x'. ⊤;
  ask = λ q x r x'. o.ask q x r x';
  take = λ x count r x'. o.take x count r x';
  put = λ x bytes r x'. o.put x bytes r x';
}

-- the text had not acted: up to its refusal it only read and asked what leaves all as it is
pub record HasNotActed {X F I C H A E : Type 0} (o : Acts X F I C) (t : Text H A E) (s : At X F I C H)
    (r : Result A E) (s' : At X F I C H) : Type 0 where
  pub played : Played (early o) t s r s'
  pub kept : s'.kept ≡ s.kept

-- the text had acted, and the port refused a write of guest memory: all else of it is done, up to its answer
pub record HasActed {X F I C H A E : Type 0} (o : Acts X F I C) (z : Stops E) (answers : A → Type 0) (t : Text H A E)
    (s s' : At X F I C H) (fault : E) : Type 0 where
  pub answer : A
  pub good : answers answer
  pub played : Played (unwritten o) t s (Ok answer) s'
  pub why : MemStop
  pub fault_is : fault ≡ z.port why

module _ {X F I C H A E : Type 0} (o : Acts X F I C) (z : Stops E) (marks : (H → H) → Type 0)
    (answers : A → Type 0) where
  -- what the host keeps is what a note of these leaves
  abbrev pub Marked : At X F I C H → At X F I C H → Type 0
  Marked s s' = (g : H → H) × marks g × (s'.kept ≡ g s.kept)

  abbrev pub NotYet : Text H A E → At X F I C H → Result A E → At X F I C H → Type 0
  NotYet t s r s' = HasNotActed o t s r s'

  abbrev pub Behind : Text H A E → At X F I C H → At X F I C H → E → Type 0
  Behind t s s' e = HasActed o z answers t s s' e

  -- what is left of a text that only writes guest memory is done in any place
  ends-rest : (t : Text H A E) (s s' : At X F I C H) → s' ≡ s → Ends z marks answers t → EndsBy answers t → (a : A)
      × answers a × Played (unwritten o) t s (Ok a) s'
  ends-rest (Done a) s s' same shape by = (a, by, ended refl same)
  ends-rest (Write at bytes stop k) s s' same shape by =
      let rest = ends-rest k s s' same shape.1 by in
      (rest.0, rest.1, has_written {x = s.port} tt rest.2)
  ends-rest (Fail e) s s' same shape by = absurd shape
  ends-rest (Read at count stop k) s s' same shape by = absurd shape
  ends-rest (Take count stop k) s s' same shape by = absurd shape
  ends-rest (Put bytes stop k) s s' same shape by = absurd shape
  ends-rest (Ask q stop k) s s' same shape by = absurd shape
  ends-rest (Note g k) s s' same shape by = absurd shape
  ends-rest (Look k) s s' same shape by = absurd shape

  ends-acted : {t : Text H A E} {s s' : At X F I C H} {r : Result A E} (e : E) → r ≡ Err e → Ends z marks answers t
      → Played o t s r s' → Behind t s s' e × (s'.kept ≡ s.kept)
  ends-acted e h shape (ended p same) = let no : ⊥ = cc in absurd no
  ends-acted e h shape (has_written d next) =
      let rest = ends-acted e h shape.1 next in
      let b = rest.0 in (
        record {
          answer = b.answer;
          good = b.good;
          played = has_written tt b.played;
          why = b.why;
          fault_is = b.fault_is;
        },
        rest.1,
      )
  ends-acted e h shape (write_stopped {stop = stop} {k = k} {s = s} {s' = s'} {x = x} {why = why} d p same) =
      let here : e ≡ stop why = cc in
      let rest = ends-rest k (record s { port = x }) s' same shape.1 shape.2 in (
        record {
          answer = rest.0;
          good = rest.1;
          played = has_written tt rest.2;
          why = why;
          fault_is = here ∙ ap (λ f. f why) shape.0;
        },
        ap (λ m. m.kept) same,
      )
  ends-acted e h shape (failed _ _) = absurd shape
  ends-acted e h shape (has_read _ _) = absurd shape
  ends-acted e h shape (read_stopped _ _ _) = absurd shape
  ends-acted e h shape (has_taken _ _) = absurd shape
  ends-acted e h shape (take_stopped _ _ _) = absurd shape
  ends-acted e h shape (has_put _ _) = absurd shape
  ends-acted e h shape (put_stopped _ _ _) = absurd shape
  ends-acted e h shape (has_asked _ _) = absurd shape
  ends-acted e h shape (ask_stopped _ _ _) = absurd shape
  ends-acted e h shape (noted _ _) = absurd shape
  ends-acted e h shape (looked _) = absurd shape

  closes-acted : {t : Text H A E} {s s' : At X F I C H} {r : Result A E} (e : E) → r ≡ Err e → Closes z marks answers t
      → Played o t s r s' → Behind t s s' e × Marked s s'
  closes-acted e h shape (noted {g = g} n next) =
      let rest = ends-acted e h shape.1 next in
      let b = rest.0 in (
        record {
          answer = b.answer;
          good = b.good;
          played = noted n b.played;
          why = b.why;
          fault_is = b.fault_is;
        },
        (g, shape.0, rest.1 ∙ n),
      )
  closes-acted e h shape (ended _ _) = absurd shape
  closes-acted e h shape (failed _ _) = absurd shape
  closes-acted e h shape (has_read _ _) = absurd shape
  closes-acted e h shape (read_stopped _ _ _) = absurd shape
  closes-acted e h shape (has_written _ _) = absurd shape
  closes-acted e h shape (write_stopped _ _ _) = absurd shape
  closes-acted e h shape (has_taken _ _) = absurd shape
  closes-acted e h shape (take_stopped _ _ _) = absurd shape
  closes-acted e h shape (has_put _ _) = absurd shape
  closes-acted e h shape (put_stopped _ _ _) = absurd shape
  closes-acted e h shape (has_asked _ _) = absurd shape
  closes-acted e h shape (ask_stopped _ _ _) = absurd shape
  closes-acted e h shape (looked _) = absurd shape

  -- a refused text had not acted, or it had
  pub shaped-acted : {t : Text H A E} {s s' : At X F I C H} {r : Result A E} (e : E) → r ≡ Err e
      → Shaped z marks answers t → Played o t s r s' → NotYet t s r s' ⊎ (Behind t s s' e × Marked s s')
  shaped-acted e h shape (has_read d next) = elim (shaped-acted e h (shape.1 _) next) [
    | inl u ↦ inl (record { played = has_read d u.played; kept = u.kept })
    | inr b ↦ inr (
      record {
        answer = b.0.answer;
        good = b.0.good;
        played = has_read d b.0.played;
        why = b.0.why;
        fault_is = b.0.fault_is;
      },
      b.1,
    )
  ]
  shaped-acted e h shape (read_stopped d p same) =
      inl (record { played = read_stopped d p same; kept = ap (λ m. m.kept) same })
  shaped-acted e h shape (has_taken d next) =
      let b = closes-acted e h (shape.1 _) next in
      inr (
        record {
          answer = b.0.answer;
          good = b.0.good;
          played = has_taken d b.0.played;
          why = b.0.why;
          fault_is = b.0.fault_is;
        },
        b.1,
      )
  shaped-acted e h shape (take_stopped d p same) =
      inl (record { played = take_stopped (d, λ no. cc) p same; kept = ap (λ m. m.kept) same })
  shaped-acted e h shape (has_put d next) =
      let b = closes-acted e h shape.1 next in
      inr (
        record {
          answer = b.0.answer;
          good = b.0.good;
          played = has_put d b.0.played;
          why = b.0.why;
          fault_is = b.0.fault_is;
        },
        b.1,
      )
  shaped-acted e h shape (put_stopped d p same) =
      inl (record { played = put_stopped (d, λ no. cc) p same; kept = ap (λ m. m.kept) same })
  shaped-acted e h shape
      (has_asked {q = q} {stop = stop} {k = k} {s = s} {s' = s'} {r = r} {f = f} {reply = reply} d next) =
      let behind : Behind (k reply) (record s { folder = f }) s' e × Marked (record s { folder = f }) s'
      → Behind (Ask q stop k) s s' e × Marked s s' = λ b. (
        record {
          answer = b.0.answer;
          good = b.0.good;
          played = has_asked d b.0.played;
          why = b.0.why;
          fault_is = b.0.fault_is;
        },
        b.1,
      ) in
      elim (is_quiet q) as (λ b. is_quiet q ≡ b
      → either b ((a : Reply q) → Shaped z marks answers (k a)) ((a : Reply q) → Closes z marks answers (k a))
      → NotYet (Ask q stop k) s r s' ⊎ (Behind (Ask q stop k) s s' e × Marked s s')) [
        | true ↦ λ quiet more. elim (shaped-acted e h (more reply) next) [
          | inl u ↦ inl (record { played = has_asked (d, λ ok. quiet) u.played; kept = u.kept })
          | inr b ↦ inr (behind b)
        ]
        | false ↦ λ loud more. inr (behind (closes-acted e h (more reply) next))
      ] refl shape.1
  shaped-acted e h shape (ask_stopped d p same) =
      inl (record { played = ask_stopped (d, λ no. cc) p same; kept = ap (λ m. m.kept) same })
  shaped-acted e h shape (noted {g = g} n next) =
      let rest = ends-acted e h shape.1 next in
      let b = rest.0 in
      inr (
        record {
          answer = b.answer;
          good = b.good;
          played = noted n b.played;
          why = b.why;
          fault_is = b.fault_is;
        },
        (g, shape.0, rest.1 ∙ n),
      )
  shaped-acted e h shape (ended _ _) = absurd shape
  shaped-acted e h shape (failed _ _) = absurd shape
  shaped-acted e h shape (has_written _ _) = absurd shape
  shaped-acted e h shape (write_stopped _ _ _) = absurd shape
  shaped-acted e h shape (looked _) = absurd shape

  ends-done : {t : Text H A E} {s s' : At X F I C H} {r : Result A E} (a : A) → r ≡ Ok a → Ends z marks answers t
      → Played o t s r s' → s'.kept ≡ s.kept
  ends-done a h shape (ended p same) = ap (λ m. m.kept) same
  ends-done a h shape (has_written d next) = ends-done a h shape.1 next
  ends-done a h shape (write_stopped d p same) = ap (λ m. m.kept) same
  ends-done a h shape (failed _ _) = absurd shape
  ends-done a h shape (has_read _ _) = absurd shape
  ends-done a h shape (read_stopped _ _ _) = absurd shape
  ends-done a h shape (has_taken _ _) = absurd shape
  ends-done a h shape (take_stopped _ _ _) = absurd shape
  ends-done a h shape (has_put _ _) = absurd shape
  ends-done a h shape (put_stopped _ _ _) = absurd shape
  ends-done a h shape (has_asked _ _) = absurd shape
  ends-done a h shape (ask_stopped _ _ _) = absurd shape
  ends-done a h shape (noted _ _) = absurd shape
  ends-done a h shape (looked _) = absurd shape

  closes-done : {t : Text H A E} {s s' : At X F I C H} {r : Result A E} (a : A) → r ≡ Ok a → Closes z marks answers t
      → Played o t s r s' → Marked s s'
  closes-done a h shape (noted {g = g} n next) = (g, shape.0, ends-done a h shape.1 next ∙ n)
  closes-done a h shape (ended _ _) = absurd shape
  closes-done a h shape (failed _ _) = absurd shape
  closes-done a h shape (has_read _ _) = absurd shape
  closes-done a h shape (read_stopped _ _ _) = absurd shape
  closes-done a h shape (has_written _ _) = absurd shape
  closes-done a h shape (write_stopped _ _ _) = absurd shape
  closes-done a h shape (has_taken _ _) = absurd shape
  closes-done a h shape (take_stopped _ _ _) = absurd shape
  closes-done a h shape (has_put _ _) = absurd shape
  closes-done a h shape (put_stopped _ _ _) = absurd shape
  closes-done a h shape (has_asked _ _) = absurd shape
  closes-done a h shape (ask_stopped _ _ _) = absurd shape
  closes-done a h shape (looked _) = absurd shape

  -- a text that came to its end acted
  pub shaped-done : {t : Text H A E} {s s' : At X F I C H} {r : Result A E} (a : A) → r ≡ Ok a
      → Shaped z marks answers t → Played o t s r s' → Marked s s'
  shaped-done a h shape (has_read d next) = shaped-done a h (shape.1 _) next
  shaped-done a h shape (read_stopped d p same) = let no : ⊥ = cc in absurd no
  shaped-done a h shape (has_taken d next) = closes-done a h (shape.1 _) next
  shaped-done a h shape (take_stopped d p same) = let no : ⊥ = cc in absurd no
  shaped-done a h shape (has_put d next) = closes-done a h shape.1 next
  shaped-done a h shape (put_stopped d p same) = let no : ⊥ = cc in absurd no
  shaped-done a h shape (has_asked {q = q} {k = k} {s = s} {s' = s'} {reply = reply} d next) =
      elim (is_quiet q) as (λ b.
      either b ((a : Reply q) → Shaped z marks answers (k a)) ((a : Reply q) → Closes z marks answers (k a))
      → Marked s s') [
        | true ↦ λ more. shaped-done a h (more reply) next
        | false ↦ λ more. closes-done a h (more reply) next
      ] shape.1
  shaped-done a h shape (ask_stopped d p same) = let no : ⊥ = cc in absurd no
  shaped-done a h shape (noted {g = g} n next) = (g, shape.0, ends-done a h shape.1 next ∙ n)
  shaped-done a h shape (ended _ _) = absurd shape
  shaped-done a h shape (failed _ _) = absurd shape
  shaped-done a h shape (has_written _ _) = absurd shape
  shaped-done a h shape (write_stopped _ _ _) = absurd shape
  shaped-done a h shape (looked _) = absurd shape
