-- Laws of texts that are followed.
use Rattle.std.specs.Prelude.{◌≡◌, ℕ, Bool, true, false, if◌then◌else◌, List, Result, Ok, Err, refl}
use Rattle.std.proofs.Common.{sym, subst, ap, ◌∙◌}
use Rattle.chunk_memory.specs.declared.stops.MemStop.{MemStop}
use Rattle.fe_base.specs.declared.outside.Failed.{Failed}
use Rattle.folder_tree.specs.declared.folder.FolderStop.{FolderStop}
use Rattle.host_text.specs.Text.{Query, Reply, Text, Done, Fail, Read, Write, Take, Put, Ask, Note, Look, then_do}
use Rattle.host_text.specs.Played.{Acts, At, Played, ended, failed, has_read, read_stopped, has_written, write_stopped}
use Rattle.host_text.specs.Played.{has_taken, take_stopped, has_put, put_stopped, has_asked, ask_stopped, noted, looked}

module _ {X F I C : Type 0} (o : Acts X F I C) where
  -- a text that came to its end, and then the next
  pub then-ok : {H A B D E : Type 0} (f : D → E) (k : A → Text H B E)
      (a : A) {t : Text H A D} {s m : At X F I C H} {q : Result A D} {r : Result B E} {s' : At X F I C H}
      → q ≡ Ok a → Played o t s q m → Played o (k a) m r s' → Played o (then_do f t k) s r s'
  then-ok {H} {A} f k a {s = s} {r = r} {s' = s'} e (ended {a = b} p same) next =
      let here : a ≡ b = cc in
      let P : At X F I C H → Type 0 = λ z. Played o (k a) z r s' in
      let R : A → Type 0 = λ z. Played o (k z) s r s' in
      subst R here (subst P same next)
  then-ok f k a e (failed p same) next = let no : ⊥ = cc in absurd no
  then-ok f k a e (has_read d p) next = has_read d (then-ok f k a e p next)
  then-ok f k a e (read_stopped d p same) next = let no : ⊥ = cc in absurd no
  then-ok f k a e (has_written d p) next = has_written d (then-ok f k a e p next)
  then-ok f k a e (write_stopped d p same) next = let no : ⊥ = cc in absurd no
  then-ok f k a e (has_taken d p) next = has_taken d (then-ok f k a e p next)
  then-ok f k a e (take_stopped d p same) next = let no : ⊥ = cc in absurd no
  then-ok f k a e (has_put d p) next = has_put d (then-ok f k a e p next)
  then-ok f k a e (put_stopped d p same) next = let no : ⊥ = cc in absurd no
  then-ok f k a e (has_asked d p) next = has_asked d (then-ok f k a e p next)
  then-ok f k a e (ask_stopped d p same) next = let no : ⊥ = cc in absurd no
  then-ok f k a e (noted h p) next = noted h (then-ok f k a e p next)
  then-ok f k a e (looked p) next = looked (then-ok f k a e p next)

  -- a text that was refused
  pub then-err : {H A B D E : Type 0} (f : D → E) (k : A → Text H B E)
      (why : D) {t : Text H A D} {s s' : At X F I C H} {q : Result A D}
      → q ≡ Err why → Played o t s q s' → Played o (then_do f t k) s (Err (f why)) s'
  then-err f k e h (ended p same) = let no : ⊥ = cc in absurd no
  then-err f k e h (failed {e = d} p same) = failed (let here : e ≡ d = cc in ap (λ z. Err (f z)) here) same
  then-err f k e h (has_read d p) = has_read d (then-err f k e h p)
  then-err f k e h (read_stopped {stop = stop} {why = why} d p same) =
      read_stopped d (let here : e ≡ stop why = cc in ap (λ z. Err (f z)) here) same
  then-err f k e h (has_written d p) = has_written d (then-err f k e h p)
  then-err f k e h (write_stopped {stop = stop} {why = why} d p same) =
      write_stopped d (let here : e ≡ stop why = cc in ap (λ z. Err (f z)) here) same
  then-err f k e h (has_taken d p) = has_taken d (then-err f k e h p)
  then-err f k e h (take_stopped {stop = stop} d p same) =
      take_stopped d (let here : e ≡ stop = cc in ap (λ z. Err (f z)) here) same
  then-err f k e h (has_put d p) = has_put d (then-err f k e h p)
  then-err f k e h (put_stopped {stop = stop} d p same) =
      put_stopped d (let here : e ≡ stop = cc in ap (λ z. Err (f z)) here) same
  then-err f k e h (has_asked d p) = has_asked d (then-err f k e h p)
  then-err f k e h (ask_stopped {stop = stop} {why = why} d p same) =
      ask_stopped d (let here : e ≡ stop why = cc in ap (λ z. Err (f z)) here) same
  then-err f k e h (noted n p) = noted n (then-err f k e h p)
  then-err f k e h (looked p) = looked (then-err f k e h p)

-- a text by a test, where the test is known
pub on-true : {X F I C H A E : Type 0} {o : Acts X F I C} {b : Bool} {t : Text H A E}
    (u : Text H A E) {s s' : At X F I C H} {r : Result A E} → b ≡ true → Played o t s r s'
    → Played o (if b then t else u) s r s'
on-true {o = o} {t = t} u {s = s} {s' = s'} {r = r} e p = let P : Bool → Type 0 =
    λ z. Played o (if z then t else u) s r s' in subst P (sym e) p

pub on-false : {X F I C H A E : Type 0} {o : Acts X F I C} {b : Bool}
    (t : Text H A E) {u : Text H A E} {s s' : At X F I C H} {r : Result A E} → b ≡ false → Played o u s r s'
    → Played o (if b then t else u) s r s'
on-false {o = o} t {u = u} {s = s} {s' = s'} {r = r} e p = let P : Bool → Type 0 =
    λ z. Played o (if z then t else u) s r s' in subst P (sym e) p

module _ {X F I C H A B D E : Type 0} (o : Acts X F I C) (f : D → E) (k : A → Text H B E) where
  -- the first came to its end, and then the next was followed; or the first was refused
  pub data Split (t : Text H A D) (s : At X F I C H) (r : Result B E) (s' : At X F I C H) : Type 0 where
    both : (a : A) (q : Result A D) (m : At X F I C H) → q ≡ Ok a → Played o t s q m → Played o (k a) m r s'
        → Split t s r s'
    first : (e : D) (q : Result A D) → q ≡ Err e → Played o t s q s' → r ≡ Err (f e) → Split t s r s'

  pub then-split : (t : Text H A D) {s s' : At X F I C H} {r : Result B E} → Played o (then_do f t k) s r s'
      → Split t s r s'
  then-split (Done a) {s = s} p = both a (Ok a) s refl (ended refl refl) p
  then-split (Fail e) (failed h same) = first e (Err e) refl (failed refl same) h
  then-split (Read at count stop more) (has_read {bytes = bytes} d p) = elim (then-split (more bytes) p) [
    | both a q m e l n ↦ both a q m e (has_read d l) n
    | first e q h l n ↦ first e q h (has_read d l) n
  ]
  then-split (Read at count stop more) (read_stopped {why = why} d h same) =
      first (stop why) (Err (stop why)) refl (read_stopped d refl same) h
  then-split (Write at bytes stop more) (has_written d p) = elim (then-split more p) [
    | both a q m e l n ↦ both a q m e (has_written d l) n
    | first e q h l n ↦ first e q h (has_written d l) n
  ]
  then-split (Write at bytes stop more) (write_stopped {why = why} d h same) =
      first (stop why) (Err (stop why)) refl (write_stopped d refl same) h
  then-split (Take count stop more) (has_taken {bytes = bytes} d p) = elim (then-split (more bytes) p) [
    | both a q m e l n ↦ both a q m e (has_taken d l) n
    | first e q h l n ↦ first e q h (has_taken d l) n
  ]
  then-split (Take count stop more) (take_stopped d h same) = first stop (Err stop) refl (take_stopped d refl same) h
  then-split (Put bytes stop more) (has_put d p) = elim (then-split more p) [
    | both a q m e l n ↦ both a q m e (has_put d l) n
    | first e q h l n ↦ first e q h (has_put d l) n
  ]
  then-split (Put bytes stop more) (put_stopped d h same) = first stop (Err stop) refl (put_stopped d refl same) h
  then-split (Ask c stop more) (has_asked {reply = reply} d p) = elim (then-split (more reply) p) [
    | both a q m e l n ↦ both a q m e (has_asked d l) n
    | first e q h l n ↦ first e q h (has_asked d l) n
  ]
  then-split (Ask c stop more) (ask_stopped {why = why} d h same) =
      first (stop why) (Err (stop why)) refl (ask_stopped d refl same) h
  then-split (Note g more) (noted h p) = elim (then-split more p) [
    | both a q m e l n ↦ both a q m e (noted h l) n
    | first e q i l n ↦ first e q i (noted h l) n
  ]
  then-split (Look more) {s = s} (looked p) = elim (then-split (more s.kept) p) [
    | both a q m e l n ↦ both a q m e (looked l) n
    | first e q h l n ↦ first e q h (looked l) n
  ]
