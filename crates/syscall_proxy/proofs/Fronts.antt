-- What stands in the front of a buffer after a call that was lent a part of it.
use Rattle.std.proofs.Common.{◌≡◌, ◌≤◌, ℕ, List, ◌++◌, length, take, drop, min, Option, Some, None, Result, Ok, Err}
use Rattle.std.proofs.Common.{sym, ap, ◌∙◌, subst, arith, refl}
use Rattle.std.proofs.lemmas.List.{take-append-le, take_min, drop_min, take_at, length-take, length-take-le}
use Rattle.chunk_memory.specs.declared.stops.MemStop.{MemStop}
use Rattle.chunk_memory.specs.declared.port.ChunkPort as port
use Rattle.fe_base.specs.Outside.{HasCause, Takes, StaysSteady}
use Rattle.fe_base.specs.declared.outside.Failed.{Failed}
use Rattle.fe_base.specs.declared.outside.Source as source
use Rattle.folder_tree.specs.Answers.{Answers, HasCauses, Suits, StaysSteady as FolderStaysSteady}
use Rattle.folder_tree.specs.TreeOps.{read_row}
use Rattle.folder_tree.specs.declared.folder.FolderStop.{FolderStop}
use Rattle.folder_tree.specs.declared.folder.Folder as folder
use Rattle.host_text.specs.Outside.{HasRead, HasTaken, HasCalled}
use Rattle.host_text.specs.Text.{ReadAt}

-- what was said of so many bytes
pub same_count : {P : Type 0} (d : port.Ghosts P) (p p' : P) (place room count : ℕ) (r : Result (List ℕ) MemStop)
    → room ≡ count → HasRead d p p' place room r → HasRead d p p' place count r
same_count d p p' place room count r e h = let Q : ℕ → Type 0 = λ n. HasRead d p p' place n r in subst Q e h

-- the bytes that were read stand in the front
pub read_front : {P : Type 0} (d : port.Ghosts P) (p p' : P) (place count : ℕ) (new rest : List ℕ) → length new ≡ count
    → HasRead d p p' place count (Ok new) → HasRead d p p' place count (Ok (take count (new ++ rest)))
read_front d p p' place count new rest e h = let Q : List ℕ → Type 0 =
    λ bytes. HasRead d p p' place count (Ok bytes) in subst Q (sym (take_at new rest count e)) h

-- the front that was filled
front : (n : ℕ) (left old : List ℕ) → n ≤ length left → take n (take n left ++ drop n old) ≡ take n left
front n left old h = take_at (take n left) (drop n old) n (length-take-le n left h)

-- no more bytes than asked for
short_front : (n count : ℕ) (bytes : List ℕ) → n ≤ count → length (take n bytes) ≤ count
short_front n count bytes h = omega (arith, length-take n bytes)

-- what a take moved
pub taken_front : {I : Type 0} (d : source.Ghosts I) (i i' : I) (count n : ℕ) (old new rest : List ℕ) → length old
    ≡ count → length new ≡ length old → n ≤ length new
    → Takes {E = Failed} (d.left i) (d.left i') old new (Ok n) → (d.left i ≡ None → d.left i' ≡ None)
    → HasCause {T = ℕ} {E = Failed} (d.faults i) (d.faults i') (Ok n)
    → (d.steady i → StaysSteady {T = ℕ} {E = Failed} (d.faults i) (d.faults i') (Ok n) (d.steady i'))
    → HasTaken d i i' count (Ok (take n (new ++ rest)))
taken_front d i i' count n old new rest len same bound takes untold cause steady = record {
  bound = short_front n count (new ++ rest) (omega (arith, len, same));
  bytes = λ left told.
      let h = takes left told in (
        take-append-le n new rest bound ∙ ap (take n) h.2 ∙ front n left old (omega (arith, h.0))
            ∙ ap (λ k. take k left) h.0 ∙ ap (λ k. take (min k (length left)) left) len ∙ take_min count left,
        h.1 ∙ ap (λ k. Some (drop k left)) h.0 ∙ ap (λ k. Some (drop (min k (length left)) left)) len
            ∙ ap Some (drop_min count left),
      );
  untold = untold;
  cause = record { later = cause.later; failed = tt };
  steady = λ a. let h = steady a in record { done = refl; same = h.same; steady = h.steady };
}

-- what a read of a file moved
pub file_front : {F : Type 0} (d : folder.Ghosts F) (f f' : F) (number place count room n : ℕ) (new rest : List ℕ)
    → room ≡ count → length new ≡ room → n ≤ length new
    → Answers (d.tree f) (d.tree f') (read_row number place room) (Ok (take n new))
    → (d.tree f ≡ None → d.tree f' ≡ None)
    → HasCauses {A = ℕ} (d.faults f) (d.faults f') (d.short f) (d.short f') (Ok n)
    → (d.steady f → Suits (d.tree f) (read_row number place room)
    → FolderStaysSteady {A = ℕ} (d.faults f) (d.faults f') (Ok n) (d.steady f'))
    → HasCalled d f f' (ReadAt number place count) (Ok (take n (new ++ rest)))
file_front d f f' number place count room n new rest e same bound answers untold cause steady =
    let P : List ℕ → Type 0 = λ bytes. HasCalled d f f' (ReadAt number place count) (Ok bytes) in
    let Q : ℕ → Type 0 = λ r. Answers (d.tree f) (d.tree f') (read_row number place r) (Ok (take n new)) in
    let S : ℕ → Type 0 = λ r. d.steady f → Suits (d.tree f) (read_row number place r)
    → FolderStaysSteady {A = ℕ} (d.faults f) (d.faults f') (Ok n) (d.steady f') in
    let s = subst S e steady in
    subst P (sym (take-append-le n new rest bound)) (record {
      bound = short_front n count new (omega (arith, e, same, bound));
      tree = subst Q e answers;
      untold = untold;
      cause = record {
        faults_later = cause.faults_later;
        short_later = cause.short_later;
        failed = λ no. cc;
        no_memory = λ no. cc;
      };
      steady = λ a b. let h = s a b in record { not_failed = λ no. cc; same = h.same; steady = h.steady };
    })
