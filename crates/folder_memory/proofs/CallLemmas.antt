-- What a call of the memory folder says in the trait's words.
use Rattle.std.proofs.Common.{◌≡◌, ◌<◌, ◌≤◌, ◌^◌, ℕ, Bool, true, false, List, ◌==◌, get_or, refl, ap}
use Rattle.std.proofs.Common.{sym, ◌∙◌, subst, arith, Option, Some, None, Result, Ok, Err, IsSome, ◌⊎◌, inl, inr}
use Rattle.std.proofs.lemmas.List.Folds.{list_any_none}
use Rattle.std.proofs.lemmas.Bool.{ne_eqb}
use Rattle.std.proofs.lemmas.Option.{same_Some}
use Rattle.fe_base.specs.Memory.{NoneFrom, counted, is_listed}
use Rattle.folder_tree.specs.Tree.{Tree}
use Rattle.folder_tree.specs.TreeOps.{After, Row}
use Rattle.folder_tree.specs.Answers.{AnsweredBy, Answers, HasCauses, StaysSteady}
use Rattle.folder_memory.specs.Folder.{FolderState, HasCounts, refused, answer_by, answer_of, after_by, after_call}
use Rattle.folder_memory.specs.Folder.{Called}
use Rattle.folder_tree.specs.declared.folder.FolderStop.{FolderStop}
use Rattle.folder_tree.specs.declared.folder.FolderStop.TheVariants.{Failed, NoMemory}

-- ---- how a call comes to its answer

pub Called-listed : {A : Type 0} (s now : FolderState) (row : Option (After A)) → is_listed s.calls s.failing ≡ true
    → now ≡ refused s → Called s now row (Err Failed)
Called-listed s now None is left = (refl, left)
Called-listed s now (Some after) is left =
    (ap (λ l. answer_by l (Some after)) is, left ∙ sym (ap (λ l. after_by l s (Some after)) is))

pub Called-unfit : {A : Type 0} (s now : FolderState) (row : Option (After A)) → row ≡ None → now ≡ refused s
    → Called s now row (Err Failed)
Called-unfit s now None is left = (refl, left)
Called-unfit s now (Some after) is left = absurd (let no : ⊥ = cc in no)

pub Called-done : {A : Type 0} (s now : FolderState) (row : Option (After A)) (answer : A) (tree : Tree)
    → is_listed s.calls s.failing ≡ false
    → row ≡ Some (record { answer = answer; tree = tree }) → now ≡ record s { tree = tree; calls = counted s.calls }
    → Called s now row (Ok answer)
Called-done s now row answer tree is suits left = (
  ap (answer_of s) suits ∙ ap (λ l. answer_by l (Some (record { answer = answer; tree = tree }))) is,
  left ∙ sym (ap (after_call s) suits ∙ ap (λ l. after_by l s (Some (record { answer = answer; tree = tree }))) is),
)

-- ---- what follows from a call

pub record IsDone {A : Type 0} (s now : FolderState) (row : Option (After A)) (answer : A) : Type 0 where
  pub tree : Tree
  pub listed : is_listed s.calls s.failing ≡ false
  pub row_is : row ≡ Some (record { answer = answer; tree = tree })
  pub left : now ≡ record s { tree = tree; calls = counted s.calls }

done_by : {A : Type 0} (listed : Bool) (s now : FolderState) (row : Option (After A)) (answer : A)
    → is_listed s.calls s.failing ≡ listed
    → answer_by listed row ≡ Ok answer → now ≡ after_by listed s row → IsDone s now row answer
done_by listed s now None answer is e left = absurd (let no : ⊥ = cc in no)
done_by true s now (Some after) answer is e left = absurd (let no : ⊥ = cc in no)
done_by false s now (Some after) answer is e left =
    let same : after.answer ≡ answer = cc in
    record {
      tree = after.tree;
      listed = is;
      row_is = ap (λ a. Some (record { answer = a; tree = after.tree })) same;
      left = left;
    }

pub Called-Ok : {A : Type 0} (s now : FolderState) (row : Option (After A)) (answer : A) → Called s now row (Ok answer)
    → IsDone s now row answer
Called-Ok s now row answer called = done_by (is_listed s.calls s.failing) s now row answer refl called.0 called.1

failed_by : {A : Type 0} (listed : Bool) (s now : FolderState) (row : Option (After A))
    → answer_by listed row ≡ Err Failed → now ≡ after_by listed s row
    → (now ≡ refused s) × ((listed ≡ true) ⊎ (row ≡ None))
failed_by listed s now None e left = (left, inr refl)
failed_by true s now (Some after) e left = (left, inl refl)
failed_by false s now (Some after) e left = absurd (let no : ⊥ = cc in no)

pub Called-Failed : {A : Type 0} (s now : FolderState) (row : Option (After A)) → Called s now row (Err Failed)
    → (now ≡ refused s) × ((is_listed s.calls s.failing ≡ true) ⊎ (row ≡ None))
Called-Failed s now row called = failed_by (is_listed s.calls s.failing) s now row called.0 called.1

answered : {A : Type 0} (s now : FolderState) (row : Option (After A)) (result : Result A FolderStop)
    → Called s now row result → AnsweredBy s.tree (Some now.tree) row result
answered s now row (Ok answer) called =
    let done = Called-Ok s now row answer called in
    (done.tree, done.row_is, ap (λ (n : FolderState). Some n.tree) done.left)
answered s now row (Err Failed) called = ap (λ (n : FolderState). Some n.tree) (Called-Failed s now row called).0
answered s now row (Err NoMemory) called = (called.0, ap (λ (n : FolderState). Some n.tree) called.2)

pub Called-Answers : {A : Type 0} (row : Row A) (s now : FolderState) (result : Result A FolderStop)
    → Called s now (row s.tree) result → Answers (Some s.tree) (Some now.tree) row result
Called-Answers row s now result called t is =
    let P : Tree → Type 0 = λ u. AnsweredBy u (Some now.tree) (row u) result in
    subst P (same_Some s.tree t is) (answered s now (row s.tree) result called)

later : (n : ℕ) → n < 2 ^ 64 → n ≤ counted n
later n below = omega arith

-- the buffer of a read plays no part in the counts
pub Called-HasCauses : {A B : Type 0} (s now : FolderState) (row : Option (After A)) (result : Result A FolderStop)
    (shown : Result B FolderStop)
    → HasCounts s → (shown ≡ Err Failed → result ≡ Err Failed) → (shown ≡ Err NoMemory → result ≡ Err NoMemory)
    → Called s now row result → HasCauses s.faults now.faults s.short now.short shown
Called-HasCauses s now row (Ok answer) shown counts failed short called =
    let done = Called-Ok s now row answer called in
    let faults : now.faults ≡ s.faults = ap (λ (n : FolderState). n.faults) done.left in
    let wants : now.short ≡ s.short = ap (λ (n : FolderState). n.short) done.left in
    record {
      faults_later = omega arith;
      short_later = omega arith;
      failed = λ e. absurd (let other : Ok answer ≡ Err Failed = failed e in let no : ⊥ = cc in no);
      no_memory = λ e. absurd (let other : Ok answer ≡ Err NoMemory = short e in let no : ⊥ = cc in no);
    }
Called-HasCauses s now row (Err Failed) shown counts failed short called =
    let left = (Called-Failed s now row called).0 in
    let faults : now.faults ≡ counted s.faults = ap (λ (n : FolderState). n.faults) left in
    let wants : now.short ≡ s.short = ap (λ (n : FolderState). n.short) left in
    let below : s.faults < 2 ^ 64 = counts.faults in
    record {
      faults_later = omega arith;
      short_later = omega arith;
      failed = λ e. omega arith;
      no_memory = λ e. absurd (let other : Err Failed ≡ Err NoMemory = short e in let no : ⊥ = cc in no);
    }
Called-HasCauses s now row (Err NoMemory) shown counts failed short called =
    let faults : now.faults ≡ s.faults = ap (λ (n : FolderState). n.faults) called.2 in
    let wants : now.short ≡ counted s.short = ap (λ (n : FolderState). n.short) called.2 in
    let below : s.short < 2 ^ 64 = counts.short in
    record {
      faults_later = omega arith;
      short_later = omega arith;
      failed = λ e. absurd (let other : Err NoMemory ≡ Err Failed = failed e in let no : ⊥ = cc in no);
      no_memory = λ e. omega arith;
    }

not_listed : (calls : ℕ) (failing : List ℕ) → NoneFrom calls failing → is_listed calls failing ≡ false
not_listed calls failing none =
    list_any_none (λ n. n == calls) failing (λ k d within.
    ne_eqb (get_or failing k d) calls (λ same. let before : get_or failing k d < calls = none k d within in
    omega arith))

still_none : (calls : ℕ) (failing : List ℕ) → calls < 2 ^ 64 → NoneFrom calls failing → NoneFrom (counted calls) failing
still_none calls failing below none k d within =
    let before : get_or failing k d < calls = none k d within in omega arith

pub Called-StaysSteady : {A B : Type 0} (s now : FolderState) (row : Option (After A)) (result : Result A FolderStop)
    (shown : Result B FolderStop)
    → HasCounts s → (shown ≡ Err Failed → result ≡ Err Failed) → Called s now row result → NoneFrom s.calls s.failing
    → IsSome row
    → StaysSteady s.faults now.faults shown (NoneFrom now.calls now.failing)
Called-StaysSteady s now row (Ok answer) shown counts failed called none suits =
    let done = Called-Ok s now row answer called in
    record {
      not_failed = λ e. let other : Ok answer ≡ Err Failed = failed e in let no : ⊥ = cc in no;
      same = ap (λ (n : FolderState). n.faults) done.left;
      steady = let P : FolderState → Type 0 =
          λ n. NoneFrom n.calls n.failing in subst P (sym done.left) (still_none s.calls s.failing counts.calls none);
    }
Called-StaysSteady {A} s now row (Err Failed) shown counts failed called none suits =
    absurd (elim (Called-Failed s now row called).1 as (λ _. ⊥) [
      | inl is ↦ let other : true ≡ false = sym is ∙ not_listed s.calls s.failing none in let no : ⊥ = cc in no
      | inr is ↦ let P : Option (After A) → Type 0 = λ o. IsSome o in
          let some : IsSome {T = After A} None = subst P is suits in let no : ⊥ = cc in no
    ])
Called-StaysSteady s now row (Err NoMemory) shown counts failed called none suits =
    record {
      not_failed = λ e. let other : Err NoMemory ≡ Err Failed = failed e in let no : ⊥ = cc in no;
      same = ap (λ (n : FolderState). n.faults) called.2;
      steady = let P : FolderState → Type 0 =
          λ n. NoneFrom n.calls n.failing in subst P (sym called.2) (still_none s.calls s.failing counts.calls none);
    }

pub Called-short : {A : Type 0} (s now : FolderState) (row : Option (After A)) (result : Result A FolderStop)
    → (result ≡ Err NoMemory → ⊥) → Called s now row result → now.short ≡ s.short
Called-short s now row (Ok answer) wants called =
    ap (λ (n : FolderState). n.short) (Called-Ok s now row answer called).left
Called-short s now row (Err Failed) wants called = ap (λ (n : FolderState). n.short) (Called-Failed s now row called).0
Called-short s now row (Err NoMemory) wants called = absurd (wants refl)
