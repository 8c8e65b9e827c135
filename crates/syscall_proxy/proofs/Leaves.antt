-- Ends of texts.
use Rattle.std.proofs.Common.{◌≡◌, ℕ, Bool, true, false, List, [], ◌∷◌, Result, Ok, Err, refl, ap, sym, subst, ◌∙◌}
use Rattle.std.specs.Result.{IsErr, IsErrAnd}
use Rattle.host_text.specs.Played.{Acts, At, at, Played, ended, noted}
use Rattle.syscall_proxy.specs.Kept.{Kept, kept, acts}
use Rattle.fe_base.specs.declared.error_numbers.ErrNo.{ErrNo}
use Rattle.fe_base.specs.declared.error_numbers.ErrNo.TheVariants.{EINVAL, ENOTEMPTY}
use Rattle.folder_tree.specs.Paths.{Parts}
use Rattle.host_text.specs.Text.{Ask, RemoveDir}
use Rattle.syscall_proxy.specs.PathRows.{removed_dir, remove_dir_at, with_path}
use Rattle.syscall_proxy.specs.Rows.{done, refuse, folder_fault, Row}
use Rattle.host_text.specs.declared.open_numbers.Open.{Open}
use Rattle.syscall_proxy.specs.declared.answers.CallAnswer.{CallAnswer}
use Rattle.syscall_proxy.specs.declared.answers.CallAnswer.TheVariants.{Result as Value}
use Rattle.syscall_proxy.specs.declared.answers.CallFault.{CallFault}

-- what is kept, by its parts
pub kept-as : {n n' : List Open} {a a' : Bool} (w : List ℕ) → n' ≡ n → a' ≡ a → kept n' a' w ≡ kept n a w
kept-as {n} {n'} {a} {a'} w e f = ap (λ z. kept z a' w) e ∙ ap (λ z. kept n z w) f

-- the call acted by its answer, and nothing else was done
pub done-by : {X F I C : Type 0} {o : Acts X F I C} {x : X} {f : F} {i : I} {c : C} {value : ℕ} {n n' : List Open} {a
    a' : Bool} {w : List ℕ} {answer : CallAnswer}
    → answer ≡ Value value → a' ≡ true → n' ≡ n
    → Played {E = CallFault} o (done value) (at x f i c (kept n a w)) (Ok answer) (at x f i c (kept n' a' w))
done-by {n = n} {n' = n'} {w = w} e p q = noted (kept-as w q p) (ended (ap Ok e) refl)

-- what `?` hands on
pub residual : {A E : Type 0} (r : Result A E) (e : E) → IsErr r × IsErrAnd r (λ y. y ≡ e) → r ≡ Err e
residual (Ok a) e h = absurd (let no : ⊥ = cc in no)
residual (Err y) e h = ap Err h.1

-- unlinkat of a directory at a path of some parts
pub some-parts : {X F I C : Type 0} {o : Acts X F I C}
    (path place : Parts) {s s' : At X F I C Kept} {r : Result CallAnswer CallFault} → (path ≡ [] → ⊥)
    → Played o (Ask (RemoveDir place) folder_fault removed_dir) s r s' → Played o (remove_dir_at path place) s r s'
some-parts [] place some p = absurd (some refl)
some-parts (part ∷ path) place some p = p

-- and of none
pub no-parts : {X F I C : Type 0} {o : Acts X F I C}
    (path place : Parts) {s s' : At X F I C Kept} {r : Result CallAnswer CallFault} → path ≡ []
    → Played o (refuse EINVAL) s r s' → Played o (remove_dir_at path place) s r s'
no-parts [] place e p = p
no-parts (part ∷ path) place e p = let no : ⊥ = cc in absurd no

-- the result of an asked removal of a directory
pub dir-gone : {X F I C : Type 0} {o : Acts X F I C}
    (gone : Bool) {s s' : At X F I C Kept} {r : Result CallAnswer CallFault} → gone ≡ true → Played o (done 0) s r s'
    → Played o (removed_dir gone) s r s'
dir-gone true e p = p
dir-gone false e p = let no : ⊥ = cc in absurd no

pub dir-stays : {X F I C : Type 0} {o : Acts X F I C}
    (gone : Bool) {s s' : At X F I C Kept} {r : Result CallAnswer CallFault} → gone ≡ false
    → Played o (refuse ENOTEMPTY) s r s' → Played o (removed_dir gone) s r s'
dir-stays true e p = let no : ⊥ = cc in absurd no
dir-stays false e p = p

-- a path that was named, or not
pub named-by : {X F I C : Type 0} {o : Acts X F I C} {found : Result Parts ErrNo} {path : Parts}
    (next : Parts → Row) {s s' : At X F I C Kept} {r : Result CallAnswer CallFault} → found ≡ Ok path
    → Played o (next path) s r s' → Played o (with_path found next) s r s'
named-by {o = o} next {s = s} {s' = s'} {r = r} e p = let P : Result Parts ErrNo → Type 0 =
    λ f. Played o (with_path f next) s r s' in subst P (sym e) p

pub unnamed-by : {X F I C : Type 0} {o : Acts X F I C} {found : Result Parts ErrNo} {error : ErrNo}
    (next : Parts → Row) {s s' : At X F I C Kept} {r : Result CallAnswer CallFault} → found ≡ Err error
    → Played o (refuse error) s r s' → Played o (with_path found next) s r s'
unnamed-by {o = o} next {s = s} {s' = s'} {r = r} e p = let P : Result Parts ErrNo → Type 0 =
    λ f. Played o (with_path f next) s r s' in subst P (sym e) p

-- the same row
pub row-same : {X F I C : Type 0} {o : Acts X F I C} {one other : Row} {s s' : At X F I C Kept} {r : Result CallAnswer
    CallFault} → one ≡ other → Played o one s r s' → Played o other s r s'
row-same {o = o} {s = s} {s' = s'} {r = r} e p = let P : Row → Type 0 = λ t. Played o t s r s' in subst P e p
