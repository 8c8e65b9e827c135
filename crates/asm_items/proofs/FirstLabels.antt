-- A map that is given the first label of a name.
use Rattle.std.proofs.Common.{◌≡◌, ℕ, List, Bool, true, false, cond, Option, Some, None, refl, sym, ap, ◌∙◌, bytes_eq}
use Rattle.std.specs.Option.{option_or}
use Rattle.std.specs.Map.{update}
use Rattle.std.proofs.lemmas.Slice.Eq.{bytes_eq-Decides}

or_none : {X : Type 0} (x : Option X) → x ≡ option_or x None
or_none None = refl
or_none (Some y) = refl

put_at : {X : Type 0} (b : Bool) (x : Option X) (y : X) → (b ≡ true → x ≡ None)
    → cond b (Some y) x ≡ option_or x (cond b (Some y) None)
put_at true x y free = ap (λ (o : Option _). option_or o (Some y)) (sym (free refl))
put_at false x y free = or_none x

-- at a name that the map does not have yet
pub first_put : {X : Type 0} (f : List ℕ → Option X) (bytes name : List ℕ) (y : X) → f bytes ≡ None →
    update bytes_eq f bytes (Some y) name ≡ option_or (f name) (cond (bytes_eq bytes name) (Some y) None)
first_put f bytes name y free =
    put_at (bytes_eq bytes name) (f name) y (λ same. ap f (sym ((bytes_eq-Decides bytes name).0 same)) ∙ free)
