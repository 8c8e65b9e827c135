-- A walk over a list from its front: what is left from a place on, one element at a time.
use Rattle.std.proofs.Common.{◌≡◌, ◌∙◌, ℕ, ◌+◌, Bool, true, false, cond, List, [], ◌∷◌, ◌++◌, drop, Option, Some, None}
use Rattle.std.proofs.Common.{map, filter, refl, ap, sym, append_assoc}
use Rattle.std.specs.Prelude.{slice_get}
use Rattle.std.specs.List.{list_any, position_from}
use Rattle.elf_loader.proofs.Texts.{drop-got}

chosen : {X Y : Type 0} (f : X → Y) (b : Bool) (x : X) (rest xs : List X) (ys all : List Y)
    → xs ≡ cond b (x ∷ rest) rest
    → ys ++ map f xs ≡ all → (ys ++ map f (cond b (x ∷ []) [])) ++ map f rest ≡ all
chosen f true x rest xs ys all e h = append_assoc ys (f x ∷ []) (map f rest) ∙ sym (ap (λ zs. ys ++ map f zs) e) ∙ h
chosen f false x rest xs ys all e h = append_assoc ys [] (map f rest) ∙ sym (ap (λ zs. ys ++ map f zs) e) ∙ h

moved : {X Y : Type 0} (f : X → Y) (p : X → Bool) (x : X) (rest : List X) (ys all : List Y)
    → ys ++ map f (filter p (x ∷ rest)) ≡ all
    → (ys ++ map f (filter p (x ∷ []))) ++ map f (filter p rest) ≡ all
moved f p x rest ys all h = chosen f (p x) x (filter p rest) (filter p (x ∷ rest)) ys all refl h

module _ {X : Type 0} (p : X → Bool) (xs : List X) (i : ℕ) (x : X) (got : slice_get xs i ≡ Some x) where
  pub list_any-here : p x ≡ true → list_any p (drop i xs) ≡ true
  list_any-here passes = rw (drop-got xs i x got) (rw passes refl)

  pub list_any-next : p x ≡ false → list_any p (drop i xs) ≡ list_any p (drop (i + 1) xs)
  list_any-next fails = rw (drop-got xs i x got) (rw fails refl)

  pub position-here : (k : ℕ) → p x ≡ true → position_from p k (drop i xs) ≡ Some k
  position-here k passes = rw (drop-got xs i x got) (rw passes refl)

  pub position-next : (k : ℕ) → p x ≡ false → position_from p k (drop i xs) ≡ position_from p (k + 1) (drop (i + 1) xs)
  position-next k fails = rw (drop-got xs i x got) (rw fails refl)

  pub filter-step : {Y : Type 0} (f : X → Y) (ys all : List Y) → ys ++ map f (filter p (drop i xs)) ≡ all
      → (ys ++ map f (filter p (x ∷ []))) ++ map f (filter p (drop (i + 1) xs)) ≡ all
  filter-step f ys all h =
      moved f p x (drop (i + 1) xs) ys all (sym (ap (λ rest. ys ++ map f (filter p rest)) (drop-got xs i x got)) ∙ h)

cond-none : {X : Type 0} (b : Bool) (x : X) (o : Option X) → cond b (Some x) o ≡ None → (b ≡ false) × (o ≡ None)
cond-none true x o h = cc
cond-none false x o h = (refl, h)

-- where no element passes, the front one does not, and none of the rest
pub position-none : {X : Type 0} (p : X → Bool) (k : ℕ) (x : X) (xs : List X) → position_from p k (x ∷ xs) ≡ None
    → (p x ≡ false) × (position_from p (k + 1) xs ≡ None)
position-none p k x xs h = cond-none (p x) k (position_from p (k + 1) xs) h

-- what one element leaves of a filtered list of it
pub filter-one : {X Y : Type 0} (f : X → Y) (p : X → Bool) (x : X) → p x ≡ true → map f (filter p (x ∷ [])) ≡ f x ∷ []
filter-one f p x passes = rw passes refl

pub filter-none : {X Y : Type 0} (f : X → Y) (p : X → Bool) (x : X) → p x ≡ false → map f (filter p (x ∷ [])) ≡ []
filter-none f p x fails = rw fails refl
