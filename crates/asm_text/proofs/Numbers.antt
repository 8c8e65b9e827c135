-- Numbers too large for a field.
use Rattle.std.proofs.Common.{◌≡◌, ℕ, zero, suc, ◌<◌, ◌≤◌, ◌^◌, inl, inr, ℤ, pos, negsuc, neg_ℤ, ◌≤ℤ◌, Bool, true}
use Rattle.std.proofs.Common.{false, cond, List, [], ◌∷◌, drop, Option, Some, None, refl, sym, ap, ◌∙◌, arith}
use Rattle.std.proofs.lemmas.Bool.{cases_lt}
use Rattle.std.proofs.lemmas.Bool.Decides.{nat_tests}
use Rattle.std.proofs.lemmas.Int.{ints}
use Rattle.asm_items.specs.ItemMeaning.{is_within}
use Rattle.asm_text.specs.Pieces.{digits, natural_within, negative, number_of, positive, small, small_number, within}

small_fits : (n : ℕ) → n < 2 ^ 64 → small (Some n) ≡ Some n
small_fits n h = grind (arith, nat_tests)

small_large : (n : ℕ) → 2 ^ 64 ≤ n → small (Some n) ≡ None
small_large n h = grind (arith, nat_tests)

above : (l g : ℤ) (n : ℕ) → g ≤ℤ pos 18446744073709551615 → 2 ^ 64 ≤ n → is_within l g (pos n) ≡ false
above l g n h k = grind (arith, ints)

below : (l g : ℤ) (n : ℕ) → negsuc 18446744073709551614 ≤ℤ l → 2 ^ 64 ≤ n → is_within l g (neg_ℤ (pos n)) ≡ false
below l g n h k = grind (arith, ints)

none-within : (l g z : ℤ) → is_within l g z ≡ false → within l g (Some z) ≡ None
none-within l g z h = rw h refl

positive-within : (l g : ℤ) (d : Option ℕ) → g ≤ℤ pos 18446744073709551615 →
    within l g (positive (small d)) ≡ within l g (positive d)
positive-within l g None h = refl
positive-within l g (Some n) h = elim (cases_lt n (2 ^ 64)) [
  | inl k ↦ ap (λ (o : Option ℕ). within l g (positive o)) (small_fits n k)
  | inr k ↦ ap (λ (o : Option ℕ). within l g (positive o)) (small_large n k)
      ∙ sym (none-within l g (pos n) (above l g n h k))
]

negative-within : (l g : ℤ) (d : Option ℕ) → negsuc 18446744073709551614 ≤ℤ l →
    within l g (negative (small d)) ≡ within l g (negative d)
negative-within l g None h = refl
negative-within l g (Some n) h = elim (cases_lt n (2 ^ 64)) [
  | inl k ↦ ap (λ (o : Option ℕ). within l g (negative o)) (small_fits n k)
  | inr k ↦ ap (λ (o : Option ℕ). within l g (negative o)) (small_large n k)
      ∙ sym (none-within l g (neg_ℤ (pos n)) (below l g n h k))
]

choose : (X : Type 0) (f : Option ℤ → X) (b c : Bool) (x y z u v w : Option ℤ) → f x ≡ f u → f y ≡ f v → f z ≡ f w →
    f (cond b x (cond c y z)) ≡ f (cond b u (cond c v w))
choose X f true c x y z u v w p q r = p
choose X f false true x y z u v w p q r = q
choose X f false false x y z u v w p q r = r

pub small_number_within : (l g : ℤ) (piece : List ℕ) → negsuc 18446744073709551614 ≤ℤ l →
    g ≤ℤ pos 18446744073709551615 →
    within l g (small_number piece) ≡ within l g (number_of piece)
small_number_within l g [] h k = refl
small_number_within l g (byte ∷ bytes) h k =
    choose (Option ℤ) (λ (o : Option ℤ). within l g o) _ _ _ _ _ _ _ _
    (negative-within l g (digits 10 bytes) h) (positive-within l g (digits 16 (drop 1 bytes)) k)
    (positive-within l g (digits 10 (byte ∷ bytes)) k)

positive-natural : (g : ℕ) (d : Option ℕ) → g < 2 ^ 64 →
    natural_within g (positive (small d)) ≡ natural_within g (positive d)
positive-natural g None h = refl
positive-natural g (Some n) h = elim (cases_lt n (2 ^ 64)) [
  | inl k ↦ ap (λ (o : Option ℕ). natural_within g (positive o)) (small_fits n k)
  | inr k ↦ ap (λ (o : Option ℕ). natural_within g (positive o)) (small_large n k) ∙ grind (arith, nat_tests)
]

negative-natural : (g : ℕ) (d : Option ℕ) → g < 2 ^ 64 →
    natural_within g (negative (small d)) ≡ natural_within g (negative d)
negative-natural g None h = refl
negative-natural g (Some zero) h = refl
negative-natural g (Some (suc n)) h = elim (cases_lt (suc n) (2 ^ 64)) [
  | inl k ↦ ap (λ (o : Option ℕ). natural_within g (negative o)) (small_fits (suc n) k)
  | inr k ↦ ap (λ (o : Option ℕ). natural_within g (negative o)) (small_large (suc n) k)
]

pub small_number_natural : (g : ℕ) (piece : List ℕ) → g < 2 ^ 64 →
    natural_within g (small_number piece) ≡ natural_within g (number_of piece)
small_number_natural g [] h = refl
small_number_natural g (byte ∷ bytes) h =
    choose (Option ℕ) (λ (o : Option ℤ). natural_within g o) _ _ _ _ _ _ _ _
    (negative-natural g (digits 10 bytes) h) (positive-natural g (digits 16 (drop 1 bytes)) h)
    (positive-natural g (digits 10 (byte ∷ bytes)) h)
