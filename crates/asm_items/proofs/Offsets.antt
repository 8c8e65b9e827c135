-- Offsets between places that are counted in words.
use Rattle.std.proofs.Common.{◌≡◌, ℕ, ◌*◌, ◌-◌, inl, inr, ℤ, pos, negsuc, ◌≤ℤ◌, ◌<ℤ◌, true, false, subst, sym, arith}
use Rattle.std.proofs.lemmas.Int.{ints}
use Rattle.std.proofs.lemmas.Bool.{cases_lt}
use Rattle.rv_decode.specs.Fits.{IsEven}
use Rattle.asm_items.specs.ItemMeaning.{offset, is_within}

-- it is a multiple of four, whatever the base
pub offset_even : (base place target : ℕ) → IsEven (offset base place target)
offset_even base place target = elim (cases_lt target place) [
  | inl behind ↦
      let e : offset base place target ≡ negsuc (4 * (place - target) - 1) = omega (arith, ints) in
      subst (λ (z : ℤ). IsEven z) (sym e) (omega arith)
  | inr ahead ↦
      let e : offset base place target ≡ pos (4 * (target - place)) = omega (arith, ints) in
      subst (λ (z : ℤ). IsEven z) (sym e) (omega arith)
]

pub is_within_true : (least greatest z : ℤ) → least ≤ℤ z → z ≤ℤ greatest → is_within least greatest z ≡ true
is_within_true least greatest z h k = grind (arith, ints)

pub is_within_low : (least greatest z : ℤ) → z <ℤ least → is_within least greatest z ≡ false
is_within_low least greatest z h = grind (arith, ints)

pub is_within_high : (least greatest z : ℤ) → greatest <ℤ z → is_within least greatest z ≡ false
is_within_high least greatest z h = grind (arith, ints)
