-- Hexadecimal digits, one after the other.
use Rattle.std.proofs.Common.{◌≡◌, ℕ, zero, suc, ◌-◌, ◌/◌, ◌%◌, ◌<◌, ◌++◌, [], ◌∷◌, false, refl, ap, arith}
use Rattle.std.specs.Fmt.{digit_glyph}
use Rattle.fe_base.specs.Digits.{hexadecimal}

pub hexadecimal-none : (count number : ℕ) → count ≡ 0 → hexadecimal count number ≡ []
unfolding hexadecimal
hexadecimal-none zero number e = refl
hexadecimal-none (suc count) number e = absurd (omega arith)

pub hexadecimal-more : (count number : ℕ) → 0 < count →
    hexadecimal count number ≡ hexadecimal (count - 1) (number / 16) ++ digit_glyph false (number % 16) ∷ []
unfolding hexadecimal
hexadecimal-more zero number more = absurd (omega arith)
hexadecimal-more (suc count) number more =
    let less : count ≡ suc count - 1 = omega arith in
    ap (λ (n : ℕ). hexadecimal n (number / 16) ++ digit_glyph false (number % 16) ∷ []) less
