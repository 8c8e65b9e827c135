-- Numbers that digits spell.
use Rattle.std.proofs.Common.{◌≡◌, ℕ, ◌+◌, ◌*◌, ◌<◌, ◌≤◌, ◌^◌, List, [], ◌∷◌, length, drop, get_or, ap, ◌∙◌, Option}
use Rattle.std.proofs.Common.{Some, None, refl, arith}
use Rattle.std.proofs.lemmas.Bool.Decides.{nat_tests}
use Rattle.std.proofs.lemmas.List.{at_drop_more}
use Rattle.std.proofs.Math.Nat.{le-mul_of_pos_right}
use Rattle.asm_text.specs.Pieces.{digit, given, more_digits, small}

large-given : (base so_far : ℕ) (bytes : List ℕ) (d : Option ℕ) → 0 < base → 2 ^ 64 ≤ so_far →
    ((n : ℕ) → 2 ^ 64 ≤ n → small (more_digits base n bytes) ≡ None) →
    small (given d (λ d. more_digits base (so_far * base + d) bytes)) ≡ None
large-given base so_far bytes None pos_is large more = refl
large-given base so_far bytes (Some d) pos_is large more =
    more (so_far * base + d) (omega (arith, le-mul_of_pos_right {m = base} so_far pos_is))

large : (base : ℕ) (bytes : List ℕ) → 0 < base → (n : ℕ) → 2 ^ 64 ≤ n → small (more_digits base n bytes) ≡ None
large base [] pos_is n h = grind (arith, nat_tests)
large base (byte ∷ bytes) pos_is n h = large-given base n bytes (digit base byte) pos_is h (large base bytes pos_is)

small-none : (k : ℕ) → small (Some k) ≡ None → 2 ^ 64 ≤ k
small-none k h = grind (arith, nat_tests)

-- a digit that makes the number too large leaves it so
pub overflowed : (base n i d : ℕ) (text : List ℕ) → 0 < base → i < length text → digit base (get_or text i 0) ≡ Some d →
    small (Some (n * base + d)) ≡ None → small (more_digits base n (drop i text)) ≡ None
overflowed base n i d text pos_is below is none =
    ap (λ (rest : List ℕ). small (more_digits base n rest)) (at_drop_more (λ (rest : List ℕ). rest) text i 0 below)
    ∙ ap (λ (o : Option ℕ). small (given o (λ d. more_digits base (n * base + d) (drop (i + 1) text)))) is
    ∙ large base (drop (i + 1) text) pos_is (n * base + d) (small-none (n * base + d) none)
