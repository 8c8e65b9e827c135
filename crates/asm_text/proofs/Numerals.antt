-- Decimal digits are read as the number that they were written for.
use Rattle.std.proofs.Common.{◌≡◌, ℕ, ◌+◌, ◌*◌, ◌/◌, ◌%◌, ◌<◌, ◌≤◌, ◌^◌, true, cond, ltb, List, [], ◌∷◌, ◌++◌, Option}
use Rattle.std.proofs.Common.{Some, None, refl, ap, ◌∙◌, arith}
use Rattle.std.proofs.lemmas.Bool.Decides.{nat_tests}
use Rattle.std.proofs.lemmas.Grind.{common_steps}
use Rattle.std.proofs.lemmas.Fmt.{decimal_by_steps}
use Rattle.std.specs.Fmt.{decimal}
use Rattle.std.specs.List.{list_all}
use Rattle.asm_items.specs.Names.{is_digit}
use Rattle.asm_text.specs.Pieces.{digit, digit_value, given, more_digits}

value-below : (k : ℕ) → k < 10 → digit_value (48 + k) ≡ Some k
value-below k h = grind (arith, nat_tests)

kept : (k : ℕ) → k < 10 → cond (ltb k 10) (Some k) None ≡ Some k
kept k h = grind (arith, nat_tests)

digit-below : (k : ℕ) → k < 10 → digit 10 (48 + k) ≡ Some k
digit-below k h =
    ap (λ (o : Option ℕ). given o (λ d. cond (ltb d 10) (Some d) None)) (value-below k h) ∙ kept k h

is_digit-below : (k : ℕ) → k < 10 → is_digit (48 + k) ≡ true
is_digit-below k h = grind (arith, nat_tests)

-- one digit more
add_digit : Option ℕ → ℕ → Option ℕ
add_digit so_far byte = given so_far (λ n. given (digit 10 byte) (λ d. Some (n * 10 + d)))

over : (o : Option ℕ) (so_far byte : ℕ) (bytes : List ℕ) →
    ((n : ℕ) → more_digits 10 n (bytes ++ byte ∷ []) ≡ add_digit (more_digits 10 n bytes) byte) →
    given o (λ d. more_digits 10 (so_far * 10 + d) (bytes ++ byte ∷ [])) ≡ add_digit
    (given o (λ d. more_digits 10 (so_far * 10 + d) bytes)) byte
unfolding add_digit
over None so_far byte bytes h = refl
over (Some d) so_far byte bytes h = h (so_far * 10 + d)

more_digits-last : (bytes : List ℕ) (byte n : ℕ) →
    more_digits 10 n (bytes ++ byte ∷ []) ≡ add_digit (more_digits 10 n bytes) byte
unfolding add_digit
more_digits-last [] byte n = refl
more_digits-last (first ∷ bytes) byte n = over (digit 10 first) n byte bytes (λ k. more_digits-last bytes byte k)

pub record Reads (n : ℕ) (bytes : List ℕ) : Type 0 where
  pub read : more_digits 10 0 bytes ≡ Some n
  pub digits_only : list_all is_digit bytes ≡ true

one : (n : ℕ) → n < 10 → Reads n ((48 + n) ∷ [])
one n h = record {
  read = ap (λ (o : Option ℕ). given o (λ d. Some (0 * 10 + d))) (digit-below n h)
      ∙ ap (λ (k : ℕ). Some k) (omega arith);
  digits_only = rw (is_digit-below n h) refl;
}

all-last : (bytes : List ℕ) (byte : ℕ) → list_all is_digit bytes ≡ true → is_digit byte ≡ true →
    list_all is_digit (bytes ++ byte ∷ []) ≡ true
all-last bytes byte h k = grind (arith, common_steps)

more : (n : ℕ) (bytes : List ℕ) → 10 ≤ n → Reads (n / 10) bytes → Reads n (bytes ++ ((48 + n % 10) ∷ []))
unfolding add_digit
more n bytes h r = record {
  read = more_digits-last bytes (48 + n % 10) 0
      ∙ ap (λ (o : Option ℕ). add_digit o (48 + n % 10)) r.read
      ∙ ap (λ (o : Option ℕ). given o (λ d. Some (n / 10 * 10 + d))) (digit-below (n % 10) (omega arith))
      ∙ ap (λ (k : ℕ). Some k) (omega arith);
  digits_only = all-last bytes (48 + n % 10) r.digits_only (is_digit-below (n % 10) (omega arith));
}

pub decimal-reads : (n : ℕ) → n < 2 ^ 64 → Reads n (decimal n)
decimal-reads n h = decimal_by_steps Reads one more n h
