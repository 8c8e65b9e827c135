-- Which words are numbers between two others.
use Rattle.std.proofs.Common.{◌≡◌, ◌∙◌, ◌<◌, ◌≤◌, ℕ, List, length, ◌&&◌, true, nat_lt, nat_le, Some, None, Result, Ok, Err, OkIff, ap, sym, arith}
use borrow.Author.Tests.{lt-ltb, ltb-true, le-leb, leb-true}
use Rattle.std.proofs.lemmas.Str.Parse.{IsNumeralModel, numerals_by_value, tells_all_ascii_digits}
use Rattle.std.specs.Str.{all_ascii_digits}
use Rattle.std.specs.Str.Parse.{digits_value}
use Rattle.spike_front.specs.Words.{is_numeral, number_within}
use Rattle.spike_front.proofs.Choices.{and_left, and_right, and_true, if_true, none_unless}

-- decimal digits and what they write, as `parse` has it
pub decimals : IsNumeralModel (λ ds. all_ascii_digits ds ≡ true) (digits_value 10)
decimals = numerals_by_value _ tells_all_ascii_digits

-- what an exact result says where it is an Ok, and where it is an Err
pub when_ok : {E : Type 0} (r : Result ℕ E) (Q : Type 0) (v n : ℕ) → OkIff r Q v → r ≡ Ok n → Q × (n ≡ v)
when_ok (Ok m) Q v n exact is = let same : n ≡ m = cc in (exact.0, same ∙ exact.1)
when_ok (Err e) Q v n exact is = cc

pub when_err : {E : Type 0} (r : Result ℕ E) (Q : Type 0) (v : ℕ) (e : E) → OkIff r Q v → r ≡ Err e → Q → ⊥
when_err (Ok m) Q v e exact is = cc
when_err (Err f) Q v e exact is = exact

pub number_taken : (least most n : ℕ) (word : List ℕ) → all_ascii_digits word ≡ true → 0 < length word → length word ≤ 20 → n ≡ digits_value 10 word
    → least ≤ n → n ≤ most → number_within least most word ≡ Some n
number_taken least most n word digits some short same low high =
    let numeral : is_numeral word ≡ true = and_true (nat_lt 0 (length word) && nat_le (length word) 20) (all_ascii_digits word) (and_true (nat_lt 0 (length word)) (nat_le (length word) 20) (lt-ltb 0 (length word) some) (le-leb (length word) 20 short)) digits in
    let above : nat_le least (digits_value 10 word) ≡ true = le-leb least (digits_value 10 word) (omega arith) in
    let below : nat_le (digits_value 10 word) most ≡ true = le-leb (digits_value 10 word) most (omega arith) in
    if_true (is_numeral word && nat_le least (digits_value 10 word) && nat_le (digits_value 10 word) most) (Some (digits_value 10 word)) None
    (and_true (is_numeral word && nat_le least (digits_value 10 word)) (nat_le (digits_value 10 word) most) (and_true (is_numeral word) (nat_le least (digits_value 10 word)) numeral above) below)
    ∙ ap Some (sym same)

pub number_refused : (least most : ℕ) (word : List ℕ)
    → (all_ascii_digits word ≡ true → 0 < length word → least ≤ digits_value 10 word → digits_value 10 word ≤ most → ⊥)
    → number_within least most word ≡ None
number_refused least most word never =
    none_unless (is_numeral word && nat_le least (digits_value 10 word) && nat_le (digits_value 10 word) most) (digits_value 10 word) (λ holds.
    let both : (is_numeral word && nat_le least (digits_value 10 word)) ≡ true = and_left (is_numeral word && nat_le least (digits_value 10 word)) (nat_le (digits_value 10 word) most) holds in
    let numeral : is_numeral word ≡ true = and_left (is_numeral word) (nat_le least (digits_value 10 word)) both in
    let some : nat_lt 0 (length word) ≡ true = and_left (nat_lt 0 (length word)) (nat_le (length word) 20) (and_left (nat_lt 0 (length word) && nat_le (length word) 20) (all_ascii_digits word) numeral) in
    never
    (and_right (nat_lt 0 (length word) && nat_le (length word) 20) (all_ascii_digits word) numeral)
    (ltb-true 0 (length word) some)
    (leb-true least (digits_value 10 word) (and_right (is_numeral word) (nat_le least (digits_value 10 word)) both))
    (leb-true (digits_value 10 word) most (and_right (is_numeral word && nat_le least (digits_value 10 word)) (nat_le (digits_value 10 word) most) holds)))
