-- What is written of a register, a number, a place or a name is read as it.
use Rattle.std.proofs.Common.{◌≡◌, ℕ, suc, ◌+◌, ◌-◌, ◌<◌, ◌≤◌, ◌^◌, ℤ, pos, negsuc, neg_ℤ, ◌≤ℤ◌, Bool, true, false}
use Rattle.std.proofs.Common.{◌&&◌, ◌||◌, ◌==◌, cond, leb, List, [], ◌∷◌, ◌++◌, length, drop, Option, Some, None}
use Rattle.std.proofs.Common.{Result, Ok, Err, refl, ap, ◌∙◌, length-append, arith}
use Rattle.std.proofs.lemmas.Bool.Decides.{nat_tests}
use Rattle.std.proofs.lemmas.Fmt.{decimal_nonempty}
use Rattle.std.proofs.lemmas.Grind.{common_steps}
use Rattle.std.proofs.lemmas.Int.{ints}
use Rattle.std.proofs.lemmas.List.{take_at}
use Rattle.std.specs.Fmt.{decimal, signed_decimal}
use Rattle.std.specs.List.{list_all}
use Rattle.asm_items.specs.ItemMeaning.{is_within}
use Rattle.asm_items.specs.Names.{begins_with, is_digit, is_letter, is_name, is_name_byte}
use Rattle.asm_table.specs.Cuts.{before, behind}
use Rattle.asm_text.specs.Layout.{ends_with, without_last}
use Rattle.asm_text.specs.Pieces.{◌>>=◌, begins, digits, fault_at, inside_brackets, more_digits, name, natural}
use Rattle.asm_text.specs.Pieces.{natural_within, negative, number, number_of, or_fault, place, positive, register}
use Rattle.asm_text.specs.Pieces.{within}
use Rattle.asm_text.specs.Printing.{place_text, reg}
use Rattle.asm_text.specs.declared.fault.TextKind.{TextKind}
use Rattle.asm_text.specs.declared.fault.TextKind.TheVariants.{BadLabel, BadLine, BadNumber}
use Rattle.asm_text.proofs.Back.{IsPiece, SpellsAs}
use Rattle.asm_text.proofs.Cleanly.{and_first, and_second, before-stop, behind-stop, differs}
use Rattle.asm_text.proofs.Forms.{is_clean}
use Rattle.asm_text.proofs.LineLemmas.{all-append}
use Rattle.asm_text.proofs.Numerals.{decimal-reads}
use Rattle.asm_text.proofs.RoundTrip.{digits-clean, reg-spells}

pub reg-piece : (n : ℕ) → n < 32 → SpellsAs register n (reg n)
reg-piece n h =
    let s = reg-spells n h in
    record { reads = s.reads; piece = record { clean = s.clean; there = omega arith } }

no-begin : (bytes : List ℕ) → list_all is_digit bytes ≡ true → begins 120 bytes ≡ false
no-begin [] h = refl
no-begin (byte ∷ bytes) h = differs is_digit 120 byte refl (and_first (is_digit byte) (list_all is_digit bytes) h)

both-false : (a b : Bool) → b ≡ false → (a && b) ≡ false
both-false true b h = h
both-false false b h = refl

digits-number : (bytes : List ℕ) (n : ℕ) → list_all is_digit bytes ≡ true → 0 < length bytes →
    more_digits 10 0 bytes ≡ Some n →
    number_of bytes ≡ Some (pos n)
digits-number [] n h there read = absurd (omega (arith, there))
digits-number (byte ∷ bytes) n h there read =
    let no_minus = differs is_digit 45 byte refl (and_first (is_digit byte) (list_all is_digit bytes) h) in
    let no_hex = both-false (byte == 48) (begins 120 bytes)
    (no-begin bytes (and_second (is_digit byte) (list_all is_digit bytes) h)) in
    ap (λ (b : Bool). cond b (negative (digits 10 bytes))
    (cond (byte == 48 && begins 120 bytes) (positive (digits 16 (drop 1 bytes))) (positive (digits 10 (byte ∷ bytes)))))
    no_minus
    ∙ ap (λ (b : Bool). cond b (positive (digits 16 (drop 1 bytes))) (positive (digits 10 (byte ∷ bytes)))) no_hex
    ∙ ap (λ (o : Option ℕ). positive o) read

minus-number : (bytes : List ℕ) (n : ℕ) → 0 < length bytes → more_digits 10 0 bytes ≡ Some n →
    number_of (45 ∷ bytes) ≡ Some (neg_ℤ (pos n))
minus-number [] n there read = absurd (omega (arith, there))
minus-number (byte ∷ bytes) n there read = ap (λ (o : Option ℕ). negative o) read

-- numbers whose magnitude fits
abbrev pub is_small : ℤ → Type 0
is_small (pos n) = n < 2 ^ 64
is_small (negsuc n) = n + 1 < 2 ^ 64

number-back : (z : ℤ) → is_small z → number_of (signed_decimal z) ≡ Some z
number-back (pos n) h =
    let r = decimal-reads n h in digits-number (decimal n) n r.digits_only (decimal_nonempty n h) r.read
number-back (negsuc n) h =
    let fits : suc n < 2 ^ 64 = omega (arith, h) in
    minus-number (decimal (suc n)) (suc n) (decimal_nonempty (suc n) fits) (decimal-reads (suc n) fits).read

decimal-piece : (n : ℕ) → n < 2 ^ 64 → IsPiece (decimal n)
decimal-piece n h = record {
  clean = digits-clean (decimal n) (decimal-reads n h).digits_only;
  there =
      decimal_nonempty n h;
}

signed-piece : (z : ℤ) → is_small z → IsPiece (signed_decimal z)
signed-piece (pos n) h = decimal-piece n h
signed-piece (negsuc n) h =
    let fits : suc n < 2 ^ 64 = omega (arith, h) in
    record { clean = (decimal-piece (suc n) fits).clean; there = omega arith }

is_within-is : (l g z : ℤ) → l ≤ℤ z → z ≤ℤ g → is_within l g z ≡ true
is_within-is l g z h k = grind (arith, ints)

pub number-piece : (l g z : ℤ) → l ≤ℤ z → z ≤ℤ g → is_small z → SpellsAs (number l g) z (signed_decimal z)
number-piece l g z h k fits = record {
  reads = ap (λ (o : Option ℤ). or_fault (within l g o) (signed_decimal z) BadNumber) (number-back z fits)
      ∙ ap (λ (b : Bool). or_fault (cond b (Some z) None) (signed_decimal z) BadNumber) (is_within-is l g z h k);
  piece = signed-piece z fits;
}

at-most : (n g : ℕ) → n ≤ g → leb n g ≡ true
at-most n g h = grind (arith, nat_tests)

pub natural-piece : (g n : ℕ) → n ≤ g → n < 2 ^ 64 → SpellsAs (natural g) n (decimal n)
natural-piece g n h fits = record {
  reads = ap (λ (o : Option ℤ). or_fault (natural_within g o) (decimal n) BadNumber) (number-back (pos n) fits)
      ∙ ap (λ (b : Bool). or_fault (cond b (Some n) None) (decimal n) BadNumber) (at-most n g h);
  piece = decimal-piece n fits;
}

-- names
name-clean : (bytes : List ℕ) → list_all is_name_byte bytes ≡ true → list_all is_clean bytes ≡ true
name-clean [] h = refl
name-clean (byte ∷ bytes) h =
    rw (and_first (is_name_byte byte) (list_all is_name_byte bytes) h)
    (name-clean bytes (and_second (is_name_byte byte) (list_all is_name_byte bytes) h))

some-there : (bytes : List ℕ) → begins_with is_letter bytes ≡ true → 0 < length bytes
some-there [] h = cc
some-there (byte ∷ bytes) h = omega arith

name-is-piece : (bytes : List ℕ) → is_name bytes ≡ true → IsPiece bytes
unfolding is_name
name-is-piece bytes h = record {
  clean = name-clean bytes (and_second (begins_with is_letter bytes && leb (length bytes) 31)
      (list_all is_name_byte bytes) h);
  there = some-there bytes (and_first (begins_with is_letter bytes) (leb (length bytes) 31)
      (and_first (begins_with is_letter bytes && leb (length bytes) 31) (list_all is_name_byte bytes) h));
}

pub name-piece : (bytes : List ℕ) → is_name bytes ≡ true → SpellsAs name bytes bytes
name-piece bytes h = record {
  reads = ap (λ (b : Bool). cond b (Ok bytes) (Err (fault_at bytes BadLabel))) h;
  piece = name-is-piece bytes h;
}

-- places in memory
abbrev is_number_byte : ℕ → Bool
is_number_byte byte = is_digit byte || byte == 45

digits-number_bytes : (bytes : List ℕ) → list_all is_digit bytes ≡ true → list_all is_number_byte bytes ≡ true
digits-number_bytes [] h = refl
digits-number_bytes (byte ∷ bytes) h =
    rw (and_first (is_digit byte) (list_all is_digit bytes) h)
    (digits-number_bytes bytes (and_second (is_digit byte) (list_all is_digit bytes) h))

signed-number_bytes : (z : ℤ) → is_small z → list_all is_number_byte (signed_decimal z) ≡ true
signed-number_bytes (pos n) h = digits-number_bytes (decimal n) (decimal-reads n h).digits_only
signed-number_bytes (negsuc n) h =
    digits-number_bytes (decimal (suc n)) (decimal-reads (suc n) (omega (arith, h))).digits_only

pub last-is : (bytes : List ℕ) (byte : ℕ) → ends_with byte (bytes ++ byte ∷ []) ≡ true
last-is bytes byte = grind (arith, nat_tests, common_steps)

pub without-it : (bytes : List ℕ) (byte : ℕ) → without_last (bytes ++ byte ∷ []) ≡ bytes
without-it bytes byte = take_at bytes (byte ∷ []) (length (bytes ++ byte ∷ []) - 1)
    (omega (arith, length-append bytes (byte ∷ [])))

abbrev both : Result ℤ TextKind → Result ℕ TextKind → Result (ℤ × ℕ) TextKind
both found base = do
  z ← found
  n ← base
  Ok (z, n)

abbrev bracketed : Bool → List ℕ → List ℕ → Result (ℤ × ℕ) TextKind
bracketed closed first second = cond closed (both (number (negsuc 2047) (pos 2047) first) (register second))
    (Err BadLine)

pub place-piece : (z : ℤ) (base : ℕ) → negsuc 2047 ≤ℤ z → z ≤ℤ pos 2047 → is_small z → base < 32 →
    SpellsAs place (z, base) (place_text z base)
place-piece z base h k fits below =
    let bytes = signed-number_bytes z fits in
    let front : before 40 (signed_decimal z ++ (40 ∷ (reg base ++ 41 ∷ []))) ≡ signed_decimal z =
    before-stop is_number_byte 40 (signed_decimal z) (reg base ++ 41 ∷ []) refl bytes in
    let back : behind 40 (signed_decimal z ++ (40 ∷ (reg base ++ 41 ∷ []))) ≡ Some (reg base ++ 41 ∷ []) =
    behind-stop is_number_byte 40 (signed_decimal z) (reg base ++ 41 ∷ []) refl bytes in
    let one = number-piece (negsuc 2047) (pos 2047) z h k fits in
    let two = reg-piece base below in
    record {
      reads = ap (λ (o : Option (List ℕ)). inside_brackets (place_text z base) o) back
          ∙ ap (λ (b : Bool). bracketed b (before 40 (place_text z base)) (without_last (reg base ++ 41 ∷ [])))
          (last-is (reg base) 41)
          ∙ ap (λ (w : List ℕ). bracketed true w (without_last (reg base ++ 41 ∷ []))) front
          ∙ ap (λ (w : List ℕ). bracketed true (signed_decimal z) w) (without-it (reg base) 41)
          ∙ ap (λ (r : Result ℤ TextKind). both r (register (reg base))) one.reads
          ∙ ap (λ (r : Result ℕ TextKind). both (Ok z) r) two.reads;
      piece = record {
        clean = all-append is_clean (signed_decimal z) (40 ∷ (reg base ++ 41 ∷ [])) one.piece.clean
            (all-append is_clean (reg base) (41 ∷ []) two.piece.clean refl);
        there = omega (arith, length-append (signed_decimal z) (40 ∷ (reg base ++ 41 ∷ [])), one.piece.there);
      };
    }
