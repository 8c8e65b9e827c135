-- What is read has no byte above 0x7F.
use Rattle.std.proofs.Common.{◌≡◌, ℕ, ◌+◌, ◌*◌, ℤ, Bool, true, false, ◌&&◌, ◌==◌, cond, nat_lt, not, List, [], ◌∷◌}
use Rattle.std.proofs.Common.{drop, Option, Some, None, refl, sym, ap, subst, arith}
use Rattle.std.proofs.lemmas.Bool.{false≢true}
use Rattle.std.proofs.lemmas.Bool.Decides.{nat_tests}
use Rattle.std.proofs.lemmas.Slice.Eq.{bytes_eq-Decides}
use Rattle.std.specs.List.{list_all, list_any}
use Rattle.std.specs.Str.{bytes_eq}
use Rattle.asm_items.specs.Names.{is_name}
use Rattle.asm_table.specs.Cuts.{before}
use Rattle.asm_table.specs.Registers.{register_in, register_of}
use Rattle.asm_table.specs.Table.{op_of}
use Rattle.asm_table.specs.declared.mnemonics.Op.{Op}
use Rattle.asm_table.specs.declared.registers.Register.{Register}
use Rattle.asm_table.specs.declared.registers.TheConstants.{REGISTERS}
use Rattle.asm_text.specs.Pieces.{begins, digit, digit_value, digits, given, is_empty, more_digits, negative, number_of}
use Rattle.asm_text.specs.Pieces.{positive, string_of, string_rest, string_step, with_front}
use Rattle.asm_text.specs.Reading.{is_high}
use Rattle.asm_text.specs.declared.strings.Step.{Step}
use Rattle.asm_text.specs.declared.strings.Step.TheVariants.{Add, Backslash, End, Bad}
use Rattle.asm_text.proofs.Cleanly.{and_first, and_second}
use Rattle.asm_text.proofs.FaultPlaces.{both-low, IsLow}
use Rattle.asm_text.proofs.Forms.{is_clean}
use Rattle.asm_text.proofs.LineLemmas.{clean-plain, plain-low}
use Rattle.asm_text.proofs.RoundTrip.{first-of-word, name-word}
use Rattle.asm_text.proofs.Written.{name-piece}
use Rattle.asm_text.proofs.StringLemmas.{stepped}

-- registers
abbrev has_low_name : Register → Bool
has_low_name row = not (list_any is_high (before 0 row.name))

low-of : (b : Bool) → not b ≡ true → b ≡ false
low-of true h = absurd (false≢true h)
low-of false h = refl

register-step : (same : Bool) (row : Register) (rows : List Register) (piece : List ℕ) (n : ℕ) →
    bytes_eq (before 0 row.name) piece ≡ same →
    has_low_name row ≡ true → (register_in rows piece ≡ Some n → IsLow piece) →
    cond same (Some row.number) (register_in rows piece) ≡ Some n → IsLow piece
register-step true row rows piece n e low more found =
    subst IsLow ((bytes_eq-Decides (before 0 row.name) piece).0 e) (low-of (list_any is_high (before 0 row.name)) low)
register-step false row rows piece n e low more found = more found

register-in : (rows : List Register) (piece : List ℕ) (n : ℕ) → list_all has_low_name rows ≡ true →
    register_in rows piece ≡ Some n → IsLow piece
register-in [] piece n h k = cc
register-in (row ∷ rows) piece n h k =
    register-step (bytes_eq (before 0 row.name) piece) row rows piece n refl
    (and_first (has_low_name row) (list_all has_low_name rows) h)
    (register-in rows piece n (and_second (has_low_name row) (list_all has_low_name rows) h)) k

registers-are-low : list_all has_low_name REGISTERS ≡ true
registers-are-low = refl

pub register-low : (piece : List ℕ) (n : ℕ) → register_of piece ≡ Some n → IsLow piece
unfolding register_of
register-low piece n h = register-in REGISTERS piece n registers-are-low h

-- numbers
no-digit : (byte : ℕ) → is_high byte ≡ true → digit_value byte ≡ None
no-digit byte h = grind (arith, nat_tests)

digit-step : (high : Bool) (base byte d : ℕ) → is_high byte ≡ high → digit base byte ≡ Some d → high ≡ false
digit-step true base byte d e h =
    let none : digit base byte ≡ None = ap (λ (o : Option ℕ). given o (λ v. cond (nat_lt v base) (Some v) None))
    (no-digit byte e) in cc
digit-step false base byte d e h = refl

digit-low : (base byte d : ℕ) → digit base byte ≡ Some d → is_high byte ≡ false
digit-low base byte d h = digit-step (is_high byte) base byte d refl h

more-step : (o : Option ℕ) (base so_far byte : ℕ) (bytes : List ℕ) (n : ℕ) → digit base byte ≡ o →
    ((so_far : ℕ) → more_digits base so_far bytes ≡ Some n → IsLow bytes) →
    given o (λ d. more_digits base (so_far * base + d) bytes) ≡ Some n → IsLow (byte ∷ bytes)
more-step None base so_far byte bytes n e more h = cc
more-step (Some d) base so_far byte bytes n e more h =
    both-low (is_high byte) (list_any is_high bytes) (digit-low base byte d e) (more (so_far * base + d) h)

more-low : (base : ℕ) (bytes : List ℕ) (n so_far : ℕ) → more_digits base so_far bytes ≡ Some n → IsLow bytes
more-low base [] n so_far h = refl
more-low base (byte ∷ bytes) n so_far h =
    more-step (digit base byte) base so_far byte bytes n refl (λ so_far k. more-low base bytes n so_far k) h

digits-low : (base : ℕ) (bytes : List ℕ) (n : ℕ) → digits base bytes ≡ Some n → IsLow bytes
digits-low base [] n h = refl
digits-low base (byte ∷ bytes) n h = more-low base (byte ∷ bytes) n 0 h

positive-low : (base : ℕ) (bytes : List ℕ) (o : Option ℕ) (z : ℤ) → digits base bytes ≡ o → positive o ≡ Some z →
    IsLow bytes
positive-low base bytes None z e h = cc
positive-low base bytes (Some n) z e h = digits-low base bytes n e

negative-low : (base : ℕ) (bytes : List ℕ) (o : Option ℕ) (z : ℤ) → digits base bytes ≡ o → negative o ≡ Some z →
    IsLow bytes
negative-low base bytes None z e h = cc
negative-low base bytes (Some n) z e h = digits-low base bytes n e

pub is-low : (value byte : ℕ) → is_high value ≡ false → (byte == value) ≡ true → is_high byte ≡ false
is-low value byte h e = grind (arith, nat_tests)

hex-low : (byte : ℕ) (bytes : List ℕ) (z : ℤ) → (byte == 48 && begins 120 bytes) ≡ true →
    positive (digits 16 (drop 1 bytes)) ≡ Some z →
    IsLow (byte ∷ bytes)
hex-low byte [] z e h = both-low (is_high byte) false (is-low 48 byte refl (and_first (byte == 48) false e)) refl
hex-low byte (x ∷ bytes) z e h =
    both-low (is_high byte) (list_any is_high (x ∷ bytes)) (is-low 48 byte refl (and_first (byte == 48) (x == 120) e))
    (both-low (is_high x) (list_any is_high bytes) (is-low 120 x refl (and_second (byte == 48) (x == 120) e))
    (positive-low 16 bytes (digits 16 bytes) z refl h))

number-step : (minus hex : Bool) (byte : ℕ) (bytes : List ℕ) (z : ℤ) → (byte == 45) ≡ minus →
    (byte == 48 && begins 120 bytes) ≡ hex →
    cond minus (negative (digits 10 bytes))
    (cond hex (positive (digits 16 (drop 1 bytes))) (positive (digits 10 (byte ∷ bytes)))) ≡ Some z →
    IsLow (byte ∷ bytes)
number-step true hex byte bytes z e f h =
    both-low (is_high byte) (list_any is_high bytes) (is-low 45 byte refl e)
    (negative-low 10 bytes (digits 10 bytes) z refl h)
number-step false true byte bytes z e f h = hex-low byte bytes z f h
number-step false false byte bytes z e f h = positive-low 10 (byte ∷ bytes) (digits 10 (byte ∷ bytes)) z refl h

pub number-low : (piece : List ℕ) (z : ℤ) → number_of piece ≡ Some z → IsLow piece
number-low [] z h = refl
number-low (byte ∷ bytes) z h = number-step (byte == 45) (byte == 48 && begins 120 bytes) byte bytes z refl refl h

-- names and words
clean-low : (bytes : List ℕ) → list_all is_clean bytes ≡ true → IsLow bytes
clean-low bytes h = plain-low bytes (clean-plain bytes h)

pub name-low : (piece : List ℕ) → is_name piece ≡ true → IsLow piece
name-low piece h = clean-low piece (name-piece piece h).piece.clean

pub word-low : (word : List ℕ) (of : Op) → op_of word ≡ Some of → IsLow word
word-low word of h =
    let parts = first-of-word word (name-word word of h) in
    let named : op_of (parts.0 ∷ parts.1) ≡ Some of = subst (λ (w : List ℕ). op_of w ≡ Some of) parts.2 h in
    subst IsLow (sym parts.2) (clean-low (parts.0 ∷ parts.1) (name-word (parts.0 ∷ parts.1) of named))

-- texts
bad-plain : (byte : ℕ) → is_high byte ≡ true → string_step false byte ≡ Bad
bad-plain byte h = grind (arith, nat_tests)

bad-escaped : (byte : ℕ) → is_high byte ≡ true → string_step true byte ≡ Bad
bad-escaped byte h = grind (arith, nat_tests)

bad-step : (escaped : Bool) (byte : ℕ) → is_high byte ≡ true → string_step escaped byte ≡ Bad
bad-step true byte h = bad-escaped byte h
bad-step false byte h = bad-plain byte h

front-some : (byte : ℕ) (o : Option (List ℕ)) (t : List ℕ) (P : Type 0) → with_front (byte ∷ []) o ≡ Some t →
    ((u : List ℕ) → o ≡ Some u → P) → P
front-some byte None t P h k = cc
front-some byte (Some u) t P h k = k u refl

end-low : (bytes t : List ℕ) → cond (is_empty bytes) (Some []) None ≡ Some t → IsLow bytes
end-low [] t h = refl
end-low (byte ∷ bytes) t h = cc

stepped-low : (step : Step) (bytes t : List ℕ) →
    ((escaped : Bool) (t : List ℕ) → string_rest escaped bytes ≡ Some t → IsLow bytes) →
    stepped step bytes ≡ Some t → IsLow bytes
stepped-low (Add added) bytes t more h = front-some added (string_rest false bytes) t (IsLow bytes) h
    (λ u e. more false u e)
stepped-low Backslash bytes t more h = more true t h
stepped-low End bytes t more h = end-low bytes t h
stepped-low Bad bytes t more h = cc

byte-low : (high escaped : Bool) (byte : ℕ) (bytes t : List ℕ) → is_high byte ≡ high →
    stepped (string_step escaped byte) bytes ≡ Some t → high ≡ false
byte-low true escaped byte bytes t e h =
    let none : stepped (string_step escaped byte) bytes ≡ None =
    ap (λ (s : Step). stepped s bytes) (bad-step escaped byte e) in cc
byte-low false escaped byte bytes t e h = refl

string-low : (bytes : List ℕ) (escaped : Bool) (t : List ℕ) → string_rest escaped bytes ≡ Some t → IsLow bytes
string-low [] escaped t h = refl
string-low (byte ∷ bytes) escaped t h =
    both-low (is_high byte) (list_any is_high bytes) (byte-low (is_high byte) escaped byte bytes t refl h)
    (stepped-low (string_step escaped byte) bytes t (λ escaped t k. string-low bytes escaped t k) h)

quoted-low : (quote : Bool) (byte : ℕ) (bytes t : List ℕ) → (byte == 34) ≡ quote →
    cond quote (string_rest false bytes) None ≡ Some t →
    IsLow (byte ∷ bytes)
quoted-low true byte bytes t e h =
    both-low (is_high byte) (list_any is_high bytes) (is-low 34 byte refl e) (string-low bytes false t h)
quoted-low false byte bytes t e h = cc

pub text-low : (piece t : List ℕ) → string_of piece ≡ Some t → IsLow piece
text-low [] t h = refl
text-low (byte ∷ bytes) t h = quoted-low (byte == 34) byte bytes t refl h
