-- The fault of a line's operands is the first of them all.
use Rattle.std.proofs.Common.{◌≡◌, ℕ, ◌+◌, ◌-◌, ◌≤◌, ℤ, pos, negsuc, Bool, true, false, ◌==◌, cond, List, [], ◌∷◌, ◌++◌}
use Rattle.std.proofs.Common.{length, take, get_or, length-append, append_assoc, Option, Some, None, Result, Ok, Err}
use Rattle.std.proofs.Common.{◌⊎◌, inl, inr, refl, sym, ap, ◌∙◌, subst, arith}
use Rattle.std.proofs.lemmas.Bool.Decides.{nat_tests}
use Rattle.std.proofs.lemmas.Grind.{common_steps}
use Rattle.std.specs.List.{list_any}
use Rattle.asm_items.specs.Names.{is_name}
use Rattle.asm_table.specs.Cuts.{before, behind}
use Rattle.asm_table.specs.Registers.{register_of}
use Rattle.asm_text.specs.FirstFault.{bracket_marks, Form, high_marks, is_read, Label, Mark, Nat, Num, operand_marks}
use Rattle.asm_text.specs.FirstFault.{piece_marks, Place, Reg, unless}
use Rattle.asm_text.specs.Layout.{drop_while, ends_with, without_last}
use Rattle.asm_text.specs.Pieces.{◌>>=◌, fault_at, inside_brackets, name, natural, natural_within, number, number_of}
use Rattle.asm_text.specs.Pieces.{or_fault, place, register, within}
use Rattle.asm_text.specs.Reading.{is_high, is_space, more_of}
use Rattle.asm_text.specs.declared.fault.TextKind.{TextKind}
use Rattle.asm_text.specs.declared.fault.TextKind.TheVariants.{BadLabel, BadLine, BadNumber, BadRegister}
use Rattle.asm_text.proofs.FaultLow.{is-low, name-low, number-low, register-low}
use Rattle.asm_text.proofs.FaultPlaces.{AtMost, at-most-append, at-most-more, Begins, by_choice, first-low, highs-front}
use Rattle.asm_text.proofs.FaultPlaces.{IsLow, IsTold, low-append, second-low, start-bad, start-fault}

-- the bytes that are left
abbrev pub bytes_of : Option (List ℕ) → List ℕ
bytes_of None = []
bytes_of (Some rest) = rest

-- spaces and commas
spaces-step : (space : Bool) (tail byte : ℕ) (bytes : List ℕ) → is_space byte ≡ space →
    high_marks tail bytes ≡ high_marks tail (drop_while is_space bytes) →
    high_marks tail (byte ∷ bytes) ≡ high_marks tail (cond space (drop_while is_space bytes) (byte ∷ bytes))
spaces-step true tail byte bytes e h =
    ap (λ (b : Bool). cond b ((length (byte ∷ bytes) + tail, BadLine) ∷ high_marks tail bytes) (high_marks tail bytes))
    (is-low 32 byte refl e) ∙ h
spaces-step false tail byte bytes e h = refl

pub highs-spaces : (tail : ℕ) (bytes : List ℕ) → high_marks tail bytes ≡ high_marks tail (drop_while is_space bytes)
highs-spaces tail [] = refl
highs-spaces tail (byte ∷ bytes) = spaces-step (is_space byte) tail byte bytes refl (highs-spaces tail bytes)

behind-step : (here : Bool) (tail stop byte : ℕ) (bytes : List ℕ) → is_high stop ≡ false → (byte == stop) ≡ here →
    IsLow (cond here [] (byte ∷ before stop bytes)) →
    (IsLow (before stop bytes) → high_marks tail bytes ≡ high_marks tail (bytes_of (behind stop bytes))) →
    high_marks tail (byte ∷ bytes) ≡ high_marks tail (bytes_of (cond here (Some bytes) (behind stop bytes)))
behind-step true tail stop byte bytes s e low more =
    ap (λ (b : Bool). cond b ((length (byte ∷ bytes) + tail, BadLine) ∷ high_marks tail bytes) (high_marks tail bytes))
    (is-low stop byte s e)
behind-step false tail stop byte bytes s e low more =
    ap (λ (b : Bool). cond b ((length (byte ∷ bytes) + tail, BadLine) ∷ high_marks tail bytes) (high_marks tail bytes))
    (first-low (is_high byte) (list_any is_high (before stop bytes)) low)
    ∙ more (second-low (is_high byte) (list_any is_high (before stop bytes)) low)

-- behind what has no byte above 0x7F, such bytes stand behind the cut
pub highs-behind : (tail stop : ℕ) (rest : List ℕ) → is_high stop ≡ false → IsLow (before stop rest) →
    high_marks tail rest ≡ high_marks tail (bytes_of (behind stop rest))
highs-behind tail stop [] s low = refl
highs-behind tail stop (byte ∷ bytes) s low =
    behind-step (byte == stop) tail stop byte bytes s refl low (highs-behind tail stop bytes s)

highs-more_of : (tail : ℕ) (o : Option (List ℕ)) → high_marks tail (bytes_of o) ≡ high_marks tail (bytes_of (more_of o))
highs-more_of tail None = refl
highs-more_of tail (Some rest) = highs-spaces tail rest

pub highs-more : (tail : ℕ) (rest : List ℕ) → IsLow (before 44 rest) →
    high_marks tail rest ≡ high_marks tail (bytes_of (more_of (behind 44 rest)))
highs-more tail rest low = highs-behind tail 44 rest refl low ∙ highs-more_of tail (behind 44 rest)

drop-shorter : (bytes : List ℕ) → length (drop_while is_space bytes) ≤ length bytes
drop-shorter [] = omega arith
drop-shorter (byte ∷ bytes) =
    by_choice (λ xs. length xs ≤ length (byte ∷ bytes)) (is_space byte) (drop_while is_space bytes) (byte ∷ bytes)
    (λ e. omega (arith, drop-shorter bytes)) (λ e. omega arith)

-- an operand and what stands behind its comma are no longer than both
cut-step : (comma : Bool) (byte : ℕ) (bytes : List ℕ) →
    length (before 44 bytes) + length (bytes_of (more_of (behind 44 bytes))) ≤ length bytes →
    length (cond comma [] (byte ∷ before 44 bytes)) + length
    (bytes_of (more_of (cond comma (Some bytes) (behind 44 bytes)))) ≤ length (byte ∷ bytes)
cut-step true byte bytes h = omega (arith, drop-shorter bytes)
cut-step false byte bytes h = omega (arith, h)

cut-length : (rest : List ℕ) → length (before 44 rest) + length (bytes_of (more_of (behind 44 rest))) ≤ length rest
cut-length [] = omega arith
cut-length (byte ∷ bytes) = cut-step (byte == 44) byte bytes (cut-length bytes)

short-step : (comma : Bool) (byte : ℕ) (bytes : List ℕ) → length (bytes_of (more_of (behind 44 bytes))) ≤ length bytes →
    length (bytes_of (more_of (cond comma (Some bytes) (behind 44 bytes)))) ≤ length bytes
short-step true byte bytes h = drop-shorter bytes
short-step false byte bytes h = h

more-short : (byte : ℕ) (bytes : List ℕ) → length (bytes_of (more_of (behind 44 (byte ∷ bytes)))) ≤ length bytes
more-short byte bytes = short-step (byte == 44) byte bytes (omega (arith, cut-length bytes))

-- the places of an operand's faults
unless-at-most : (well : Bool) (n place : ℕ) (kind : TextKind) → place ≤ n → AtMost n (unless well place kind)
unless-at-most true n place kind h = tt
unless-at-most false n place kind h = (h, tt)

bracket-at-most : (place : ℕ) (piece : List ℕ) (o : Option (List ℕ)) → AtMost place (bracket_marks place piece o)
bracket-at-most place piece None = (omega arith, tt)
bracket-at-most place piece (Some inside) =
    by_choice (AtMost place) (ends_with 41 inside) _ ((place, BadLine) ∷ [])
    (λ e. at-most-append place (unless (is_read (number (negsuc 2047) (pos 2047) (before 40 piece))) place BadNumber)
    (unless (is_read (register (without_last inside))) (place - (length (before 40 piece) + 1)) BadRegister)
    (unless-at-most (is_read (number (negsuc 2047) (pos 2047) (before 40 piece))) place place BadNumber (omega arith))
    (unless-at-most (is_read (register (without_last inside))) place
    (place - (length (before 40 piece) + 1)) BadRegister (omega arith)))
    (λ e. (omega arith, tt))

pub piece-at-most : (form : Form) (place : ℕ) (piece : List ℕ) → AtMost place (piece_marks form place piece)
piece-at-most Reg place piece = unless-at-most (is_read (register piece)) place place BadRegister (omega arith)
piece-at-most (Num least greatest) place piece =
    unless-at-most (is_read (number least greatest piece)) place place BadNumber (omega arith)
piece-at-most (Nat greatest) place piece = unless-at-most (is_read (natural greatest piece)) place place BadNumber
    (omega arith)
piece-at-most Label place piece = unless-at-most (is_read (name piece)) place place BadLabel (omega arith)
piece-at-most Place place piece = bracket-at-most place piece (behind 40 piece)

pub operands-at-most : (forms : List Form) (tail : ℕ) (rest : Option (List ℕ)) →
    AtMost (length (bytes_of rest) + tail) (operand_marks forms tail rest)
operands-at-most [] tail None = tt
operands-at-most [] tail (Some rest) = (omega arith, tt)
operands-at-most (form ∷ forms) tail None = (omega arith, tt)
operands-at-most (form ∷ forms) tail (Some rest) =
    at-most-append (length rest + tail) (piece_marks form (length rest + tail) (before 44 rest))
    (operand_marks forms tail (more_of (behind 44 rest)))
    (piece-at-most form (length rest + tail) (before 44 rest))
    (at-most-more (length (bytes_of (more_of (behind 44 rest))) + tail) (length rest + tail)
    (operand_marks forms tail (more_of (behind 44 rest)))
    (omega (arith, cut-length rest)) (operands-at-most forms tail (more_of (behind 44 rest))))

-- how an operand of a form is read: what is read is free of faults, and what is refused has its first fault told
pub record PieceLaw {X : Type 0} (read : List ℕ → Result X TextKind) (form : Form) : Type 0 where
  pub low : (piece : List ℕ) (x : X) → read piece ≡ Ok x → IsLow piece
  pub fine : (place : ℕ) (piece : List ℕ) (x : X) → read piece ≡ Ok x → piece_marks form place piece ≡ []
  pub refused : (tail b : ℕ) (bs : List ℕ) (later : List Mark) (kind : TextKind) →
      read (before 44 (b ∷ bs)) ≡ Err kind →
      AtMost (length (bytes_of (more_of (behind 44 (b ∷ bs)))) + tail) later →
      IsTold tail kind ((piece_marks form (length (b ∷ bs) + tail) (before 44 (b ∷ bs)) ++ later) ++ high_marks tail
      (b ∷ bs))
  pub empty : (place : ℕ) (kind : TextKind) → read [] ≡ Err kind → piece_marks form place [] ≡ (place, kind) ∷ []

-- an operand that has one fault, where it begins
pub before-begins : (b : ℕ) (bs : List ℕ) → Begins (before 44 (b ∷ bs)) b
before-begins b bs =
    by_choice (λ xs. Begins xs b) (b == 44) [] (b ∷ before 44 bs) (λ e. is-low 44 b refl e) (λ e. refl)

read-is : {X : Type 0} (r : Result X TextKind) (x : X) → r ≡ Ok x → is_read r ≡ true
read-is (Ok y) x e = refl
read-is (Err kind) x e = cc

pub refused-is : {X : Type 0} (r : Result X TextKind) (kind : TextKind) → r ≡ Err kind → is_read r ≡ false
refused-is (Ok y) kind e = cc
refused-is (Err other) kind e = refl

simple-law : {X : Type 0} (read : List ℕ → Result X TextKind) (form : Form) (told : TextKind) →
    ((piece : List ℕ) (x : X) → read piece ≡ Ok x → IsLow piece) →
    ((place : ℕ) (piece : List ℕ) → piece_marks form place piece ≡ unless (is_read (read piece)) place told) →
    ((piece : List ℕ) (kind : TextKind) → read piece ≡ Err kind → kind ≡ fault_at piece told) → PieceLaw read form
simple-law {X} read form told low shape refuses = record {
  low = low;
  fine = λ place piece x e. shape place piece ∙ ap (λ (b : Bool). unless b place told) (read-is (read piece) x e);
  refused = λ tail b bs later kind e h.
      let one : piece_marks form (length (b ∷ bs) + tail) (before 44 (b ∷ bs)) ≡ (length (b ∷ bs) + tail, told) ∷ [] =
      shape (length (b ∷ bs) + tail) (before 44 (b ∷ bs))
      ∙ ap (λ (t : Bool). unless t (length (b ∷ bs) + tail) told) (refused-is (read (before 44 (b ∷ bs))) kind e) in
      let start = start-fault tail b bs told (before 44 (b ∷ bs)) later (before-begins b bs)
      (at-most-more (length (bytes_of (more_of (behind 44 (b ∷ bs)))) + tail) (length bs + tail) later
      (omega (arith, more-short b bs)) h) in
      subst (λ (xs : List Mark). IsTold tail kind ((xs ++ later) ++ high_marks tail (b ∷ bs))) (sym one)
      (subst (λ (k : TextKind). IsTold tail k (((length (b ∷ bs) + tail, told) ∷ later) ++ high_marks tail (b ∷ bs)))
      (sym (refuses (before 44 (b ∷ bs)) kind e)) start);
  empty = λ place kind e.
      shape place [] ∙ ap (λ (t : Bool). unless t place told) (refused-is (read []) kind e)
      ∙ ap (λ (k : TextKind). (place, k) ∷ []) (sym (refuses [] kind e));
}

pub or-some : {X : Type 0} (o : Option X) (piece : List ℕ) (told : TextKind) (x : X) (P : Type 0) →
    or_fault o piece told ≡ Ok x → ((y : X) → o ≡ Some y → P) → P
or-some None piece told x P h k = cc
or-some (Some y) piece told x P h k = k y refl

or-refuses : {X : Type 0} (o : Option X) (piece : List ℕ) (told kind : TextKind) → or_fault o piece told ≡ Err kind →
    kind ≡ fault_at piece told
or-refuses None piece told kind h = cc
or-refuses (Some y) piece told kind h = cc

pub register-law : PieceLaw register Reg
register-law = simple-law register Reg BadRegister
    (λ piece x e. or-some (register_of piece) piece BadRegister x (IsLow piece) e (λ y k. register-low piece y k))
    (λ place piece. refl)
    (λ piece kind e. or-refuses (register_of piece) piece BadRegister kind e)

within-some : (l g : ℤ) (o : Option ℤ) (z : ℤ) (P : Type 0) → within l g o ≡ Some z → ((y : ℤ) → o ≡ Some y → P) → P
within-some l g None z P h k = cc
within-some l g (Some y) z P h k = k y refl

pub number-law : (l g : ℤ) → PieceLaw (number l g) (Num l g)
number-law l g = simple-law (number l g) (Num l g) BadNumber
    (λ piece x e. or-some (within l g (number_of piece)) piece BadNumber x (IsLow piece) e
    (λ y k. within-some l g (number_of piece) y (IsLow piece) k (λ z m. number-low piece z m)))
    (λ place piece. refl)
    (λ piece kind e. or-refuses (within l g (number_of piece)) piece BadNumber kind e)

natural-some : (g : ℕ) (o : Option ℤ) (n : ℕ) (P : Type 0) → natural_within g o ≡ Some n → ((y : ℤ) → o ≡ Some y → P) →
    P
natural-some g None n P h k = cc
natural-some g (Some y) n P h k = k y refl

pub natural-law : (g : ℕ) → PieceLaw (natural g) (Nat g)
natural-law g = simple-law (natural g) (Nat g) BadNumber
    (λ piece x e. or-some (natural_within g (number_of piece)) piece BadNumber x (IsLow piece) e
    (λ y k. natural-some g (number_of piece) y (IsLow piece) k (λ z m. number-low piece z m)))
    (λ place piece. refl)
    (λ piece kind e. or-refuses (natural_within g (number_of piece)) piece BadNumber kind e)

name-ok : (b : Bool) (piece x : List ℕ) → is_name piece ≡ b → cond b (Ok piece) (Err (fault_at piece BadLabel)) ≡ Ok x →
    IsLow piece
name-ok true piece x e h = name-low piece e
name-ok false piece x e h = cc

name-err : (b : Bool) (piece : List ℕ) (kind : TextKind) →
    cond b (Ok piece) (Err (fault_at piece BadLabel)) ≡ Err kind → kind ≡ fault_at piece BadLabel
name-err true piece kind h = cc
name-err false piece kind h = cc

pub name-read : (piece x : List ℕ) → name piece ≡ Ok x → IsLow piece
name-read piece x e = name-ok (is_name piece) piece x refl e

pub name-refused : (piece : List ℕ) (kind : TextKind) → name piece ≡ Err kind → kind ≡ fault_at piece BadLabel
name-refused piece kind e = name-err (is_name piece) piece kind e

pub name-law : PieceLaw name Label
name-law = simple-law name Label BadLabel name-read (λ place piece. refl) name-refused

-- an operand with brackets
eq-of : (a b : ℕ) → (a == b) ≡ true → a ≡ b
eq-of a b h = grind (arith, nat_tests)

split-step : (here : Bool) (stop byte : ℕ) (bytes inside : List ℕ) → (byte == stop) ≡ here →
    (behind stop bytes ≡ Some inside → bytes ≡ before stop bytes ++ (stop ∷ inside)) →
    cond here (Some bytes) (behind stop bytes) ≡ Some inside →
    byte ∷ bytes ≡ cond here [] (byte ∷ before stop bytes) ++ (stop ∷ inside)
split-step true stop byte bytes inside e more h = let same : byte ≡ stop = eq-of byte stop e in cc
split-step false stop byte bytes inside e more h = ap (λ (xs : List ℕ). byte ∷ xs) (more h)

behind-split : (stop : ℕ) (piece inside : List ℕ) → behind stop piece ≡ Some inside →
    piece ≡ before stop piece ++ (stop ∷ inside)
behind-split stop [] inside h = cc
behind-split stop (byte ∷ bytes) inside h =
    split-step (byte == stop) stop byte bytes inside refl (behind-split stop bytes inside) h

last-parts : (bytes : List ℕ) → 1 ≤ length bytes →
    bytes ≡ take (length bytes - 1) bytes ++ get_or bytes (length bytes - 1) 0 ∷ []
last-parts bytes h = grind (arith, common_steps)

some-bytes : (value : ℕ) (bytes : List ℕ) → ends_with value bytes ≡ true → 1 ≤ length bytes
some-bytes value bytes h = grind (arith, nat_tests)

last-byte : (value : ℕ) (bytes : List ℕ) → ends_with value bytes ≡ true → get_or bytes (length bytes - 1) 0 ≡ value
last-byte value bytes h = grind (arith, nat_tests)

pub ends-split : (value : ℕ) (bytes : List ℕ) → ends_with value bytes ≡ true → bytes ≡ without_last bytes ++ value ∷ []
ends-split value bytes h =
    last-parts bytes (some-bytes value bytes h)
    ∙ ap (λ (x : ℕ). take (length bytes - 1) bytes ++ x ∷ []) (last-byte value bytes h)

abbrev twelve : List ℕ → Result ℤ TextKind
twelve piece = number (negsuc 2047) (pos 2047) piece

abbrev both : Result ℤ TextKind → Result ℕ TextKind → Result (ℤ × ℕ) TextKind
both found base = do
  z ← found
  n ← base
  Ok (z, n)

-- why an operand with brackets is refused
record IsUnclosed (piece : List ℕ) (kind : TextKind) : Type 0 where
  kind_is : kind ≡ BadLine
  marks_are : (at : ℕ) → piece_marks Place at piece ≡ (at, BadLine) ∷ []

record IsNoNumber (piece : List ℕ) (kind : TextKind) : Type 0 where
  kind_is : kind ≡ fault_at (before 40 piece) BadNumber
  base_read : Bool
  marks_are : (at : ℕ) → piece_marks Place at piece ≡ (at, BadNumber) ∷ unless base_read
      (at - (length (before 40 piece) + 1)) BadRegister

record IsNoRegister (piece : List ℕ) (kind : TextKind) : Type 0 where
  base : List ℕ
  kind_is : kind ≡ fault_at base BadRegister
  marks_are : (at : ℕ) → piece_marks Place at piece ≡ (at - (length (before 40 piece) + 1), BadRegister) ∷ []
  parts : piece ≡ before 40 piece ++ (40 ∷ (base ++ 41 ∷ []))
  low : IsLow (before 40 piece)

-- and that one that is read has no fault
record IsFine (piece : List ℕ) : Type 0 where
  low : IsLow piece
  marks_are : (at : ℕ) → piece_marks Place at piece ≡ []

abbrev PlaceTells : List ℕ → Result (ℤ × ℕ) TextKind → Type 0
PlaceTells piece (Ok x) = IsFine piece
PlaceTells piece (Err kind) = IsUnclosed piece kind ⊎ (IsNoNumber piece kind ⊎ IsNoRegister piece kind)

number-read : (piece : List ℕ) (z : ℤ) → twelve piece ≡ Ok z → IsLow piece
number-read piece z e = (number-law (negsuc 2047) (pos 2047)).low piece z e

abbrev inside_marks : ℕ → List ℕ → Bool → Bool → List Mark
inside_marks at piece number_read base_read =
    unless number_read at BadNumber ++ unless base_read (at - (length (before 40 piece) + 1)) BadRegister

closed-marks : (at : ℕ) (piece inside : List ℕ) (r : Result ℤ TextKind) (s : Result ℕ TextKind) →
    behind 40 piece ≡ Some inside →
    ends_with 41 inside ≡ true → twelve (before 40 piece) ≡ r → register (without_last inside) ≡ s →
    piece_marks Place at piece ≡ inside_marks at piece (is_read r) (is_read s)
closed-marks at piece inside r s e c d f =
    ap (λ (o : Option (List ℕ)). bracket_marks at piece o) e
    ∙ ap (λ (b : Bool). cond b (inside_marks at piece (is_read (twelve (before 40 piece)))
    (is_read (register (without_last inside)))) ((at, BadLine) ∷ [])) c
    ∙ ap (λ (x : Result ℤ TextKind). inside_marks at piece (is_read x) (is_read (register (without_last inside)))) d
    ∙ ap (λ (x : Result ℕ TextKind). inside_marks at piece (is_read r) (is_read x)) f

inside-parts : (piece inside : List ℕ) → behind 40 piece ≡ Some inside → ends_with 41 inside ≡ true →
    piece ≡ before 40 piece ++ (40 ∷ (without_last inside ++ 41 ∷ []))
inside-parts piece inside e c =
    behind-split 40 piece inside e ∙ ap (λ (xs : List ℕ). before 40 piece ++ (40 ∷ xs)) (ends-split 41 inside c)

inside-tells : (piece inside : List ℕ) (r : Result ℤ TextKind) (s : Result ℕ TextKind) → behind 40 piece ≡ Some inside →
    ends_with 41 inside ≡ true → twelve (before 40 piece) ≡ r → register (without_last inside) ≡ s →
    PlaceTells piece (both r s)
inside-tells piece inside (Err kind) s e c d f = inr (inl (record {
  kind_is = or-refuses (within (negsuc 2047) (pos 2047) (number_of (before 40 piece)))
      (before 40 piece) BadNumber kind d;
  base_read = is_read s;
  marks_are = λ at. closed-marks at piece inside (Err kind) s e c d f;
}))
inside-tells piece inside (Ok z) (Err kind) e c d f = inr (inr (record {
  base = without_last inside;
  kind_is = or-refuses (register_of (without_last inside)) (without_last inside) BadRegister kind f;
  marks_are = λ at. closed-marks at piece inside (Ok z) (Err kind) e c d f;
  parts = inside-parts piece inside e c;
  low = number-read (before 40 piece) z d;
}))
inside-tells piece inside (Ok z) (Ok n) e c d f = record {
  low = subst IsLow (sym (inside-parts piece inside e c))
      (low-append (before 40 piece) (40 ∷ (without_last inside ++ 41 ∷ [])) (number-read (before 40 piece) z d)
      (low-append (without_last inside) (41 ∷ []) (register-law.low (without_last inside) n f) refl));
  marks_are = λ at. closed-marks at piece inside (Ok z) (Ok n) e c d f;
}

closed-tells : (piece inside : List ℕ) (closed : Bool) → behind 40 piece ≡ Some inside → ends_with 41 inside ≡ closed →
    PlaceTells piece (cond closed (both (twelve (before 40 piece)) (register (without_last inside))) (Err BadLine))
closed-tells piece inside true e c =
    inside-tells piece inside (twelve (before 40 piece)) (register (without_last inside)) e c refl refl
closed-tells piece inside false e c = inl (record {
  kind_is = refl;
  marks_are = λ at. ap (λ (o : Option (List ℕ)). bracket_marks at piece o) e
      ∙ ap (λ (b : Bool). cond b (inside_marks at piece (is_read (twelve (before 40 piece)))
      (is_read (register (without_last inside)))) ((at, BadLine) ∷ [])) c;
})

brackets-tell : (piece : List ℕ) (o : Option (List ℕ)) → behind 40 piece ≡ o →
    PlaceTells piece (inside_brackets piece o)
brackets-tell piece None e = inl
    (record { kind_is = refl; marks_are = λ at. ap (λ (o : Option (List ℕ)). bracket_marks at piece o) e })
brackets-tell piece (Some inside) e = closed-tells piece inside (ends_with 41 inside) e refl

place-fine : (piece : List ℕ) (r : Result (ℤ × ℕ) TextKind) (x : ℤ × ℕ) → PlaceTells piece r → r ≡ Ok x → IsFine piece
place-fine piece (Ok y) x h e = h
place-fine piece (Err kind) x h e = cc

place-refused : (piece : List ℕ) (r : Result (ℤ × ℕ) TextKind) (kind : TextKind) → PlaceTells piece r → r ≡ Err kind →
    PlaceTells piece (Err kind)
place-refused piece r kind h e = subst (λ (s : Result (ℤ × ℕ) TextKind). PlaceTells piece s) e h

pub begins-before : (stop : ℕ) (piece : List ℕ) (b : ℕ) → is_high stop ≡ false → Begins piece b →
    Begins (before stop piece) b
begins-before stop [] b s h = h
begins-before stop (first ∷ bytes) b s h =
    by_choice (λ xs. Begins xs b) (first == stop) [] (first ∷ before stop bytes)
    (λ e. subst (λ (x : ℕ). is_high x ≡ false) h (is-low stop first s e)) (λ e. h)

-- what stands behind an operand
record CutParts (rest : List ℕ) : Type 0 where
  back : List ℕ
  is : rest ≡ before 44 rest ++ back

cut-parts-step : (comma : Bool) (byte : ℕ) (bytes : List ℕ) → CutParts bytes →
    (back : List ℕ) × (byte ∷ bytes ≡ cond comma [] (byte ∷ before 44 bytes) ++ back)
cut-parts-step true byte bytes h = (byte ∷ bytes, refl)
cut-parts-step false byte bytes h = (h.back, ap (λ (xs : List ℕ). byte ∷ xs) h.is)

cut-parts : (rest : List ℕ) → CutParts rest
cut-parts [] = record { back = []; is = refl }
cut-parts (byte ∷ bytes) =
    let found = cut-parts-step (byte == 44) byte bytes (cut-parts bytes) in record { back = found.0; is = found.1 }

-- a register inside brackets is refused where it begins
register-told : (tail : ℕ) (base back : List ℕ) (later : List Mark) → AtMost (length back + tail) later →
    IsTold tail (fault_at base BadRegister)
    (((length ((base ++ 41 ∷ []) ++ back) + tail, BadRegister) ∷ later) ++ high_marks tail ((base ++ 41 ∷ []) ++ back))
register-told tail [] back later h = start-fault tail 41 back BadRegister [] later refl h
register-told tail (v ∷ vs) back later h =
    start-fault tail v ((vs ++ 41 ∷ []) ++ back) BadRegister (v ∷ vs) later refl
    (at-most-more (length back + tail) (length ((vs ++ 41 ∷ []) ++ back) + tail) later
    (omega (arith, length-append (vs ++ 41 ∷ []) back)) h)

inside-told : (tail : ℕ) (rest front base back : List ℕ) (later : List Mark) →
    rest ≡ (front ++ (40 ∷ (base ++ 41 ∷ []))) ++ back →
    IsLow front → AtMost (length back + tail) later →
    IsTold tail (fault_at base BadRegister)
    (((length rest + tail - (length front + 1), BadRegister) ∷ later) ++ high_marks tail rest)
inside-told tail rest front base back later is low h =
    let whole_is : rest ≡ front ++ (40 ∷ ((base ++ 41 ∷ []) ++ back)) = is
    ∙ append_assoc front (40 ∷ (base ++ 41 ∷ [])) back in
    let highs : high_marks tail rest ≡ high_marks tail ((base ++ 41 ∷ []) ++ back) =
    ap (λ (xs : List ℕ). high_marks tail xs) whole_is ∙ highs-front tail front (40 ∷ ((base ++ 41 ∷ []) ++ back)) low in
    let sum : length rest ≡ length front + length (40 ∷ ((base ++ 41 ∷ []) ++ back)) =
    ap (λ (xs : List ℕ). length xs) whole_is ∙ length-append front (40 ∷ ((base ++ 41 ∷ []) ++ back)) in
    let at_is : length ((base ++ 41 ∷ []) ++ back) + tail ≡ length rest + tail - (length front + 1) =
    omega (arith, sum) in
    subst (λ (n : ℕ). IsTold tail (fault_at base BadRegister) (((n, BadRegister) ∷ later) ++ high_marks tail rest))
    at_is
    (subst (λ (hs : List Mark). IsTold tail (fault_at base BadRegister)
    (((length ((base ++ 41 ∷ []) ++ back) + tail, BadRegister) ∷ later) ++ hs))
    (sym highs) (register-told tail base back later h))

abbrev PlaceGoal : ℕ → ℕ → List ℕ → List Mark → TextKind → List Mark → Type 0
PlaceGoal tail b bs later kind xs = IsTold tail kind ((xs ++ later) ++ high_marks tail (b ∷ bs))

place-told : (tail b : ℕ) (bs : List ℕ) (later : List Mark) (kind : TextKind) →
    PlaceTells (before 44 (b ∷ bs)) (Err kind) →
    AtMost (length (bytes_of (more_of (behind 44 (b ∷ bs)))) + tail) later →
    IsTold tail kind ((piece_marks Place (length (b ∷ bs) + tail) (before 44 (b ∷ bs)) ++ later) ++ high_marks tail
    (b ∷ bs))
place-told tail b bs later kind (inl why) h =
    let start = start-bad tail (b ∷ bs) later
    (at-most-more (length (bytes_of (more_of (behind 44 (b ∷ bs)))) + tail) (length (b ∷ bs) + tail) later
    (omega (arith, more-short b bs)) h) in
    subst (λ (xs : List Mark). PlaceGoal tail b bs later kind xs) (sym (why.marks_are (length (b ∷ bs) + tail)))
    (subst (λ (k : TextKind). PlaceGoal tail b bs later k ((length (b ∷ bs) + tail, BadLine) ∷ []))
    (sym why.kind_is) start)
place-told tail b bs later kind (inr (inl why)) h =
    let start = start-fault tail b bs BadNumber (before 40 (before 44 (b ∷ bs)))
    (unless why.base_read (length (b ∷ bs) + tail - (length (before 40 (before 44 (b ∷ bs))) + 1)) BadRegister ++ later)
    (begins-before 40 (before 44 (b ∷ bs)) b refl (before-begins b bs))
    (at-most-append (length bs + tail)
    (unless why.base_read (length (b ∷ bs) + tail - (length (before 40 (before 44 (b ∷ bs))) + 1)) BadRegister) later
    (unless-at-most why.base_read (length bs + tail)
    (length (b ∷ bs) + tail - (length (before 40 (before 44 (b ∷ bs))) + 1)) BadRegister (omega arith))
    (at-most-more (length (bytes_of (more_of (behind 44 (b ∷ bs)))) + tail) (length bs + tail) later
    (omega (arith, more-short b bs)) h)) in
    subst (λ (xs : List Mark). PlaceGoal tail b bs later kind xs) (sym (why.marks_are (length (b ∷ bs) + tail)))
    (subst (λ (k : TextKind). PlaceGoal tail b bs later k
    ((length (b ∷ bs) + tail, BadNumber) ∷ unless why.base_read
    (length (b ∷ bs) + tail - (length (before 40 (before 44 (b ∷ bs))) + 1)) BadRegister))
    (sym why.kind_is) start)
place-told tail b bs later kind (inr (inr why)) h =
    let cut = cut-parts (b ∷ bs) in
    let is : b ∷ bs ≡ (before 40 (before 44 (b ∷ bs)) ++ (40 ∷ (why.base ++ 41 ∷ []))) ++ cut.back =
    cut.is ∙ ap (λ (xs : List ℕ). xs ++ cut.back) why.parts in
    let sum : length (b ∷ bs) ≡ length (before 44 (b ∷ bs)) + length cut.back =
    ap (λ (xs : List ℕ). length xs) cut.is ∙ length-append (before 44 (b ∷ bs)) cut.back in
    let start = inside-told tail (b ∷ bs) (before 40 (before 44 (b ∷ bs))) why.base cut.back later is why.low
    (at-most-more (length (bytes_of (more_of (behind 44 (b ∷ bs)))) + tail) (length cut.back + tail) later
    (omega (arith, sum, cut-length (b ∷ bs))) h) in
    subst (λ (xs : List Mark). PlaceGoal tail b bs later kind xs) (sym (why.marks_are (length (b ∷ bs) + tail)))
    (subst (λ (k : TextKind). PlaceGoal tail b bs later k
    ((length (b ∷ bs) + tail - (length (before 40 (before 44 (b ∷ bs))) + 1), BadRegister) ∷ []))
    (sym why.kind_is) start)

pub place-law : PieceLaw place Place
place-law = record {
  low = λ piece x e. (place-fine piece (place piece) x (brackets-tell piece (behind 40 piece) refl) e).low;
  fine = λ at piece x e. (place-fine piece (place piece) x (brackets-tell piece (behind 40 piece) refl) e).marks_are at;
  refused = λ tail b bs later kind e h.
      place-told tail b bs later kind
      (place-refused (before 44 (b ∷ bs)) (place (before 44 (b ∷ bs))) kind
      (brackets-tell (before 44 (b ∷ bs)) (behind 40 (before 44 (b ∷ bs))) refl) e) h;
  empty = λ at kind e. cc;
}
