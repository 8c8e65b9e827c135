-- Faults with their places: which of them is the first.
use Rattle.std.proofs.Common.{◌≡◌, ℕ, ◌+◌, ◌<◌, ◌≤◌, Bool, true, false, ◌&&◌, ◌||◌, ◌==◌, cond, nat_lt, List, [], ◌∷◌}
use Rattle.std.proofs.Common.{◌++◌, length, length-append, Result, Ok, Err, inl, inr, refl, sym, ap, ◌∙◌, subst, arith}
use Rattle.std.proofs.lemmas.Bool.{false≢true}
use Rattle.std.proofs.lemmas.Bool.Decides.{nat_tests}
use Rattle.std.specs.List.{list_any}
use Rattle.asm_text.specs.Faults.{number_of}
use Rattle.asm_text.specs.FirstFault.{high_marks, IsAmong, Mark, NoneEarlier}
use Rattle.asm_text.specs.Pieces.{fault_at}
use Rattle.asm_text.specs.Reading.{is_high}
use Rattle.asm_text.specs.declared.fault.TextKind.{TextKind}
use Rattle.asm_text.specs.declared.fault.TextKind.TheVariants.{BadLine, UnknownName, BadRegister, BadNumber, BadLabel}

-- a fact of both values of a choice
pub by_choice : {X : Type 0} (P : X → Type 0) (b : Bool) (x y : X) → (b ≡ true → P x) → (b ≡ false → P y) →
    P (cond b x y)
by_choice P true x y h k = h refl
by_choice P false x y h k = k refl

-- no fault has more than so many bytes from its place on
abbrev pub AtMost : ℕ → List Mark → Type 0
AtMost n [] = Unit {0}
AtMost n (mark ∷ marks) = (mark.0 ≤ n) × AtMost n marks

pub at-most-more : (m n : ℕ) (marks : List Mark) → m ≤ n → AtMost m marks → AtMost n marks
at-most-more m n [] le h = tt
at-most-more m n (mark ∷ marks) le h = (omega (arith, le, h.0), at-most-more m n marks le h.1)

pub at-most-append : (n : ℕ) (xs ys : List Mark) → AtMost n xs → AtMost n ys → AtMost n (xs ++ ys)
at-most-append n [] ys h k = k
at-most-append n (x ∷ xs) ys h k = (h.0, at-most-append n xs ys h.1 k)

pub none-append : (mark : Mark) (xs ys : List Mark) → NoneEarlier mark xs → NoneEarlier mark ys →
    NoneEarlier mark (xs ++ ys)
none-append mark [] ys h k = k
none-append mark (x ∷ xs) ys h k = (h.0, none-append mark xs ys h.1 k)

pub among-left : (mark : Mark) (xs ys : List Mark) → IsAmong mark xs → IsAmong mark (xs ++ ys)
among-left mark [] ys h = absurd h
among-left mark (x ∷ xs) ys (inl e) = inl e
among-left mark (x ∷ xs) ys (inr h) = inr (among-left mark xs ys h)

pub among-right : (mark : Mark) (xs ys : List Mark) → IsAmong mark ys → IsAmong mark (xs ++ ys)
among-right mark [] ys h = h
among-right mark (x ∷ xs) ys h = inr (among-right mark xs ys h)

behind-it : (p q : ℕ) (b : Bool) → q < p → (nat_lt p q || q == p && b) ≡ false
behind-it p q b h = grind (arith, nat_tests)

not-before : (p q : ℕ) (b : Bool) → q ≤ p → b ≡ false → (nat_lt p q || q == p && b) ≡ false
not-before p q true h e = cc
not-before p q false h e = grind (arith, nat_tests)

-- what has fewer bytes from its place on is not earlier
pub later-place : (p n : ℕ) (kind : TextKind) (marks : List Mark) → AtMost n marks → n < p → NoneEarlier (p, kind) marks
later-place p n kind [] h below = tt
later-place p n kind (mark ∷ marks) h below = (
  behind-it p mark.0 (nat_lt (number_of mark.1) (number_of kind))
      (omega (arith, h.0, below)),
  later-place p n kind marks h.1 below,
)

lowest : (kind : TextKind) → nat_lt (number_of kind) 1 ≡ false
lowest BadLine = refl
lowest UnknownName = refl
lowest BadRegister = refl
lowest BadNumber = refl
lowest BadLabel = refl

-- nor is anything at the place of the lowest number
pub lowest-kind : (p : ℕ) (marks : List Mark) → AtMost p marks → NoneEarlier (p, BadLine) marks
lowest-kind p [] h = tt
lowest-kind p (mark ∷ marks) h =
    (not-before p mark.0 (nat_lt (number_of mark.1) 1) h.0 (lowest mark.1), lowest-kind p marks h.1)

pub not-itself : (p n : ℕ) → (nat_lt p p || p == p && nat_lt n n) ≡ false
not-itself p n = grind (arith, nat_tests)

-- the first of some faults, with so many bytes or more from its place on
pub record IsTold (tail : ℕ) (kind : TextKind) (marks : List Mark) : Type 0 where
  pub place : ℕ
  pub from : tail ≤ place
  pub among : IsAmong (place, kind) marks
  pub none : NoneEarlier (place, kind) marks

-- a result tells the first of some faults, or there is none
abbrev pub Tells : {X : Type 0} → ℕ → Result X TextKind → List Mark → Type 0
Tells tail (Ok x) marks = marks ≡ []
Tells tail (Err kind) marks = IsTold tail kind marks

-- bytes above 0x7F stand in the text
pub highs-at-most : (tail : ℕ) (bytes : List ℕ) → AtMost (length bytes + tail) (high_marks tail bytes)
highs-at-most tail [] = tt
highs-at-most tail (byte ∷ bytes) =
    let rest = at-most-more (length bytes + tail) (length (byte ∷ bytes) + tail) (high_marks tail bytes) (omega arith)
    (highs-at-most tail bytes) in
    by_choice (AtMost (length (byte ∷ bytes) + tail)) (is_high byte)
    ((length (byte ∷ bytes) + tail, BadLine) ∷ high_marks tail bytes) (high_marks tail bytes)
    (λ e. (omega arith, rest)) (λ e. rest)

-- a text without such bytes
abbrev pub IsLow : List ℕ → Type 0
IsLow bytes = list_any is_high bytes ≡ false

pub first-low : (b : Bool) (c : Bool) → (b || c) ≡ false → b ≡ false
first-low true c h = h
first-low false c h = refl

pub second-low : (b : Bool) (c : Bool) → (b || c) ≡ false → c ≡ false
second-low true c h = absurd (false≢true (sym h))
second-low false c h = h

pub both-low : (b : Bool) (c : Bool) → b ≡ false → c ≡ false → (b || c) ≡ false
both-low true c h k = h
both-low false c h k = k

pub low-append : (xs ys : List ℕ) → IsLow xs → IsLow ys → IsLow (xs ++ ys)
low-append [] ys h k = k
low-append (x ∷ xs) ys h k =
    both-low (is_high x) (list_any is_high (xs ++ ys)) (first-low (is_high x) (list_any is_high xs) h)
    (low-append xs ys (second-low (is_high x) (list_any is_high xs) h) k)

-- has none of them in front
pub highs-front : (tail : ℕ) (xs ys : List ℕ) → IsLow xs → high_marks tail (xs ++ ys) ≡ high_marks tail ys
highs-front tail [] ys h = refl
highs-front tail (x ∷ xs) ys h =
    ap (λ (b : Bool). cond b ((length (x ∷ xs ++ ys) + tail, BadLine) ∷ high_marks tail (xs ++ ys))
    (high_marks tail (xs ++ ys)))
    (first-low (is_high x) (list_any is_high xs) h)
    ∙ highs-front tail xs ys (second-low (is_high x) (list_any is_high xs) h)

highs-step : (high : Bool) (p q : ℕ) (all front back : List Mark) → p ≡ q → all ≡ front ++ back →
    cond high ((p, BadLine) ∷ all) all ≡ cond high ((q, BadLine) ∷ front) front ++ back
highs-step true p q all front back e f =
    ap (λ (n : ℕ). (n, BadLine) ∷ all) e ∙ ap (λ (xs : List Mark). (q, BadLine) ∷ xs) f
highs-step false p q all front back e f = f

pub highs-append : (tail : ℕ) (xs ys : List ℕ) →
    high_marks tail (xs ++ ys) ≡ high_marks (length ys + tail) xs ++ high_marks tail ys
highs-append tail [] ys = refl
highs-append tail (x ∷ xs) ys =
    highs-step (is_high x) (length (x ∷ xs ++ ys) + tail) (length (x ∷ xs) + (length ys + tail))
    (high_marks tail (xs ++ ys))
    (high_marks (length ys + tail) xs) (high_marks tail ys) (omega (arith, length-append xs ys))
    (highs-append tail xs ys)

-- the first of them is the first fault where there is no other
high-told : (high : Bool) (tail byte : ℕ) (bytes : List ℕ) → (high || list_any is_high bytes) ≡ true →
    (list_any is_high bytes ≡ true → IsTold tail BadLine (high_marks tail bytes)) →
    IsTold tail BadLine (cond high ((length (byte ∷ bytes) + tail, BadLine) ∷ high_marks tail bytes)
    (high_marks tail bytes))
high-told true tail byte bytes h more =
    record {
      place = length (byte ∷ bytes) + tail;
      from = omega arith;
      among = inl refl;
      none = lowest-kind (length (byte ∷ bytes) + tail)
          ((length (byte ∷ bytes) + tail, BadLine) ∷ high_marks tail bytes) (
            omega arith,
            at-most-more (length bytes + tail) (length (byte ∷ bytes) + tail) (high_marks tail bytes)
                (omega arith) (highs-at-most tail bytes),
          );
    }
high-told false tail byte bytes h more = more h

pub first-high : (tail : ℕ) (bytes : List ℕ) → list_any is_high bytes ≡ true →
    IsTold tail BadLine (high_marks tail bytes)
first-high tail [] h = absurd (false≢true h)
first-high tail (byte ∷ bytes) h = high-told (is_high byte) tail byte bytes h (first-high tail bytes)

pub no-high : (tail : ℕ) (bytes : List ℕ) → IsLow bytes → high_marks tail bytes ≡ []
no-high tail [] h = refl
no-high tail (byte ∷ bytes) h =
    ap (λ (b : Bool). cond b ((length (byte ∷ bytes) + tail, BadLine) ∷ high_marks tail bytes) (high_marks tail bytes))
    (first-low (is_high byte) (list_any is_high bytes) h)
    ∙ no-high tail bytes (second-low (is_high byte) (list_any is_high bytes) h)

-- a piece that begins with this byte, or is empty before one that is not above 0x7F
abbrev pub Begins : List ℕ → ℕ → Type 0
Begins [] byte = is_high byte ≡ false
Begins (first ∷ bytes) byte = first ≡ byte

fault-begins : (piece : List ℕ) (b : ℕ) (kind : TextKind) → Begins piece b →
    fault_at piece kind ≡ cond (is_high b) BadLine kind
fault-begins [] b kind h = sym (ap (λ (t : Bool). cond t BadLine kind) h)
fault-begins (first ∷ bytes) b kind e = ap (λ (x : ℕ). cond (is_high x) BadLine kind) e

start-told : (high : Bool) (tail b : ℕ) (bs : List ℕ) (kind : TextKind) (later : List Mark) →
    AtMost (length bs + tail) later →
    IsTold tail (cond high BadLine kind)
    (((length (b ∷ bs) + tail, kind) ∷ later) ++ cond high ((length (b ∷ bs) + tail, BadLine) ∷ high_marks tail bs)
    (high_marks tail bs))
start-told true tail b bs kind later h =
    let here : length bs + tail ≤ length (b ∷ bs) + tail = omega arith in
    record {
      place = length (b ∷ bs) + tail;
      from = omega arith;
      among = among-right (length (b ∷ bs) + tail, BadLine) ((length (b ∷ bs) + tail, kind) ∷ later)
          ((length (b ∷ bs) + tail, BadLine) ∷ high_marks tail bs) (inl refl);
      none = lowest-kind (length (b ∷ bs) + tail)
          (((length (b ∷ bs) + tail, kind) ∷ later) ++ ((length (b ∷ bs) + tail, BadLine) ∷ high_marks tail bs))
          (at-most-append (length (b ∷ bs) + tail) ((length (b ∷ bs) + tail, kind) ∷ later)
          ((length (b ∷ bs) + tail, BadLine) ∷ high_marks tail bs)
          (omega arith, at-most-more (length bs + tail) (length (b ∷ bs) + tail) later here h) (
            omega arith,
            at-most-more (length bs + tail) (length (b ∷ bs) + tail) (high_marks tail bs) here
                (highs-at-most tail bs),
          ));
    }
start-told false tail b bs kind later h =
    let less : length bs + tail < length (b ∷ bs) + tail = omega arith in
    record {
      place = length (b ∷ bs) + tail;
      from = omega arith;
      among = inl refl;
      none = (
        not-itself (length (b ∷ bs) + tail) (number_of kind),
        none-append (length (b ∷ bs) + tail, kind) later (high_marks tail bs)
            (later-place (length (b ∷ bs) + tail) (length bs + tail) kind later h less)
            (later-place (length (b ∷ bs) + tail) (length bs + tail) kind (high_marks tail bs)
            (highs-at-most tail bs) less),
      );
    }

-- a fault where a text begins, with all others behind its first byte
pub start-fault : (tail b : ℕ) (bs : List ℕ) (kind : TextKind) (piece : List ℕ) (later : List Mark) → Begins piece b →
    AtMost (length bs + tail) later →
    IsTold tail (fault_at piece kind) (((length (b ∷ bs) + tail, kind) ∷ later) ++ high_marks tail (b ∷ bs))
start-fault tail b bs kind piece later begins h =
    subst (λ (k : TextKind). IsTold tail k (((length (b ∷ bs) + tail, kind) ∷ later) ++ high_marks tail (b ∷ bs)))
    (sym (fault-begins piece b kind begins)) (start-told (is_high b) tail b bs kind later h)

-- a bad line where a text begins, with no fault before it
pub start-bad : (tail : ℕ) (rest : List ℕ) (later : List Mark) → AtMost (length rest + tail) later →
    IsTold tail BadLine (((length rest + tail, BadLine) ∷ later) ++ high_marks tail rest)
start-bad tail rest later h = record {
  place = length rest + tail;
  from = omega arith;
  among = inl refl;
  none = lowest-kind (length rest + tail) (((length rest + tail, BadLine) ∷ later) ++ high_marks tail rest)
      (at-most-append (length rest + tail) ((length rest + tail, BadLine) ∷ later) (high_marks tail rest)
      (omega arith, h) (highs-at-most tail rest));
}
