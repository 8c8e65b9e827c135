-- Pieces of a range: numbers, and accesses of a chunk as accesses of the range that it begins.
use Rattle.std.proofs.Common.{◌≡◌, ℕ, ◌+◌, ◌-◌, ◌%◌, ◌^◌, ◌<◌, ◌≤◌, min, Bool, true, false, List, [], ◌∷◌, ◌++◌, length, take, drop, length-append, length-drop, take-append-drop, refl, sym, ap, subst, ◌∙◌, arith, ◌⊎◌, inl, inr}
use Rattle.std.specs.Int.{to_le_bytes, w64}
use Rattle.std.proofs.lemmas.List.{length-take-le, take_at, drop_at, take_all, take-take, drop-take, drop-drop, take-append-le, drop-append-le}
use Rattle.fe_base.specs.Access.{Access, Loaded, Stored, StoredLow, StoredHigh}
use Rattle.chunk_memory.proofs.SizeLemmas.{by_unit, step-fits, step_size-part, step_size-whole, chunk_size-part, chunk_size-whole, whole-is, unit-bounds}
use Rattle.chunk_memory.specs.Ports.{ArePortSizes}
use Rattle.chunk_memory.specs.Spelling.{IsPiece, SpellsRead}
use Rattle.chunk_memory.specs.Transactions.{begins_in_part, chunk_size, step_size, ReadStep}

-- ---- the numbers of a unit in its doubleword
pub record UnitPlace (unit at : ℕ) : Type 0 where
  pub low : at % unit < unit
  pub place : at - at % unit - (at - at % unit) % 8 ≡ at - at % 8
  pub offset : (at - at % unit) % 8 + at % unit ≡ at % 8
  pub inside : (at - at % unit) % 8 + unit ≤ 8
  pub end : (at - at % unit + unit) % unit ≡ 0

unit-place-4 : (at : ℕ) → UnitPlace 4 at
unit-place-4 at = record { low = omega arith; place = omega arith; offset = omega arith; inside = omega arith; end = omega arith }

unit-place-8 : (at : ℕ) → UnitPlace 8 at
unit-place-8 at = record { low = omega arith; place = omega arith; offset = omega arith; inside = omega arith; end = omega arith }

pub unit-place : (unit most at : ℕ) → ArePortSizes unit most → UnitPlace unit at
unit-place unit most at sizes = by_unit (λ u. UnitPlace u at) unit most sizes (unit-place-4 at) (unit-place-8 at)

-- the end of a doubleword is the end of a unit
eight-4 : (n : ℕ) → n % 8 ≡ 0 → n % 4 ≡ 0
eight-4 n e = omega arith

pub eight-unit : (unit most n : ℕ) → ArePortSizes unit most → n % 8 ≡ 0 → n % unit ≡ 0
eight-unit unit most n sizes e = by_unit (λ u. n % u ≡ 0) unit most sizes (eight-4 n e) e

-- whole units behind whole units
sum-4 : (a b : ℕ) → a % 4 ≡ 0 → b % 4 ≡ 0 → (a + b) % 4 ≡ 0
sum-4 a b e f = omega arith

sum-8 : (a b : ℕ) → a % 8 ≡ 0 → b % 8 ≡ 0 → (a + b) % 8 ≡ 0
sum-8 a b e f = omega arith

pub sum-unit : (unit most a b : ℕ) → ArePortSizes unit most → a % unit ≡ 0 → b % unit ≡ 0 → (a + b) % unit ≡ 0
sum-unit unit most a b sizes e f =
    (by_unit (λ u. a % u ≡ 0 → b % u ≡ 0 → (a + b) % u ≡ 0) unit most sizes (sum-4 a b) (sum-8 a b)) e f

-- a piece that fills or ends in a unit alone has the unit's size
alone-4 : (at size : ℕ) → at % 4 ≡ 0 → 0 < size → size ≤ 4 → at % 8 + size ≤ 8 → (size ≡ 4) ⊎ ((at + size) % 8 ≡ 0) → size ≡ 4
alone-4 at size even some within inside (inl all) = all
alone-4 at size even some within inside (inr end) = omega arith

alone-8 : (at size : ℕ) → at % 8 ≡ 0 → 0 < size → size ≤ 8 → at % 8 + size ≤ 8 → (size ≡ 8) ⊎ ((at + size) % 8 ≡ 0) → size ≡ 8
alone-8 at size even some within inside (inl all) = all
alone-8 at size even some within inside (inr end) = omega arith

pub alone : (unit most at size : ℕ) → ArePortSizes unit most → at % unit ≡ 0 → 0 < size → size ≤ unit → at % 8 + size ≤ 8 → (size ≡ unit) ⊎ ((at + size) % 8 ≡ 0) → size ≡ unit
alone unit most at size sizes even some within inside ends =
    (by_unit (λ u. at % u ≡ 0 → 0 < size → size ≤ u → at % 8 + size ≤ 8 → (size ≡ u) ⊎ ((at + size) % 8 ≡ 0) → size ≡ u) unit most sizes (alone-4 at size) (alone-8 at size)) even some within inside ends

pub even-place : (unit most at : ℕ) → ArePortSizes unit most → (at - at % unit) % unit ≡ 0
even-place unit most at sizes = by_unit (λ u. (at - at % u) % u ≡ 0) unit most sizes (omega arith) (omega arith)

-- ---- parts of parts
pub part-of : (size offset count q : ℕ) (l : List ℕ) → offset + size ≤ count → take size (drop offset (take count (drop q l))) ≡ take size (drop (q + offset) l)
part-of size offset count q l fits =
    let split : count ≡ offset + (count - offset) = omega arith in
    ap (λ (n : ℕ). take size (drop offset (take n (drop q l)))) split
    ∙ ap (λ (k : List ℕ). take size k) (drop-take offset (count - offset) (drop q l))
    ∙ take-take size (count - offset) (drop offset (drop q l)) (omega arith)
    ∙ ap (λ (k : List ℕ). take size k) (drop-drop offset q l)

-- ---- the accesses of a read
pub none-read : (cut at : ℕ) (bytes : List ℕ) (xs : List Access) → length bytes ≡ 0 → SpellsRead cut at bytes xs → xs ≡ []
none-read cut at bytes [] none s = refl
none-read cut at bytes (Loaded place value ∷ xs) none s = let piece = s.0.piece in absurd (omega (arith, piece.some, piece.within))
none-read cut at bytes (Stored place value ∷ xs) none s = absurd s
none-read cut at bytes (StoredLow place value ∷ xs) none s = absurd s
none-read cut at bytes (StoredHigh place value ∷ xs) none s = absurd s

-- a piece of the front is a piece of the whole
pub piece-more : (unit most at count more size : ℕ) → ArePortSizes unit most → (at + count) % unit ≡ 0 → IsPiece 8 at count size → IsPiece unit at (count + more) size
piece-more unit most at count more size sizes end piece = record {
  some = piece.some;
  within = omega (arith, piece.within);
  inside = piece.inside;
  ends = elim piece.ends [
    | inl all ↦ inr (subst (λ (n : ℕ). (at + n) % unit ≡ 0) (sym all) end)
    | inr even ↦ inr (eight-unit unit most (at + size) sizes even)
  ];
}

-- a front of whole units, and the rest
pub read-joins : (unit most at : ℕ) (front rest : List ℕ) (xs ys : List Access) → ArePortSizes unit most → (at + length front) % unit ≡ 0
    → SpellsRead 8 at front xs → SpellsRead unit (at + length front) rest ys → SpellsRead unit at (front ++ rest) (xs ++ ys)
read-joins unit most at front rest [] ys sizes end first more =
    let none : length front ≡ 0 = ap (λ (l : List ℕ). length l) first in
    let here : at + length front ≡ at = omega arith in
    subst (λ (l : List ℕ). SpellsRead unit at (l ++ rest) ys) (sym first) (subst (λ (n : ℕ). SpellsRead unit n rest ys) here more)
read-joins unit most at front rest (Loaded place value ∷ xs) ys sizes end first more =
    let p = first.0 in
    let size : ℕ = p.size in
    let within : size ≤ length front = p.piece.within in
    let long : length front + length rest ≡ length (front ++ rest) = sym (length-append front rest) in
    let left : length (drop size front) ≡ length front - size = length-drop size front in
    let there : at + size + length (drop size front) ≡ at + length front = omega arith in
    let last : (at + size + length (drop size front)) % unit ≡ 0 = ap (λ (n : ℕ). n % unit) there ∙ end in
    let tail = read-joins unit most (at + size) (drop size front) rest xs ys sizes last first.1 (subst (λ (n : ℕ). SpellsRead unit n rest ys) (sym there) more) in (
      record {
        size = size;
        piece = subst (λ (n : ℕ). IsPiece unit at n size) long (piece-more unit most at (length front) (length rest) size sizes end p.piece);
        place_is = p.place_is;
        fits = p.fits;
        bytes_are = take-append-le size front rest within ∙ p.bytes_are;
      },
      subst (λ (l : List ℕ). SpellsRead unit (at + size) l (xs ++ ys)) (sym (drop-append-le size front rest within)) tail,
    )
read-joins unit most at front rest (Stored place value ∷ xs) ys sizes end first more = absurd first
read-joins unit most at front rest (StoredLow place value ∷ xs) ys sizes end first more = absurd first
read-joins unit most at front rest (StoredHigh place value ∷ xs) ys sizes end first more = absurd first

-- one unit is one load
pub record UnitLoaded (unit at : ℕ) (got : List ℕ) (xs : List Access) : Type 0 where
  pub place : ℕ
  pub value : ℕ
  pub is : xs ≡ Loaded place value ∷ []
  pub place_is : place ≡ at - at % 8
  pub fits : value < 2 ^ 64
  pub bytes_are : got ≡ take unit (drop (at % 8) (to_le_bytes w64 value))

pub unit-loaded : (unit most at : ℕ) (got : List ℕ) (xs : List Access) → ArePortSizes unit most → at % unit ≡ 0 → length got ≡ unit → SpellsRead 8 at got xs → UnitLoaded unit at got xs
unit-loaded unit most at got [] sizes even long s =
    let none : length got ≡ 0 = ap (λ (l : List ℕ). length l) s in
    let some = unit-bounds unit most sizes in
    absurd (omega arith)
unit-loaded unit most at got (Loaded place value ∷ xs) sizes even long s =
    let p = s.0 in
    let ends = elim p.piece.ends as (λ _. (p.size ≡ unit) ⊎ ((at + p.size) % 8 ≡ 0)) [ inl all ↦ inl (all ∙ long) | inr end ↦ inr end ] in
    let all : p.size ≡ unit = alone unit most at p.size sizes even p.piece.some (omega (arith, p.piece.within)) p.piece.inside ends in
    let rest : xs ≡ [] = none-read 8 (at + p.size) (drop p.size got) xs (omega (arith, length-drop p.size got)) s.1 in
    let whole : take p.size got ≡ got = take_all p.size got (omega arith) in
    record {
      place = place;
      value = value;
      is = ap (λ (l : List Access). Loaded place value ∷ l) rest;
      place_is = p.place_is;
      fits = p.fits;
      bytes_are = sym whole ∙ p.bytes_are ∙ ap (λ (n : ℕ). take n (drop (at % 8) (to_le_bytes w64 value))) all;
    }
unit-loaded unit most at got (Stored place value ∷ xs) sizes even long s = absurd s
unit-loaded unit most at got (StoredLow place value ∷ xs) sizes even long s = absurd s
unit-loaded unit most at got (StoredHigh place value ∷ xs) sizes even long s = absurd s

-- the end of a part is the end of the range or of its unit
pub part-ends : (unit most at count size : ℕ) → ArePortSizes unit most → size ≡ min count (unit - at % unit) → 0 < size → IsPiece unit at count size
part-ends unit most at count size sizes is some =
    let here = unit-place unit most at sizes in
    let inside : at % 8 + size ≤ 8 = omega (arith, here.low, here.offset, here.inside) in
    let end : size ≡ unit - at % unit → (at + size) % unit ≡ 0 =
    λ e. ap (λ (n : ℕ). n % unit) (let sum : at + size ≡ at - at % unit + unit = omega (arith, here.low, here.offset) in sum) ∙ here.end in
    record {
      some = some;
      within = omega arith;
      inside = inside;
      ends = elim (which size count (unit - at % unit) is) as (λ _. (size ≡ count) ⊎ ((at + size) % unit ≡ 0)) [ inl e ↦ inl e | inr e ↦ inr (end e) ];
    }
  where
    which : (size count left : ℕ) → size ≡ min count left → (size ≡ count) ⊎ (size ≡ left)
    which size count left e = grind arith

-- a part of a unit, and the rest
pub part-joins : (unit most at count : ℕ) (got rest : List ℕ) (xs ys : List Access) → ArePortSizes unit most → 0 < count → begins_in_part unit at count ≡ true → length got ≡ unit
    → length rest ≡ count - step_size unit most at count → SpellsRead 8 (at - at % unit) got xs → SpellsRead unit (at + step_size unit most at count) rest ys
    → SpellsRead unit at (take (step_size unit most at count) (drop (at % unit) got) ++ rest) (xs ++ ys)
part-joins unit most at count got rest xs ys sizes some part long left first more =
    let size : ℕ = step_size unit most at count in
    let fits = step-fits unit most at count sizes some in
    let is : size ≡ min count (unit - at % unit) = step_size-part unit most at count part in
    let here = unit-place unit most at sizes in
    let chunk : chunk_size unit most at count ≡ unit = chunk_size-part unit most at count part in
    let load = unit-loaded unit most (at - at % unit) got xs sizes (even-place unit most at sizes) long first in
    let word : List ℕ = to_le_bytes w64 load.value in
    let front : List ℕ = take size (drop (at % unit) got) in
    let front_size : length front ≡ size = length-take-le size (drop (at % unit) got) (omega (arith, length-drop (at % unit) got, fits.inside)) in
    let front_is : front ≡ take size (drop (at % 8) word) =
    ap (λ (l : List ℕ). take size (drop (at % unit) l)) load.bytes_are
    ∙ part-of size (at % unit) unit ((at - at % unit) % 8) word (omega (arith, fits.inside)) ∙ ap (λ (n : ℕ). take size (drop n word)) here.offset in
    let all : length (front ++ rest) ≡ count = omega (arith, length-append front rest, fits.within) in
    let spelled : SpellsRead unit at (front ++ rest) (Loaded load.place load.value ∷ ys) = (
      record {
        size = size;
        piece = subst (λ (n : ℕ). IsPiece unit at n size) (sym all) (part-ends unit most at count size sizes is fits.some);
        place_is = load.place_is ∙ here.place;
        fits = load.fits;
        bytes_are = take_at front rest size front_size ∙ front_is;
      },
      subst (λ (l : List ℕ). SpellsRead unit (at + size) l ys) (sym (drop_at front rest size front_size)) more,
    ) in
    subst (λ (l : List Access). SpellsRead unit at (front ++ rest) (l ++ ys)) (sym load.is) spelled

-- the first step of a read, and the rest
pub step-joins : (unit most at : ℕ) (bytes : List ℕ) (place : ℕ) (got : List ℕ) (xs ys : List Access) → ArePortSizes unit most → ReadStep unit most at bytes place got → length got % unit ≡ 0
    → SpellsRead 8 place got xs → SpellsRead unit (at + step_size unit most at (length bytes)) (drop (step_size unit most at (length bytes)) bytes) ys → SpellsRead unit at bytes (xs ++ ys)
step-joins unit most at bytes place got xs ys sizes step units first more = go (begins_in_part unit at (length bytes)) refl
  where
    go : (b : Bool) → begins_in_part unit at (length bytes) ≡ b → SpellsRead unit at bytes (xs ++ ys)
    go true part =
        let long : length got ≡ unit = step.size ∙ chunk_size-part unit most at (length bytes) part in
        let fits = step-fits unit most at (length bytes) sizes step.some in
        let k : ℕ = step_size unit most at (length bytes) in
        let spelled = part-joins unit most at (length bytes) got (drop k bytes) xs ys sizes step.some part long (length-drop k bytes)
        (subst (λ (n : ℕ). SpellsRead 8 n got xs) step.place_is first) more in
        let same : take k (drop (at % unit) got) ++ drop k bytes ≡ bytes = ap (λ (l : List ℕ). l ++ drop k bytes) (sym step.bytes_are) ∙ take-append-drop k bytes in
        subst (λ (l : List ℕ). SpellsRead unit at l (xs ++ ys)) same spelled
    go false whole =
        let is = whole-is unit at (length bytes) whole in
        let even : at % unit ≡ 0 = is.0 in
        let k : ℕ = step_size unit most at (length bytes) in
        let long : length got ≡ k = step.size ∙ chunk_size-whole unit most at (length bytes) whole ∙ sym (step_size-whole unit most at (length bytes) whole) in
        let here : place ≡ at = step.place_is ∙ (let e : at - at % unit ≡ at = omega arith in e) in
        let got_is : take k bytes ≡ got = step.bytes_are ∙ ap (λ (n : ℕ). take k (drop n got)) even ∙ take_all k got (omega arith) in
        let end : (at + length got) % unit ≡ 0 = sum-unit unit most at (length got) sizes even units in
        let joined = read-joins unit most at got (drop k bytes) xs ys sizes end (subst (λ (n : ℕ). SpellsRead 8 n got xs) here first)
        (subst (λ (n : ℕ). SpellsRead unit (at + n) (drop k bytes) ys) (sym long) more) in
        let same : got ++ drop k bytes ≡ bytes = ap (λ (l : List ℕ). l ++ drop k bytes) (sym got_is) ∙ take-append-drop k bytes in
        subst (λ (l : List ℕ). SpellsRead unit at l (xs ++ ys)) same joined
