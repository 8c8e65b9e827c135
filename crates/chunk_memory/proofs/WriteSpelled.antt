-- The accesses of a write, from those of its chunks.
use Rattle.std.proofs.Common.{◌≡◌, ℕ, zero, suc, ◌+◌, ◌-◌, ◌%◌, ◌^◌, ◌<◌, ◌≤◌, min, Bool, true, false, List, [], ◌∷◌, ◌++◌, length, take, drop, length-append, length-drop, take-append-drop, append_assoc, refl, sym, ap, subst, ◌∙◌, arith, ◌⊎◌, inl, inr}
use Rattle.std.specs.Int.{to_le_bytes, from_le_bytes, w32, w64}
use Rattle.std.proofs.lemmas.Bool.{cases_lt, false≢true}
use Rattle.std.proofs.lemmas.List.{length-take-le, take_all, take-append-le, drop-append-le, drop_all}
use Rattle.std.proofs.lemmas.Nat.{le_bytes_4, le_bytes_8}
use Rattle.fe_base.specs.Access.{Access, Loaded, Stored, StoredLow, StoredHigh}
use Rattle.guest_memory.proofs.PartLemmas.{length-with_part}
use Rattle.guest_memory.specs.Memory.{with_part}
use Rattle.chunk_memory.proofs.PieceLemmas.{unit-place, sum-unit, alone, even-place, piece-more, part-ends, UnitLoaded, unit-loaded}
use Rattle.chunk_memory.proofs.ReadSpelled.{eight_sizes, eight-step}
use Rattle.chunk_memory.proofs.SizeLemmas.{step-fits, step_size-part, step_size-whole, chunk_size-part, whole-is, part-is, unit-bounds, chunk-part, chunk-whole, mapped-rest}
use Rattle.chunk_memory.proofs.WordLemmas.{AreSmall, small-drop, small-take, word-small, part-small, half-fits, word-is-fit}
use Rattle.chunk_memory.specs.BeatLaws.{eight-of}
use Rattle.chunk_memory.specs.Ports.{IsChunk, ArePortSizes}
use Rattle.chunk_memory.specs.Ranges.{IsMappedRange}
use Rattle.chunk_memory.specs.Reached.{OneReaches, RefusedReaches, IsNoCommand, AsksSame}
use Rattle.chunk_memory.proofs.ReachLemmas.{steps-then}
use Rattle.chunk_memory.specs.Spelling.{IsPiece, StoresPiece, MergesPiece, SpellsRead, SpellsWrite, SpellsChunk, IsOneAccess, StepsFirst, place_of, stored_at, stored_bytes, StoredFits}
use Rattle.chunk_memory.specs.Transactions.{Chunk, ReadChunk, WriteChunk, begins_in_part, chunk_size, step_size, WholeStep, PartStep, WriteChunks, Made}
use Rattle.chunk_memory.specs.declared.stops.PortStop.{PortStop}

-- ---- writes of nothing
pub none-written : (unit cut at : ℕ) (bytes : List ℕ) (xs : List Access) → length bytes ≡ 0 → SpellsWrite unit cut at bytes xs → xs ≡ []
none-written unit cut at bytes [] none s = refl
none-written unit cut at bytes (Loaded place old ∷ []) none s = absurd s
none-written unit cut at bytes (Loaded place old ∷ store ∷ xs) none s = let p = s.0.piece in absurd (omega (arith, p.some, p.within))
none-written unit cut at bytes (Stored place value ∷ xs) none s = let p = s.0.piece in absurd (omega (arith, p.some, p.within))
none-written unit cut at bytes (StoredLow place value ∷ xs) none s = let p = s.0.piece in absurd (omega (arith, p.some, p.within))
none-written unit cut at bytes (StoredHigh place value ∷ xs) none s = let p = s.0.piece in absurd (omega (arith, p.some, p.within))

-- ---- a store by its bytes
pub spell-store : (unit cut at : ℕ) (bytes : List ℕ) (store : Access) (xs : List Access) → StoresPiece unit cut at bytes store → SpellsWrite unit cut (at + length (stored_bytes store)) (drop (length (stored_bytes store)) bytes) xs → SpellsWrite unit cut at bytes (store ∷ xs)
spell-store unit cut at bytes (Loaded place value) xs piece more = absurd piece.fits
spell-store unit cut at bytes (Stored place value) xs piece more = (piece, more)
spell-store unit cut at bytes (StoredLow place value) xs piece more = (piece, more)
spell-store unit cut at bytes (StoredHigh place value) xs piece more = (piece, more)

-- ---- a front of whole units, and the rest
store-more : (unit most at : ℕ) (front rest : List ℕ) (store : Access) → ArePortSizes unit most → (at + length front) % unit ≡ 0 → StoresPiece unit 8 at front store → StoresPiece unit unit at (front ++ rest) store
store-more unit most at front rest store sizes end p =
    let long : length front + length rest ≡ length (front ++ rest) = sym (length-append front rest) in
    record {
      piece = subst (λ (n : ℕ). IsPiece unit at n (length (stored_bytes store))) long (piece-more unit most at (length front) (length rest) (length (stored_bytes store)) sizes end p.piece);
      from_unit = p.from_unit;
      whole = p.whole;
      place_is = p.place_is;
      here = p.here;
      fits = p.fits;
      bytes_are = p.bytes_are ∙ sym (take-append-le (length (stored_bytes store)) front rest p.piece.within);
    }

merge-more : (unit most at : ℕ) (front rest : List ℕ) (place old : ℕ) (store : Access) → ArePortSizes unit most → (at + length front) % unit ≡ 0 → (p : MergesPiece unit 8 at front place old store) → MergesPiece unit unit at (front ++ rest) place old store
merge-more unit most at front rest place old store sizes end p =
    let long : length front + length rest ≡ length (front ++ rest) = sym (length-append front rest) in
    let same : take p.size front ≡ take p.size (front ++ rest) = sym (take-append-le p.size front rest p.piece.within) in
    record {
      size = p.size;
      piece = subst (λ (n : ℕ). IsPiece unit at n p.size) long (piece-more unit most at (length front) (length rest) p.size sizes end p.piece);
      part = p.part;
      in_unit = p.in_unit;
      place_is = p.place_is;
      old_fits = p.old_fits;
      same_place = p.same_place;
      here = p.here;
      fits = p.fits;
      bytes_are = p.bytes_are ∙ ap (λ (l : List ℕ). with_part (take unit (drop (at % 8 - at % unit) (to_le_bytes w64 old))) (at % unit) l) same;
    }

-- what the tail of such a front asks
tail-sum : (at n : ℕ) (front : List ℕ) → n ≤ length front → at + n + length (drop n front) ≡ at + length front
tail-sum at n front within = omega (arith, length-drop n front)

tail-end : (unit at n : ℕ) (front : List ℕ) → n ≤ length front → (at + length front) % unit ≡ 0 → (at + n + length (drop n front)) % unit ≡ 0
tail-end unit at n front within end = ap (λ (k : ℕ). k % unit) (tail-sum at n front within) ∙ end

tail-rest : (unit at n : ℕ) (front rest : List ℕ) (ys : List Access) → n ≤ length front → SpellsWrite unit unit (at + length front) rest ys → SpellsWrite unit unit (at + n + length (drop n front)) rest ys
tail-rest unit at n front rest ys within more = subst (λ (k : ℕ). SpellsWrite unit unit k rest ys) (sym (tail-sum at n front within)) more

tail-joined : (unit at n : ℕ) (front rest : List ℕ) (zs : List Access) → n ≤ length front → SpellsWrite unit unit (at + n) (drop n front ++ rest) zs → SpellsWrite unit unit (at + n) (drop n (front ++ rest)) zs
tail-joined unit at n front rest zs within s = subst (λ (l : List ℕ). SpellsWrite unit unit (at + n) l zs) (sym (drop-append-le n front rest within)) s

pub write-joins : (unit most at : ℕ) (front rest : List ℕ) (xs ys : List Access) → ArePortSizes unit most → (at + length front) % unit ≡ 0
    → SpellsWrite unit 8 at front xs → SpellsWrite unit unit (at + length front) rest ys → SpellsWrite unit unit at (front ++ rest) (xs ++ ys)
unfolding merge-more
write-joins unit most at front rest [] ys sizes end first more =
    let none : length front ≡ 0 = ap (λ (l : List ℕ). length l) first in
    let here : at + length front ≡ at = omega arith in
    subst (λ (l : List ℕ). SpellsWrite unit unit at (l ++ rest) ys) (sym first) (subst (λ (n : ℕ). SpellsWrite unit unit n rest ys) here more)
write-joins unit most at front rest (Loaded place old ∷ []) ys sizes end first more = absurd first
write-joins unit most at front rest (Loaded place old ∷ store ∷ xs) ys sizes end first more =
    let p = first.0 in
    let n : ℕ = p.size in
    let within : n ≤ length front = p.piece.within in
    let tail = write-joins unit most (at + n) (drop n front) rest xs ys sizes (tail-end unit at n front within end) first.1 (tail-rest unit at n front rest ys within more) in
    (merge-more unit most at front rest place old store sizes end p, tail-joined unit at n front rest (xs ++ ys) within tail)
write-joins unit most at front rest (Stored place value ∷ xs) ys sizes end first more =
    let within : 8 ≤ length front = first.0.piece.within in
    let tail = write-joins unit most (at + 8) (drop 8 front) rest xs ys sizes (tail-end unit at 8 front within end) first.1 (tail-rest unit at 8 front rest ys within more) in
    (store-more unit most at front rest (Stored place value) sizes end first.0, tail-joined unit at 8 front rest (xs ++ ys) within tail)
write-joins unit most at front rest (StoredLow place value ∷ xs) ys sizes end first more =
    let within : 4 ≤ length front = first.0.piece.within in
    let tail = write-joins unit most (at + 4) (drop 4 front) rest xs ys sizes (tail-end unit at 4 front within end) first.1 (tail-rest unit at 4 front rest ys within more) in
    (store-more unit most at front rest (StoredLow place value) sizes end first.0, tail-joined unit at 4 front rest (xs ++ ys) within tail)
write-joins unit most at front rest (StoredHigh place value ∷ xs) ys sizes end first more =
    let within : 4 ≤ length front = first.0.piece.within in
    let tail = write-joins unit most (at + 4) (drop 4 front) rest xs ys sizes (tail-end unit at 4 front within end) first.1 (tail-rest unit at 4 front rest ys within more) in
    (store-more unit most at front rest (StoredHigh place value) sizes end first.0, tail-joined unit at 4 front rest (xs ++ ys) within tail)

-- ---- one unit is one store
pub record UnitStored (at : ℕ) (put : List ℕ) (xs : List Access) : Type 0 where
  pub store : Access
  pub is : xs ≡ store ∷ []
  pub place_is : place_of store ≡ at - at % 8
  pub here : stored_at store ≡ at
  pub fits : StoredFits store
  pub bytes_are : stored_bytes store ≡ put

unit-stored-by : (unit most at : ℕ) (put : List ℕ) (store : Access) (xs : List Access) → ArePortSizes unit most → at % unit ≡ 0 → length put ≡ unit → StoresPiece unit 8 at put store
    → (n : ℕ) → n ≡ length (stored_bytes store) → SpellsWrite unit 8 (at + n) (drop n put) xs → UnitStored at put (store ∷ xs)
unit-stored-by unit most at put store xs sizes even long p n n_is more =
    let size : ℕ = length (stored_bytes store) in
    let ends = elim p.piece.ends as (λ _. (size ≡ unit) ⊎ ((at + size) % 8 ≡ 0)) [ inl all ↦ inl (all ∙ long) | inr end ↦ inr end ] in
    let all : size ≡ unit = alone unit most at size sizes even p.piece.some (omega (arith, p.piece.within)) p.piece.inside ends in
    let rest : xs ≡ [] = none-written unit 8 (at + n) (drop n put) xs (omega (arith, length-drop n put)) more in
    record {
      store = store;
      is = ap (λ (l : List Access). store ∷ l) rest;
      place_is = p.place_is;
      here = p.here;
      fits = p.fits;
      bytes_are = p.bytes_are ∙ take_all size put (omega arith);
    }

pub unit-stored : (unit most at : ℕ) (put : List ℕ) (xs : List Access) → ArePortSizes unit most → at % unit ≡ 0 → length put ≡ unit → SpellsWrite unit 8 at put xs → UnitStored at put xs
unit-stored unit most at put [] sizes even long s =
    let none : length put ≡ 0 = ap (λ (l : List ℕ). length l) s in
    let some = unit-bounds unit most sizes in
    absurd (omega arith)
unit-stored unit most at put (Loaded place old ∷ []) sizes even long s = absurd s
unit-stored unit most at put (Loaded place old ∷ store ∷ xs) sizes even long s =
    let p = s.0 in
    let ends = elim p.piece.ends as (λ _. (p.size ≡ unit) ⊎ ((at + p.size) % 8 ≡ 0)) [ inl all ↦ inl (all ∙ long) | inr end ↦ inr end ] in
    let all : p.size ≡ unit = alone unit most at p.size sizes even p.piece.some (omega (arith, p.piece.within)) p.piece.inside ends in
    absurd (omega (arith, p.part))
unit-stored unit most at put (Stored place value ∷ xs) sizes even long s = unit-stored-by unit most at put (Stored place value) xs sizes even long s.0 8 refl s.1
unit-stored unit most at put (StoredLow place value ∷ xs) sizes even long s = unit-stored-by unit most at put (StoredLow place value) xs sizes even long s.0 4 refl s.1
unit-stored unit most at put (StoredHigh place value ∷ xs) sizes even long s = unit-stored-by unit most at put (StoredHigh place value) xs sizes even long s.0 4 refl s.1

half-ends : (at count : ℕ) → at % 8 ≡ 0 → count ≡ 8 → (4 ≡ count) ⊎ ((at + 4) % 8 ≡ 0) → ⊥
half-ends at count even long (inl all) = omega arith
half-ends at count even long (inr end) = omega arith

-- a part is less than its unit
part-less : (unit at count k : ℕ) → k ≡ min count (unit - at % unit) → begins_in_part unit at count ≡ true → at % unit < unit → k < unit
part-less unit at count k is part low = elim (cases_lt 0 (at % unit)) [
  | inl uneven ↦ omega arith
  | inr even ↦ omega (arith, part-is unit at count part (omega arith))
]

module _ (unit most : ℕ) (sizes : ArePortSizes unit most) where
  -- ---- a part of a unit, and the rest
  pub merge-joins : (at : ℕ) (bytes old : List ℕ) (put : List ℕ) (zs ys : List Access) (place value : ℕ) → 0 < length bytes → begins_in_part unit at (length bytes) ≡ true → length old ≡ unit → put ≡ with_part old (at % unit) (take (step_size unit most at (length bytes)) bytes)
      → place ≡ (at - at % unit) - (at - at % unit) % 8 → value < 2 ^ 64 → old ≡ take unit (drop ((at - at % unit) % 8) (to_le_bytes w64 value)) → SpellsWrite unit 8 (at - at % unit) put zs
      → SpellsWrite unit unit (at + step_size unit most at (length bytes)) (drop (step_size unit most at (length bytes)) bytes) ys → SpellsWrite unit unit at bytes (Loaded place value ∷ zs ++ ys)
  merge-joins at bytes old put zs ys place value some part old_size put_is place_is fits_value old_is first more =
      let count : ℕ = length bytes in
      let k : ℕ = step_size unit most at count in
      let fits = step-fits unit most at count sizes some in
      let is : k ≡ min count (unit - at % unit) = step_size-part unit most at count part in
      let here = unit-place unit most at sizes in
      let piece = part-ends unit most at count k sizes is fits.some in
      let chunk : chunk_size unit most at count ≡ unit = chunk_size-part unit most at count part in
      let inside : at % unit + k ≤ unit = omega (arith, fits.inside) in
      let taken : length (take k bytes) ≡ k = length-take-le k bytes fits.within in
      let put_size : length put ≡ unit = ap (λ (l : List ℕ). length l) put_is ∙ length-with_part old (at % unit) (take k bytes) (omega arith) ∙ old_size in
      let stored = unit-stored unit most (at - at % unit) put zs sizes (even-place unit most at sizes) put_size first in
      let offset : (at - at % unit) % 8 ≡ at % 8 - at % unit = omega (arith, here.offset) in
      let old_there : old ≡ take unit (drop (at % 8 - at % unit) (to_le_bytes w64 value)) = old_is ∙ ap (λ (n : ℕ). take unit (drop n (to_le_bytes w64 value))) offset in
      let less : k < unit = part-less unit at count k is part here.low in
      let merged : MergesPiece unit unit at bytes place value stored.store = record {
        size = k;
        piece = piece;
        part = less;
        in_unit = inside;
        place_is = place_is ∙ here.place;
        old_fits = fits_value;
        same_place = stored.place_is ∙ sym place_is;
        here = stored.here;
        fits = stored.fits;
        bytes_are = stored.bytes_are ∙ put_is ∙ ap (λ (l : List ℕ). with_part l (at % unit) (take k bytes)) old_there;
      } in
      let spelled : SpellsWrite unit unit at bytes (Loaded place value ∷ stored.store ∷ ys) = (merged, more) in
      subst (λ (l : List Access). SpellsWrite unit unit at bytes (Loaded place value ∷ l ++ ys)) (sym stored.is) spelled

  -- ---- whole units, and the rest
  pub whole-joins : (at : ℕ) (bytes : List ℕ) (place : ℕ) (put : List ℕ) (zs ys : List Access) → WholeStep unit most at bytes place put → length put % unit ≡ 0 → SpellsWrite unit 8 place put zs
      → SpellsWrite unit unit (at + step_size unit most at (length bytes)) (drop (step_size unit most at (length bytes)) bytes) ys → SpellsWrite unit unit at bytes (zs ++ ys)
  whole-joins at bytes place put zs ys step units first more =
      let k : ℕ = step_size unit most at (length bytes) in
      let fits = step-fits unit most at (length bytes) sizes step.some in
      let even : at % unit ≡ 0 = (whole-is unit at (length bytes) step.whole).0 in
      let long : length put ≡ k = ap (λ (l : List ℕ). length l) step.bytes_are ∙ length-take-le k bytes fits.within in
      let end : (at + length put) % unit ≡ 0 = sum-unit unit most at (length put) sizes even units in
      let joined = write-joins unit most at put (drop k bytes) zs ys sizes end (subst (λ (n : ℕ). SpellsWrite unit 8 n put zs) step.place_is first)
      (subst (λ (n : ℕ). SpellsWrite unit unit (at + n) (drop k bytes) ys) (sym long) more) in
      let same : put ++ drop k bytes ≡ bytes = ap (λ (l : List ℕ). l ++ drop k bytes) step.bytes_are ∙ take-append-drop k bytes in
      subst (λ (l : List ℕ). SpellsWrite unit unit at l (zs ++ ys)) same joined

  -- ---- each range is written by some accesses
  pub record SomeStore (at : ℕ) (l : List ℕ) : Type 0 where
    pub store : Access
    pub place_is : place_of store ≡ at - at % 8
    pub here : stored_at store ≡ at
    pub fits : StoredFits store
    pub bytes_are : stored_bytes store ≡ l

  store-8 : (at : ℕ) (l : List ℕ) → at % 8 ≡ 0 → length l ≡ 8 → AreSmall l → SomeStore at l
  store-8 at l even long small = record { store = Stored at (from_le_bytes w64 l); place_is = omega arith; here = refl; fits = word-is-fit l small; bytes_are = le_bytes_8 l (from_le_bytes w64 l) long small refl }

  store-4 : (at : ℕ) (l : List ℕ) → at % 4 ≡ 0 → length l ≡ 4 → AreSmall l → SomeStore at l
  store-4 at l even long small = elim (cases_lt (at % 8) 4) [
    | inl low ↦ record { store = StoredLow at (from_le_bytes w32 l); place_is = omega arith; here = refl; fits = half-fits l small; bytes_are = le_bytes_4 l (from_le_bytes w32 l) long small refl }
    | inr high ↦ record { store = StoredHigh (at - 4) (from_le_bytes w32 l); place_is = omega arith; here = omega arith; fits = half-fits l small; bytes_are = le_bytes_4 l (from_le_bytes w32 l) long small refl }
  ]

  unit-store : (at : ℕ) (l : List ℕ) → at % unit ≡ 0 → length l ≡ unit → AreSmall l → SomeStore at l
  unit-store at l even long small = elim sizes.unit_is [
    | inl four ↦ store-4 at l (subst (λ (u : ℕ). at % u ≡ 0) four even) (long ∙ four) small
    | inr eight ↦ store-8 at l (subst (λ (u : ℕ). at % u ≡ 0) eight even) (long ∙ eight) small
  ]

  pub record SomeWrites (at : ℕ) (bytes : List ℕ) : Type 0 where
    pub accesses : List Access
    pub spell : SpellsWrite unit unit at bytes accesses

  one-unit-4 : (at : ℕ) → at % 4 ≡ 0 → at % 8 + 4 ≤ 8
  one-unit-4 at even = omega arith

  one-unit-8 : (at : ℕ) → at % 8 ≡ 0 → at % 8 + 8 ≤ 8
  one-unit-8 at even = omega arith

  unit-inside : (at : ℕ) → at % unit ≡ 0 → at % 8 + unit ≤ 8
  unit-inside at even = elim sizes.unit_is [
    | inl four ↦ subst (λ (u : ℕ). at % 8 + u ≤ 8) (sym four) (one-unit-4 at (subst (λ (u : ℕ). at % u ≡ 0) four even))
    | inr eight ↦ subst (λ (u : ℕ). at % 8 + u ≤ 8) (sym eight) (one-unit-8 at (subst (λ (u : ℕ). at % u ≡ 0) eight even))
  ]

  unit-self : unit % unit ≡ 0
  unit-self = elim sizes.unit_is [ inl four ↦ subst (λ (u : ℕ). u % u ≡ 0) (sym four) refl | inr eight ↦ subst (λ (u : ℕ). u % u ≡ 0) (sym eight) refl ]

  nothing-left : (l : List ℕ) (n : ℕ) → length l ≤ n → drop n l ≡ []
  nothing-left l n less = drop_all n l less

  one-piece : (at : ℕ) (l : List ℕ) (s : SomeStore at l) → at % unit ≡ 0 → length l ≡ unit → StoresPiece unit 8 at l s.store
  one-piece at l s even long =
      let size : length (stored_bytes s.store) ≡ length l = ap (λ (k : List ℕ). length k) s.bytes_are in
      let bounds = unit-bounds unit most sizes in
      record {
        piece = record { some = omega arith; within = omega arith; inside = omega (arith, unit-inside at even); ends = inl size };
        from_unit = even;
        whole = ap (λ (n : ℕ). n % unit) (size ∙ long) ∙ unit-self;
        place_is = s.place_is;
        here = s.here;
        fits = s.fits;
        bytes_are = s.bytes_are ∙ sym (take_all (length (stored_bytes s.store)) l (omega arith));
      }

  -- a part of a unit, whatever is loaded
  pub record PartSpelled (at : ℕ) (bytes : List ℕ) (place value : ℕ) (ys : List Access) : Type 0 where
    pub store : List Access
    pub spell : SpellsWrite unit unit at bytes (Loaded place value ∷ store ++ ys)

  pub part-spell : (at : ℕ) (bytes : List ℕ) (place value : ℕ) (ys : List Access) → AreSmall bytes → 0 < length bytes → begins_in_part unit at (length bytes) ≡ true → place ≡ (at - at % unit) - (at - at % unit) % 8 → value < 2 ^ 64
      → SpellsWrite unit unit (at + step_size unit most at (length bytes)) (drop (step_size unit most at (length bytes)) bytes) ys → PartSpelled at bytes place value ys
  part-spell at bytes place value ys small some part place_is value_fits more =
      let k : ℕ = step_size unit most at (length bytes) in
      let fits = step-fits unit most at (length bytes) sizes some in
      let here = unit-place unit most at sizes in
      let q : ℕ = (at - at % unit) % 8 in
      let word : List ℕ = to_le_bytes w64 value in
      let old : List ℕ = take unit (drop q word) in
      let old_size : length old ≡ unit = length-take-le unit (drop q word) (omega (arith, length-drop q word, eight-of value, here.inside)) in
      let chunk : chunk_size unit most at (length bytes) ≡ unit = chunk_size-part unit most at (length bytes) part in
      let taken : length (take k bytes) ≡ k = length-take-le k bytes fits.within in
      let put : List ℕ = with_part old (at % unit) (take k bytes) in
      let put_size : length put ≡ unit = length-with_part old (at % unit) (take k bytes) (omega (arith, fits.inside)) ∙ old_size in
      let put_small : AreSmall put = part-small old (take k bytes) (at % unit) (small-take unit (drop q word) (small-drop q word (word-small value))) (small-take k bytes small) in
      let store = unit-store (at - at % unit) put (even-place unit most at sizes) put_size put_small in
      let zs : List Access = store.store ∷ [] in
      let piece = one-piece (at - at % unit) put store (even-place unit most at sizes) put_size in
      let zs_spell : SpellsWrite unit 8 (at - at % unit) put zs =
      spell-store unit 8 (at - at % unit) put store.store [] piece (nothing-left put (length (stored_bytes store.store)) (omega (arith, ap (λ (l : List ℕ). length l) store.bytes_are))) in
      record { store = zs; spell = merge-joins at bytes old put zs ys place value some part old_size refl place_is value_fits refl zs_spell more }

  some-first : (at : ℕ) (bytes : List ℕ) → AreSmall bytes → 0 < length bytes → (b : Bool) → begins_in_part unit at (length bytes) ≡ b
      → ((n : ℕ) → 0 < n → n ≤ length bytes → SomeWrites (at + n) (drop n bytes)) → SomeWrites at bytes
  some-first at bytes small some true part more =
      let fits = step-fits unit most at (length bytes) sizes some in
      let rest = more (step_size unit most at (length bytes)) fits.some fits.within in
      let place : ℕ = (at - at % unit) - (at - at % unit) % 8 in
      let spelled = part-spell at bytes place 0 rest.accesses small some part refl (omega arith) rest.spell in
      record { accesses = Loaded place 0 ∷ spelled.store ++ rest.accesses; spell = spelled.spell }
  some-first at bytes small some false whole more =
      let is = whole-is unit at (length bytes) whole in
      let bounds = unit-bounds unit most sizes in
      let l : List ℕ = take unit bytes in
      let long : length l ≡ unit = length-take-le unit bytes is.1 in
      let s = unit-store at l is.0 long (small-take unit bytes small) in
      let size : length (stored_bytes s.store) ≡ unit = ap (λ (k : List ℕ). length k) s.bytes_are ∙ long in
      let rest = more unit (omega arith) is.1 in
      let piece : StoresPiece unit unit at bytes s.store = record {
        piece = record { some = omega arith; within = omega arith; inside = omega (arith, unit-inside at is.0); ends = inr (sum-unit unit most at (length (stored_bytes s.store)) sizes is.0 (ap (λ (n : ℕ). n % unit) size ∙ unit-self)) };
        from_unit = is.0;
        whole = ap (λ (n : ℕ). n % unit) size ∙ unit-self;
        place_is = s.place_is;
        here = s.here;
        fits = s.fits;
        bytes_are = s.bytes_are ∙ ap (λ (n : ℕ). take n bytes) (sym size);
      } in
      record {
        accesses = s.store ∷ rest.accesses;
        spell = spell-store unit unit at bytes s.store rest.accesses piece (subst (λ (n : ℕ). SpellsWrite unit unit (at + n) (drop n bytes) rest.accesses) (sym size) rest.spell);
      }

  pub some-writes : (fuel at : ℕ) (bytes : List ℕ) → AreSmall bytes → length bytes ≤ fuel → SomeWrites at bytes
  some-writes fuel at [] small less = record { accesses = []; spell = refl }
  some-writes zero at (byte ∷ more) small less = absurd (omega arith)
  some-writes (suc fuel) at (byte ∷ more) small less =
      let bytes : List ℕ = byte ∷ more in
      some-first at bytes small (omega arith) (begins_in_part unit at (length bytes)) refl
      (λ n some within. some-writes fuel (at + n) (drop n bytes) (small-drop n bytes small) (omega (arith, length-drop n bytes)))

  -- ---- 8 bytes at a multiple of 8
  pub write-one : (at : ℕ) (bytes : List ℕ) (place : ℕ) (put : List ℕ) (zs ys : List Access) → WholeStep unit most at bytes place put → SpellsWrite unit 8 place put zs
      → SpellsWrite unit unit (at + step_size unit most at (length bytes)) (drop (step_size unit most at (length bytes)) bytes) ys → IsOneAccess at (length bytes) (zs ++ ys)
  write-one at bytes place put zs ys step first more even count =
      let eight = eight-step unit most at sizes even in
      let k : ℕ = step_size unit most at (length bytes) in
      let size : k ≡ 8 = ap (λ (n : ℕ). step_size unit most at n) count ∙ eight.size in
      let put_is : put ≡ bytes = step.bytes_are ∙ take_all k bytes (omega arith) in
      let long : length put ≡ 8 = ap (λ (l : List ℕ). length l) put_is ∙ count in
      let none : ys ≡ [] = none-written unit unit (at + k) (drop k bytes) ys (omega (arith, length-drop k bytes)) more in
      let alone_one : length zs ≡ 1 = eight-stored at put zs even long (subst (λ (n : ℕ). SpellsWrite unit 8 n put zs) step.place_is first) in
      length-append zs ys ∙ ap (λ (n : ℕ). n + length ys) alone_one ∙ ap (λ (l : List Access). 1 + length l) none
    where
      eight-stored : (at : ℕ) (put : List ℕ) (zs : List Access) → at % 8 ≡ 0 → length put ≡ 8 → SpellsWrite unit 8 at put zs → length zs ≡ 1
      eight-stored at put [] even long s = let none : length put ≡ 0 = ap (λ (l : List ℕ). length l) s in absurd (omega arith)
      eight-stored at put (Loaded place old ∷ []) even long s = absurd s
      eight-stored at put (Loaded place old ∷ store ∷ xs) even long s =
          let p = s.0 in
          let bounds = unit-bounds unit most sizes in
          let all : p.size ≡ 8 = alone 8 8 at p.size eight_sizes even p.piece.some (omega (arith, p.piece.within)) p.piece.inside
          (elim p.piece.ends as (λ _. (p.size ≡ 8) ⊎ ((at + p.size) % 8 ≡ 0)) [ inl whole ↦ inl (whole ∙ long) | inr end ↦ inr end ]) in
          absurd (omega (arith, p.part))
      eight-stored at put (Stored place value ∷ xs) even long s =
          let none : xs ≡ [] = none-written unit 8 (at + 8) (drop 8 put) xs (omega (arith, length-drop 8 put)) s.1 in
          ap (λ (l : List Access). length (Stored place value ∷ l)) none
      eight-stored at put (StoredLow place value ∷ xs) even long s = let ends = s.0.piece.ends in absurd (half-ends at (length put) even long ends)
      eight-stored at put (StoredHigh place value ∷ xs) even long s = let ends = s.0.piece.ends in absurd (half-ends at (length put) even long ends)

  -- ---- the chunks that a write asks for may be asked for
  pub whole-asked : (at : ℕ) (bytes : List ℕ) (place : ℕ) (put : List ℕ) → IsMappedRange at (length bytes) → WholeStep unit most at bytes place put → IsChunk unit most place (length put)
  whole-asked at bytes place put mapped step =
      let k : ℕ = step_size unit most at (length bytes) in
      let fits = step-fits unit most at (length bytes) sizes step.some in
      let long : length put ≡ k = ap (λ (l : List ℕ). length l) step.bytes_are ∙ length-take-le k bytes fits.within in
      subst (λ (n : ℕ). IsChunk unit most n (length put)) (sym step.place_is)
      (chunk-whole unit most at (length bytes) (length put) sizes mapped step.some step.whole (long ∙ step_size-whole unit most at (length bytes) step.whole))

  pub part-asked : (at count place size : ℕ) → IsMappedRange at count → 0 < count → place ≡ at - at % unit → size ≡ unit → IsChunk unit most place size
  part-asked at count place size mapped some place_is size_is =
      subst (λ (n : ℕ). IsChunk unit most n size) (sym place_is) (subst (λ (n : ℕ). IsChunk unit most (at - at % unit) n) (sym size_is) (chunk-part unit most at count sizes mapped some))

  pub put-size : (at : ℕ) (bytes : List ℕ) (read_place : ℕ) (old : List ℕ) (place : ℕ) (put : List ℕ) → PartStep unit most at bytes read_place old place put → length put ≡ unit
  put-size at bytes read_place old place put step =
      let k : ℕ = step_size unit most at (length bytes) in
      let fits = step-fits unit most at (length bytes) sizes step.some in
      let chunk : chunk_size unit most at (length bytes) ≡ unit = chunk_size-part unit most at (length bytes) step.part in
      let taken : length (take k bytes) ≡ k = length-take-le k bytes fits.within in
      ap (λ (l : List ℕ). length l) step.bytes_are ∙ length-with_part old (at % unit) (take k bytes) (omega (arith, step.size, fits.inside)) ∙ step.size

  -- a part is no 8 bytes at a multiple of 8
  part-none : (at count : ℕ) (xs : List Access) → begins_in_part unit at count ≡ true → IsOneAccess at count xs
  part-none at count xs part even eight = absurd (false≢true (sym (eight-step unit most at sizes even).whole ∙ ap (λ (n : ℕ). begins_in_part unit at n) (sym eight) ∙ part))

  -- the unit that was read, and the one that is written with a part in it
  unit-load : (at : ℕ) (place : ℕ) (old : List ℕ) (xs : List Access) → place ≡ at - at % unit → length old ≡ unit → SpellsRead 8 place old xs → UnitLoaded unit (at - at % unit) old xs
  unit-load at place old xs place_is size s = unit-loaded unit most (at - at % unit) old xs sizes (even-place unit most at sizes) size (subst (λ (n : ℕ). SpellsRead 8 n old xs) place_is s)

  part-joins-all : (at : ℕ) (bytes : List ℕ) (read_place : ℕ) (old : List ℕ) (place : ℕ) (put : List ℕ) (xs zs ys : List Access) → PartStep unit most at bytes read_place old place put → SpellsRead 8 read_place old xs → SpellsWrite unit 8 place put zs
      → SpellsWrite unit unit (at + step_size unit most at (length bytes)) (drop (step_size unit most at (length bytes)) bytes) ys → SpellsWrite unit unit at bytes ((xs ++ zs) ++ ys)
  part-joins-all at bytes read_place old place put xs zs ys step read written more =
      let load = unit-load at read_place old xs step.read_place_is step.size read in
      let spelled = merge-joins at bytes old put zs ys load.place load.value step.some step.part step.size step.bytes_are load.place_is load.fits load.bytes_are
      (subst (λ (n : ℕ). SpellsWrite unit 8 n put zs) step.place_is written) more in
      subst (λ (l : List Access). SpellsWrite unit unit at bytes ((l ++ zs) ++ ys)) (sym load.is) spelled

  module _ {S V : Type 0} (view : S → V) (stands : S → V → Type 0) (valid ready positive : S → Type 0) (ran : V → ℕ → V → Type 0) (reached : V → List Access → V → Type 0) (one : S → Chunk → S → Type 0) (refused : S → Chunk → PortStop → S → Type 0)
      (reached_none : (v : V) → reached v [] v) (reached_then : (u v w : V) (xs ys : List Access) → reached u xs v → reached v ys w → reached u (xs ++ ys) w)
      (one_reaches : OneReaches unit most view valid ready positive ran reached one) (refused_reaches : RefusedReaches unit most view stands valid ready reached refused) where
    -- the chunks of a write were made
    pub record WriteMade (at : ℕ) (bytes : List ℕ) (a b : S) : Type 0 where
      pub accesses : List Access
      pub spell : SpellsWrite unit unit at bytes accesses
      pub is_one : IsOneAccess at (length bytes) accesses
      pub path : reached (view a) accesses (view b)
      pub behind_a_step : positive a → 0 < length bytes → StepsFirst ran reached (view a) accesses (view b)
      pub still_valid : valid b
      pub still_ready : ready b
      pub still_positive : positive a → positive b

    left-mapped : (at : ℕ) (bytes : List ℕ) (k : ℕ) → k ≤ length bytes → IsMappedRange at (length bytes) → IsMappedRange (at + k) (length (drop k bytes))
    left-mapped at bytes k within mapped = subst (λ (n : ℕ). IsMappedRange (at + k) n) (sym (length-drop k bytes)) (mapped-rest at (length bytes) k mapped within)

    pub write-made : (chunks : List Chunk) (at : ℕ) (bytes : List ℕ) (a b : S) → valid a → ready a → IsMappedRange at (length bytes) → WriteChunks unit most at bytes chunks → Made one a chunks b → WriteMade at bytes a b
    write-made [] at bytes a b ok now mapped are made =
        let here : WriteMade at bytes a a = record {
          accesses = [];
          spell = are;
          is_one = λ even count. absurd (let none : length bytes ≡ 0 = ap (λ (l : List ℕ). length l) are in omega arith);
          path = reached_none (view a);
          behind_a_step = λ pos some. absurd (let none : length bytes ≡ 0 = ap (λ (l : List ℕ). length l) are in omega arith);
          still_valid = ok;
          still_ready = now;
          still_positive = λ p. p;
        } in
        subst (λ (s : S). WriteMade at bytes a s) (sym made) here
    write-made (WriteChunk place put ∷ chunks) at bytes a b ok now mapped are made =
        let step = are.0 in
        let k : ℕ = step_size unit most at (length bytes) in
        let fits = step-fits unit most at (length bytes) sizes step.some in
        let asked = whole-asked at bytes place put mapped step in
        let reach = one_reaches a made.0 (WriteChunk place put) ok now asked made.1 in
        let rest = write-made chunks (at + k) (drop k bytes) made.0 b reach.still_valid reach.still_ready (left-mapped at bytes k fits.within mapped) are.1 made.2 in
        record {
          accesses = reach.accesses ++ rest.accesses;
          spell = whole-joins at bytes place put reach.accesses rest.accesses step asked.whole reach.spell rest.spell;
          is_one = write-one at bytes place put reach.accesses rest.accesses step reach.spell rest.spell;
          path = reached_then (view a) (view made.0) (view b) reach.accesses rest.accesses reach.path rest.path;
          behind_a_step = λ pos some. steps-then ran reached reached_then (view a) (view made.0) (view b) reach.accesses rest.accesses (reach.behind_a_step pos) rest.path;
          still_valid = rest.still_valid;
          still_ready = rest.still_ready;
          still_positive = λ p. rest.still_positive (reach.still_positive p);
        }
    write-made (ReadChunk read_place old ∷ []) at bytes a b ok now mapped are made = absurd are
    write-made (ReadChunk read_place old ∷ ReadChunk place put ∷ chunks) at bytes a b ok now mapped are made = absurd are
    write-made (ReadChunk read_place old ∷ WriteChunk place put ∷ chunks) at bytes a b ok now mapped are made =
        let step = are.0 in
        let k : ℕ = step_size unit most at (length bytes) in
        let fits = step-fits unit most at (length bytes) sizes step.some in
        let first = one_reaches a made.0 (ReadChunk read_place old) ok now (part-asked at (length bytes) read_place (length old) mapped step.some step.read_place_is step.size) made.1 in
        let second = one_reaches made.0 made.2.0 (WriteChunk place put) first.still_valid first.still_ready
        (part-asked at (length bytes) place (length put) mapped step.some step.place_is (put-size at bytes read_place old place put step)) made.2.1 in
        let rest = write-made chunks (at + k) (drop k bytes) made.2.0 b second.still_valid second.still_ready (left-mapped at bytes k fits.within mapped) are.1 made.2.2 in
        record {
          accesses = (first.accesses ++ second.accesses) ++ rest.accesses;
          spell = part-joins-all at bytes read_place old place put first.accesses second.accesses rest.accesses step first.spell second.spell rest.spell;
          is_one = part-none at (length bytes) ((first.accesses ++ second.accesses) ++ rest.accesses) step.part;
          path = reached_then (view a) (view made.2.0) (view b) (first.accesses ++ second.accesses) rest.accesses
              (reached_then (view a) (view made.0) (view made.2.0) first.accesses second.accesses first.path second.path) rest.path;
          behind_a_step = λ pos some. steps-then ran reached reached_then (view a) (view made.2.0) (view b) (first.accesses ++ second.accesses) rest.accesses
              (steps-then ran reached reached_then (view a) (view made.0) (view made.2.0) first.accesses second.accesses (first.behind_a_step pos) second.path) rest.path;
          still_valid = rest.still_valid;
          still_ready = rest.still_ready;
          still_positive = λ p. rest.still_positive (second.still_positive (first.still_positive p));
        }

    -- some of the chunks of a write were made, and the next one was refused
    pub record WriteBegun (at : ℕ) (bytes : List ℕ) (stop : PortStop) (a b : S) : Type 0 where
      pub no_command : IsNoCommand stop
      pub accesses : List Access
      pub more : List Access
      pub spell : SpellsWrite unit unit at bytes (accesses ++ more)
      pub is_one : IsOneAccess at (length bytes) (accesses ++ more)
      pub last : V
      pub path : reached (view a) accesses last
      pub stands_so : stands b last

    -- whole units were refused
    whole-refused : (at : ℕ) (bytes : List ℕ) (stop : PortStop) (place : ℕ) (put : List ℕ) (a b : S) → AreSmall bytes → WholeStep unit most at bytes place put → length put % unit ≡ 0
        → (same : Chunk) → AsksSame (WriteChunk place put) same → (xs ys : List Access) → SpellsChunk unit same (xs ++ ys) → IsNoCommand stop → (last : V) → reached (view a) xs last → stands b last → WriteBegun at bytes stop a b
    whole-refused at bytes stop place put a b small step units (ReadChunk other others) asks xs ys spell none last path stands_so = absurd asks
    whole-refused at bytes stop place put a b small step units (WriteChunk other others) asks xs ys spell none last path stands_so =
        let k : ℕ = step_size unit most at (length bytes) in
        let rest = some-writes (length (drop k bytes)) (at + k) (drop k bytes) (small-drop k bytes small) (omega arith) in
        let here : SpellsWrite unit 8 place put (xs ++ ys) = subst (λ (n : ℕ). SpellsWrite unit 8 n put (xs ++ ys)) asks.0 (subst (λ (l : List ℕ). SpellsWrite unit 8 other l (xs ++ ys)) asks.1 spell) in
        let all : (xs ++ ys) ++ rest.accesses ≡ xs ++ (ys ++ rest.accesses) = append_assoc xs ys rest.accesses in
        record {
          no_command = none;
          accesses = xs;
          more = ys ++ rest.accesses;
          spell = subst (λ (l : List Access). SpellsWrite unit unit at bytes l) all (whole-joins at bytes place put (xs ++ ys) rest.accesses step units here rest.spell);
          is_one = subst (λ (l : List Access). IsOneAccess at (length bytes) l) all (write-one at bytes place put (xs ++ ys) rest.accesses step here rest.spell);
          last = last;
          path = path;
          stands_so = stands_so;
        }

    -- the read of a unit was refused
    read-refused : (at : ℕ) (bytes : List ℕ) (stop : PortStop) (read_place : ℕ) (old : List ℕ) (place : ℕ) (put : List ℕ) (a b : S) → AreSmall bytes → PartStep unit most at bytes read_place old place put
        → (same : Chunk) → AsksSame (ReadChunk read_place old) same → (xs ys : List Access) → SpellsChunk unit same (xs ++ ys) → IsNoCommand stop → (last : V) → reached (view a) xs last → stands b last → WriteBegun at bytes stop a b
    read-refused at bytes stop read_place old place put a b small step (ReadChunk other others) asks xs ys spell none last path stands_so =
        let k : ℕ = step_size unit most at (length bytes) in
        let rest = some-writes (length (drop k bytes)) (at + k) (drop k bytes) (small-drop k bytes small) (omega arith) in
        let load = unit-load at other others (xs ++ ys) (asks.0 ∙ step.read_place_is) (asks.1 ∙ step.size) spell in
        let spelled = part-spell at bytes load.place load.value rest.accesses small step.some step.part load.place_is load.fits rest.spell in
        let all : (xs ++ ys) ++ (spelled.store ++ rest.accesses) ≡ xs ++ (ys ++ (spelled.store ++ rest.accesses)) = append_assoc xs ys (spelled.store ++ rest.accesses) in
        record {
          no_command = none;
          accesses = xs;
          more = ys ++ (spelled.store ++ rest.accesses);
          spell = subst (λ (l : List Access). SpellsWrite unit unit at bytes l) all
              (subst (λ (l : List Access). SpellsWrite unit unit at bytes (l ++ (spelled.store ++ rest.accesses))) (sym load.is) spelled.spell);
          is_one = part-none at (length bytes) (xs ++ (ys ++ (spelled.store ++ rest.accesses))) step.part;
          last = last;
          path = path;
          stands_so = stands_so;
        }
    read-refused at bytes stop read_place old place put a b small step (WriteChunk other others) asks xs ys spell none last path stands_so = absurd asks

    -- the unit was read, and its write was refused
    merge-refused : (at : ℕ) (bytes : List ℕ) (stop : PortStop) (read_place : ℕ) (old : List ℕ) (place : ℕ) (put : List ℕ) (a m b : S) → AreSmall bytes → PartStep unit most at bytes read_place old place put
        → (ws : List Access) → SpellsRead 8 read_place old ws → reached (view a) ws (view m)
        → (same : Chunk) → AsksSame (WriteChunk place put) same → (xs ys : List Access) → SpellsChunk unit same (xs ++ ys) → IsNoCommand stop → (last : V) → reached (view m) xs last → stands b last → WriteBegun at bytes stop a b
    merge-refused at bytes stop read_place old place put a m b small step ws read first (ReadChunk other others) asks xs ys spell none last path stands_so = absurd asks
    merge-refused at bytes stop read_place old place put a m b small step ws read first (WriteChunk other others) asks xs ys spell none last path stands_so =
        let k : ℕ = step_size unit most at (length bytes) in
        let rest = some-writes (length (drop k bytes)) (at + k) (drop k bytes) (small-drop k bytes small) (omega arith) in
        let here : SpellsWrite unit 8 place put (xs ++ ys) = subst (λ (n : ℕ). SpellsWrite unit 8 n put (xs ++ ys)) asks.0 (subst (λ (l : List ℕ). SpellsWrite unit 8 other l (xs ++ ys)) asks.1 spell) in
        let spelled = part-joins-all at bytes read_place old place put ws (xs ++ ys) rest.accesses step read here rest.spell in
        let all : (ws ++ (xs ++ ys)) ++ rest.accesses ≡ (ws ++ xs) ++ (ys ++ rest.accesses) =
        ap (λ (l : List Access). l ++ rest.accesses) (sym (append_assoc ws xs ys)) ∙ append_assoc (ws ++ xs) ys rest.accesses in
        record {
          no_command = none;
          accesses = ws ++ xs;
          more = ys ++ rest.accesses;
          spell = subst (λ (l : List Access). SpellsWrite unit unit at bytes l) all spelled;
          is_one = part-none at (length bytes) ((ws ++ xs) ++ (ys ++ rest.accesses)) step.part;
          last = last;
          path = reached_then (view a) (view m) last ws xs first path;
          stands_so = stands_so;
        }

    pub write-begun : (done : List Chunk) (last : Chunk) (more : List Chunk) (at : ℕ) (bytes : List ℕ) (stop : PortStop) (a m b : S) → AreSmall bytes → valid a → ready a → IsMappedRange at (length bytes) → WriteChunks unit most at bytes (done ++ last ∷ more)
        → Made one a done m → refused m last stop b → WriteBegun at bytes stop a b
    write-begun [] (WriteChunk place put) more at bytes stop a m b small ok now mapped are made cut =
        let step = are.0 in
        let asked = whole-asked at bytes place put mapped step in
        let begun = refused_reaches a b (WriteChunk place put) stop ok now asked (subst (λ (s : S). refused s (WriteChunk place put) stop b) made cut) in
        whole-refused at bytes stop place put a b small step asked.whole begun.same begun.asks begun.accesses begun.more begun.spell begun.no_command begun.last begun.path begun.stands_so
    write-begun [] (ReadChunk read_place old) [] at bytes stop a m b small ok now mapped are made cut = absurd are
    write-begun [] (ReadChunk read_place old) (ReadChunk place put ∷ more) at bytes stop a m b small ok now mapped are made cut = absurd are
    write-begun [] (ReadChunk read_place old) (WriteChunk place put ∷ more) at bytes stop a m b small ok now mapped are made cut =
        let step = are.0 in
        let asked = part-asked at (length bytes) read_place (length old) mapped step.some step.read_place_is step.size in
        let begun = refused_reaches a b (ReadChunk read_place old) stop ok now asked (subst (λ (s : S). refused s (ReadChunk read_place old) stop b) made cut) in
        read-refused at bytes stop read_place old place put a b small step begun.same begun.asks begun.accesses begun.more begun.spell begun.no_command begun.last begun.path begun.stands_so
    write-begun (ReadChunk read_place old ∷ []) (ReadChunk place put) more at bytes stop a m b small ok now mapped are made cut = absurd are
    write-begun (ReadChunk read_place old ∷ []) (WriteChunk place put) more at bytes stop a m b small ok now mapped are made cut =
        let step = are.0 in
        let first = one_reaches a made.0 (ReadChunk read_place old) ok now (part-asked at (length bytes) read_place (length old) mapped step.some step.read_place_is step.size) made.1 in
        let asked = part-asked at (length bytes) place (length put) mapped step.some step.place_is (put-size at bytes read_place old place put step) in
        let begun = refused_reaches made.0 b (WriteChunk place put) stop first.still_valid first.still_ready asked (subst (λ (s : S). refused s (WriteChunk place put) stop b) made.2 cut) in
        merge-refused at bytes stop read_place old place put a made.0 b small step first.accesses first.spell first.path begun.same begun.asks begun.accesses begun.more begun.spell begun.no_command begun.last begun.path begun.stands_so
    write-begun (WriteChunk place put ∷ done) last more at bytes stop a m b small ok now mapped are made cut =
        let step = are.0 in
        let k : ℕ = step_size unit most at (length bytes) in
        let fits = step-fits unit most at (length bytes) sizes step.some in
        let asked = whole-asked at bytes place put mapped step in
        let reach = one_reaches a made.0 (WriteChunk place put) ok now asked made.1 in
        let rest = write-begun done last more (at + k) (drop k bytes) stop made.0 m b (small-drop k bytes small) reach.still_valid reach.still_ready (left-mapped at bytes k fits.within mapped) are.1 made.2 cut in
        let all : reach.accesses ++ (rest.accesses ++ rest.more) ≡ (reach.accesses ++ rest.accesses) ++ rest.more = sym (append_assoc reach.accesses rest.accesses rest.more) in
        record {
          no_command = rest.no_command;
          accesses = reach.accesses ++ rest.accesses;
          more = rest.more;
          spell = subst (λ (l : List Access). SpellsWrite unit unit at bytes l) all (whole-joins at bytes place put reach.accesses (rest.accesses ++ rest.more) step asked.whole reach.spell rest.spell);
          is_one = subst (λ (l : List Access). IsOneAccess at (length bytes) l) all (write-one at bytes place put reach.accesses (rest.accesses ++ rest.more) step reach.spell rest.spell);
          last = rest.last;
          path = reached_then (view a) (view made.0) rest.last reach.accesses rest.accesses reach.path rest.path;
          stands_so = rest.stands_so;
        }
    write-begun (ReadChunk read_place old ∷ ReadChunk place put ∷ done) last more at bytes stop a m b small ok now mapped are made cut = absurd are
    write-begun (ReadChunk read_place old ∷ WriteChunk place put ∷ done) last more at bytes stop a m b small ok now mapped are made cut =
        let step = are.0 in
        let k : ℕ = step_size unit most at (length bytes) in
        let fits = step-fits unit most at (length bytes) sizes step.some in
        let first = one_reaches a made.0 (ReadChunk read_place old) ok now (part-asked at (length bytes) read_place (length old) mapped step.some step.read_place_is step.size) made.1 in
        let second = one_reaches made.0 made.2.0 (WriteChunk place put) first.still_valid first.still_ready
        (part-asked at (length bytes) place (length put) mapped step.some step.place_is (put-size at bytes read_place old place put step)) made.2.1 in
        let rest = write-begun done last more (at + k) (drop k bytes) stop made.2.0 m b (small-drop k bytes small) second.still_valid second.still_ready (left-mapped at bytes k fits.within mapped) are.1 made.2.2 cut in
        let front : List Access = first.accesses ++ second.accesses in
        let all : front ++ (rest.accesses ++ rest.more) ≡ (front ++ rest.accesses) ++ rest.more = sym (append_assoc front rest.accesses rest.more) in
        record {
          no_command = rest.no_command;
          accesses = front ++ rest.accesses;
          more = rest.more;
          spell = subst (λ (l : List Access). SpellsWrite unit unit at bytes l) all (part-joins-all at bytes read_place old place put first.accesses second.accesses (rest.accesses ++ rest.more) step first.spell second.spell rest.spell);
          is_one = part-none at (length bytes) ((front ++ rest.accesses) ++ rest.more) step.part;
          last = rest.last;
          path = reached_then (view a) (view made.2.0) rest.last front rest.accesses
              (reached_then (view a) (view made.0) (view made.2.0) first.accesses second.accesses first.path second.path) rest.path;
          stands_so = rest.stands_so;
        }
