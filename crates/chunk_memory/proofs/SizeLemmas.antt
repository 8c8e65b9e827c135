-- The sizes of a range's first chunk, and that it may be asked for.
use Rattle.std.proofs.Common.{◌≡◌, ◌≢◌, ℕ, ◌+◌, ◌-◌, ◌*◌, ◌/◌, ◌%◌, ◌<◌, ◌≤◌, min, Bool, true, false, refl, sym, ap, subst, ◌∙◌, arith, ◌⊎◌, inl, inr}
use Rattle.std.proofs.lemmas.Bool.Decides.{nat_tests}
use Rattle.fe_base.specs.MemoryMap.{kernel_end, is_mapped}
use Rattle.chunk_memory.specs.Ports.{IsChunk, ArePortSizes}
use Rattle.chunk_memory.specs.Ranges.{Meets, IsMappedRange}
use Rattle.chunk_memory.specs.Transactions.{begins_in_part, chunk_size, step_size}

-- what holds of a unit holds where it is 4 and where it is 8
pub by_unit : (P : ℕ → Type 0) (unit most : ℕ) → ArePortSizes unit most → P 4 → P 8 → P unit
by_unit P unit most sizes four eight = elim sizes.unit_is [ inl e ↦ subst P (sym e) four | inr e ↦ subst P (sym e) eight ]

pub unit-bounds : (unit most : ℕ) → ArePortSizes unit most → (4 ≤ unit) × (unit ≤ 8)
unit-bounds unit most sizes = by_unit (λ u. (4 ≤ u) × (u ≤ 8)) unit most sizes (omega arith, omega arith) (omega arith, omega arith)

-- a range that begins in a part of a unit
pub chunk_size-part : (unit most at count : ℕ) → begins_in_part unit at count ≡ true → chunk_size unit most at count ≡ unit
chunk_size-part unit most at count part = rw part refl

pub step_size-part : (unit most at count : ℕ) → begins_in_part unit at count ≡ true → step_size unit most at count ≡ min count (unit - at % unit)
step_size-part unit most at count part = rw part refl

-- a range that begins with whole units
pub chunk_size-whole : (unit most at count : ℕ) → begins_in_part unit at count ≡ false → chunk_size unit most at count ≡ min (count / unit * unit) most
chunk_size-whole unit most at count whole = rw whole refl

pub step_size-whole : (unit most at count : ℕ) → begins_in_part unit at count ≡ false → step_size unit most at count ≡ min (count / unit * unit) most
step_size-whole unit most at count whole = rw whole refl

-- which of the two it is
pub whole-is : (unit at count : ℕ) → begins_in_part unit at count ≡ false → (at % unit ≡ 0) × (unit ≤ count)
whole-is unit at count whole = (grind (arith, nat_tests), grind (arith, nat_tests))

pub part-is : (unit at count : ℕ) → begins_in_part unit at count ≡ true → (at % unit ≡ 0) → count < unit
part-is unit at count part even = grind (arith, nat_tests)

pub is-part : (unit at count : ℕ) → (at % unit ≢ 0) ⊎ (count < unit) → begins_in_part unit at count ≡ true
is-part unit at count (inl uneven) = grind (arith, nat_tests)
is-part unit at count (inr few) = grind (arith, nat_tests)

pub is-whole : (unit at count : ℕ) → at % unit ≡ 0 → unit ≤ count → begins_in_part unit at count ≡ false
is-whole unit at count even enough = grind (arith, nat_tests)

-- the first step has some of the range's bytes, and they stand inside its chunk
pub record StepFits (unit most at count : ℕ) : Type 0 where
  pub some : 0 < step_size unit most at count
  pub within : step_size unit most at count ≤ count
  pub inside : at % unit + step_size unit most at count ≤ chunk_size unit most at count

fits-part : (unit most at count : ℕ) → begins_in_part unit at count ≡ true → 0 < count → at % unit < unit → StepFits unit most at count
fits-part unit most at count part some low =
    let size = step_size-part unit most at count part in
    let whole = chunk_size-part unit most at count part in
    record { some = omega arith; within = omega arith; inside = omega arith }

fits-whole : (unit most at count : ℕ) → begins_in_part unit at count ≡ false → 0 < count → at % unit ≡ 0 → 0 < count / unit * unit → count / unit * unit ≤ count → 0 < most → StepFits unit most at count
fits-whole unit most at count whole some even more less room =
    let size = step_size-whole unit most at count whole in
    let same = chunk_size-whole unit most at count whole in
    record { some = omega arith; within = omega arith; inside = omega arith }

fits-at : (unit most at count : ℕ) → 0 < count → 0 < most → at % unit < unit → (unit ≤ count → (0 < count / unit * unit) × (count / unit * unit ≤ count)) → (b : Bool) → begins_in_part unit at count ≡ b → StepFits unit most at count
fits-at unit most at count some room low units true e = fits-part unit most at count e some low
fits-at unit most at count some room low units false e =
    let is = whole-is unit at count e in
    let size = units is.1 in
    fits-whole unit most at count e some is.0 size.0 size.1 room

units-4 : (count : ℕ) → 4 ≤ count → (0 < count / 4 * 4) × (count / 4 * 4 ≤ count)
units-4 count some = (omega arith, omega arith)

units-8 : (count : ℕ) → 8 ≤ count → (0 < count / 8 * 8) × (count / 8 * 8 ≤ count)
units-8 count some = (omega arith, omega arith)

pub step-fits : (unit most at count : ℕ) → ArePortSizes unit most → 0 < count → StepFits unit most at count
step-fits unit most at count sizes some =
    by_unit (λ u. StepFits u most at count) unit most sizes
    (fits-at 4 most at count some sizes.some (omega arith) (units-4 count) (begins_in_part 4 at count) refl)
    (fits-at 8 most at count some sizes.some (omega arith) (units-8 count) (begins_in_part 8 at count) refl)

-- a mapped byte stands below the end of the kernel area
pub mapped-low : (at : ℕ) → is_mapped at ≡ true → at < kernel_end
mapped-low at mapped = grind (arith, nat_tests)

pub mapped-byte : (at count done : ℕ) → IsMappedRange at count → done < count → at + done < kernel_end + 8
mapped-byte at count done mapped less =
    let here : Meets at count (at + done - (at + done) % 8) = record { some = omega arith; aligned = omega arith; above = omega arith; below = omega arith } in
    omega (arith, mapped-low (at + done - (at + done) % 8) (mapped (at + done - (at + done) % 8) here))

-- a part of a mapped range is mapped
pub mapped-rest : (at count done : ℕ) → IsMappedRange at count → done ≤ count → IsMappedRange (at + done) (count - done)
mapped-rest at count done mapped less doubleword meets =
    mapped doubleword (record { some = omega (arith, meets.some); aligned = meets.aligned; above = omega (arith, meets.above); below = omega (arith, meets.below) })

pub mapped-front : (at count size : ℕ) → IsMappedRange at count → size ≤ count → IsMappedRange at size
mapped-front at count size mapped less doubleword meets =
    mapped doubleword (record { some = omega (arith, meets.some); aligned = meets.aligned; above = meets.above; below = omega (arith, meets.below) })

-- the unit in which a mapped range begins is mapped
meets-4 : (at count doubleword : ℕ) → 0 < count → Meets (at - at % 4) 4 doubleword → Meets at count doubleword
meets-4 at count doubleword some meets =
    record { some = some; aligned = meets.aligned; above = omega (arith, meets.aligned, meets.above, meets.below); below = omega (arith, meets.aligned, meets.above, meets.below) }

meets-8 : (at count doubleword : ℕ) → 0 < count → Meets (at - at % 8) 8 doubleword → Meets at count doubleword
meets-8 at count doubleword some meets =
    record { some = some; aligned = meets.aligned; above = omega (arith, meets.aligned, meets.above, meets.below); below = omega (arith, meets.aligned, meets.above, meets.below) }

-- the chunks that a step asks for may be asked for
chunk-4 : (most at count : ℕ) → ArePortSizes 4 most → IsMappedRange at count → 0 < count → IsChunk 4 most (at - at % 4) 4
chunk-4 most at count sizes mapped some =
    record { aligned = omega arith; some = omega arith; whole = refl; fits = omega (arith, sizes.whole, sizes.some); mapped = λ doubleword meets. mapped doubleword (meets-4 at count doubleword some meets) }

chunk-8 : (most at count : ℕ) → ArePortSizes 8 most → IsMappedRange at count → 0 < count → IsChunk 8 most (at - at % 8) 8
chunk-8 most at count sizes mapped some =
    record { aligned = omega arith; some = omega arith; whole = refl; fits = omega (arith, sizes.whole, sizes.some); mapped = λ doubleword meets. mapped doubleword (meets-8 at count doubleword some meets) }

pub chunk-part : (unit most at count : ℕ) → ArePortSizes unit most → IsMappedRange at count → 0 < count → IsChunk unit most (at - at % unit) unit
chunk-part unit most at count sizes mapped some =
    elim sizes.unit_is [
      | inl e ↦ subst (λ (u : ℕ). ArePortSizes u most → IsChunk u most (at - at % u) u) (sym e) (λ is. chunk-4 most at count is mapped some) sizes
      | inr e ↦ subst (λ (u : ℕ). ArePortSizes u most → IsChunk u most (at - at % u) u) (sym e) (λ is. chunk-8 most at count is mapped some) sizes
    ]

units-whole-4 : (most count : ℕ) → most % 8 ≡ 0 → min (count / 4 * 4) most % 4 ≡ 0
units-whole-4 most count whole = omega arith

units-whole-8 : (most count : ℕ) → most % 8 ≡ 0 → min (count / 8 * 8) most % 8 ≡ 0
units-whole-8 most count whole = omega arith

pub chunk-whole : (unit most at count size : ℕ) → ArePortSizes unit most → IsMappedRange at count → 0 < count → begins_in_part unit at count ≡ false → size ≡ min (count / unit * unit) most → IsChunk unit most at size
chunk-whole unit most at count size sizes mapped some whole e =
    let fits = step-fits unit most at count sizes some in
    let here : step_size unit most at count ≡ size = step_size-whole unit most at count whole ∙ sym e in
    let units : min (count / unit * unit) most % unit ≡ 0 =
    by_unit (λ u. min (count / u * u) most % u ≡ 0) unit most sizes (units-whole-4 most count sizes.whole) (units-whole-8 most count sizes.whole) in
    record {
      aligned = (whole-is unit at count whole).0;
      some = omega (arith, fits.some);
      whole = ap (λ (n : ℕ). n % unit) e ∙ units;
      fits = omega arith;
      mapped = mapped-front at count size mapped (omega (arith, fits.within));
    }
