-- Ranges of bytes, and the doublewords in which they stand.
use Rattle.std.specs.Prelude.{◌≡◌, ◌<◌, ◌+◌, ◌%◌, ℕ, true, false}
use Rattle.fe_base.specs.MemoryMap.{is_mapped}

-- the doubleword at this multiple of 8 has a byte of the range of so many bytes
pub record Meets (at count doubleword : ℕ) : Type 0 where
  pub some : 0 < count
  pub aligned : doubleword % 8 ≡ 0
  pub above : at < doubleword + 8
  pub below : doubleword < at + count

-- each doubleword that has a byte of the range is mapped
abbrev pub IsMappedRange : ℕ → ℕ → Type 0
IsMappedRange at count = (doubleword : ℕ) → Meets at count doubleword → is_mapped doubleword ≡ true

-- the first doubleword of a range that is not mapped
pub record IsFirstUnmapped (at count doubleword : ℕ) : Type 0 where
  pub meets : Meets at count doubleword
  pub unmapped : is_mapped doubleword ≡ false
  pub first : (lower : ℕ) → Meets at count lower → lower < doubleword → is_mapped lower ≡ true
