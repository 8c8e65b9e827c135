-- One event on a doubleword of a target's memory.
use Rattle.std.specs.Prelude.{ℕ, ◌<◌, ◌^◌, IsTrue}
use Rattle.fe_base.specs.MemoryMap.{is_beat}

-- a doubleword at an address is loaded, or its two words are stored, or its low or its high word alone
pub data Access : Type 0 where
  Loaded : (at value : ℕ) → Access
  Stored : (at value : ℕ) → Access
  StoredLow : (at value : ℕ) → Access
  StoredHigh : (at value : ℕ) → Access

-- the access is of a mapped doubleword, and its value fits what it moves
abbrev pub IsAccess : Access → Type 0
IsAccess (Loaded at value) = IsTrue (is_beat at) × (value < 2 ^ 64)
IsAccess (Stored at value) = IsTrue (is_beat at) × (value < 2 ^ 64)
IsAccess (StoredLow at value) = IsTrue (is_beat at) × (value < 2 ^ 32)
IsAccess (StoredHigh at value) = IsTrue (is_beat at) × (value < 2 ^ 32)
