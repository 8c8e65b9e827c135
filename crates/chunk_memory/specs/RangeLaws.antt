-- What ranges come to: laws for the crates above. A reader need not believe them: each is proved.
use Rattle.std.specs.Prelude.{◌≡◌, ◌≤◌, ◌<◌, ◌+◌, ◌-◌, ◌%◌, ◌^◌, ◌⊎◌, ℕ, List, [], ◌∷◌, ◌++◌, length, take, drop}
use Rattle.std.specs.Int.{to_le_bytes, w64}
use Rattle.fe_base.specs.Access.{Access, Loaded, Stored}
use Rattle.fe_base.specs.MemoryMap.{user_start, user_end, kernel_start, kernel_end}
use Rattle.guest_memory.specs.Bus.{BusState, IsBus}
use Rattle.guest_memory.specs.Memory.{AreBytes, load, with_part}
use Rattle.chunk_memory.specs.RamTurns.{ram_ran, ram_touched}
use Rattle.chunk_memory.specs.Reached.{Reached}
use Rattle.chunk_memory.specs.Spelling.{IsOneAccess, ReadWhole, SpellsRead, SpellsWrite, StoredFits, WriteWhole}
use Rattle.chunk_memory.specs.Spelling.{place_of, stored_at, stored_bytes}

-- ---- a doubleword
-- it was read by one access, whose value has its bytes
pub record OneLoad (at : ℕ) (bytes : List ℕ) (accesses : List Access) : Type 0 where
  pub value : ℕ
  pub is : accesses ≡ Loaded at value ∷ []
  pub fits : value < 2 ^ 64
  pub bytes_are : bytes ≡ to_le_bytes w64 value

-- it was written by one access, whose value has its bytes
pub record OneStore (at : ℕ) (bytes : List ℕ) (accesses : List Access) : Type 0 where
  pub value : ℕ
  pub is : accesses ≡ Stored at value ∷ []
  pub fits : value < 2 ^ 64
  pub bytes_are : bytes ≡ to_le_bytes w64 value

-- a read of 8 bytes at a multiple of 8 is one load
abbrev pub DoublewordsLoaded : Type 0
DoublewordsLoaded =
    (cut at : ℕ) (bytes : List ℕ) (accesses : List Access) → at % 8 ≡ 0 → length bytes ≡ 8
    → IsOneAccess at (length bytes) accesses
    → SpellsRead cut at bytes accesses → OneLoad at bytes accesses

-- a write of 8 bytes at a multiple of 8 is one store
abbrev pub DoublewordsStored : Type 0
DoublewordsStored =
    (unit cut at : ℕ) (bytes : List ℕ) (accesses : List Access) → at % 8 ≡ 0 → length bytes ≡ 8
    → IsOneAccess at (length bytes) accesses
    → SpellsWrite unit cut at bytes accesses → OneStore at bytes accesses

-- ---- an area that nothing but stores changes
-- what a view has of an area: steps of the hart leave it, a load gives a doubleword of it, and a store puts its bytes there
pub record KeepsArea {V : Type 0} (ran : V → ℕ → V → Type 0) (touched : V → Access → V → Type 0) (start size : ℕ)
    (Has : List ℕ → V → Type 0) : Type 0 where
  pub even : start % 8 ≡ 0
  pub whole : size % 8 ≡ 0
  pub long : (area : List ℕ) (v : V) → Has area v → length area ≡ size
  pub are_bytes : (area : List ℕ) (v : V) → Has area v → AreBytes area
  pub runs : (area : List ℕ) (v w : V) (steps : ℕ) → Has area v → ran v steps w → Has area w
  pub loads : (area : List ℕ) (v w : V) (place value : ℕ) → place % 8 ≡ 0 → start ≤ place → place + 8 ≤ start + size
      → Has area v
      → touched v (Loaded place value) w → Has area w × (value ≡ load area (place - start) 8)
  pub stores : (area : List ℕ) (v w : V) (store : Access) → StoredFits store → place_of store % 8 ≡ 0
      → start ≤ place_of store → place_of store + 8 ≤ start + size
      → Has area v → touched v store w → Has (with_part area (stored_at store - start) (stored_bytes store)) w

-- ranges of such an area, by the accesses that spell them: a read gives its bytes, and leaves it, also one that was only begun;
-- a write puts its bytes there; one that was only begun leaves some bytes there
pub record KeepsRanges {V : Type 0} (ran : V → ℕ → V → Type 0) (touched : V → Access → V → Type 0) (start size : ℕ)
    (Has : List ℕ → V → Type 0) : Type 0 where
  pub read : (cut at : ℕ) (bytes area : List ℕ) (accesses : List Access) (v w : V) → Has area v → start ≤ at → at
      + length bytes ≤ start + size
      → SpellsRead cut at bytes accesses → Reached ran touched v accesses w → Has area w
      × (bytes ≡ take (length bytes) (drop (at - start) area))
  pub read_begun : (cut at : ℕ) (bytes area : List ℕ) (accesses more : List Access) (v w : V) → Has area v → start ≤ at
      → at + length bytes ≤ start + size
      → SpellsRead cut at bytes (accesses ++ more) → Reached ran touched v accesses w → Has area w
  pub written : (unit cut at : ℕ) (bytes area : List ℕ) (accesses : List Access) (v w : V) → (unit ≡ 4) ⊎ (unit ≡ 8)
      → Has area v → start ≤ at → at + length bytes ≤ start + size
      → SpellsWrite unit cut at bytes accesses → Reached ran touched v accesses w
      → Has (with_part area (at - start) bytes) w
  pub write_begun : (unit cut at : ℕ) (bytes area : List ℕ) (accesses more : List Access) (v w : V) → (unit ≡ 4)
      ⊎ (unit ≡ 8) → Has area v → start ≤ at → at + length bytes ≤ start + size
      → SpellsWrite unit cut at bytes (accesses ++ more) → Reached ran touched v accesses w → (left : List ℕ)
      × Has left w

-- ---- ranges of a bus
-- a range of a bus was read, by the accesses that spell it
abbrev pub BusRead : ℕ → ℕ → List ℕ → BusState → BusState → Type 0
BusRead at count bytes before after =
    ReadWhole (λ (bus : BusState). bus) (λ bus seen. bus ≡ seen) (λ _. Unit {0}) (λ _. ⊥) ram_ran
    (Reached ram_ran ram_touched) 8 at count bytes before after

-- a range of a bus was written, by the accesses that spell it
abbrev pub BusWritten : ℕ → List ℕ → BusState → BusState → Type 0
BusWritten at bytes before after =
    WriteWhole (λ (bus : BusState). bus) (λ bus seen. bus ≡ seen) (λ _. Unit {0}) (λ _. ⊥) ram_ran
    (Reached ram_ran ram_touched) 8 at bytes before after

-- a read of the user area gives the bytes that stand there, and leaves the bus
abbrev pub BusReadsUser : Type 0
BusReadsUser =
    (at count : ℕ) (bytes : List ℕ) (before after : BusState) → IsBus before → user_start ≤ at → at + count ≤ user_end
    → BusRead at count bytes before after
    → (after ≡ before) × (bytes ≡ take count (drop (at - user_start) before.user))

-- a read of the kernel area gives the bytes that stand there, and leaves the bus
abbrev pub BusReadsKernel : Type 0
BusReadsKernel =
    (at count : ℕ) (bytes : List ℕ) (before after : BusState) → IsBus before → kernel_start ≤ at → at
    + count ≤ kernel_end → BusRead at count bytes before after
    → (after ≡ before) × (bytes ≡ take count (drop (at - kernel_start) before.kernel))

-- a write to the user area puts its bytes there, and leaves all else
abbrev pub BusWritesUser : Type 0
BusWritesUser =
    (at : ℕ) (bytes : List ℕ) (before after : BusState) → IsBus before → user_start ≤ at → at + length bytes ≤ user_end
    → BusWritten at bytes before after
    → after ≡ (record before { user = with_part before.user (at - user_start) bytes })

-- a write to the kernel area puts its bytes there, and leaves all else
abbrev pub BusWritesKernel : Type 0
BusWritesKernel =
    (at : ℕ) (bytes : List ℕ) (before after : BusState) → IsBus before → kernel_start ≤ at → at
    + length bytes ≤ kernel_end → BusWritten at bytes before after
    → after ≡ (record before { kernel = with_part before.kernel (at - kernel_start) bytes })
