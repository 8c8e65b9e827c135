-- Which accesses spell a read or a write of a range of bytes.
use Rattle.std.specs.Prelude.{◌≡◌, ◌<◌, ◌≤◌, ◌+◌, ◌-◌, ◌%◌, ◌^◌, ◌⊎◌, ℕ, List, [], ◌∷◌, ◌++◌, length, take, drop}
use Rattle.std.specs.Prelude.{Result, Ok, Err}
use Rattle.std.specs.Int.{to_le_bytes, w32, w64}
use Rattle.fe_base.specs.Access.{Access, Loaded, Stored, StoredLow, StoredHigh}
use Rattle.guest_memory.specs.Memory.{with_part}
use Rattle.chunk_memory.specs.Transactions.{Chunk, ReadChunk, WriteChunk}
use Rattle.chunk_memory.specs.declared.stops.MemStop.{MemStop}
use Rattle.chunk_memory.specs.declared.stops.MemStop.TheVariants.{Unmapped, Spent, WireFault, CmdErr}

-- the first piece of a range of so many bytes: it stands inside one doubleword, and ends where the range ends or at a
-- multiple of the cut
pub record IsPiece (cut at count size : ℕ) : Type 0 where
  pub some : 0 < size
  pub within : size ≤ count
  pub inside : at % 8 + size ≤ 8
  pub ends : (size ≡ count) ⊎ ((at + size) % cut ≡ 0)

-- the first piece of a read is loaded: its bytes are those of its doubleword
pub record LoadsPiece (cut at : ℕ) (bytes : List ℕ) (place value : ℕ) : Type 0 where
  pub size : ℕ
  pub piece : IsPiece cut at (length bytes) size
  pub place_is : place ≡ at - at % 8
  pub fits : value < 2 ^ 64
  pub bytes_are : take size bytes ≡ take size (drop (at % 8) (to_le_bytes w64 value))

-- one access for each piece, in rising order, reads the range
abbrev pub SpellsRead : ℕ → ℕ → List ℕ → List Access → Type 0
SpellsRead cut at bytes [] = bytes ≡ []
SpellsRead cut at bytes (Loaded place value ∷ more) =
    (piece : LoadsPiece cut at bytes place value) × SpellsRead cut (at + piece.size) (drop piece.size bytes) more
SpellsRead cut at bytes (Stored place value ∷ more) = ⊥
SpellsRead cut at bytes (StoredLow place value ∷ more) = ⊥
SpellsRead cut at bytes (StoredHigh place value ∷ more) = ⊥

-- the doubleword of an access
abbrev pub place_of : Access → ℕ
place_of (Loaded place value) = place
place_of (Stored place value) = place
place_of (StoredLow place value) = place
place_of (StoredHigh place value) = place

-- where the bytes begin that an access stores
abbrev pub stored_at : Access → ℕ
stored_at (Loaded place value) = place
stored_at (Stored place value) = place
stored_at (StoredLow place value) = place
stored_at (StoredHigh place value) = place + 4

-- the bytes that an access stores
abbrev pub stored_bytes : Access → List ℕ
stored_bytes (Loaded place value) = []
stored_bytes (Stored place value) = to_le_bytes w64 value
stored_bytes (StoredLow place value) = to_le_bytes w32 value
stored_bytes (StoredHigh place value) = to_le_bytes w32 value

-- its value has the bits of what it stores
abbrev pub StoredFits : Access → Type 0
StoredFits (Loaded place value) = ⊥
StoredFits (Stored place value) = value < 2 ^ 64
StoredFits (StoredLow place value) = value < 2 ^ 32
StoredFits (StoredHigh place value) = value < 2 ^ 32

-- the first piece of a write is stored: it is made of whole units
pub record StoresPiece (unit cut at : ℕ) (bytes : List ℕ) (store : Access) : Type 0 where
  pub piece : IsPiece cut at (length bytes) (length (stored_bytes store))
  pub from_unit : at % unit ≡ 0
  pub whole : length (stored_bytes store) % unit ≡ 0
  pub place_is : place_of store ≡ at - at % 8
  pub here : stored_at store ≡ at
  pub fits : StoredFits store
  pub bytes_are : stored_bytes store ≡ take (length (stored_bytes store)) bytes

-- the first piece of a write is a part of one unit: the unit is loaded, and stored with the piece in it and its other
-- bytes as they were
pub record MergesPiece (unit cut at : ℕ) (bytes : List ℕ) (place old : ℕ) (store : Access) : Type 0 where
  pub size : ℕ
  pub piece : IsPiece cut at (length bytes) size
  pub part : size < unit
  pub in_unit : at % unit + size ≤ unit
  pub place_is : place ≡ at - at % 8
  pub old_fits : old < 2 ^ 64
  pub same_place : place_of store ≡ place
  pub here : stored_at store ≡ at - at % unit
  pub fits : StoredFits store
  pub bytes_are : stored_bytes store
      ≡ with_part (take unit (drop (at % 8 - at % unit) (to_le_bytes w64 old))) (at % unit) (take size bytes)

-- one access for each piece, in rising order, writes the range; directly before the store of a piece that is a part of a
-- unit its unit is loaded
abbrev pub SpellsWrite : ℕ → ℕ → ℕ → List ℕ → List Access → Type 0
SpellsWrite unit cut at bytes [] = bytes ≡ []
SpellsWrite unit cut at bytes (Loaded place old ∷ []) = ⊥
SpellsWrite unit cut at bytes (Loaded place old ∷ store ∷ more) =
    (piece : MergesPiece unit cut at bytes place old store)
    × SpellsWrite unit cut (at + piece.size) (drop piece.size bytes) more
SpellsWrite unit cut at bytes (Stored place value ∷ more) =
    StoresPiece unit cut at bytes (Stored place value) × SpellsWrite unit cut (at + 8) (drop 8 bytes) more
SpellsWrite unit cut at bytes (StoredLow place value ∷ more) =
    StoresPiece unit cut at bytes (StoredLow place value) × SpellsWrite unit cut (at + 4) (drop 4 bytes) more
SpellsWrite unit cut at bytes (StoredHigh place value ∷ more) =
    StoresPiece unit cut at bytes (StoredHigh place value) × SpellsWrite unit cut (at + 4) (drop 4 bytes) more

-- a range of 8 bytes at a multiple of 8 is one access
abbrev pub IsOneAccess : ℕ → ℕ → List Access → Type 0
IsOneAccess at count accesses = at % 8 ≡ 0 → count ≡ 8 → length accesses ≡ 1

-- what a port's chunk is spelled by: each doubleword that has bytes of it is one access
abbrev pub SpellsChunk : ℕ → Chunk → List Access → Type 0
SpellsChunk unit (ReadChunk place bytes) accesses = SpellsRead 8 place bytes accesses
SpellsChunk unit (WriteChunk place bytes) accesses = SpellsWrite unit 8 place bytes accesses

-- accesses were made behind at least one step of the hart
pub record StepsFirst {V : Type 0} (ran : V → ℕ → V → Type 0) (reached : V → List Access → V → Type 0) (before : V)
    (accesses : List Access) (after : V) : Type 0 where
  pub steps : ℕ
  pub some : 0 < steps
  pub first : V
  pub ran_so : ran before steps first
  pub path : reached first accesses after

module _ {S V : Type 0} (view : S → V) (stands : S → V → Type 0) (ready positive : S → Type 0)
    (ran : V → ℕ → V → Type 0) (reached : V → List Access → V → Type 0) where
  -- from view to view by exactly the accesses of a read, behind a step of the hart where every pause is positive, and the port is ready again
  pub record ReadWhole (unit at count : ℕ) (bytes : List ℕ) (before after : S) : Type 0 where
    pub size : length bytes ≡ count
    pub accesses : List Access
    pub spell : SpellsRead unit at bytes accesses
    pub is_one : IsOneAccess at count accesses
    pub path : reached (view before) accesses (view after)
    pub behind_a_step : positive before → 0 < count → StepsFirst ran reached (view before) accesses (view after)
    pub still : ready after

  -- from view to view by the first ones of the accesses of a read; where the hart is not halted, the last view is that of the state
  pub record ReadUntil (unit at count : ℕ) (before after : S) : Type 0 where
    pub bytes : List ℕ
    pub size : length bytes ≡ count
    pub accesses : List Access
    pub more : List Access
    pub spell : SpellsRead unit at bytes (accesses ++ more)
    pub is_one : IsOneAccess at count (accesses ++ more)
    pub last : V
    pub path : reached (view before) accesses last
    pub stands_so : stands after last

  -- what a read did to a told and ready port, in accesses
  abbrev pub ReadSpelled : ℕ → ℕ → ℕ → Result (List ℕ) MemStop → S → S → Type 0
  ReadSpelled unit at count (Ok bytes) before after = ReadWhole unit at count bytes before after
  ReadSpelled unit at count (Err (Unmapped place)) before after = after ≡ before
  ReadSpelled unit at count (Err Spent) before after = ReadUntil unit at count before after
  ReadSpelled unit at count (Err WireFault) before after = ReadUntil unit at count before after
  ReadSpelled unit at count (Err (CmdErr number)) before after = ⊥

  -- from view to view by exactly the accesses of a write, behind a step of the hart where every pause is positive, and the port is ready again
  pub record WriteWhole (unit at : ℕ) (bytes : List ℕ) (before after : S) : Type 0 where
    pub accesses : List Access
    pub spell : SpellsWrite unit unit at bytes accesses
    pub is_one : IsOneAccess at (length bytes) accesses
    pub path : reached (view before) accesses (view after)
    pub behind_a_step : positive before → 0 < length bytes → StepsFirst ran reached (view before) accesses (view after)
    pub still : ready after

  -- from view to view by the first ones of the accesses of a write
  pub record WriteUntil (unit at : ℕ) (bytes : List ℕ) (before after : S) : Type 0 where
    pub accesses : List Access
    pub more : List Access
    pub spell : SpellsWrite unit unit at bytes (accesses ++ more)
    pub is_one : IsOneAccess at (length bytes) (accesses ++ more)
    pub last : V
    pub path : reached (view before) accesses last
    pub stands_so : stands after last

  -- what a write did to a told and ready port, in accesses
  abbrev pub WriteSpelled : ℕ → ℕ → List ℕ → Result Unit MemStop → S → S → Type 0
  WriteSpelled unit at bytes (Ok done) before after = WriteWhole unit at bytes before after
  WriteSpelled unit at bytes (Err (Unmapped place)) before after = after ≡ before
  WriteSpelled unit at bytes (Err Spent) before after = WriteUntil unit at bytes before after
  WriteSpelled unit at bytes (Err WireFault) before after = WriteUntil unit at bytes before after
  WriteSpelled unit at bytes (Err (CmdErr number)) before after = ⊥
