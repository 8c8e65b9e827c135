-- The transactions of a range: which chunks a port is asked for, and what making them does to a told state.
use Rattle.std.specs.Prelude.{◌≡◌, ◌<◌, ◌+◌, ◌-◌, ◌*◌, ◌/◌, ◌%◌, ◌==◌, ◌||◌, ℕ, Bool, true, false, not, nat_lt, min}
use Rattle.std.specs.Prelude.{if◌then◌else◌, List, [], ◌∷◌, ◌++◌, length, take, drop, Result, Ok, Err}
use Rattle.guest_memory.specs.Memory.{with_part}
use Rattle.chunk_memory.specs.declared.stops.PortStop.{PortStop}
use Rattle.chunk_memory.specs.declared.stops.PortStop.TheVariants.{Spent as PortSpent, WireFault as PortFault}
use Rattle.chunk_memory.specs.declared.stops.PortStop.TheVariants.{CmdErr as PortError}
use Rattle.chunk_memory.specs.declared.stops.MemStop.{MemStop}
use Rattle.chunk_memory.specs.declared.stops.MemStop.TheVariants.{Unmapped, Spent, WireFault, CmdErr}

-- a chunk by its direction, its address and its bytes
pub data Chunk : Type 0 where
  ReadChunk : (place : ℕ) (bytes : List ℕ) → Chunk
  WriteChunk : (place : ℕ) (bytes : List ℕ) → Chunk

-- a range of so many bytes begins or ends inside its first unit
abbrev pub begins_in_part : ℕ → ℕ → ℕ → Bool
begins_in_part unit at count = not (at % unit == 0) || nat_lt count unit

-- how many bytes the first chunk of a range has: the unit alone that is not whole, or the whole units, as many as one chunk takes
abbrev pub chunk_size : ℕ → ℕ → ℕ → ℕ → ℕ
chunk_size unit most at count = if begins_in_part unit at count then unit else min (count / unit * unit) most

-- how many of the range's bytes these are
abbrev pub step_size : ℕ → ℕ → ℕ → ℕ → ℕ
step_size unit most at count = if begins_in_part unit at count then min count (unit - at % unit) else min
    (count / unit * unit) most

-- the first chunk of a read: so many of the range's bytes stand in it
pub record ReadStep (unit most at : ℕ) (bytes : List ℕ) (place : ℕ) (got : List ℕ) : Type 0 where
  pub some : 0 < length bytes
  pub place_is : place ≡ at - at % unit
  pub size : length got ≡ chunk_size unit most at (length bytes)
  pub bytes_are : take (step_size unit most at (length bytes)) bytes
      ≡ take (step_size unit most at (length bytes)) (drop (at % unit) got)

-- the chunks that read a range
abbrev pub ReadChunks : ℕ → ℕ → ℕ → List ℕ → List Chunk → Type 0
ReadChunks unit most at bytes [] = bytes ≡ []
ReadChunks unit most at bytes (ReadChunk place got ∷ more) =
    ReadStep unit most at bytes place got
    × ReadChunks unit most (at + step_size unit most at (length bytes))
    (drop (step_size unit most at (length bytes)) bytes) more
ReadChunks unit most at bytes (WriteChunk place put ∷ more) = ⊥

-- the first chunk of a write that begins with a whole unit
pub record WholeStep (unit most at : ℕ) (bytes : List ℕ) (place : ℕ) (put : List ℕ) : Type 0 where
  pub some : 0 < length bytes
  pub whole : begins_in_part unit at (length bytes) ≡ false
  pub place_is : place ≡ at
  pub bytes_are : put ≡ take (step_size unit most at (length bytes)) bytes

-- the first two chunks of a write that begins with a unit that is not whole: the unit is read, and written with the
-- range's bytes in it and its others as they were
pub record PartStep (unit most at : ℕ) (bytes : List ℕ) (read_place : ℕ) (old : List ℕ) (place : ℕ) (put : List ℕ)
    : Type 0 where
  pub some : 0 < length bytes
  pub part : begins_in_part unit at (length bytes) ≡ true
  pub read_place_is : read_place ≡ at - at % unit
  pub size : length old ≡ unit
  pub place_is : place ≡ at - at % unit
  pub bytes_are : put ≡ with_part old (at % unit) (take (step_size unit most at (length bytes)) bytes)

-- the chunks that write a range
abbrev pub WriteChunks : ℕ → ℕ → ℕ → List ℕ → List Chunk → Type 0
WriteChunks unit most at bytes [] = bytes ≡ []
WriteChunks unit most at bytes (WriteChunk place put ∷ more) =
    WholeStep unit most at bytes place put
    × WriteChunks unit most (at + step_size unit most at (length bytes))
    (drop (step_size unit most at (length bytes)) bytes) more
WriteChunks unit most at bytes (ReadChunk read_place old ∷ []) = ⊥
WriteChunks unit most at bytes (ReadChunk read_place old ∷ ReadChunk place put ∷ more) = ⊥
WriteChunks unit most at bytes (ReadChunk read_place old ∷ WriteChunk place put ∷ more) =
    PartStep unit most at bytes read_place old place put
    × WriteChunks unit most (at + step_size unit most at (length bytes))
    (drop (step_size unit most at (length bytes)) bytes) more

-- these chunks, one after the other, lead from a state to another
abbrev pub Made : {S : Type 0} → (S → Chunk → S → Type 0) → S → List Chunk → S → Type 0
Made one before [] after = after ≡ before
Made {S} one before (chunk ∷ more) after = (between : S) × one before chunk between × Made one between more after

-- the chunks but the last were made, and the last one was refused
pub record Cut {S : Type 0} (one : S → Chunk → S → Type 0) (refused : S → Chunk → PortStop → S → Type 0) (before : S)
    (chunks : List Chunk) (stop : PortStop) (after : S) : Type 0 where
  pub done : List Chunk
  pub last : Chunk
  pub between : S
  pub all : chunks ≡ done ++ last ∷ []
  pub made : Made one before done between
  pub cut : refused between last stop after

module _ {S : Type 0} (one : S → Chunk → S → Type 0) (refused : S → Chunk → PortStop → S → Type 0) (unit most : ℕ) where
  -- the range's chunks were made, and gave these bytes
  pub record WasRead (at count : ℕ) (bytes : List ℕ) (before after : S) : Type 0 where
    pub size : length bytes ≡ count
    pub chunks : List Chunk
    pub are_its : ReadChunks unit most at bytes chunks
    pub made : Made one before chunks after

  -- the first ones of the range's chunks were made, and one of them was refused
  pub record WasReadUntil (at count : ℕ) (stop : PortStop) (before after : S) : Type 0 where
    pub bytes : List ℕ
    pub size : length bytes ≡ count
    pub chunks : List Chunk
    pub more : List Chunk
    pub are_its : ReadChunks unit most at bytes (chunks ++ more)
    pub made : Cut one refused before chunks stop after

  -- what the read of a range did, as far as it came
  abbrev pub Reads : ℕ → ℕ → Result (List ℕ) PortStop → S → S → Type 0
  Reads at count (Ok bytes) before after = WasRead at count bytes before after
  Reads at count (Err stop) before after = WasReadUntil at count stop before after

  -- the range's chunks were made
  pub record WasWritten (at : ℕ) (bytes : List ℕ) (before after : S) : Type 0 where
    pub chunks : List Chunk
    pub are_its : WriteChunks unit most at bytes chunks
    pub made : Made one before chunks after

  -- the first ones of the range's chunks were made, and one of them was refused
  pub record WasWrittenUntil (at : ℕ) (bytes : List ℕ) (stop : PortStop) (before after : S) : Type 0 where
    pub chunks : List Chunk
    pub more : List Chunk
    pub are_its : WriteChunks unit most at bytes (chunks ++ more)
    pub made : Cut one refused before chunks stop after

  -- what the write of a range did, as far as it came
  abbrev pub Writes : ℕ → List ℕ → Result Unit PortStop → S → S → Type 0
  Writes at bytes (Ok done) before after = WasWritten at bytes before after
  Writes at bytes (Err stop) before after = WasWrittenUntil at bytes stop before after

  -- what a read of memory did: of a range that is not mapped whole, no chunk was asked for
  abbrev pub ReadsRange : ℕ → ℕ → Result (List ℕ) MemStop → S → S → Type 0
  ReadsRange at count (Ok bytes) before after = WasRead at count bytes before after
  ReadsRange at count (Err (Unmapped place)) before after = after ≡ before
  ReadsRange at count (Err Spent) before after = WasReadUntil at count PortSpent before after
  ReadsRange at count (Err WireFault) before after = WasReadUntil at count PortFault before after
  ReadsRange at count (Err (CmdErr number)) before after = WasReadUntil at count (PortError number) before after

  -- what a write to memory did: of a range that is not mapped whole, no chunk was asked for
  abbrev pub WritesRange : ℕ → List ℕ → Result Unit MemStop → S → S → Type 0
  WritesRange at bytes (Ok done) before after = WasWritten at bytes before after
  WritesRange at bytes (Err (Unmapped place)) before after = after ≡ before
  WritesRange at bytes (Err Spent) before after = WasWrittenUntil at bytes PortSpent before after
  WritesRange at bytes (Err WireFault) before after = WasWrittenUntil at bytes PortFault before after
  WritesRange at bytes (Err (CmdErr number)) before after = WasWrittenUntil at bytes (PortError number) before after
