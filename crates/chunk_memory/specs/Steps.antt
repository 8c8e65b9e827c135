-- What one step of a read or of a write of a range did: its first chunk, or in a write the two of a unit that is not whole.
use Rattle.std.specs.Prelude.{◌≡◌, ◌-◌, ◌%◌, ℕ, List, [], ◌∷◌, ◌++◌, length, Result, Ok, Err}
use Rattle.chunk_memory.specs.Transactions.{Chunk, ReadChunk, WriteChunk, chunk_size, ReadStep, WholeStep, PartStep}
use Rattle.chunk_memory.specs.Transactions.{Made, Cut}
use Rattle.chunk_memory.specs.declared.stops.PortStop.{PortStop}

-- the chunks of the first step of a write
abbrev pub WriteStep : ℕ → ℕ → ℕ → List ℕ → List Chunk → Type 0
WriteStep unit most at bytes [] = ⊥
WriteStep unit most at bytes (WriteChunk place put ∷ []) = WholeStep unit most at bytes place put
WriteStep unit most at bytes (WriteChunk place put ∷ other ∷ more) = ⊥
WriteStep unit most at bytes (ReadChunk read_place old ∷ []) = ⊥
WriteStep unit most at bytes (ReadChunk read_place old ∷ ReadChunk place put ∷ more) = ⊥
WriteStep unit most at bytes (ReadChunk read_place old ∷ WriteChunk place put ∷ []) =
    PartStep unit most at bytes read_place old place put
WriteStep unit most at bytes (ReadChunk read_place old ∷ WriteChunk place put ∷ other ∷ more) = ⊥

module _ {S : Type 0} (one : S → Chunk → S → Type 0) (refused : S → Chunk → PortStop → S → Type 0) (unit most : ℕ) where
  -- the first chunk of a read gave the front of the bytes, or was refused
  abbrev pub ReadNext : ℕ → List ℕ → Result ℕ PortStop → S → S → Type 0
  ReadNext at bytes (Ok size) before after =
      (got : List ℕ) × ReadStep unit most at bytes (at - at % unit) got
      × one before (ReadChunk (at - at % unit) got) after
  ReadNext at bytes (Err stop) before after =
      (got : List ℕ) × (length got ≡ chunk_size unit most at (length bytes))
      × refused before (ReadChunk (at - at % unit) got) stop after

  -- the chunks of a write's first step were made, or one of them was refused
  abbrev pub WriteNext : ℕ → List ℕ → Result ℕ PortStop → S → S → Type 0
  WriteNext at bytes (Ok size) before after =
      (chunks : List Chunk) × WriteStep unit most at bytes chunks × Made one before chunks after
  WriteNext at bytes (Err stop) before after =
      (chunks : List Chunk) × (more : List Chunk) × WriteStep unit most at bytes (chunks ++ more)
      × Cut one refused before chunks stop after
