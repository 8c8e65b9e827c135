-- Chunks by beats: one for each doubleword, in rising order.
use Rattle.std.specs.Prelude.{◌≡◌, ◌<◌, ◌+◌, ◌*◌, ◌^◌, ⊤, ℕ, List, [], ◌∷◌, ◌++◌, length}
use Rattle.std.specs.Int.{to_le_bytes, w64}
use Rattle.fe_base.specs.Beats.{Beat, ReadBeat, WriteBeat}
use Rattle.fe_base.specs.declared.wires.WireStop.{WireStop}
use Rattle.fe_base.specs.declared.wires.WireStop.TheVariants.{Spent as WireSpent, Failed}
use Rattle.chunk_memory.specs.Ports.{Counts}
use Rattle.chunk_memory.specs.Transactions.{Chunk, ReadChunk, WriteChunk}
use Rattle.chunk_memory.specs.declared.stops.PortStop.{PortStop}
use Rattle.chunk_memory.specs.declared.stops.PortStop.TheVariants.{Spent, WireFault, CmdErr}

-- the bytes of doublewords, one after the other, each with its lowest byte first
abbrev pub bytes_of : List ℕ → List ℕ
bytes_of [] = []
bytes_of (value ∷ more) = to_le_bytes w64 value ++ bytes_of more

-- each has 64 bits
abbrev pub AreDoublewords : List ℕ → Type 0
AreDoublewords [] = ⊤
AreDoublewords (value ∷ more) = (value < 2 ^ 64) × AreDoublewords more

module _ {S : Type 0} (next : S → Beat → S × ℕ) where
  -- doublewords were read from an address on
  abbrev pub BeatsRead : S → ℕ → List ℕ → S → Type 0
  BeatsRead before at [] after = after ≡ before
  BeatsRead before at (value ∷ more) after =
      (between : S) × (next before (ReadBeat at) ≡ (between, value)) × BeatsRead between (at + 8) more after

  -- doublewords were written from an address on
  abbrev pub BeatsWritten : S → ℕ → List ℕ → S → Type 0
  BeatsWritten before at [] after = after ≡ before
  BeatsWritten before at (value ∷ more) after =
      (between : S) × (next before (WriteBeat at value) ≡ (between, 0)) × BeatsWritten between (at + 8) more after

  -- a chunk was read: its bytes are those of the replies
  pub record ReadByBeats (at : ℕ) (bytes : List ℕ) (before after : S) : Type 0 where
    pub values : List ℕ
    pub fit : AreDoublewords values
    pub bytes_are : bytes ≡ bytes_of values
    pub made : BeatsRead before at values after

  -- a chunk was written
  pub record WrittenByBeats (at : ℕ) (bytes : List ℕ) (before after : S) : Type 0 where
    pub values : List ℕ
    pub fit : AreDoublewords values
    pub bytes_are : bytes ≡ bytes_of values
    pub made : BeatsWritten before at values after

  -- a chunk by its beats
  abbrev pub DirectOne : S → Chunk → S → Type 0
  DirectOne before (ReadChunk at bytes) after = ReadByBeats at bytes before after
  DirectOne before (WriteChunk at bytes) after = WrittenByBeats at bytes before after

module _ {S : Type 0} (next lost : S → Beat → S × ℕ) where
  -- a beat was refused: none was left, and it was not made; or the wire failed, and its reply is lost
  abbrev pub BeatStopped : Beat → PortStop → S → S → Type 0
  BeatStopped ask Spent before after = after ≡ before
  BeatStopped ask WireFault before after = after ≡ (lost before ask).0
  BeatStopped ask (CmdErr number) before after = ⊥

  -- the beats of a chunk to be read were made until one was refused
  pub record ReadByBeatsUntil (at count : ℕ) (stop : PortStop) (before after : S) : Type 0 where
    pub values : List ℕ
    pub fit : AreDoublewords values
    pub some_left : 8 * length values < count
    pub between : S
    pub made : BeatsRead next before at values between
    pub stopped : BeatStopped (ReadBeat (at + 8 * length values)) stop between after

  -- the beats of a chunk to be written were made until one was refused
  pub record WrittenByBeatsUntil (at : ℕ) (bytes : List ℕ) (stop : PortStop) (before after : S) : Type 0 where
    pub values : List ℕ
    pub value : ℕ
    pub more : List ℕ
    pub fit : AreDoublewords (values ++ value ∷ more)
    pub bytes_are : bytes ≡ bytes_of (values ++ value ∷ more)
    pub between : S
    pub made : BeatsWritten next before at values between
    pub stopped : BeatStopped (WriteBeat (at + 8 * length values) value) stop between after

  -- a refused chunk by its beats
  abbrev pub DirectRefused : S → Chunk → PortStop → S → Type 0
  DirectRefused before (ReadChunk at bytes) stop after = ReadByBeatsUntil at (length bytes) stop before after
  DirectRefused before (WriteChunk at bytes) stop after = WrittenByBeatsUntil at bytes stop before after

-- a wire's refusal, as a port answers it
abbrev pub of_wire : WireStop → PortStop
of_wire WireSpent = Spent
of_wire Failed = WireFault

-- what a port counts by a wire that reads no command errors
abbrev pub wire_counts : ℕ → ℕ → Counts
wire_counts left faults = record { left = left; faults = faults; raised = λ number. 0 }
