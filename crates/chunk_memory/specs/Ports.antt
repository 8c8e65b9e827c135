-- What a call of a port, or of memory over a port, says.
use Rattle.std.specs.Prelude.{◌≡◌, ◌≤◌, ◌<◌, ◌+◌, ◌%◌, ◌⊎◌, ◌↔◌, ⊤, ℕ, List, Option, Some, None, Result, Ok, Err}
use Rattle.std.specs.Int.{to_le_bytes, w64}
use Rattle.fe_base.specs.Outside.{Rose}
use Rattle.chunk_memory.specs.Ranges.{IsMappedRange, IsFirstUnmapped}
use Rattle.chunk_memory.specs.Transactions.{Chunk, ReadChunk, WriteChunk}
use Rattle.chunk_memory.specs.declared.stops.PortStop.{PortStop}
use Rattle.chunk_memory.specs.declared.stops.PortStop.TheVariants.{Spent as PortSpent, WireFault as PortFault}
use Rattle.chunk_memory.specs.declared.stops.PortStop.TheVariants.{CmdErr as PortError}
use Rattle.chunk_memory.specs.declared.stops.MemStop.{MemStop}
use Rattle.chunk_memory.specs.declared.stops.MemStop.TheVariants.{Unmapped, Spent, WireFault, CmdErr}

-- what may be asked of a port in one chunk: some whole units, not too many, and mapped
pub record IsChunk (unit most at count : ℕ) : Type 0 where
  pub aligned : at % unit ≡ 0
  pub some : 0 < count
  pub whole : count % unit ≡ 0
  pub fits : count ≤ most
  pub mapped : IsMappedRange at count

-- the units and the greatest chunk that a port may have
pub record ArePortSizes (unit most : ℕ) : Type 0 where
  pub unit_is : (unit ≡ 4) ⊎ (unit ≡ 8)
  pub whole : most % 8 ≡ 0
  pub some : 0 < most

-- the numbers of transactions, faults and command errors that a port stands at
pub record Counts : Type 0 where
  pub left : ℕ
  pub faults : ℕ
  pub raised : ℕ → ℕ

-- the counts go one way, and each refusal of a port has moved its own
pub record PortCauses (before now : Counts) (stop : Option PortStop) : Type 0 where
  pub fewer : now.left ≤ before.left
  pub later : before.faults ≤ now.faults
  pub higher : (number : ℕ) → before.raised number ≤ now.raised number
  pub spent : stop ≡ Some PortSpent → now.left ≡ 0
  pub failed : stop ≡ Some PortFault → Rose before.faults now.faults
  pub command : (number : ℕ) → stop ≡ Some (PortError number) → Rose (before.raised number) (now.raised number)

-- the same of memory over a port
pub record MemCauses (before now : Counts) (stop : Option MemStop) : Type 0 where
  pub fewer : now.left ≤ before.left
  pub later : before.faults ≤ now.faults
  pub higher : (number : ℕ) → before.raised number ≤ now.raised number
  pub spent : stop ≡ Some Spent → now.left ≡ 0
  pub failed : stop ≡ Some WireFault → Rose before.faults now.faults
  pub command : (number : ℕ) → stop ≡ Some (CmdErr number) → Rose (before.raised number) (now.raised number)

-- a call over a steady wire meets no fault of it, and leaves it steady
pub record StaysUnfaulted (before now : Counts) (stop : Option PortStop) (after : Type 0) : Type 0 where
  pub unfaulted : stop ≡ Some PortFault → ⊥
  pub same : now.faults ≡ before.faults
  pub steady : after

-- the same of memory over a port
pub record MemUnfaulted (before now : Counts) (stop : Option MemStop) (after : Type 0) : Type 0 where
  pub unfaulted : stop ≡ Some WireFault → ⊥
  pub same : now.faults ≡ before.faults
  pub steady : after

-- where each chunk that is made takes some function of how many bytes it has
abbrev pub IfExact : Option (ℕ → ℕ) → ((ℕ → ℕ) → Type 0) → Type 0
IfExact (Some turns) holds = holds turns
IfExact None holds = ⊤

-- what takes so many transactions where it is made: it then lowers the number that is left by as many, and else by no
-- more; Spent comes only where fewer were left as it began
pub record PortTakes (number : ℕ) (before now : Counts) (stop : Option PortStop) : Type 0 where
  pub made : stop ≡ None → before.left ≡ now.left + number
  pub most : before.left ≤ now.left + number
  pub spent : stop ≡ Some PortSpent → before.left < number

-- the same of memory over a port
pub record MemTakes (number : ℕ) (before now : Counts) (stop : Option MemStop) : Type 0 where
  pub made : stop ≡ None → before.left ≡ now.left + number
  pub most : before.left ≤ now.left + number
  pub spent : stop ≡ Some Spent → before.left < number

-- over a told and ready state in which every pause is positive, so many transactions were made at most
abbrev pub CostsAtMost : {S : Type 0} → Option S → (S → Type 0) → (S → Type 0) → Counts → Counts → ℕ → Type 0
CostsAtMost {S} told ready positive before now most =
    (state : S) → told ≡ Some state → ready state → positive state → before.left ≤ now.left + most

-- Unmapped comes exactly where a doubleword of the range is not mapped, and tells the first one
abbrev pub Maps : ℕ → ℕ → Option MemStop → Type 0
Maps at count stop = (doubleword : ℕ) → (stop ≡ Some (Unmapped doubleword)) ↔ IsFirstUnmapped at count doubleword

-- what the read of a chunk did to the told state; of a refused one the bytes are not known
abbrev pub ChunkRead : {S T : Type 0} → (S → Chunk → S → Type 0) → (S → Chunk → PortStop → S → Type 0) → ℕ → List ℕ
    → Result T PortStop → S → S → Type 0
ChunkRead one refused at bytes (Ok done) before after = one before (ReadChunk at bytes) after
ChunkRead one refused at bytes (Err stop) before after = refused before (ReadChunk at bytes) stop after

-- what the write of a chunk did to the told state
abbrev pub ChunkWritten : {S T : Type 0} → (S → Chunk → S → Type 0) → (S → Chunk → PortStop → S → Type 0) → ℕ → List ℕ
    → Result T PortStop → S → S → Type 0
ChunkWritten one refused at bytes (Ok done) before after = one before (WriteChunk at bytes) after
ChunkWritten one refused at bytes (Err stop) before after = refused before (WriteChunk at bytes) stop after

-- an answer with the bytes that were read
abbrev pub with_bytes : {T E : Type 0} → Result T E → List ℕ → Result (List ℕ) E
with_bytes (Ok done) bytes = Ok bytes
with_bytes (Err stop) bytes = Err stop

-- an answer with the bytes of the doubleword that was read
abbrev pub word_bytes : {E : Type 0} → Result ℕ E → Result (List ℕ) E
word_bytes (Ok value) = Ok (to_le_bytes w64 value)
word_bytes (Err stop) = Err stop

-- a port's refusal, as memory answers it
abbrev pub of_port : PortStop → MemStop
of_port PortSpent = Spent
of_port PortFault = WireFault
of_port (PortError number) = CmdErr number
