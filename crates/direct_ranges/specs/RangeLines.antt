-- The lines that a range leaves in a trace.
use Rattle.std.specs.Prelude.{◌≡◌, ℕ, List, length, Result, Ok, Err}
use Rattle.std.specs.Result.{result_err}
use Rattle.chunk_memory.specs.BeatChunks.{DirectOne, DirectRefused}
use Rattle.chunk_memory.specs.Ports.{Maps}
use Rattle.chunk_memory.specs.Transactions.{ReadsRange, WritesRange}
use Rattle.chunk_memory.specs.declared.stops.MemStop.{MemStop}
use Rattle.chunk_memory.specs.declared.stops.MemStop.TheVariants.{Unmapped, Spent, WireFault, CmdErr}
use Rattle.target_box.specs.Lined.{Lined, next_line, lost_line}
use Rattle.target_box.specs.TurnLaws.{AreLines, AreCutLines}
use Rattle.target_box.specs.declared.target.Link.TheVariants.{Direct}

-- some transactions were made, and the lines of all were put, or of all but the last
abbrev pub SomeLines : Lined → Lined → Type 0
SomeLines before after = (count : ℕ) × AreLines count before after

abbrev pub SomeCutLines : Lined → Lined → Type 0
SomeCutLines before after = (count : ℕ) × AreCutLines count before after

-- a range is one list of lines: also one that ended for want of transactions; the last line is not put where the wire
-- failed; a range that is not mapped has none
abbrev pub RangeLined : {T : Type 0} → Result T MemStop → Lined → Lined → Type 0
RangeLined (Ok done) before after = SomeLines before after
RangeLined (Err (Unmapped place)) before after = AreLines 0 before after
RangeLined (Err Spent) before after = SomeLines before after
RangeLined (Err WireFault) before after = SomeCutLines before after
RangeLined (Err (CmdErr number)) before after = ⊥

-- what a read or a write of a range did to a line is such a list
pub record RangesAreLines : Type 0 where
  pub reads : (at count : ℕ) (result : Result (List ℕ) MemStop) (before after : Lined) → before.target.link ≡ Direct
      → Maps at count (result_err result)
      → ReadsRange (DirectOne next_line) (DirectRefused next_line lost_line) 8 1024 at count result before after
      → RangeLined result before after
  pub writes : (at : ℕ) (bytes : List ℕ) (result : Result Unit MemStop) (before after : Lined) → before.target.link
      ≡ Direct → Maps at (length bytes) (result_err result)
      → WritesRange (DirectOne next_line) (DirectRefused next_line lost_line) 8 1024 at bytes result before after
      → RangeLined result before after
