use Rattle.std.proofs.Common.{length, take, ◌-◌, ◌≡◌, ◌≤◌}
use Rattle.fe_base.specs.Wires.{OnTold}
use Rattle.chunk_memory.proofs.DirectLemmas.{BeatsCount}
use Rattle.chunk_memory.specs.BeatChunks.{ReadByBeats}
use Rattle.chunk_memory.proofs.direct_port.read_beats.Given as goal

abbrev pub invariant-loop-done : goal.invariant-loop-done
invariant-loop-done g l = record {
  within : l.done ≤ length l.into;
  usable : g.W.BeatWire.usable l.wire;
  kept : g.W.BeatWire.kept l.wire ≡ g.W.BeatWire.kept l.fn.wire;
  count : BeatsCount l.done (g.W.BeatWire.left l.fn.wire) (g.W.BeatWire.left l.wire) (g.W.BeatWire.faults l.fn.wire) (g.W.BeatWire.faults l.wire);
  steady : g.W.BeatWire.steady l.fn.wire → g.W.BeatWire.steady l.wire × (g.W.BeatWire.faults l.wire ≡ g.W.BeatWire.faults l.fn.wire);
  told : OnTold (g.W.BeatWire.told l.fn.wire) (g.W.BeatWire.told l.wire) (ReadByBeats g.W.BeatWire.next l.at (take l.done l.into));
}

abbrev pub decreases-loop-done : goal.decreases-loop-done
decreases-loop-done g l = length l.initial.into - l.done
