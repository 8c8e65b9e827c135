-- Texts that work on memory alone.
use Rattle.std.specs.Prelude.{◌≡◌, ℕ, List, Result}
use Rattle.chunk_memory.specs.declared.port.ChunkPort as port
use Rattle.chunk_memory.specs.declared.stops.MemStop.{MemStop}
use Rattle.host_text.specs.Text.{Text}
use Rattle.host_text.specs.Played.{Acts, At, at, Played}
use Rattle.host_text.specs.Outside.{HasRead, HasWritten}

-- the acts of memory over this port, where nothing else may be asked
abbrev pub memory_alone : {P : Type 0} → port.Ghosts P → Acts P Unit Unit Unit
memory_alone p = record {
  read = λ x place count r x'. HasRead p x x' place count r;
  write = λ x place bytes r x'. HasWritten p x x' place bytes r;
  ask = λ q x r x'. ⊥;
  take = λ x count r x'. ⊥;
  put = λ x bytes r x'. ⊥;
}

-- memory stands here, and this is kept
abbrev pub at_memory : {P H : Type 0} → P → H → At P Unit Unit Unit H
at_memory mem kept = at mem tt tt tt kept
