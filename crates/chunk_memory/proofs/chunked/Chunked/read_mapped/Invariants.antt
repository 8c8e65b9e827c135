use Rattle.std.proofs.Common.{ℕ, length, ◌-◌, ◌≡◌, ◌≤◌, ◌+◌, None, Some}
use Rattle.chunk_memory.proofs.StepLemmas.{ReadSoFar}
use Rattle.fe_base.specs.Wires.{OnTold}
use Rattle.chunk_memory.specs.Ports.{PortCauses, StaysUnfaulted}
use Rattle.chunk_memory.specs.Turns.{read_turns}
use Rattle.chunk_memory.proofs.chunked.Chunked.read_mapped.Given as goal

abbrev pub invariant-loop-done : goal.invariant-loop-done
invariant-loop-done g l = record {
  within : l.done ≤ length l.into;
  usable : g.P.ChunkPort.usable l.self;
  kept : g.P.ChunkPort.kept l.self ≡ g.P.ChunkPort.kept l.fn.self;
  causes : PortCauses (g.P.ChunkPort.counts l.fn.self) (g.P.ChunkPort.counts l.self) None;
  steady : g.P.ChunkPort.steady l.fn.self → StaysUnfaulted (g.P.ChunkPort.counts l.fn.self) (g.P.ChunkPort.counts l.self) None (g.P.ChunkPort.steady l.self);
  calm : OnTold (g.P.ChunkPort.told l.fn.self) (g.P.ChunkPort.told l.self) (λ a m. g.P.ChunkPort.ready a → g.P.ChunkPort.positive a → g.P.ChunkPort.ready m × g.P.ChunkPort.positive m);
  turns : (state : g.P.ChunkPort.State) → g.P.ChunkPort.told l.fn.self ≡ Some state → g.P.ChunkPort.ready state → g.P.ChunkPort.positive state
      → (g.P.ChunkPort.counts l.fn.self).left + read_turns g.P.ChunkPort.cost g.P.ChunkPort.unit g.P.ChunkPort.most (l.at + l.done) (length l.into - l.done) ≤ (g.P.ChunkPort.counts l.self).left + read_turns g.P.ChunkPort.cost g.P.ChunkPort.unit g.P.ChunkPort.most l.at (length l.into);
  takes : (turns : ℕ → ℕ) → g.P.ChunkPort.exact ≡ Some turns
      → (g.P.ChunkPort.counts l.fn.self).left + read_turns turns g.P.ChunkPort.unit g.P.ChunkPort.most (l.at + l.done) (length l.into - l.done) ≡ (g.P.ChunkPort.counts l.self).left + read_turns turns g.P.ChunkPort.unit g.P.ChunkPort.most l.at (length l.into);
  told : OnTold (g.P.ChunkPort.told l.fn.self) (g.P.ChunkPort.told l.self) (ReadSoFar g.P.ChunkPort.one g.P.ChunkPort.refused g.P.ChunkPort.unit g.P.ChunkPort.most l.at (length l.into) l.into l.done);
  empty : length l.into ≡ 0 → l.self ≡ l.fn.self;
}

abbrev pub decreases-loop-done : goal.decreases-loop-done
decreases-loop-done g l = length l.initial.into - l.done
