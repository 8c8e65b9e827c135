use Rattle.std.proofs.Common.{ℕ, List, length, ap, subst}
use Rattle.std.specs.Result.{result_err}
use Rattle.chunk_memory.specs.Ports.{Maps, IfExact, MemTakes}
use Rattle.chunk_memory.specs.Turns.{write_turns}
use Rattle.chunk_memory.proofs.chunked.Chunked.write_u64.Goals as goal

pub returns-clause-maps : goal.returns-clause-maps
returns-clause-maps g c = subst (λ (n : ℕ). Maps c.args.at n (result_err c.write.result)) (ap (λ (l : List ℕ). length l) c.to_le_bytes.ensures) c.write.ensures.maps

pub returns-clause-takes : goal.returns-clause-takes
returns-clause-takes g c =
    let P = g.P.ChunkPort in
    subst (λ (n : ℕ). IfExact P.exact (λ (turns : ℕ → ℕ). MemTakes (write_turns turns P.unit P.most c.args.at n) (P.counts c.args.self.now) (P.counts c.write.new.self) (result_err c.write.result))) (ap (λ (l : List ℕ). length l) c.to_le_bytes.ensures) c.write.ensures.takes
