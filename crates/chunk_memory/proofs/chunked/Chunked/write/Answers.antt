use Rattle.std.proofs.Common.{ℕ, List, length, Ok, Err, sym, subst, rules, Some, None}
use Rattle.fe_base.specs.Wires.{OnTold}
use Rattle.chunk_memory.proofs.RangeSpelled.{write-spelled, write-refused-spelled}
use Rattle.chunk_memory.proofs.ToldLemmas.{told-valid}
use Rattle.chunk_memory.proofs.WordLemmas.{AreSmall}
use Rattle.chunk_memory.specs.Ports.{of_port, IfExact, PortTakes, MemTakes}
use Rattle.chunk_memory.specs.Ranges.{IsMappedRange}
use Rattle.chunk_memory.specs.Spelling.{WriteWhole, WriteSpelled}
use Rattle.chunk_memory.specs.Transactions.{Writes}
use Rattle.chunk_memory.specs.declared.stops.MemStop.{MemStop}
use Rattle.chunk_memory.specs.declared.stops.PortStop.{PortStop}
use Rattle.chunk_memory.proofs.TakeLemmas.{exact-by, exact-as, takes-done, takes-stop, takes-unmapped}
use Rattle.chunk_memory.specs.Turns.{write_turns}
use Rattle.chunk_memory.specs.declared.stops.MemStop.TheVariants.{Unmapped}
use Rattle.chunk_memory.proofs.chunked.Chunked.write.Goals as goal

pub returns-in-Ok-clause-reached : goal.returns-in-Ok-clause-reached
returns-in-Ok-clause-reached g c =
    let P = g.P.ChunkPort in
    let laws = g.met.P.ChunkPort in
    let at : ℕ = c.args.at in
    let count : ℕ = length c.args.from.now in
    let mapped : IsMappedRange at count = search rules in
    let bytes : List ℕ = c.args.from.now in
    told-valid (P.told c.args.self.now) (P.told c.write_mapped.new.self) P.valid (Writes P.one P.refused P.unit P.most at bytes (Ok tt)) (λ a b. P.ready a → WriteWhole P.view P.stands P.ready P.positive P.ran P.reached P.unit at bytes a b) (laws.tells_valid c.args.self.now c.requires)
    (λ a b ok w now. write-spelled P.unit P.most laws.sizes P.view P.stands P.valid P.ready P.positive P.ran P.reached P.one P.refused laws.reached_none laws.reached_then laws.one_reaches laws.refused_reaches at bytes a b ok now mapped w) c.in-Ok.ensures.told

pub returns-in-Err-clause-reached : goal.returns-in-Err-clause-reached
returns-in-Err-clause-reached g c =
    let P = g.P.ChunkPort in
    let laws = g.met.P.ChunkPort in
    let at : ℕ = c.args.at in
    let count : ℕ = length c.args.from.now in
    let mapped : IsMappedRange at count = search rules in
    let bytes : List ℕ = c.args.from.now in
    let small : AreSmall bytes = search rules in
    let stop : PortStop = c.in-Err.stop in
    subst (λ (s : MemStop). OnTold (P.told c.args.self.now) (P.told c.write_mapped.new.self) (λ a b. P.ready a → WriteSpelled P.view P.stands P.ready P.positive P.ran P.reached P.unit at bytes (Err s) a b)) (sym c.mem_stop.ensures)
    (told-valid (P.told c.args.self.now) (P.told c.write_mapped.new.self) P.valid (Writes P.one P.refused P.unit P.most at bytes (Err stop)) (λ a b. P.ready a → WriteSpelled P.view P.stands P.ready P.positive P.ran P.reached P.unit at bytes (Err (of_port stop)) a b) (laws.tells_valid c.args.self.now c.requires)
    (λ a b ok w now. write-refused-spelled P.unit P.most laws.sizes P.view P.stands P.valid P.ready P.positive P.ran P.reached P.one P.refused laws.reached_none laws.reached_then laws.one_reaches laws.refused_reaches at bytes stop a b small ok now mapped w) c.in-Err.ensures.told)

pub returns-in-Some-clause-takes : goal.returns-in-Some-clause-takes
returns-in-Some-clause-takes g c =
    let P = g.P.ChunkPort in
    exact-by P.exact (λ (turns : ℕ → ℕ). MemTakes (write_turns turns P.unit P.most c.args.at (length c.args.from.now)) (P.counts c.args.self.now) (P.counts c.args.self.now) (Some (Unmapped c.in-Some.place)))
    (λ turns is. takes-unmapped (write_turns turns P.unit P.most c.args.at (length c.args.from.now)) (P.counts c.args.self.now) c.in-Some.place)

pub returns-in-Ok-clause-takes : goal.returns-in-Ok-clause-takes
returns-in-Ok-clause-takes g c =
    let P = g.P.ChunkPort in
    exact-as P.exact (λ (turns : ℕ → ℕ). PortTakes (write_turns turns P.unit P.most c.args.at (length c.args.from.now)) (P.counts c.args.self.now) (P.counts c.write_mapped.new.self) None) (λ (turns : ℕ → ℕ). MemTakes (write_turns turns P.unit P.most c.args.at (length c.args.from.now)) (P.counts c.args.self.now) (P.counts c.write_mapped.new.self) None)
    (λ turns here. takes-done (write_turns turns P.unit P.most c.args.at (length c.args.from.now)) (P.counts c.args.self.now) (P.counts c.write_mapped.new.self) here) c.in-Ok.ensures.takes

pub returns-in-Err-clause-takes : goal.returns-in-Err-clause-takes
returns-in-Err-clause-takes g c =
    let P = g.P.ChunkPort in
    let stop : PortStop = c.in-Err.stop in
    subst (λ (s : MemStop). IfExact P.exact (λ (turns : ℕ → ℕ). MemTakes (write_turns turns P.unit P.most c.args.at (length c.args.from.now)) (P.counts c.args.self.now) (P.counts c.write_mapped.new.self) (Some s))) (sym c.mem_stop.ensures)
    (exact-as P.exact (λ (turns : ℕ → ℕ). PortTakes (write_turns turns P.unit P.most c.args.at (length c.args.from.now)) (P.counts c.args.self.now) (P.counts c.write_mapped.new.self) (Some stop)) (λ (turns : ℕ → ℕ). MemTakes (write_turns turns P.unit P.most c.args.at (length c.args.from.now)) (P.counts c.args.self.now) (P.counts c.write_mapped.new.self) (Some (of_port stop)))
    (λ turns here. takes-stop (write_turns turns P.unit P.most c.args.at (length c.args.from.now)) (P.counts c.args.self.now) (P.counts c.write_mapped.new.self) stop here) c.in-Err.ensures.takes)
