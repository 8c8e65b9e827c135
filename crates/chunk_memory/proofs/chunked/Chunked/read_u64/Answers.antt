use Rattle.std.proofs.Common.{ℕ, List, Result, Ok, Err, sym, ap, subst, ◌∙◌}
use Rattle.std.specs.Result.{result_err}
use Rattle.std.proofs.lemmas.Result.{err_from_is_err_and}
use Rattle.fe_base.specs.Wires.{OnTold}
use Rattle.chunk_memory.specs.Ports.{Maps, IfExact, MemTakes}
use Rattle.chunk_memory.specs.Spelling.{ReadSpelled}
use Rattle.chunk_memory.specs.Transactions.{ReadsRange}
use Rattle.chunk_memory.specs.declared.stops.MemStop.{MemStop}
use Rattle.chunk_memory.specs.Turns.{read_turns}
use Rattle.chunk_memory.proofs.chunked.Chunked.read_u64.Goals as goal

pub returns-in_err-read-clause-maps : goal.returns-in_err-read-clause-maps
returns-in_err-read-clause-maps g c =
    let failed = err_from_is_err_and c.from_residual.result c.from_residual.ensures.1 in
    subst (λ (r : Result ℕ MemStop). Maps c.args.at 8 (result_err r)) (sym (failed.1 ∙ ap Err failed.2)) c.in_err-read.ensures.maps

pub returns-clause-told : goal.returns-clause-told
returns-clause-told g c =
    let P = g.P.ChunkPort in
    subst (λ (l : List ℕ). OnTold (P.told c.args.self.now) (P.told c.read.new.self) (ReadsRange P.one P.refused P.unit P.most c.args.at 8 (Ok l))) (sym c.number_of.ensures) c.in_ok-read.ensures.told

pub returns-clause-reached : goal.returns-clause-reached
returns-clause-reached g c =
    let P = g.P.ChunkPort in
    subst (λ (l : List ℕ). OnTold (P.told c.args.self.now) (P.told c.read.new.self) (λ a b. P.ready a → ReadSpelled P.view P.stands P.ready P.positive P.ran P.reached P.unit c.args.at 8 (Ok l) a b)) (sym c.number_of.ensures) c.in_ok-read.ensures.reached

pub returns-in_err-read-clause-takes : goal.returns-in_err-read-clause-takes
returns-in_err-read-clause-takes g c =
    let P = g.P.ChunkPort in
    let failed = err_from_is_err_and c.from_residual.result c.from_residual.ensures.1 in
    subst (λ (r : Result ℕ MemStop). IfExact P.exact (λ (turns : ℕ → ℕ). MemTakes (read_turns turns P.unit P.most c.args.at 8) (P.counts c.args.self.now) (P.counts c.read.new.self) (result_err r))) (sym (failed.1 ∙ ap Err failed.2)) c.in_err-read.ensures.takes

pub returns-clause-takes : goal.returns-clause-takes
returns-clause-takes g c = c.in_ok-read.ensures.takes
