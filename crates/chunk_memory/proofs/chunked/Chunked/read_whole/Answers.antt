use Rattle.std.proofs.Common.{◌≡◌, ℕ, ◌*◌, ◌/◌, min, length, take, Option, sym, ap, subst, ◌∙◌, arith, None, Some, Result, Err}
use Rattle.std.proofs.lemmas.List.{length-take-le}
use Rattle.chunk_memory.proofs.SizeLemmas.{step-fits, step_size-whole, chunk_size-whole}
use Rattle.chunk_memory.specs.Ports.{CostsAtMost, Counts, IfExact, PortTakes}
use Rattle.chunk_memory.specs.Transactions.{step_size, chunk_size}
use Rattle.std.specs.Result.{result_err}
use Rattle.std.proofs.lemmas.Result.{err_from_is_err_and}
use Rattle.chunk_memory.proofs.TakeLemmas.{takes-as}
use Rattle.chunk_memory.specs.declared.stops.PortStop.{PortStop}
use Rattle.chunk_memory.proofs.chunked.Chunked.read_whole.Goals as goal

pub returns-in_err-read_chunk-clause-turns : goal.returns-in_err-read_chunk-clause-turns
returns-in_err-read_chunk-clause-turns g c =
    let P = g.P.ChunkPort in
    let same : P.told c.args.self.now ≡ P.told c.self.inside.port = cc in
    let counts : P.counts c.args.self.now ≡ P.counts c.self.inside.port = cc in
    let count : ℕ = length c.args.into.now in
    let size : ℕ = c.min-size.result in
    let size_is : size ≡ min (count / P.unit * P.unit) P.most =
    c.min-size.ensures ∙ ap (λ (u : ℕ). min (count / u * u) c.largest-largest.result) c.align-unit.ensures.value ∙ ap (λ (m : ℕ). min (count / P.unit * P.unit) m) c.largest-largest.ensures.value in
    let fits = step-fits P.unit P.most c.args.at count c.align-unit.ensures.sizes c.requires.some in
    let step : step_size P.unit P.most c.args.at count ≡ size = step_size-whole P.unit P.most c.args.at count c.requires.whole ∙ sym size_is in
    let long : length (take size c.args.into.now) ≡ chunk_size P.unit P.most c.args.at count =
    length-take-le size c.args.into.now (omega (arith, fits.within)) ∙ size_is ∙ sym (chunk_size-whole P.unit P.most c.args.at count c.requires.whole) in
    subst (λ (n : ℕ). CostsAtMost (P.told c.args.self.now) P.ready P.positive (P.counts c.args.self.now) (P.counts c.read_chunk.new.self) n) (ap P.cost (long))
    (subst (λ (k : Counts). CostsAtMost (P.told c.args.self.now) P.ready P.positive k (P.counts c.read_chunk.new.self) (P.cost (length (take size c.args.into.now)))) (sym counts)
    (subst (λ (o : Option P.State). CostsAtMost o P.ready P.positive (P.counts c.self.inside.port) (P.counts c.read_chunk.new.self) (P.cost (length (take size c.args.into.now)))) (sym same) c.in_err-read_chunk.ensures.turns))

pub returns-clause-turns : goal.returns-clause-turns
returns-clause-turns g c =
    let P = g.P.ChunkPort in
    let same : P.told c.args.self.now ≡ P.told c.self.inside.port = cc in
    let counts : P.counts c.args.self.now ≡ P.counts c.self.inside.port = cc in
    let count : ℕ = length c.args.into.now in
    let size : ℕ = c.min-size.result in
    let size_is : size ≡ min (count / P.unit * P.unit) P.most =
    c.min-size.ensures ∙ ap (λ (u : ℕ). min (count / u * u) c.largest-largest.result) c.align-unit.ensures.value ∙ ap (λ (m : ℕ). min (count / P.unit * P.unit) m) c.largest-largest.ensures.value in
    let fits = step-fits P.unit P.most c.args.at count c.align-unit.ensures.sizes c.requires.some in
    let step : step_size P.unit P.most c.args.at count ≡ size = step_size-whole P.unit P.most c.args.at count c.requires.whole ∙ sym size_is in
    let long : length (take size c.args.into.now) ≡ chunk_size P.unit P.most c.args.at count =
    length-take-le size c.args.into.now (omega (arith, fits.within)) ∙ size_is ∙ sym (chunk_size-whole P.unit P.most c.args.at count c.requires.whole) in
    subst (λ (n : ℕ). CostsAtMost (P.told c.args.self.now) P.ready P.positive (P.counts c.args.self.now) (P.counts c.read_chunk.new.self) n) (ap P.cost (long))
    (subst (λ (k : Counts). CostsAtMost (P.told c.args.self.now) P.ready P.positive k (P.counts c.read_chunk.new.self) (P.cost (length (take size c.args.into.now)))) (sym counts)
    (subst (λ (o : Option P.State). CostsAtMost o P.ready P.positive (P.counts c.self.inside.port) (P.counts c.read_chunk.new.self) (P.cost (length (take size c.args.into.now)))) (sym same) c.in_ok-read_chunk.ensures.turns))

pub returns-in_err-read_chunk-clause-takes : goal.returns-in_err-read_chunk-clause-takes
returns-in_err-read_chunk-clause-takes g c =
    let P = g.P.ChunkPort in
    let counts : P.counts c.args.self.now ≡ P.counts c.self.inside.port = cc in
    let count : ℕ = length c.args.into.now in
    let size : ℕ = c.min-size.result in
    let size_is : size ≡ min (count / P.unit * P.unit) P.most =
    c.min-size.ensures ∙ ap (λ (u : ℕ). min (count / u * u) c.largest-largest.result) c.align-unit.ensures.value ∙ ap (λ (m : ℕ). min (count / P.unit * P.unit) m) c.largest-largest.ensures.value in
    let fits = step-fits P.unit P.most c.args.at count c.align-unit.ensures.sizes c.requires.some in
    let step : step_size P.unit P.most c.args.at count ≡ size = step_size-whole P.unit P.most c.args.at count c.requires.whole ∙ sym size_is in
    let long : length (take size c.args.into.now) ≡ chunk_size P.unit P.most c.args.at count =
    length-take-le size c.args.into.now (omega (arith, fits.within)) ∙ size_is ∙ sym (chunk_size-whole P.unit P.most c.args.at count c.requires.whole) in
    let stop : PortStop = c.in_err-read_chunk.field-0.0 in
    let failed = err_from_is_err_and c.from_residual.result c.from_residual.ensures.1 in
    subst (λ (r : Result ℕ PortStop). IfExact P.exact (λ (turns : ℕ → ℕ). PortTakes (turns (chunk_size P.unit P.most c.args.at count)) (P.counts c.args.self.now) (P.counts c.read_chunk.new.self) (result_err r))) (sym (failed.1 ∙ ap Err failed.2))
    (takes-as P.exact (λ (turns : ℕ → ℕ). turns (length (take size c.args.into.now))) (λ (turns : ℕ → ℕ). turns (chunk_size P.unit P.most c.args.at count)) (P.counts c.self.inside.port) (P.counts c.args.self.now) (P.counts c.read_chunk.new.self) (Some stop)
    (λ turns. ap turns long) counts c.in_err-read_chunk.ensures.takes)

pub returns-clause-takes : goal.returns-clause-takes
returns-clause-takes g c =
    let P = g.P.ChunkPort in
    let counts : P.counts c.args.self.now ≡ P.counts c.self.inside.port = cc in
    let count : ℕ = length c.args.into.now in
    let size : ℕ = c.min-size.result in
    let size_is : size ≡ min (count / P.unit * P.unit) P.most =
    c.min-size.ensures ∙ ap (λ (u : ℕ). min (count / u * u) c.largest-largest.result) c.align-unit.ensures.value ∙ ap (λ (m : ℕ). min (count / P.unit * P.unit) m) c.largest-largest.ensures.value in
    let fits = step-fits P.unit P.most c.args.at count c.align-unit.ensures.sizes c.requires.some in
    let step : step_size P.unit P.most c.args.at count ≡ size = step_size-whole P.unit P.most c.args.at count c.requires.whole ∙ sym size_is in
    let long : length (take size c.args.into.now) ≡ chunk_size P.unit P.most c.args.at count =
    length-take-le size c.args.into.now (omega (arith, fits.within)) ∙ size_is ∙ sym (chunk_size-whole P.unit P.most c.args.at count c.requires.whole) in
    takes-as P.exact (λ (turns : ℕ → ℕ). turns (length (take size c.args.into.now))) (λ (turns : ℕ → ℕ). turns (chunk_size P.unit P.most c.args.at count)) (P.counts c.self.inside.port) (P.counts c.args.self.now) (P.counts c.read_chunk.new.self) None
    (λ turns. ap turns long) counts c.in_ok-read_chunk.ensures.takes
