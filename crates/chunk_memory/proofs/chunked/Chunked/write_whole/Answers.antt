use Rattle.chunk_memory.specs.Turns.{write_step}
use Rattle.chunk_memory.proofs.TurnLemmas.{write_step-whole}
use Rattle.chunk_memory.specs.Ports.{CostsAtMost, Counts, IfExact, PortTakes}
use Rattle.std.proofs.lemmas.List.{length-take-le}
use Rattle.std.proofs.Common.{◌≡◌, ℕ, ◌*◌, ◌/◌, min, List, [], ◌∷◌, length, take, Option, Result, Ok, Err, refl, sym, ap, subst, ◌∙◌, arith, None, Some}
use Rattle.std.proofs.lemmas.Result.{err_from_is_err_and}
use Rattle.chunk_memory.proofs.SizeLemmas.{step_size-whole, step-fits, chunk_size-whole}
use Rattle.chunk_memory.proofs.StepLemmas.{whole-step, cut-first}
use Rattle.chunk_memory.proofs.ToldLemmas.{told-as}
use Rattle.fe_base.specs.Wires.{OnTold}
use Rattle.chunk_memory.specs.Steps.{WriteNext}
use Rattle.chunk_memory.specs.Transactions.{WriteChunk, step_size, chunk_size}
use Rattle.chunk_memory.specs.declared.stops.PortStop.{PortStop}
use Rattle.std.specs.Result.{result_err}
use Rattle.chunk_memory.proofs.TakeLemmas.{takes-as}
use Rattle.chunk_memory.proofs.chunked.Chunked.write_whole.Goals as goal

pub returns-in_err-write_chunk-clause-told : goal.returns-in_err-write_chunk-clause-told
returns-in_err-write_chunk-clause-told g c =
    let P = g.P.ChunkPort in
    let same : P.told c.args.self.now ≡ P.told c.self.inside.port = cc in
    let bytes : List ℕ = c.args.from.now in
    let put : List ℕ = take c.min-size.result bytes in
    let size : c.min-size.result ≡ step_size P.unit P.most c.args.at (length bytes) =
    c.min-size.ensures ∙ ap (λ (u : ℕ). min (length bytes / u * u) c.largest-largest.result) c.align-unit.ensures.value ∙ ap (λ (m : ℕ). min (length bytes / P.unit * P.unit) m) c.largest-largest.ensures.value
    ∙ sym (step_size-whole P.unit P.most c.args.at (length bytes) c.requires.whole) in
    let failed = err_from_is_err_and c.from_residual.result c.from_residual.ensures.1 in
    let stop : PortStop = c.in_err-write_chunk.field-0.0 in
    subst (λ (r : Result ℕ PortStop). OnTold (P.told c.args.self.now) (P.told c.write_chunk.new.self) (WriteNext P.one P.refused P.unit P.most c.args.at bytes r)) (sym (failed.1 ∙ ap Err failed.2))
    (subst (λ (o : Option P.State). OnTold o (P.told c.write_chunk.new.self) (WriteNext P.one P.refused P.unit P.most c.args.at bytes (Err stop))) (sym same)
    (told-as (P.told c.self.inside.port) (P.told c.write_chunk.new.self) (λ a b. P.refused a (WriteChunk c.args.at put) stop b) (WriteNext P.one P.refused P.unit P.most c.args.at bytes (Err stop))
    (λ a b cut. (WriteChunk c.args.at put ∷ [], [], whole-step P.unit P.most c.args.at bytes put c.requires.some c.requires.whole (ap (λ (n : ℕ). take n bytes) size), cut-first P.one P.refused (WriteChunk c.args.at put) stop a b cut))
    c.in_err-write_chunk.ensures.told))

pub returns-clause-told : goal.returns-clause-told
returns-clause-told g c =
    let P = g.P.ChunkPort in
    let same : P.told c.args.self.now ≡ P.told c.self.inside.port = cc in
    let bytes : List ℕ = c.args.from.now in
    let put : List ℕ = take c.min-size.result bytes in
    let size : c.min-size.result ≡ step_size P.unit P.most c.args.at (length bytes) =
    c.min-size.ensures ∙ ap (λ (u : ℕ). min (length bytes / u * u) c.largest-largest.result) c.align-unit.ensures.value ∙ ap (λ (m : ℕ). min (length bytes / P.unit * P.unit) m) c.largest-largest.ensures.value
    ∙ sym (step_size-whole P.unit P.most c.args.at (length bytes) c.requires.whole) in
    subst (λ (o : Option P.State). OnTold o (P.told c.write_chunk.new.self) (WriteNext P.one P.refused P.unit P.most c.args.at bytes (Ok c.min-size.result))) (sym same)
    (told-as (P.told c.self.inside.port) (P.told c.write_chunk.new.self) (λ a b. P.one a (WriteChunk c.args.at put) b) (WriteNext P.one P.refused P.unit P.most c.args.at bytes (Ok c.min-size.result))
    (λ a b made. (WriteChunk c.args.at put ∷ [], whole-step P.unit P.most c.args.at bytes put c.requires.some c.requires.whole (ap (λ (n : ℕ). take n bytes) size), (b, made, refl)))
    c.in_ok-write_chunk.ensures.told)

pub returns-in_err-write_chunk-clause-turns : goal.returns-in_err-write_chunk-clause-turns
returns-in_err-write_chunk-clause-turns g c =
    let P = g.P.ChunkPort in
    let same : P.told c.args.self.now ≡ P.told c.self.inside.port = cc in
    let counts : P.counts c.args.self.now ≡ P.counts c.self.inside.port = cc in
    let count : ℕ = length c.args.from.now in
    let size : ℕ = c.min-size.result in
    let size_is : size ≡ min (count / P.unit * P.unit) P.most =
    c.min-size.ensures ∙ ap (λ (u : ℕ). min (count / u * u) c.largest-largest.result) c.align-unit.ensures.value ∙ ap (λ (m : ℕ). min (count / P.unit * P.unit) m) c.largest-largest.ensures.value in
    let fits = step-fits P.unit P.most c.args.at count c.align-unit.ensures.sizes c.requires.some in
    let step : step_size P.unit P.most c.args.at count ≡ size = step_size-whole P.unit P.most c.args.at count c.requires.whole ∙ sym size_is in
    let long : length (take size c.args.from.now) ≡ chunk_size P.unit P.most c.args.at count =
    length-take-le size c.args.from.now (omega (arith, fits.within)) ∙ size_is ∙ sym (chunk_size-whole P.unit P.most c.args.at count c.requires.whole) in
    let cost : P.cost (length (take size c.args.from.now)) ≡ write_step P.cost P.unit P.most c.args.at count =
    ap P.cost long ∙ sym (write_step-whole P.cost P.unit P.most c.args.at count c.requires.whole) in
    subst (λ (n : ℕ). CostsAtMost (P.told c.args.self.now) P.ready P.positive (P.counts c.args.self.now) (P.counts c.write_chunk.new.self) n) cost
    (subst (λ (k : Counts). CostsAtMost (P.told c.args.self.now) P.ready P.positive k (P.counts c.write_chunk.new.self) (P.cost (length (take size c.args.from.now)))) (sym counts)
    (subst (λ (o : Option P.State). CostsAtMost o P.ready P.positive (P.counts c.self.inside.port) (P.counts c.write_chunk.new.self) (P.cost (length (take size c.args.from.now)))) (sym same) c.in_err-write_chunk.ensures.turns))

pub returns-clause-turns : goal.returns-clause-turns
returns-clause-turns g c =
    let P = g.P.ChunkPort in
    let same : P.told c.args.self.now ≡ P.told c.self.inside.port = cc in
    let counts : P.counts c.args.self.now ≡ P.counts c.self.inside.port = cc in
    let count : ℕ = length c.args.from.now in
    let size : ℕ = c.min-size.result in
    let size_is : size ≡ min (count / P.unit * P.unit) P.most =
    c.min-size.ensures ∙ ap (λ (u : ℕ). min (count / u * u) c.largest-largest.result) c.align-unit.ensures.value ∙ ap (λ (m : ℕ). min (count / P.unit * P.unit) m) c.largest-largest.ensures.value in
    let fits = step-fits P.unit P.most c.args.at count c.align-unit.ensures.sizes c.requires.some in
    let step : step_size P.unit P.most c.args.at count ≡ size = step_size-whole P.unit P.most c.args.at count c.requires.whole ∙ sym size_is in
    let long : length (take size c.args.from.now) ≡ chunk_size P.unit P.most c.args.at count =
    length-take-le size c.args.from.now (omega (arith, fits.within)) ∙ size_is ∙ sym (chunk_size-whole P.unit P.most c.args.at count c.requires.whole) in
    let cost : P.cost (length (take size c.args.from.now)) ≡ write_step P.cost P.unit P.most c.args.at count =
    ap P.cost long ∙ sym (write_step-whole P.cost P.unit P.most c.args.at count c.requires.whole) in
    subst (λ (n : ℕ). CostsAtMost (P.told c.args.self.now) P.ready P.positive (P.counts c.args.self.now) (P.counts c.write_chunk.new.self) n) cost
    (subst (λ (k : Counts). CostsAtMost (P.told c.args.self.now) P.ready P.positive k (P.counts c.write_chunk.new.self) (P.cost (length (take size c.args.from.now)))) (sym counts)
    (subst (λ (o : Option P.State). CostsAtMost o P.ready P.positive (P.counts c.self.inside.port) (P.counts c.write_chunk.new.self) (P.cost (length (take size c.args.from.now)))) (sym same) c.in_ok-write_chunk.ensures.turns))

pub returns-in_err-write_chunk-clause-takes : goal.returns-in_err-write_chunk-clause-takes
returns-in_err-write_chunk-clause-takes g c =
    let P = g.P.ChunkPort in
    let counts : P.counts c.args.self.now ≡ P.counts c.self.inside.port = cc in
    let count : ℕ = length c.args.from.now in
    let size : ℕ = c.min-size.result in
    let size_is : size ≡ min (count / P.unit * P.unit) P.most =
    c.min-size.ensures ∙ ap (λ (u : ℕ). min (count / u * u) c.largest-largest.result) c.align-unit.ensures.value ∙ ap (λ (m : ℕ). min (count / P.unit * P.unit) m) c.largest-largest.ensures.value in
    let fits = step-fits P.unit P.most c.args.at count c.align-unit.ensures.sizes c.requires.some in
    let step : step_size P.unit P.most c.args.at count ≡ size = step_size-whole P.unit P.most c.args.at count c.requires.whole ∙ sym size_is in
    let long : length (take size c.args.from.now) ≡ chunk_size P.unit P.most c.args.at count =
    length-take-le size c.args.from.now (omega (arith, fits.within)) ∙ size_is ∙ sym (chunk_size-whole P.unit P.most c.args.at count c.requires.whole) in
    let stop : PortStop = c.in_err-write_chunk.field-0.0 in
    let failed = err_from_is_err_and c.from_residual.result c.from_residual.ensures.1 in
    subst (λ (r : Result ℕ PortStop). IfExact P.exact (λ (turns : ℕ → ℕ). PortTakes (write_step turns P.unit P.most c.args.at count) (P.counts c.args.self.now) (P.counts c.write_chunk.new.self) (result_err r))) (sym (failed.1 ∙ ap Err failed.2))
    (takes-as P.exact (λ (turns : ℕ → ℕ). turns (length (take size c.args.from.now))) (λ (turns : ℕ → ℕ). write_step turns P.unit P.most c.args.at count) (P.counts c.self.inside.port) (P.counts c.args.self.now) (P.counts c.write_chunk.new.self) (Some stop)
    (λ turns. ap turns long ∙ sym (write_step-whole turns P.unit P.most c.args.at count c.requires.whole)) counts c.in_err-write_chunk.ensures.takes)

pub returns-clause-takes : goal.returns-clause-takes
returns-clause-takes g c =
    let P = g.P.ChunkPort in
    let counts : P.counts c.args.self.now ≡ P.counts c.self.inside.port = cc in
    let count : ℕ = length c.args.from.now in
    let size : ℕ = c.min-size.result in
    let size_is : size ≡ min (count / P.unit * P.unit) P.most =
    c.min-size.ensures ∙ ap (λ (u : ℕ). min (count / u * u) c.largest-largest.result) c.align-unit.ensures.value ∙ ap (λ (m : ℕ). min (count / P.unit * P.unit) m) c.largest-largest.ensures.value in
    let fits = step-fits P.unit P.most c.args.at count c.align-unit.ensures.sizes c.requires.some in
    let step : step_size P.unit P.most c.args.at count ≡ size = step_size-whole P.unit P.most c.args.at count c.requires.whole ∙ sym size_is in
    let long : length (take size c.args.from.now) ≡ chunk_size P.unit P.most c.args.at count =
    length-take-le size c.args.from.now (omega (arith, fits.within)) ∙ size_is ∙ sym (chunk_size-whole P.unit P.most c.args.at count c.requires.whole) in
    takes-as P.exact (λ (turns : ℕ → ℕ). turns (length (take size c.args.from.now))) (λ (turns : ℕ → ℕ). write_step turns P.unit P.most c.args.at count) (P.counts c.self.inside.port) (P.counts c.args.self.now) (P.counts c.write_chunk.new.self) None
    (λ turns. ap turns long ∙ sym (write_step-whole turns P.unit P.most c.args.at count c.requires.whole)) counts c.in_ok-write_chunk.ensures.takes
