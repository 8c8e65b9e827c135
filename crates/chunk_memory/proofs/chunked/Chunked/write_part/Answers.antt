use Rattle.chunk_memory.specs.Turns.{write_step}
use Rattle.chunk_memory.proofs.TurnLemmas.{write_step-part}
use Rattle.chunk_memory.specs.Ports.{Counts, IsChunk, IfExact, PortTakes}
use Rattle.std.proofs.Common.{◌≡◌, ℕ, ◌+◌, ◌-◌, ◌%◌, min, List, [], ◌∷◌, length, take, length-take, Option, Result, Ok, Err, refl, sym, ap, subst, ◌∙◌, arith, Some, None, ◌≤◌}
use Rattle.std.proofs.lemmas.Result.{err_from_is_err_and}
use Rattle.fe_base.specs.Wires.{OnTold}
use Rattle.guest_memory.specs.Memory.{with_part}
use Rattle.chunk_memory.proofs.SizeLemmas.{step_size-part, unit-bounds, chunk-part}
use Rattle.chunk_memory.proofs.StepLemmas.{part-step, cut-first, cut-behind}
use Rattle.chunk_memory.proofs.ToldLemmas.{told-as, told-then, told-next, if-told}
use Rattle.chunk_memory.specs.Steps.{WriteNext}
use Rattle.chunk_memory.specs.Transactions.{ReadChunk, WriteChunk, step_size}
use Rattle.chunk_memory.specs.declared.stops.PortStop.{PortStop}
use Rattle.std.specs.Result.{result_err}
use Rattle.chunk_memory.proofs.TakeLemmas.{takes-as, takes-less, takes-then, exact-as, exact-then}
use Rattle.chunk_memory.proofs.chunked.Chunked.write_part.Goals as goal

pub returns-in_err-read_chunk-clause-told : goal.returns-in_err-read_chunk-clause-told
returns-in_err-read_chunk-clause-told g c =
    let P = g.P.ChunkPort in
    let same : P.told c.args.self.now ≡ P.told c.self.inside.port = cc in
    let at : ℕ = c.args.at in
    let bytes : List ℕ = c.args.from.now in
    let unit : ℕ = c.align-unit.result in
    let unit_is : unit ≡ P.unit = c.align-unit.ensures.value in
    let bounds = unit-bounds P.unit P.most c.align-unit.ensures.sizes in
    let old : List ℕ = c.read_chunk.new.into in
    let old_size : length old ≡ P.unit = c.read_chunk.auto.into ∙ omega (arith, length-take {A = ℕ}) in
    let stop : PortStop = c.in_err-read_chunk.field-0.0 in
    let place : ℕ = at - at % P.unit in
    let put : List ℕ = with_part old (at % P.unit) (take (step_size P.unit P.most at (length bytes)) bytes) in
    let failed = err_from_is_err_and c.from_residual.result c.from_residual.ensures.1 in
    subst (λ (r : Result ℕ PortStop). OnTold (P.told c.args.self.now) (P.told c.read_chunk.new.self) (WriteNext P.one P.refused P.unit P.most at bytes r)) (sym (failed.1 ∙ ap Err failed.2))
    (subst (λ (o : Option P.State). OnTold o (P.told c.read_chunk.new.self) (WriteNext P.one P.refused P.unit P.most at bytes (Err stop))) (sym same)
    (told-as (P.told c.self.inside.port) (P.told c.read_chunk.new.self) (λ a b. P.refused a (ReadChunk (at - at % unit) old) stop b) (WriteNext P.one P.refused P.unit P.most at bytes (Err stop))
    (λ a b cut. (
      ReadChunk place old ∷ [],
      WriteChunk place put ∷ [],
      part-step P.unit P.most at bytes old c.requires.some c.requires.part old_size,
      cut-first P.one P.refused (ReadChunk place old) stop a b (subst (λ (u : ℕ). P.refused a (ReadChunk (at - at % u) old) stop b) unit_is cut),
    ))
    c.in_err-read_chunk.ensures.told))

pub returns-in_err-write_chunk-clause-told : goal.returns-in_err-write_chunk-clause-told
returns-in_err-write_chunk-clause-told g c =
    let P = g.P.ChunkPort in
    let same : P.told c.args.self.now ≡ P.told c.self.inside.port = cc in
    let at : ℕ = c.args.at in
    let bytes : List ℕ = c.args.from.now in
    let unit : ℕ = c.align-unit.result in
    let unit_is : unit ≡ P.unit = c.align-unit.ensures.value in
    let bounds = unit-bounds P.unit P.most c.align-unit.ensures.sizes in
    let old : List ℕ = c.read_chunk.new.into in
    let old_size : length old ≡ P.unit = c.read_chunk.auto.into ∙ omega (arith, length-take {A = ℕ}) in
    let size : ℕ = c.min-size.result in
    let size_is : size ≡ step_size P.unit P.most at (length bytes) =
    c.min-size.ensures ∙ ap (λ (u : ℕ). min (length bytes) (u - at % u)) unit_is ∙ sym (step_size-part P.unit P.most at (length bytes) c.requires.part) in
    let stop : PortStop = c.in_err-write_chunk.field-0.0 in
    let place : ℕ = at - at % P.unit in
    let put : List ℕ = with_part old (at % P.unit) (take (step_size P.unit P.most at (length bytes)) bytes) in
    let put_is : c.put_part.new.whole ≡ put =
    c.put_part.ensures ∙ ap (λ (u : ℕ). with_part old (at % u) (take size bytes)) unit_is ∙ ap (λ (n : ℕ). with_part old (at % P.unit) (take n bytes)) size_is in
    let failed = err_from_is_err_and c.from_residual-in_err-write_chunk.result c.from_residual-in_err-write_chunk.ensures.1 in
    subst (λ (r : Result ℕ PortStop). OnTold (P.told c.args.self.now) (P.told c.write_chunk.new.self) (WriteNext P.one P.refused P.unit P.most at bytes r)) (sym (failed.1 ∙ ap Err failed.2))
    (subst (λ (o : Option P.State). OnTold o (P.told c.write_chunk.new.self) (WriteNext P.one P.refused P.unit P.most at bytes (Err stop))) (sym same)
    (told-then (P.told c.self.inside.port) (P.told c.read_chunk.new.self) (P.told c.write_chunk.new.self)
    (λ a m. P.one a (ReadChunk (at - at % unit) old) m) (λ m b. P.refused m (WriteChunk (at - at % unit) c.put_part.new.whole) stop b) (WriteNext P.one P.refused P.unit P.most at bytes (Err stop))
    (λ a m b made cut. (
      ReadChunk place old ∷ WriteChunk place put ∷ [],
      [],
      part-step P.unit P.most at bytes old c.requires.some c.requires.part old_size,
      cut-behind P.one P.refused (ReadChunk place old ∷ []) (WriteChunk place put ∷ []) stop a m b (m, subst (λ (u : ℕ). P.one a (ReadChunk (at - at % u) old) m) unit_is made, refl)
          (cut-first P.one P.refused (WriteChunk place put) stop m b
          (subst (λ (u : ℕ). P.refused m (WriteChunk (at - at % u) put) stop b) unit_is (subst (λ (l : List ℕ). P.refused m (WriteChunk (at - at % unit) l) stop b) put_is cut))),
    ))
    c.in_ok-read_chunk.ensures.told c.in_err-write_chunk.ensures.told))

pub returns-clause-told : goal.returns-clause-told
returns-clause-told g c =
    let P = g.P.ChunkPort in
    let same : P.told c.args.self.now ≡ P.told c.self.inside.port = cc in
    let at : ℕ = c.args.at in
    let bytes : List ℕ = c.args.from.now in
    let unit : ℕ = c.align-unit.result in
    let unit_is : unit ≡ P.unit = c.align-unit.ensures.value in
    let bounds = unit-bounds P.unit P.most c.align-unit.ensures.sizes in
    let old : List ℕ = c.read_chunk.new.into in
    let old_size : length old ≡ P.unit = c.read_chunk.auto.into ∙ omega (arith, length-take {A = ℕ}) in
    let size : ℕ = c.min-size.result in
    let size_is : size ≡ step_size P.unit P.most at (length bytes) =
    c.min-size.ensures ∙ ap (λ (u : ℕ). min (length bytes) (u - at % u)) unit_is ∙ sym (step_size-part P.unit P.most at (length bytes) c.requires.part) in
    let place : ℕ = at - at % P.unit in
    let put : List ℕ = with_part old (at % P.unit) (take (step_size P.unit P.most at (length bytes)) bytes) in
    let put_is : c.put_part.new.whole ≡ put =
    c.put_part.ensures ∙ ap (λ (u : ℕ). with_part old (at % u) (take size bytes)) unit_is ∙ ap (λ (n : ℕ). with_part old (at % P.unit) (take n bytes)) size_is in
    subst (λ (o : Option P.State). OnTold o (P.told c.write_chunk.new.self) (WriteNext P.one P.refused P.unit P.most at bytes (Ok size))) (sym same)
    (told-then (P.told c.self.inside.port) (P.told c.read_chunk.new.self) (P.told c.write_chunk.new.self)
    (λ a m. P.one a (ReadChunk (at - at % unit) old) m) (λ m b. P.one m (WriteChunk (at - at % unit) c.put_part.new.whole) b) (WriteNext P.one P.refused P.unit P.most at bytes (Ok size))
    (λ a m b made then. (
      ReadChunk place old ∷ WriteChunk place put ∷ [],
      part-step P.unit P.most at bytes old c.requires.some c.requires.part old_size,
      (
        m,
        subst (λ (u : ℕ). P.one a (ReadChunk (at - at % u) old) m) unit_is made,
        (b, subst (λ (u : ℕ). P.one m (WriteChunk (at - at % u) put) b) unit_is (subst (λ (l : List ℕ). P.one m (WriteChunk (at - at % unit) l) b) put_is then), refl),
      ),
    ))
    c.in_ok-read_chunk.ensures.told c.in_ok-write_chunk.ensures.told)

pub returns-in_err-read_chunk-clause-turns : goal.returns-in_err-read_chunk-clause-turns
returns-in_err-read_chunk-clause-turns g c state told now pos =
    let P = g.P.ChunkPort in
    let same : P.told c.args.self.now ≡ P.told c.self.inside.port = cc in
    let counts : P.counts c.args.self.now ≡ P.counts c.self.inside.port = cc in
    let count : ℕ = length c.args.from.now in
    let unit : ℕ = c.align-unit.result in
    let bounds = unit-bounds P.unit P.most c.align-unit.ensures.sizes in
    let zeros : List ℕ = 0 ∷ 0 ∷ 0 ∷ 0 ∷ 0 ∷ 0 ∷ 0 ∷ 0 ∷ [] in
    let eight : length zeros ≡ 8 = refl in
    let buffer : List ℕ = take unit zeros in
    let long : length buffer ≡ P.unit = omega (arith, length-take unit zeros, c.align-unit.ensures.value) in
    let cost : P.cost (length buffer) ≡ P.cost P.unit = ap P.cost long in
    let here : P.told c.self.inside.port ≡ Some state = sym same ∙ told in
    let left : (P.counts c.args.self.now).left ≡ (P.counts c.self.inside.port).left = ap (λ (k : Counts). k.left) counts in
    let step : write_step P.cost P.unit P.most c.args.at count ≡ P.cost P.unit + P.cost P.unit = write_step-part P.cost P.unit P.most c.args.at count c.requires.part in
    omega (arith, c.in_err-read_chunk.ensures.turns state here now pos, cost, step, left)

pub returns-in_err-write_chunk-clause-turns : goal.returns-in_err-write_chunk-clause-turns
returns-in_err-write_chunk-clause-turns g c state told now pos =
    let P = g.P.ChunkPort in
    let same : P.told c.args.self.now ≡ P.told c.self.inside.port = cc in
    let counts : P.counts c.args.self.now ≡ P.counts c.self.inside.port = cc in
    let count : ℕ = length c.args.from.now in
    let unit : ℕ = c.align-unit.result in
    let bounds = unit-bounds P.unit P.most c.align-unit.ensures.sizes in
    let zeros : List ℕ = 0 ∷ 0 ∷ 0 ∷ 0 ∷ 0 ∷ 0 ∷ 0 ∷ 0 ∷ [] in
    let eight : length zeros ≡ 8 = refl in
    let buffer : List ℕ = take unit zeros in
    let long : length buffer ≡ P.unit = omega (arith, length-take unit zeros, c.align-unit.ensures.value) in
    let cost : P.cost (length buffer) ≡ P.cost P.unit = ap P.cost long in
    let here : P.told c.self.inside.port ≡ Some state = sym same ∙ told in
    let left : (P.counts c.args.self.now).left ≡ (P.counts c.self.inside.port).left = ap (λ (k : Counts). k.left) counts in
    let step : write_step P.cost P.unit P.most c.args.at count ≡ P.cost P.unit + P.cost P.unit = write_step-part P.cost P.unit P.most c.args.at count c.requires.part in
    let laws = g.met.P.ChunkPort in
    let old : List ℕ = c.read_chunk.new.into in
    let old_size : length old ≡ P.unit = c.read_chunk.auto.into ∙ long in
    let place : ℕ = c.args.at - c.args.at % unit in
    let first = told-next (P.told c.self.inside.port) (P.told c.read_chunk.new.self) (λ a b. P.one a (ReadChunk place old) b) state here c.in_ok-read_chunk.ensures.told in
    let asked : IsChunk P.unit P.most place (length old) =
    subst (λ (n : ℕ). IsChunk P.unit P.most place n) (sym old_size) (subst (λ (u : ℕ). IsChunk P.unit P.most (c.args.at - c.args.at % u) P.unit) (sym c.align-unit.ensures.value) (chunk-part P.unit P.most c.args.at count c.align-unit.ensures.sizes c.requires.mapped c.requires.some)) in
    let ok = if-told (P.told c.args.self.now) P.valid state told (laws.tells_valid c.args.self.now c.requires.usable) in
    let reach = laws.one_reaches state first.state (ReadChunk place old) ok now asked first.holds in
    let h = c.in_err-write_chunk.ensures.turns first.state first.is reach.still_ready (reach.still_positive pos) in
    let put_size : length c.put_part.new.whole ≡ P.unit = c.put_part.auto.whole ∙ old_size in
    let cost_put : P.cost (length c.put_part.new.whole) ≡ P.cost P.unit = ap P.cost put_size in
    omega (arith, c.in_ok-read_chunk.ensures.turns state here now pos, h, cost, cost_put, step, left)

pub returns-clause-turns : goal.returns-clause-turns
returns-clause-turns g c state told now pos =
    let P = g.P.ChunkPort in
    let same : P.told c.args.self.now ≡ P.told c.self.inside.port = cc in
    let counts : P.counts c.args.self.now ≡ P.counts c.self.inside.port = cc in
    let count : ℕ = length c.args.from.now in
    let unit : ℕ = c.align-unit.result in
    let bounds = unit-bounds P.unit P.most c.align-unit.ensures.sizes in
    let zeros : List ℕ = 0 ∷ 0 ∷ 0 ∷ 0 ∷ 0 ∷ 0 ∷ 0 ∷ 0 ∷ [] in
    let eight : length zeros ≡ 8 = refl in
    let buffer : List ℕ = take unit zeros in
    let long : length buffer ≡ P.unit = omega (arith, length-take unit zeros, c.align-unit.ensures.value) in
    let cost : P.cost (length buffer) ≡ P.cost P.unit = ap P.cost long in
    let here : P.told c.self.inside.port ≡ Some state = sym same ∙ told in
    let left : (P.counts c.args.self.now).left ≡ (P.counts c.self.inside.port).left = ap (λ (k : Counts). k.left) counts in
    let step : write_step P.cost P.unit P.most c.args.at count ≡ P.cost P.unit + P.cost P.unit = write_step-part P.cost P.unit P.most c.args.at count c.requires.part in
    let laws = g.met.P.ChunkPort in
    let old : List ℕ = c.read_chunk.new.into in
    let old_size : length old ≡ P.unit = c.read_chunk.auto.into ∙ long in
    let place : ℕ = c.args.at - c.args.at % unit in
    let first = told-next (P.told c.self.inside.port) (P.told c.read_chunk.new.self) (λ a b. P.one a (ReadChunk place old) b) state here c.in_ok-read_chunk.ensures.told in
    let asked : IsChunk P.unit P.most place (length old) =
    subst (λ (n : ℕ). IsChunk P.unit P.most place n) (sym old_size) (subst (λ (u : ℕ). IsChunk P.unit P.most (c.args.at - c.args.at % u) P.unit) (sym c.align-unit.ensures.value) (chunk-part P.unit P.most c.args.at count c.align-unit.ensures.sizes c.requires.mapped c.requires.some)) in
    let ok = if-told (P.told c.args.self.now) P.valid state told (laws.tells_valid c.args.self.now c.requires.usable) in
    let reach = laws.one_reaches state first.state (ReadChunk place old) ok now asked first.holds in
    let h = c.in_ok-write_chunk.ensures.turns first.state first.is reach.still_ready (reach.still_positive pos) in
    let put_size : length c.put_part.new.whole ≡ P.unit = c.put_part.auto.whole ∙ old_size in
    let cost_put : P.cost (length c.put_part.new.whole) ≡ P.cost P.unit = ap P.cost put_size in
    omega (arith, c.in_ok-read_chunk.ensures.turns state here now pos, h, cost, cost_put, step, left)

pub returns-in_err-read_chunk-clause-takes : goal.returns-in_err-read_chunk-clause-takes
returns-in_err-read_chunk-clause-takes g c =
    let P = g.P.ChunkPort in
    let counts : P.counts c.args.self.now ≡ P.counts c.self.inside.port = cc in
    let count : ℕ = length c.args.from.now in
    let unit : ℕ = c.align-unit.result in
    let bounds = unit-bounds P.unit P.most c.align-unit.ensures.sizes in
    let zeros : List ℕ = 0 ∷ 0 ∷ 0 ∷ 0 ∷ 0 ∷ 0 ∷ 0 ∷ 0 ∷ [] in
    let eight : length zeros ≡ 8 = refl in
    let buffer : List ℕ = take unit zeros in
    let long : length buffer ≡ P.unit = omega (arith, length-take unit zeros, c.align-unit.ensures.value) in
    let stop : PortStop = c.in_err-read_chunk.field-0.0 in
    let failed = err_from_is_err_and c.from_residual.result c.from_residual.ensures.1 in
    let one = takes-as P.exact (λ (turns : ℕ → ℕ). turns (length buffer)) (λ (turns : ℕ → ℕ). turns P.unit) (P.counts c.self.inside.port) (P.counts c.args.self.now) (P.counts c.read_chunk.new.self) (Some stop) (λ turns. ap turns long) counts c.in_err-read_chunk.ensures.takes in
    subst (λ (r : Result ℕ PortStop). IfExact P.exact (λ (turns : ℕ → ℕ). PortTakes (write_step turns P.unit P.most c.args.at count) (P.counts c.args.self.now) (P.counts c.read_chunk.new.self) (result_err r))) (sym (failed.1 ∙ ap Err failed.2))
    (exact-as P.exact (λ (turns : ℕ → ℕ). PortTakes (turns P.unit) (P.counts c.args.self.now) (P.counts c.read_chunk.new.self) (Some stop)) (λ (turns : ℕ → ℕ). PortTakes (write_step turns P.unit P.most c.args.at count) (P.counts c.args.self.now) (P.counts c.read_chunk.new.self) (Some stop))
    (λ turns h.
    let less : turns P.unit ≤ write_step turns P.unit P.most c.args.at count = omega (arith, write_step-part turns P.unit P.most c.args.at count c.requires.part) in
    takes-less (turns P.unit) (write_step turns P.unit P.most c.args.at count) (P.counts c.args.self.now) (P.counts c.read_chunk.new.self) stop less h) one)

pub returns-in_err-write_chunk-clause-takes : goal.returns-in_err-write_chunk-clause-takes
returns-in_err-write_chunk-clause-takes g c =
    let P = g.P.ChunkPort in
    let counts : P.counts c.args.self.now ≡ P.counts c.self.inside.port = cc in
    let count : ℕ = length c.args.from.now in
    let unit : ℕ = c.align-unit.result in
    let bounds = unit-bounds P.unit P.most c.align-unit.ensures.sizes in
    let zeros : List ℕ = 0 ∷ 0 ∷ 0 ∷ 0 ∷ 0 ∷ 0 ∷ 0 ∷ 0 ∷ [] in
    let eight : length zeros ≡ 8 = refl in
    let buffer : List ℕ = take unit zeros in
    let long : length buffer ≡ P.unit = omega (arith, length-take unit zeros, c.align-unit.ensures.value) in
    let old : List ℕ = c.read_chunk.new.into in
    let old_size : length old ≡ P.unit = c.read_chunk.auto.into ∙ long in
    let stop : PortStop = c.in_err-write_chunk.field-0.0 in
    let failed = err_from_is_err_and c.from_residual-in_err-write_chunk.result c.from_residual-in_err-write_chunk.ensures.1 in
    let put_size : length c.put_part.new.whole ≡ P.unit = c.put_part.auto.whole ∙ old_size in
    let one = takes-as P.exact (λ (turns : ℕ → ℕ). turns (length buffer)) (λ (turns : ℕ → ℕ). turns P.unit) (P.counts c.self.inside.port) (P.counts c.args.self.now) (P.counts c.read_chunk.new.self) None (λ turns. ap turns long) counts c.in_ok-read_chunk.ensures.takes in
    let two = takes-as P.exact (λ (turns : ℕ → ℕ). turns (length c.put_part.new.whole)) (λ (turns : ℕ → ℕ). turns P.unit) (P.counts c.read_chunk.new.self) (P.counts c.read_chunk.new.self) (P.counts c.write_chunk.new.self) (Some stop) (λ turns. ap turns put_size) refl c.in_err-write_chunk.ensures.takes in
    subst (λ (r : Result ℕ PortStop). IfExact P.exact (λ (turns : ℕ → ℕ). PortTakes (write_step turns P.unit P.most c.args.at count) (P.counts c.args.self.now) (P.counts c.write_chunk.new.self) (result_err r))) (sym (failed.1 ∙ ap Err failed.2))
    (exact-then P.exact (λ (turns : ℕ → ℕ). PortTakes (turns P.unit) (P.counts c.args.self.now) (P.counts c.read_chunk.new.self) None) (λ (turns : ℕ → ℕ). PortTakes (turns P.unit) (P.counts c.read_chunk.new.self) (P.counts c.write_chunk.new.self) (Some stop)) (λ (turns : ℕ → ℕ). PortTakes (write_step turns P.unit P.most c.args.at count) (P.counts c.args.self.now) (P.counts c.write_chunk.new.self) (Some stop))
    (λ turns h k. subst (λ (n : ℕ). PortTakes n (P.counts c.args.self.now) (P.counts c.write_chunk.new.self) (Some stop)) (sym (write_step-part turns P.unit P.most c.args.at count c.requires.part)) (takes-then (turns P.unit) (turns P.unit) (P.counts c.args.self.now) (P.counts c.read_chunk.new.self) (P.counts c.write_chunk.new.self) (Some stop) h k)) one two)

pub returns-clause-takes : goal.returns-clause-takes
returns-clause-takes g c =
    let P = g.P.ChunkPort in
    let counts : P.counts c.args.self.now ≡ P.counts c.self.inside.port = cc in
    let count : ℕ = length c.args.from.now in
    let unit : ℕ = c.align-unit.result in
    let bounds = unit-bounds P.unit P.most c.align-unit.ensures.sizes in
    let zeros : List ℕ = 0 ∷ 0 ∷ 0 ∷ 0 ∷ 0 ∷ 0 ∷ 0 ∷ 0 ∷ [] in
    let eight : length zeros ≡ 8 = refl in
    let buffer : List ℕ = take unit zeros in
    let long : length buffer ≡ P.unit = omega (arith, length-take unit zeros, c.align-unit.ensures.value) in
    let old : List ℕ = c.read_chunk.new.into in
    let old_size : length old ≡ P.unit = c.read_chunk.auto.into ∙ long in
    let put_size : length c.put_part.new.whole ≡ P.unit = c.put_part.auto.whole ∙ old_size in
    let one = takes-as P.exact (λ (turns : ℕ → ℕ). turns (length buffer)) (λ (turns : ℕ → ℕ). turns P.unit) (P.counts c.self.inside.port) (P.counts c.args.self.now) (P.counts c.read_chunk.new.self) None (λ turns. ap turns long) counts c.in_ok-read_chunk.ensures.takes in
    let two = takes-as P.exact (λ (turns : ℕ → ℕ). turns (length c.put_part.new.whole)) (λ (turns : ℕ → ℕ). turns P.unit) (P.counts c.read_chunk.new.self) (P.counts c.read_chunk.new.self) (P.counts c.write_chunk.new.self) None (λ turns. ap turns put_size) refl c.in_ok-write_chunk.ensures.takes in
    (exact-then P.exact (λ (turns : ℕ → ℕ). PortTakes (turns P.unit) (P.counts c.args.self.now) (P.counts c.read_chunk.new.self) None) (λ (turns : ℕ → ℕ). PortTakes (turns P.unit) (P.counts c.read_chunk.new.self) (P.counts c.write_chunk.new.self) None) (λ (turns : ℕ → ℕ). PortTakes (write_step turns P.unit P.most c.args.at count) (P.counts c.args.self.now) (P.counts c.write_chunk.new.self) None)
    (λ turns h k. subst (λ (n : ℕ). PortTakes n (P.counts c.args.self.now) (P.counts c.write_chunk.new.self) None) (sym (write_step-part turns P.unit P.most c.args.at count c.requires.part)) (takes-then (turns P.unit) (turns P.unit) (P.counts c.args.self.now) (P.counts c.read_chunk.new.self) (P.counts c.write_chunk.new.self) None h k)) one two)
