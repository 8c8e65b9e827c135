use Rattle.chunk_memory.specs.Ports.{Counts, IfExact, PortTakes}
use Rattle.std.proofs.Common.{◌≡◌, ℕ, ◌+◌, ◌-◌, ◌%◌, min, List, ◌++◌, length, take, drop, length-take, length-drop, Option, Ok, refl, sym, ap, subst, ◌∙◌, arith, [], ◌∷◌, Some, None, Result, Err}
use Rattle.fe_base.specs.Wires.{OnTold}
use Rattle.chunk_memory.proofs.SizeLemmas.{step_size-part, chunk_size-part, step-fits, unit-bounds}
use Rattle.chunk_memory.proofs.StepLemmas.{read-step}
use Rattle.chunk_memory.proofs.ToldLemmas.{told-as}
use Rattle.chunk_memory.specs.Steps.{ReadNext}
use Rattle.chunk_memory.specs.Transactions.{ReadChunk, step_size, chunk_size}
use Rattle.std.specs.Result.{result_err}
use Rattle.std.proofs.lemmas.Result.{err_from_is_err_and}
use Rattle.chunk_memory.proofs.TakeLemmas.{takes-as}
use Rattle.chunk_memory.specs.declared.stops.PortStop.{PortStop}
use Rattle.chunk_memory.proofs.chunked.Chunked.read_part.Goals as goal

pub returns-clause-told : goal.returns-clause-told
returns-clause-told g c =
    let P = g.P.ChunkPort in
    let same : P.told c.args.self.now ≡ P.told c.self.inside.port = cc in
    let at : ℕ = c.args.at in
    let into : List ℕ = c.args.into.now in
    let count : ℕ = length into in
    let unit : ℕ = c.align-unit.result in
    let unit_is : unit ≡ P.unit = c.align-unit.ensures.value in
    let sizes = c.align-unit.ensures.sizes in
    let bounds = unit-bounds P.unit P.most sizes in
    let got : List ℕ = c.read_chunk.new.into in
    let front : List ℕ = c.copy_from_slice.new.self in
    let size : ℕ = c.min-size.result in
    let size_is : size ≡ step_size P.unit P.most at count =
    c.min-size.ensures ∙ ap (λ (u : ℕ). min count (u - at % u)) unit_is ∙ sym (step_size-part P.unit P.most at count c.requires.part) in
    let fits = step-fits P.unit P.most at count sizes c.requires.some in
    let within = fits.within in
    let front_size : length front ≡ size = omega (arith, c.copy_from_slice.ensures.len, length-take size into) in
    let got_size : length got ≡ chunk_size P.unit P.most at count = c.read_chunk.auto.into ∙ omega (arith, length-take {A = ℕ}) ∙ sym (chunk_size-part P.unit P.most at count c.requires.part) in
    let between : at % unit + size - at % unit ≡ size = omega arith in
    let front_is : front ≡ take size (drop (at % P.unit) got) =
    c.copy_from_slice.ensures.after ∙ ap (λ (n : ℕ). take n (drop (at % unit) got)) between ∙ ap (λ (u : ℕ). take size (drop (at % u) got)) unit_is in
    subst (λ (o : Option P.State). OnTold o (P.told c.read_chunk.new.self) (ReadNext P.one P.refused P.unit P.most at (front ++ drop size into) (Ok size))) (sym same)
    (told-as (P.told c.self.inside.port) (P.told c.read_chunk.new.self) (λ a b. P.one a (ReadChunk (at - at % unit) got) b) (ReadNext P.one P.refused P.unit P.most at (front ++ drop size into) (Ok size))
    (λ a b made. (
      got,
      read-step P.unit P.most at count size front (drop size into) got (at - at % P.unit) c.requires.some size_is front_size (length-drop size into) (omega arith) refl got_size front_is,
      subst (λ (u : ℕ). P.one a (ReadChunk (at - at % u) got) b) unit_is made,
    ))
    c.in_ok-read_chunk.ensures.told)

pub returns-in_err-read_chunk-clause-turns : goal.returns-in_err-read_chunk-clause-turns
returns-in_err-read_chunk-clause-turns g c state told now pos =
    let P = g.P.ChunkPort in
    let same : P.told c.args.self.now ≡ P.told c.self.inside.port = cc in
    let counts : P.counts c.args.self.now ≡ P.counts c.self.inside.port = cc in
    let count : ℕ = length c.args.into.now in
    let unit : ℕ = c.align-unit.result in
    let bounds = unit-bounds P.unit P.most c.align-unit.ensures.sizes in
    let zeros : List ℕ = 0 ∷ 0 ∷ 0 ∷ 0 ∷ 0 ∷ 0 ∷ 0 ∷ 0 ∷ [] in
    let eight : length zeros ≡ 8 = refl in
    let buffer : List ℕ = take unit zeros in
    let long : length buffer ≡ P.unit = omega (arith, length-take unit zeros, c.align-unit.ensures.value) in
    let cost : P.cost (length buffer) ≡ P.cost P.unit = ap P.cost long in
    let here : P.told c.self.inside.port ≡ Some state = sym same ∙ told in
    let left : (P.counts c.args.self.now).left ≡ (P.counts c.self.inside.port).left = ap (λ (k : Counts). k.left) counts in
    let whole : P.cost (chunk_size P.unit P.most c.args.at count) ≡ P.cost P.unit = ap P.cost (chunk_size-part P.unit P.most c.args.at count c.requires.part) in
    omega (arith, c.in_err-read_chunk.ensures.turns state here now pos, cost, whole, left)

pub returns-clause-turns : goal.returns-clause-turns
returns-clause-turns g c state told now pos =
    let P = g.P.ChunkPort in
    let same : P.told c.args.self.now ≡ P.told c.self.inside.port = cc in
    let counts : P.counts c.args.self.now ≡ P.counts c.self.inside.port = cc in
    let count : ℕ = length c.args.into.now in
    let unit : ℕ = c.align-unit.result in
    let bounds = unit-bounds P.unit P.most c.align-unit.ensures.sizes in
    let zeros : List ℕ = 0 ∷ 0 ∷ 0 ∷ 0 ∷ 0 ∷ 0 ∷ 0 ∷ 0 ∷ [] in
    let eight : length zeros ≡ 8 = refl in
    let buffer : List ℕ = take unit zeros in
    let long : length buffer ≡ P.unit = omega (arith, length-take unit zeros, c.align-unit.ensures.value) in
    let cost : P.cost (length buffer) ≡ P.cost P.unit = ap P.cost long in
    let here : P.told c.self.inside.port ≡ Some state = sym same ∙ told in
    let left : (P.counts c.args.self.now).left ≡ (P.counts c.self.inside.port).left = ap (λ (k : Counts). k.left) counts in
    let whole : P.cost (chunk_size P.unit P.most c.args.at count) ≡ P.cost P.unit = ap P.cost (chunk_size-part P.unit P.most c.args.at count c.requires.part) in
    omega (arith, c.in_ok-read_chunk.ensures.turns state here now pos, cost, whole, left)

pub returns-in_err-read_chunk-clause-takes : goal.returns-in_err-read_chunk-clause-takes
returns-in_err-read_chunk-clause-takes g c =
    let P = g.P.ChunkPort in
    let counts : P.counts c.args.self.now ≡ P.counts c.self.inside.port = cc in
    let count : ℕ = length c.args.into.now in
    let unit : ℕ = c.align-unit.result in
    let bounds = unit-bounds P.unit P.most c.align-unit.ensures.sizes in
    let zeros : List ℕ = 0 ∷ 0 ∷ 0 ∷ 0 ∷ 0 ∷ 0 ∷ 0 ∷ 0 ∷ [] in
    let eight : length zeros ≡ 8 = refl in
    let buffer : List ℕ = take unit zeros in
    let long : length buffer ≡ P.unit = omega (arith, length-take unit zeros, c.align-unit.ensures.value) in
    let asked : length buffer ≡ chunk_size P.unit P.most c.args.at count = long ∙ sym (chunk_size-part P.unit P.most c.args.at count c.requires.part) in
    let stop : PortStop = c.in_err-read_chunk.field-0.0 in
    let failed = err_from_is_err_and c.from_residual.result c.from_residual.ensures.1 in
    subst (λ (r : Result ℕ PortStop). IfExact P.exact (λ (turns : ℕ → ℕ). PortTakes (turns (chunk_size P.unit P.most c.args.at count)) (P.counts c.args.self.now) (P.counts c.read_chunk.new.self) (result_err r))) (sym (failed.1 ∙ ap Err failed.2))
    (takes-as P.exact (λ (turns : ℕ → ℕ). turns (length buffer)) (λ (turns : ℕ → ℕ). turns (chunk_size P.unit P.most c.args.at count)) (P.counts c.self.inside.port) (P.counts c.args.self.now) (P.counts c.read_chunk.new.self) (Some stop)
    (λ turns. ap turns asked) counts c.in_err-read_chunk.ensures.takes)

pub returns-clause-takes : goal.returns-clause-takes
returns-clause-takes g c =
    let P = g.P.ChunkPort in
    let counts : P.counts c.args.self.now ≡ P.counts c.self.inside.port = cc in
    let count : ℕ = length c.args.into.now in
    let unit : ℕ = c.align-unit.result in
    let bounds = unit-bounds P.unit P.most c.align-unit.ensures.sizes in
    let zeros : List ℕ = 0 ∷ 0 ∷ 0 ∷ 0 ∷ 0 ∷ 0 ∷ 0 ∷ 0 ∷ [] in
    let eight : length zeros ≡ 8 = refl in
    let buffer : List ℕ = take unit zeros in
    let long : length buffer ≡ P.unit = omega (arith, length-take unit zeros, c.align-unit.ensures.value) in
    let asked : length buffer ≡ chunk_size P.unit P.most c.args.at count = long ∙ sym (chunk_size-part P.unit P.most c.args.at count c.requires.part) in
    takes-as P.exact (λ (turns : ℕ → ℕ). turns (length buffer)) (λ (turns : ℕ → ℕ). turns (chunk_size P.unit P.most c.args.at count)) (P.counts c.self.inside.port) (P.counts c.args.self.now) (P.counts c.read_chunk.new.self) None
    (λ turns. ap turns asked) counts c.in_ok-read_chunk.ensures.takes
