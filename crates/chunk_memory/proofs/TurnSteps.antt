-- A port stays ready from step to step of a range, so that its transactions are counted.
use Rattle.std.proofs.Common.{ℕ, ◌-◌, ◌%◌, List, [], ◌∷◌, length, Ok, sym, subst}
use Rattle.fe_base.specs.Access.{Access}
use Rattle.chunk_memory.proofs.ReadSpelled.{step-asked}
use Rattle.chunk_memory.proofs.WriteSpelled.{whole-asked, part-asked, put-size}
use Rattle.chunk_memory.specs.Ports.{ArePortSizes}
use Rattle.chunk_memory.specs.Ranges.{IsMappedRange}
use Rattle.chunk_memory.specs.Reached.{OneReaches}
use Rattle.chunk_memory.specs.Steps.{WriteStep, ReadNext, WriteNext}
use Rattle.chunk_memory.specs.Transactions.{Chunk, ReadChunk, WriteChunk, Made}
use Rattle.chunk_memory.specs.declared.stops.PortStop.{PortStop}

module _ (unit most : ℕ) (sizes : ArePortSizes unit most) {S V : Type 0} (view : S → V) (valid ready positive : S → Type 0) (ran : V → ℕ → V → Type 0) (reached : V → List Access → V → Type 0)
    (one : S → Chunk → S → Type 0) (refused : S → Chunk → PortStop → S → Type 0) (one_reaches : OneReaches unit most view valid ready positive ran reached one) where
  -- ready, and every pause positive
  abbrev pub Calm : S → S → Type 0
  Calm a b = ready a → positive a → ready b × positive b

  pub read-calm : (at size : ℕ) (bytes : List ℕ) (a b : S) → valid a → IsMappedRange at (length bytes) → ReadNext one refused unit most at bytes (Ok size) a b → Calm a b
  read-calm at size bytes a b ok mapped here now pos =
      let reach = one_reaches a b (ReadChunk (at - at % unit) here.0) ok now (step-asked unit most at bytes (at - at % unit) here.0 sizes mapped here.1) here.2 in
      (reach.still_ready, reach.still_positive pos)

  step-calm : (at : ℕ) (bytes : List ℕ) (step : List Chunk) (a b : S) → valid a → IsMappedRange at (length bytes) → WriteStep unit most at bytes step → Made one a step b → Calm a b
  step-calm at bytes [] a b ok mapped first made now pos = absurd first
  step-calm at bytes (WriteChunk place put ∷ []) a b ok mapped first made now pos =
      let reach = one_reaches a made.0 (WriteChunk place put) ok now (whole-asked unit most sizes at bytes place put mapped first) made.1 in
      let P : S → Type 0 = λ s. ready s × positive s in
      subst P (sym made.2) (reach.still_ready, reach.still_positive pos)
  step-calm at bytes (WriteChunk place put ∷ other ∷ others) a b ok mapped first made now pos = absurd first
  step-calm at bytes (ReadChunk read_place old ∷ []) a b ok mapped first made now pos = absurd first
  step-calm at bytes (ReadChunk read_place old ∷ ReadChunk place put ∷ others) a b ok mapped first made now pos = absurd first
  step-calm at bytes (ReadChunk read_place old ∷ WriteChunk place put ∷ []) a b ok mapped first made now pos =
      let begin = one_reaches a made.0 (ReadChunk read_place old) ok now (part-asked unit most sizes at (length bytes) read_place (length old) mapped first.some first.read_place_is first.size) made.1 in
      let reach = one_reaches made.0 made.2.0 (WriteChunk place put) begin.still_valid begin.still_ready
      (part-asked unit most sizes at (length bytes) place (length put) mapped first.some first.place_is (put-size unit most sizes at bytes read_place old place put first)) made.2.1 in
      let P : S → Type 0 = λ s. ready s × positive s in
      subst P (sym made.2.2) (reach.still_ready, reach.still_positive (begin.still_positive pos))
  step-calm at bytes (ReadChunk read_place old ∷ WriteChunk place put ∷ other ∷ others) a b ok mapped first made now pos = absurd first

  pub write-calm : (at size : ℕ) (bytes : List ℕ) (a b : S) → valid a → IsMappedRange at (length bytes) → WriteNext one refused unit most at bytes (Ok size) a b → Calm a b
  write-calm at size bytes a b ok mapped here = step-calm at bytes here.0 a b ok mapped here.1 here.2
