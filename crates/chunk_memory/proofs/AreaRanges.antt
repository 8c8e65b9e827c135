-- Ranges of an area that nothing but stores changes.
use Rattle.std.proofs.Common.{◌≡◌, ◌⊎◌, ℕ, List, refl, arith}
use Rattle.fe_base.specs.Access.{Access}
use Rattle.chunk_memory.proofs.Stays.{read-stays, read-begun-stays, write-stays, write-begun-stays}
use Rattle.chunk_memory.specs.Ports.{ArePortSizes}
use Rattle.chunk_memory.specs.RangeLaws.{KeepsArea, KeepsRanges}

sizes-of : (unit : ℕ) → (unit ≡ 4) ⊎ (unit ≡ 8) → ArePortSizes unit 8
sizes-of unit is = record { unit_is = is; whole = refl; some = omega arith }

pub area_ranges : {V : Type 0} (ran : V → ℕ → V → Type 0) (touched : V → Access → V → Type 0) (start size : ℕ) (Has : List ℕ → V → Type 0)
    → KeepsArea ran touched start size Has → KeepsRanges ran touched start size Has
area_ranges ran touched start size Has k = record {
  read = λ cut at bytes area accesses v w has low high spelled path.
      read-stays ran touched start size k.even k.whole Has k.long k.are_bytes k.runs k.loads cut accesses area at bytes v w has low high spelled path;
  read_begun = λ cut at bytes area accesses more v w has low high spelled path.
      read-begun-stays ran touched start size k.even k.whole Has k.long k.are_bytes k.runs k.loads cut accesses more area at bytes v w has low high spelled path;
  written = λ unit cut at bytes area accesses v w is has low high spelled path.
      write-stays ran touched start size k.even k.whole Has k.long k.are_bytes k.runs k.loads unit 8 (sizes-of unit is) k.stores cut accesses area at bytes v w has low high spelled path;
  write_begun = λ unit cut at bytes area accesses more v w is has low high spelled path.
      write-begun-stays ran touched start size k.even k.whole Has k.long k.are_bytes k.runs k.loads unit 8 (sizes-of unit is) k.stores cut accesses more area at bytes v w has low high spelled path;
}
