-- The list of headers that stand in a file one after the other.
use Rattle.std.proofs.Common.{◌≡◌, ◌∙◌, ℕ, zero, suc, ◌+◌, ◌*◌, ◌<◌, List, length, Some, refl, ap, arith}
use Rattle.std.specs.Prelude.{slice_get}
use Rattle.elf_loader.specs.ProgramHeader.{header_at, headers_from}

pub length-headers_from : (file : List ℕ) (place count : ℕ) → length (headers_from file place count) ≡ count
length-headers_from file place zero = refl
length-headers_from file place (suc count) = let rest = length-headers_from file (place + 56) count in omega arith

pub slice_get-headers_from : (file : List ℕ) (place count i : ℕ) → i < count
    → slice_get (headers_from file place count) i ≡ Some (header_at (place + 56 * i) file)
slice_get-headers_from file place zero i h = absurd (omega arith)
slice_get-headers_from file place (suc count) zero h =
    let e : place ≡ place + 56 * 0 = omega arith in ap (λ at. Some (header_at at file)) e
slice_get-headers_from file place (suc count) (suc i) h =
    let e : place + 56 + 56 * i ≡ place + 56 * suc i = omega arith in
    slice_get-headers_from file (place + 56) count i (omega arith) ∙ ap (λ at. Some (header_at at file)) e
