-- What one byte of input is.
use Rattle.std.specs.Prelude.{◌≡◌, ℕ, List, [], ◌∷◌, Option, Some, None, Result, Ok, Err}

-- a source with these bytes gives the first of them, and none exactly where there is none; a failure leaves it as it was
abbrev pub TakesByte : {E : Type 0} → List ℕ → Option (List ℕ) → Result (Option ℕ) E → Type 0
TakesByte left after (Ok None) = (left ≡ []) × (after ≡ Some [])
TakesByte left after (Ok (Some byte)) = (rest : List ℕ) × (left ≡ byte ∷ rest) × (after ≡ Some rest)
TakesByte left after (Err e) = after ≡ Some left
