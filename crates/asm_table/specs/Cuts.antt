-- A text in two parts, at a byte.
use Rattle.std.specs.Prelude.{ℕ, ◌==◌, if◌then◌else◌, List, [], ◌∷◌, Option, Some, None}

-- what stands before the first byte of this value, or all
abbrev pub before : ℕ → List ℕ → List ℕ
before stop [] = []
before stop (byte ∷ bytes) = if byte == stop then [] else byte ∷ before stop bytes

-- what stands behind the first byte of this value, if there is one
abbrev pub behind : ℕ → List ℕ → Option (List ℕ)
behind stop [] = None
behind stop (byte ∷ bytes) = if byte == stop then Some bytes else behind stop bytes
