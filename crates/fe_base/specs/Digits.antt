-- Numbers as hexadecimal digits.
use Rattle.std.specs.Prelude.{ℕ, zero, suc, ◌/◌, ◌%◌, false, List, [], ◌∷◌, ◌++◌}
use Rattle.std.specs.Fmt.{digit_glyph}

-- so many hexadecimal digits of a number, the lowest last, in lower case
unfoldable pub hexadecimal : ℕ → ℕ → List ℕ
hexadecimal zero number = []
hexadecimal (suc count) number = hexadecimal count (number / 16) ++ digit_glyph false (number % 16) ∷ []
