-- The names by which the system reads paths.
use Rattle.std.specs.Prelude.{ℕ, List, [], ◌∷◌}

-- the text of a path; the root's is empty, and its name is that of the working directory, `.`
abbrev pub name_of : List ℕ → List ℕ
name_of [] = 46 ∷ []
name_of (byte ∷ bytes) = byte ∷ bytes
