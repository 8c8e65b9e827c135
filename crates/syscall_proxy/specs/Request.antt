-- The doublewords of a request.
use Rattle.std.specs.Prelude.{ℕ, zero, suc, List, [], ◌∷◌, drop}
use Rattle.byteorder.specs.Endian.{little_number}

-- so many doublewords that stand one behind another
abbrev pub doublewords : ℕ → List ℕ → List ℕ
doublewords zero bytes = []
doublewords (suc n) bytes = little_number 8 bytes ∷ doublewords n (drop 8 bytes)
