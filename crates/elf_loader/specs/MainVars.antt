-- What a program's main finds on its stack: the count of its arguments, pointers to them, and their texts.
use Rattle.std.specs.Prelude.{ℕ, ◌+◌, ◌*◌, List, [], ◌∷◌, ◌++◌, length}
use Rattle.byteorder.specs.Endian.{little_bytes}

-- a number of 8 bytes
abbrev pub dword : ℕ → List ℕ
dword n = little_bytes 8 n

-- a pointer to each of the texts, the first of which stands at the address
abbrev pub pointers : ℕ → List (List ℕ) → List ℕ
pointers at [] = []
pointers at (text ∷ texts) = dword at ++ pointers (at + (length text + 1)) texts

-- the texts one after the other, each with a NUL behind it
abbrev pub texts_with_nuls : List (List ℕ) → List ℕ
texts_with_nuls [] = []
texts_with_nuls (text ∷ texts) = text ++ 0 ∷ [] ++ texts_with_nuls texts

-- the count, argv with its end, an environment of nothing but its end, and the texts behind them (riscv-isa-sim, fesvr,
-- getmainvars)
abbrev pub main_vars_text : List (List ℕ) → ℕ → List ℕ
main_vars_text args base =
    dword (length args) ++ pointers (base + 8 * (length args + 3)) args ++ dword 0 ++ dword 0 ++ texts_with_nuls args
