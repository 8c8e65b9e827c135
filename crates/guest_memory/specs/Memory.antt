-- Loads and stores of a list of bytes, the lowest byte first.
use Rattle.std.specs.Prelude.{ℕ, ◌+◌, ◌<◌, ◌==◌, ◌||◌, Bool, List, ◌++◌, length, take, drop, replicate, slice_index}
use Rattle.byteorder.specs.Endian.{little_number, little_bytes}

-- the number that so many bytes from a place on spell, little endian (Unprivileged ISA, 2.6)
unfoldable pub load : List ℕ → ℕ → ℕ → ℕ
load memory place width = little_number width (drop place memory)

-- the memory with the low bytes of a value from a place on, little endian, and its other bytes as they were (Unprivileged ISA, 2.6)
unfoldable pub store : List ℕ → ℕ → ℕ → ℕ → List ℕ
store memory place width value = take place memory ++ (little_bytes width value ++ drop (place + width) memory)

-- the memory with other bytes from a place on
abbrev pub with_part : List ℕ → ℕ → List ℕ → List ℕ
with_part memory place bytes = take place memory ++ (bytes ++ drop (place + length bytes) memory)

-- so many bytes, all zero; unfoldable, so that no proof counts them out
unfoldable pub zeros : ℕ → List ℕ
zeros size = replicate size 0

-- the widths of an access: a byte, a halfword, a word, a doubleword (Unprivileged ISA, 1.4)
abbrev pub is_width : ℕ → Bool
is_width width = width == 1 || (width == 2 || (width == 4 || width == 8))

-- each number of a list is a byte
abbrev pub AreBytes : List ℕ → Type 0
AreBytes bytes = (place : ℕ) → slice_index bytes place < 256
