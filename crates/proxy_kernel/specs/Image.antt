-- The code of instructions: a word for each, one after the other.
use Rattle.std.specs.Prelude.{◌≡◌, ℕ, ◌*◌, ◌<◌, List, drop, length, get_or, Some}
use Rattle.std.specs.Int.{w32, from_le_bytes}
use Rattle.rv_decode.specs.InsnTable.{insn_of}
use Rattle.rv_decode.specs.declared.instruction.Insn.{Insn}

-- the number that the four bytes at a place spell, the lowest first; places are counted in words
abbrev pub word_at : List ℕ → ℕ → ℕ
word_at bytes place = from_le_bytes w32 (drop (4 * place) bytes)

-- the word at each instruction's place decodes to it
abbrev pub HoldsInsns : List ℕ → List Insn → Type 0
HoldsInsns bytes insns = (place : ℕ) (other : Insn) → place < length insns → insn_of (word_at bytes place) ≡ Some (get_or insns place other)
