-- Bytes that spell instructions hold a word for each.
use Rattle.std.proofs.Common.{◌≡◌, ◌∙◌, ℕ, zero, suc, ◌*◌, ◌<◌, ◌^◌, List, [], ◌∷◌, ◌++◌, map, length, drop, ap, arith}
use Rattle.std.specs.Int.{w32, to_le_bytes, from_le_bytes}
use Rattle.std.proofs.lemmas.Nat.{from_le_bytes-to_le_bytes_4}
use Rattle.rv_decode.specs.InsnTable.{insn_of}
use Rattle.rv_decode.specs.declared.instruction.Insn.{Insn}
use Rattle.asm_items.specs.ItemMeaning.{Code, Part, Spells}
use Rattle.proxy_kernel.specs.Image.{HoldsInsns, word_at}

abbrev pub codes_of : List Insn → List Part
codes_of insns = map Code insns

first_word : (word : ℕ) (rest : List ℕ) → word < 2 ^ 32 → word_at (to_le_bytes w32 word ++ rest) 0 ≡ word
first_word word rest h = from_le_bytes-to_le_bytes_4 word h

later_word : (word : ℕ) (rest : List ℕ) (place : ℕ) → word_at (to_le_bytes w32 word ++ rest) (suc place) ≡ word_at rest place
later_word word rest place =
    let four : 4 * suc place ≡ suc (suc (suc (suc (4 * place)))) = omega arith in
    ap (λ (n : ℕ). from_le_bytes w32 (drop n (to_le_bytes w32 word ++ rest))) four

pub spelled_words : (insns : List Insn) (bytes : List ℕ) → Spells (codes_of insns) bytes → HoldsInsns bytes insns
spelled_words [] bytes s place other below = absurd (omega arith)
spelled_words (insn ∷ insns) bytes s zero other below =
    ap (λ (b : List ℕ). insn_of (word_at b 0)) s.4 ∙ ap insn_of (first_word s.0 s.1 s.2) ∙ s.3
spelled_words (insn ∷ insns) bytes s (suc place) other below =
    ap (λ (b : List ℕ). insn_of (word_at b (suc place))) s.4 ∙ ap insn_of (later_word s.0 s.1 place)
    ∙ spelled_words insns s.1 s.5 place other (omega arith)
