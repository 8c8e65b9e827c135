-- How many bytes the parts of items take.
use Rattle.std.proofs.Common.{◌≡◌, ℕ, ℤ, ◌+◌, ◌-◌, ◌*◌, ◌/◌, List, [], ◌∷◌, ◌++◌, length, replicate, Option, Some, None}
use Rattle.std.proofs.Common.{Bool, true, false, Result, Ok, Err, refl, ap, ◌∙◌, subst, arith, length-append}
use Rattle.std.specs.Prelude.{◌==◌, ⊤, if◌then◌else◌}
use Rattle.std.proofs.lemmas.List.{length-replicate}
use Rattle.std.specs.Int.{w32, to_le_bytes}
use Rattle.asm_items.specs.declared.item.Item.{Item}
use Rattle.asm_items.specs.declared.item.Item.TheVariants.{Plain, Branch, Jump, Address, Label, Dword, Ascii}
use Rattle.asm_items.specs.declared.fault.AsmFault.{AsmFault}
use Rattle.asm_items.specs.declared.fault.AsmFault.TheVariants.{LabelTwice}
use Rattle.asm_items.specs.ItemMeaning.{Part, Code, Data, Spells, HoldsParts, after, and_then, assembled}
use Rattle.asm_items.specs.ItemMeaning.{filled, first_only, labels_of, parts_from, parts_of, total_words, with_offset}
use Rattle.asm_items.specs.ItemMeaning.{words_of}

-- an instruction takes four bytes
abbrev bytes_in : List Part → ℕ
bytes_in [] = 0
bytes_in (Code insn ∷ parts) = 4 + bytes_in parts
bytes_in (Data bytes ∷ parts) = length bytes + bytes_in parts

Spells-length : (parts : List Part) (bytes : List ℕ) → Spells parts bytes → length bytes ≡ bytes_in parts
Spells-length [] bytes s = ap length s
Spells-length (Code insn ∷ parts) bytes s =
    let rest : length s.1 ≡ bytes_in parts = Spells-length parts s.1 s.5 in
    let word : length (to_le_bytes w32 s.0) ≡ 4 = refl in
    omega (arith, ap length s.4, length-append (to_le_bytes w32 s.0) s.1, word, rest)
Spells-length (Data bytes ∷ parts) all s =
    let rest : length s.0 ≡ bytes_in parts = Spells-length parts s.0 s.2 in
    omega (arith, ap length s.1, length-append bytes s.0, rest)

bytes_in-append : (first second : List Part) → bytes_in (first ++ second) ≡ bytes_in first + bytes_in second
bytes_in-append [] second = omega arith
bytes_in-append (Code insn ∷ first) second = omega (arith, bytes_in-append first second)
bytes_in-append (Data bytes ∷ first) second = omega (arith, bytes_in-append first second)

-- parts that were made have these bytes
abbrev Takes : ℕ → Result (List Part) AsmFault → Type 0
Takes n (Ok parts) = bytes_in parts ≡ n
Takes n (Err fault) = ⊤

with_offset-takes : (n : ℕ) (offset : Result ℤ AsmFault) (parts : ℤ → List Part) → ((z : ℤ) → bytes_in (parts z) ≡ n)
    → Takes n (with_offset offset parts)
with_offset-takes n (Ok z) parts each = each z
with_offset-takes n (Err fault) parts each = tt

first-takes : (same : Bool) (index : ℕ) → Takes 0 (if same then Ok [] else Err (LabelTwice index))
first-takes true index = refl
first-takes false index = tt

label-takes : (index : ℕ) (found : Option (ℕ × ℕ)) → Takes 0 (first_only index found)
label-takes index None = refl
label-takes index (Some found) = first-takes (found.0 == index) index

length-filled : (text : List ℕ) → length (filled text) ≡ 4 * ((length text + 3) / 4)
length-filled text =
    let zeros : ℕ = 4 * ((length text + 3) / 4) - length text in
    omega (arith, length-append text (replicate zeros 0), length-replicate {A = ℕ} zeros 0)

item-takes : (labels : List ℕ → Option (ℕ × ℕ)) (base index place : ℕ) (item : Item)
    → Takes (4 * words_of item) (parts_of labels base index place item)
item-takes labels base index place (Plain insn) = refl
item-takes labels base index place (Branch cond rs1 rs2 name) = with_offset-takes 4 _ _ (λ z. refl)
item-takes labels base index place (Jump rd name) = with_offset-takes 4 _ _ (λ z. refl)
item-takes labels base index place (Address rd name) = with_offset-takes 8 _ _ (λ z. refl)
item-takes labels base index place (Label name) = label-takes index (labels name)
item-takes labels base index place (Dword value) = refl
item-takes labels base index place (Ascii text) = omega (arith, length-filled text)

after-takes : (m n : ℕ) (parts : List Part) (rest : Result (List Part) AsmFault) → bytes_in parts ≡ m → Takes n rest
    → Takes (m + n) (after parts rest)
after-takes m n parts (Ok more) e h = omega (arith, bytes_in-append parts more, e, h)
after-takes m n parts (Err fault) e h = tt

and_then-takes : (m n : ℕ) (first rest : Result (List Part) AsmFault) → Takes m first → Takes n rest
    → Takes (m + n) (and_then first rest)
and_then-takes m n (Ok parts) rest e h = after-takes m n parts rest e h
and_then-takes m n (Err fault) rest e h = tt

items-take : (labels : List ℕ → Option (ℕ × ℕ)) (base index place : ℕ) (items : List Item)
    → Takes (4 * total_words items) (parts_from labels base index place items)
items-take labels base index place [] = refl
items-take labels base index place (item ∷ items) =
    let more : Result (List Part) AsmFault = parts_from labels base (index + 1) (place + words_of item) items in
    let sum : 4 * words_of item + 4 * total_words items ≡ 4 * (words_of item + total_words items) = omega arith in
    subst (λ (n : ℕ). Takes n (and_then (parts_of labels base index place item) more)) sum
    (and_then-takes (4 * words_of item) (4 * total_words items) (parts_of labels base index place item) more
    (item-takes labels base index place item) (items-take labels base (index + 1) (place + words_of item) items))

held-length : (n : ℕ) (bytes : List ℕ) (meaning : Result (List Part) AsmFault) → Takes n meaning
    → HoldsParts bytes meaning
    → length bytes ≡ n
held-length n bytes (Ok parts) takes held = Spells-length parts bytes held ∙ takes
held-length n bytes (Err fault) takes held = absurd held

-- code has four bytes for each word of its items
pub assembled-length : (base : ℕ) (items : List Item) (bytes : List ℕ) → HoldsParts bytes (assembled base items)
    → length bytes ≡ 4 * total_words items
unfolding assembled
assembled-length base items bytes held =
    held-length (4 * total_words items) bytes (parts_from (labels_of items) base 0 0 items)
    (items-take (labels_of items) base 0 0 items) held
