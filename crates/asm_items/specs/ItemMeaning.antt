-- What a list of items stands for at a base address: at each place, instructions as values or bytes; or its first
-- fault.
use Rattle.std.specs.Prelude.{◌≡◌, ℕ, ◌+◌, ◌-◌, ◌*◌, ◌/◌, ◌%◌, ◌^◌, ◌<◌, ℤ, pos, negsuc, ◌+ℤ◌, ◌-ℤ◌, Bool, false}
use Rattle.std.specs.Prelude.{if◌then◌else◌, ◌==◌, ◌&&◌, List, [], ◌∷◌, ◌++◌, length, replicate, Option, Some, None}
use Rattle.std.specs.Prelude.{Result, Ok, Err, ⊤}
use Rattle.std.specs.Int.{w32, w64, to_le_bytes, cast_unsigned}
use Rattle.std.specs.Str.{bytes_eq}
use Rattle.rv_decode.specs.InsnTable.{insn_of}
use Rattle.rv_decode.specs.Fits.{IsFit}
use Rattle.rv_decode.specs.declared.instruction.Insn.{Insn}
use Rattle.rv_decode.specs.declared.instruction.Insn.TheVariants.{Jal, Auipc, Addi, Beq, Bne, Blt, Bge, Bltu, Bgeu}
use Rattle.rv_decode.specs.declared.instruction.Cond.{Cond}
use Rattle.rv_decode.specs.declared.instruction.Cond.TheVariants.{Eq, Ne, Lt, Ge, Ltu, Geu}
use Rattle.asm_items.specs.declared.item.Item.{Item}
use Rattle.asm_items.specs.declared.item.Item.TheVariants.{Plain, Branch, Jump, Address, Label, Dword, Ascii}
use Rattle.asm_items.specs.declared.fault.AsmFault.{AsmFault}
use Rattle.asm_items.specs.declared.fault.AsmFault.TheVariants.{UnknownLabel, LabelTwice, OutOfReach, OutOfMemory}
use lib.Signed.{le_z}

-- how many words of four bytes an item takes; a text is filled to a whole number of them
abbrev pub words_of : Item → ℕ
words_of (Plain insn) = 1
words_of (Branch cond rs1 rs2 name) = 1
words_of (Jump rd name) = 1
words_of (Address rd name) = 2
words_of (Label name) = 0
words_of (Dword value) = 2
words_of (Ascii text) = (length text + 3) / 4

-- how many words the items take
abbrev pub total_words : List Item → ℕ
total_words [] = 0
total_words (item ∷ items) = words_of item + total_words items

-- the item is the label of this name
abbrev pub is_label : List ℕ → Item → Bool
is_label name (Plain insn) = false
is_label name (Branch cond rs1 rs2 target) = false
is_label name (Jump rd target) = false
is_label name (Address rd target) = false
is_label name (Label other) = bytes_eq other name
is_label name (Dword value) = false
is_label name (Ascii text) = false

-- the index, and the place in words, of the first label of this name among items that begin at an index and a place
abbrev pub find_label : List ℕ → ℕ → ℕ → List Item → Option (ℕ × ℕ)
find_label name index place [] = None
find_label name index place (item ∷ items) =
    if is_label name item then Some (index, place) else find_label name (index + 1) (place + words_of item) items

-- what stands at a place: an instruction, or bytes
pub data Part : Type 0 where
  Code : Insn → Part
  Data : List ℕ → Part

-- the branch of a condition (Unprivileged ISA, 2.5.2 Conditional Branches)
abbrev pub branch : Cond → ℕ → ℕ → ℤ → Insn
branch Eq rs1 rs2 offset = Beq rs1 rs2 offset
branch Ne rs1 rs2 offset = Bne rs1 rs2 offset
branch Lt rs1 rs2 offset = Blt rs1 rs2 offset
branch Ge rs1 rs2 offset = Bge rs1 rs2 offset
branch Ltu rs1 rs2 offset = Bltu rs1 rs2 offset
branch Geu rs1 rs2 offset = Bgeu rs1 rs2 offset

-- AUIPC with the upper 20 bits of the offset + 0x800, and ADDI with the rest, so that rd holds the address (RISC-V
-- Assembly Programmer's Manual, la)
abbrev pub address_parts : ℕ → ℤ → List Part
address_parts rd offset =
    let raised = cast_unsigned w32 (offset +ℤ pos 0x800) in
    Code (Auipc rd (raised / 2 ^ 12)) ∷ Code (Addi rd rd (pos (raised % 2 ^ 12) -ℤ pos 0x800)) ∷ []

-- the address of a place, where the first place has the address base
abbrev pub address : ℕ → ℕ → ℕ
address base place = base + 4 * place

-- how far a label's address is from the address of the instruction that names it
abbrev pub offset : ℕ → ℕ → ℕ → ℤ
offset base place target = pos (address base target) -ℤ pos (address base place)

-- a number from the least to the greatest
abbrev pub is_within : ℤ → ℤ → ℤ → Bool
is_within least greatest z = le_z least z && le_z z greatest

-- the offset from a place to a label that was found or not, or the fault of the item there
abbrev pub offset_found : ℕ → ℕ → ℕ → Option (ℕ × ℕ) → ℤ → ℤ → Result ℤ AsmFault
offset_found base index place None least greatest = Err (UnknownLabel index)
offset_found base index place (Some found) least greatest =
    if is_within least greatest (offset base place found.1) then Ok (offset base place found.1)
    else Err (OutOfReach index)

-- the parts of an offset, or the fault
abbrev pub with_offset : Result ℤ AsmFault → (ℤ → List Part) → Result (List Part) AsmFault
with_offset (Ok z) parts = Ok (parts z)
with_offset (Err fault) parts = Err fault

-- a label stands for nothing, and must be the first of its name
abbrev pub first_only : ℕ → Option (ℕ × ℕ) → Result (List Part) AsmFault
first_only index None = Ok []
first_only index (Some found) = if found.0 == index then Ok [] else Err (LabelTwice index)

-- a text with zero bytes up to a whole number of words
abbrev pub filled : List ℕ → List ℕ
filled text = text ++ replicate (4 * ((length text + 3) / 4) - length text) 0

-- what an item stands for at its index and place, where labels gives the index and place of each name. A branch reaches
-- -4,096 to 4,094, a jump -1,048,576 to 1,048,574 and an address -2,147,485,696 to 2,147,481,599 (Unprivileged ISA,
-- 2.4.1 and 2.5)
abbrev pub parts_of : (List ℕ → Option (ℕ × ℕ)) → ℕ → ℕ → ℕ → Item → Result (List Part) AsmFault
parts_of labels base index place (Plain insn) = Ok (Code insn ∷ [])
parts_of labels base index place (Branch cond rs1 rs2 name) =
    with_offset (offset_found base index place (labels name) (negsuc 4095) (pos 4094))
    (λ z. Code (branch cond rs1 rs2 z) ∷ [])
parts_of labels base index place (Jump rd name) =
    with_offset (offset_found base index place (labels name) (negsuc 1048575) (pos 1048574)) (λ z. Code (Jal rd z) ∷ [])
parts_of labels base index place (Address rd name) =
    with_offset (offset_found base index place (labels name) (negsuc 2147485695) (pos 2147481599))
    (λ z. address_parts rd z)
parts_of labels base index place (Label name) = first_only index (labels name)
parts_of labels base index place (Dword value) = Ok (Data (to_le_bytes w64 value) ∷ [])
parts_of labels base index place (Ascii text) = Ok (Data (filled text) ∷ [])

-- parts before what comes after them, or the fault that comes there
abbrev pub after : List Part → Result (List Part) AsmFault → Result (List Part) AsmFault
after parts (Ok more) = Ok (parts ++ more)
after parts (Err fault) = Err fault

-- the first parts followed by the others, or the first fault
abbrev pub and_then : Result (List Part) AsmFault → Result (List Part) AsmFault → Result (List Part) AsmFault
and_then (Ok parts) more = after parts more
and_then (Err fault) more = Err fault

-- what items from an index and a place on stand for, or the fault of the first item that has one
abbrev pub parts_from : (List ℕ → Option (ℕ × ℕ)) → ℕ → ℕ → ℕ → List Item → Result (List Part) AsmFault
parts_from labels base index place [] = Ok []
parts_from labels base index place (item ∷ items) =
    and_then (parts_of labels base index place item) (parts_from labels base (index + 1) (place + words_of item) items)

-- the index and place of the first label of each name in a list of items
abbrev pub labels_of : List Item → List ℕ → Option (ℕ × ℕ)
labels_of items name = find_label name 0 0 items

-- what a list of items stands for at a base: a name means its first label, and each item its instructions or bytes
unfoldable pub assembled : ℕ → List Item → Result (List Part) AsmFault
assembled base items = parts_from (labels_of items) base 0 0 items

-- the bytes hold the parts one after another: bytes as they are, an instruction as the four bytes, lowest first, of a
-- word that decodes to it
abbrev pub Spells : List Part → List ℕ → Type 0
Spells [] bytes = bytes ≡ []
Spells (Code insn ∷ parts) bytes =
    (word : ℕ) × (rest : List ℕ) × (word < 2 ^ 32) × (insn_of word ≡ Some insn) × (bytes ≡ to_le_bytes w32 word ++ rest)
    × Spells parts rest
Spells (Data data_bytes ∷ parts) bytes = (rest : List ℕ) × (bytes ≡ data_bytes ++ rest) × Spells parts rest

-- each register is below 32, and each field of an instruction is in its range
abbrev pub IsItemFit : Item → Type 0
IsItemFit (Plain insn) = IsFit insn
IsItemFit (Branch cond rs1 rs2 name) = (rs1 < 32) × (rs2 < 32)
IsItemFit (Jump rd name) = rd < 32
IsItemFit (Address rd name) = rd < 32
IsItemFit (Label name) = ⊤
IsItemFit (Dword value) = ⊤
IsItemFit (Ascii text) = ⊤

-- a call that fails with a fault owes that the items have it; want of memory is free
abbrev pub Fails : AsmFault → Result (List Part) AsmFault → Type 0
Fails (UnknownLabel index) meaning = meaning ≡ Err (UnknownLabel index)
Fails (LabelTwice index) meaning = meaning ≡ Err (LabelTwice index)
Fails (OutOfReach index) meaning = meaning ≡ Err (OutOfReach index)
Fails OutOfMemory meaning = ⊤

-- bytes grew by some that hold the parts
abbrev pub Grows : List ℕ → List ℕ → List Part → Type 0
Grows old new parts = (bytes : List ℕ) × (new ≡ old ++ bytes) × Spells parts bytes

-- bytes that hold what is meant
abbrev pub HoldsParts : List ℕ → Result (List Part) AsmFault → Type 0
HoldsParts bytes (Ok parts) = Spells parts bytes
HoldsParts bytes (Err fault) = ⊥

-- bytes grew by some that hold what is meant, or the call failed with its fault
abbrev pub Puts : List ℕ → List ℕ → Result Unit AsmFault → Result (List Part) AsmFault → Type 0
Puts old new (Ok u) meaning = (bytes : List ℕ) × (new ≡ old ++ bytes) × HoldsParts bytes meaning
Puts old new (Err fault) meaning = Fails fault meaning
