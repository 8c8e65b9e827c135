-- Which items have a text: the condition of writing them as assembly text.
use Rattle.std.specs.Prelude.{◌≡◌, ℕ, Bool, true, false, ◌==◌, ◌&&◌, ◌||◌, nat_le}
use Rattle.std.specs.List.{list_all}
use Rattle.rv_decode.specs.declared.instruction.Insn.{Insn}
use Rattle.rv_decode.specs.declared.instruction.Insn.TheVariants as insn
use Rattle.asm_items.specs.declared.item.Item.{Item}
use Rattle.asm_items.specs.declared.item.Item.TheVariants as item
use Rattle.asm_items.specs.ItemMeaning.{IsItemFit}

-- a byte from space to tilde, or a newline
abbrev pub is_text_byte : ℕ → Bool
is_text_byte byte = nat_le 32 byte && nat_le byte 126 || byte == 10

-- the instruction has a text: a branch and JAL are written with a label instead, and a fence only as one of two words
abbrev pub is_insn_printable : Insn → Bool
is_insn_printable (insn.Beq rs1 rs2 offset) = false
is_insn_printable (insn.Bne rs1 rs2 offset) = false
is_insn_printable (insn.Blt rs1 rs2 offset) = false
is_insn_printable (insn.Bge rs1 rs2 offset) = false
is_insn_printable (insn.Bltu rs1 rs2 offset) = false
is_insn_printable (insn.Bgeu rs1 rs2 offset) = false
is_insn_printable (insn.Jal rd offset) = false
is_insn_printable (insn.Fence word) = word == 0x0ff0000f
is_insn_printable (insn.FenceI word) = word == 0x0000100f
is_insn_printable _ = true

-- the item has a text: its instruction has one, and each byte of a text is printable or a newline
abbrev pub is_item_printable : Item → Bool
is_item_printable (item.Plain i) = is_insn_printable i
is_item_printable (item.Branch cond rs1 rs2 name) = true
is_item_printable (item.Jump rd name) = true
is_item_printable (item.Address rd name) = true
is_item_printable (item.Label name) = true
is_item_printable (item.Dword value) = true
is_item_printable (item.Ascii text) = list_all is_text_byte text

-- the item can be written as assembly text and read back: each register is below 32, each field is in its range, and it
-- has a text
abbrev pub IsPrintable : Item → Type 0
IsPrintable it = IsItemFit it × (is_item_printable it ≡ true)
