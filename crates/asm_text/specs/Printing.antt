-- The text of items, line by line.
use Rattle.std.specs.Prelude.{◌≡◌, ℕ, zero, suc, ◌+◌, ◌<◌, ◌≤◌, ◌^◌, length, ℤ, true, List, [], ◌∷◌, ◌++◌}
use Rattle.std.specs.Prelude.{if◌then◌else◌, ◌==◌, Some}
use Rattle.std.specs.Fmt.{decimal, signed_decimal}
use Rattle.std.specs.List.{flat_map}
use Rattle.asm_items.specs.Names.{is_name}
use Rattle.rv_decode.specs.declared.instruction.Insn.{Insn}
use Rattle.asm_items.specs.declared.item.Item.{Item}
use Rattle.asm_items.specs.declared.item.Item.TheVariants as item
use Rattle.asm_table.specs.Table.{op_of}
use Rattle.asm_table.specs.Made.{registers_insn, immediate_insn, shift_insn, short_shift_insn, load_insn, store_insn}
use Rattle.asm_table.specs.Made.{upper_insn, csr_insn, csr_immediate_insn, bare_insn}
use Rattle.asm_table.specs.declared.mnemonics.Op.{Op}
use Rattle.asm_table.specs.declared.mnemonics.Op.TheVariants as op
use Rattle.asm_text.specs.declared.spelled.Spelled.{Spelled}
use Rattle.asm_text.specs.declared.spelled.Spelled.TheVariants.{Registers, Immediate, Shift, ShortShift, Load, Store}
use Rattle.asm_text.specs.declared.spelled.Spelled.TheVariants.{Upper, Csr, CsrImmediate, Bare}

-- the instruction that is spelled by a mnemonic and operands
abbrev pub spelled_insn : Spelled → Insn
spelled_insn (Registers op rd rs1 rs2) = registers_insn op rd rs1 rs2
spelled_insn (Immediate op rd rs1 imm) = immediate_insn op rd rs1 imm
spelled_insn (Shift op rd rs1 amount) = shift_insn op rd rs1 amount
spelled_insn (ShortShift op rd rs1 amount) = short_shift_insn op rd rs1 amount
spelled_insn (Load op rd rs1 imm) = load_insn op rd rs1 imm
spelled_insn (Store op rs1 rs2 imm) = store_insn op rs1 rs2 imm
spelled_insn (Upper op rd imm) = upper_insn op rd imm
spelled_insn (Csr op rd rs1 csr) = csr_insn op rd rs1 csr
spelled_insn (CsrImmediate op rd imm csr) = csr_immediate_insn op rd imm csr
spelled_insn (Bare op) = bare_insn op

-- its mnemonic
abbrev pub spelled_op : Spelled → Op
spelled_op (Registers of rd rs1 rs2) = op.Registers of
spelled_op (Immediate of rd rs1 imm) = op.Immediate of
spelled_op (Shift of rd rs1 amount) = op.Shift of
spelled_op (ShortShift of rd rs1 amount) = op.ShortShift of
spelled_op (Load of rd rs1 imm) = op.Load of
spelled_op (Store of rs1 rs2 imm) = op.Store of
spelled_op (Upper of rd imm) = op.Upper of
spelled_op (Csr of rd rs1 csr) = op.Csr of
spelled_op (CsrImmediate of rd imm csr) = op.CsrImmediate of
spelled_op (Bare of) = op.Bare of

-- a register by its x name
abbrev pub reg : ℕ → List ℕ
reg n = 120 ∷ decimal n

-- a number and a register in brackets
abbrev pub place_text : ℤ → ℕ → List ℕ
place_text imm base = signed_decimal imm ++ (40 ∷ (reg base ++ 41 ∷ []))

-- its operands
abbrev pub spelled_pieces : Spelled → List (List ℕ)
spelled_pieces (Registers op rd rs1 rs2) = reg rd ∷ reg rs1 ∷ reg rs2 ∷ []
spelled_pieces (Immediate op rd rs1 imm) = reg rd ∷ reg rs1 ∷ signed_decimal imm ∷ []
spelled_pieces (Shift op rd rs1 amount) = reg rd ∷ reg rs1 ∷ decimal amount ∷ []
spelled_pieces (ShortShift op rd rs1 amount) = reg rd ∷ reg rs1 ∷ decimal amount ∷ []
spelled_pieces (Load op rd rs1 imm) = reg rd ∷ place_text imm rs1 ∷ []
spelled_pieces (Store op rs1 rs2 imm) = reg rs2 ∷ place_text imm rs1 ∷ []
spelled_pieces (Upper op rd imm) = reg rd ∷ decimal imm ∷ []
spelled_pieces (Csr op rd rs1 csr) = reg rd ∷ decimal csr ∷ reg rs1 ∷ []
spelled_pieces (CsrImmediate op rd imm csr) = reg rd ∷ decimal csr ∷ decimal imm ∷ []
spelled_pieces (Bare op) = []

-- operands with a comma and a space between each two
abbrev pub commas : List (List ℕ) → List ℕ
commas [] = []
commas (piece ∷ []) = piece
commas (piece ∷ next ∷ pieces) = piece ++ (44 ∷ 32 ∷ commas (next ∷ pieces))

-- and a space before the first
abbrev pub operands_text : List (List ℕ) → List ℕ
operands_text [] = []
operands_text (piece ∷ pieces) = 32 ∷ commas (piece ∷ pieces)

-- a line of a mnemonic and operands
abbrev pub words : List ℕ → List (List ℕ) → List ℕ
words name pieces = 32 ∷ 32 ∷ 32 ∷ 32 ∷ (name ++ operands_text pieces)

-- a line has a name of the mnemonic and the operands
abbrev pub HasWords : Op → List (List ℕ) → List ℕ → Type 0
HasWords of pieces line = (name : List ℕ) × (op_of name ≡ Some of) × (line ≡ words name pieces)

-- a byte of a text between quotes
abbrev pub escaped : ℕ → List ℕ
escaped byte =
    if byte == 10 then 92 ∷ 110 ∷ []
    else (if byte == 34 then 92 ∷ 34 ∷ [] else (if byte == 92 then 92 ∷ 92 ∷ [] else byte ∷ []))

-- the line is the text of the item
abbrev pub PrintsItem : Item → List ℕ → Type 0
PrintsItem (item.Plain i) line = (s : Spelled) × (spelled_insn s ≡ i) × HasWords (spelled_op s) (spelled_pieces s) line
PrintsItem (item.Branch cond rs1 rs2 name) line = HasWords (op.Branch cond) (reg rs1 ∷ reg rs2 ∷ name ∷ []) line
PrintsItem (item.Jump rd name) line = HasWords op.Jump (reg rd ∷ name ∷ []) line
PrintsItem (item.Address rd name) line = HasWords op.Address (reg rd ∷ name ∷ []) line
PrintsItem (item.Label name) line = line ≡ name ++ 58 ∷ []
PrintsItem (item.Dword value) line = HasWords op.Dword (decimal value ∷ []) line
PrintsItem (item.Ascii text) line = HasWords op.Ascii ((34 ∷ (flat_map escaped text ++ 34 ∷ [])) ∷ []) line

-- bytes grew by a line that is so
abbrev pub Writes : List ℕ → List ℕ → (List ℕ → Type 0) → Type 0
Writes old new Is = (line : List ℕ) × (new ≡ old ++ line) × Is line

-- the text is that of the items, a line each
abbrev pub PrintsAll : List Item → List ℕ → Type 0
PrintsAll [] text = text ≡ []
PrintsAll (it ∷ items) text =
    (line : List ℕ) × (rest : List ℕ) × PrintsItem it line × (text ≡ line ++ (10 ∷ rest)) × PrintsAll items rest

-- what is so of every item by its type: a name is one, a number has 64 bits, and a text has at most 1,024 bytes
abbrev pub IsHeld : Item → Type 0
IsHeld (item.Plain i) = Unit {0}
IsHeld (item.Branch cond rs1 rs2 target) = is_name target ≡ true
IsHeld (item.Jump rd target) = is_name target ≡ true
IsHeld (item.Address rd target) = is_name target ≡ true
IsHeld (item.Label label) = is_name label ≡ true
IsHeld (item.Dword value) = value < 2 ^ 64
IsHeld (item.Ascii text) = length text ≤ 1024

-- so many numbers from one on
abbrev pub numbers : ℕ → ℕ → List ℕ
numbers from zero = []
numbers from (suc count) = from ∷ numbers (from + 1) count
