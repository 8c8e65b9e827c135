-- All faults of a line, each with its place, and which of them is the first: the one of the least place, and of two
-- at one place the one of the lowest number. A place is told by how many bytes of the line stand from it to the end.
use Rattle.std.specs.Prelude.{◌≡◌, ℕ, ◌+◌, ◌-◌, ℤ, pos, negsuc, Bool, true, false, ◌&&◌, ◌||◌, ◌==◌, nat_lt}
use Rattle.std.specs.Prelude.{if◌then◌else◌, List, [], ◌∷◌, ◌++◌, length, Option, Some, None, Result, Ok, Err, ◌⊎◌, All}
use Rattle.std.specs.Prelude.{⊤}
use Rattle.asm_table.specs.Cuts.{before, behind}
use Rattle.asm_table.specs.Table.{op_of}
use Rattle.asm_table.specs.declared.mnemonics.Op.{Op}
use Rattle.asm_table.specs.declared.mnemonics.Op.TheVariants as op
use Rattle.asm_text.specs.Faults.{number_of}
use Rattle.asm_text.specs.Layout.{bare, drop_while, ends_with, is_blank, lines_of, without_last}
use Rattle.asm_text.specs.Pieces.{is_empty, name, natural, number, register, text}
use Rattle.asm_text.specs.Reading.{is_high, more_of, operands_in}
use Rattle.asm_text.specs.declared.fault.TextFault.{TextFault}
use Rattle.asm_text.specs.declared.fault.TextFault.TheVariants.{At, OutOfMemory}
use Rattle.asm_text.specs.declared.fault.TextKind.{TextKind}
use Rattle.asm_text.specs.declared.fault.TextKind.TheVariants.{BadLine, UnknownName, BadRegister, BadNumber, BadLabel}

-- a fault: how many bytes stand from its place to the line's end, and its kind
abbrev pub Mark : Type 0
Mark = ℕ × TextKind

-- a fault of this kind at a place, unless all is well
abbrev pub unless : Bool → ℕ → TextKind → List Mark
unless well place kind = if well then [] else (place, kind) ∷ []

-- a value was read
abbrev pub is_read : {X : Type 0} → Result X TextKind → Bool
is_read (Ok x) = true
is_read (Err kind) = false

-- what an operand has to be: a register, a number of a range, a name, or a number and a register in brackets
pub data Form : Type 0 where
  Reg : Form
  Num : ℤ → ℤ → Form
  Nat : ℕ → Form
  Label : Form
  Place : Form

-- the operands of a line that are joined by commas
abbrev pub forms_of : Op → List Form
forms_of (op.Registers of) = Reg ∷ Reg ∷ Reg ∷ []
forms_of (op.Immediate of) = Reg ∷ Reg ∷ Num (negsuc 2047) (pos 2047) ∷ []
forms_of (op.Shift of) = Reg ∷ Reg ∷ Nat 63 ∷ []
forms_of (op.ShortShift of) = Reg ∷ Reg ∷ Nat 31 ∷ []
forms_of (op.Load of) = Reg ∷ Place ∷ []
forms_of (op.Store of) = Reg ∷ Place ∷ []
forms_of (op.Upper of) = Reg ∷ Nat 0xfffff ∷ []
forms_of (op.Csr of) = Reg ∷ Nat 4095 ∷ Reg ∷ []
forms_of (op.CsrImmediate of) = Reg ∷ Nat 4095 ∷ Nat 31 ∷ []
forms_of (op.Bare of) = []
forms_of (op.Branch cond) = Reg ∷ Reg ∷ Label ∷ []
forms_of op.Jump = Reg ∷ Label ∷ []
forms_of op.Address = Reg ∷ Label ∷ []
forms_of op.Dword = Num (negsuc 9223372036854775807) (pos 18446744073709551615) ∷ []
forms_of op.Ascii = []

-- the faults of an operand with brackets: those of its number and of its register, or that it has no brackets
abbrev pub bracket_marks : ℕ → List ℕ → Option (List ℕ) → List Mark
bracket_marks place piece None = (place, BadLine) ∷ []
bracket_marks place piece (Some inside) =
    if ends_with 41 inside
    then unless (is_read (number (negsuc 2047) (pos 2047) (before 40 piece))) place BadNumber
    ++ unless (is_read (register (without_last inside))) (place - (length (before 40 piece) + 1)) BadRegister
    else (place, BadLine) ∷ []

-- the faults of an operand at a place, but for bytes above 0x7F
abbrev pub piece_marks : Form → ℕ → List ℕ → List Mark
piece_marks Reg place piece = unless (is_read (register piece)) place BadRegister
piece_marks (Num least greatest) place piece = unless (is_read (number least greatest piece)) place BadNumber
piece_marks (Nat greatest) place piece = unless (is_read (natural greatest piece)) place BadNumber
piece_marks Label place piece = unless (is_read (name piece)) place BadLabel
piece_marks Place place piece = bracket_marks place piece (behind 40 piece)

-- the faults of the operands that are left, with so many bytes behind them: each operand's, one too many, one missing
abbrev pub operand_marks : List Form → ℕ → Option (List ℕ) → List Mark
operand_marks [] tail None = []
operand_marks [] tail (Some rest) = (length rest + tail, BadLine) ∷ []
operand_marks (form ∷ forms) tail None = (tail, BadLine) ∷ []
operand_marks (form ∷ forms) tail (Some rest) =
    piece_marks form (length rest + tail) (before 44 rest) ++ operand_marks forms tail (more_of (behind 44 rest))

-- the faults of a text between quotes
abbrev pub text_marks : ℕ → Option (List ℕ) → List Mark
text_marks tail None = (tail, BadLine) ∷ []
text_marks tail (Some rest) = unless (is_read (text rest)) (length rest + tail) BadLine

-- the faults of a line's operands
abbrev pub op_marks : Op → ℕ → Option (List ℕ) → List Mark
op_marks op.Ascii tail rest = text_marks tail rest
op_marks of tail rest = operand_marks (forms_of of) tail rest

-- the faults of a line of words
abbrev pub word_marks : ℕ → List ℕ → Option Op → Option (List ℕ) → List Mark
word_marks tail line None rest = (length line + tail, UnknownName) ∷ []
word_marks tail line (Some of) rest = op_marks of tail rest

-- the faults of a line without its comment and blanks, with so many bytes behind it
abbrev pub bare_marks : ℕ → List ℕ → List Mark
bare_marks tail line =
    if is_empty line then []
    else (if ends_with 58 line then unless (is_read (name (without_last line))) (length line + tail) BadLabel
    else word_marks tail line (op_of (before 32 line)) (operands_in (behind 32 line)))

-- the bytes above 0x7F
abbrev pub high_marks : ℕ → List ℕ → List Mark
high_marks tail [] = []
high_marks tail (byte ∷ bytes) =
    if is_high byte then (length (byte ∷ bytes) + tail, BadLine) ∷ high_marks tail bytes else high_marks tail bytes

-- all faults of a line
unfoldable pub marks : List ℕ → List Mark
marks line = bare_marks (length (drop_while is_blank line) - length (bare line)) (bare line) ++ high_marks 0 line

-- a fault stands before another, or has a lower number at the same place
abbrev pub is_earlier : Mark → Mark → Bool
is_earlier a b = nat_lt b.0 a.0 || a.0 == b.0 && nat_lt (number_of a.1) (number_of b.1)

-- the fault is one of these
abbrev pub IsAmong : Mark → List Mark → Type 0
IsAmong mark [] = ⊥
IsAmong mark (other ∷ others) = (other ≡ mark) ⊎ IsAmong mark others

-- none of these is earlier than the fault
abbrev pub NoneEarlier : Mark → List Mark → Type 0
NoneEarlier mark [] = Unit {0}
NoneEarlier mark (other ∷ others) = (is_earlier other mark ≡ false) × NoneEarlier mark others

-- the fault, of a kind at a place, is the first of a line
abbrev pub IsFirst : TextKind → List ℕ → Type 0
IsFirst kind line = (place : ℕ) × IsAmong (place, kind) (marks line) × NoneEarlier (place, kind) (marks line)

-- the first fault of lines from a number on: it is the first of its line, and no line before has any
abbrev pub IsFirstOf : ℕ → TextKind → ℕ → List (List ℕ) → Type 0
IsFirstOf line kind number [] = ⊥
IsFirstOf line kind number (text ∷ texts) =
    ((line ≡ number) × IsFirst kind text) ⊎ ((marks text ≡ []) × IsFirstOf line kind (number + 1) texts)

-- no line of the text has a fault
abbrev pub IsFaultless : List ℕ → Type 0
IsFaultless text = All (λ line. marks line ≡ []) (lines_of text)

-- the fault is the first of the text; want of memory is free
abbrev pub IsFirstFault : TextFault → List ℕ → Type 0
IsFirstFault (At line kind) text = IsFirstOf line kind 1 (lines_of text)
IsFirstFault OutOfMemory text = ⊤
