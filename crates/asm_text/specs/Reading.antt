-- What a line of assembly stands for: its item, if it has one, or its first fault from the left.
use Rattle.std.specs.Prelude.{◌≡◌, ℕ, pos, negsuc, Bool, true, false, ◌==◌, ◌&&◌, nat_lt, if◌then◌else◌, List, Option}
use Rattle.std.specs.Prelude.{Some, None, Result, Ok, Err}
use Rattle.std.specs.Int.{w64, cast_unsigned}
use Rattle.std.specs.List.{list_any}
use Rattle.asm_items.specs.declared.item.Item.{Item}
use Rattle.asm_items.specs.declared.item.Item.TheVariants as item
use Rattle.asm_table.specs.Cuts.{before, behind}
use Rattle.asm_text.specs.Layout.{bare, drop_while, ends_with, without_last}
use Rattle.asm_text.specs.Pieces.{◌>>=◌, fault_at, is_empty, register, number, natural, name, place, text}
use Rattle.asm_table.specs.Made.{registers_insn, immediate_insn, shift_insn, short_shift_insn, load_insn, store_insn}
use Rattle.asm_table.specs.Made.{upper_insn, csr_insn, csr_immediate_insn, bare_insn}
use Rattle.asm_table.specs.Table.{op_of}
use Rattle.asm_table.specs.declared.mnemonics.Op.{Op}
use Rattle.asm_table.specs.declared.mnemonics.Op.TheVariants.{Registers, Immediate, Shift, ShortShift, Load, Store}
use Rattle.asm_table.specs.declared.mnemonics.Op.TheVariants.{Upper, Csr, CsrImmediate, Bare, Branch, Jump, Address}
use Rattle.asm_table.specs.declared.mnemonics.Op.TheVariants.{Dword, Ascii}
use Rattle.asm_text.specs.declared.fault.TextKind.{TextKind}
use Rattle.asm_text.specs.declared.fault.TextKind.TheVariants.{BadLine, UnknownName}

-- what a function gave, by a view of its value, is what was read, or the same fault
abbrev pub Gives : {X Y : Type 0} → (X → Y) → Result X TextKind → Result Y TextKind → Type 0
Gives view (Ok x) meaning = meaning ≡ Ok (view x)
Gives view (Err kind) meaning = meaning ≡ Err kind

-- a space
abbrev pub is_space : ℕ → Bool
is_space byte = byte == 32

-- what stands behind a comma and its spaces
abbrev pub more_of : Option (List ℕ) → Option (List ℕ)
more_of None = None
more_of (Some rest) = Some (drop_while is_space rest)

-- the next operand, with another one behind it or not, and what is left behind its comma; at the line's end a missing
-- operand is a bad line, and so is an empty one that another one is missing behind
abbrev pub operand : Bool → Option (List ℕ) → Result (List ℕ × Option (List ℕ)) TextKind
operand wants_more None = Err BadLine
operand wants_more (Some rest) =
    if wants_more && is_empty rest then Err BadLine else Ok (before 44 rest, more_of (behind 44 rest))

-- a value at the end of the line; an operand too many is a bad line
abbrev pub at_end : {X : Type 0} → Option (List ℕ) → X → Result X TextKind
at_end None x = Ok x
at_end (Some rest) x = Err BadLine

-- an operand that is read in some way and has another one behind it
abbrev pub one : {X : Type 0} → (List ℕ → Result X TextKind) → Option (List ℕ) → Result (X × Option (List ℕ)) TextKind
one read rest = do
  piece ← operand true rest
  x ← read piece.0
  Ok (x, piece.1)

-- the last operand of a line
abbrev pub last : {X : Type 0} → (List ℕ → Result X TextKind) → Option (List ℕ) → Result X TextKind
last read rest = do
  piece ← operand false rest
  x ← read piece.0
  at_end piece.1 x

-- one, two or three operands, each read in its way
abbrev pub two : {X Y : Type 0} → (List ℕ → Result X TextKind) → (List ℕ → Result Y TextKind) → Option (List ℕ) →
    Result (X × Y) TextKind
two first second rest = do
  x ← one first rest
  y ← last second x.1
  Ok (x.0, y)

abbrev pub three : {X Y Z : Type 0} → (List ℕ → Result X TextKind) → (List ℕ → Result Y TextKind) →
    (List ℕ → Result Z TextKind) → Option (List ℕ) → Result (X × Y × Z) TextKind
three first second third rest = do
  x ← one first rest
  y ← one second x.1
  z ← last third y.1
  Ok (x.0, y.0, z)

-- what is left of a line, as one operand
abbrev pub whole : {X : Type 0} → (List ℕ → Result X TextKind) → Option (List ℕ) → Result X TextKind
whole read None = Err BadLine
whole read (Some rest) = read rest

-- the item of a mnemonic and the operands behind it
unfoldable pub item_of : Op → Option (List ℕ) → Result Item TextKind
item_of (Registers op) rest = do
  x ← three register register register rest
  Ok (item.Plain (registers_insn op x.0 x.1 x.2))
item_of (Immediate op) rest = do
  x ← three register register (number (negsuc 2047) (pos 2047)) rest
  Ok (item.Plain (immediate_insn op x.0 x.1 x.2))
item_of (Shift op) rest = do
  x ← three register register (natural 63) rest
  Ok (item.Plain (shift_insn op x.0 x.1 x.2))
item_of (ShortShift op) rest = do
  x ← three register register (natural 31) rest
  Ok (item.Plain (short_shift_insn op x.0 x.1 x.2))
item_of (Load op) rest = do
  x ← two register place rest
  Ok (item.Plain (load_insn op x.0 x.1.1 x.1.0))
item_of (Store op) rest = do
  x ← two register place rest
  Ok (item.Plain (store_insn op x.1.1 x.0 x.1.0))
item_of (Upper op) rest = do
  x ← two register (natural 0xfffff) rest
  Ok (item.Plain (upper_insn op x.0 x.1))
item_of (Csr op) rest = do
  x ← three register (natural 4095) register rest
  Ok (item.Plain (csr_insn op x.0 x.2 x.1))
item_of (CsrImmediate op) rest = do
  x ← three register (natural 4095) (natural 31) rest
  Ok (item.Plain (csr_immediate_insn op x.0 x.2 x.1))
item_of (Bare op) rest = at_end rest (item.Plain (bare_insn op))
item_of (Branch cond) rest = do
  x ← three register register name rest
  Ok (item.Branch cond x.0 x.1 x.2)
item_of Jump rest = do
  x ← two register name rest
  Ok (item.Jump x.0 x.1)
item_of Address rest = do
  x ← two register name rest
  Ok (item.Address x.0 x.1)
item_of Dword rest = do
  x ← last (number (negsuc 9223372036854775807) (pos 18446744073709551615)) rest
  Ok (item.Dword (cast_unsigned w64 x))
item_of Ascii rest = do
  x ← whole text rest
  Ok (item.Ascii x)

-- what is left behind a line's first word and its spaces, if anything is
abbrev pub operands_in : Option (List ℕ) → Option (List ℕ)
operands_in None = None
operands_in (Some rest) = if is_empty (drop_while is_space rest) then None else Some (drop_while is_space rest)

-- the item of a mnemonic that was found or not
abbrev pub item_named : List ℕ → Option Op → Option (List ℕ) → Result Item TextKind
item_named word None rest = Err (fault_at word UnknownName)
item_named word (Some op) rest = item_of op (operands_in rest)

-- the item of a line of words: the first goes up to a space
abbrev pub worded : List ℕ → Result Item TextKind
worded line = item_named (before 32 line) (op_of (before 32 line)) (behind 32 line)

-- the item of a line that ends with a colon
abbrev pub labelled : List ℕ → Result (Option Item) TextKind
labelled line = do
  label ← name (without_last line)
  Ok (Some (item.Label label))

abbrev pub some_item : Result Item TextKind → Result (Option Item) TextKind
some_item found = do
  x ← found
  Ok (Some x)

-- the item of a line without its comment and blanks, if it has one
abbrev pub bare_item : List ℕ → Result (Option Item) TextKind
bare_item line =
    if is_empty line then Ok None
    else (if ends_with 58 line then labelled line else some_item (worded line))

-- above 0x7F
abbrev pub is_high : ℕ → Bool
is_high byte = nat_lt 127 byte

-- the item of a line, if it has one, or its first fault; a byte above 0x7F with no other fault is in the comment
unfoldable pub line_item : List ℕ → Result (Option Item) TextKind
line_item line = do
  x ← bare_item (bare line)
  if list_any is_high line then Err BadLine else Ok x
