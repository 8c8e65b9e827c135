-- What a piece of a line stands for: a register, a number, a name, a place in memory or a text; or its fault.
use Rattle.std.specs.Prelude.{ℕ, ◌+◌, ◌-◌, ◌*◌, ◌^◌, ℤ, pos, negsuc, neg_ℤ, Bool, true, false, ◌==◌, ◌&&◌, ◌||◌, nat_le}
use Rattle.std.specs.Prelude.{nat_lt, if◌then◌else◌, List, [], ◌∷◌, ◌++◌, length, drop, Option, Some, None, Result, Ok}
use Rattle.std.specs.Prelude.{Err}
use Rattle.asm_items.specs.Names.{is_name}
use Rattle.asm_items.specs.ItemMeaning.{is_within}
use Rattle.asm_table.specs.Cuts.{before, behind}
use Rattle.asm_text.specs.Layout.{ends_with, without_last}
use Rattle.asm_table.specs.Registers.{register_of}
use Rattle.asm_text.specs.declared.strings.Step.{Step}
use Rattle.asm_text.specs.declared.strings.Step.TheVariants.{Add, Backslash, End, Bad}
use Rattle.asm_text.specs.declared.fault.TextKind.{TextKind}
use Rattle.asm_text.specs.declared.fault.TextKind.TheVariants.{BadLine, BadRegister, BadNumber, BadLabel}

-- the fault of a piece; where a byte above 0x7F is its first, the fault of that byte has the lowest number there
abbrev pub fault_at : List ℕ → TextKind → TextKind
fault_at [] kind = kind
fault_at (byte ∷ bytes) kind = if nat_lt 127 byte then BadLine else kind

-- what a piece stands for, or its fault
abbrev pub or_fault : {X : Type 0} → Option X → List ℕ → TextKind → Result X TextKind
or_fault None piece kind = Err (fault_at piece kind)
or_fault (Some x) piece kind = Ok x

-- what a function gives for a value that is there
abbrev pub given : {A B : Type 0} → Option A → (A → Option B) → Option B
given None f = None
given (Some a) f = f a

-- the value of a hexadecimal digit
abbrev pub digit_value : ℕ → Option ℕ
digit_value byte =
    if nat_le 48 byte && nat_le byte 57 then Some (byte - 48)
    else (if nat_le 97 byte && nat_le byte 102 then Some (byte - 87)
    else (if nat_le 65 byte && nat_le byte 70 then Some (byte - 55) else None))

-- the value of a digit of a base
abbrev pub digit : ℕ → ℕ → Option ℕ
digit base byte = given (digit_value byte) (λ d. if nat_lt d base then Some d else None)

-- the number that digits of a base spell behind those of a number
abbrev pub more_digits : ℕ → ℕ → List ℕ → Option ℕ
more_digits base so_far [] = Some so_far
more_digits base so_far (byte ∷ bytes) = given (digit base byte) (λ d. more_digits base (so_far * base + d) bytes)

-- the number that one or more digits spell
abbrev pub digits : ℕ → List ℕ → Option ℕ
digits base [] = None
digits base (byte ∷ bytes) = more_digits base 0 (byte ∷ bytes)

-- numbers from 2 ^ 64 on are out of each field's range
abbrev pub small : Option ℕ → Option ℕ
small n = given n (λ k. if nat_lt k (2 ^ 64) then Some k else None)

abbrev pub positive : Option ℕ → Option ℤ
positive n = given n (λ k. Some (pos k))

abbrev pub negative : Option ℕ → Option ℤ
negative n = given n (λ k. Some (neg_ℤ (pos k)))

-- the first byte has this value
abbrev pub begins : ℕ → List ℕ → Bool
begins value [] = false
begins value (byte ∷ bytes) = byte == value

-- a number: decimal digits, with a minus before them or not, or 0x and hexadecimal digits
abbrev pub number_of : List ℕ → Option ℤ
number_of [] = None
number_of (byte ∷ bytes) =
    if byte == 45 then negative (digits 10 bytes)
    else (if byte == 48 && begins 120 bytes then positive (digits 16 (drop 1 bytes))
    else positive (digits 10 (byte ∷ bytes)))

-- the same, for digits that stand for a number below 2 ^ 64
abbrev pub small_number : List ℕ → Option ℤ
small_number [] = None
small_number (byte ∷ bytes) =
    if byte == 45 then negative (small (digits 10 bytes))
    else (if byte == 48 && begins 120 bytes then positive (small (digits 16 (drop 1 bytes)))
    else positive (small (digits 10 (byte ∷ bytes))))

-- a number from the least to the greatest
abbrev pub within : ℤ → ℤ → Option ℤ → Option ℤ
within least greatest None = None
within least greatest (Some z) = if is_within least greatest z then Some z else None

-- a number from 0 to the greatest
abbrev pub natural_within : ℕ → Option ℤ → Option ℕ
natural_within greatest None = None
natural_within greatest (Some (pos n)) = if nat_le n greatest then Some n else None
natural_within greatest (Some (negsuc n)) = None

abbrev pub register : List ℕ → Result ℕ TextKind
register piece = or_fault (register_of piece) piece BadRegister

abbrev pub number : ℤ → ℤ → List ℕ → Result ℤ TextKind
number least greatest piece = or_fault (within least greatest (number_of piece)) piece BadNumber

abbrev pub natural : ℕ → List ℕ → Result ℕ TextKind
natural greatest piece = or_fault (natural_within greatest (number_of piece)) piece BadNumber

abbrev pub name : List ℕ → Result (List ℕ) TextKind
name piece = if is_name piece then Ok piece else Err (fault_at piece BadLabel)

-- a value, and then what a function gives for it; the first fault counts
infixl 10 ◌>>=◌
abbrev pub ◌>>=◌ : {A B : Type 0} → Result A TextKind → (A → Result B TextKind) → Result B TextKind
(Ok a) >>= f = f a
(Err kind) >>= f = Err kind

-- what stands behind the first bracket, if there is one, ends with another bracket
abbrev pub inside_brackets : List ℕ → Option (List ℕ) → Result (ℤ × ℕ) TextKind
inside_brackets piece None = Err BadLine
inside_brackets piece (Some inside) =
    if ends_with 41 inside then (do
      imm ← number (negsuc 2047) (pos 2047) (before 40 piece)
      base ← register (without_last inside)
      Ok (imm, base))
    else Err BadLine

-- a number of 12 bits up to the first bracket, and a register from there up to a bracket at the end
abbrev pub place : List ℕ → Result (ℤ × ℕ) TextKind
place piece = inside_brackets piece (behind 40 piece)

-- a byte from space to tilde
abbrev pub is_printable : ℕ → Bool
is_printable byte = nat_le 32 byte && nat_le byte 126

abbrev pub is_empty : List ℕ → Bool
is_empty [] = true
is_empty (byte ∷ bytes) = false

-- the byte that a backslash and this byte stand for
abbrev pub escape : ℕ → Step
escape byte = if byte == 110 then Add 10 else (if byte == 34 || byte == 92 then Add byte else Bad)

-- what a byte of a string does, behind a backslash or not
abbrev pub string_step : Bool → ℕ → Step
string_step true byte = escape byte
string_step false byte =
    if byte == 34 then End else (if byte == 92 then Backslash else (if is_printable byte then Add byte else Bad))

abbrev pub with_front : List ℕ → Option (List ℕ) → Option (List ℕ)
with_front front None = None
with_front front (Some rest) = Some (front ++ rest)

-- what a string holds from here up to the quote at its end, behind a backslash or not
abbrev pub string_rest : Bool → List ℕ → Option (List ℕ)
string_rest escaped [] = None
string_rest escaped (byte ∷ bytes) = elim (string_step escaped byte) [
  | Add added ↦ with_front (added ∷ []) (string_rest false bytes)
  | Backslash ↦ string_rest true bytes
  | End ↦ if is_empty bytes then Some [] else None
  | Bad ↦ None
]

abbrev pub string_of : List ℕ → Option (List ℕ)
string_of [] = None
string_of (byte ∷ bytes) = if byte == 34 then string_rest false bytes else None

-- a text of at most 1,024 bytes, counted after the backslashes
abbrev pub short : Option (List ℕ) → Option (List ℕ)
short text = given text (λ bytes. if nat_le (length bytes) 1024 then Some bytes else None)

abbrev pub text : List ℕ → Result (List ℕ) TextKind
text piece = or_fault (short (string_of piece)) piece BadLine
