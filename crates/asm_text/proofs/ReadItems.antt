-- What is read of a line can be printed, and takes at most 256 words.
use Rattle.std.proofs.Common.{◌≡◌, ℕ, ◌<◌, ◌≤◌, ℤ, pos, negsuc, ◌≤ℤ◌, Bool, true, false, ◌||◌, ◌==◌, cond, nat_le}
use Rattle.std.proofs.Common.{nat_lt, List, [], ◌∷◌, length, Option, Some, None, Result, Ok, Err, refl, arith}
use Rattle.std.proofs.lemmas.Bool.Decides.{nat_tests}
use Rattle.std.proofs.lemmas.Int.{ints}
use Rattle.std.specs.List.{list_all, list_any}
use Rattle.std.specs.Str.{bytes_eq}
use Rattle.rv_decode.specs.Fits.{FitsCsr, FitsI, FitsR, FitsS, FitsShift, FitsSignedBits, FitsU, IsFit}
use Rattle.rv_decode.specs.declared.instruction.Insn.{Insn}
use Rattle.asm_items.specs.ItemMeaning.{is_within, words_of}
use Rattle.asm_items.specs.Printable.{IsPrintable, is_insn_printable, is_text_byte}
use Rattle.asm_items.specs.declared.item.Item.{Item}
use Rattle.asm_items.specs.declared.item.Item.TheVariants as item
use Rattle.asm_table.specs.Cuts.{before, behind}
use Rattle.asm_table.specs.Made.{registers_insn, immediate_insn, shift_insn, short_shift_insn, load_insn, store_insn}
use Rattle.asm_table.specs.Made.{upper_insn, csr_insn, csr_immediate_insn, bare_insn}
use Rattle.asm_table.specs.Registers.{register_in, register_of}
use Rattle.asm_table.specs.Table.{op_of}
use Rattle.asm_table.specs.declared.registers.Register.{Register}
use Rattle.asm_table.specs.declared.registers.TheConstants.{REGISTERS}
use Rattle.asm_table.specs.declared.mnemonics.Op.{Op}
use Rattle.asm_table.specs.declared.mnemonics.Op.TheVariants.{Registers, Immediate, Shift, ShortShift, Load, Store}
use Rattle.asm_table.specs.declared.mnemonics.Op.TheVariants.{Upper, Csr, CsrImmediate, Bare, Branch, Jump, Address}
use Rattle.asm_table.specs.declared.mnemonics.Op.TheVariants.{Dword, Ascii}
use Rattle.asm_table.specs.declared.mnemonics.RegisterOp.{RegisterOp}
use Rattle.asm_table.specs.declared.mnemonics.RegisterOp.TheVariants as of_registers
use Rattle.asm_table.specs.declared.mnemonics.ImmediateOp.{ImmediateOp}
use Rattle.asm_table.specs.declared.mnemonics.ImmediateOp.TheVariants as of_immediate
use Rattle.asm_table.specs.declared.mnemonics.ShiftOp.{ShiftOp}
use Rattle.asm_table.specs.declared.mnemonics.ShiftOp.TheVariants as of_shift
use Rattle.asm_table.specs.declared.mnemonics.ShortShiftOp.{ShortShiftOp}
use Rattle.asm_table.specs.declared.mnemonics.ShortShiftOp.TheVariants as of_shortshift
use Rattle.asm_table.specs.declared.mnemonics.LoadOp.{LoadOp}
use Rattle.asm_table.specs.declared.mnemonics.LoadOp.TheVariants as of_load
use Rattle.asm_table.specs.declared.mnemonics.StoreOp.{StoreOp}
use Rattle.asm_table.specs.declared.mnemonics.StoreOp.TheVariants as of_store
use Rattle.asm_table.specs.declared.mnemonics.UpperOp.{UpperOp}
use Rattle.asm_table.specs.declared.mnemonics.UpperOp.TheVariants as of_upper
use Rattle.asm_table.specs.declared.mnemonics.CsrOp.{CsrOp}
use Rattle.asm_table.specs.declared.mnemonics.CsrOp.TheVariants as of_csr
use Rattle.asm_table.specs.declared.mnemonics.CsrImmediateOp.{CsrImmediateOp}
use Rattle.asm_table.specs.declared.mnemonics.CsrImmediateOp.TheVariants as of_csrimmediate
use Rattle.asm_table.specs.declared.mnemonics.BareOp.{BareOp}
use Rattle.asm_table.specs.declared.mnemonics.BareOp.TheVariants as of_bare
use Rattle.asm_text.specs.Layout.{bare, ends_with, without_last}
use Rattle.asm_text.specs.Pieces.{◌>>=◌, inside_brackets, is_empty, is_printable, name, natural, natural_within, number}
use Rattle.asm_text.specs.Pieces.{number_of, or_fault, place, register, short, string_of, string_rest, string_step}
use Rattle.asm_text.specs.Pieces.{text, with_front, within}
use Rattle.asm_text.specs.Reading.{at_end, bare_item, is_high, item_named, item_of, labelled, last, line_item, one}
use Rattle.asm_text.specs.Reading.{operand, operands_in, some_item, three, two, worded}
use Rattle.asm_text.specs.declared.fault.TextKind.{TextKind}
use Rattle.asm_text.specs.declared.fault.TextKind.TheVariants.{BadLine, BadNumber, BadRegister}
use Rattle.asm_text.specs.declared.strings.Step.{Step}
use Rattle.asm_text.specs.declared.strings.Step.TheVariants.{Add, Backslash, End, Bad}
use Rattle.asm_text.proofs.Cleanly.{and_first, and_second}
use Rattle.asm_text.proofs.StringLemmas.{stepped}

-- a value that was read, if one was, has a property
abbrev pub OkIs : {X : Type 0} → (X → Type 0) → Result X TextKind → Type 0
OkIs P (Ok x) = P x
OkIs P (Err kind) = Unit {0}

abbrev SomeIs : {X : Type 0} → (X → Type 0) → Option X → Type 0
SomeIs P (Some x) = P x
SomeIs P None = Unit {0}

bind-is : {A B : Type 0} (P : A → Type 0) (Q : B → Type 0) (r : Result A TextKind) (f : A → Result B TextKind) →
    OkIs P r →
    ((a : A) → P a → OkIs Q (f a)) → OkIs Q (r >>= f)
bind-is P Q (Ok a) f h k = k a h
bind-is P Q (Err kind) f h k = tt

any : {A : Type 0} (r : Result A TextKind) → OkIs (λ a. Unit {0}) r
any (Ok a) = tt
any (Err kind) = tt

or_fault-is : {X : Type 0} (P : X → Type 0) (o : Option X) (piece : List ℕ) (kind : TextKind) → SomeIs P o →
    OkIs P (or_fault o piece kind)
or_fault-is P None piece kind h = tt
or_fault-is P (Some x) piece kind h = h

by_test : {X : Type 0} (P : X → Type 0) (b : Bool) (x y : X) → (b ≡ true → P x) → P y → P (cond b x y)
by_test P true x y h k = h refl
by_test P false x y h k = k

-- registers
below : (a b : ℕ) → nat_lt a b ≡ true → a < b
below a b h = grind (arith, nat_tests)

abbrev is_low : Register → Bool
is_low row = nat_lt row.number 32

register_in-is : (rows : List Register) (bytes : List ℕ) → list_all is_low rows ≡ true →
    SomeIs (λ n. n < 32) (register_in rows bytes)
register_in-is [] bytes h = tt
register_in-is (row ∷ rows) bytes h =
    by_test (λ o. SomeIs (λ n. n < 32) o) (bytes_eq (before 0 row.name) bytes) (Some row.number)
    (register_in rows bytes)
    (λ e. below row.number 32 (and_first (is_low row) (list_all is_low rows) h))
    (register_in-is rows bytes (and_second (is_low row) (list_all is_low rows) h))

registers-low : list_all is_low REGISTERS ≡ true
registers-low = refl

abbrev IsReg : ℕ → Type 0
IsReg n = n < 32

register-is : (piece : List ℕ) → OkIs IsReg (register piece)
unfolding register_of
register-is piece = or_fault-is IsReg (register_of piece) piece BadRegister
    (register_in-is REGISTERS piece registers-low)

-- numbers
abbrev IsIn : ℤ → ℤ → ℤ → Type 0
IsIn l g z = (l ≤ℤ z) × (z ≤ℤ g)

low-in : (l g z : ℤ) → is_within l g z ≡ true → l ≤ℤ z
low-in l g z h = grind (arith, ints)

high-in : (l g z : ℤ) → is_within l g z ≡ true → z ≤ℤ g
high-in l g z h = grind (arith, ints)

within-is : (l g : ℤ) (o : Option ℤ) → SomeIs (IsIn l g) (within l g o)
within-is l g None = tt
within-is l g (Some z) = by_test (λ o. SomeIs (IsIn l g) o) (is_within l g z) (Some z) None
    (λ e. (low-in l g z e, high-in l g z e)) tt

number-is : (l g : ℤ) (piece : List ℕ) → OkIs (IsIn l g) (number l g piece)
number-is l g piece = or_fault-is (IsIn l g) (within l g (number_of piece)) piece BadNumber
    (within-is l g (number_of piece))

at-most : (a b : ℕ) → nat_le a b ≡ true → a ≤ b
at-most a b h = grind (arith, nat_tests)

natural_within-is : (g : ℕ) (o : Option ℤ) → SomeIs (λ n. n ≤ g) (natural_within g o)
natural_within-is g None = tt
natural_within-is g (Some (pos n)) = by_test (λ o. SomeIs (λ n. n ≤ g) o) (nat_le n g) (Some n) None
    (λ e. at-most n g e) tt
natural_within-is g (Some (negsuc n)) = tt

natural-is : (g : ℕ) (piece : List ℕ) → OkIs (λ n. n ≤ g) (natural g piece)
natural-is g piece = or_fault-is (λ n. n ≤ g) (natural_within g (number_of piece)) piece BadNumber
    (natural_within-is g (number_of piece))

-- places in memory
abbrev IsTwelve : ℤ → Type 0
IsTwelve z = IsIn (negsuc 2047) (pos 2047) z

abbrev IsPlace : ℤ × ℕ → Type 0
IsPlace x = IsTwelve x.0 × (x.1 < 32)

brackets-is : (piece : List ℕ) (o : Option (List ℕ)) → OkIs IsPlace (inside_brackets piece o)
brackets-is piece None = tt
brackets-is piece (Some inside) =
    by_test (λ r. OkIs IsPlace r) (ends_with 41 inside) _ (Err BadLine)
    (λ e. bind-is IsTwelve IsPlace (number (negsuc 2047) (pos 2047) (before 40 piece)) _
    (number-is (negsuc 2047) (pos 2047) (before 40 piece))
    (λ imm h. bind-is IsReg IsPlace (register (without_last inside)) _ (register-is (without_last inside))
    (λ base k. (h, k))))
    tt

place-is : (piece : List ℕ) → OkIs IsPlace (place piece)
place-is piece = brackets-is piece (behind 40 piece)

-- texts
abbrev AreTextBytes : List ℕ → Type 0
AreTextBytes bytes = list_all is_text_byte bytes ≡ true

abbrev StepIs : Step → Type 0
StepIs (Add byte) = is_text_byte byte ≡ true
StepIs Backslash = Unit {0}
StepIs End = Unit {0}
StepIs Bad = Unit {0}

kept-byte : (byte : ℕ) → (byte == 34 || byte == 92) ≡ true → is_text_byte byte ≡ true
kept-byte byte h = grind (arith, nat_tests)

printable-byte : (byte : ℕ) → is_printable byte ≡ true → is_text_byte byte ≡ true
printable-byte byte h = rw h refl

step-is : (escaped : Bool) (byte : ℕ) → StepIs (string_step escaped byte)
step-is true byte =
    by_test StepIs (byte == 110) (Add 10) _ (λ e. refl)
    (by_test StepIs (byte == 34 || byte == 92) (Add byte) Bad (λ e. kept-byte byte e) tt)
step-is false byte =
    by_test StepIs (byte == 34) End _ (λ e. tt)
    (by_test StepIs (byte == 92) Backslash _ (λ e. tt)
    (by_test StepIs (is_printable byte) (Add byte) Bad (λ e. printable-byte byte e) tt))

front-is : (byte : ℕ) (o : Option (List ℕ)) → is_text_byte byte ≡ true → SomeIs AreTextBytes o →
    SomeIs AreTextBytes (with_front (byte ∷ []) o)
front-is byte None h k = tt
front-is byte (Some bytes) h k = rw h k

stepped-is : (step : Step) (bytes : List ℕ) → StepIs step → SomeIs AreTextBytes (string_rest false bytes) →
    SomeIs AreTextBytes (string_rest true bytes) → SomeIs AreTextBytes (stepped step bytes)
stepped-is (Add byte) bytes h k l = front-is byte (string_rest false bytes) h k
stepped-is Backslash bytes h k l = l
stepped-is End bytes h k l = by_test (λ o. SomeIs AreTextBytes o) (is_empty bytes) (Some []) None (λ e. refl) tt
stepped-is Bad bytes h k l = tt

string_rest-is : (bytes : List ℕ) (escaped : Bool) → SomeIs AreTextBytes (string_rest escaped bytes)
string_rest-is [] escaped = tt
string_rest-is (byte ∷ bytes) escaped =
    stepped-is (string_step escaped byte) bytes (step-is escaped byte) (string_rest-is bytes false)
    (string_rest-is bytes true)

string_of-is : (piece : List ℕ) → SomeIs AreTextBytes (string_of piece)
string_of-is [] = tt
string_of-is (byte ∷ bytes) = by_test (λ o. SomeIs AreTextBytes o) (byte == 34) (string_rest false bytes) None
    (λ e. string_rest-is bytes false) tt

abbrev IsText : List ℕ → Type 0
IsText bytes = AreTextBytes bytes × (length bytes ≤ 1024)

short-is : (o : Option (List ℕ)) → SomeIs AreTextBytes o → SomeIs IsText (short o)
short-is None h = tt
short-is (Some bytes) h =
    by_test (λ o. SomeIs IsText o) (nat_le (length bytes) 1024) (Some bytes) None
    (λ e. (h, at-most (length bytes) 1024 e)) tt

text-is : (piece : List ℕ) → OkIs IsText (text piece)
text-is piece = or_fault-is IsText (short (string_of piece)) piece BadLine
    (short-is (string_of piece) (string_of-is piece))

-- operands
at_end-is : {X : Type 0} (P : X → Type 0) (o : Option (List ℕ)) (x : X) → P x → OkIs P (at_end o x)
at_end-is P None x h = h
at_end-is P (Some rest) x h = tt

one-is : {X : Type 0} (P : X → Type 0) (read : List ℕ → Result X TextKind) → ((piece : List ℕ) → OkIs P (read piece)) →
    (rest : Option (List ℕ)) → OkIs (λ x. P x.0) (one read rest)
one-is P read h rest =
    bind-is (λ piece. Unit {0}) (λ x. P x.0) (operand true rest) _ (any (operand true rest))
    (λ piece t. bind-is P (λ x. P x.0) (read piece.0) _ (h piece.0) (λ x k. k))

last-is : {X : Type 0} (P : X → Type 0) (read : List ℕ → Result X TextKind) → ((piece : List ℕ) → OkIs P (read piece)) →
    (rest : Option (List ℕ)) → OkIs P (last read rest)
last-is P read h rest =
    bind-is (λ piece. Unit {0}) P (operand false rest) _ (any (operand false rest))
    (λ piece t. bind-is P P (read piece.0) _ (h piece.0) (λ x k. at_end-is P piece.1 x k))

two-is : {X Y : Type 0} (P : X → Type 0) (Q : Y → Type 0) (first : List ℕ → Result X TextKind)
    (second : List ℕ → Result Y TextKind) →
    ((piece : List ℕ) → OkIs P (first piece)) → ((piece : List ℕ) → OkIs Q (second piece)) →
    (rest : Option (List ℕ)) → OkIs (λ x. P x.0 × Q x.1) (two first second rest)
two-is P Q first second h k rest =
    bind-is (λ x. P x.0) (λ x. P x.0 × Q x.1) (one first rest) _ (one-is P first h rest)
    (λ x a. bind-is Q (λ x. P x.0 × Q x.1) (last second x.1) _ (last-is Q second k x.1) (λ y b. (a, b)))

three-is : {X Y Z : Type 0} (P : X → Type 0) (Q : Y → Type 0) (R : Z → Type 0) (first : List ℕ → Result X TextKind)
    (second : List ℕ → Result Y TextKind) (third : List ℕ → Result Z TextKind) →
    ((piece : List ℕ) → OkIs P (first piece)) →
    ((piece : List ℕ) → OkIs Q (second piece)) → ((piece : List ℕ) → OkIs R (third piece)) →
    (rest : Option (List ℕ)) → OkIs (λ x. P x.0 × Q x.1 × R x.2) (three first second third rest)
three-is P Q R first second third h k l rest =
    bind-is (λ x. P x.0) (λ x. P x.0 × Q x.1 × R x.2) (one first rest) _ (one-is P first h rest)
    (λ x a. bind-is (λ y. Q y.0) (λ x. P x.0 × Q x.1 × R x.2) (one second x.1) _ (one-is Q second k x.1)
    (λ y b. bind-is R (λ x. P x.0 × Q x.1 × R x.2) (last third y.1) _ (last-is R third l y.1) (λ z c. (a, b, c))))

-- items
pub record IsGood (it : Item) : Type 0 where
  pub printable : IsPrintable it
  pub size : words_of it ≤ 256

plain-good : (i : Insn) → IsFit i → is_insn_printable i ≡ true → IsGood (item.Plain i)
plain-good i fit printable = record { printable = (fit, printable); size = omega arith }

registers-fits : (of : RegisterOp) (rd rs1 rs2 : ℕ) → FitsR rd rs1 rs2 → IsFit (registers_insn of rd rs1 rs2)
registers-fits of_registers.Add rd rs1 rs2 h = h
registers-fits _ rd rs1 rs2 h = h

registers-text : (of : RegisterOp) (rd rs1 rs2 : ℕ) → is_insn_printable (registers_insn of rd rs1 rs2) ≡ true
registers-text of_registers.Add rd rs1 rs2 = refl
registers-text _ rd rs1 rs2 = refl

immediate-fits : (of : ImmediateOp) (rd rs1 : ℕ) (imm : ℤ) → FitsI rd rs1 imm → IsFit (immediate_insn of rd rs1 imm)
immediate-fits of_immediate.Addi rd rs1 imm h = h
immediate-fits _ rd rs1 imm h = h

immediate-text : (of : ImmediateOp) (rd rs1 : ℕ) (imm : ℤ) → is_insn_printable (immediate_insn of rd rs1 imm) ≡ true
immediate-text of_immediate.Addi rd rs1 imm = refl
immediate-text _ rd rs1 imm = refl

shift-fits : (of : ShiftOp) (rd rs1 amount : ℕ) → FitsShift rd rs1 amount → IsFit (shift_insn of rd rs1 amount)
shift-fits of_shift.Slli rd rs1 amount h = h
shift-fits _ rd rs1 amount h = h

shift-text : (of : ShiftOp) (rd rs1 amount : ℕ) → is_insn_printable (shift_insn of rd rs1 amount) ≡ true
shift-text of_shift.Slli rd rs1 amount = refl
shift-text _ rd rs1 amount = refl

shortshift-fits : (of : ShortShiftOp) (rd rs1 amount : ℕ) → FitsR rd rs1 amount →
    IsFit (short_shift_insn of rd rs1 amount)
shortshift-fits of_shortshift.Slliw rd rs1 amount h = h
shortshift-fits _ rd rs1 amount h = h

shortshift-text : (of : ShortShiftOp) (rd rs1 amount : ℕ) → is_insn_printable (short_shift_insn of rd rs1 amount) ≡ true
shortshift-text of_shortshift.Slliw rd rs1 amount = refl
shortshift-text _ rd rs1 amount = refl

load-fits : (of : LoadOp) (rd rs1 : ℕ) (imm : ℤ) → FitsI rd rs1 imm → IsFit (load_insn of rd rs1 imm)
load-fits of_load.Jalr rd rs1 imm h = h
load-fits _ rd rs1 imm h = h

load-text : (of : LoadOp) (rd rs1 : ℕ) (imm : ℤ) → is_insn_printable (load_insn of rd rs1 imm) ≡ true
load-text of_load.Jalr rd rs1 imm = refl
load-text _ rd rs1 imm = refl

store-fits : (of : StoreOp) (rs1 rs2 : ℕ) (imm : ℤ) → FitsS rs1 rs2 imm → IsFit (store_insn of rs1 rs2 imm)
store-fits of_store.Sb rs1 rs2 imm h = h
store-fits _ rs1 rs2 imm h = h

store-text : (of : StoreOp) (rs1 rs2 : ℕ) (imm : ℤ) → is_insn_printable (store_insn of rs1 rs2 imm) ≡ true
store-text of_store.Sb rs1 rs2 imm = refl
store-text _ rs1 rs2 imm = refl

upper-fits : (of : UpperOp) (rd imm : ℕ) → FitsU rd imm → IsFit (upper_insn of rd imm)
upper-fits of_upper.Lui rd imm h = h
upper-fits _ rd imm h = h

upper-text : (of : UpperOp) (rd imm : ℕ) → is_insn_printable (upper_insn of rd imm) ≡ true
upper-text of_upper.Lui rd imm = refl
upper-text _ rd imm = refl

csr-fits : (of : CsrOp) (rd rs1 csr : ℕ) → FitsCsr rd rs1 csr → IsFit (csr_insn of rd rs1 csr)
csr-fits of_csr.Csrrw rd rs1 csr h = h
csr-fits _ rd rs1 csr h = h

csr-text : (of : CsrOp) (rd rs1 csr : ℕ) → is_insn_printable (csr_insn of rd rs1 csr) ≡ true
csr-text of_csr.Csrrw rd rs1 csr = refl
csr-text _ rd rs1 csr = refl

csrimmediate-fits : (of : CsrImmediateOp) (rd imm csr : ℕ) → FitsCsr rd imm csr →
    IsFit (csr_immediate_insn of rd imm csr)
csrimmediate-fits of_csrimmediate.Csrrwi rd imm csr h = h
csrimmediate-fits _ rd imm csr h = h

csrimmediate-text : (of : CsrImmediateOp) (rd imm csr : ℕ) → is_insn_printable (csr_immediate_insn of rd imm csr) ≡ true
csrimmediate-text of_csrimmediate.Csrrwi rd imm csr = refl
csrimmediate-text _ rd imm csr = refl

bare-fits : (of : BareOp) → IsFit (bare_insn of)
bare-fits of_bare.Ecall = tt
bare-fits of_bare.Ebreak = tt
bare-fits of_bare.Mret = tt
bare-fits of_bare.Wfi = tt
bare-fits of_bare.Fence = (refl, refl)
bare-fits of_bare.FenceI = (refl, refl)

bare-text : (of : BareOp) → is_insn_printable (bare_insn of) ≡ true
bare-text of_bare.Ecall = refl
bare-text _ = refl

twelve-bits : (z : ℤ) → IsTwelve z → FitsSignedBits 12 z
twelve-bits (pos n) h = omega (arith, ints, h.1)
twelve-bits (negsuc n) h = omega (arith, ints, h.0)

item_of-is : (op : Op) (rest : Option (List ℕ)) → OkIs IsGood (item_of op rest)
unfolding item_of
item_of-is (Registers of) rest =
    bind-is (λ x. IsReg x.0 × IsReg x.1 × IsReg x.2) IsGood (three register register register rest) _
    (three-is IsReg IsReg IsReg register register register register-is register-is register-is rest)
    (λ x h. plain-good (registers_insn of x.0 x.1 x.2) (registers-fits of x.0 x.1 x.2 h)
    (registers-text of x.0 x.1 x.2))
item_of-is (Immediate of) rest =
    bind-is (λ x. IsReg x.0 × IsReg x.1 × IsTwelve x.2) IsGood
    (three register register (number (negsuc 2047) (pos 2047)) rest) _
    (three-is IsReg IsReg IsTwelve register register (number (negsuc 2047) (pos 2047)) register-is register-is
    (number-is (negsuc 2047) (pos 2047)) rest)
    (λ x h. plain-good (immediate_insn of x.0 x.1 x.2) (immediate-fits of x.0 x.1 x.2 (h.0, h.1, twelve-bits x.2 h.2))
    (immediate-text of x.0 x.1 x.2))
item_of-is (Shift of) rest =
    bind-is (λ x. IsReg x.0 × IsReg x.1 × (x.2 ≤ 63)) IsGood (three register register (natural 63) rest) _
    (three-is IsReg IsReg (λ n. n ≤ 63) register register (natural 63) register-is register-is (natural-is 63) rest)
    (λ x h. plain-good (shift_insn of x.0 x.1 x.2) (shift-fits of x.0 x.1 x.2 (h.0, h.1, omega (arith, h.2)))
    (shift-text of x.0 x.1 x.2))
item_of-is (ShortShift of) rest =
    bind-is (λ x. IsReg x.0 × IsReg x.1 × (x.2 ≤ 31)) IsGood (three register register (natural 31) rest) _
    (three-is IsReg IsReg (λ n. n ≤ 31) register register (natural 31) register-is register-is (natural-is 31) rest)
    (λ x h. plain-good (short_shift_insn of x.0 x.1 x.2) (shortshift-fits of x.0 x.1 x.2 (h.0, h.1, omega (arith, h.2)))
    (shortshift-text of x.0 x.1 x.2))
item_of-is (Load of) rest =
    bind-is (λ x. IsReg x.0 × IsPlace x.1) IsGood (two register place rest) _
    (two-is IsReg IsPlace register place register-is place-is rest)
    (λ x h. plain-good (load_insn of x.0 x.1.1 x.1.0)
    (load-fits of x.0 x.1.1 x.1.0 (h.0, h.1.1, twelve-bits x.1.0 h.1.0)) (load-text of x.0 x.1.1 x.1.0))
item_of-is (Store of) rest =
    bind-is (λ x. IsReg x.0 × IsPlace x.1) IsGood (two register place rest) _
    (two-is IsReg IsPlace register place register-is place-is rest)
    (λ x h. plain-good (store_insn of x.1.1 x.0 x.1.0)
    (store-fits of x.1.1 x.0 x.1.0 (h.1.1, h.0, twelve-bits x.1.0 h.1.0)) (store-text of x.1.1 x.0 x.1.0))
item_of-is (Upper of) rest =
    bind-is (λ x. IsReg x.0 × (x.1 ≤ 0xfffff)) IsGood (two register (natural 0xfffff) rest) _
    (two-is IsReg (λ n. n ≤ 0xfffff) register (natural 0xfffff) register-is (natural-is 0xfffff) rest)
    (λ x h. plain-good (upper_insn of x.0 x.1) (upper-fits of x.0 x.1 (h.0, omega (arith, h.1)))
    (upper-text of x.0 x.1))
item_of-is (Csr of) rest =
    bind-is (λ x. IsReg x.0 × (x.1 ≤ 4095) × IsReg x.2) IsGood (three register (natural 4095) register rest) _
    (three-is IsReg (λ n. n ≤ 4095) IsReg register (natural 4095) register register-is
    (natural-is 4095) register-is rest)
    (λ x h. plain-good (csr_insn of x.0 x.2 x.1) (csr-fits of x.0 x.2 x.1 (h.0, h.2, omega (arith, h.1)))
    (csr-text of x.0 x.2 x.1))
item_of-is (CsrImmediate of) rest =
    bind-is (λ x. IsReg x.0 × (x.1 ≤ 4095) × (x.2 ≤ 31)) IsGood (three register (natural 4095) (natural 31) rest) _
    (three-is IsReg (λ n. n ≤ 4095) (λ n. n ≤ 31) register (natural 4095) (natural 31) register-is (natural-is 4095)
    (natural-is 31) rest)
    (λ x h. plain-good (csr_immediate_insn of x.0 x.2 x.1)
    (csrimmediate-fits of x.0 x.2 x.1 (h.0, omega (arith, h.2), omega (arith, h.1))) (csrimmediate-text of x.0 x.2 x.1))
item_of-is (Bare of) rest = at_end-is IsGood rest (item.Plain (bare_insn of))
    (plain-good (bare_insn of) (bare-fits of) (bare-text of))
item_of-is (Branch cond) rest =
    bind-is (λ x. IsReg x.0 × IsReg x.1 × Unit {0}) IsGood (three register register name rest) _
    (three-is IsReg IsReg (λ bytes. Unit {0}) register register name register-is register-is
    (λ piece. any (name piece)) rest)
    (λ x h. record { printable = ((h.0, h.1), refl); size = omega arith })
item_of-is Jump rest =
    bind-is (λ x. IsReg x.0 × Unit {0}) IsGood (two register name rest) _
    (two-is IsReg (λ bytes. Unit {0}) register name register-is (λ piece. any (name piece)) rest)
    (λ x h. record { printable = (h.0, refl); size = omega arith })
item_of-is Address rest =
    bind-is (λ x. IsReg x.0 × Unit {0}) IsGood (two register name rest) _
    (two-is IsReg (λ bytes. Unit {0}) register name register-is (λ piece. any (name piece)) rest)
    (λ x h. record { printable = (h.0, refl); size = omega arith })
item_of-is Dword rest =
    bind-is (λ z. Unit {0}) IsGood (last (number (negsuc 9223372036854775807) (pos 18446744073709551615)) rest) _
    (any (last (number (negsuc 9223372036854775807) (pos 18446744073709551615)) rest))
    (λ z h. record { printable = (tt, refl); size = omega arith })
item_of-is Ascii None = tt
item_of-is Ascii (Some rest) =
    bind-is IsText IsGood (text rest) _ (text-is rest)
    (λ bytes h. record { printable = (tt, h.0); size = omega (arith, h.1) })

-- lines
abbrev pub AreGood : Option Item → Type 0
AreGood None = Unit {0}
AreGood (Some it) = IsGood it

item_named-is : (word : List ℕ) (op : Option Op) (rest : Option (List ℕ)) → OkIs IsGood (item_named word op rest)
item_named-is word None rest = tt
item_named-is word (Some op) rest = item_of-is op (operands_in rest)

labelled-is : (line : List ℕ) → OkIs AreGood (labelled line)
labelled-is line =
    bind-is (λ bytes. Unit {0}) AreGood (name (without_last line)) _ (any (name (without_last line)))
    (λ bytes h. record { printable = (tt, refl); size = omega arith })

worded-is : (line : List ℕ) → OkIs AreGood (some_item (worded line))
worded-is line = bind-is IsGood AreGood (worded line) _
    (item_named-is (before 32 line) (op_of (before 32 line)) (behind 32 line)) (λ it h. h)

bare_item-is : (line : List ℕ) → OkIs AreGood (bare_item line)
bare_item-is line =
    by_test (λ r. OkIs AreGood r) (is_empty line) (Ok None) _ (λ e. tt)
    (by_test (λ r. OkIs AreGood r) (ends_with 58 line) (labelled line) (some_item (worded line)) (λ e. labelled-is line)
    (worded-is line))

kept : (high : Bool) (x : Option Item) → AreGood x → OkIs AreGood (cond high (Err BadLine) (Ok x))
kept true x h = tt
kept false x h = h

pub line_item-is : (line : List ℕ) → OkIs AreGood (line_item line)
unfolding line_item
line_item-is line =
    bind-is AreGood AreGood (bare_item (bare line)) _ (bare_item-is (bare line))
    (λ x h. kept (list_any is_high line) x h)
