-- What is printed is read back, form by form.
use Rattle.std.proofs.Common.{◌≡◌, ℕ, zero, suc, ◌+◌, ◌/◌, ◌%◌, ◌<◌, Bool, true, false, ◌&&◌, ◌==◌, cond, ltb, List, []}
use Rattle.std.proofs.Common.{◌∷◌, ◌++◌, Option, Some, None, Ok, inl, inr, refl, sym, ap, ◌∙◌, subst, arith}
use Rattle.std.proofs.lemmas.Bool.{cases_eq, cases_lt}
use Rattle.std.proofs.lemmas.Bool.Decides.{nat_tests}
use Rattle.std.proofs.lemmas.Fmt.{decimal_digit, decimal_step}
use Rattle.std.proofs.lemmas.Slice.Eq.{bytes_eq-Decides}
use Rattle.std.specs.Fmt.{decimal}
use Rattle.std.specs.List.{list_all}
use Rattle.std.specs.Str.{bytes_eq}
use Rattle.asm_items.specs.Names.{is_digit}
use Rattle.asm_items.specs.declared.item.Item.TheVariants as item
use Rattle.asm_table.specs.declared.mnemonics.Mnemonic.{Mnemonic}
use Rattle.asm_table.specs.declared.mnemonics.Op.{Op}
use Rattle.asm_table.specs.declared.mnemonics.Op.TheVariants as op
use Rattle.asm_table.specs.declared.mnemonics.RegisterOp.{RegisterOp}
use Rattle.asm_table.specs.declared.mnemonics.TheConstants.{MNEMONICS}
use Rattle.asm_table.specs.Cuts.{before}
use Rattle.asm_text.specs.Layout.{without_end}
use Rattle.asm_table.specs.Made.{registers_insn}
use Rattle.asm_text.specs.Pieces.{register}
use Rattle.asm_text.specs.Printing.{HasWords, reg, words}
use Rattle.asm_text.specs.Reading.{item_of, line_item}
use Rattle.asm_table.specs.Registers.{register_of}
use Rattle.asm_table.specs.Table.{op_in, op_of}
use Rattle.asm_text.proofs.Cleanly.{and_first, and_second}
use Rattle.asm_text.proofs.Forms.{is_clean, Spells, three-spelled}
use Rattle.asm_text.proofs.LineLemmas.{all-append, clean-end, clean-plain, is_plain, kept-end, words-item}
use Rattle.asm_text.proofs.Numerals.{decimal-reads}

-- a register is read by its x name
is_found : Option ℕ → ℕ → Bool
is_found None n = false
is_found (Some m) n = m == n

every : (ℕ → Bool) → ℕ → Bool
every test zero = true
every test (suc n) = test n && every test n

every-below : (test : ℕ → Bool) (n k : ℕ) → every test n ≡ true → k < n → test k ≡ true
unfolding every
every-below test zero k h below = absurd (omega arith)
every-below test (suc n) k h below = elim (cases_eq k n) [
  | inl e ↦ subst (λ (m : ℕ). test m ≡ true) (sym e) (and_first (test n) (every test n) h)
  | inr ne ↦ every-below test n k (and_second (test n) (every test n) h) (omega arith)
]

-- a number below 32 in decimal
two_digits : ℕ → List ℕ
two_digits n = cond (ltb n 10) ((48 + n) ∷ []) ((48 + n / 10) ∷ (48 + n % 10) ∷ [])

short-decimal : (n : ℕ) → n < 32 → decimal n ≡ two_digits n
unfolding two_digits
short-decimal n h = elim (cases_lt n 10) [
  | inl small ↦ (let t : ltb n 10 ≡ true = grind (arith, nat_tests) in rw t (decimal_digit n small))
  | inr large ↦ (let t : ltb n 10 ≡ false = grind (arith, nat_tests) in
      rw t (decimal_step n large (omega arith)
      ∙ ap (λ (xs : List ℕ). xs ++ (48 + n % 10) ∷ []) (decimal_digit (n / 10) (omega arith))))
]

registers-found : every (λ n. is_found (register_of (120 ∷ two_digits n)) n) 32 ≡ true
unfolding every is_found register_of two_digits
registers-found = refl

found-is : (o : Option ℕ) (n : ℕ) → is_found o n ≡ true → o ≡ Some n
unfolding is_found
found-is None n h = cc
found-is (Some m) n h = ap (λ (k : ℕ). Some k) (grind (arith, nat_tests))

pub register-back : (n : ℕ) → n < 32 → register_of (reg n) ≡ Some n
register-back n h =
    ap (λ (xs : List ℕ). register_of (120 ∷ xs)) (short-decimal n h)
    ∙ found-is (register_of (120 ∷ two_digits n)) n
    (every-below (λ n. is_found (register_of (120 ∷ two_digits n)) n) 32 n registers-found h)

digit-clean : (byte : ℕ) → is_digit byte ≡ true → is_clean byte ≡ true
digit-clean byte h = grind (arith, nat_tests)

pub digits-clean : (bytes : List ℕ) → list_all is_digit bytes ≡ true → list_all is_clean bytes ≡ true
digits-clean [] h = refl
digits-clean (byte ∷ bytes) h =
    rw (digit-clean byte (and_first (is_digit byte) (list_all is_digit bytes) h))
    (digits-clean bytes (and_second (is_digit byte) (list_all is_digit bytes) h))

pub reg-spells : (n : ℕ) → n < 32 → Spells register n 120 (decimal n)
reg-spells n h = record {
  reads = rw (register-back n h) refl;
  clean = digits-clean (decimal n) (decimal-reads n (omega arith)).digits_only;
}

-- each mnemonic is a clean word
abbrev pub is_word : List ℕ → Bool
is_word [] = false
is_word (byte ∷ bytes) = list_all is_clean (byte ∷ bytes)

step-in : (same : Bool) (row : Mnemonic) (rows : List Mnemonic) (name : List ℕ) (of_op : Op) →
    bytes_eq (before 0 row.name) name ≡ same →
    is_word (before 0 row.name) ≡ true → (op_in rows name ≡ Some of_op → is_word name ≡ true) →
    cond same (Some row.op) (op_in rows name) ≡ Some of_op → is_word name ≡ true
step-in true row rows name of_op e word more found =
    subst (λ (bytes : List ℕ). is_word bytes ≡ true) ((bytes_eq-Decides (before 0 row.name) name).0 e) word
step-in false row rows name of_op e word more found = more found

named-in : (rows : List Mnemonic) (name : List ℕ) (of_op : Op) →
    list_all (λ row. is_word (before 0 row.name)) rows ≡ true →
    op_in rows name ≡ Some of_op → is_word name ≡ true
named-in [] name of_op h k = cc
named-in (row ∷ rows) name of_op h k =
    step-in (bytes_eq (before 0 row.name) name) row rows name of_op refl
    (and_first (is_word (before 0 row.name)) (list_all (λ row. is_word (before 0 row.name)) rows) h)
    (named-in rows name of_op (and_second (is_word (before 0 row.name))
    (list_all (λ row. is_word (before 0 row.name)) rows) h)) k

mnemonics-words : list_all (λ row. is_word (before 0 row.name)) MNEMONICS ≡ true
mnemonics-words = refl

pub name-word : (name : List ℕ) (of_op : Op) → op_of name ≡ Some of_op → is_word name ≡ true
unfolding op_of
name-word name of_op h = named-in MNEMONICS name of_op mnemonics-words h

-- operands that are plain and end cleanly
pub two-plain : (b : ℕ) (bs : List ℕ) (xs : List ℕ) → list_all is_plain xs ≡ true → list_all is_clean (b ∷ bs) ≡ true →
    list_all is_plain (xs ++ (44 ∷ 32 ∷ b ∷ bs)) ≡ true
two-plain b bs xs h k = all-append is_plain xs (44 ∷ 32 ∷ b ∷ bs) h (clean-plain (b ∷ bs) k)

-- a line of three registers
three-registers-line : (of : RegisterOp) (rd rs1 rs2 : ℕ) (n : ℕ) (ns : List ℕ) → rd < 32 → rs1 < 32 → rs2 < 32 →
    op_of (n ∷ ns) ≡ Some (op.Registers of) →
    line_item (words (n ∷ ns) (reg rd ∷ reg rs1 ∷ reg rs2 ∷ [])) ≡ Ok (Some (item.Plain (registers_insn of rd rs1 rs2)))
unfolding item_of
three-registers-line of rd rs1 rs2 n ns hd h1 h2 named =
    let sd = reg-spells rd hd in let s1 = reg-spells rs1 h1 in let s2 = reg-spells rs2 h2 in
    let ops : List ℕ = decimal rd ++ (44 ∷ 32 ∷ 120 ∷ decimal rs1 ++ (44 ∷ 32 ∷ 120 ∷ decimal rs2)) in
    let inner : list_all is_plain (120 ∷ decimal rs1 ++ (44 ∷ 32 ∷ 120 ∷ decimal rs2)) ≡ true =
    two-plain 120 (decimal rs2) (120 ∷ decimal rs1) (clean-plain (120 ∷ decimal rs1) s1.clean) s2.clean in
    let plain : list_all is_plain (120 ∷ decimal rd ++ (44 ∷ 32 ∷ 120 ∷ decimal rs1 ++ (44 ∷ 32 ∷ 120 ∷ decimal rs2))) ≡
    true =
    all-append is_plain (120 ∷ decimal rd) (44 ∷ 32 ∷ 120 ∷ decimal rs1 ++ (44 ∷ 32 ∷ 120 ∷ decimal rs2))
    (clean-plain (120 ∷ decimal rd) sd.clean) inner in
    let last : without_end (120 ∷ decimal rs2) ≡ 120 ∷ decimal rs2 = clean-end 120 (decimal rs2) s2.clean in
    let middle : without_end (120 ∷ decimal rs1 ++ (44 ∷ 32 ∷ 120 ∷ decimal rs2)) ≡ 120 ∷ decimal rs1 ++
    (44 ∷ 32 ∷ 120 ∷ decimal rs2) =
    kept-end (120 ∷ decimal rs1) 44 (32 ∷ 120 ∷ decimal rs2) (kept-end (44 ∷ 32 ∷ []) 120 (decimal rs2) last) in
    let ended = kept-end (120 ∷ decimal rd) 44 (32 ∷ 120 ∷ decimal rs1 ++ (44 ∷ 32 ∷ 120 ∷ decimal rs2))
    (kept-end (44 ∷ 32 ∷ []) 120 (decimal rs1 ++ (44 ∷ 32 ∷ 120 ∷ decimal rs2)) middle) in
    let read = three-spelled register register register rd rs1 rs2 120 120 120 (decimal rd) (decimal rs1)
    (decimal rs2) sd s1 s2 in
    words-item n ns 120 (decimal rd ++ (44 ∷ 32 ∷ 120 ∷ decimal rs1 ++ (44 ∷ 32 ∷ 120 ∷ decimal rs2))) (op.Registers of)
    (item.Plain (registers_insn of rd rs1 rs2)) (name-word (n ∷ ns) (op.Registers of) named) refl plain ended named
    (rw read refl)

pub first-of-word : (name : List ℕ) → is_word name ≡ true → (n : ℕ) × (ns : List ℕ) × (name ≡ n ∷ ns)
first-of-word [] h = cc
first-of-word (n ∷ ns) h = (n, ns, refl)

-- what is printed of an instruction of three registers is read as it
pub registers-back : (of : RegisterOp) (rd rs1 rs2 : ℕ) (line : List ℕ) → rd < 32 → rs1 < 32 → rs2 < 32 →
    HasWords (op.Registers of) (reg rd ∷ reg rs1 ∷ reg rs2 ∷ []) line →
    line_item line ≡ Ok (Some (item.Plain (registers_insn of rd rs1 rs2)))
registers-back of rd rs1 rs2 line hd h1 h2 printed =
    let parts = first-of-word printed.0 (name-word printed.0 (op.Registers of) printed.1) in
    let named : op_of (parts.0 ∷ parts.1) ≡ Some (op.Registers of) =
    subst (λ (name : List ℕ). op_of name ≡ Some (op.Registers of)) parts.2 printed.1 in
    let is_line : line ≡ words (parts.0 ∷ parts.1) (reg rd ∷ reg rs1 ∷ reg rs2 ∷ []) =
    printed.2 ∙ ap (λ (name : List ℕ). words name (reg rd ∷ reg rs1 ∷ reg rs2 ∷ [])) parts.2 in
    ap line_item is_line ∙ three-registers-line of rd rs1 rs2 parts.0 parts.1 hd h1 h2 named
