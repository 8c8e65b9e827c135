-- What is printed of an item is read as it.
use Rattle.std.proofs.Common.{◌≡◌, ℕ, ℤ, pos, negsuc, ◌≤ℤ◌, true, List, [], ◌∷◌, Some, None, Ok, refl, sym, ap, ◌∙◌}
use Rattle.std.proofs.Common.{subst, arith}
use Rattle.std.proofs.lemmas.Int.{ints}
use Rattle.std.specs.Fmt.{decimal, signed_decimal}
use Rattle.rv_decode.specs.Fits.{FitsCsr, FitsI, FitsR, FitsS, FitsShift, FitsSignedBits, FitsU, IsFit}
use Rattle.rv_decode.specs.declared.instruction.Insn.{Insn}
use Rattle.asm_items.specs.declared.item.Item.{Item}
use Rattle.asm_items.specs.declared.item.Item.TheVariants as item
use Rattle.asm_table.specs.Made.{registers_insn, immediate_insn, shift_insn, short_shift_insn, load_insn, store_insn}
use Rattle.asm_table.specs.Made.{upper_insn, csr_insn, csr_immediate_insn, bare_insn}
use Rattle.asm_text.specs.Pieces.{name, natural, number, place, register}
use Rattle.asm_items.specs.Printable.{IsPrintable}
use Rattle.asm_text.specs.Printing.{HasWords, IsHeld, place_text, PrintsItem, reg, spelled_insn, spelled_op}
use Rattle.asm_text.specs.Printing.{spelled_pieces, words}
use Rattle.asm_text.specs.Reading.{item_of, line_item}
use Rattle.asm_table.specs.declared.mnemonics.Op.{Op}
use Rattle.asm_table.specs.declared.mnemonics.Op.TheVariants as op
use Rattle.asm_text.specs.declared.spelled.Spelled.{Spelled}
use Rattle.asm_text.specs.declared.spelled.Spelled.TheVariants.{Registers, Immediate, Shift, ShortShift, Load, Store}
use Rattle.asm_text.specs.declared.spelled.Spelled.TheVariants.{Upper, Csr, CsrImmediate, Bare}
use Rattle.asm_text.proofs.Back.{IsLine, is_line_byte, last-read, one-back, plain-line, three-back, three-read}
use Rattle.asm_text.proofs.Back.{two-back, two-read}
use Rattle.asm_text.proofs.RoundTrip.{first-of-word, name-word}
use Rattle.asm_text.proofs.LineLemmas.{all-append, clean-plain}
use Rattle.std.specs.List.{list_all}
use Rattle.asm_text.proofs.TextLines.{text-back}
use Rattle.asm_text.proofs.WordLines.{label-back, word-item}
use Rattle.asm_table.specs.Table.{op_of}
use Rattle.std.proofs.lemmas.List.{append-nil}
use Rattle.asm_text.proofs.Written.{is_small, name-piece, natural-piece, number-piece, place-piece, reg-piece}
use Rattle.asm_table.specs.declared.mnemonics.RegisterOp.{RegisterOp}
use Rattle.asm_table.specs.declared.mnemonics.RegisterOp.TheVariants as of_registers
use Rattle.asm_table.specs.declared.mnemonics.ImmediateOp.{ImmediateOp}
use Rattle.asm_table.specs.declared.mnemonics.ImmediateOp.TheVariants as of_immediate
use Rattle.asm_table.specs.declared.mnemonics.ShiftOp.{ShiftOp}
use Rattle.asm_table.specs.declared.mnemonics.ShiftOp.TheVariants as of_shift
use Rattle.asm_table.specs.declared.mnemonics.ShortShiftOp.{ShortShiftOp}
use Rattle.asm_table.specs.declared.mnemonics.ShortShiftOp.TheVariants as of_shortshift
use Rattle.asm_table.specs.declared.mnemonics.LoadOp.{LoadOp}
use Rattle.asm_table.specs.declared.mnemonics.LoadOp.TheVariants as of_load
use Rattle.asm_table.specs.declared.mnemonics.StoreOp.{StoreOp}
use Rattle.asm_table.specs.declared.mnemonics.StoreOp.TheVariants as of_store
use Rattle.asm_table.specs.declared.mnemonics.UpperOp.{UpperOp}
use Rattle.asm_table.specs.declared.mnemonics.UpperOp.TheVariants as of_upper
use Rattle.asm_table.specs.declared.mnemonics.CsrOp.{CsrOp}
use Rattle.asm_table.specs.declared.mnemonics.CsrOp.TheVariants as of_csr
use Rattle.asm_table.specs.declared.mnemonics.CsrImmediateOp.{CsrImmediateOp}
use Rattle.asm_table.specs.declared.mnemonics.CsrImmediateOp.TheVariants as of_csrimmediate

-- a line of a mnemonic alone, whatever its name
bare-line : (of_op : Op) (it : Item) (line : List ℕ) → item_of of_op None ≡ Ok it → (bytes : List ℕ) →
    op_of bytes ≡ Some of_op →
    line ≡ words bytes [] → IsLine line it
bare-line of_op it line made bytes named is_line =
    let parts = first-of-word bytes (name-word bytes of_op named) in
    let named_parts : op_of (parts.0 ∷ parts.1) ≡ Some of_op =
    subst (λ (w : List ℕ). op_of w ≡ Some of_op) parts.2 named in
    let same : line ≡ 32 ∷ 32 ∷ 32 ∷ 32 ∷ parts.0 ∷ parts.1 =
    is_line ∙ ap (λ (w : List ℕ). 32 ∷ 32 ∷ 32 ∷ 32 ∷ w) (append-nil bytes ∙ parts.2) in
    let word = name-word (parts.0 ∷ parts.1) of_op named_parts in
    record {
      back = ap line_item same ∙ word-item parts.0 parts.1 of_op it word named_parts made;
      plain = subst (λ (w : List ℕ). list_all is_line_byte w ≡ true) (sym same)
          (plain-line (parts.0 ∷ parts.1) (clean-plain (parts.0 ∷ parts.1) word));
    }

-- the ranges of an instruction's fields, form by form
registers-fit : (of : RegisterOp) (rd rs1 rs2 : ℕ) → IsFit (registers_insn of rd rs1 rs2) → FitsR rd rs1 rs2
registers-fit of_registers.Add rd rs1 rs2 h = h
registers-fit _ rd rs1 rs2 h = h

immediate-fit : (of : ImmediateOp) (rd rs1 : ℕ) (imm : ℤ) → IsFit (immediate_insn of rd rs1 imm) → FitsI rd rs1 imm
immediate-fit of_immediate.Addi rd rs1 imm h = h
immediate-fit _ rd rs1 imm h = h

shift-fit : (of : ShiftOp) (rd rs1 amount : ℕ) → IsFit (shift_insn of rd rs1 amount) → FitsShift rd rs1 amount
shift-fit of_shift.Slli rd rs1 amount h = h
shift-fit _ rd rs1 amount h = h

shortshift-fit : (of : ShortShiftOp) (rd rs1 amount : ℕ) → IsFit (short_shift_insn of rd rs1 amount) →
    FitsR rd rs1 amount
shortshift-fit of_shortshift.Slliw rd rs1 amount h = h
shortshift-fit _ rd rs1 amount h = h

load-fit : (of : LoadOp) (rd rs1 : ℕ) (imm : ℤ) → IsFit (load_insn of rd rs1 imm) → FitsI rd rs1 imm
load-fit of_load.Jalr rd rs1 imm h = h
load-fit _ rd rs1 imm h = h

store-fit : (of : StoreOp) (rs1 rs2 : ℕ) (imm : ℤ) → IsFit (store_insn of rs1 rs2 imm) → FitsS rs1 rs2 imm
store-fit of_store.Sb rs1 rs2 imm h = h
store-fit _ rs1 rs2 imm h = h

upper-fit : (of : UpperOp) (rd imm : ℕ) → IsFit (upper_insn of rd imm) → FitsU rd imm
upper-fit of_upper.Lui rd imm h = h
upper-fit _ rd imm h = h

csr-fit : (of : CsrOp) (rd rs1 csr : ℕ) → IsFit (csr_insn of rd rs1 csr) → FitsCsr rd rs1 csr
csr-fit of_csr.Csrrw rd rs1 csr h = h
csr-fit _ rd rs1 csr h = h

csrimmediate-fit : (of : CsrImmediateOp) (rd imm csr : ℕ) → IsFit (csr_immediate_insn of rd imm csr) →
    FitsCsr rd imm csr
csrimmediate-fit of_csrimmediate.Csrrwi rd imm csr h = h
csrimmediate-fit _ rd imm csr h = h

-- an immediate of 12 bits
record Twelve (z : ℤ) : Type 0 where
  low : negsuc 2047 ≤ℤ z
  high : z ≤ℤ pos 2047
  small : is_small z

twelve : (z : ℤ) → FitsSignedBits 12 z → Twelve z
twelve (pos n) h = record { low = omega (arith, ints); high = omega (arith, ints, h); small = omega (arith, h) }
twelve (negsuc n) h = record { low = omega (arith, ints, h); high = omega (arith, ints); small = omega (arith, h) }

-- an instruction
spelled-back : (s : Spelled) (line : List ℕ) → IsFit (spelled_insn s) →
    HasWords (spelled_op s) (spelled_pieces s) line →
    IsLine line (item.Plain (spelled_insn s))
unfolding item_of
spelled-back (Registers of rd rs1 rs2) line fit printed =
    let f = registers-fit of rd rs1 rs2 fit in
    let a = reg-piece rd f.0 in let b = reg-piece rs1 f.1 in let c = reg-piece rs2 f.2 in
    three-back (op.Registers of) (item.Plain (registers_insn of rd rs1 rs2)) (reg rd) (reg rs1)
    (reg rs2) line a.piece b.piece c.piece
    (rw (three-read register register register rd rs1 rs2 (reg rd) (reg rs1) (reg rs2) a b c) refl) printed
spelled-back (Immediate of rd rs1 imm) line fit printed =
    let f = immediate-fit of rd rs1 imm fit in let t = twelve imm f.2 in
    let a = reg-piece rd f.0 in let b = reg-piece rs1 f.1 in
    let c = number-piece (negsuc 2047) (pos 2047) imm t.low t.high t.small in
    three-back (op.Immediate of) (item.Plain (immediate_insn of rd rs1 imm)) (reg rd) (reg rs1)
    (signed_decimal imm) line a.piece b.piece c.piece
    (rw (three-read register register (number (negsuc 2047) (pos 2047)) rd rs1 imm (reg rd) (reg rs1)
    (signed_decimal imm) a b c) refl) printed
spelled-back (Shift of rd rs1 amount) line fit printed =
    let f = shift-fit of rd rs1 amount fit in
    let a = reg-piece rd f.0 in let b = reg-piece rs1 f.1 in
    let c = natural-piece 63 amount (omega (arith, f.2)) (omega (arith, f.2)) in
    three-back (op.Shift of) (item.Plain (shift_insn of rd rs1 amount)) (reg rd) (reg rs1)
    (decimal amount) line a.piece b.piece c.piece
    (rw (three-read register register (natural 63) rd rs1 amount (reg rd) (reg rs1) (decimal amount) a b c) refl)
    printed
spelled-back (ShortShift of rd rs1 amount) line fit printed =
    let f = shortshift-fit of rd rs1 amount fit in
    let a = reg-piece rd f.0 in let b = reg-piece rs1 f.1 in
    let c = natural-piece 31 amount (omega (arith, f.2)) (omega (arith, f.2)) in
    three-back (op.ShortShift of) (item.Plain (short_shift_insn of rd rs1 amount)) (reg rd) (reg rs1)
    (decimal amount) line a.piece b.piece c.piece
    (rw (three-read register register (natural 31) rd rs1 amount (reg rd) (reg rs1) (decimal amount) a b c) refl)
    printed
spelled-back (Load of rd rs1 imm) line fit printed =
    let f = load-fit of rd rs1 imm fit in let t = twelve imm f.2 in
    let a = reg-piece rd f.0 in let b = place-piece imm rs1 t.low t.high t.small f.1 in
    two-back (op.Load of) (item.Plain (load_insn of rd rs1 imm)) (reg rd) (place_text imm rs1) line a.piece b.piece
    (rw (two-read register place rd (imm, rs1) (reg rd) (place_text imm rs1) a b) refl) printed
spelled-back (Store of rs1 rs2 imm) line fit printed =
    let f = store-fit of rs1 rs2 imm fit in let t = twelve imm f.2 in
    let a = reg-piece rs2 f.1 in let b = place-piece imm rs1 t.low t.high t.small f.0 in
    two-back (op.Store of) (item.Plain (store_insn of rs1 rs2 imm)) (reg rs2) (place_text imm rs1) line a.piece b.piece
    (rw (two-read register place rs2 (imm, rs1) (reg rs2) (place_text imm rs1) a b) refl) printed
spelled-back (Upper of rd imm) line fit printed =
    let f = upper-fit of rd imm fit in
    let a = reg-piece rd f.0 in let b = natural-piece 0xfffff imm (omega (arith, f.1)) (omega (arith, f.1)) in
    two-back (op.Upper of) (item.Plain (upper_insn of rd imm)) (reg rd) (decimal imm) line a.piece b.piece
    (rw (two-read register (natural 0xfffff) rd imm (reg rd) (decimal imm) a b) refl) printed
spelled-back (Csr of rd rs1 csr) line fit printed =
    let f = csr-fit of rd rs1 csr fit in
    let a = reg-piece rd f.0 in let b = natural-piece 4095 csr (omega (arith, f.2)) (omega (arith, f.2)) in
    let c = reg-piece rs1 f.1 in
    three-back (op.Csr of) (item.Plain (csr_insn of rd rs1 csr)) (reg rd) (decimal csr)
    (reg rs1) line a.piece b.piece c.piece
    (rw (three-read register (natural 4095) register rd csr rs1 (reg rd) (decimal csr) (reg rs1) a b c) refl) printed
spelled-back (CsrImmediate of rd imm csr) line fit printed =
    let f = csrimmediate-fit of rd imm csr fit in
    let a = reg-piece rd f.0 in let b = natural-piece 4095 csr (omega (arith, f.2)) (omega (arith, f.2)) in
    let c = natural-piece 31 imm (omega (arith, f.1)) (omega (arith, f.1)) in
    three-back (op.CsrImmediate of) (item.Plain (csr_immediate_insn of rd imm csr)) (reg rd) (decimal csr)
    (decimal imm) line a.piece b.piece c.piece
    (rw (three-read register (natural 4095) (natural 31) rd csr imm (reg rd) (decimal csr) (decimal imm) a b c) refl)
    printed
spelled-back (Bare of) line fit printed =
    bare-line (op.Bare of) (item.Plain (bare_insn of)) line refl printed.0 printed.1 printed.2

-- reading what is printed of an item gives the item
pub item-back : (it : Item) (line : List ℕ) → IsPrintable it → IsHeld it → PrintsItem it line → IsLine line it
unfolding item_of
item-back (item.Plain insn) line fit held printed =
    let s : Spelled = printed.0 in
    let back = spelled-back s line (subst (λ (i : Insn). IsFit i) (sym printed.1) fit.0) printed.2 in
    subst (λ (i : Insn). IsLine line (item.Plain i)) printed.1 back
item-back (item.Branch cond rs1 rs2 target) line fit held printed =
    let a = reg-piece rs1 fit.0.0 in let b = reg-piece rs2 fit.0.1 in let c = name-piece target held in
    three-back (op.Branch cond) (item.Branch cond rs1 rs2 target) (reg rs1)
    (reg rs2) target line a.piece b.piece c.piece
    (rw (three-read register register name rs1 rs2 target (reg rs1) (reg rs2) target a b c) refl) printed
item-back (item.Jump rd target) line fit held printed =
    let a = reg-piece rd fit.0 in let b = name-piece target held in
    two-back op.Jump (item.Jump rd target) (reg rd) target line a.piece b.piece
    (rw (two-read register name rd target (reg rd) target a b) refl) printed
item-back (item.Address rd target) line fit held printed =
    let a = reg-piece rd fit.0 in let b = name-piece target held in
    two-back op.Address (item.Address rd target) (reg rd) target line a.piece b.piece
    (rw (two-read register name rd target (reg rd) target a b) refl) printed
item-back (item.Label label) line fit held printed = record {
  back = ap line_item printed ∙ label-back label held;
  plain = subst (λ (w : List ℕ). list_all is_line_byte w ≡ true) (sym printed)
      (all-append is_line_byte label (58 ∷ [])
      (plain-line label (clean-plain label (name-piece label held).piece.clean)) refl);
}
item-back (item.Dword value) line fit held printed =
    let a = number-piece (negsuc 9223372036854775807) (pos 18446744073709551615) (pos value) (omega (arith, ints))
    (omega (arith, ints, held)) held in
    one-back op.Dword (item.Dword value) (decimal value) line a.piece
    (rw (last-read (number (negsuc 9223372036854775807) (pos 18446744073709551615)) (pos value) (decimal value) a) refl)
    printed
item-back (item.Ascii text) line fit held printed = text-back text line printed.0 held fit.1 printed.1 printed.2
