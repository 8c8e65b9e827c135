-- The effect of an instruction is in range, over registers of 64 bits.
use Rattle.std.proofs.Common.{◌≡◌, ℕ, ℤ, pos, negsuc, zero, ◌+◌, ◌-◌, ◌*◌, ◌/◌, ◌%◌, ◌^◌, ◌<◌, ◌≤◌, ◌==◌, Bool, true, false, if◌then◌else◌, List, arith}
use Rattle.std.specs.Prelude.{slice_index, not, ◌*ℤ◌, nat_lt, int_lt, bit_and, bit_or, bit_xor}
use Rattle.std.proofs.Math.Nat.{div-le_self, mod-le, div-lt_iff_lt-mul}
use Rattle.std.proofs.lemmas.Nat.{mul-lt, xor_lt, or_lt, and_le_l}
use Rattle.rv_decode.specs.Fits.{IsFit}
use Rattle.rv_decode.specs.declared.instruction.Insn.{Insn}
use Rattle.rv_decode.specs.declared.instruction.Insn.TheVariants.{Lui, Auipc, Jal, Jalr, Beq, Bne, Blt, Bge, Bltu, Bgeu, Lb, Lh, Lw, Ld, Lbu, Lhu, Lwu, Sb, Sh, Sw, Sd, Addi, Slti, Sltiu, Xori, Ori, Andi, Slli, Srli, Srai, Addiw, Slliw, Srliw, Sraiw, Add, Sll, Slt, Sltu, Xor, Srl, Or, And, Sub, Sra, Mul, Mulh, Mulhsu, Mulhu, Div, Divu, Rem, Remu, Addw, Sllw, Srlw, Subw, Sraw, Mulw, Divw, Divuw, Remw, Remuw, Fence, FenceI, Ecall, Ebreak, Mret, Wfi, Csrrw, Csrrs, Csrrc, Csrrwi, Csrrsi, Csrrci}
use Rattle.rv_decode.specs.declared.instruction.Cond.{Cond}
use Rattle.rv_decode.specs.declared.instruction.Cond.TheVariants as when
use Rattle.rv_alu.specs.Numbers.{register_of, extended_word, bit}
use Rattle.rv_alu.specs.Formulas.{alu, alu_w, mul_div, taken}
use Rattle.rv_alu.specs.declared.arithmetic.AluOp.{AluOp}
use Rattle.rv_alu.specs.declared.arithmetic.AluOp.TheVariants as op
use Rattle.rv_alu.specs.declared.arithmetic.AluWOp.{AluWOp}
use Rattle.rv_alu.specs.declared.arithmetic.AluWOp.TheVariants as op_w
use Rattle.rv_alu.specs.declared.arithmetic.MulOp.{MulOp}
use Rattle.rv_alu.specs.declared.arithmetic.MulOp.TheVariants as mul
use Rattle.rv_alu.specs.declared.effects.Size.{Size}
use Rattle.rv_alu.specs.declared.effects.Size.TheVariants.{Byte, Half, Word, Double}
use Rattle.rv_alu.specs.Laws.{EffectsInRange}
use Rattle.rv_alu.specs.Effects.{effect_of, read, upper, plus, even, branch, bytes, loaded, IsInRange}

-- ---- numbers
pub register_of-fits : (z : ℤ) → register_of z < 2 ^ 64
register_of-fits (pos n) = omega arith
register_of-fits (negsuc n) = omega arith

remainder-fits : (n : ℕ) → n % 2 ^ 64 < 2 ^ 64
remainder-fits n = omega arith

bit-fits : (b : Bool) → bit b < 2 ^ 64
bit-fits true = omega arith
bit-fits false = omega arith

choice-fits : (b : Bool) (x y : ℕ) → x < 2 ^ 64 → y < 2 ^ 64 → (if b then x else y) < 2 ^ 64
choice-fits true x y p q = p
choice-fits false x y p q = q

quotient-fits : (a b : ℕ) → a < 2 ^ 64 → a / b < 2 ^ 64
quotient-fits a b p = let below = div-le_self a b in omega arith

rest-fits : (a b : ℕ) → a < 2 ^ 64 → a % b < 2 ^ 64
rest-fits a b p = let below = mod-le a b in omega arith

and-fits : (a b : ℕ) → a < 2 ^ 64 → bit_and a b < 2 ^ 64
and-fits a b p = let below = and_le_l a b in omega arith

high-fits : (a b : ℕ) → a < 2 ^ 64 → b < 2 ^ 64 → a * b / 2 ^ 64 < 2 ^ 64
high-fits a b p q =
    let some : zero < 2 ^ 64 = omega arith in
    (div-lt_iff_lt-mul {k = 2 ^ 64} {x = a * b} {y = 2 ^ 64} some).1 (mul-lt a b (2 ^ 64) (2 ^ 64) p q)

alu-fits : (o : AluOp) (a b : ℕ) → a < 2 ^ 64 → b < 2 ^ 64 → alu o a b < 2 ^ 64
alu-fits op.Add a b p q = remainder-fits (a + b)
alu-fits op.Sub a b p q = remainder-fits (a + (2 ^ 64 - b))
alu-fits op.Sll a b p q = remainder-fits (a * 2 ^ (b % 64))
alu-fits op.Slt a b p q = bit-fits _
alu-fits op.Sltu a b p q = bit-fits _
alu-fits op.Xor a b p q = xor_lt 64 a b p q
alu-fits op.Srl a b p q = quotient-fits a (2 ^ (b % 64)) p
alu-fits op.Sra a b p q = register_of-fits _
alu-fits op.Or a b p q = or_lt 64 a b p q
alu-fits op.And a b p q = and-fits a b p

alu_w-fits : (o : AluWOp) (a b : ℕ) → alu_w o a b < 2 ^ 64
alu_w-fits op_w.Add a b = register_of-fits _
alu_w-fits op_w.Sub a b = register_of-fits _
alu_w-fits op_w.Sll a b = register_of-fits _
alu_w-fits op_w.Srl a b = register_of-fits _
alu_w-fits op_w.Sra a b = register_of-fits _

mul_div-fits : (o : MulOp) (a b : ℕ) → a < 2 ^ 64 → b < 2 ^ 64 → mul_div o a b < 2 ^ 64
mul_div-fits mul.Mul a b p q = remainder-fits (a * b)
mul_div-fits mul.Mulh a b p q = register_of-fits _
mul_div-fits mul.Mulhsu a b p q = register_of-fits _
mul_div-fits mul.Mulhu a b p q = high-fits a b p q
mul_div-fits mul.Div a b p q = choice-fits _ (2 ^ 64 - 1) _ (omega arith) (register_of-fits _)
mul_div-fits mul.Divu a b p q = choice-fits _ (2 ^ 64 - 1) _ (omega arith) (quotient-fits a b p)
mul_div-fits mul.Rem a b p q = choice-fits _ a _ p (register_of-fits _)
mul_div-fits mul.Remu a b p q = choice-fits _ a _ p (rest-fits a b p)
mul_div-fits mul.Mulw a b p q = register_of-fits _
mul_div-fits mul.Divw a b p q = choice-fits _ (2 ^ 64 - 1) _ (omega arith) (register_of-fits _)
mul_div-fits mul.Divuw a b p q = choice-fits _ (2 ^ 64 - 1) _ (omega arith) (register_of-fits _)
mul_div-fits mul.Remw a b p q = choice-fits _ _ _ (register_of-fits _) (register_of-fits _)
mul_div-fits mul.Remuw a b p q = choice-fits _ _ _ (register_of-fits _) (register_of-fits _)

-- what a load leaves fits its register
pub loaded-fits : (size : Size) (extends : Bool) (number : ℕ) → number < 256 ^ bytes size → loaded size extends number < 2 ^ 64
loaded-fits Byte true number p = register_of-fits _
loaded-fits Half true number p = register_of-fits _
loaded-fits Word true number p = register_of-fits _
loaded-fits Double true number p = p
loaded-fits Byte false number p = omega (arith, p)
loaded-fits Half false number p = omega (arith, p)
loaded-fits Word false number p = omega (arith, p)
loaded-fits Double false number p = p

even-fits : (n : ℕ) → n < 2 ^ 64 → even n < 2 ^ 64
even-fits n p = omega arith

plus-fits : (base : ℕ) (offset : ℤ) → plus base offset < 2 ^ 64
plus-fits base offset = remainder-fits _

amount-fits : (n : ℕ) → n < 64 → n < 2 ^ 64
amount-fits n p = omega arith

source-fits : (n : ℕ) → n < 32 → n < 2 ^ 64
source-fits n p = omega arith

-- ---- effects
module _ (pc : ℕ) (registers : List ℕ) (fit : (n : ℕ) → slice_index registers n < 2 ^ 64) where
  branch-fits : (b : Bool) (target : ℕ) → target < 2 ^ 64 → IsInRange (branch b target)
  branch-fits true target p = (omega arith, p)
  branch-fits false target p = tt

  -- the effect of an instruction whose fields are in range
  pub effect-in_range : (insn : Insn) → IsFit insn → IsInRange (effect_of insn pc registers)
  unfolding effect_of
  effect-in_range (Lui rd imm) f = (f.0, register_of-fits _)
  effect-in_range (Auipc rd imm) f = (f.0, remainder-fits _)
  effect-in_range (Jal rd offset) f = (f.0, plus-fits pc offset)
  effect-in_range (Jalr rd rs1 imm) f = (f.0, even-fits _ (plus-fits (read registers rs1) imm))
  effect-in_range (Beq rs1 rs2 offset) f = branch-fits _ _ (plus-fits pc offset)
  effect-in_range (Bne rs1 rs2 offset) f = branch-fits _ _ (plus-fits pc offset)
  effect-in_range (Blt rs1 rs2 offset) f = branch-fits _ _ (plus-fits pc offset)
  effect-in_range (Bge rs1 rs2 offset) f = branch-fits _ _ (plus-fits pc offset)
  effect-in_range (Bltu rs1 rs2 offset) f = branch-fits _ _ (plus-fits pc offset)
  effect-in_range (Bgeu rs1 rs2 offset) f = branch-fits _ _ (plus-fits pc offset)
  effect-in_range (Lb rd rs1 imm) f = (f.0, plus-fits (read registers rs1) imm)
  effect-in_range (Lh rd rs1 imm) f = (f.0, plus-fits (read registers rs1) imm)
  effect-in_range (Lw rd rs1 imm) f = (f.0, plus-fits (read registers rs1) imm)
  effect-in_range (Ld rd rs1 imm) f = (f.0, plus-fits (read registers rs1) imm)
  effect-in_range (Lbu rd rs1 imm) f = (f.0, plus-fits (read registers rs1) imm)
  effect-in_range (Lhu rd rs1 imm) f = (f.0, plus-fits (read registers rs1) imm)
  effect-in_range (Lwu rd rs1 imm) f = (f.0, plus-fits (read registers rs1) imm)
  effect-in_range (Sb rs1 rs2 imm) f = (plus-fits (read registers rs1) imm, fit rs2)
  effect-in_range (Sh rs1 rs2 imm) f = (plus-fits (read registers rs1) imm, fit rs2)
  effect-in_range (Sw rs1 rs2 imm) f = (plus-fits (read registers rs1) imm, fit rs2)
  effect-in_range (Sd rs1 rs2 imm) f = (plus-fits (read registers rs1) imm, fit rs2)
  effect-in_range (Addi rd rs1 imm) f = (f.0, alu-fits op.Add _ _ (fit rs1) (register_of-fits imm))
  effect-in_range (Slti rd rs1 imm) f = (f.0, alu-fits op.Slt _ _ (fit rs1) (register_of-fits imm))
  effect-in_range (Sltiu rd rs1 imm) f = (f.0, alu-fits op.Sltu _ _ (fit rs1) (register_of-fits imm))
  effect-in_range (Xori rd rs1 imm) f = (f.0, alu-fits op.Xor _ _ (fit rs1) (register_of-fits imm))
  effect-in_range (Ori rd rs1 imm) f = (f.0, alu-fits op.Or _ _ (fit rs1) (register_of-fits imm))
  effect-in_range (Andi rd rs1 imm) f = (f.0, alu-fits op.And _ _ (fit rs1) (register_of-fits imm))
  effect-in_range (Slli rd rs1 amount) f = (f.0, alu-fits op.Sll _ amount (fit rs1) (amount-fits amount f.2))
  effect-in_range (Srli rd rs1 amount) f = (f.0, alu-fits op.Srl _ amount (fit rs1) (amount-fits amount f.2))
  effect-in_range (Srai rd rs1 amount) f = (f.0, alu-fits op.Sra _ amount (fit rs1) (amount-fits amount f.2))
  effect-in_range (Addiw rd rs1 imm) f = (f.0, alu_w-fits op_w.Add _ _)
  effect-in_range (Slliw rd rs1 amount) f = (f.0, alu_w-fits op_w.Sll _ _)
  effect-in_range (Srliw rd rs1 amount) f = (f.0, alu_w-fits op_w.Srl _ _)
  effect-in_range (Sraiw rd rs1 amount) f = (f.0, alu_w-fits op_w.Sra _ _)
  effect-in_range (Add rd rs1 rs2) f = (f.0, alu-fits op.Add _ _ (fit rs1) (fit rs2))
  effect-in_range (Sub rd rs1 rs2) f = (f.0, alu-fits op.Sub _ _ (fit rs1) (fit rs2))
  effect-in_range (Sll rd rs1 rs2) f = (f.0, alu-fits op.Sll _ _ (fit rs1) (fit rs2))
  effect-in_range (Slt rd rs1 rs2) f = (f.0, alu-fits op.Slt _ _ (fit rs1) (fit rs2))
  effect-in_range (Sltu rd rs1 rs2) f = (f.0, alu-fits op.Sltu _ _ (fit rs1) (fit rs2))
  effect-in_range (Xor rd rs1 rs2) f = (f.0, alu-fits op.Xor _ _ (fit rs1) (fit rs2))
  effect-in_range (Srl rd rs1 rs2) f = (f.0, alu-fits op.Srl _ _ (fit rs1) (fit rs2))
  effect-in_range (Sra rd rs1 rs2) f = (f.0, alu-fits op.Sra _ _ (fit rs1) (fit rs2))
  effect-in_range (Or rd rs1 rs2) f = (f.0, alu-fits op.Or _ _ (fit rs1) (fit rs2))
  effect-in_range (And rd rs1 rs2) f = (f.0, alu-fits op.And _ _ (fit rs1) (fit rs2))
  effect-in_range (Addw rd rs1 rs2) f = (f.0, alu_w-fits op_w.Add _ _)
  effect-in_range (Subw rd rs1 rs2) f = (f.0, alu_w-fits op_w.Sub _ _)
  effect-in_range (Sllw rd rs1 rs2) f = (f.0, alu_w-fits op_w.Sll _ _)
  effect-in_range (Srlw rd rs1 rs2) f = (f.0, alu_w-fits op_w.Srl _ _)
  effect-in_range (Sraw rd rs1 rs2) f = (f.0, alu_w-fits op_w.Sra _ _)
  effect-in_range (Mul rd rs1 rs2) f = (f.0, mul_div-fits mul.Mul _ _ (fit rs1) (fit rs2))
  effect-in_range (Mulh rd rs1 rs2) f = (f.0, mul_div-fits mul.Mulh _ _ (fit rs1) (fit rs2))
  effect-in_range (Mulhsu rd rs1 rs2) f = (f.0, mul_div-fits mul.Mulhsu _ _ (fit rs1) (fit rs2))
  effect-in_range (Mulhu rd rs1 rs2) f = (f.0, mul_div-fits mul.Mulhu _ _ (fit rs1) (fit rs2))
  effect-in_range (Div rd rs1 rs2) f = (f.0, mul_div-fits mul.Div _ _ (fit rs1) (fit rs2))
  effect-in_range (Divu rd rs1 rs2) f = (f.0, mul_div-fits mul.Divu _ _ (fit rs1) (fit rs2))
  effect-in_range (Rem rd rs1 rs2) f = (f.0, mul_div-fits mul.Rem _ _ (fit rs1) (fit rs2))
  effect-in_range (Remu rd rs1 rs2) f = (f.0, mul_div-fits mul.Remu _ _ (fit rs1) (fit rs2))
  effect-in_range (Mulw rd rs1 rs2) f = (f.0, mul_div-fits mul.Mulw _ _ (fit rs1) (fit rs2))
  effect-in_range (Divw rd rs1 rs2) f = (f.0, mul_div-fits mul.Divw _ _ (fit rs1) (fit rs2))
  effect-in_range (Divuw rd rs1 rs2) f = (f.0, mul_div-fits mul.Divuw _ _ (fit rs1) (fit rs2))
  effect-in_range (Remw rd rs1 rs2) f = (f.0, mul_div-fits mul.Remw _ _ (fit rs1) (fit rs2))
  effect-in_range (Remuw rd rs1 rs2) f = (f.0, mul_div-fits mul.Remuw _ _ (fit rs1) (fit rs2))
  effect-in_range (Fence word) f = tt
  effect-in_range (FenceI word) f = tt
  effect-in_range Ecall f = tt
  effect-in_range Ebreak f = tt
  effect-in_range Mret f = tt
  effect-in_range Wfi f = tt
  effect-in_range (Csrrw rd rs1 csr) f = (f.0, f.2, fit rs1)
  effect-in_range (Csrrs rd rs1 csr) f = (f.0, f.2, fit rs1)
  effect-in_range (Csrrc rd rs1 csr) f = (f.0, f.2, fit rs1)
  effect-in_range (Csrrwi rd imm csr) f = (f.0, f.2, source-fits imm f.1)
  effect-in_range (Csrrsi rd imm csr) f = (f.0, f.2, source-fits imm f.1)
  effect-in_range (Csrrci rd imm csr) f = (f.0, f.2, source-fits imm f.1)

pub effects_in_range : EffectsInRange
effects_in_range insn pc registers fields fit = effect-in_range pc registers fit insn fields
