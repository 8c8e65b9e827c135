-- What an instruction does, as an effect that a machine of any kind carries out.
use Rattle.std.specs.Prelude.{ℕ, ℤ, ◌+◌, ◌-◌, ◌*◌, ◌%◌, ◌^◌, ◌<◌, ⊤, Bool, true, false, not, ◌==◌, List, slice_index}
use Rattle.std.specs.Prelude.{slice_set, if◌then◌else◌}
use Rattle.std.specs.Int.{cast_signed, w8, w16, w32}
use Rattle.rv_decode.specs.declared.instruction.Insn.{Insn}
use Rattle.rv_decode.specs.declared.instruction.Insn.TheVariants.{Lui, Auipc, Jal, Jalr, Beq, Bne, Blt, Bge, Bltu}
use Rattle.rv_decode.specs.declared.instruction.Insn.TheVariants.{Bgeu, Lb, Lh, Lw, Ld, Lbu, Lhu, Lwu, Sb, Sh, Sw, Sd}
use Rattle.rv_decode.specs.declared.instruction.Insn.TheVariants.{Addi, Slti, Sltiu, Xori, Ori, Andi, Slli, Srli}
use Rattle.rv_decode.specs.declared.instruction.Insn.TheVariants.{Srai, Addiw, Slliw, Srliw, Sraiw, Add, Sll, Slt}
use Rattle.rv_decode.specs.declared.instruction.Insn.TheVariants.{Sltu, Xor, Srl, Or, And, Sub, Sra, Mul, Mulh}
use Rattle.rv_decode.specs.declared.instruction.Insn.TheVariants.{Mulhsu, Mulhu, Div, Divu, Rem, Remu, Addw, Sllw}
use Rattle.rv_decode.specs.declared.instruction.Insn.TheVariants.{Srlw, Subw, Sraw, Mulw, Divw, Divuw, Remw, Remuw}
use Rattle.rv_decode.specs.declared.instruction.Insn.TheVariants.{Fence, FenceI, Ecall, Ebreak, Mret, Wfi, Csrrw}
use Rattle.rv_decode.specs.declared.instruction.Insn.TheVariants.{Csrrs, Csrrc, Csrrwi, Csrrsi, Csrrci}
use Rattle.rv_decode.specs.declared.instruction.Cond.TheVariants as when
use Rattle.rv_alu.specs.Numbers.{register_of, signed_word}
use Rattle.rv_alu.specs.Formulas.{alu, alu_w, mul_div, taken}
use Rattle.rv_alu.specs.declared.arithmetic.AluOp.TheVariants as op
use Rattle.rv_alu.specs.declared.arithmetic.AluWOp.TheVariants as op_w
use Rattle.rv_alu.specs.declared.arithmetic.MulOp.TheVariants as mul
use Rattle.rv_alu.specs.declared.effects.Effect.{Effect}
use Rattle.rv_alu.specs.declared.effects.Effect.TheVariants.{Pass, Set, Jump, Load, Store, Csr, Call, Break, Return}
use Rattle.rv_alu.specs.declared.effects.Effect.TheVariants.{Wait}
use Rattle.rv_alu.specs.declared.effects.Size.{Size}
use Rattle.rv_alu.specs.declared.effects.Size.TheVariants.{Byte, Half, Word, Double}
use Rattle.rv_alu.specs.declared.effects.CsrOp.TheVariants.{Write, SetBits, ClearBits}

-- register n of a list of 32
abbrev pub read : List ℕ → ℕ → ℕ
read registers n = slice_index registers n

-- the registers after a write; x0 is hardwired to zero and stays (Unprivileged ISA, RV32I, Programmers' Model for Base
-- Integer ISA)
unfoldable pub put : List ℕ → ℕ → ℕ → List ℕ
put registers rd value = if rd == 0 then registers else slice_set registers rd value

-- the 20 bits of an upper immediate over 12 zeros, sign-extended from 32 bits (Unprivileged ISA, RV64I, Integer
-- Register-Immediate Instructions)
abbrev pub upper : ℕ → ℕ
upper imm = register_of (signed_word (imm * 2 ^ 12))

-- an address and an offset, modulo 2 ^ 64
abbrev pub plus : ℕ → ℤ → ℕ
plus base offset = (base + register_of offset) % 2 ^ 64

-- bit 0 cleared, as JALR does with its sum (Unprivileged ISA, RV32I, Unconditional Jumps)
abbrev pub even : ℕ → ℕ
even target = target - target % 2

-- a branch writes no register (Unprivileged ISA, RV32I, Conditional Branches)
abbrev pub branch : Bool → ℕ → Effect
branch true target = Jump 0 target
branch false target = Pass

-- how many bytes an access has (Unprivileged ISA, RV64I, Load and Store Instructions)
abbrev pub bytes : Size → ℕ
bytes Byte = 1
bytes Half = 2
bytes Word = 4
bytes Double = 8

-- a number of so many bytes as a load leaves it in a register, sign-extended or zero-extended (Unprivileged ISA, RV64I,
-- Load and Store Instructions)
abbrev pub loaded : Size → Bool → ℕ → ℕ
loaded size false number = number
loaded Byte true number = register_of (cast_signed w8 number)
loaded Half true number = register_of (cast_signed w16 number)
loaded Word true number = register_of (cast_signed w32 number)
loaded Double true number = number

-- the effect of an instruction at pc over the registers (Unprivileged ISA, RV32I, RV64I, Zifencei, Zicsr and the M
-- extension; Privileged Architecture, MRET and WFI)
unfoldable pub effect_of : Insn → ℕ → List ℕ → Effect
effect_of (Lui rd imm) pc registers = Set rd (upper imm)
effect_of (Auipc rd imm) pc registers = Set rd ((pc + upper imm) % 2 ^ 64)
effect_of (Jal rd offset) pc registers = Jump rd (plus pc offset)
effect_of (Jalr rd rs1 imm) pc registers = Jump rd (even (plus (read registers rs1) imm))
effect_of (Beq rs1 rs2 offset) pc registers =
    branch (taken when.Eq (read registers rs1) (read registers rs2)) (plus pc offset)
effect_of (Bne rs1 rs2 offset) pc registers =
    branch (taken when.Ne (read registers rs1) (read registers rs2)) (plus pc offset)
effect_of (Blt rs1 rs2 offset) pc registers =
    branch (taken when.Lt (read registers rs1) (read registers rs2)) (plus pc offset)
effect_of (Bge rs1 rs2 offset) pc registers =
    branch (taken when.Ge (read registers rs1) (read registers rs2)) (plus pc offset)
effect_of (Bltu rs1 rs2 offset) pc registers =
    branch (taken when.Ltu (read registers rs1) (read registers rs2)) (plus pc offset)
effect_of (Bgeu rs1 rs2 offset) pc registers =
    branch (taken when.Geu (read registers rs1) (read registers rs2)) (plus pc offset)
effect_of (Lb rd rs1 imm) pc registers = Load rd Byte true (plus (read registers rs1) imm)
effect_of (Lh rd rs1 imm) pc registers = Load rd Half true (plus (read registers rs1) imm)
effect_of (Lw rd rs1 imm) pc registers = Load rd Word true (plus (read registers rs1) imm)
effect_of (Ld rd rs1 imm) pc registers = Load rd Double false (plus (read registers rs1) imm)
effect_of (Lbu rd rs1 imm) pc registers = Load rd Byte false (plus (read registers rs1) imm)
effect_of (Lhu rd rs1 imm) pc registers = Load rd Half false (plus (read registers rs1) imm)
effect_of (Lwu rd rs1 imm) pc registers = Load rd Word false (plus (read registers rs1) imm)
effect_of (Sb rs1 rs2 imm) pc registers = Store Byte (plus (read registers rs1) imm) (read registers rs2)
effect_of (Sh rs1 rs2 imm) pc registers = Store Half (plus (read registers rs1) imm) (read registers rs2)
effect_of (Sw rs1 rs2 imm) pc registers = Store Word (plus (read registers rs1) imm) (read registers rs2)
effect_of (Sd rs1 rs2 imm) pc registers = Store Double (plus (read registers rs1) imm) (read registers rs2)
effect_of (Addi rd rs1 imm) pc registers = Set rd (alu op.Add (read registers rs1) (register_of imm))
effect_of (Slti rd rs1 imm) pc registers = Set rd (alu op.Slt (read registers rs1) (register_of imm))
effect_of (Sltiu rd rs1 imm) pc registers = Set rd (alu op.Sltu (read registers rs1) (register_of imm))
effect_of (Xori rd rs1 imm) pc registers = Set rd (alu op.Xor (read registers rs1) (register_of imm))
effect_of (Ori rd rs1 imm) pc registers = Set rd (alu op.Or (read registers rs1) (register_of imm))
effect_of (Andi rd rs1 imm) pc registers = Set rd (alu op.And (read registers rs1) (register_of imm))
effect_of (Slli rd rs1 amount) pc registers = Set rd (alu op.Sll (read registers rs1) amount)
effect_of (Srli rd rs1 amount) pc registers = Set rd (alu op.Srl (read registers rs1) amount)
effect_of (Srai rd rs1 amount) pc registers = Set rd (alu op.Sra (read registers rs1) amount)
effect_of (Addiw rd rs1 imm) pc registers = Set rd (alu_w op_w.Add (read registers rs1) (register_of imm))
effect_of (Slliw rd rs1 amount) pc registers = Set rd (alu_w op_w.Sll (read registers rs1) amount)
effect_of (Srliw rd rs1 amount) pc registers = Set rd (alu_w op_w.Srl (read registers rs1) amount)
effect_of (Sraiw rd rs1 amount) pc registers = Set rd (alu_w op_w.Sra (read registers rs1) amount)
effect_of (Add rd rs1 rs2) pc registers = Set rd (alu op.Add (read registers rs1) (read registers rs2))
effect_of (Sub rd rs1 rs2) pc registers = Set rd (alu op.Sub (read registers rs1) (read registers rs2))
effect_of (Sll rd rs1 rs2) pc registers = Set rd (alu op.Sll (read registers rs1) (read registers rs2))
effect_of (Slt rd rs1 rs2) pc registers = Set rd (alu op.Slt (read registers rs1) (read registers rs2))
effect_of (Sltu rd rs1 rs2) pc registers = Set rd (alu op.Sltu (read registers rs1) (read registers rs2))
effect_of (Xor rd rs1 rs2) pc registers = Set rd (alu op.Xor (read registers rs1) (read registers rs2))
effect_of (Srl rd rs1 rs2) pc registers = Set rd (alu op.Srl (read registers rs1) (read registers rs2))
effect_of (Sra rd rs1 rs2) pc registers = Set rd (alu op.Sra (read registers rs1) (read registers rs2))
effect_of (Or rd rs1 rs2) pc registers = Set rd (alu op.Or (read registers rs1) (read registers rs2))
effect_of (And rd rs1 rs2) pc registers = Set rd (alu op.And (read registers rs1) (read registers rs2))
effect_of (Addw rd rs1 rs2) pc registers = Set rd (alu_w op_w.Add (read registers rs1) (read registers rs2))
effect_of (Subw rd rs1 rs2) pc registers = Set rd (alu_w op_w.Sub (read registers rs1) (read registers rs2))
effect_of (Sllw rd rs1 rs2) pc registers = Set rd (alu_w op_w.Sll (read registers rs1) (read registers rs2))
effect_of (Srlw rd rs1 rs2) pc registers = Set rd (alu_w op_w.Srl (read registers rs1) (read registers rs2))
effect_of (Sraw rd rs1 rs2) pc registers = Set rd (alu_w op_w.Sra (read registers rs1) (read registers rs2))
effect_of (Mul rd rs1 rs2) pc registers = Set rd (mul_div mul.Mul (read registers rs1) (read registers rs2))
effect_of (Mulh rd rs1 rs2) pc registers = Set rd (mul_div mul.Mulh (read registers rs1) (read registers rs2))
effect_of (Mulhsu rd rs1 rs2) pc registers = Set rd (mul_div mul.Mulhsu (read registers rs1) (read registers rs2))
effect_of (Mulhu rd rs1 rs2) pc registers = Set rd (mul_div mul.Mulhu (read registers rs1) (read registers rs2))
effect_of (Div rd rs1 rs2) pc registers = Set rd (mul_div mul.Div (read registers rs1) (read registers rs2))
effect_of (Divu rd rs1 rs2) pc registers = Set rd (mul_div mul.Divu (read registers rs1) (read registers rs2))
effect_of (Rem rd rs1 rs2) pc registers = Set rd (mul_div mul.Rem (read registers rs1) (read registers rs2))
effect_of (Remu rd rs1 rs2) pc registers = Set rd (mul_div mul.Remu (read registers rs1) (read registers rs2))
effect_of (Mulw rd rs1 rs2) pc registers = Set rd (mul_div mul.Mulw (read registers rs1) (read registers rs2))
effect_of (Divw rd rs1 rs2) pc registers = Set rd (mul_div mul.Divw (read registers rs1) (read registers rs2))
effect_of (Divuw rd rs1 rs2) pc registers = Set rd (mul_div mul.Divuw (read registers rs1) (read registers rs2))
effect_of (Remw rd rs1 rs2) pc registers = Set rd (mul_div mul.Remw (read registers rs1) (read registers rs2))
effect_of (Remuw rd rs1 rs2) pc registers = Set rd (mul_div mul.Remuw (read registers rs1) (read registers rs2))
effect_of (Fence word) pc registers = Pass
effect_of (FenceI word) pc registers = Pass
effect_of Ecall pc registers = Call
effect_of Ebreak pc registers = Break
effect_of Mret pc registers = Return
effect_of Wfi pc registers = Wait
effect_of (Csrrw rd rs1 csr) pc registers = Csr rd csr Write (read registers rs1) true
effect_of (Csrrs rd rs1 csr) pc registers = Csr rd csr SetBits (read registers rs1) (not (rs1 == 0))
effect_of (Csrrc rd rs1 csr) pc registers = Csr rd csr ClearBits (read registers rs1) (not (rs1 == 0))
effect_of (Csrrwi rd imm csr) pc registers = Csr rd csr Write imm true
effect_of (Csrrsi rd imm csr) pc registers = Csr rd csr SetBits imm (not (imm == 0))
effect_of (Csrrci rd imm csr) pc registers = Csr rd csr ClearBits imm (not (imm == 0))

-- an effect's register is one of the 32, its CSR number has 12 bits, and its addresses and values have 64
abbrev pub IsInRange : Effect → Type 0
IsInRange Pass = ⊤
IsInRange (Set rd value) = (rd < 32) × (value < 2 ^ 64)
IsInRange (Jump rd target) = (rd < 32) × (target < 2 ^ 64)
IsInRange (Load rd size extends at) = (rd < 32) × (at < 2 ^ 64)
IsInRange (Store size at value) = (at < 2 ^ 64) × (value < 2 ^ 64)
IsInRange (Csr rd csr op value writes) = (rd < 32) × (csr < 2 ^ 12) × (value < 2 ^ 64)
IsInRange Call = ⊤
IsInRange Break = ⊤
IsInRange Return = ⊤
IsInRange Wait = ⊤
