-- The range of each field of an instruction: the values that its place in the word can spell.
use Rattle.std.specs.Prelude.{◌≡◌, ℕ, ℤ, ◌<◌, ◌-◌, ◌%◌, ◌^◌, ⊤, pos}
use Rattle.std.proofs.Common.{negsuc}
use Rattle.rv_decode.specs.Fields.{opcode, funct3}
use Rattle.rv_decode.specs.declared.instruction.Insn.{Insn}
use Rattle.rv_decode.specs.declared.instruction.Insn.TheVariants.{Lui, Auipc, Jal, Jalr, Beq, Bne, Blt, Bge, Bltu}
use Rattle.rv_decode.specs.declared.instruction.Insn.TheVariants.{Bgeu, Lb, Lh, Lw, Ld, Lbu, Lhu, Lwu, Sb, Sh, Sw, Sd}
use Rattle.rv_decode.specs.declared.instruction.Insn.TheVariants.{Addi, Slti, Sltiu, Xori, Ori, Andi, Slli, Srli}
use Rattle.rv_decode.specs.declared.instruction.Insn.TheVariants.{Srai, Addiw, Slliw, Srliw, Sraiw, Add, Sll, Slt}
use Rattle.rv_decode.specs.declared.instruction.Insn.TheVariants.{Sltu, Xor, Srl, Or, And, Sub, Sra, Mul, Mulh}
use Rattle.rv_decode.specs.declared.instruction.Insn.TheVariants.{Mulhsu, Mulhu, Div, Divu, Rem, Remu, Addw, Sllw}
use Rattle.rv_decode.specs.declared.instruction.Insn.TheVariants.{Srlw, Subw, Sraw, Mulw, Divw, Divuw, Remw, Remuw}
use Rattle.rv_decode.specs.declared.instruction.Insn.TheVariants.{Fence, FenceI, Ecall, Ebreak, Mret, Wfi, Csrrw}
use Rattle.rv_decode.specs.declared.instruction.Insn.TheVariants.{Csrrs, Csrrc, Csrrwi, Csrrsi, Csrrci}

-- z is a two's complement number of `count` bits: -2^(count-1) ≤ z < 2^(count-1), where negsuc n is -(n + 1)
abbrev pub FitsSignedBits : ℕ → ℤ → Type 0
FitsSignedBits count (pos n) = n < 2 ^ (count - 1)
FitsSignedBits count (negsuc n) = n < 2 ^ (count - 1)

-- an offset in units of two bytes (Unprivileged ISA, 2.5 Control Transfer Instructions)
abbrev pub IsEven : ℤ → Type 0
IsEven (pos n) = n % 2 ≡ 0
IsEven (negsuc n) = n % 2 ≡ 1

-- a register, and an upper immediate of 20 bits (Unprivileged ISA, 2.3, U-immediate)
abbrev pub FitsU : ℕ → ℕ → Type 0
FitsU rd imm = (rd < 32) × (imm < 2 ^ 20)

-- a register, and a jump's offset within 1 MiB (Unprivileged ISA, 2.5.1 Unconditional Jumps)
abbrev pub FitsJ : ℕ → ℤ → Type 0
FitsJ rd offset = (rd < 32) × FitsSignedBits 21 offset × IsEven offset

-- two registers, and an immediate of 12 bits (Unprivileged ISA, 2.3, I-immediate)
abbrev pub FitsI : ℕ → ℕ → ℤ → Type 0
FitsI rd rs1 imm = (rd < 32) × (rs1 < 32) × FitsSignedBits 12 imm

-- two source registers, and an immediate of 12 bits (Unprivileged ISA, 2.3, S-immediate)
abbrev pub FitsS : ℕ → ℕ → ℤ → Type 0
FitsS rs1 rs2 imm = (rs1 < 32) × (rs2 < 32) × FitsSignedBits 12 imm

-- two source registers, and a branch's offset within 4 KiB (Unprivileged ISA, 2.5.2 Conditional Branches)
abbrev pub FitsB : ℕ → ℕ → ℤ → Type 0
FitsB rs1 rs2 offset = (rs1 < 32) × (rs2 < 32) × FitsSignedBits 13 offset × IsEven offset

-- three registers, or two and the amount of a 32-bit shift (Unprivileged ISA, 2.2 Base Instruction Formats)
abbrev pub FitsR : ℕ → ℕ → ℕ → Type 0
FitsR rd rs1 rs2 = (rd < 32) × (rs1 < 32) × (rs2 < 32)

-- two registers, and the amount of a 64-bit shift (Unprivileged ISA, RV64I, Integer Register-Immediate Instructions)
abbrev pub FitsShift : ℕ → ℕ → ℕ → Type 0
FitsShift rd rs1 amount = (rd < 32) × (rs1 < 32) × (amount < 64)

-- a whole word that is a fence of this funct3 (Unprivileged ISA, 2.7 Memory Ordering Instructions; Zifencei)
abbrev pub FitsFence : ℕ → ℕ → Type 0
FitsFence f3 word = (opcode word ≡ 0x0f) × (funct3 word ≡ f3)

-- a register, a register or 5-bit immediate, and a CSR number of 12 bits (Unprivileged ISA, Zicsr, CSR Instructions)
abbrev pub FitsCsr : ℕ → ℕ → ℕ → Type 0
FitsCsr rd source csr = (rd < 32) × (source < 32) × (csr < 2 ^ 12)

-- each field of the instruction is in its range
abbrev pub IsFit : Insn → Type 0
IsFit (Lui rd imm) = FitsU rd imm
IsFit (Auipc rd imm) = FitsU rd imm
IsFit (Jal rd offset) = FitsJ rd offset
IsFit (Jalr rd rs1 imm) = FitsI rd rs1 imm
IsFit (Beq rs1 rs2 offset) = FitsB rs1 rs2 offset
IsFit (Bne rs1 rs2 offset) = FitsB rs1 rs2 offset
IsFit (Blt rs1 rs2 offset) = FitsB rs1 rs2 offset
IsFit (Bge rs1 rs2 offset) = FitsB rs1 rs2 offset
IsFit (Bltu rs1 rs2 offset) = FitsB rs1 rs2 offset
IsFit (Bgeu rs1 rs2 offset) = FitsB rs1 rs2 offset
IsFit (Lb rd rs1 imm) = FitsI rd rs1 imm
IsFit (Lh rd rs1 imm) = FitsI rd rs1 imm
IsFit (Lw rd rs1 imm) = FitsI rd rs1 imm
IsFit (Ld rd rs1 imm) = FitsI rd rs1 imm
IsFit (Lbu rd rs1 imm) = FitsI rd rs1 imm
IsFit (Lhu rd rs1 imm) = FitsI rd rs1 imm
IsFit (Lwu rd rs1 imm) = FitsI rd rs1 imm
IsFit (Sb rs1 rs2 imm) = FitsS rs1 rs2 imm
IsFit (Sh rs1 rs2 imm) = FitsS rs1 rs2 imm
IsFit (Sw rs1 rs2 imm) = FitsS rs1 rs2 imm
IsFit (Sd rs1 rs2 imm) = FitsS rs1 rs2 imm
IsFit (Addi rd rs1 imm) = FitsI rd rs1 imm
IsFit (Slti rd rs1 imm) = FitsI rd rs1 imm
IsFit (Sltiu rd rs1 imm) = FitsI rd rs1 imm
IsFit (Xori rd rs1 imm) = FitsI rd rs1 imm
IsFit (Ori rd rs1 imm) = FitsI rd rs1 imm
IsFit (Andi rd rs1 imm) = FitsI rd rs1 imm
IsFit (Slli rd rs1 amount) = FitsShift rd rs1 amount
IsFit (Srli rd rs1 amount) = FitsShift rd rs1 amount
IsFit (Srai rd rs1 amount) = FitsShift rd rs1 amount
IsFit (Addiw rd rs1 imm) = FitsI rd rs1 imm
IsFit (Slliw rd rs1 amount) = FitsR rd rs1 amount
IsFit (Srliw rd rs1 amount) = FitsR rd rs1 amount
IsFit (Sraiw rd rs1 amount) = FitsR rd rs1 amount
IsFit (Add rd rs1 rs2) = FitsR rd rs1 rs2
IsFit (Sll rd rs1 rs2) = FitsR rd rs1 rs2
IsFit (Slt rd rs1 rs2) = FitsR rd rs1 rs2
IsFit (Sltu rd rs1 rs2) = FitsR rd rs1 rs2
IsFit (Xor rd rs1 rs2) = FitsR rd rs1 rs2
IsFit (Srl rd rs1 rs2) = FitsR rd rs1 rs2
IsFit (Or rd rs1 rs2) = FitsR rd rs1 rs2
IsFit (And rd rs1 rs2) = FitsR rd rs1 rs2
IsFit (Sub rd rs1 rs2) = FitsR rd rs1 rs2
IsFit (Sra rd rs1 rs2) = FitsR rd rs1 rs2
IsFit (Mul rd rs1 rs2) = FitsR rd rs1 rs2
IsFit (Mulh rd rs1 rs2) = FitsR rd rs1 rs2
IsFit (Mulhsu rd rs1 rs2) = FitsR rd rs1 rs2
IsFit (Mulhu rd rs1 rs2) = FitsR rd rs1 rs2
IsFit (Div rd rs1 rs2) = FitsR rd rs1 rs2
IsFit (Divu rd rs1 rs2) = FitsR rd rs1 rs2
IsFit (Rem rd rs1 rs2) = FitsR rd rs1 rs2
IsFit (Remu rd rs1 rs2) = FitsR rd rs1 rs2
IsFit (Addw rd rs1 rs2) = FitsR rd rs1 rs2
IsFit (Sllw rd rs1 rs2) = FitsR rd rs1 rs2
IsFit (Srlw rd rs1 rs2) = FitsR rd rs1 rs2
IsFit (Subw rd rs1 rs2) = FitsR rd rs1 rs2
IsFit (Sraw rd rs1 rs2) = FitsR rd rs1 rs2
IsFit (Mulw rd rs1 rs2) = FitsR rd rs1 rs2
IsFit (Divw rd rs1 rs2) = FitsR rd rs1 rs2
IsFit (Divuw rd rs1 rs2) = FitsR rd rs1 rs2
IsFit (Remw rd rs1 rs2) = FitsR rd rs1 rs2
IsFit (Remuw rd rs1 rs2) = FitsR rd rs1 rs2
IsFit (Fence word) = FitsFence 0 word
IsFit (FenceI word) = FitsFence 1 word
IsFit Ecall = ⊤
IsFit Ebreak = ⊤
IsFit Mret = ⊤
IsFit Wfi = ⊤
IsFit (Csrrw rd rs1 csr) = FitsCsr rd rs1 csr
IsFit (Csrrs rd rs1 csr) = FitsCsr rd rs1 csr
IsFit (Csrrc rd rs1 csr) = FitsCsr rd rs1 csr
IsFit (Csrrwi rd imm csr) = FitsCsr rd imm csr
IsFit (Csrrsi rd imm csr) = FitsCsr rd imm csr
IsFit (Csrrci rd imm csr) = FitsCsr rd imm csr
