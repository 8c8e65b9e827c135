-- The instruction table of RV64IM with Zicsr, Zifencei, MRET and WFI: which words stand for which instruction.
use Rattle.std.specs.Prelude.{◌≡◌, ℕ, Option, Some, None, if◌then◌else◌, ◌==◌}
use Rattle.rv_decode.specs.Fields.{opcode, funct3, funct6, funct7, rd_at, rs1_at, rs2_at, amount_at, csr_at, upper_at}
use Rattle.rv_decode.specs.Fields.{i_at, s_at, b_at, j_at, IsU, IsJ, IsI, IsS, IsB, IsR, IsShift, IsFence, IsCsr}
use Rattle.rv_decode.specs.declared.instruction.Insn.{Insn}
use Rattle.rv_decode.specs.declared.instruction.Insn.TheVariants.{Lui, Auipc, Jal, Jalr, Beq, Bne, Blt, Bge, Bltu}
use Rattle.rv_decode.specs.declared.instruction.Insn.TheVariants.{Bgeu, Lb, Lh, Lw, Ld, Lbu, Lhu, Lwu, Sb, Sh, Sw, Sd}
use Rattle.rv_decode.specs.declared.instruction.Insn.TheVariants.{Addi, Slti, Sltiu, Xori, Ori, Andi, Slli, Srli}
use Rattle.rv_decode.specs.declared.instruction.Insn.TheVariants.{Srai, Addiw, Slliw, Srliw, Sraiw, Add, Sll, Slt}
use Rattle.rv_decode.specs.declared.instruction.Insn.TheVariants.{Sltu, Xor, Srl, Or, And, Sub, Sra, Mul, Mulh}
use Rattle.rv_decode.specs.declared.instruction.Insn.TheVariants.{Mulhsu, Mulhu, Div, Divu, Rem, Remu, Addw, Sllw}
use Rattle.rv_decode.specs.declared.instruction.Insn.TheVariants.{Srlw, Subw, Sraw, Mulw, Divw, Divuw, Remw, Remuw}
use Rattle.rv_decode.specs.declared.instruction.Insn.TheVariants.{Fence, FenceI, Ecall, Ebreak, Mret, Wfi, Csrrw}
use Rattle.rv_decode.specs.declared.instruction.Insn.TheVariants.{Csrrs, Csrrc, Csrrwi, Csrrsi, Csrrci}

-- the word stands for the instruction: its format and the values of its fixed fields (Unprivileged ISA, RV32/64G
-- Instruction Set Listings; MRET and WFI: Privileged Architecture, RISC-V Privileged Instruction Set Listings)
abbrev pub Row : ℕ → Insn → Type 0
Row word (Lui rd imm) = IsU 0x37 rd imm word
Row word (Auipc rd imm) = IsU 0x17 rd imm word
Row word (Jal rd offset) = IsJ 0x6f rd offset word
Row word (Jalr rd rs1 imm) = IsI 0x67 0 rd rs1 imm word
Row word (Beq rs1 rs2 offset) = IsB 0x63 0 rs1 rs2 offset word
Row word (Bne rs1 rs2 offset) = IsB 0x63 1 rs1 rs2 offset word
Row word (Blt rs1 rs2 offset) = IsB 0x63 4 rs1 rs2 offset word
Row word (Bge rs1 rs2 offset) = IsB 0x63 5 rs1 rs2 offset word
Row word (Bltu rs1 rs2 offset) = IsB 0x63 6 rs1 rs2 offset word
Row word (Bgeu rs1 rs2 offset) = IsB 0x63 7 rs1 rs2 offset word
Row word (Lb rd rs1 imm) = IsI 0x03 0 rd rs1 imm word
Row word (Lh rd rs1 imm) = IsI 0x03 1 rd rs1 imm word
Row word (Lw rd rs1 imm) = IsI 0x03 2 rd rs1 imm word
Row word (Ld rd rs1 imm) = IsI 0x03 3 rd rs1 imm word
Row word (Lbu rd rs1 imm) = IsI 0x03 4 rd rs1 imm word
Row word (Lhu rd rs1 imm) = IsI 0x03 5 rd rs1 imm word
Row word (Lwu rd rs1 imm) = IsI 0x03 6 rd rs1 imm word
Row word (Sb rs1 rs2 imm) = IsS 0x23 0 rs1 rs2 imm word
Row word (Sh rs1 rs2 imm) = IsS 0x23 1 rs1 rs2 imm word
Row word (Sw rs1 rs2 imm) = IsS 0x23 2 rs1 rs2 imm word
Row word (Sd rs1 rs2 imm) = IsS 0x23 3 rs1 rs2 imm word
Row word (Addi rd rs1 imm) = IsI 0x13 0 rd rs1 imm word
Row word (Slti rd rs1 imm) = IsI 0x13 2 rd rs1 imm word
Row word (Sltiu rd rs1 imm) = IsI 0x13 3 rd rs1 imm word
Row word (Xori rd rs1 imm) = IsI 0x13 4 rd rs1 imm word
Row word (Ori rd rs1 imm) = IsI 0x13 6 rd rs1 imm word
Row word (Andi rd rs1 imm) = IsI 0x13 7 rd rs1 imm word
Row word (Slli rd rs1 amount) = IsShift 0x13 1 0 rd rs1 amount word
Row word (Srli rd rs1 amount) = IsShift 0x13 5 0 rd rs1 amount word
Row word (Srai rd rs1 amount) = IsShift 0x13 5 0x10 rd rs1 amount word
Row word (Addiw rd rs1 imm) = IsI 0x1b 0 rd rs1 imm word
Row word (Slliw rd rs1 amount) = IsR 0x1b 1 0 rd rs1 amount word
Row word (Srliw rd rs1 amount) = IsR 0x1b 5 0 rd rs1 amount word
Row word (Sraiw rd rs1 amount) = IsR 0x1b 5 0x20 rd rs1 amount word
Row word (Add rd rs1 rs2) = IsR 0x33 0 0 rd rs1 rs2 word
Row word (Sll rd rs1 rs2) = IsR 0x33 1 0 rd rs1 rs2 word
Row word (Slt rd rs1 rs2) = IsR 0x33 2 0 rd rs1 rs2 word
Row word (Sltu rd rs1 rs2) = IsR 0x33 3 0 rd rs1 rs2 word
Row word (Xor rd rs1 rs2) = IsR 0x33 4 0 rd rs1 rs2 word
Row word (Srl rd rs1 rs2) = IsR 0x33 5 0 rd rs1 rs2 word
Row word (Or rd rs1 rs2) = IsR 0x33 6 0 rd rs1 rs2 word
Row word (And rd rs1 rs2) = IsR 0x33 7 0 rd rs1 rs2 word
Row word (Sub rd rs1 rs2) = IsR 0x33 0 0x20 rd rs1 rs2 word
Row word (Sra rd rs1 rs2) = IsR 0x33 5 0x20 rd rs1 rs2 word
Row word (Mul rd rs1 rs2) = IsR 0x33 0 1 rd rs1 rs2 word
Row word (Mulh rd rs1 rs2) = IsR 0x33 1 1 rd rs1 rs2 word
Row word (Mulhsu rd rs1 rs2) = IsR 0x33 2 1 rd rs1 rs2 word
Row word (Mulhu rd rs1 rs2) = IsR 0x33 3 1 rd rs1 rs2 word
Row word (Div rd rs1 rs2) = IsR 0x33 4 1 rd rs1 rs2 word
Row word (Divu rd rs1 rs2) = IsR 0x33 5 1 rd rs1 rs2 word
Row word (Rem rd rs1 rs2) = IsR 0x33 6 1 rd rs1 rs2 word
Row word (Remu rd rs1 rs2) = IsR 0x33 7 1 rd rs1 rs2 word
Row word (Addw rd rs1 rs2) = IsR 0x3b 0 0 rd rs1 rs2 word
Row word (Sllw rd rs1 rs2) = IsR 0x3b 1 0 rd rs1 rs2 word
Row word (Srlw rd rs1 rs2) = IsR 0x3b 5 0 rd rs1 rs2 word
Row word (Subw rd rs1 rs2) = IsR 0x3b 0 0x20 rd rs1 rs2 word
Row word (Sraw rd rs1 rs2) = IsR 0x3b 5 0x20 rd rs1 rs2 word
Row word (Mulw rd rs1 rs2) = IsR 0x3b 0 1 rd rs1 rs2 word
Row word (Divw rd rs1 rs2) = IsR 0x3b 4 1 rd rs1 rs2 word
Row word (Divuw rd rs1 rs2) = IsR 0x3b 5 1 rd rs1 rs2 word
Row word (Remw rd rs1 rs2) = IsR 0x3b 6 1 rd rs1 rs2 word
Row word (Remuw rd rs1 rs2) = IsR 0x3b 7 1 rd rs1 rs2 word
Row word (Fence kept) = IsFence 0x0f 0 kept word
Row word (FenceI kept) = IsFence 0x0f 1 kept word
Row word Ecall = word ≡ 0x00000073
Row word Ebreak = word ≡ 0x00100073
Row word Mret = word ≡ 0x30200073
Row word Wfi = word ≡ 0x10500073
Row word (Csrrw rd rs1 csr) = IsCsr 0x73 1 rd rs1 csr word
Row word (Csrrs rd rs1 csr) = IsCsr 0x73 2 rd rs1 csr word
Row word (Csrrc rd rs1 csr) = IsCsr 0x73 3 rd rs1 csr word
Row word (Csrrwi rd imm csr) = IsCsr 0x73 5 rd imm csr word
Row word (Csrrsi rd imm csr) = IsCsr 0x73 6 rd imm csr word
Row word (Csrrci rd imm csr) = IsCsr 0x73 7 rd imm csr word

-- opcode BRANCH, by funct3 (Unprivileged ISA, 2.5.2 Conditional Branches)
unfoldable pub branch_of : ℕ → Option Insn
branch_of word =
    if funct3 word == 0 then Some (Beq (rs1_at word) (rs2_at word) (b_at word))
    else if funct3 word == 1 then Some (Bne (rs1_at word) (rs2_at word) (b_at word))
    else if funct3 word == 4 then Some (Blt (rs1_at word) (rs2_at word) (b_at word))
    else if funct3 word == 5 then Some (Bge (rs1_at word) (rs2_at word) (b_at word))
    else if funct3 word == 6 then Some (Bltu (rs1_at word) (rs2_at word) (b_at word))
    else if funct3 word == 7 then Some (Bgeu (rs1_at word) (rs2_at word) (b_at word))
    else None

-- opcode LOAD, by funct3 (Unprivileged ISA, 2.6 Load and Store Instructions; RV64I)
unfoldable pub load_of : ℕ → Option Insn
load_of word =
    if funct3 word == 0 then Some (Lb (rd_at word) (rs1_at word) (i_at word))
    else if funct3 word == 1 then Some (Lh (rd_at word) (rs1_at word) (i_at word))
    else if funct3 word == 2 then Some (Lw (rd_at word) (rs1_at word) (i_at word))
    else if funct3 word == 3 then Some (Ld (rd_at word) (rs1_at word) (i_at word))
    else if funct3 word == 4 then Some (Lbu (rd_at word) (rs1_at word) (i_at word))
    else if funct3 word == 5 then Some (Lhu (rd_at word) (rs1_at word) (i_at word))
    else if funct3 word == 6 then Some (Lwu (rd_at word) (rs1_at word) (i_at word))
    else None

-- opcode STORE, by funct3 (Unprivileged ISA, 2.6 Load and Store Instructions; RV64I)
unfoldable pub store_of : ℕ → Option Insn
store_of word =
    if funct3 word == 0 then Some (Sb (rs1_at word) (rs2_at word) (s_at word))
    else if funct3 word == 1 then Some (Sh (rs1_at word) (rs2_at word) (s_at word))
    else if funct3 word == 2 then Some (Sw (rs1_at word) (rs2_at word) (s_at word))
    else if funct3 word == 3 then Some (Sd (rs1_at word) (rs2_at word) (s_at word))
    else None

-- opcode OP-IMM, by funct3, and the shifts by funct6 (Unprivileged ISA, 2.4.1 Integer Register-Immediate Instructions;
-- RV64I)
unfoldable pub op_imm_of : ℕ → Option Insn
op_imm_of word =
    if funct3 word == 0 then Some (Addi (rd_at word) (rs1_at word) (i_at word))
    else if funct3 word == 1 then (
    if funct6 word == 0 then Some (Slli (rd_at word) (rs1_at word) (amount_at word))
    else None)
    else if funct3 word == 2 then Some (Slti (rd_at word) (rs1_at word) (i_at word))
    else if funct3 word == 3 then Some (Sltiu (rd_at word) (rs1_at word) (i_at word))
    else if funct3 word == 4 then Some (Xori (rd_at word) (rs1_at word) (i_at word))
    else if funct3 word == 5 then (
    if funct6 word == 0 then Some (Srli (rd_at word) (rs1_at word) (amount_at word))
    else if funct6 word == 0x10 then Some (Srai (rd_at word) (rs1_at word) (amount_at word))
    else None)
    else if funct3 word == 6 then Some (Ori (rd_at word) (rs1_at word) (i_at word))
    else if funct3 word == 7 then Some (Andi (rd_at word) (rs1_at word) (i_at word))
    else None

-- opcode OP-IMM-32, by funct3, and the shifts by funct7 (Unprivileged ISA, RV64I, Integer Register-Immediate
-- Instructions)
unfoldable pub op_imm_32_of : ℕ → Option Insn
op_imm_32_of word =
    if funct3 word == 0 then Some (Addiw (rd_at word) (rs1_at word) (i_at word))
    else if funct3 word == 1 then (
    if funct7 word == 0 then Some (Slliw (rd_at word) (rs1_at word) (rs2_at word))
    else None)
    else if funct3 word == 5 then (
    if funct7 word == 0 then Some (Srliw (rd_at word) (rs1_at word) (rs2_at word))
    else if funct7 word == 0x20 then Some (Sraiw (rd_at word) (rs1_at word) (rs2_at word))
    else None)
    else None

-- opcode OP with funct7 0, by funct3 (Unprivileged ISA, 2.4.2 Integer Register-Register Operations)
unfoldable pub op_base_of : ℕ → Option Insn
op_base_of word =
    if funct3 word == 0 then Some (Add (rd_at word) (rs1_at word) (rs2_at word))
    else if funct3 word == 1 then Some (Sll (rd_at word) (rs1_at word) (rs2_at word))
    else if funct3 word == 2 then Some (Slt (rd_at word) (rs1_at word) (rs2_at word))
    else if funct3 word == 3 then Some (Sltu (rd_at word) (rs1_at word) (rs2_at word))
    else if funct3 word == 4 then Some (Xor (rd_at word) (rs1_at word) (rs2_at word))
    else if funct3 word == 5 then Some (Srl (rd_at word) (rs1_at word) (rs2_at word))
    else if funct3 word == 6 then Some (Or (rd_at word) (rs1_at word) (rs2_at word))
    else if funct3 word == 7 then Some (And (rd_at word) (rs1_at word) (rs2_at word))
    else None

-- opcode OP with funct7 0x20, by funct3 (Unprivileged ISA, 2.4.2 Integer Register-Register Operations)
unfoldable pub op_alternate_of : ℕ → Option Insn
op_alternate_of word =
    if funct3 word == 0 then Some (Sub (rd_at word) (rs1_at word) (rs2_at word))
    else if funct3 word == 5 then Some (Sra (rd_at word) (rs1_at word) (rs2_at word))
    else None

-- opcode OP with funct7 1, by funct3 (Unprivileged ISA, M, Multiplication and Division Operations)
unfoldable pub op_muldiv_of : ℕ → Option Insn
op_muldiv_of word =
    if funct3 word == 0 then Some (Mul (rd_at word) (rs1_at word) (rs2_at word))
    else if funct3 word == 1 then Some (Mulh (rd_at word) (rs1_at word) (rs2_at word))
    else if funct3 word == 2 then Some (Mulhsu (rd_at word) (rs1_at word) (rs2_at word))
    else if funct3 word == 3 then Some (Mulhu (rd_at word) (rs1_at word) (rs2_at word))
    else if funct3 word == 4 then Some (Div (rd_at word) (rs1_at word) (rs2_at word))
    else if funct3 word == 5 then Some (Divu (rd_at word) (rs1_at word) (rs2_at word))
    else if funct3 word == 6 then Some (Rem (rd_at word) (rs1_at word) (rs2_at word))
    else if funct3 word == 7 then Some (Remu (rd_at word) (rs1_at word) (rs2_at word))
    else None

-- opcode OP, by funct7 (Unprivileged ISA, RV32/64G Instruction Set Listings)
unfoldable pub op_of : ℕ → Option Insn
op_of word =
    if funct7 word == 0 then op_base_of word
    else if funct7 word == 0x20 then op_alternate_of word
    else if funct7 word == 1 then op_muldiv_of word
    else None

-- opcode OP-32 with funct7 0, by funct3 (Unprivileged ISA, RV64I, Integer Register-Register Operations)
unfoldable pub op_32_base_of : ℕ → Option Insn
op_32_base_of word =
    if funct3 word == 0 then Some (Addw (rd_at word) (rs1_at word) (rs2_at word))
    else if funct3 word == 1 then Some (Sllw (rd_at word) (rs1_at word) (rs2_at word))
    else if funct3 word == 5 then Some (Srlw (rd_at word) (rs1_at word) (rs2_at word))
    else None

-- opcode OP-32 with funct7 0x20, by funct3 (Unprivileged ISA, RV64I, Integer Register-Register Operations)
unfoldable pub op_32_alternate_of : ℕ → Option Insn
op_32_alternate_of word =
    if funct3 word == 0 then Some (Subw (rd_at word) (rs1_at word) (rs2_at word))
    else if funct3 word == 5 then Some (Sraw (rd_at word) (rs1_at word) (rs2_at word))
    else None

-- opcode OP-32 with funct7 1, by funct3 (Unprivileged ISA, M, RV64M)
unfoldable pub op_32_muldiv_of : ℕ → Option Insn
op_32_muldiv_of word =
    if funct3 word == 0 then Some (Mulw (rd_at word) (rs1_at word) (rs2_at word))
    else if funct3 word == 4 then Some (Divw (rd_at word) (rs1_at word) (rs2_at word))
    else if funct3 word == 5 then Some (Divuw (rd_at word) (rs1_at word) (rs2_at word))
    else if funct3 word == 6 then Some (Remw (rd_at word) (rs1_at word) (rs2_at word))
    else if funct3 word == 7 then Some (Remuw (rd_at word) (rs1_at word) (rs2_at word))
    else None

-- opcode OP-32, by funct7 (Unprivileged ISA, RV32/64G Instruction Set Listings)
unfoldable pub op_32_of : ℕ → Option Insn
op_32_of word =
    if funct7 word == 0 then op_32_base_of word
    else if funct7 word == 0x20 then op_32_alternate_of word
    else if funct7 word == 1 then op_32_muldiv_of word
    else None

-- opcode MISC-MEM, by funct3 (Unprivileged ISA, 2.7 Memory Ordering Instructions; Zifencei)
unfoldable pub misc_mem_of : ℕ → Option Insn
misc_mem_of word =
    if funct3 word == 0 then Some (Fence word)
    else if funct3 word == 1 then Some (FenceI word)
    else None

-- opcode SYSTEM, by funct3, and under 0 by the whole word (Unprivileged ISA, 2.8 Environment Call and Breakpoints;
-- Zicsr)
unfoldable pub system_of : ℕ → Option Insn
system_of word =
    if funct3 word == 0 then (
    if word == 0x00000073 then Some Ecall
    else if word == 0x00100073 then Some Ebreak
    else if word == 0x30200073 then Some Mret
    else if word == 0x10500073 then Some Wfi
    else None)
    else if funct3 word == 1 then Some (Csrrw (rd_at word) (rs1_at word) (csr_at word))
    else if funct3 word == 2 then Some (Csrrs (rd_at word) (rs1_at word) (csr_at word))
    else if funct3 word == 3 then Some (Csrrc (rd_at word) (rs1_at word) (csr_at word))
    else if funct3 word == 5 then Some (Csrrwi (rd_at word) (rs1_at word) (csr_at word))
    else if funct3 word == 6 then Some (Csrrsi (rd_at word) (rs1_at word) (csr_at word))
    else if funct3 word == 7 then Some (Csrrci (rd_at word) (rs1_at word) (csr_at word))
    else None

-- opcode JALR (Unprivileged ISA, 2.5.1 Unconditional Jumps)
unfoldable pub jalr_of : ℕ → Option Insn
jalr_of word =
    if funct3 word == 0 then Some (Jalr (rd_at word) (rs1_at word) (i_at word)) else None

-- the instruction that the word stands for, by its opcode (Unprivileged ISA, RV32/64G Instruction Set Listings, base
-- opcode map)
unfoldable pub insn_of : ℕ → Option Insn
insn_of word =
    if opcode word == 0x37 then Some (Lui (rd_at word) (upper_at word))
    else if opcode word == 0x17 then Some (Auipc (rd_at word) (upper_at word))
    else if opcode word == 0x6f then Some (Jal (rd_at word) (j_at word))
    else if opcode word == 0x63 then branch_of word
    else if opcode word == 0x03 then load_of word
    else if opcode word == 0x23 then store_of word
    else if opcode word == 0x13 then op_imm_of word
    else if opcode word == 0x1b then op_imm_32_of word
    else if opcode word == 0x33 then op_of word
    else if opcode word == 0x3b then op_32_of word
    else if opcode word == 0x0f then misc_mem_of word
    else if opcode word == 0x73 then system_of word
    else if opcode word == 0x67 then jalr_of word
    else None
