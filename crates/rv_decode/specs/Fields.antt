-- The fields of an instruction word, and the formats as equations between them.
use Rattle.std.specs.Prelude.{◌≡◌, ℕ, ◌+◌, ◌-◌, ◌*◌, ◌/◌, ◌%◌, ◌^◌, ℤ, pos, if◌then◌else◌, nat_lt, ◌-ℤ◌}

-- the number that `count` bits of the word spell, from bit `low` upward
abbrev pub bits : ℕ → ℕ → ℕ → ℕ
bits word low count = word / 2 ^ low % 2 ^ count

-- a field of `count` bits read in two's complement: its top bit is the sign (Unprivileged ISA, 2.3 Immediate Encoding
-- Variants)
abbrev pub signed : ℕ → ℕ → ℤ
signed count field = if nat_lt field (2 ^ (count - 1)) then pos field else (pos field -ℤ pos (2 ^ count))

-- the major opcode, bits 6:0 (Unprivileged ISA, 2.2 Base Instruction Formats)
abbrev pub opcode : ℕ → ℕ
opcode word = bits word 0 7

-- bits 14:12 (Unprivileged ISA, 2.2)
abbrev pub funct3 : ℕ → ℕ
funct3 word = bits word 12 3

-- bits 31:25 (Unprivileged ISA, 2.2)
abbrev pub funct7 : ℕ → ℕ
funct7 word = bits word 25 7

-- bits 31:26, above the shift amount of a 64-bit shift (Unprivileged ISA, RV64I, Integer Register-Immediate
-- Instructions)
abbrev pub funct6 : ℕ → ℕ
funct6 word = bits word 26 6

-- the destination register, bits 11:7 (Unprivileged ISA, 2.2)
abbrev pub rd_at : ℕ → ℕ
rd_at word = bits word 7 5

-- the first source register, bits 19:15 (Unprivileged ISA, 2.2)
abbrev pub rs1_at : ℕ → ℕ
rs1_at word = bits word 15 5

-- the second source register, bits 24:20 (Unprivileged ISA, 2.2)
abbrev pub rs2_at : ℕ → ℕ
rs2_at word = bits word 20 5

-- the amount of a 64-bit shift, bits 25:20 (Unprivileged ISA, RV64I, Integer Register-Immediate Instructions)
abbrev pub amount_at : ℕ → ℕ
amount_at word = bits word 20 6

-- the number of a control and status register, bits 31:20 (Unprivileged ISA, Zicsr, CSR Instructions)
abbrev pub csr_at : ℕ → ℕ
csr_at word = bits word 20 12

-- the upper immediate as its 20 bits, 31:12 (Unprivileged ISA, 2.2, U-type)
abbrev pub upper_at : ℕ → ℕ
upper_at word = bits word 12 20

-- the immediate imm[11:0] of bits 31:20 (Unprivileged ISA, 2.3, I-immediate)
abbrev pub i_at : ℕ → ℤ
i_at word = signed 12 (bits word 20 12)

-- the immediate imm[11:5] of bits 31:25, imm[4:0] of bits 11:7 (Unprivileged ISA, 2.3, S-immediate)
abbrev pub s_at : ℕ → ℤ
s_at word = signed 12 (bits word 25 7 * 2 ^ 5 + bits word 7 5)

-- the offset imm[12] of bit 31, imm[11] of bit 7, imm[10:5] of bits 30:25, imm[4:1] of bits 11:8 (Unprivileged ISA,
-- 2.3, B-immediate)
abbrev pub b_at : ℕ → ℤ
b_at word = signed 13 (bits word 31 1 * 2 ^ 12 + bits word 7 1 * 2 ^ 11 + bits word 25 6 * 2 ^ 5 + bits word 8 4 * 2)

-- the offset imm[20] of bit 31, imm[19:12] of bits 19:12, imm[11] of bit 20, imm[10:1] of bits 30:21 (Unprivileged ISA,
-- 2.3, J-immediate)
abbrev pub j_at : ℕ → ℤ
j_at word =
    signed 21 (bits word 31 1 * 2 ^ 20 + bits word 12 8 * 2 ^ 12 + bits word 20 1 * 2 ^ 11 + bits word 21 10 * 2)

-- a word of the U format: an upper immediate (Unprivileged ISA, 2.2)
pub record IsU (op rd imm word : ℕ) : Type 0 where
  pub opcode_is : opcode word ≡ op
  pub rd_is : rd_at word ≡ rd
  pub imm_is : upper_at word ≡ imm

-- a word of the J format: a jump's offset (Unprivileged ISA, 2.3)
pub record IsJ (op rd : ℕ) (offset : ℤ) (word : ℕ) : Type 0 where
  pub opcode_is : opcode word ≡ op
  pub rd_is : rd_at word ≡ rd
  pub offset_is : j_at word ≡ offset

-- a word of the I format: a register and an immediate (Unprivileged ISA, 2.2)
pub record IsI (op f3 rd rs1 : ℕ) (imm : ℤ) (word : ℕ) : Type 0 where
  pub opcode_is : opcode word ≡ op
  pub funct3_is : funct3 word ≡ f3
  pub rd_is : rd_at word ≡ rd
  pub rs1_is : rs1_at word ≡ rs1
  pub imm_is : i_at word ≡ imm

-- a word of the S format: a store (Unprivileged ISA, 2.2)
pub record IsS (op f3 rs1 rs2 : ℕ) (imm : ℤ) (word : ℕ) : Type 0 where
  pub opcode_is : opcode word ≡ op
  pub funct3_is : funct3 word ≡ f3
  pub rs1_is : rs1_at word ≡ rs1
  pub rs2_is : rs2_at word ≡ rs2
  pub imm_is : s_at word ≡ imm

-- a word of the B format: a branch's offset (Unprivileged ISA, 2.3)
pub record IsB (op f3 rs1 rs2 : ℕ) (offset : ℤ) (word : ℕ) : Type 0 where
  pub opcode_is : opcode word ≡ op
  pub funct3_is : funct3 word ≡ f3
  pub rs1_is : rs1_at word ≡ rs1
  pub rs2_is : rs2_at word ≡ rs2
  pub offset_is : b_at word ≡ offset

-- a word of the R format: two source registers, or a 32-bit shift with its amount in rs2's place (Unprivileged ISA,
-- 2.2)
pub record IsR (op f3 f7 rd rs1 rs2 word : ℕ) : Type 0 where
  pub opcode_is : opcode word ≡ op
  pub funct3_is : funct3 word ≡ f3
  pub funct7_is : funct7 word ≡ f7
  pub rd_is : rd_at word ≡ rd
  pub rs1_is : rs1_at word ≡ rs1
  pub rs2_is : rs2_at word ≡ rs2

-- a 64-bit shift by a constant: the I format with the amount in bits 25:20 (Unprivileged ISA, RV64I, Integer
-- Register-Immediate Instructions)
pub record IsShift (op f3 f6 rd rs1 amount word : ℕ) : Type 0 where
  pub opcode_is : opcode word ≡ op
  pub funct3_is : funct3 word ≡ f3
  pub funct6_is : funct6 word ≡ f6
  pub rd_is : rd_at word ≡ rd
  pub rs1_is : rs1_at word ≡ rs1
  pub amount_is : amount_at word ≡ amount

-- a fence, whose other bits are kept whole (Unprivileged ISA, 2.7 Memory Ordering Instructions; Zifencei)
pub record IsFence (op f3 kept word : ℕ) : Type 0 where
  pub opcode_is : opcode word ≡ op
  pub funct3_is : funct3 word ≡ f3
  pub word_is : word ≡ kept

-- a CSR instruction, with a source register or a 5-bit immediate in bits 19:15 (Unprivileged ISA, Zicsr, CSR
-- Instructions)
pub record IsCsr (op f3 rd source csr word : ℕ) : Type 0 where
  pub opcode_is : opcode word ≡ op
  pub funct3_is : funct3 word ≡ f3
  pub rd_is : rd_at word ≡ rd
  pub source_is : rs1_at word ≡ source
  pub csr_is : csr_at word ≡ csr
