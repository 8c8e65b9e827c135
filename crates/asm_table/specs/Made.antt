-- The instruction of a mnemonic and its operands, as they are written (Unprivileged ISA, instruction listings).
use Rattle.std.specs.Prelude.{ℕ, ℤ}
use Rattle.rv_decode.specs.declared.instruction.Insn.{Insn}
use Rattle.rv_decode.specs.declared.instruction.Insn.TheVariants as insn
use Rattle.asm_table.specs.declared.mnemonics.RegisterOp.{RegisterOp}
use Rattle.asm_table.specs.declared.mnemonics.RegisterOp.TheVariants as of_registers
use Rattle.asm_table.specs.declared.mnemonics.ImmediateOp.{ImmediateOp}
use Rattle.asm_table.specs.declared.mnemonics.ImmediateOp.TheVariants as of_immediate
use Rattle.asm_table.specs.declared.mnemonics.ShiftOp.{ShiftOp}
use Rattle.asm_table.specs.declared.mnemonics.ShiftOp.TheVariants as of_shift
use Rattle.asm_table.specs.declared.mnemonics.ShortShiftOp.{ShortShiftOp}
use Rattle.asm_table.specs.declared.mnemonics.ShortShiftOp.TheVariants as of_shortshift
use Rattle.asm_table.specs.declared.mnemonics.LoadOp.{LoadOp}
use Rattle.asm_table.specs.declared.mnemonics.LoadOp.TheVariants as of_load
use Rattle.asm_table.specs.declared.mnemonics.StoreOp.{StoreOp}
use Rattle.asm_table.specs.declared.mnemonics.StoreOp.TheVariants as of_store
use Rattle.asm_table.specs.declared.mnemonics.UpperOp.{UpperOp}
use Rattle.asm_table.specs.declared.mnemonics.UpperOp.TheVariants as of_upper
use Rattle.asm_table.specs.declared.mnemonics.CsrOp.{CsrOp}
use Rattle.asm_table.specs.declared.mnemonics.CsrOp.TheVariants as of_csr
use Rattle.asm_table.specs.declared.mnemonics.CsrImmediateOp.{CsrImmediateOp}
use Rattle.asm_table.specs.declared.mnemonics.CsrImmediateOp.TheVariants as of_csrimmediate
use Rattle.asm_table.specs.declared.mnemonics.BareOp.{BareOp}
use Rattle.asm_table.specs.declared.mnemonics.BareOp.TheVariants as of_bare

-- rd, rs1, rs2
abbrev pub registers_insn : RegisterOp → ℕ → ℕ → ℕ → Insn
registers_insn of_registers.Add rd rs1 rs2 = insn.Add rd rs1 rs2
registers_insn of_registers.Sll rd rs1 rs2 = insn.Sll rd rs1 rs2
registers_insn of_registers.Slt rd rs1 rs2 = insn.Slt rd rs1 rs2
registers_insn of_registers.Sltu rd rs1 rs2 = insn.Sltu rd rs1 rs2
registers_insn of_registers.Xor rd rs1 rs2 = insn.Xor rd rs1 rs2
registers_insn of_registers.Srl rd rs1 rs2 = insn.Srl rd rs1 rs2
registers_insn of_registers.Or rd rs1 rs2 = insn.Or rd rs1 rs2
registers_insn of_registers.And rd rs1 rs2 = insn.And rd rs1 rs2
registers_insn of_registers.Sub rd rs1 rs2 = insn.Sub rd rs1 rs2
registers_insn of_registers.Sra rd rs1 rs2 = insn.Sra rd rs1 rs2
registers_insn of_registers.Mul rd rs1 rs2 = insn.Mul rd rs1 rs2
registers_insn of_registers.Mulh rd rs1 rs2 = insn.Mulh rd rs1 rs2
registers_insn of_registers.Mulhsu rd rs1 rs2 = insn.Mulhsu rd rs1 rs2
registers_insn of_registers.Mulhu rd rs1 rs2 = insn.Mulhu rd rs1 rs2
registers_insn of_registers.Div rd rs1 rs2 = insn.Div rd rs1 rs2
registers_insn of_registers.Divu rd rs1 rs2 = insn.Divu rd rs1 rs2
registers_insn of_registers.Rem rd rs1 rs2 = insn.Rem rd rs1 rs2
registers_insn of_registers.Remu rd rs1 rs2 = insn.Remu rd rs1 rs2
registers_insn of_registers.Addw rd rs1 rs2 = insn.Addw rd rs1 rs2
registers_insn of_registers.Sllw rd rs1 rs2 = insn.Sllw rd rs1 rs2
registers_insn of_registers.Srlw rd rs1 rs2 = insn.Srlw rd rs1 rs2
registers_insn of_registers.Subw rd rs1 rs2 = insn.Subw rd rs1 rs2
registers_insn of_registers.Sraw rd rs1 rs2 = insn.Sraw rd rs1 rs2
registers_insn of_registers.Mulw rd rs1 rs2 = insn.Mulw rd rs1 rs2
registers_insn of_registers.Divw rd rs1 rs2 = insn.Divw rd rs1 rs2
registers_insn of_registers.Divuw rd rs1 rs2 = insn.Divuw rd rs1 rs2
registers_insn of_registers.Remw rd rs1 rs2 = insn.Remw rd rs1 rs2
registers_insn of_registers.Remuw rd rs1 rs2 = insn.Remuw rd rs1 rs2

-- rd, rs1 and a number of 12 bits
abbrev pub immediate_insn : ImmediateOp → ℕ → ℕ → ℤ → Insn
immediate_insn of_immediate.Addi rd rs1 imm = insn.Addi rd rs1 imm
immediate_insn of_immediate.Slti rd rs1 imm = insn.Slti rd rs1 imm
immediate_insn of_immediate.Sltiu rd rs1 imm = insn.Sltiu rd rs1 imm
immediate_insn of_immediate.Xori rd rs1 imm = insn.Xori rd rs1 imm
immediate_insn of_immediate.Ori rd rs1 imm = insn.Ori rd rs1 imm
immediate_insn of_immediate.Andi rd rs1 imm = insn.Andi rd rs1 imm
immediate_insn of_immediate.Addiw rd rs1 imm = insn.Addiw rd rs1 imm

-- rd, rs1 and an amount below 64
abbrev pub shift_insn : ShiftOp → ℕ → ℕ → ℕ → Insn
shift_insn of_shift.Slli rd rs1 amount = insn.Slli rd rs1 amount
shift_insn of_shift.Srli rd rs1 amount = insn.Srli rd rs1 amount
shift_insn of_shift.Srai rd rs1 amount = insn.Srai rd rs1 amount

-- rd, rs1 and an amount below 32
abbrev pub short_shift_insn : ShortShiftOp → ℕ → ℕ → ℕ → Insn
short_shift_insn of_shortshift.Slliw rd rs1 amount = insn.Slliw rd rs1 amount
short_shift_insn of_shortshift.Srliw rd rs1 amount = insn.Srliw rd rs1 amount
short_shift_insn of_shortshift.Sraiw rd rs1 amount = insn.Sraiw rd rs1 amount

-- rd, and a place: a base register and an offset
abbrev pub load_insn : LoadOp → ℕ → ℕ → ℤ → Insn
load_insn of_load.Jalr rd rs1 imm = insn.Jalr rd rs1 imm
load_insn of_load.Lb rd rs1 imm = insn.Lb rd rs1 imm
load_insn of_load.Lh rd rs1 imm = insn.Lh rd rs1 imm
load_insn of_load.Lw rd rs1 imm = insn.Lw rd rs1 imm
load_insn of_load.Ld rd rs1 imm = insn.Ld rd rs1 imm
load_insn of_load.Lbu rd rs1 imm = insn.Lbu rd rs1 imm
load_insn of_load.Lhu rd rs1 imm = insn.Lhu rd rs1 imm
load_insn of_load.Lwu rd rs1 imm = insn.Lwu rd rs1 imm

-- a place, a base register and an offset, and the register that is stored there
abbrev pub store_insn : StoreOp → ℕ → ℕ → ℤ → Insn
store_insn of_store.Sb rs1 rs2 imm = insn.Sb rs1 rs2 imm
store_insn of_store.Sh rs1 rs2 imm = insn.Sh rs1 rs2 imm
store_insn of_store.Sw rs1 rs2 imm = insn.Sw rs1 rs2 imm
store_insn of_store.Sd rs1 rs2 imm = insn.Sd rs1 rs2 imm

-- rd and the upper 20 bits
abbrev pub upper_insn : UpperOp → ℕ → ℕ → Insn
upper_insn of_upper.Lui rd imm = insn.Lui rd imm
upper_insn of_upper.Auipc rd imm = insn.Auipc rd imm

-- rd, rs1 and a CSR
abbrev pub csr_insn : CsrOp → ℕ → ℕ → ℕ → Insn
csr_insn of_csr.Csrrw rd rs1 csr = insn.Csrrw rd rs1 csr
csr_insn of_csr.Csrrs rd rs1 csr = insn.Csrrs rd rs1 csr
csr_insn of_csr.Csrrc rd rs1 csr = insn.Csrrc rd rs1 csr

-- rd, a number of 5 bits and a CSR
abbrev pub csr_immediate_insn : CsrImmediateOp → ℕ → ℕ → ℕ → Insn
csr_immediate_insn of_csrimmediate.Csrrwi rd imm csr = insn.Csrrwi rd imm csr
csr_immediate_insn of_csrimmediate.Csrrsi rd imm csr = insn.Csrrsi rd imm csr
csr_immediate_insn of_csrimmediate.Csrrci rd imm csr = insn.Csrrci rd imm csr

-- no operand; the fences are the words that order all accesses
abbrev pub bare_insn : BareOp → Insn
bare_insn of_bare.Ecall = insn.Ecall
bare_insn of_bare.Ebreak = insn.Ebreak
bare_insn of_bare.Mret = insn.Mret
bare_insn of_bare.Wfi = insn.Wfi
bare_insn of_bare.Fence = insn.Fence 0x0ff0000f
bare_insn of_bare.FenceI = insn.FenceI 0x0000100f
