-- A test that the kernel's items can be written: the items of its kinds whose fields are in range.
use Rattle.std.proofs.Common.{◌≡◌, ℕ, ◌&&◌, Bool, true, false, nat_lt, ℤ, pos, negsuc, List, All, get_or, arith}
use Rattle.std.specs.List.{list_all}
use Rattle.std.proofs.lemmas.List.Sums.{AllPass-from_list_all}
use Rattle.std.proofs.lemmas.Bool.Decides.{nat_tests}
use Rattle.rv_decode.specs.Fits.{FitsSignedBits, IsFit}
use Rattle.rv_decode.specs.declared.instruction.Insn.{Insn}
use Rattle.rv_decode.specs.declared.instruction.Insn.TheVariants.{Lui, Auipc, Addi, Sltiu, Andi, Slli, Srli, Add, Sub, Srl, Ld, Lbu, Sd, Jalr, Csrrw, Csrrs, Mret}
use Rattle.asm_items.specs.declared.item.Item.{Item}
use Rattle.asm_items.specs.declared.item.Item.TheVariants.{Plain, Branch, Jump, Address, Label}
use Rattle.asm_items.specs.Printable.{IsPrintable, is_insn_printable}

-- a signed number of twelve bits
abbrev pub is_short : ℤ → Bool
is_short (pos n) = nat_lt n 2048
is_short (negsuc n) = nat_lt n 2048

abbrev pub are_registers : ℕ → ℕ → Bool
are_registers a b = nat_lt a 32 && nat_lt b 32

abbrev pub is_insn_fit : Insn → Bool
is_insn_fit (Lui rd imm) = nat_lt rd 32 && nat_lt imm 1048576
is_insn_fit (Auipc rd imm) = nat_lt rd 32 && nat_lt imm 1048576
is_insn_fit (Addi rd rs1 imm) = are_registers rd rs1 && is_short imm
is_insn_fit (Sltiu rd rs1 imm) = are_registers rd rs1 && is_short imm
is_insn_fit (Andi rd rs1 imm) = are_registers rd rs1 && is_short imm
is_insn_fit (Slli rd rs1 amount) = are_registers rd rs1 && nat_lt amount 64
is_insn_fit (Srli rd rs1 amount) = are_registers rd rs1 && nat_lt amount 64
is_insn_fit (Add rd rs1 rs2) = are_registers rd rs1 && nat_lt rs2 32
is_insn_fit (Sub rd rs1 rs2) = are_registers rd rs1 && nat_lt rs2 32
is_insn_fit (Srl rd rs1 rs2) = are_registers rd rs1 && nat_lt rs2 32
is_insn_fit (Ld rd rs1 imm) = are_registers rd rs1 && is_short imm
is_insn_fit (Lbu rd rs1 imm) = are_registers rd rs1 && is_short imm
is_insn_fit (Sd rs1 rs2 imm) = are_registers rs1 rs2 && is_short imm
is_insn_fit (Jalr rd rs1 imm) = are_registers rd rs1 && is_short imm
is_insn_fit (Csrrw rd rs1 csr) = are_registers rd rs1 && nat_lt csr 4096
is_insn_fit (Csrrs rd rs1 csr) = are_registers rd rs1 && nat_lt csr 4096
is_insn_fit Mret = true
is_insn_fit _ = false

abbrev pub is_fit : Item → Bool
is_fit (Plain insn) = is_insn_fit insn
is_fit (Branch cond rs1 rs2 name) = are_registers rs1 rs2
is_fit (Jump rd name) = nat_lt rd 32
is_fit (Address rd name) = nat_lt rd 32
is_fit (Label name) = true
is_fit _ = false

shorts : (imm : ℤ) → is_short imm ≡ true → FitsSignedBits 12 imm
shorts (pos n) h = grind (arith, nat_tests)
shorts (negsuc n) h = grind (arith, nat_tests)

insn_fits : (insn : Insn) → is_insn_fit insn ≡ true → IsFit insn × (is_insn_printable insn ≡ true)
insn_fits (Lui rd imm) h = grind (arith, nat_tests)
insn_fits (Auipc rd imm) h = grind (arith, nat_tests)
insn_fits (Addi rd rs1 imm) h = grind (arith, nat_tests, shorts)
insn_fits (Sltiu rd rs1 imm) h = grind (arith, nat_tests, shorts)
insn_fits (Andi rd rs1 imm) h = grind (arith, nat_tests, shorts)
insn_fits (Slli rd rs1 amount) h = grind (arith, nat_tests)
insn_fits (Srli rd rs1 amount) h = grind (arith, nat_tests)
insn_fits (Add rd rs1 rs2) h = grind (arith, nat_tests)
insn_fits (Sub rd rs1 rs2) h = grind (arith, nat_tests)
insn_fits (Srl rd rs1 rs2) h = grind (arith, nat_tests)
insn_fits (Ld rd rs1 imm) h = grind (arith, nat_tests, shorts)
insn_fits (Lbu rd rs1 imm) h = grind (arith, nat_tests, shorts)
insn_fits (Sd rs1 rs2 imm) h = grind (arith, nat_tests, shorts)
insn_fits (Jalr rd rs1 imm) h = grind (arith, nat_tests, shorts)
insn_fits (Csrrw rd rs1 csr) h = grind (arith, nat_tests)
insn_fits (Csrrs rd rs1 csr) h = grind (arith, nat_tests)
insn_fits Mret h = grind arith
insn_fits _ h = cc

fits : (item : Item) → is_fit item ≡ true → IsPrintable item
fits (Plain insn) h = insn_fits insn h
fits (Branch cond rs1 rs2 name) h = grind (arith, nat_tests)
fits (Jump rd name) h = grind (arith, nat_tests)
fits (Address rd name) h = grind (arith, nat_tests)
fits (Label name) h = grind arith
fits _ h = cc

-- items that pass can be written
pub all_fit : (items : List Item) → list_all is_fit items ≡ true → All IsPrintable items
all_fit items h = λ k d below. fits (get_or items k d) (AllPass-from_list_all is_fit items h k d below)
