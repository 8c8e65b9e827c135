-- The ranges of the fields of what stands in the table.
use Rattle.std.proofs.Common.{◌≡◌, ℕ, ℤ, pos, negsuc, ◌<◌, ◌+◌, ◌*◌, ◌/◌, ◌%◌, ◌^◌, ◌-◌, arith, subst, sym, Bool, true, false, nat_lt, if◌then◌else◌, refl}
use Rattle.std.specs.Prelude.{◌-ℤ◌, Option, Some, None, IfSome}
use Rattle.std.proofs.lemmas.Int.{ints}
use Rattle.std.proofs.lemmas.Bool.{ltb-true, ltb-false}
use Rattle.rv_decode.specs.declared.instruction.Insn.{Insn}
use Rattle.rv_decode.specs.declared.instruction.Insn.TheVariants.{Lui, Auipc, Jal, Jalr, Beq, Bne, Blt, Bge, Bltu, Bgeu, Lb, Lh, Lw, Ld, Lbu, Lhu, Lwu, Sb, Sh, Sw, Sd, Addi, Slti, Sltiu, Xori, Ori, Andi, Slli, Srli, Srai, Addiw, Slliw, Srliw, Sraiw, Add, Sll, Slt, Sltu, Xor, Srl, Or, And, Sub, Sra, Mul, Mulh, Mulhsu, Mulhu, Div, Divu, Rem, Remu, Addw, Sllw, Srlw, Subw, Sraw, Mulw, Divw, Divuw, Remw, Remuw, Fence, FenceI, Ecall, Ebreak, Mret, Wfi, Csrrw, Csrrs, Csrrc, Csrrwi, Csrrsi, Csrrci}
use Rattle.rv_decode.specs.Fields.{bits, opcode, funct3, i_at, s_at, b_at, j_at}
use Rattle.rv_decode.specs.InsnTable.{insn_of, Row}
use Rattle.rv_decode.specs.Fits.{IsFit, FitsSignedBits, IsEven}
use Rattle.rv_decode.proofs.Rows.{decoded}

-- five bits spell a number below 32
five : (w k n : ℕ) → w / 2 ^ k % 2 ^ 5 ≡ n → n < 32
five w k n e = omega arith

-- n as a signed number of h + h values
minus : (n h k : ℕ) → k + n ≡ h + h → h < n + 1 → 0 < k → pos n -ℤ pos (h + h) ≡ negsuc (k - 1)
minus n h k e l p = omega (arith, ints)

-- z is from -half up to half
abbrev Below : ℕ → ℤ → Type 0
Below half (pos n) = n < half
Below half (negsuc n) = n < half

-- a field below h + h, read in two's complement, is from -h up to h
of-field : (h n : ℕ) (z : ℤ) → n < h + h → (if nat_lt n h then pos n else (pos n -ℤ pos (h + h))) ≡ z → Below h z
of-field h n z l e = go (nat_lt n h) refl e
  where
    go : (b : Bool) → nat_lt n h ≡ b → (if b then pos n else (pos n -ℤ pos (h + h))) ≡ z → Below h z
    go true t q = subst (Below h) q (ltb-true n h t)
    go false t q = let g : h < n + 1 = omega (arith, ltb-false n h t) in
        let s : pos n -ℤ pos (h + h) ≡ negsuc (h + h - n - 1) = minus n h (h + h - n) (omega arith) g (omega arith) in
        let v : h + h - n - 1 < h = omega arith in
        subst (Below h) q (subst (Below h) (sym s) v)

-- an even field, read in two's complement, is even
even-field : (h n : ℕ) (z : ℤ) → n < h + h → h % 2 ≡ 0 → n % 2 ≡ 0 → (if nat_lt n h then pos n else (pos n -ℤ pos (h + h))) ≡ z → IsEven z
even-field h n z l a b e = go (nat_lt n h) refl e
  where
    go : (c : Bool) → nat_lt n h ≡ c → (if c then pos n else (pos n -ℤ pos (h + h))) ≡ z → IsEven z
    go true t q = subst IsEven q b
    go false t q = let g : h < n + 1 = omega (arith, ltb-false n h t) in
        let s : pos n -ℤ pos (h + h) ≡ negsuc (h + h - n - 1) = minus n h (h + h - n) (omega arith) g (omega arith) in
        let v : (h + h - n - 1) % 2 ≡ 1 = omega arith in
        subst IsEven q (subst IsEven (sym s) v)

-- the range of an I-immediate
i-fits : (w : ℕ) (z : ℤ) → i_at w ≡ z → FitsSignedBits 12 z
i-fits w z e = of-field 2048 (bits w 20 12) z (omega arith) e

-- the range of an S-immediate
s-fits : (w : ℕ) (z : ℤ) → s_at w ≡ z → FitsSignedBits 12 z
s-fits w z e = of-field 2048 (bits w 25 7 * 2 ^ 5 + bits w 7 5) z (omega arith) e

-- the range of a branch's offset
b-fits : (w : ℕ) (z : ℤ) → b_at w ≡ z → FitsSignedBits 13 z
b-fits w z e = of-field 4096 (bits w 31 1 * 2 ^ 12 + bits w 7 1 * 2 ^ 11 + bits w 25 6 * 2 ^ 5 + bits w 8 4 * 2) z (omega arith) e

-- a branch's offset is even
b-even : (w : ℕ) (z : ℤ) → b_at w ≡ z → IsEven z
b-even w z e = even-field 4096 (bits w 31 1 * 2 ^ 12 + bits w 7 1 * 2 ^ 11 + bits w 25 6 * 2 ^ 5 + bits w 8 4 * 2) z (omega arith) refl (omega arith) e

-- the range of a jump's offset
j-fits : (w : ℕ) (z : ℤ) → j_at w ≡ z → FitsSignedBits 21 z
j-fits w z e = of-field 1048576 (bits w 31 1 * 2 ^ 20 + bits w 12 8 * 2 ^ 12 + bits w 20 1 * 2 ^ 11 + bits w 21 10 * 2) z (omega arith) e

-- a jump's offset is even
j-even : (w : ℕ) (z : ℤ) → j_at w ≡ z → IsEven z
j-even w z e = even-field 1048576 (bits w 31 1 * 2 ^ 20 + bits w 12 8 * 2 ^ 12 + bits w 20 1 * 2 ^ 11 + bits w 21 10 * 2) z (omega arith) refl (omega arith) e

-- the opcode of a kept word
opcode-of : (w v k : ℕ) → w ≡ v → opcode w ≡ k → opcode v ≡ k
opcode-of w v k e o = subst (λ x. opcode x ≡ k) e o

-- the funct3 of a kept word
funct3-of : (w v k : ℕ) → w ≡ v → funct3 w ≡ k → funct3 v ≡ k
funct3-of w v k e o = subst (λ x. funct3 x ≡ k) e o

-- what stands in the table has its fields in their ranges
pub row-fits : (w : ℕ) (i : Insn) → Row w i → IsFit i
row-fits w (Lui rd imm) r = (five w 7 rd r.rd_is, omega (arith, r.imm_is))
row-fits w (Auipc rd imm) r = (five w 7 rd r.rd_is, omega (arith, r.imm_is))
row-fits w (Jal rd offset) r = (five w 7 rd r.rd_is, j-fits w offset r.offset_is, j-even w offset r.offset_is)
row-fits w (Jalr rd rs1 imm) r = (five w 7 rd r.rd_is, five w 15 rs1 r.rs1_is, i-fits w imm r.imm_is)
row-fits w (Beq rs1 rs2 offset) r = (five w 15 rs1 r.rs1_is, five w 20 rs2 r.rs2_is, b-fits w offset r.offset_is, b-even w offset r.offset_is)
row-fits w (Bne rs1 rs2 offset) r = (five w 15 rs1 r.rs1_is, five w 20 rs2 r.rs2_is, b-fits w offset r.offset_is, b-even w offset r.offset_is)
row-fits w (Blt rs1 rs2 offset) r = (five w 15 rs1 r.rs1_is, five w 20 rs2 r.rs2_is, b-fits w offset r.offset_is, b-even w offset r.offset_is)
row-fits w (Bge rs1 rs2 offset) r = (five w 15 rs1 r.rs1_is, five w 20 rs2 r.rs2_is, b-fits w offset r.offset_is, b-even w offset r.offset_is)
row-fits w (Bltu rs1 rs2 offset) r = (five w 15 rs1 r.rs1_is, five w 20 rs2 r.rs2_is, b-fits w offset r.offset_is, b-even w offset r.offset_is)
row-fits w (Bgeu rs1 rs2 offset) r = (five w 15 rs1 r.rs1_is, five w 20 rs2 r.rs2_is, b-fits w offset r.offset_is, b-even w offset r.offset_is)
row-fits w (Lb rd rs1 imm) r = (five w 7 rd r.rd_is, five w 15 rs1 r.rs1_is, i-fits w imm r.imm_is)
row-fits w (Lh rd rs1 imm) r = (five w 7 rd r.rd_is, five w 15 rs1 r.rs1_is, i-fits w imm r.imm_is)
row-fits w (Lw rd rs1 imm) r = (five w 7 rd r.rd_is, five w 15 rs1 r.rs1_is, i-fits w imm r.imm_is)
row-fits w (Ld rd rs1 imm) r = (five w 7 rd r.rd_is, five w 15 rs1 r.rs1_is, i-fits w imm r.imm_is)
row-fits w (Lbu rd rs1 imm) r = (five w 7 rd r.rd_is, five w 15 rs1 r.rs1_is, i-fits w imm r.imm_is)
row-fits w (Lhu rd rs1 imm) r = (five w 7 rd r.rd_is, five w 15 rs1 r.rs1_is, i-fits w imm r.imm_is)
row-fits w (Lwu rd rs1 imm) r = (five w 7 rd r.rd_is, five w 15 rs1 r.rs1_is, i-fits w imm r.imm_is)
row-fits w (Sb rs1 rs2 imm) r = (five w 15 rs1 r.rs1_is, five w 20 rs2 r.rs2_is, s-fits w imm r.imm_is)
row-fits w (Sh rs1 rs2 imm) r = (five w 15 rs1 r.rs1_is, five w 20 rs2 r.rs2_is, s-fits w imm r.imm_is)
row-fits w (Sw rs1 rs2 imm) r = (five w 15 rs1 r.rs1_is, five w 20 rs2 r.rs2_is, s-fits w imm r.imm_is)
row-fits w (Sd rs1 rs2 imm) r = (five w 15 rs1 r.rs1_is, five w 20 rs2 r.rs2_is, s-fits w imm r.imm_is)
row-fits w (Addi rd rs1 imm) r = (five w 7 rd r.rd_is, five w 15 rs1 r.rs1_is, i-fits w imm r.imm_is)
row-fits w (Slti rd rs1 imm) r = (five w 7 rd r.rd_is, five w 15 rs1 r.rs1_is, i-fits w imm r.imm_is)
row-fits w (Sltiu rd rs1 imm) r = (five w 7 rd r.rd_is, five w 15 rs1 r.rs1_is, i-fits w imm r.imm_is)
row-fits w (Xori rd rs1 imm) r = (five w 7 rd r.rd_is, five w 15 rs1 r.rs1_is, i-fits w imm r.imm_is)
row-fits w (Ori rd rs1 imm) r = (five w 7 rd r.rd_is, five w 15 rs1 r.rs1_is, i-fits w imm r.imm_is)
row-fits w (Andi rd rs1 imm) r = (five w 7 rd r.rd_is, five w 15 rs1 r.rs1_is, i-fits w imm r.imm_is)
row-fits w (Slli rd rs1 amount) r = (five w 7 rd r.rd_is, five w 15 rs1 r.rs1_is, omega (arith, r.amount_is))
row-fits w (Srli rd rs1 amount) r = (five w 7 rd r.rd_is, five w 15 rs1 r.rs1_is, omega (arith, r.amount_is))
row-fits w (Srai rd rs1 amount) r = (five w 7 rd r.rd_is, five w 15 rs1 r.rs1_is, omega (arith, r.amount_is))
row-fits w (Addiw rd rs1 imm) r = (five w 7 rd r.rd_is, five w 15 rs1 r.rs1_is, i-fits w imm r.imm_is)
row-fits w (Slliw rd rs1 amount) r = (five w 7 rd r.rd_is, five w 15 rs1 r.rs1_is, five w 20 amount r.rs2_is)
row-fits w (Srliw rd rs1 amount) r = (five w 7 rd r.rd_is, five w 15 rs1 r.rs1_is, five w 20 amount r.rs2_is)
row-fits w (Sraiw rd rs1 amount) r = (five w 7 rd r.rd_is, five w 15 rs1 r.rs1_is, five w 20 amount r.rs2_is)
row-fits w (Add rd rs1 rs2) r = (five w 7 rd r.rd_is, five w 15 rs1 r.rs1_is, five w 20 rs2 r.rs2_is)
row-fits w (Sll rd rs1 rs2) r = (five w 7 rd r.rd_is, five w 15 rs1 r.rs1_is, five w 20 rs2 r.rs2_is)
row-fits w (Slt rd rs1 rs2) r = (five w 7 rd r.rd_is, five w 15 rs1 r.rs1_is, five w 20 rs2 r.rs2_is)
row-fits w (Sltu rd rs1 rs2) r = (five w 7 rd r.rd_is, five w 15 rs1 r.rs1_is, five w 20 rs2 r.rs2_is)
row-fits w (Xor rd rs1 rs2) r = (five w 7 rd r.rd_is, five w 15 rs1 r.rs1_is, five w 20 rs2 r.rs2_is)
row-fits w (Srl rd rs1 rs2) r = (five w 7 rd r.rd_is, five w 15 rs1 r.rs1_is, five w 20 rs2 r.rs2_is)
row-fits w (Or rd rs1 rs2) r = (five w 7 rd r.rd_is, five w 15 rs1 r.rs1_is, five w 20 rs2 r.rs2_is)
row-fits w (And rd rs1 rs2) r = (five w 7 rd r.rd_is, five w 15 rs1 r.rs1_is, five w 20 rs2 r.rs2_is)
row-fits w (Sub rd rs1 rs2) r = (five w 7 rd r.rd_is, five w 15 rs1 r.rs1_is, five w 20 rs2 r.rs2_is)
row-fits w (Sra rd rs1 rs2) r = (five w 7 rd r.rd_is, five w 15 rs1 r.rs1_is, five w 20 rs2 r.rs2_is)
row-fits w (Mul rd rs1 rs2) r = (five w 7 rd r.rd_is, five w 15 rs1 r.rs1_is, five w 20 rs2 r.rs2_is)
row-fits w (Mulh rd rs1 rs2) r = (five w 7 rd r.rd_is, five w 15 rs1 r.rs1_is, five w 20 rs2 r.rs2_is)
row-fits w (Mulhsu rd rs1 rs2) r = (five w 7 rd r.rd_is, five w 15 rs1 r.rs1_is, five w 20 rs2 r.rs2_is)
row-fits w (Mulhu rd rs1 rs2) r = (five w 7 rd r.rd_is, five w 15 rs1 r.rs1_is, five w 20 rs2 r.rs2_is)
row-fits w (Div rd rs1 rs2) r = (five w 7 rd r.rd_is, five w 15 rs1 r.rs1_is, five w 20 rs2 r.rs2_is)
row-fits w (Divu rd rs1 rs2) r = (five w 7 rd r.rd_is, five w 15 rs1 r.rs1_is, five w 20 rs2 r.rs2_is)
row-fits w (Rem rd rs1 rs2) r = (five w 7 rd r.rd_is, five w 15 rs1 r.rs1_is, five w 20 rs2 r.rs2_is)
row-fits w (Remu rd rs1 rs2) r = (five w 7 rd r.rd_is, five w 15 rs1 r.rs1_is, five w 20 rs2 r.rs2_is)
row-fits w (Addw rd rs1 rs2) r = (five w 7 rd r.rd_is, five w 15 rs1 r.rs1_is, five w 20 rs2 r.rs2_is)
row-fits w (Sllw rd rs1 rs2) r = (five w 7 rd r.rd_is, five w 15 rs1 r.rs1_is, five w 20 rs2 r.rs2_is)
row-fits w (Srlw rd rs1 rs2) r = (five w 7 rd r.rd_is, five w 15 rs1 r.rs1_is, five w 20 rs2 r.rs2_is)
row-fits w (Subw rd rs1 rs2) r = (five w 7 rd r.rd_is, five w 15 rs1 r.rs1_is, five w 20 rs2 r.rs2_is)
row-fits w (Sraw rd rs1 rs2) r = (five w 7 rd r.rd_is, five w 15 rs1 r.rs1_is, five w 20 rs2 r.rs2_is)
row-fits w (Mulw rd rs1 rs2) r = (five w 7 rd r.rd_is, five w 15 rs1 r.rs1_is, five w 20 rs2 r.rs2_is)
row-fits w (Divw rd rs1 rs2) r = (five w 7 rd r.rd_is, five w 15 rs1 r.rs1_is, five w 20 rs2 r.rs2_is)
row-fits w (Divuw rd rs1 rs2) r = (five w 7 rd r.rd_is, five w 15 rs1 r.rs1_is, five w 20 rs2 r.rs2_is)
row-fits w (Remw rd rs1 rs2) r = (five w 7 rd r.rd_is, five w 15 rs1 r.rs1_is, five w 20 rs2 r.rs2_is)
row-fits w (Remuw rd rs1 rs2) r = (five w 7 rd r.rd_is, five w 15 rs1 r.rs1_is, five w 20 rs2 r.rs2_is)
row-fits w (Fence word) r = (opcode-of w word _ r.word_is r.opcode_is, funct3-of w word _ r.word_is r.funct3_is)
row-fits w (FenceI word) r = (opcode-of w word _ r.word_is r.opcode_is, funct3-of w word _ r.word_is r.funct3_is)
row-fits w Ecall r = tt
row-fits w Ebreak r = tt
row-fits w Mret r = tt
row-fits w Wfi r = tt
row-fits w (Csrrw rd rs1 csr) r = (five w 7 rd r.rd_is, five w 15 rs1 r.source_is, omega (arith, r.csr_is))
row-fits w (Csrrs rd rs1 csr) r = (five w 7 rd r.rd_is, five w 15 rs1 r.source_is, omega (arith, r.csr_is))
row-fits w (Csrrc rd rs1 csr) r = (five w 7 rd r.rd_is, five w 15 rs1 r.source_is, omega (arith, r.csr_is))
row-fits w (Csrrwi rd imm csr) r = (five w 7 rd r.rd_is, five w 15 imm r.source_is, omega (arith, r.csr_is))
row-fits w (Csrrsi rd imm csr) r = (five w 7 rd r.rd_is, five w 15 imm r.source_is, omega (arith, r.csr_is))
row-fits w (Csrrci rd imm csr) r = (five w 7 rd r.rd_is, five w 15 imm r.source_is, omega (arith, r.csr_is))

-- so does what is decoded
pub decoded-fits : (w : ℕ) (o : Option Insn) → o ≡ insn_of w → IfSome o IsFit
decoded-fits w None e = tt
decoded-fits w (Some i) e = row-fits w i (decoded w i (sym e))
