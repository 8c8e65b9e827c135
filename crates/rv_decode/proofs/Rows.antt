-- The instruction table as a relation and as a function: both directions.
use Rattle.std.proofs.Common.{◌≡◌, ℕ, Bool, true, false, ◌==◌, Option, Some, None, if◌then◌else◌, refl, ap, sym, ◌∙◌, subst}
use Rattle.std.proofs.lemmas.Bool.{eqb-true}
use Rattle.rv_decode.specs.declared.instruction.Insn.{Insn}
use Rattle.rv_decode.specs.declared.instruction.Insn.TheVariants.{Lui, Auipc, Jal, Jalr, Beq, Bne, Blt, Bge, Bltu, Bgeu, Lb, Lh, Lw, Ld, Lbu, Lhu, Lwu, Sb, Sh, Sw, Sd, Addi, Slti, Sltiu, Xori, Ori, Andi, Slli, Srli, Srai, Addiw, Slliw, Srliw, Sraiw, Add, Sll, Slt, Sltu, Xor, Srl, Or, And, Sub, Sra, Mul, Mulh, Mulhsu, Mulhu, Div, Divu, Rem, Remu, Addw, Sllw, Srlw, Subw, Sraw, Mulw, Divw, Divuw, Remw, Remuw, Fence, FenceI, Ecall, Ebreak, Mret, Wfi, Csrrw, Csrrs, Csrrc, Csrrwi, Csrrsi, Csrrci}
use Rattle.rv_decode.specs.Fields.{opcode, funct3, funct6, funct7}
use Rattle.rv_decode.specs.InsnTable.{insn_of, Row, branch_of, load_of, store_of, op_imm_of, op_imm_32_of, op_of, op_32_of, misc_mem_of, system_of, jalr_of, op_base_of, op_alternate_of, op_muldiv_of, op_32_base_of, op_32_alternate_of, op_32_muldiv_of}

-- a property of the value that a chain of tests answers, by whether its first test holds
step-if : {A : Type 0} (P : A → Type 0) (b : Bool) (x y : Option A) (a : A) → (if b then x else y) ≡ Some a → (b ≡ true → x ≡ Some a → P a) → (b ≡ false → y ≡ Some a → P a) → P a
step-if P true x y a e f g = f refl e
step-if P false x y a e f g = g refl e

-- the chain ends in this value
taken : {A : Type 0} (P : A → Type 0) (x a : A) → Some x ≡ Some a → P x → P a
taken P x a e p = let q : x ≡ a = cc in subst P q p

-- the chain ends in no value
stop : {A : Type 0} (P : Type 0) (a : A) → None ≡ Some a → P
stop P a e = cc

-- an answer of `branch_of` stands in the table
branch_of-row : (w : ℕ) (i : Insn) → opcode w ≡ 0x63 → branch_of w ≡ Some i → Row w i
unfolding branch_of
branch_of-row w i o e =
    step-if (Row w) (funct3 w == 0) _ _ i e (λ f e. taken (Row w) _ i e record { opcode_is = o; funct3_is = eqb-true _ _ f; rs1_is = refl; rs2_is = refl; offset_is = refl }) (λ _ e.
    step-if (Row w) (funct3 w == 1) _ _ i e (λ f e. taken (Row w) _ i e record { opcode_is = o; funct3_is = eqb-true _ _ f; rs1_is = refl; rs2_is = refl; offset_is = refl }) (λ _ e.
    step-if (Row w) (funct3 w == 4) _ _ i e (λ f e. taken (Row w) _ i e record { opcode_is = o; funct3_is = eqb-true _ _ f; rs1_is = refl; rs2_is = refl; offset_is = refl }) (λ _ e.
    step-if (Row w) (funct3 w == 5) _ _ i e (λ f e. taken (Row w) _ i e record { opcode_is = o; funct3_is = eqb-true _ _ f; rs1_is = refl; rs2_is = refl; offset_is = refl }) (λ _ e.
    step-if (Row w) (funct3 w == 6) _ _ i e (λ f e. taken (Row w) _ i e record { opcode_is = o; funct3_is = eqb-true _ _ f; rs1_is = refl; rs2_is = refl; offset_is = refl }) (λ _ e.
    step-if (Row w) (funct3 w == 7) _ _ i e (λ f e. taken (Row w) _ i e record { opcode_is = o; funct3_is = eqb-true _ _ f; rs1_is = refl; rs2_is = refl; offset_is = refl }) (λ _ e.
    stop _ i e))))))

-- an answer of `load_of` stands in the table
load_of-row : (w : ℕ) (i : Insn) → opcode w ≡ 3 → load_of w ≡ Some i → Row w i
unfolding load_of
load_of-row w i o e =
    step-if (Row w) (funct3 w == 0) _ _ i e (λ f e. taken (Row w) _ i e record { opcode_is = o; funct3_is = eqb-true _ _ f; rd_is = refl; rs1_is = refl; imm_is = refl }) (λ _ e.
    step-if (Row w) (funct3 w == 1) _ _ i e (λ f e. taken (Row w) _ i e record { opcode_is = o; funct3_is = eqb-true _ _ f; rd_is = refl; rs1_is = refl; imm_is = refl }) (λ _ e.
    step-if (Row w) (funct3 w == 2) _ _ i e (λ f e. taken (Row w) _ i e record { opcode_is = o; funct3_is = eqb-true _ _ f; rd_is = refl; rs1_is = refl; imm_is = refl }) (λ _ e.
    step-if (Row w) (funct3 w == 3) _ _ i e (λ f e. taken (Row w) _ i e record { opcode_is = o; funct3_is = eqb-true _ _ f; rd_is = refl; rs1_is = refl; imm_is = refl }) (λ _ e.
    step-if (Row w) (funct3 w == 4) _ _ i e (λ f e. taken (Row w) _ i e record { opcode_is = o; funct3_is = eqb-true _ _ f; rd_is = refl; rs1_is = refl; imm_is = refl }) (λ _ e.
    step-if (Row w) (funct3 w == 5) _ _ i e (λ f e. taken (Row w) _ i e record { opcode_is = o; funct3_is = eqb-true _ _ f; rd_is = refl; rs1_is = refl; imm_is = refl }) (λ _ e.
    step-if (Row w) (funct3 w == 6) _ _ i e (λ f e. taken (Row w) _ i e record { opcode_is = o; funct3_is = eqb-true _ _ f; rd_is = refl; rs1_is = refl; imm_is = refl }) (λ _ e.
    stop _ i e)))))))

-- an answer of `store_of` stands in the table
store_of-row : (w : ℕ) (i : Insn) → opcode w ≡ 0x23 → store_of w ≡ Some i → Row w i
unfolding store_of
store_of-row w i o e =
    step-if (Row w) (funct3 w == 0) _ _ i e (λ f e. taken (Row w) _ i e record { opcode_is = o; funct3_is = eqb-true _ _ f; rs1_is = refl; rs2_is = refl; imm_is = refl }) (λ _ e.
    step-if (Row w) (funct3 w == 1) _ _ i e (λ f e. taken (Row w) _ i e record { opcode_is = o; funct3_is = eqb-true _ _ f; rs1_is = refl; rs2_is = refl; imm_is = refl }) (λ _ e.
    step-if (Row w) (funct3 w == 2) _ _ i e (λ f e. taken (Row w) _ i e record { opcode_is = o; funct3_is = eqb-true _ _ f; rs1_is = refl; rs2_is = refl; imm_is = refl }) (λ _ e.
    step-if (Row w) (funct3 w == 3) _ _ i e (λ f e. taken (Row w) _ i e record { opcode_is = o; funct3_is = eqb-true _ _ f; rs1_is = refl; rs2_is = refl; imm_is = refl }) (λ _ e.
    stop _ i e))))

-- an answer of `op_imm_of` stands in the table
op_imm_of-row : (w : ℕ) (i : Insn) → opcode w ≡ 0x13 → op_imm_of w ≡ Some i → Row w i
unfolding op_imm_of
op_imm_of-row w i o e =
    step-if (Row w) (funct3 w == 0) _ _ i e (λ f e. taken (Row w) _ i e record { opcode_is = o; funct3_is = eqb-true _ _ f; rd_is = refl; rs1_is = refl; imm_is = refl }) (λ _ e.
    step-if (Row w) (funct3 w == 1) _ _ i e (λ f e. step-if (Row w) (funct6 w == 0) _ _ i e (λ g e. taken (Row w) _ i e record { opcode_is = o; funct3_is = eqb-true _ _ f; funct6_is = eqb-true _ _ g; rd_is = refl; rs1_is = refl; amount_is = refl }) (λ _ e. stop _ i e)) (λ _ e.
    step-if (Row w) (funct3 w == 2) _ _ i e (λ f e. taken (Row w) _ i e record { opcode_is = o; funct3_is = eqb-true _ _ f; rd_is = refl; rs1_is = refl; imm_is = refl }) (λ _ e.
    step-if (Row w) (funct3 w == 3) _ _ i e (λ f e. taken (Row w) _ i e record { opcode_is = o; funct3_is = eqb-true _ _ f; rd_is = refl; rs1_is = refl; imm_is = refl }) (λ _ e.
    step-if (Row w) (funct3 w == 4) _ _ i e (λ f e. taken (Row w) _ i e record { opcode_is = o; funct3_is = eqb-true _ _ f; rd_is = refl; rs1_is = refl; imm_is = refl }) (λ _ e.
    step-if (Row w) (funct3 w == 5) _ _ i e (λ f e. step-if (Row w) (funct6 w == 0) _ _ i e (λ g e. taken (Row w) _ i e record { opcode_is = o; funct3_is = eqb-true _ _ f; funct6_is = eqb-true _ _ g; rd_is = refl; rs1_is = refl; amount_is = refl }) (λ _ e. step-if (Row w) (funct6 w == 0x10) _ _ i e (λ g e. taken (Row w) _ i e record { opcode_is = o; funct3_is = eqb-true _ _ f; funct6_is = eqb-true _ _ g; rd_is = refl; rs1_is = refl; amount_is = refl }) (λ _ e. stop _ i e))) (λ _ e.
    step-if (Row w) (funct3 w == 6) _ _ i e (λ f e. taken (Row w) _ i e record { opcode_is = o; funct3_is = eqb-true _ _ f; rd_is = refl; rs1_is = refl; imm_is = refl }) (λ _ e.
    step-if (Row w) (funct3 w == 7) _ _ i e (λ f e. taken (Row w) _ i e record { opcode_is = o; funct3_is = eqb-true _ _ f; rd_is = refl; rs1_is = refl; imm_is = refl }) (λ _ e.
    stop _ i e))))))))

-- an answer of `op_imm_32_of` stands in the table
op_imm_32_of-row : (w : ℕ) (i : Insn) → opcode w ≡ 0x1b → op_imm_32_of w ≡ Some i → Row w i
unfolding op_imm_32_of
op_imm_32_of-row w i o e =
    step-if (Row w) (funct3 w == 0) _ _ i e (λ f e. taken (Row w) _ i e record { opcode_is = o; funct3_is = eqb-true _ _ f; rd_is = refl; rs1_is = refl; imm_is = refl }) (λ _ e.
    step-if (Row w) (funct3 w == 1) _ _ i e (λ f e. step-if (Row w) (funct7 w == 0) _ _ i e (λ g e. taken (Row w) _ i e record { opcode_is = o; funct3_is = eqb-true _ _ f; funct7_is = eqb-true _ _ g; rd_is = refl; rs1_is = refl; rs2_is = refl }) (λ _ e. stop _ i e)) (λ _ e.
    step-if (Row w) (funct3 w == 5) _ _ i e (λ f e. step-if (Row w) (funct7 w == 0) _ _ i e (λ g e. taken (Row w) _ i e record { opcode_is = o; funct3_is = eqb-true _ _ f; funct7_is = eqb-true _ _ g; rd_is = refl; rs1_is = refl; rs2_is = refl }) (λ _ e. step-if (Row w) (funct7 w == 0x20) _ _ i e (λ g e. taken (Row w) _ i e record { opcode_is = o; funct3_is = eqb-true _ _ f; funct7_is = eqb-true _ _ g; rd_is = refl; rs1_is = refl; rs2_is = refl }) (λ _ e. stop _ i e))) (λ _ e.
    stop _ i e)))

-- an answer of `op_base_of` stands in the table
op_base_of-row : (w : ℕ) (i : Insn) → opcode w ≡ 0x33 → funct7 w ≡ 0 → op_base_of w ≡ Some i → Row w i
unfolding op_base_of
op_base_of-row w i o g e =
    step-if (Row w) (funct3 w == 0) _ _ i e (λ f e. taken (Row w) _ i e record { opcode_is = o; funct3_is = eqb-true _ _ f; funct7_is = g; rd_is = refl; rs1_is = refl; rs2_is = refl }) (λ _ e.
    step-if (Row w) (funct3 w == 1) _ _ i e (λ f e. taken (Row w) _ i e record { opcode_is = o; funct3_is = eqb-true _ _ f; funct7_is = g; rd_is = refl; rs1_is = refl; rs2_is = refl }) (λ _ e.
    step-if (Row w) (funct3 w == 2) _ _ i e (λ f e. taken (Row w) _ i e record { opcode_is = o; funct3_is = eqb-true _ _ f; funct7_is = g; rd_is = refl; rs1_is = refl; rs2_is = refl }) (λ _ e.
    step-if (Row w) (funct3 w == 3) _ _ i e (λ f e. taken (Row w) _ i e record { opcode_is = o; funct3_is = eqb-true _ _ f; funct7_is = g; rd_is = refl; rs1_is = refl; rs2_is = refl }) (λ _ e.
    step-if (Row w) (funct3 w == 4) _ _ i e (λ f e. taken (Row w) _ i e record { opcode_is = o; funct3_is = eqb-true _ _ f; funct7_is = g; rd_is = refl; rs1_is = refl; rs2_is = refl }) (λ _ e.
    step-if (Row w) (funct3 w == 5) _ _ i e (λ f e. taken (Row w) _ i e record { opcode_is = o; funct3_is = eqb-true _ _ f; funct7_is = g; rd_is = refl; rs1_is = refl; rs2_is = refl }) (λ _ e.
    step-if (Row w) (funct3 w == 6) _ _ i e (λ f e. taken (Row w) _ i e record { opcode_is = o; funct3_is = eqb-true _ _ f; funct7_is = g; rd_is = refl; rs1_is = refl; rs2_is = refl }) (λ _ e.
    step-if (Row w) (funct3 w == 7) _ _ i e (λ f e. taken (Row w) _ i e record { opcode_is = o; funct3_is = eqb-true _ _ f; funct7_is = g; rd_is = refl; rs1_is = refl; rs2_is = refl }) (λ _ e.
    stop _ i e))))))))

-- an answer of `op_alternate_of` stands in the table
op_alternate_of-row : (w : ℕ) (i : Insn) → opcode w ≡ 0x33 → funct7 w ≡ 0x20 → op_alternate_of w ≡ Some i → Row w i
unfolding op_alternate_of
op_alternate_of-row w i o g e =
    step-if (Row w) (funct3 w == 0) _ _ i e (λ f e. taken (Row w) _ i e record { opcode_is = o; funct3_is = eqb-true _ _ f; funct7_is = g; rd_is = refl; rs1_is = refl; rs2_is = refl }) (λ _ e.
    step-if (Row w) (funct3 w == 5) _ _ i e (λ f e. taken (Row w) _ i e record { opcode_is = o; funct3_is = eqb-true _ _ f; funct7_is = g; rd_is = refl; rs1_is = refl; rs2_is = refl }) (λ _ e.
    stop _ i e))

-- an answer of `op_muldiv_of` stands in the table
op_muldiv_of-row : (w : ℕ) (i : Insn) → opcode w ≡ 0x33 → funct7 w ≡ 1 → op_muldiv_of w ≡ Some i → Row w i
unfolding op_muldiv_of
op_muldiv_of-row w i o g e =
    step-if (Row w) (funct3 w == 0) _ _ i e (λ f e. taken (Row w) _ i e record { opcode_is = o; funct3_is = eqb-true _ _ f; funct7_is = g; rd_is = refl; rs1_is = refl; rs2_is = refl }) (λ _ e.
    step-if (Row w) (funct3 w == 1) _ _ i e (λ f e. taken (Row w) _ i e record { opcode_is = o; funct3_is = eqb-true _ _ f; funct7_is = g; rd_is = refl; rs1_is = refl; rs2_is = refl }) (λ _ e.
    step-if (Row w) (funct3 w == 2) _ _ i e (λ f e. taken (Row w) _ i e record { opcode_is = o; funct3_is = eqb-true _ _ f; funct7_is = g; rd_is = refl; rs1_is = refl; rs2_is = refl }) (λ _ e.
    step-if (Row w) (funct3 w == 3) _ _ i e (λ f e. taken (Row w) _ i e record { opcode_is = o; funct3_is = eqb-true _ _ f; funct7_is = g; rd_is = refl; rs1_is = refl; rs2_is = refl }) (λ _ e.
    step-if (Row w) (funct3 w == 4) _ _ i e (λ f e. taken (Row w) _ i e record { opcode_is = o; funct3_is = eqb-true _ _ f; funct7_is = g; rd_is = refl; rs1_is = refl; rs2_is = refl }) (λ _ e.
    step-if (Row w) (funct3 w == 5) _ _ i e (λ f e. taken (Row w) _ i e record { opcode_is = o; funct3_is = eqb-true _ _ f; funct7_is = g; rd_is = refl; rs1_is = refl; rs2_is = refl }) (λ _ e.
    step-if (Row w) (funct3 w == 6) _ _ i e (λ f e. taken (Row w) _ i e record { opcode_is = o; funct3_is = eqb-true _ _ f; funct7_is = g; rd_is = refl; rs1_is = refl; rs2_is = refl }) (λ _ e.
    step-if (Row w) (funct3 w == 7) _ _ i e (λ f e. taken (Row w) _ i e record { opcode_is = o; funct3_is = eqb-true _ _ f; funct7_is = g; rd_is = refl; rs1_is = refl; rs2_is = refl }) (λ _ e.
    stop _ i e))))))))

-- an answer of `op_of` stands in the table
op_of-row : (w : ℕ) (i : Insn) → opcode w ≡ 0x33 → op_of w ≡ Some i → Row w i
unfolding op_of
op_of-row w i o e =
    step-if (Row w) (funct7 w == 0) _ _ i e (λ g e. op_base_of-row w i o (eqb-true _ _ g) e) (λ _ e.
    step-if (Row w) (funct7 w == 0x20) _ _ i e (λ g e. op_alternate_of-row w i o (eqb-true _ _ g) e) (λ _ e.
    step-if (Row w) (funct7 w == 1) _ _ i e (λ g e. op_muldiv_of-row w i o (eqb-true _ _ g) e) (λ _ e.
    stop _ i e)))

-- an answer of `op_32_base_of` stands in the table
op_32_base_of-row : (w : ℕ) (i : Insn) → opcode w ≡ 0x3b → funct7 w ≡ 0 → op_32_base_of w ≡ Some i → Row w i
unfolding op_32_base_of
op_32_base_of-row w i o g e =
    step-if (Row w) (funct3 w == 0) _ _ i e (λ f e. taken (Row w) _ i e record { opcode_is = o; funct3_is = eqb-true _ _ f; funct7_is = g; rd_is = refl; rs1_is = refl; rs2_is = refl }) (λ _ e.
    step-if (Row w) (funct3 w == 1) _ _ i e (λ f e. taken (Row w) _ i e record { opcode_is = o; funct3_is = eqb-true _ _ f; funct7_is = g; rd_is = refl; rs1_is = refl; rs2_is = refl }) (λ _ e.
    step-if (Row w) (funct3 w == 5) _ _ i e (λ f e. taken (Row w) _ i e record { opcode_is = o; funct3_is = eqb-true _ _ f; funct7_is = g; rd_is = refl; rs1_is = refl; rs2_is = refl }) (λ _ e.
    stop _ i e)))

-- an answer of `op_32_alternate_of` stands in the table
op_32_alternate_of-row : (w : ℕ) (i : Insn) → opcode w ≡ 0x3b → funct7 w ≡ 0x20 → op_32_alternate_of w ≡ Some i → Row w i
unfolding op_32_alternate_of
op_32_alternate_of-row w i o g e =
    step-if (Row w) (funct3 w == 0) _ _ i e (λ f e. taken (Row w) _ i e record { opcode_is = o; funct3_is = eqb-true _ _ f; funct7_is = g; rd_is = refl; rs1_is = refl; rs2_is = refl }) (λ _ e.
    step-if (Row w) (funct3 w == 5) _ _ i e (λ f e. taken (Row w) _ i e record { opcode_is = o; funct3_is = eqb-true _ _ f; funct7_is = g; rd_is = refl; rs1_is = refl; rs2_is = refl }) (λ _ e.
    stop _ i e))

-- an answer of `op_32_muldiv_of` stands in the table
op_32_muldiv_of-row : (w : ℕ) (i : Insn) → opcode w ≡ 0x3b → funct7 w ≡ 1 → op_32_muldiv_of w ≡ Some i → Row w i
unfolding op_32_muldiv_of
op_32_muldiv_of-row w i o g e =
    step-if (Row w) (funct3 w == 0) _ _ i e (λ f e. taken (Row w) _ i e record { opcode_is = o; funct3_is = eqb-true _ _ f; funct7_is = g; rd_is = refl; rs1_is = refl; rs2_is = refl }) (λ _ e.
    step-if (Row w) (funct3 w == 4) _ _ i e (λ f e. taken (Row w) _ i e record { opcode_is = o; funct3_is = eqb-true _ _ f; funct7_is = g; rd_is = refl; rs1_is = refl; rs2_is = refl }) (λ _ e.
    step-if (Row w) (funct3 w == 5) _ _ i e (λ f e. taken (Row w) _ i e record { opcode_is = o; funct3_is = eqb-true _ _ f; funct7_is = g; rd_is = refl; rs1_is = refl; rs2_is = refl }) (λ _ e.
    step-if (Row w) (funct3 w == 6) _ _ i e (λ f e. taken (Row w) _ i e record { opcode_is = o; funct3_is = eqb-true _ _ f; funct7_is = g; rd_is = refl; rs1_is = refl; rs2_is = refl }) (λ _ e.
    step-if (Row w) (funct3 w == 7) _ _ i e (λ f e. taken (Row w) _ i e record { opcode_is = o; funct3_is = eqb-true _ _ f; funct7_is = g; rd_is = refl; rs1_is = refl; rs2_is = refl }) (λ _ e.
    stop _ i e)))))

-- an answer of `op_32_of` stands in the table
op_32_of-row : (w : ℕ) (i : Insn) → opcode w ≡ 0x3b → op_32_of w ≡ Some i → Row w i
unfolding op_32_of
op_32_of-row w i o e =
    step-if (Row w) (funct7 w == 0) _ _ i e (λ g e. op_32_base_of-row w i o (eqb-true _ _ g) e) (λ _ e.
    step-if (Row w) (funct7 w == 0x20) _ _ i e (λ g e. op_32_alternate_of-row w i o (eqb-true _ _ g) e) (λ _ e.
    step-if (Row w) (funct7 w == 1) _ _ i e (λ g e. op_32_muldiv_of-row w i o (eqb-true _ _ g) e) (λ _ e.
    stop _ i e)))

-- an answer of `misc_mem_of` stands in the table
misc_mem_of-row : (w : ℕ) (i : Insn) → opcode w ≡ 0x0f → misc_mem_of w ≡ Some i → Row w i
unfolding misc_mem_of
misc_mem_of-row w i o e =
    step-if (Row w) (funct3 w == 0) _ _ i e (λ f e. taken (Row w) _ i e record { opcode_is = o; funct3_is = eqb-true _ _ f; word_is = refl }) (λ _ e.
    step-if (Row w) (funct3 w == 1) _ _ i e (λ f e. taken (Row w) _ i e record { opcode_is = o; funct3_is = eqb-true _ _ f; word_is = refl }) (λ _ e.
    stop _ i e))

-- an answer of `system_of` stands in the table
system_of-row : (w : ℕ) (i : Insn) → opcode w ≡ 0x73 → system_of w ≡ Some i → Row w i
unfolding system_of
system_of-row w i o e =
    step-if (Row w) (funct3 w == 0) _ _ i e (λ f e. step-if (Row w) (w == 0x00000073) _ _ i e (λ g e. taken (Row w) _ i e (eqb-true _ _ g)) (λ _ e. step-if (Row w) (w == 0x00100073) _ _ i e (λ g e. taken (Row w) _ i e (eqb-true _ _ g)) (λ _ e. step-if (Row w) (w == 0x30200073) _ _ i e (λ g e. taken (Row w) _ i e (eqb-true _ _ g)) (λ _ e. step-if (Row w) (w == 0x10500073) _ _ i e (λ g e. taken (Row w) _ i e (eqb-true _ _ g)) (λ _ e. stop _ i e))))) (λ _ e.
    step-if (Row w) (funct3 w == 1) _ _ i e (λ f e. taken (Row w) _ i e record { opcode_is = o; funct3_is = eqb-true _ _ f; rd_is = refl; source_is = refl; csr_is = refl }) (λ _ e.
    step-if (Row w) (funct3 w == 2) _ _ i e (λ f e. taken (Row w) _ i e record { opcode_is = o; funct3_is = eqb-true _ _ f; rd_is = refl; source_is = refl; csr_is = refl }) (λ _ e.
    step-if (Row w) (funct3 w == 3) _ _ i e (λ f e. taken (Row w) _ i e record { opcode_is = o; funct3_is = eqb-true _ _ f; rd_is = refl; source_is = refl; csr_is = refl }) (λ _ e.
    step-if (Row w) (funct3 w == 5) _ _ i e (λ f e. taken (Row w) _ i e record { opcode_is = o; funct3_is = eqb-true _ _ f; rd_is = refl; source_is = refl; csr_is = refl }) (λ _ e.
    step-if (Row w) (funct3 w == 6) _ _ i e (λ f e. taken (Row w) _ i e record { opcode_is = o; funct3_is = eqb-true _ _ f; rd_is = refl; source_is = refl; csr_is = refl }) (λ _ e.
    step-if (Row w) (funct3 w == 7) _ _ i e (λ f e. taken (Row w) _ i e record { opcode_is = o; funct3_is = eqb-true _ _ f; rd_is = refl; source_is = refl; csr_is = refl }) (λ _ e.
    stop _ i e)))))))

-- an answer of `jalr_of` stands in the table
jalr_of-row : (w : ℕ) (i : Insn) → opcode w ≡ 0x67 → jalr_of w ≡ Some i → Row w i
unfolding jalr_of
jalr_of-row w i o e =
    step-if (Row w) (funct3 w == 0) _ _ i e (λ f e. taken (Row w) _ i e record { opcode_is = o; funct3_is = eqb-true _ _ f; rd_is = refl; rs1_is = refl; imm_is = refl }) (λ _ e.
    stop _ i e)

-- what is decoded stands in the table
pub decoded : (w : ℕ) (i : Insn) → insn_of w ≡ Some i → Row w i
unfolding insn_of
decoded w i e =
    step-if (Row w) (opcode w == 0x37) _ _ i e (λ f e. let o = eqb-true _ _ f in taken (Row w) _ i e record { opcode_is = o; rd_is = refl; imm_is = refl }) (λ _ e.
    step-if (Row w) (opcode w == 0x17) _ _ i e (λ f e. let o = eqb-true _ _ f in taken (Row w) _ i e record { opcode_is = o; rd_is = refl; imm_is = refl }) (λ _ e.
    step-if (Row w) (opcode w == 0x6f) _ _ i e (λ f e. let o = eqb-true _ _ f in taken (Row w) _ i e record { opcode_is = o; rd_is = refl; offset_is = refl }) (λ _ e.
    step-if (Row w) (opcode w == 0x63) _ _ i e (λ f e. branch_of-row w i (eqb-true _ _ f) e) (λ _ e.
    step-if (Row w) (opcode w == 0x03) _ _ i e (λ f e. load_of-row w i (eqb-true _ _ f) e) (λ _ e.
    step-if (Row w) (opcode w == 0x23) _ _ i e (λ f e. store_of-row w i (eqb-true _ _ f) e) (λ _ e.
    step-if (Row w) (opcode w == 0x13) _ _ i e (λ f e. op_imm_of-row w i (eqb-true _ _ f) e) (λ _ e.
    step-if (Row w) (opcode w == 0x1b) _ _ i e (λ f e. op_imm_32_of-row w i (eqb-true _ _ f) e) (λ _ e.
    step-if (Row w) (opcode w == 0x33) _ _ i e (λ f e. op_of-row w i (eqb-true _ _ f) e) (λ _ e.
    step-if (Row w) (opcode w == 0x3b) _ _ i e (λ f e. op_32_of-row w i (eqb-true _ _ f) e) (λ _ e.
    step-if (Row w) (opcode w == 0x0f) _ _ i e (λ f e. misc_mem_of-row w i (eqb-true _ _ f) e) (λ _ e.
    step-if (Row w) (opcode w == 0x73) _ _ i e (λ f e. system_of-row w i (eqb-true _ _ f) e) (λ _ e.
    step-if (Row w) (opcode w == 0x67) _ _ i e (λ f e. jalr_of-row w i (eqb-true _ _ f) e) (λ _ e.
    stop _ i e)))))))))))))

-- what stands in the table is decoded so
pub rows_decoded : (w : ℕ) (i : Insn) → Row w i → insn_of w ≡ Some i
unfolding insn_of branch_of load_of store_of op_imm_of op_imm_32_of op_of op_32_of misc_mem_of system_of jalr_of op_base_of op_alternate_of op_muldiv_of op_32_base_of op_32_alternate_of op_32_muldiv_of
rows_decoded w (Lui rd imm) r = rw (r.opcode_is, r.rd_is, r.imm_is) refl
rows_decoded w (Auipc rd imm) r = rw (r.opcode_is, r.rd_is, r.imm_is) refl
rows_decoded w (Jal rd offset) r = rw (r.opcode_is, r.rd_is, r.offset_is) refl
rows_decoded w (Jalr rd rs1 imm) r = rw (r.opcode_is, r.funct3_is, r.rd_is, r.rs1_is, r.imm_is) refl
rows_decoded w (Beq rs1 rs2 offset) r = rw (r.opcode_is, r.funct3_is, r.rs1_is, r.rs2_is, r.offset_is) refl
rows_decoded w (Bne rs1 rs2 offset) r = rw (r.opcode_is, r.funct3_is, r.rs1_is, r.rs2_is, r.offset_is) refl
rows_decoded w (Blt rs1 rs2 offset) r = rw (r.opcode_is, r.funct3_is, r.rs1_is, r.rs2_is, r.offset_is) refl
rows_decoded w (Bge rs1 rs2 offset) r = rw (r.opcode_is, r.funct3_is, r.rs1_is, r.rs2_is, r.offset_is) refl
rows_decoded w (Bltu rs1 rs2 offset) r = rw (r.opcode_is, r.funct3_is, r.rs1_is, r.rs2_is, r.offset_is) refl
rows_decoded w (Bgeu rs1 rs2 offset) r = rw (r.opcode_is, r.funct3_is, r.rs1_is, r.rs2_is, r.offset_is) refl
rows_decoded w (Lb rd rs1 imm) r = rw (r.opcode_is, r.funct3_is, r.rd_is, r.rs1_is, r.imm_is) refl
rows_decoded w (Lh rd rs1 imm) r = rw (r.opcode_is, r.funct3_is, r.rd_is, r.rs1_is, r.imm_is) refl
rows_decoded w (Lw rd rs1 imm) r = rw (r.opcode_is, r.funct3_is, r.rd_is, r.rs1_is, r.imm_is) refl
rows_decoded w (Ld rd rs1 imm) r = rw (r.opcode_is, r.funct3_is, r.rd_is, r.rs1_is, r.imm_is) refl
rows_decoded w (Lbu rd rs1 imm) r = rw (r.opcode_is, r.funct3_is, r.rd_is, r.rs1_is, r.imm_is) refl
rows_decoded w (Lhu rd rs1 imm) r = rw (r.opcode_is, r.funct3_is, r.rd_is, r.rs1_is, r.imm_is) refl
rows_decoded w (Lwu rd rs1 imm) r = rw (r.opcode_is, r.funct3_is, r.rd_is, r.rs1_is, r.imm_is) refl
rows_decoded w (Sb rs1 rs2 imm) r = rw (r.opcode_is, r.funct3_is, r.rs1_is, r.rs2_is, r.imm_is) refl
rows_decoded w (Sh rs1 rs2 imm) r = rw (r.opcode_is, r.funct3_is, r.rs1_is, r.rs2_is, r.imm_is) refl
rows_decoded w (Sw rs1 rs2 imm) r = rw (r.opcode_is, r.funct3_is, r.rs1_is, r.rs2_is, r.imm_is) refl
rows_decoded w (Sd rs1 rs2 imm) r = rw (r.opcode_is, r.funct3_is, r.rs1_is, r.rs2_is, r.imm_is) refl
rows_decoded w (Addi rd rs1 imm) r = rw (r.opcode_is, r.funct3_is, r.rd_is, r.rs1_is, r.imm_is) refl
rows_decoded w (Slti rd rs1 imm) r = rw (r.opcode_is, r.funct3_is, r.rd_is, r.rs1_is, r.imm_is) refl
rows_decoded w (Sltiu rd rs1 imm) r = rw (r.opcode_is, r.funct3_is, r.rd_is, r.rs1_is, r.imm_is) refl
rows_decoded w (Xori rd rs1 imm) r = rw (r.opcode_is, r.funct3_is, r.rd_is, r.rs1_is, r.imm_is) refl
rows_decoded w (Ori rd rs1 imm) r = rw (r.opcode_is, r.funct3_is, r.rd_is, r.rs1_is, r.imm_is) refl
rows_decoded w (Andi rd rs1 imm) r = rw (r.opcode_is, r.funct3_is, r.rd_is, r.rs1_is, r.imm_is) refl
rows_decoded w (Slli rd rs1 amount) r = rw (r.opcode_is, r.funct3_is, r.funct6_is, r.rd_is, r.rs1_is, r.amount_is) refl
rows_decoded w (Srli rd rs1 amount) r = rw (r.opcode_is, r.funct3_is, r.funct6_is, r.rd_is, r.rs1_is, r.amount_is) refl
rows_decoded w (Srai rd rs1 amount) r = rw (r.opcode_is, r.funct3_is, r.funct6_is, r.rd_is, r.rs1_is, r.amount_is) refl
rows_decoded w (Addiw rd rs1 imm) r = rw (r.opcode_is, r.funct3_is, r.rd_is, r.rs1_is, r.imm_is) refl
rows_decoded w (Slliw rd rs1 amount) r = rw (r.opcode_is, r.funct3_is, r.funct7_is, r.rd_is, r.rs1_is, r.rs2_is) refl
rows_decoded w (Srliw rd rs1 amount) r = rw (r.opcode_is, r.funct3_is, r.funct7_is, r.rd_is, r.rs1_is, r.rs2_is) refl
rows_decoded w (Sraiw rd rs1 amount) r = rw (r.opcode_is, r.funct3_is, r.funct7_is, r.rd_is, r.rs1_is, r.rs2_is) refl
rows_decoded w (Add rd rs1 rs2) r = rw (r.opcode_is, r.funct3_is, r.funct7_is, r.rd_is, r.rs1_is, r.rs2_is) refl
rows_decoded w (Sll rd rs1 rs2) r = rw (r.opcode_is, r.funct3_is, r.funct7_is, r.rd_is, r.rs1_is, r.rs2_is) refl
rows_decoded w (Slt rd rs1 rs2) r = rw (r.opcode_is, r.funct3_is, r.funct7_is, r.rd_is, r.rs1_is, r.rs2_is) refl
rows_decoded w (Sltu rd rs1 rs2) r = rw (r.opcode_is, r.funct3_is, r.funct7_is, r.rd_is, r.rs1_is, r.rs2_is) refl
rows_decoded w (Xor rd rs1 rs2) r = rw (r.opcode_is, r.funct3_is, r.funct7_is, r.rd_is, r.rs1_is, r.rs2_is) refl
rows_decoded w (Srl rd rs1 rs2) r = rw (r.opcode_is, r.funct3_is, r.funct7_is, r.rd_is, r.rs1_is, r.rs2_is) refl
rows_decoded w (Or rd rs1 rs2) r = rw (r.opcode_is, r.funct3_is, r.funct7_is, r.rd_is, r.rs1_is, r.rs2_is) refl
rows_decoded w (And rd rs1 rs2) r = rw (r.opcode_is, r.funct3_is, r.funct7_is, r.rd_is, r.rs1_is, r.rs2_is) refl
rows_decoded w (Sub rd rs1 rs2) r = rw (r.opcode_is, r.funct3_is, r.funct7_is, r.rd_is, r.rs1_is, r.rs2_is) refl
rows_decoded w (Sra rd rs1 rs2) r = rw (r.opcode_is, r.funct3_is, r.funct7_is, r.rd_is, r.rs1_is, r.rs2_is) refl
rows_decoded w (Mul rd rs1 rs2) r = rw (r.opcode_is, r.funct3_is, r.funct7_is, r.rd_is, r.rs1_is, r.rs2_is) refl
rows_decoded w (Mulh rd rs1 rs2) r = rw (r.opcode_is, r.funct3_is, r.funct7_is, r.rd_is, r.rs1_is, r.rs2_is) refl
rows_decoded w (Mulhsu rd rs1 rs2) r = rw (r.opcode_is, r.funct3_is, r.funct7_is, r.rd_is, r.rs1_is, r.rs2_is) refl
rows_decoded w (Mulhu rd rs1 rs2) r = rw (r.opcode_is, r.funct3_is, r.funct7_is, r.rd_is, r.rs1_is, r.rs2_is) refl
rows_decoded w (Div rd rs1 rs2) r = rw (r.opcode_is, r.funct3_is, r.funct7_is, r.rd_is, r.rs1_is, r.rs2_is) refl
rows_decoded w (Divu rd rs1 rs2) r = rw (r.opcode_is, r.funct3_is, r.funct7_is, r.rd_is, r.rs1_is, r.rs2_is) refl
rows_decoded w (Rem rd rs1 rs2) r = rw (r.opcode_is, r.funct3_is, r.funct7_is, r.rd_is, r.rs1_is, r.rs2_is) refl
rows_decoded w (Remu rd rs1 rs2) r = rw (r.opcode_is, r.funct3_is, r.funct7_is, r.rd_is, r.rs1_is, r.rs2_is) refl
rows_decoded w (Addw rd rs1 rs2) r = rw (r.opcode_is, r.funct3_is, r.funct7_is, r.rd_is, r.rs1_is, r.rs2_is) refl
rows_decoded w (Sllw rd rs1 rs2) r = rw (r.opcode_is, r.funct3_is, r.funct7_is, r.rd_is, r.rs1_is, r.rs2_is) refl
rows_decoded w (Srlw rd rs1 rs2) r = rw (r.opcode_is, r.funct3_is, r.funct7_is, r.rd_is, r.rs1_is, r.rs2_is) refl
rows_decoded w (Subw rd rs1 rs2) r = rw (r.opcode_is, r.funct3_is, r.funct7_is, r.rd_is, r.rs1_is, r.rs2_is) refl
rows_decoded w (Sraw rd rs1 rs2) r = rw (r.opcode_is, r.funct3_is, r.funct7_is, r.rd_is, r.rs1_is, r.rs2_is) refl
rows_decoded w (Mulw rd rs1 rs2) r = rw (r.opcode_is, r.funct3_is, r.funct7_is, r.rd_is, r.rs1_is, r.rs2_is) refl
rows_decoded w (Divw rd rs1 rs2) r = rw (r.opcode_is, r.funct3_is, r.funct7_is, r.rd_is, r.rs1_is, r.rs2_is) refl
rows_decoded w (Divuw rd rs1 rs2) r = rw (r.opcode_is, r.funct3_is, r.funct7_is, r.rd_is, r.rs1_is, r.rs2_is) refl
rows_decoded w (Remw rd rs1 rs2) r = rw (r.opcode_is, r.funct3_is, r.funct7_is, r.rd_is, r.rs1_is, r.rs2_is) refl
rows_decoded w (Remuw rd rs1 rs2) r = rw (r.opcode_is, r.funct3_is, r.funct7_is, r.rd_is, r.rs1_is, r.rs2_is) refl
rows_decoded w (Fence word) r = rw (r.opcode_is, r.funct3_is) (ap (λ x. Some (Fence x)) r.word_is)
rows_decoded w (FenceI word) r = rw (r.opcode_is, r.funct3_is) (ap (λ x. Some (FenceI x)) r.word_is)
rows_decoded w Ecall r = rw r refl
rows_decoded w Ebreak r = rw r refl
rows_decoded w Mret r = rw r refl
rows_decoded w Wfi r = rw r refl
rows_decoded w (Csrrw rd rs1 csr) r = rw (r.opcode_is, r.funct3_is, r.rd_is, r.source_is, r.csr_is) refl
rows_decoded w (Csrrs rd rs1 csr) r = rw (r.opcode_is, r.funct3_is, r.rd_is, r.source_is, r.csr_is) refl
rows_decoded w (Csrrc rd rs1 csr) r = rw (r.opcode_is, r.funct3_is, r.rd_is, r.source_is, r.csr_is) refl
rows_decoded w (Csrrwi rd imm csr) r = rw (r.opcode_is, r.funct3_is, r.rd_is, r.source_is, r.csr_is) refl
rows_decoded w (Csrrsi rd imm csr) r = rw (r.opcode_is, r.funct3_is, r.rd_is, r.source_is, r.csr_is) refl
rows_decoded w (Csrrci rd imm csr) r = rw (r.opcode_is, r.funct3_is, r.rd_is, r.source_is, r.csr_is) refl

-- no word stands in two rows
pub one_row : (w : ℕ) (i j : Insn) → Row w i → Row w j → i ≡ j
one_row w i j r s = some-same i j (sym (rows_decoded w i r) ∙ rows_decoded w j s)
  where
    some-same : (a b : Insn) → Some a ≡ Some b → a ≡ b
    some-same a b e = cc
