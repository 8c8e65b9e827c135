-- A symbolic step: where an instruction leads from a state, as far as the state tells.
use Rattle.std.specs.Prelude.{ℕ, ◌+◌, ◌-◌, ◌*◌, ◌/◌, ◌%◌, ◌^◌, ◌==◌, ◌&&◌, not, nat_le, Bool, true, false, Option, Some, None, if◌then◌else◌, List, [], ◌∷◌, get_or, set, slice_get}
use Rattle.fe_base.specs.MemoryMap.{kernel_start, kernel_end, kernel_code_size}
use Rattle.rv_decode.specs.declared.instruction.Insn.{Insn}
use Rattle.rv_decode.specs.declared.instruction.Insn.TheVariants.{Lui, Auipc, Jal, Jalr, Beq, Bne, Bltu, Bgeu, Ld, Sd, Addi, Sltiu, Andi, Slli, Srli, Add, Sub, Srl, Csrrw, Csrrs}
use Rattle.rv_decode.specs.Alignment.{instruction_alignment}
use Rattle.rv_alu.specs.Numbers.{register_of}
use Rattle.rv_alu.specs.Effects.{upper, plus, even}
use Rattle.rv_alu.specs.declared.arithmetic.AluOp.TheVariants as op
use Rattle.rv_csr.specs.CsrTable.{csr_of, is_read_only}
use Rattle.rv_csr.specs.Fields.{aligned, bits}
use Rattle.rv_csr.specs.Pmp.{configured}
use Rattle.rv_csr.specs.declared.table.Csr.{Csr}
use Rattle.rv_csr.specs.declared.table.Csr.TheVariants.{Mtvec, Mscratch, Mepc, Mcause, Mtval, Pmpcfg0, Pmpaddr0, Pmpaddr1}
use Rattle.kernel_steps.specs.Terms.{Term, Lit, Var, Bin, Aligned, Unknown, is_known, combine, aligned_term, Fact, compared}
use Rattle.kernel_steps.specs.States.{CsrTerms, State}

-- the terms of the registers after a write; x0 stays
abbrev pub put_term : List Term → ℕ → Term → List Term
put_term regs rd v = if rd == 0 then regs else set regs rd v

-- the term of a register
abbrev pub reg : State → ℕ → Term
reg s n = get_or s.regs n Unknown

-- the address of the next instruction
abbrev pub next_at : State → ℕ
next_at s = (s.at + 4) % 2 ^ 64

-- what an instruction does, as far as a state tells: writes a register, jumps, branches by a comparison (the flag
-- before the target says that it is negated), loads or stores a doubleword, or writes or reads a control and status
-- register
pub data Action : Type 0 where
  Puts : ℕ → Term → Action
  Jumps : ℕ → ℕ → Action
  Forks : Bool → Term → Term → Bool → ℕ → Action
  Loads : ℕ → Term → Action
  Stores : Term → Term → Action
  Swaps : ℕ → ℕ → Term → Action
  Reads : ℕ → ℕ → Action

-- a jump to an address that is known
abbrev pub jump_to : ℕ → Term → Option Action
jump_to rd (Lit a) = Some (Jumps rd (even a))
jump_to rd (Var a) = None
jump_to rd (Bin o a b) = None
jump_to rd (Aligned a) = None
jump_to rd Unknown = None

-- a CSRRS that writes nothing
abbrev pub read_csr : Bool → ℕ → ℕ → Option Action
read_csr true rd csr = Some (Reads rd csr)
read_csr false rd csr = None

-- the action of an instruction; none of those that a kernel does without
abbrev pub action_of : Insn → State → Option Action
action_of (Lui rd imm) s = Some (Puts rd (Lit (upper imm)))
action_of (Auipc rd imm) s = Some (Puts rd (Lit ((s.at + upper imm) % 2 ^ 64)))
action_of (Jal rd offset) s = Some (Jumps rd (plus s.at offset))
action_of (Jalr rd rs1 imm) s = jump_to rd (combine op.Add (reg s rs1) (Lit (register_of imm)))
action_of (Beq rs1 rs2 offset) s = Some (Forks false (reg s rs1) (reg s rs2) false (plus s.at offset))
action_of (Bne rs1 rs2 offset) s = Some (Forks false (reg s rs1) (reg s rs2) true (plus s.at offset))
action_of (Bltu rs1 rs2 offset) s = Some (Forks true (reg s rs1) (reg s rs2) false (plus s.at offset))
action_of (Bgeu rs1 rs2 offset) s = Some (Forks true (reg s rs1) (reg s rs2) true (plus s.at offset))
action_of (Ld rd rs1 imm) s = Some (Loads rd (combine op.Add (reg s rs1) (Lit (register_of imm))))
action_of (Sd rs1 rs2 imm) s = Some (Stores (combine op.Add (reg s rs1) (Lit (register_of imm))) (reg s rs2))
action_of (Addi rd rs1 imm) s = Some (Puts rd (combine op.Add (reg s rs1) (Lit (register_of imm))))
action_of (Sltiu rd rs1 imm) s = Some (Puts rd (combine op.Sltu (reg s rs1) (Lit (register_of imm))))
action_of (Andi rd rs1 imm) s = Some (Puts rd (combine op.And (reg s rs1) (Lit (register_of imm))))
action_of (Slli rd rs1 amount) s = Some (Puts rd (combine op.Sll (reg s rs1) (Lit amount)))
action_of (Srli rd rs1 amount) s = Some (Puts rd (combine op.Srl (reg s rs1) (Lit amount)))
action_of (Add rd rs1 rs2) s = Some (Puts rd (combine op.Add (reg s rs1) (reg s rs2)))
action_of (Sub rd rs1 rs2) s = Some (Puts rd (combine op.Sub (reg s rs1) (reg s rs2)))
action_of (Srl rd rs1 rs2) s = Some (Puts rd (combine op.Srl (reg s rs1) (reg s rs2)))
action_of (Csrrw rd rs1 csr) s = Some (Swaps rd csr (reg s rs1))
action_of (Csrrs rd rs1 csr) s = read_csr (rs1 == 0) rd csr
action_of _ s = None

-- the address of the first doubleword behind the code
abbrev pub data_start : ℕ
data_start = kernel_start + kernel_code_size

-- the number of a doubleword behind the code, by its address
abbrev pub cell_no : ℕ → ℕ
cell_no a = (a - data_start) / 8

-- the address is that of a doubleword behind the code
abbrev pub is_cell : ℕ → Bool
is_cell a = nat_le (a + 8) kernel_end && (a == data_start + 8 * cell_no a)

-- one state, where the test holds
abbrev pub only : Bool → State → Option (List State)
only true s = Some (s ∷ [])
only false s = None

-- a doubleword is loaded to a register
abbrev pub load_into : State → ℕ → Term → Option (List State)
load_into s rd (Lit a) =
    only (is_cell a) (record s { at = next_at s; regs = put_term s.regs rd (get_or s.cells (cell_no a) Unknown) })
load_into s rd (Var a) = None
load_into s rd (Bin o a b) = None
load_into s rd (Aligned a) = None
load_into s rd Unknown = None

-- a doubleword is stored
abbrev pub store_from : State → Term → Term → Option (List State)
store_from s (Lit a) v = only (is_cell a) (record s { at = next_at s; cells = set s.cells (cell_no a) v })
store_from s (Var a) v = None
store_from s (Bin o a b) v = None
store_from s (Aligned a) v = None
store_from s Unknown v = None

-- a test, negated or not
abbrev pub flip : Bool → Bool → Bool
flip true b = not b
flip false b = b

-- one more comparison is known, where both its terms are
abbrev pub learn : Bool → Term → Term → Bool → List Fact → List Fact
learn d a b t fs = if is_known a && is_known b then record { below = d; left = a; right = b; truth = t } ∷ fs else fs

-- both ways of a branch: the comparison holds, or it does not
abbrev pub both_ways : State → Bool → Term → Term → ℕ → ℕ → List State
both_ways s d a b met unmet =
    record s { at = met; facts = learn d a b true s.facts }
    ∷ record s { at = unmet; facts = learn d a b false s.facts }
    ∷ []

-- both ways of a branch whose comparison is negated or not
abbrev pub fork_by : Bool → State → Bool → Term → Term → ℕ → List State
fork_by false s d a b target = both_ways s d a b target (next_at s)
fork_by true s d a b target = both_ways s d a b (next_at s) target

-- the ways of a branch: one where both terms are literals, or else both
abbrev pub fork_from : State → Bool → Term → Term → Bool → ℕ → List State
fork_from s d (Lit a) (Lit b) negated target =
    record s { at = if flip negated (compared d a b) then target else next_at s } ∷ []
fork_from s d a b negated target = fork_by negated s d a b target

-- the term of a control and status register
abbrev pub get_csr : Csr → CsrTerms → Term
get_csr Mscratch s = s.scratch
get_csr Mepc s = s.epc
get_csr Mcause s = s.cause
get_csr Mtval s = s.tval
get_csr Mtvec s = s.tvec
get_csr _ s = Unknown

-- a register of the PMP is written with a literal
abbrev pub set_lit : Csr → ℕ → CsrTerms → Option CsrTerms
set_lit Pmpcfg0 n s =
    Some (record s {
      pmp = record { entry0 = configured s.pmp.entry0 (bits n 0 8); entry1 = configured s.pmp.entry1 (bits n 8 8) };
    })
set_lit Pmpaddr0 n s =
    Some (record s { pmp = record s.pmp { entry0 = record s.pmp.entry0 { end = 4 * (n % 2 ^ 54) } } })
set_lit Pmpaddr1 n s =
    Some (record s { pmp = record s.pmp { entry1 = record s.pmp.entry1 { end = 4 * (n % 2 ^ 54) } } })
set_lit _ n s = None

-- a register of the PMP is written
abbrev pub set_by : Csr → Term → CsrTerms → Option CsrTerms
set_by c (Lit n) s = set_lit c n s
set_by c (Var a) s = None
set_by c (Bin o a b) s = None
set_by c (Aligned a) s = None
set_by c Unknown s = None

-- the term of a handler's address, whose two low bits are cleared
abbrev pub vector_term : Term → Term
vector_term (Lit n) = Lit (aligned n)
vector_term (Var n) = Unknown
vector_term (Bin o a b) = Unknown
vector_term (Aligned a) = Unknown
vector_term Unknown = Unknown

-- a control and status register is written
abbrev pub set_csr : Csr → Term → CsrTerms → Option CsrTerms
set_csr Mscratch v s = Some (record s { scratch = v })
set_csr Mepc v s = Some (record s { epc = aligned_term v })
set_csr Mtvec v s = Some (record s { tvec = vector_term v })
set_csr c v s = set_by c v s

-- the old value goes to a register, and the control and status registers are these
abbrev pub put_old : State → ℕ → Term → Option CsrTerms → Option (List State)
put_old s rd old (Some c) = Some (record s { at = next_at s; regs = put_term s.regs rd old; csrs = c } ∷ [])
put_old s rd old None = None

-- CSRRW
abbrev pub swap_csr : Bool → Option Csr → State → ℕ → Term → Option (List State)
swap_csr false (Some c) s rd v = put_old s rd (get_csr c s.csrs) (set_csr c v s.csrs)
swap_csr false None s rd v = None
swap_csr true c s rd v = None

-- CSRRS that writes nothing
abbrev pub read_into : Option Csr → State → ℕ → Option (List State)
read_into (Some c) s rd = put_old s rd (get_csr c s.csrs) (Some s.csrs)
read_into None s rd = None

-- the states, where the test holds
abbrev pub guarded : Bool → List State → Option (List State)
guarded true ss = Some ss
guarded false ss = None

-- the states to which an action may lead; none where that is not known
abbrev pub after_action : Action → State → Option (List State)
after_action (Puts rd v) s = Some (record s { at = next_at s; regs = put_term s.regs rd v } ∷ [])
after_action (Jumps rd target) s =
    only (target % instruction_alignment == 0) (record s { at = target; regs = put_term s.regs rd (Lit (next_at s)) })
after_action (Forks d a b negated target) s =
    guarded (target % instruction_alignment == 0) (fork_from s d a b negated target)
after_action (Loads rd a) s = load_into s rd a
after_action (Stores a v) s = store_from s a v
after_action (Swaps rd csr v) s = swap_csr (is_read_only csr) (csr_of csr) s rd v
after_action (Reads rd csr) s = read_into (csr_of csr) s rd

-- what follows of an answer, if there is one
abbrev pub and_then : {A B : Type 0} → Option A → (A → Option B) → Option B
and_then (Some a) f = f a
and_then None f = None

-- the states to which an instruction may lead
abbrev pub successors_of : Insn → State → Option (List State)
successors_of i s = and_then (action_of i s) (λ d. after_action d s)

-- the instruction at an address
abbrev pub fetch : List Insn → ℕ → Option Insn
fetch code a =
    if a == kernel_start + 4 * ((a - kernel_start) / 4) then slice_get code ((a - kernel_start) / 4) else None

-- the states to which a step may lead; none where that is not known
abbrev pub successors : List Insn → State → Option (List State)
successors code s = and_then (fetch code s.at) (λ i. successors_of i s)
