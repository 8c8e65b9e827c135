-- A code as blocks, straight runs of it, and the tests that tell that each block leads to others. Where a test goes by
-- two parts, the second is computed only where the first holds.
use Rattle.std.specs.Prelude.{◌≡◌, ℕ, zero, suc, ◌==◌, ◌&&◌, ◌⊎◌, Bool, true, false, Option, Some, None, List, [], ◌∷◌}
use Rattle.rv_alu.specs.declared.arithmetic.AluOp.{AluOp}
use Rattle.rv_alu.specs.declared.arithmetic.AluOp.TheVariants as op
use Rattle.rv_csr.specs.Pmp.{PmpState}
use Rattle.rv_csr.specs.declared.pmp.PmpEntry.{PmpEntry}
use Rattle.rv_hart.specs.HartStep.{System, AreRegisters, hart_step}
use Rattle.kernel_steps.specs.Terms.{Term, Lit, Var, Bin, Aligned, Unknown, Fact}
use Rattle.kernel_steps.specs.States.{CsrTerms, State, Describes, OneDescribes}
use Rattle.kernel_steps.specs.Successors.{successors}
use Rattle.rv_decode.specs.declared.instruction.Insn.{Insn}

-- a number for each operation, to compare them by
abbrev pub op_number : AluOp → ℕ
op_number op.Add = 0
op_number op.Sub = 1
op_number op.Sll = 2
op_number op.Slt = 3
op_number op.Sltu = 4
op_number op.Xor = 5
op_number op.Srl = 6
op_number op.Sra = 7
op_number op.Or = 8
op_number op.And = 9

-- two terms are the same
abbrev pub same : Term → Term → Bool
same (Lit a) (Lit b) = a == b
same (Var a) (Var b) = a == b
same (Bin o a b) (Bin p c d) = elim (op_number o == op_number p) [ true ↦ same a c && same b d | false ↦ false ]
same (Aligned a) (Aligned b) = same a b
same Unknown Unknown = true
same _ _ = false

-- the second term says no more than the first
abbrev pub weaker : Term → Term → Bool
weaker a Unknown = true
weaker a b = same a b

-- each term of the second list says no more than that of the first
abbrev pub all_weaker : List Term → List Term → Bool
all_weaker ss [] = true
all_weaker [] (t ∷ ts) = false
all_weaker (s ∷ ss) (t ∷ ts) = elim (weaker s t) [ true ↦ all_weaker ss ts | false ↦ false ]

-- two tests have the same outcome
abbrev pub same_bool : Bool → Bool → Bool
same_bool true b = b
same_bool false true = false
same_bool false false = true

-- two comparisons are the same
abbrev pub same_fact : Fact → Fact → Bool
same_fact f g = same_bool f.below g.below && same f.left g.left && same f.right g.right && same_bool f.truth g.truth

-- a comparison is among those that are known
abbrev pub has_fact : Fact → List Fact → Bool
has_fact f [] = false
has_fact f (g ∷ gs) = elim (same_fact f g) [ true ↦ true | false ↦ has_fact f gs ]

-- each comparison of the second list is in the first
abbrev pub all_facts : List Fact → List Fact → Bool
all_facts fs [] = true
all_facts fs (g ∷ gs) = elim (has_fact g fs) [ true ↦ all_facts fs gs | false ↦ false ]

-- two entries of the PMP are the same
abbrev pub same_entry : PmpEntry → PmpEntry → Bool
same_entry p q =
    same_bool p.read q.read && same_bool p.write q.write && same_bool p.execute q.execute && same_bool p.tor q.tor
    && (p.end == q.end)

-- two PMPs are the same
abbrev pub same_pmp : PmpState → PmpState → Bool
same_pmp p q = same_entry p.entry0 q.entry0 && same_entry p.entry1 q.entry1

-- the second says no more than the first of each control and status register
abbrev pub weaker_csrs : CsrTerms → CsrTerms → Bool
weaker_csrs s t =
    weaker s.scratch t.scratch && weaker s.epc t.epc && weaker s.cause t.cause && weaker s.tval t.tval
    && weaker s.tvec t.tvec && same_pmp s.pmp t.pmp

-- the second state says no more than the first
abbrev pub implies : State → State → Bool
implies s t =
    elim (s.at == t.at) [
      | true ↦
          elim (all_weaker s.regs t.regs) [
            | true ↦
                elim (weaker_csrs s.csrs t.csrs) [
                  | true ↦ elim (all_weaker s.cells t.cells) [ true ↦ all_facts s.facts t.facts | false ↦ false ]
                  | false ↦ false
                ]
            | false ↦ false
          ]
      | false ↦ false
    ]

-- a straight run of the code: its kind, what is known where it starts, and how many steps go on from there to one place
-- each; where it is checked, the step behind them leads to blocks, and else that step is left open
pub record Block : Type 0 where
  pub kind : ℕ
  pub start : State
  pub size : ℕ
  pub checked : Bool

-- a test of an answer, if there is one
abbrev pub test : {A : Type 0} → Option A → (A → Bool) → Bool
test (Some a) f = f a
test None f = false

-- the only state of a list
abbrev pub lone : Option (List State) → Option State
lone (Some (s ∷ [])) = Some s
lone (Some (s ∷ (t ∷ ts))) = None
lone (Some []) = None
lone None = None

-- the only state to which a step leads
abbrev pub step_at : List Insn → State → Option State
step_at code s = lone (successors code s)

-- the state is one of a block whose kind may follow
abbrev pub fits : (ℕ → ℕ → Bool) → ℕ → Block → State → Bool
fits may k b t =
    elim (t.at == b.start.at) [
      | true ↦ elim (may k b.kind) [ true ↦ implies t b.start | false ↦ false ]
      | false ↦ false
    ]

-- the state is one of some block whose kind may follow
abbrev pub covered : (ℕ → ℕ → Bool) → ℕ → List Block → State → Bool
covered may k [] t = false
covered may k (b ∷ bs) t = elim (fits may k b t) [ true ↦ true | false ↦ covered may k bs t ]

-- each state is
abbrev pub all_covered : (ℕ → ℕ → Bool) → ℕ → List Block → List State → Bool
all_covered may k bs [] = true
all_covered may k bs (t ∷ ts) = elim (covered may k bs t) [ true ↦ all_covered may k bs ts | false ↦ false ]

-- each step of a run from a state goes on, and the last one leads to blocks
abbrev pub runs_well : (ℕ → ℕ → Bool) → List Insn → ℕ → List Block → Bool → ℕ → State → Bool
runs_well may code k bs true zero s = test (successors code s) (all_covered may k bs)
runs_well may code k bs false zero s = true
runs_well may code k bs c (suc n) s = test (step_at code s) (λ t. runs_well may code k bs c n t)

-- what follows of an answer, if there is one
abbrev pub After : Option State → (State → Type 0) → Type 0
After (Some t) f = f t
After None f = ⊥

-- the last state is known at some place of the run from the first
abbrev pub OnRun : List Insn → ℕ → State → State → Type 0
OnRun code zero s t = t ≡ s
OnRun code (suc n) s t = (t ≡ s) ⊎ After (step_at code s) (λ z. OnRun code n z t)

-- the last state is known at the last place of the run from the first
abbrev pub IsLast : List Insn → ℕ → State → State → Type 0
IsLast code zero s t = t ≡ s
IsLast code (suc n) s t = After (step_at code s) (λ z. IsLast code n z t)

-- a block is one of a list
abbrev pub Among : Block → List Block → Type 0
Among b [] = ⊥
Among b (c ∷ cs) = (b ≡ c) ⊎ Among b cs

-- the hart is at some place of a block of this kind
pub record Here (code : List Insn) (user : List ℕ) (env : ℕ → ℕ) (bs : List Block) (k : ℕ) (sys : System) : Type 0 where
  pub block : Block
  pub among : Among block bs
  pub kind : block.kind ≡ k
  pub state : State
  pub on : OnRun code block.size block.start state
  pub describes : Describes code user env state sys

-- the hart is at the start of a block whose kind may follow
pub record Enters
    (may : ℕ → ℕ → Bool) (code : List Insn) (user : List ℕ) (env : ℕ → ℕ) (bs : List Block) (k : ℕ)
    (sys : System) : Type 0 where
  pub block : Block
  pub among : Among block bs
  pub goes : may k block.kind ≡ true
  pub describes : Describes code user env block.start sys

-- each block of the list goes well
abbrev pub all_well : (ℕ → ℕ → Bool) → List Insn → List Block → List Block → Bool
all_well may code bs [] = true
all_well may code bs (b ∷ more) =
    elim (runs_well may code b.kind bs b.checked b.size b.start) [ true ↦ all_well may code bs more | false ↦ false ]

-- a step from a place of a block stays in its kind, goes into one that may follow it, or is left open
pub data Moves
    (may : ℕ → ℕ → Bool) (code : List Insn) (user : List ℕ) (env : ℕ → ℕ) (bs : List Block) (k : ℕ) (b : Block)
    (u : State) (next : System) : Type 0 where
  Stays : Here code user env bs k next → Moves may code user env bs k b u next
  Goes_to : Enters may code user env bs k next → Moves may code user env bs k b u next
  Left_open : b.checked ≡ false → IsLast code b.size b.start u → Moves may code user env bs k b u next

-- the first block that does not go well, if there is one
abbrev pub first_bad : (ℕ → ℕ → Bool) → List Insn → List Block → List Block → Option Block
first_bad may code bs [] = None
first_bad may code bs (b ∷ more) =
    elim (runs_well may code b.kind bs b.checked b.size b.start) [ true ↦ first_bad may code bs more | false ↦ Some b ]

-- a number is one of a list
abbrev pub member : ℕ → List ℕ → Bool
member n [] = false
member n (m ∷ ms) = elim (n == m) [ true ↦ true | false ↦ member n ms ]

-- from a place of the code at which a state is known, a step leads to one of its successors
abbrev pub StepsAreSuccessors : Type 0
StepsAreSuccessors =
    (code : List Insn) (user : List ℕ) (env : ℕ → ℕ) (s : State) (sys : System) → Describes code user env s sys
    → AreRegisters sys.hart.registers
    → (ts : List State) → successors code s ≡ Some ts → OneDescribes code user env ts (hart_step sys)

-- where each block goes well, a step from a place of a block stays in its kind, goes into one that may follow it, or is
-- left open
abbrev pub BlocksLead : Type 0
BlocksLead =
    (may : ℕ → ℕ → Bool) (code : List Insn) (user : List ℕ) (env : ℕ → ℕ) (bs : List Block) (k : ℕ) (sys : System)
    → all_well may code bs bs ≡ true → AreRegisters sys.hart.registers
    → (w : Here code user env bs k sys) → Moves may code user env bs k w.block w.state (hart_step sys)
