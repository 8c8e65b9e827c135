-- What is known of numbers: terms over variables, and comparisons.
use Rattle.std.specs.Prelude.{◌≡◌, ℕ, ◌+◌, ◌==◌, ⊤, nat_lt, Bool, true, false, List, [], ◌∷◌}
use Rattle.rv_alu.specs.Formulas.{alu}
use Rattle.rv_alu.specs.declared.arithmetic.AluOp.{AluOp}
use Rattle.rv_alu.specs.declared.arithmetic.AluOp.TheVariants as op
use Rattle.rv_csr.specs.Fields.{instruction_aligned}
use Rattle.guest_memory.specs.Memory.{load}

-- what is known of a number: that it is this literal, that of a variable, the result of an operation on two terms, the
-- address of an instruction at or before one, or nothing
pub data Term : Type 0 where
  Lit : ℕ → Term
  Var : ℕ → Term
  Bin : AluOp → Term → Term → Term
  Aligned : Term → Term
  Unknown : Term

-- the number of a term, by the variables' numbers; of a number that is not known it says nothing
abbrev pub value : (ℕ → ℕ) → Term → ℕ
value env (Lit n) = n
value env (Var n) = env n
value env (Bin o a b) = alu o (value env a) (value env b)
value env (Aligned a) = instruction_aligned (value env a)
value env Unknown = 0

-- a number is that of a term
abbrev pub Is : (ℕ → ℕ) → Term → ℕ → Type 0
Is env (Lit n) v = v ≡ n
Is env (Var n) v = v ≡ env n
Is env (Bin o a b) v = v ≡ alu o (value env a) (value env b)
Is env (Aligned a) v = v ≡ instruction_aligned (value env a)
Is env Unknown v = ⊤

-- the term says which number it is
abbrev pub is_known : Term → Bool
is_known Unknown = false
is_known (Lit n) = true
is_known (Var n) = true
is_known (Bin o a b) = true
is_known (Aligned a) = true

-- the term, or nothing where one of its parts is not known
abbrev pub if_known : Bool → Term → Term
if_known true s = s
if_known false s = Unknown

-- the operation adds a literal 0
abbrev pub adds_zero : AluOp → Term → Bool
adds_zero op.Add (Lit n) = n == 0
adds_zero _ _ = false

-- an operation on two terms, or the first of them where the second adds nothing
abbrev pub bin_of : Bool → AluOp → Term → Term → Term
bin_of true o a b = a
bin_of false o a b = if_known (is_known b) (Bin o a b)

-- the term of an operation: computed on two literals, kept as it is on others
abbrev pub combine : AluOp → Term → Term → Term
combine o (Lit a) (Lit b) = Lit (alu o a b)
combine o (Lit a) (Var b) = Bin o (Lit a) (Var b)
combine o (Lit a) (Bin p b c) = Bin o (Lit a) (Bin p b c)
combine o (Lit a) (Aligned b) = Bin o (Lit a) (Aligned b)
combine o (Lit a) Unknown = Unknown
combine o (Var a) b = bin_of (adds_zero o b) o (Var a) b
combine o (Bin p a c) b = if_known (is_known b) (Bin o (Bin p a c) b)
combine o (Aligned a) b = if_known (is_known b) (Bin o (Aligned a) b)
combine o Unknown b = Unknown

-- the term of the last address up to this one at which an instruction may stand
abbrev pub aligned_term : Term → Term
aligned_term (Lit n) = Lit (instruction_aligned n)
aligned_term (Var n) = Aligned (Var n)
aligned_term (Bin o a b) = Aligned (Bin o a b)
aligned_term (Aligned a) = Aligned (Aligned a)
aligned_term Unknown = Unknown

-- each number of a list is that of its term
abbrev pub AllIs : (ℕ → ℕ) → List Term → List ℕ → Type 0
AllIs env [] vs = ⊤
AllIs env (s ∷ ss) [] = ⊥
AllIs env (s ∷ ss) (v ∷ vs) = Is env s v × AllIs env ss vs

-- the doublewords of a memory from a place on are those of their terms
abbrev pub CellsAre : (ℕ → ℕ) → List Term → List ℕ → ℕ → Type 0
CellsAre env [] m a = ⊤
CellsAre env (s ∷ ss) m a = Is env s (load m a 8) × CellsAre env ss m (a + 8)

-- how a comparison came out: of below, or else of equality, between two terms
pub record Fact : Type 0 where
  pub below : Bool
  pub left : Term
  pub right : Term
  pub truth : Bool

-- a comparison of two numbers: below, or else equality
abbrev pub compared : Bool → ℕ → ℕ → Bool
compared true a b = nat_lt a b
compared false a b = a == b

-- each comparison came out as it is told
abbrev pub FactsHold : (ℕ → ℕ) → List Fact → Type 0
FactsHold env [] = ⊤
FactsHold env (f ∷ fs) = (compared f.below (value env f.left) (value env f.right) ≡ f.truth) × FactsHold env fs
