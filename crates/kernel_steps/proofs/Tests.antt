-- Tests over all blocks, and what follows of a place.
use Rattle.std.proofs.Common.{◌≡◌, ℕ, zero, suc, ◌==◌, Bool, true, false, ◌⊎◌, inl, inr, Option, Some, None, List, [], ◌∷◌, sym, subst}
use Rattle.std.proofs.lemmas.Bool.{false≢true, eqb-true}
use Rattle.kernel_steps.specs.States.{State}
use Rattle.kernel_steps.specs.Blocks.{Block, Among, OnRun, After, IsLast, step_at, test}
use Rattle.kernel_steps.specs.Blocks.{member}
use Rattle.kernel_steps.proofs.GraphLaws.{then-l, then-r, either}
use Rattle.rv_decode.specs.declared.instruction.Insn.{Insn}

-- n is one of a list
abbrev pub In : ℕ → List ℕ → Type 0
In n [] = ⊥
In n (m ∷ ms) = (n ≡ m) ⊎ In n ms

pub member-In : (n : ℕ) (ms : List ℕ) → member n ms ≡ true → In n ms
member-In n [] e = absurd (false≢true e)
member-In n (m ∷ ms) e = either (n == m) (member n ms) e (λ p. inl (eqb-true n m p)) (λ p. inr (member-In n ms p))

-- each place of each block passes a test
abbrev pub run_all : (State → Bool) → List Insn → ℕ → State → Bool
run_all f code zero s = f s
run_all f code (suc n) s = elim (f s) [ true ↦ test (step_at code s) (λ t. run_all f code n t) | false ↦ false ]

abbrev pub blocks_all : (ℕ → State → Bool) → List Insn → List Block → Bool
blocks_all f code [] = true
blocks_all f code (b ∷ bs) = elim (run_all (f b.kind) code b.size b.start) [ true ↦ blocks_all f code bs | false ↦ false ]

run_all-at : (f : State → Bool) (code : List Insn) (n : ℕ) (s u : State) → run_all f code n s ≡ true → OnRun code n s u → f u ≡ true
run_all-at f code zero s u e r = rw r e
run_all-at f code (suc n) s u e (inl r) = rw r (then-l _ _ e)
run_all-at f code (suc n) s u e (inr r) = go (step_at code s) (then-r (f s) _ e) r (λ z q w. run_all-at f code n z u q w)
  where
    go : (o : Option State) → test o (λ t. run_all f code n t) ≡ true → After o (λ z. OnRun code n z u) → ((z : State) → run_all f code n z ≡ true → OnRun code n z u → f u ≡ true) → f u ≡ true
    go None q w g = absurd w
    go (Some z) q w g = g z q w

pub blocks_all-at : (f : ℕ → State → Bool) (code : List Insn) (bs : List Block) (b : Block) (u : State) → blocks_all f code bs ≡ true → Among b bs → OnRun code b.size b.start u → f b.kind u ≡ true
blocks_all-at f code [] b u e a r = absurd a
blocks_all-at f code (d ∷ bs) b u e (inl p) r = subst (λ z. f z.kind u ≡ true) (sym p) (run_all-at (f d.kind) code d.size d.start u (then-l _ _ e) (subst (λ z. OnRun code z.size z.start u) p r))
blocks_all-at f code (d ∷ bs) b u e (inr p) r = blocks_all-at f code bs b u (then-r (run_all (f d.kind) code d.size d.start) _ e) p r

-- the start of each block passes a test
abbrev pub starts_all : (ℕ → State → Bool) → List Block → Bool
starts_all f [] = true
starts_all f (b ∷ bs) = elim (f b.kind b.start) [ true ↦ starts_all f bs | false ↦ false ]

pub starts-at : (f : ℕ → State → Bool) (bs : List Block) (b : Block) → starts_all f bs ≡ true → Among b bs → f b.kind b.start ≡ true
starts-at f [] b e a = absurd a
starts-at f (d ∷ bs) b e (inl p) = subst (λ z. f z.kind z.start ≡ true) (sym p) (then-l _ _ e)
starts-at f (d ∷ bs) b e (inr p) = starts-at f bs b (then-r (f d.kind d.start) _ e) p

-- the last place of each block of one kind passes a test
abbrev pub last_test : (State → Bool) → List Insn → ℕ → State → Bool
last_test f code zero s = f s
last_test f code (suc n) s = test (step_at code s) (λ t. last_test f code n t)

pub last_test-at : (f : State → Bool) (code : List Insn) (n : ℕ) (s u : State) → last_test f code n s ≡ true → IsLast code n s u → f u ≡ true
last_test-at f code zero s u e r = rw r e
last_test-at f code (suc n) s u e r = go (step_at code s) e r (λ z q w. last_test-at f code n z u q w)
  where
    go : (o : Option State) → test o (λ t. last_test f code n t) ≡ true → After o (λ z. IsLast code n z u) → ((z : State) → last_test f code n z ≡ true → IsLast code n z u → f u ≡ true) → f u ≡ true
    go None q w g = absurd w
    go (Some z) q w g = g z q w

abbrev pub lasts_all : (ℕ → State → Bool) → List Insn → List Block → Bool
lasts_all f code [] = true
lasts_all f code (b ∷ bs) = elim (last_test (f b.kind) code b.size b.start) [ true ↦ lasts_all f code bs | false ↦ false ]

pub lasts-at : (f : ℕ → State → Bool) (code : List Insn) (bs : List Block) (b : Block) (u : State) → lasts_all f code bs ≡ true → Among b bs → IsLast code b.size b.start u → f b.kind u ≡ true
lasts-at f code [] b u e a r = absurd a
lasts-at f code (d ∷ bs) b u e (inl p) r = subst (λ z. f z.kind u ≡ true) (sym p) (last_test-at (f d.kind) code d.size d.start u (then-l _ _ e) (subst (λ z. IsLast code z.size z.start u) p r))
lasts-at f code (d ∷ bs) b u e (inr p) r = lasts-at f code bs b u (then-r (last_test (f d.kind) code d.size d.start) _ e) p r
