-- A number of no claim gets a name, and a term becomes known.
use Rattle.std.proofs.Common.{◌≡◌, ℕ, zero, suc, ◌+◌, ◌*◌, ◌^◌, ◌<◌, Bool, true, false, ◌==◌, ◌&&◌, List, [], ◌∷◌, set, get_or, refl, ap, sym, subst, ◌∙◌, arith, if◌then◌else◌, not}
use Rattle.std.proofs.lemmas.Bool.{false≢true, and_parts}
use Rattle.fe_base.specs.MemoryMap.{kernel_code_size}
use Rattle.rv_alu.specs.Formulas.{alu}
use Rattle.rv_csr.specs.CsrTable.{CsrState}
use Rattle.rv_csr.specs.Fields.{instruction_aligned}
use Rattle.rv_hart.specs.HartStep.{System}
use Rattle.guest_memory.specs.Memory.{load}
use Rattle.kernel_steps.specs.Terms.{Term, Lit, Var, Bin, Aligned, Unknown, value, Is, AllIs, CellsAre, Fact, compared, FactsHold}
use Rattle.kernel_steps.specs.States.{CsrTerms, CsrsAre, State, Describes}
use Rattle.rv_decode.specs.declared.instruction.Insn.{Insn}

abbrev pub with_var : (ℕ → ℕ) → ℕ → ℕ → (ℕ → ℕ)
with_var env n v = λ k. if k == n then v else env k

abbrev pub avoids : ℕ → Term → Bool
avoids n (Lit m) = true
avoids n (Var m) = not (m == n)
avoids n (Bin o a b) = avoids n a && avoids n b
avoids n (Aligned a) = avoids n a
avoids n Unknown = true

abbrev pub all_avoid : ℕ → List Term → Bool
all_avoid n [] = true
all_avoid n (s ∷ ss) = avoids n s && all_avoid n ss

abbrev pub facts_avoid : ℕ → List Fact → Bool
facts_avoid n [] = true
facts_avoid n (f ∷ fs) = (avoids n f.left && avoids n f.right) && facts_avoid n fs

abbrev pub csrs_avoid : ℕ → CsrTerms → Bool
csrs_avoid n s = (avoids n s.scratch && avoids n s.epc) && ((avoids n s.cause && avoids n s.tval) && avoids n s.tvec)

abbrev pub state_avoids : ℕ → State → Bool
state_avoids n s = (all_avoid n s.regs && csrs_avoid n s.csrs) && (all_avoid n s.cells && facts_avoid n s.facts)

pub with_var-same : (env : ℕ → ℕ) (n v : ℕ) → with_var env n v n ≡ v
with_var-same env n v = grind arith

module _ (env : ℕ → ℕ) (n v : ℕ) where
  abbrev to : ℕ → ℕ
  to = with_var env n v

  other : (m : ℕ) → not (m == n) ≡ true → to m ≡ env m
  other m e = go (m == n) e
    where
      go : (b : Bool) → not b ≡ true → (if b then v else env m) ≡ env m
      go true p = absurd (false≢true p)
      go false p = refl

  value-kept : (s : Term) → avoids n s ≡ true → value to s ≡ value env s
  value-kept (Lit m) e = refl
  value-kept (Var m) e = other m e
  value-kept (Bin o a b) e = let p = and_parts _ _ e in ap (λ z. alu o z (value to b)) (value-kept a p.0) ∙ ap (λ z. alu o (value env a) z) (value-kept b p.1)
  value-kept (Aligned a) e = ap instruction_aligned (value-kept a e)
  value-kept Unknown e = refl

  is-kept : (s : Term) (x : ℕ) → avoids n s ≡ true → Is env s x → Is to s x
  is-kept (Lit m) x e h = h
  is-kept (Var m) x e h = h ∙ sym (other m e)
  is-kept (Bin o a b) x e h = h ∙ sym (value-kept (Bin o a b) e)
  is-kept (Aligned a) x e h = h ∙ sym (value-kept (Aligned a) e)
  is-kept Unknown x e h = tt

  all-kept : (ss : List Term) (vs : List ℕ) → all_avoid n ss ≡ true → AllIs env ss vs → AllIs to ss vs
  all-kept [] vs e h = tt
  all-kept (s ∷ ss) [] e h = h
  all-kept (s ∷ ss) (x ∷ vs) e h = let p = and_parts _ _ e in (is-kept s x p.0 h.0, all-kept ss vs p.1 h.1)

  cells-kept : (ss : List Term) (m : List ℕ) (a : ℕ) → all_avoid n ss ≡ true → CellsAre env ss m a → CellsAre to ss m a
  cells-kept [] m a e h = tt
  cells-kept (s ∷ ss) m a e h = let p = and_parts _ _ e in (is-kept s (load m a 8) p.0 h.0, cells-kept ss m _ p.1 h.1)

  facts-kept : (fs : List Fact) → facts_avoid n fs ≡ true → FactsHold env fs → FactsHold to fs
  facts-kept [] e h = tt
  facts-kept (f ∷ fs) e h =
      let p = and_parts _ _ e in
      let q = and_parts _ _ p.0 in
      let l = value-kept f.left q.0 in
      let r = value-kept f.right q.1 in
      (ap (λ z. compared f.below z (value to f.right)) l ∙ ap (λ z. compared f.below (value env f.left) z) r ∙ h.0, facts-kept fs p.1 h.1)

  csrs-kept : (s : CsrTerms) (csrs : CsrState) → csrs_avoid n s ≡ true → CsrsAre env s csrs → CsrsAre to s csrs
  csrs-kept s csrs e h =
      let p = and_parts _ _ e in
      let a = and_parts _ _ p.0 in
      let b = and_parts _ _ p.1 in
      let c = and_parts _ _ b.0 in
      record {
        scratch = is-kept s.scratch csrs.mscratch a.0 h.scratch;
        epc = is-kept s.epc csrs.mepc a.1 h.epc;
        cause = is-kept s.cause csrs.mcause c.0 h.cause;
        tval = is-kept s.tval csrs.mtval c.1 h.tval;
        tvec = is-kept s.tvec csrs.mtvec b.1 h.tvec;
        mpp = h.mpp;
        pmp = h.pmp;
      }

  to-small : v < 2 ^ 64 → ((m : ℕ) → env m < 2 ^ 64) → (m : ℕ) → to m < 2 ^ 64
  to-small l h m = go (m == n)
    where
      go : (b : Bool) → (if b then v else env m) < 2 ^ 64
      go true = l
      go false = h m

  -- a variable that the state does not use is given a number
  pub fresh : (code : List Insn) (user : List ℕ) (s : State) (sys : System) → state_avoids n s ≡ true → v < 2 ^ 64 → Describes code user env s sys → Describes code user (with_var env n v) s sys
  fresh code user s sys e l m =
      let p = and_parts _ _ e in
      let a = and_parts _ _ p.0 in
      let b = and_parts _ _ p.1 in
      record {
        run = m.run;
        mode = m.mode;
        at = m.at;
        regs = all-kept s.regs sys.hart.registers a.0 m.regs;
        csrs = csrs-kept s.csrs sys.hart.csrs a.1 m.csrs;
        memory = record { cells_are = cells-kept s.cells sys.bus.kernel _ b.0 m.memory.cells_are; long = m.memory.long; user_is = m.memory.user_is; code_is = m.memory.code_is };
        facts = facts-kept s.facts b.1 m.facts;
        small = to-small l m.small;
      }

all-learn : (env : ℕ → ℕ) (ss : List Term) (vs : List ℕ) (n : ℕ) (v : Term) → AllIs env ss vs → Is env v (get_or vs n 0) → AllIs env (set ss n v) vs
all-learn env [] vs n v h p = tt
all-learn env (s ∷ ss) [] n v h p = absurd h
all-learn env (s ∷ ss) (x ∷ vs) zero v h p = (p, h.1)
all-learn env (s ∷ ss) (x ∷ vs) (suc n) v h p = (h.0, all-learn env ss vs n v h.1 p)

cells-learn : (env : ℕ → ℕ) (ss : List Term) (m : List ℕ) (a i b : ℕ) (v : Term) → b ≡ a + 8 * i → CellsAre env ss m a → Is env v (load m b 8) → CellsAre env (set ss i v) m a
cells-learn env [] m a i b v e h p = tt
cells-learn env (s ∷ ss) m a zero b v e h p = let k : b ≡ a = omega arith in (subst (λ x. Is env v (load m x 8)) k p, h.1)
cells-learn env (s ∷ ss) m a (suc i) b v e h p = (h.0, cells-learn env ss m (a + 8) i b v (omega arith) h.1 p)

-- a register's, and a cell's number becomes known
pub learn_reg : (code : List Insn) (user : List ℕ) (env : ℕ → ℕ) (s : State) (sys : System) (n : ℕ) (v : Term) → Is env v (get_or sys.hart.registers n 0) → Describes code user env s sys → Describes code user env (record s { regs = set s.regs n v }) sys
learn_reg code user env s sys n v p m = record { run = m.run; mode = m.mode; at = m.at; regs = all-learn env s.regs sys.hart.registers n v m.regs p; csrs = m.csrs; memory = m.memory; facts = m.facts; small = m.small }

pub learn_cell : (code : List Insn) (user : List ℕ) (env : ℕ → ℕ) (s : State) (sys : System) (i b : ℕ) (v : Term) → b ≡ kernel_code_size + 8 * i → Is env v (load sys.bus.kernel b 8) → Describes code user env s sys → Describes code user env (record s { cells = set s.cells i v }) sys
learn_cell code user env s sys i b v e p m = record {
  run = m.run;
  mode = m.mode;
  at = m.at;
  regs = m.regs;
  csrs = m.csrs;
  memory = record { cells_are = cells-learn env s.cells sys.bus.kernel kernel_code_size i b v e m.memory.cells_are p; long = m.memory.long; user_is = m.memory.user_is; code_is = m.memory.code_is };
  facts = m.facts;
  small = m.small;
}

-- a fact becomes known
pub learn_fact : (code : List Insn) (user : List ℕ) (env : ℕ → ℕ) (s : State) (sys : System) (f : Fact) → compared f.below (value env f.left) (value env f.right) ≡ f.truth → Describes code user env s sys → Describes code user env (record s { facts = f ∷ s.facts }) sys
learn_fact code user env s sys f p m = record { run = m.run; mode = m.mode; at = m.at; regs = m.regs; csrs = m.csrs; memory = m.memory; facts = (p, m.facts); small = m.small }

-- what the registers of a trap hold becomes known
pub learn_trap : (code : List Insn) (user : List ℕ) (env : ℕ → ℕ) (s : State) (sys : System) (epc cause tval : Term) → Is env epc sys.hart.csrs.mepc → Is env cause sys.hart.csrs.mcause → Is env tval sys.hart.csrs.mtval → Describes code user env s sys → Describes code user env (record s { csrs = record s.csrs { epc = epc; cause = cause; tval = tval } }) sys
learn_trap code user env s sys epc cause tval p q r m = record {
  run = m.run;
  mode = m.mode;
  at = m.at;
  regs = m.regs;
  csrs = record { scratch = m.csrs.scratch; epc = p; cause = q; tval = r; tvec = m.csrs.tvec; mpp = m.csrs.mpp; pmp = m.csrs.pmp };
  memory = m.memory;
  facts = m.facts;
  small = m.small;
}
