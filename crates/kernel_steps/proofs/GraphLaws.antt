-- From each place of a block a step goes on, leads to a block, or is left open.
use Rattle.std.proofs.Common.{◌≡◌, ℕ, zero, suc, Bool, true, false, ◌==◌, ◌&&◌, Option, Some, None, List, [], ◌∷◌, ◌++◌, inl, inr, refl, ap, sym, subst, ◌∙◌}
use Rattle.std.proofs.lemmas.Bool.{false≢true, and_parts, eqb-true}
use Rattle.rv_alu.specs.declared.arithmetic.AluOp.{AluOp}
use Rattle.rv_alu.specs.declared.arithmetic.AluOp.TheVariants as op
use Rattle.rv_csr.specs.Pmp.{PmpState}
use Rattle.rv_csr.specs.CsrTable.{CsrState}
use Rattle.rv_csr.specs.declared.pmp.PmpEntry.{PmpEntry}
use Rattle.rv_decode.specs.declared.instruction.Insn.{Insn}
use Rattle.rv_hart.specs.HartStep.{System, AreRegisters, hart_step}
use Rattle.guest_memory.specs.Memory.{load}
use Rattle.kernel_steps.specs.Terms.{Term, Lit, Var, Bin, Aligned, Unknown, value, Is, AllIs, CellsAre, Fact, compared, FactsHold}
use Rattle.kernel_steps.specs.States.{CsrTerms, CsrsAre, State, Describes, OneDescribes}
use Rattle.kernel_steps.specs.Successors.{and_then, successors_of, successors, fetch}
use Rattle.kernel_steps.specs.Blocks.{StepsAreSuccessors, BlocksLead, op_number, same, weaker, all_weaker, same_bool, same_fact, has_fact, all_facts, same_entry, same_pmp, weaker_csrs, implies, Block, test, lone, step_at, fits, covered, all_covered, runs_well, After, OnRun, IsLast, Among, Here, Enters, all_well, Moves, Stays, Goes_to, Left_open, first_bad}
use Rattle.kernel_steps.proofs.Soundness.{leads}

-- a test by cases holds where both parts do
pub then-l : (a b : Bool) → (elim a [ true ↦ b | false ↦ false ]) ≡ true → a ≡ true
then-l true b e = refl
then-l false b e = e

pub then-r : (a b : Bool) → (elim a [ true ↦ b | false ↦ false ]) ≡ true → b ≡ true
then-r true b e = e
then-r false b e = absurd (false≢true e)

pub either : {P : Type 0} (a b : Bool) → (elim a [ true ↦ true | false ↦ b ]) ≡ true → (a ≡ true → P) → (b ≡ true → P) → P
either true b e f g = f refl
either false b e f g = g e

op-path : (o p : AluOp) → op_number o ≡ op_number p → o ≡ p
op-path op.Add op.Add e = refl
op-path op.Sub op.Sub e = refl
op-path op.Sll op.Sll e = refl
op-path op.Slt op.Slt e = refl
op-path op.Sltu op.Sltu e = refl
op-path op.Xor op.Xor e = refl
op-path op.Srl op.Srl e = refl
op-path op.Sra op.Sra e = refl
op-path op.Or op.Or e = refl
op-path op.And op.And e = refl
op-path o p e = cc

pub same-path : (a b : Term) → same a b ≡ true → a ≡ b
same-path (Lit a) (Lit b) e = ap Lit (eqb-true a b e)
same-path (Var a) (Var b) e = ap Var (eqb-true a b e)
same-path (Bin o a b) (Bin p c d) e =
    let parts = and_parts _ _ (then-r (op_number o == op_number p) (same a c && same b d) e) in
    let r = op-path o p (eqb-true _ _ (then-l (op_number o == op_number p) (same a c && same b d) e)) in
    let s = same-path a c parts.0 in
    let t = same-path b d parts.1 in
    cc
same-path (Aligned a) (Aligned b) e = ap Aligned (same-path a b e)
same-path Unknown Unknown e = refl
same-path a b e = absurd (false≢true e)

pub weaker-Is : (env : ℕ → ℕ) (a b : Term) (x : ℕ) → weaker a b ≡ true → Is env a x → Is env b x
weaker-Is env a Unknown x e h = tt
weaker-Is env a (Lit n) x e h = subst (λ s. Is env s x) (same-path a (Lit n) e) h
weaker-Is env a (Var n) x e h = subst (λ s. Is env s x) (same-path a (Var n) e) h
weaker-Is env a (Bin o b c) x e h = subst (λ s. Is env s x) (same-path a (Bin o b c) e) h
weaker-Is env a (Aligned b) x e h = subst (λ s. Is env s x) (same-path a (Aligned b) e) h

weaker-AllIs : (env : ℕ → ℕ) (ss ts : List Term) (vs : List ℕ) → all_weaker ss ts ≡ true → AllIs env ss vs → AllIs env ts vs
weaker-AllIs env ss [] vs e h = tt
weaker-AllIs env [] (t ∷ ts) vs e h = absurd (false≢true e)
weaker-AllIs env (s ∷ ss) (t ∷ ts) [] e h = h
weaker-AllIs env (s ∷ ss) (t ∷ ts) (v ∷ vs) e h = (weaker-Is env s t v (then-l _ _ e) h.0, weaker-AllIs env ss ts vs (then-r (weaker s t) _ e) h.1)

weaker-CellsAre : (env : ℕ → ℕ) (ss ts : List Term) (m : List ℕ) (a : ℕ) → all_weaker ss ts ≡ true → CellsAre env ss m a → CellsAre env ts m a
weaker-CellsAre env ss [] m a e h = tt
weaker-CellsAre env [] (t ∷ ts) m a e h = absurd (false≢true e)
weaker-CellsAre env (s ∷ ss) (t ∷ ts) m a e h = (weaker-Is env s t (load m a 8) (then-l _ _ e) h.0, weaker-CellsAre env ss ts m _ (then-r (weaker s t) _ e) h.1)

pub same_bool-path : (a b : Bool) → same_bool a b ≡ true → a ≡ b
same_bool-path true b e = sym e
same_bool-path false true e = e
same_bool-path false false e = refl

entry-path : (p q : PmpEntry) → same_entry p q ≡ true → p ≡ q
entry-path p q e =
    let a = and_parts _ _ e in
    let b = and_parts _ _ a.0 in
    let c = and_parts _ _ b.0 in
    let d = and_parts _ _ c.0 in
    let r = same_bool-path p.read q.read d.0 in
    let w = same_bool-path p.write q.write d.1 in
    let x = same_bool-path p.execute q.execute c.1 in
    let t = same_bool-path p.tor q.tor b.1 in
    let n = eqb-true p.end q.end a.1 in
    rw (r, w, x, t, n) refl

pub pmp-path : (p q : PmpState) → same_pmp p q ≡ true → p ≡ q
pmp-path p q e =
    let a = and_parts _ _ e in
    let l = entry-path p.entry0 q.entry0 a.0 in
    let r = entry-path p.entry1 q.entry1 a.1 in
    rw (l, r) refl

weaker-CsrsAre : (env : ℕ → ℕ) (s t : CsrTerms) (csrs : CsrState) → weaker_csrs s t ≡ true → CsrsAre env s csrs → CsrsAre env t csrs
weaker-CsrsAre env s t csrs e h =
    let a = and_parts _ _ e in
    let b = and_parts _ _ a.0 in
    let c = and_parts _ _ b.0 in
    let d = and_parts _ _ c.0 in
    let f = and_parts _ _ d.0 in
    record {
      scratch = weaker-Is env s.scratch t.scratch csrs.mscratch f.0 h.scratch;
      epc = weaker-Is env s.epc t.epc csrs.mepc f.1 h.epc;
      cause = weaker-Is env s.cause t.cause csrs.mcause d.1 h.cause;
      tval = weaker-Is env s.tval t.tval csrs.mtval c.1 h.tval;
      tvec = weaker-Is env s.tvec t.tvec csrs.mtvec b.1 h.tvec;
      mpp = h.mpp;
      pmp = h.pmp ∙ pmp-path s.pmp t.pmp a.1;
    }

abbrev pub Holds1 : (ℕ → ℕ) → Fact → Type 0
Holds1 env f = compared f.below (value env f.left) (value env f.right) ≡ f.truth

fact-path : (f g : Fact) → same_fact f g ≡ true → f ≡ g
fact-path f g e =
    let a = and_parts _ _ e in
    let b = and_parts _ _ a.0 in
    let c = and_parts _ _ b.0 in
    let d = same_bool-path f.below g.below c.0 in
    let l = same-path f.left g.left c.1 in
    let r = same-path f.right g.right b.1 in
    let t = same_bool-path f.truth g.truth a.1 in
    rw (d, l, r, t) refl

pub has_fact-holds : (env : ℕ → ℕ) (f : Fact) (gs : List Fact) → has_fact f gs ≡ true → FactsHold env gs → Holds1 env f
has_fact-holds env f [] e h = absurd (false≢true e)
has_fact-holds env f (g ∷ gs) e h = either (same_fact f g) (has_fact f gs) e (λ p. subst (Holds1 env) (sym (fact-path f g p)) h.0) (λ q. has_fact-holds env f gs q h.1)

all_facts-hold : (env : ℕ → ℕ) (fs gs : List Fact) → all_facts fs gs ≡ true → FactsHold env fs → FactsHold env gs
all_facts-hold env fs [] e h = tt
all_facts-hold env fs (g ∷ gs) e h = (has_fact-holds env g fs (then-l _ _ e) h, all_facts-hold env fs gs (then-r (has_fact g fs) _ e) h)

module _ (code : List Insn) (user : List ℕ) (env : ℕ → ℕ) where
  pub implies-Describes : (s t : State) (sys : System) → implies s t ≡ true → Describes code user env s sys → Describes code user env t sys
  implies-Describes s t sys e m =
      let r1 = then-r (s.at == t.at) _ e in
      let r2 = then-r (all_weaker s.regs t.regs) _ r1 in
      let r3 = then-r (weaker_csrs s.csrs t.csrs) _ r2 in
      record {
        run = m.run;
        mode = m.mode;
        at = m.at ∙ eqb-true s.at t.at (then-l _ _ e);
        regs = weaker-AllIs env s.regs t.regs sys.hart.registers (then-l _ _ r1) m.regs;
        csrs = weaker-CsrsAre env s.csrs t.csrs sys.hart.csrs (then-l _ _ r2) m.csrs;
        memory = record {
          cells_are = weaker-CellsAre env s.cells t.cells sys.bus.kernel _ (then-l _ _ r3) m.memory.cells_are;
          long = m.memory.long;
          user_is = m.memory.user_is;
          code_is = m.memory.code_is;
        };
        facts = all_facts-hold env s.facts t.facts (then-r (all_weaker s.cells t.cells) _ r3) m.facts;
        small = m.small;
      }

  module _ (may : ℕ → ℕ → Bool) (bs : List Block) where
    more-blocks : (b : Block) (cs : List Block) (k : ℕ) (sys : System) → Enters may code user env cs k sys → Enters may code user env (b ∷ cs) k sys
    more-blocks b cs k sys e = record { block = e.block; among = inr e.among; goes = e.goes; describes = e.describes }

    pub covered-enters : (cs : List Block) (k : ℕ) (t : State) (sys : System) → covered may k cs t ≡ true → Describes code user env t sys → Enters may code user env cs k sys
    covered-enters [] k t sys e m = absurd (false≢true e)
    covered-enters (b ∷ cs) k t sys e m =
        either (fits may k b t) (covered may k cs t) e
        (λ p. let q = then-r (t.at == b.start.at) _ p in record { block = b; among = inl refl; goes = then-l _ _ q; describes = implies-Describes t b.start sys (then-r (may k b.kind) _ q) m })
        (λ p. more-blocks b cs k sys (covered-enters cs k t sys p m))

    all-enter : (k : ℕ) (ts : List State) (sys : System) → all_covered may k bs ts ≡ true → OneDescribes code user env ts sys → Enters may code user env bs k sys
    all-enter k [] sys e m = absurd m
    all-enter k (t ∷ ts) sys e (inl m) = covered-enters bs k t sys (then-l _ _ e) m
    all-enter k (t ∷ ts) sys e (inr m) = all-enter k ts sys (then-r (covered may k bs t) _ e) m

    module _ (sys : System) (fit : AreRegisters sys.hart.registers) where
      pub led : (s : State) (ts : List State) (o : Option Insn) → fetch code s.at ≡ o → and_then o (λ i. successors_of i s) ≡ Some ts → Describes code user env s sys → OneDescribes code user env ts (hart_step sys)
      led s ts (Some i) e q m = leads code user env s sys m fit i ts e q
      led s ts None e q m = cc

      lone-of : (o : Option (List State)) (t : State) → lone o ≡ Some t → o ≡ Some (t ∷ [])
      lone-of (Some (s ∷ [])) t e = cc
      lone-of (Some (s ∷ (u ∷ us))) t e = cc
      lone-of (Some []) t e = cc
      lone-of None t e = cc

      first-describes : (t : State) (next : System) → OneDescribes code user env (t ∷ []) next → Describes code user env t next
      first-describes t next (inl m) = m
      first-describes t next (inr m) = absurd m

      pub stepped : (s t : State) → step_at code s ≡ Some t → Describes code user env s sys → Describes code user env t (hart_step sys)
      stepped s t e m = first-describes t (hart_step sys) (led s (t ∷ []) _ refl (lone-of (successors code s) t e) m)

      -- what a step from place u of a run leads to
      data Goes (k : ℕ) (c : Bool) (n : ℕ) (s u : State) : Type 0 where
        On : (t : State) → OnRun code n s t → Describes code user env t (hart_step sys) → Goes k c n s u
        Into : Enters may code user env bs k (hart_step sys) → Goes k c n s u
        Open : c ≡ false → IsLast code n s u → Goes k c n s u

      After-some : (o : Option State) (z : State) (f : State → Type 0) → o ≡ Some z → f z → After o f
      After-some o z f e p = rw e p

      later : (k : ℕ) (c : Bool) (n : ℕ) (s z u : State) → step_at code s ≡ Some z → Goes k c n z u → Goes k c (suc n) s u
      later k c n s z u e (On t r m) = On t (inr (After-some (step_at code s) z (λ z. OnRun code n z t) e r)) m
      later k c n s z u e (Into r) = Into r
      later k c n s z u e (Open p r) = Open p (After-some (step_at code s) z (λ z. IsLast code n z u) e r)

      pub on-start : (n : ℕ) (s : State) → OnRun code n s s
      on-start zero s = refl
      on-start (suc n) s = inl refl

      at-end : (k : ℕ) (s : State) (o : Option (List State)) → successors code s ≡ o → test o (all_covered may k bs) ≡ true → Describes code user env s sys → Enters may code user env bs k (hart_step sys)
      at-end k s (Some ts) e q m = all-enter k ts (hart_step sys) q (led s ts _ refl e m)
      at-end k s None e q m = absurd (false≢true q)

      run-goes : (k : ℕ) (c : Bool) (n : ℕ) (s u : State) → runs_well may code k bs c n s ≡ true → OnRun code n s u → Describes code user env u sys → Goes k c n s u
      run-goes k true zero s u e r m = Into (at-end k s (successors code s) refl e (subst (λ z. Describes code user env z sys) r m))
      run-goes k false zero s u e r m = Open refl r
      run-goes k c (suc n) s u e (inl r) m = go (step_at code s) refl e
        where
          go : (o : Option State) → step_at code s ≡ o → test o (λ t. runs_well may code k bs c n t) ≡ true → Goes k c (suc n) s u
          go None p q = absurd (false≢true q)
          go (Some t) p q = On t (inr (After-some (step_at code s) t (λ z. OnRun code n z t) p (on-start n t))) (stepped s t p (subst (λ z. Describes code user env z sys) r m))
      run-goes k c (suc n) s u e (inr r) m = go (step_at code s) refl e r (λ z q w. run-goes k c n z u q w m)
        where
          go : (o : Option State) → step_at code s ≡ o → test o (λ t. runs_well may code k bs c n t) ≡ true → After o (λ z. OnRun code n z u)
              → ((z : State) → runs_well may code k bs c n z ≡ true → OnRun code n z u → Goes k c n z u) → Goes k c (suc n) s u
          go None p q w f = absurd w
          go (Some z) p q w f = later k c n s z u p (f z q w)

      among-well : (more : List Block) (b : Block) → all_well may code bs more ≡ true → Among b more → runs_well may code b.kind bs b.checked b.size b.start ≡ true
      among-well [] b e a = absurd a
      among-well (d ∷ more) b e (inl p) = rw p (then-l _ _ e)
      among-well (d ∷ more) b e (inr p) = among-well more b (then-r (runs_well may code d.kind bs d.checked d.size d.start) _ e) p

      -- a step from a place of the code stays in its block, leads to a block, or is left open
      pub here-moves : (k : ℕ) → all_well may code bs bs ≡ true → (w : Here code user env bs k sys) → Moves may code user env bs k w.block w.state (hart_step sys)
      here-moves k e w = go (run-goes w.block.kind w.block.checked w.block.size w.block.start w.state (among-well bs w.block e w.among) w.on w.describes)
        where
          go : Goes w.block.kind w.block.checked w.block.size w.block.start w.state → Moves may code user env bs k w.block w.state (hart_step sys)
          go (On t r m) = Stays record { block = w.block; among = w.among; kind = w.kind; state = t; on = r; describes = m }
          go (Into r) = Goes_to (subst (λ z. Enters may code user env bs z (hart_step sys)) w.kind r)
          go (Open p r) = Left_open p r

-- ---- the test by parts
well-of : (may : ℕ → ℕ → Bool) (code : List Insn) (bs more : List Block) → first_bad may code bs more ≡ None → all_well may code bs more ≡ true
well-of may code bs [] e = refl
well-of may code bs (b ∷ more) e = go (runs_well may code b.kind bs b.checked b.size b.start) e (well-of may code bs more)
  where
    go : (c : Bool) → ◌≡◌ {A = Option Block} (elim c [ true ↦ first_bad may code bs more | false ↦ Some b ]) None → (first_bad may code bs more ≡ None → all_well may code bs more ≡ true)
        → ◌≡◌ {A = Bool} (elim c [ true ↦ all_well may code bs more | false ↦ false ]) true
    go true p f = f p
    go false p f = cc

pub well-parts : (may : ℕ → ℕ → Bool) (code : List Insn) (bs xs ys : List Block) → first_bad may code bs xs ≡ None → all_well may code bs ys ≡ true → all_well may code bs (xs ++ ys) ≡ true
well-parts may code bs [] ys e f = f
well-parts may code bs (b ∷ xs) ys e f = go (runs_well may code b.kind bs b.checked b.size b.start) e (λ p. well-parts may code bs xs ys p f)
  where
    go : (c : Bool) → ◌≡◌ {A = Option Block} (elim c [ true ↦ first_bad may code bs xs | false ↦ Some b ]) None → (first_bad may code bs xs ≡ None → all_well may code bs (xs ++ ys) ≡ true)
        → ◌≡◌ {A = Bool} (elim c [ true ↦ all_well may code bs (xs ++ ys) | false ↦ false ]) true
    go true p g = g p
    go false p g = cc

pub well-last : (may : ℕ → ℕ → Bool) (code : List Insn) (bs xs : List Block) → first_bad may code bs xs ≡ None → all_well may code bs xs ≡ true
well-last may code bs xs e = well-of may code bs xs e

-- ---- the two laws
pub steps_are_successors : StepsAreSuccessors
steps_are_successors code user env s sys m fit ts e = led code user env (λ a b. true) [] sys fit s ts (fetch code s.at) refl e m

pub blocks_lead : BlocksLead
blocks_lead may code user env bs k sys e fit w = here-moves code user env may bs sys fit k e w
