-- MRET, and the registers and numbers at a trap.
use Rattle.std.proofs.Common.{◌≡◌, map, ◌++◌, ℕ, zero, suc, ◌+◌, ◌-◌, ◌*◌, ◌/◌, ◌%◌, ◌^◌, ◌<◌, ◌==◌, Bool, true, false, ◌&&◌, Some, List, [], ◌∷◌, get_or, length, refl, ap, sym, subst, ◌∙◌, arith, if◌then◌else◌, nat_lt}
use Rattle.std.specs.Prelude.{nat_le, slice_index}
use Rattle.std.proofs.lemmas.Bool.{false≢true}
use Rattle.std.proofs.lemmas.Bool.Decides.{nat_tests}
use Rattle.rv_decode.specs.declared.instruction.Insn.{Insn}
use Rattle.rv_decode.specs.declared.instruction.Insn.TheVariants.{Mret}
use Rattle.rv_alu.specs.Effects.{effect_of}
use Rattle.rv_csr.specs.declared.privilege.Mode.TheVariants.{Machine}
use Rattle.rv_hart.specs.HartStep.{System, over, effect_step, after_step, next_hart, after_mret, privileged, HartState}
use Rattle.rv_csr.specs.Traps.{after_return}
use Rattle.std.proofs.lemmas.List.{ext_get_or}
use Rattle.rv_csr.specs.CsrTable.{IsCsrs}
use Rattle.guest_memory.specs.Memory.{load, AreBytes}
use Rattle.kernel_sim.specs.declared.phase.Phase.{Phase}
use Rattle.kernel_steps.specs.Terms.{Term, Lit, Var, Unknown, Is, AllIs, CellsAre}
use Rattle.kernel_steps.specs.States.{State, Describes}
use Rattle.kernel_steps.specs.Successors.{fetch}
use Rattle.kernel_code.specs.Kinds.{may_follow}
use Rattle.kernel_steps.specs.Blocks.{member}
use Rattle.kernel_code.specs.Kernel.{kernel}
use Rattle.proxy_kernel.specs.KernelWords.{kernel_insns}
use Rattle.kernel_steps.proofs.Soundness.{carried, AllIs-get}
use Rattle.kernel_sim.proofs.Gates.{gate_ok, at_save, says_at, lands, no_facts}
use Rattle.kernel_code.specs.Numbers.{trap_words, counter_words, v_first_break, v_cause, v_entry, v_break, v_pc, v_value, store_gates, counter_store_gates, counter_end_blocks, trap_end_blocks}
use Rattle.kernel_code.specs.Places.{pc_return, pc_leave_return, entry_place}
use Rattle.kernel_sim.proofs.PathLaws.{eight-fits}

-- ---- MRET
pub mret-there : fetch kernel pc_return ≡ Some Mret
unfolding kernel kernel_insns
mret-there = refl

pub leave-there : fetch kernel pc_leave_return ≡ Some Mret
unfolding kernel kernel_insns
leave-there = refl

pub mret-done : (sys : System) (bits after : ℕ) → sys.hart.mode ≡ Machine → carried (effect_of Mret sys.hart.pc sys.hart.registers) bits after sys ≡ over sys.bus (after_mret sys.hart)
unfolding effect_of effect_step
mret-done sys bits after m = ap (λ z. after_step sys (privileged z bits (next_hart sys.bus (after_mret sys.hart)))) m

abbrev pub opened : System → HartState
opened sys = record sys.hart { mode = sys.hart.csrs.mstatus_mpp; pc = sys.hart.csrs.mepc; csrs = after_return sys.hart.csrs }

pub after_mret-is : (sys : System) → after_mret sys.hart ≡ opened sys
unfolding after_mret
after_mret-is sys = refl

abbrev pub vars : ℕ → ℕ → List Term
vars i zero = []
vars i (suc n) = Var i ∷ vars (suc i) n

pub vars-get : (i n k : ℕ) → k < n → get_or (vars i n) k Unknown ≡ Var (i + k)
vars-get i zero k l = absurd (omega arith)
vars-get i (suc n) zero l = let e : i ≡ i + 0 = omega arith in ap Var e
vars-get i (suc n) (suc k) l = let e : suc i + k ≡ i + suc k = omega arith in vars-get (suc i) n k (omega arith) ∙ ap Var e

pub same-regs : (env : ℕ → ℕ) (vs ws : List ℕ) → AllIs env (Lit 0 ∷ vars 1 31) vs → length vs ≡ 32 → length ws ≡ 32 → get_or ws 0 0 ≡ 0 → ((n : ℕ) → n < 32 → env n ≡ get_or ws n 0) → vs ≡ ws
same-regs env vs ws a p q z f = ext_get_or 0 vs ws (p ∙ sym q) (λ i l. at i (omega arith))
  where
    at : (i : ℕ) → i < 32 → get_or vs i 0 ≡ get_or ws i 0
    at zero l = AllIs-get env (Lit 0 ∷ vars 1 31) vs zero a ∙ sym z
    at (suc i) l =
        let is : Is env (Var (1 + i)) (get_or vs (suc i) 0) = subst (λ s. Is env s (get_or vs (suc i) 0)) (vars-get 1 31 i (omega arith)) (AllIs-get env (Lit 0 ∷ vars 1 31) vs (suc i) a) in
        let e : 1 + i ≡ suc i = omega arith in
        is ∙ ap env e ∙ f (suc i) l

pub both-true : (a b : Bool) → a ≡ true → b ≡ true → (a && b) ≡ true
both-true a b p q = rw (p, q) refl

pub forget-facts : (code : List Insn) (user : List ℕ) (env : ℕ → ℕ) (s : State) (sys : System) → Describes code user env s sys → Describes code user env (no_facts s) sys
forget-facts code user env s sys m = record { run = m.run; mode = m.mode; at = m.at; regs = m.regs; csrs = m.csrs; memory = m.memory; facts = tt; small = m.small }

-- literal registers
abbrev pub leave_values : List ℕ
leave_values = 0 ∷ 0 ∷ 0x1000000 ∷ 0 ∷ 0 ∷ 0 ∷ 0 ∷ 0 ∷ 0 ∷ 0 ∷ 0 ∷ 0 ∷ 0 ∷ 0 ∷ 0 ∷ 0 ∷ 0 ∷ 0 ∷ 0 ∷ 0 ∷ 0 ∷ 0 ∷ 0 ∷ 0 ∷ 0 ∷ 0 ∷ 0 ∷ 0 ∷ 0 ∷ 0 ∷ 0 ∷ 0 ∷ []

pub lits-are : (env : ℕ → ℕ) (ns vs : List ℕ) → AllIs env (map Lit ns) vs → length vs ≡ length ns → vs ≡ ns
lits-are env [] [] a e = refl
lits-are env [] (v ∷ vs) a e = absurd (omega arith)
lits-are env (n ∷ ns) [] a e = absurd a
lits-are env (n ∷ ns) (v ∷ vs) a e = ap (λ z. z ∷ vs) a.0 ∙ ap (λ z. n ∷ z) (lits-are env ns vs a.1 (omega arith))

-- ---- from the program
abbrev pub anys : ℕ → List Term
anys zero = []
anys (suc n) = Unknown ∷ anys n

pub cells-after : (env : ℕ → ℕ) (n : ℕ) (ss : List Term) (m : List ℕ) (a b : ℕ) → b ≡ a + 8 * n → CellsAre env ss m b → CellsAre env (anys n ++ ss) m a
cells-after env zero ss m a b e h = let k : b ≡ a = omega arith in subst (CellsAre env ss m) k h
cells-after env (suc n) ss m a b e h = (tt, cells-after env n ss m (a + 8) b (omega arith) h)

pub save-cells : at_save.cells ≡ anys 64 ++ (Var v_entry ∷ Var v_first_break ∷ Var v_break ∷ [])
save-cells = refl

pub vars-are : (env : ℕ → ℕ) (i : ℕ) (vs : List ℕ) → ((k : ℕ) → k < length vs → get_or vs k 0 ≡ env (i + k)) → AllIs env (vars i (length vs)) vs
vars-are env i [] f = tt
vars-are env i (v ∷ vs) f =
    let e : i + 0 ≡ i = omega arith in
    (f 0 (omega arith) ∙ ap env e, vars-are env (suc i) vs (λ k l. let q : i + suc k ≡ suc i + k = omega arith in f (suc k) (omega arith) ∙ ap env q))

pub first-and-rest : (env : ℕ → ℕ) (vs : List ℕ) (n : ℕ) → length vs ≡ suc n → get_or vs 0 0 ≡ 0 → ((k : ℕ) → k < length vs → get_or vs k 0 ≡ env k) → AllIs env (Lit 0 ∷ vars 1 n) vs
first-and-rest env [] n e z f = absurd (omega arith)
first-and-rest env (v ∷ vs) n e z f =
    let l : length vs ≡ n = omega arith in
    (z, subst (λ k. AllIs env (vars 1 k) vs) l (vars-are env 1 vs (λ k h. let q : suc k ≡ 1 + k = omega arith in f (suc k) (omega arith) ∙ ap env q)))

-- the numbers at a trap
unfoldable pub user_env : Phase → System → (ℕ → ℕ)
user_env p sys = λ n. if nat_lt n 32 then slice_index p.user.regs n else (if n == v_pc then p.user.pc else (if n == v_break then p.user.brk else (if n == v_first_break then p.user.first_break
    else (if n == v_entry then load sys.bus.kernel entry_place 8 else (if n == v_cause then sys.hart.csrs.mcause else (if n == v_value then sys.hart.csrs.mtval else 0))))))

pub user_env-reg : (p : Phase) (sys : System) (n : ℕ) → n < 32 → user_env p sys n ≡ slice_index p.user.regs n
unfolding user_env
user_env-reg p sys n l = let b : nat_lt n 32 ≡ true = grind (arith, nat_tests) in rw b refl

pub if-small : (b : Bool) (x y : ℕ) → x < 2 ^ 64 → y < 2 ^ 64 → (if b then x else y) < 2 ^ 64
if-small true x y p q = p
if-small false x y p q = q

pub user_env-small : (p : Phase) (sys : System) (n : ℕ) → ((k : ℕ) → slice_index p.user.regs k < 2 ^ 64) → p.user.pc < 2 ^ 64 → p.user.brk < 2 ^ 64 → p.user.first_break < 2 ^ 64 → AreBytes sys.bus.kernel → IsCsrs sys.hart.csrs → user_env p sys n < 2 ^ 64
unfolding user_env
user_env-small p sys n f pc brk first all c =
    if-small (nat_lt n 32) _ _ (f n) (if-small (n == v_pc) _ _ pc (if-small (n == v_break) _ _ brk (if-small (n == v_first_break) _ _ first (if-small (n == v_entry) _ _ (eight-fits sys.bus.kernel entry_place all) (if-small (n == v_cause) _ _ c.mcause_fits (if-small (n == v_value) _ _ c.mtval_fits (omega arith)))))))

pub gate-big : (g : ℕ) (s : State) → nat_le store_gates g ≡ true → gate_ok g s ≡ true → ((elim (nat_le counter_store_gates g) [ true ↦ says_at true ((g - counter_store_gates) / 2) s | false ↦ says_at false ((g - (store_gates + trap_words)) / 2) s ]) && lands (g - (store_gates - 1)) s) ≡ true
gate-big g s a e = pick (nat_le store_gates g) _ _ a e
  where
    pick : (b x y : Bool) → b ≡ true → ◌≡◌ {A = Bool} (elim b [ true ↦ x | false ↦ y ]) true → x ≡ true
    pick true x y a e = e
    pick false x y a e = absurd (false≢true a)

pub big-true : (g : ℕ) (s : State) → nat_le counter_store_gates g ≡ true → ◌≡◌ {A = Bool} (elim (nat_le counter_store_gates g) [ true ↦ says_at true ((g - counter_store_gates) / 2) s | false ↦ says_at false ((g - (store_gates + trap_words)) / 2) s ]) true → says_at true ((g - counter_store_gates) / 2) s ≡ true
big-true g s a e = pick (nat_le counter_store_gates g) _ _ a e
  where
    pick : (b x y : Bool) → b ≡ true → ◌≡◌ {A = Bool} (elim b [ true ↦ x | false ↦ y ]) true → x ≡ true
    pick true x y a e = e
    pick false x y a e = absurd (false≢true a)

pub big-false : (g : ℕ) (s : State) → nat_le counter_store_gates g ≡ false → ◌≡◌ {A = Bool} (elim (nat_le counter_store_gates g) [ true ↦ says_at true ((g - counter_store_gates) / 2) s | false ↦ says_at false ((g - (store_gates + trap_words)) / 2) s ]) true → says_at false ((g - (store_gates + trap_words)) / 2) s ≡ true
big-false g s a e = pick (nat_le counter_store_gates g) _ _ a e
  where
    pick : (b x y : Bool) → b ≡ false → ◌≡◌ {A = Bool} (elim b [ true ↦ x | false ↦ y ]) true → y ≡ true
    pick true x y a e = absurd (false≢true (sym a))
    pick false x y a e = e

pub even-list : (k n m : ℕ) → nat_le trap_words k ≡ true → (k % 2 == 0) ≡ true → ◌≡◌ {A = ℕ} (elim (nat_le counter_words k) [ true ↦ counter_end_blocks | false ↦ trap_end_blocks ]) m → may_follow k n ≡ true → member n (k ∷ (store_gates + k) ∷ m ∷ []) ≡ true
even-list k n m a b d e = subst (λ z. member n (k ∷ (store_gates + k) ∷ z ∷ []) ≡ true) d (second (k % 2 == 0) _ _ b (first (nat_le trap_words k) _ _ a e))
  where
    first : (c : Bool) (xs ys : List ℕ) → c ≡ true → member n (elim c [ true ↦ xs | false ↦ ys ]) ≡ true → member n xs ≡ true
    first true xs ys f g = g
    first false xs ys f g = absurd (false≢true f)

    second : (c : Bool) (xs ys : List ℕ) → c ≡ true → member n (elim c [ true ↦ xs | false ↦ ys ]) ≡ true → member n xs ≡ true
    second true xs ys f g = g
    second false xs ys f g = absurd (false≢true f)

pub odd-list : (k n : ℕ) → nat_le trap_words k ≡ true → (k % 2 == 0) ≡ false → may_follow k n ≡ true → member n ((k + 1) ∷ []) ≡ true
odd-list k n a b e = second (k % 2 == 0) _ _ b (first (nat_le trap_words k) _ _ a e)
  where
    first : (c : Bool) (xs ys : List ℕ) → c ≡ true → member n (elim c [ true ↦ xs | false ↦ ys ]) ≡ true → member n xs ≡ true
    first true xs ys f g = g
    first false xs ys f g = absurd (false≢true f)

    second : (c : Bool) (xs ys : List ℕ) → c ≡ false → member n (elim c [ true ↦ xs | false ↦ ys ]) ≡ true → member n ys ≡ true
    second true xs ys f g = absurd (false≢true (sym f))
    second false xs ys f g = g
