-- What a step from any stage is made of: the setting of a step, and what all stages use.
use Rattle.std.proofs.Common.{◌≡◌, ℕ, ◌+◌, ◌-◌, ◌%◌, ◌^◌, ◌<◌, ◌≤◌, ◌==◌, Bool, true, false, inl, inr, Option, Some, None, List, [], ◌∷◌, refl, ap, sym, subst, ◌∙◌, arith, if◌then◌else◌}
use Rattle.std.specs.Prelude.{slice_index, not, min}
use Rattle.std.proofs.lemmas.Bool.{false≢true, and_parts}
use Rattle.rv_decode.specs.Alignment.{instruction_alignment}
use Rattle.rv_csr.specs.declared.privilege.Mode.TheVariants.{Machine}
use Rattle.rv_hart.specs.HartStep.{System, AreRegisters, hart_step}
use Rattle.rv_csr.specs.declared.privilege.Mode.TheVariants as mode
use Rattle.guest_memory.specs.Bus.{IsBus}
use Rattle.kernel_sim.specs.declared.phase.PhaseKind.{PhaseKind}
use Rattle.kernel_sim.specs.declared.phase.PhaseKind.TheVariants.{User}
use Rattle.kernel_sim.specs.declared.phase.Phase.{Phase}
use Rattle.kernel_sim.specs.declared.phase.UserState.{UserState}
use Rattle.kernel_steps.specs.Terms.{Term, Var, value, Is, is_known, FactsHold}
use Rattle.kernel_steps.specs.States.{State, Describes}
use Rattle.kernel_steps.specs.Successors.{reg, successors}
use Rattle.kernel_steps.specs.Blocks.{test, Here, Enters, Moves, implies, same}
use Rattle.kernel_code.specs.Kinds.{may_follow}
use Rattle.kernel_code.specs.Kernel.{kernel, blocks}
use Rattle.plain_machine.specs.KernelPart.{gives, posts, scans, with_path}
use Rattle.kernel_sim.specs.Steps.{follows}
use Rattle.kernel_sim.proofs.Told.{Told}
use Rattle.kernel_sim.specs.Phases.{phase_from, kind_now, kind_of}
use Rattle.kernel_sim.specs.Stages.{CauseIs, Stage, stage_kind, stage_number, Says, direct, path_scan, part, TrapIs, Extra, PcIs, BreakIs, Links, HoldsAs}
use Rattle.kernel_steps.proofs.Soundness.{value-Is, AllIs-get}
use Rattle.kernel_steps.proofs.GraphLaws.{led, here-moves, implies-Describes, same-path}
use Rattle.kernel_code.proofs.Explored.{blocks_well}
use Rattle.kernel_steps.proofs.Rebase.{with_var, fresh, learn_reg}
use Rattle.kernel_sim.proofs.Decide.{Answer, part_of, call_tree, tree-part, decide, decide-right, same_answer, answer-path}
use Rattle.kernel_steps.proofs.Tests.{blocks_all-at, starts-at}
use Rattle.kernel_sim.proofs.Gates.{all_st, one-st, gate_ok, gates_right, passes_ok, passes_right, all_at, next-pc, is_open, not-open, start-here, fill_at, filled, all_avoid6}
use Rattle.kernel_code.specs.Numbers.{v_first_break, v_cause, v_pc, v_word0, v_word1, v_word2, v_word3, v_word4, v_word5}
use Rattle.kernel_code.specs.Places.{pc_path_passed}
use Rattle.kernel_sim.proofs.PlaceLaws.{kind-by-place, placed, low-kept}

-- a step of a hart over its bus from a phase: what is known of the numbers before and after it
pub record Setting : Type 0 where
  pub phase : Phase
  pub system : System
  pub fit : AreRegisters system.hart.registers
  pub fit_next : AreRegisters (hart_step system).hart.registers
  pub whole : IsBus system.bus
  pub whole_next : IsBus (hart_step system).bus

module _ (given : Setting) where
  abbrev p : Phase
  p = given.phase

  abbrev sys : System
  sys = given.system

  abbrev fit : AreRegisters sys.hart.registers
  fit = given.fit

  abbrev fit_next : AreRegisters (hart_step sys).hart.registers
  fit_next = given.fit_next

  abbrev whole : IsBus sys.bus
  whole = given.whole

  abbrev whole_next : IsBus (hart_step sys).bus
  whole_next = given.whole_next

  abbrev pub next : System
  next = hart_step sys

  abbrev pub StepIs : PhaseKind → PhaseKind → Type 0
  StepIs was now = HoldsAs now (phase_from was now p next) next × (follows was now ≡ true) × Told was now p sys next

  -- the phase that is answered holds, may follow, and what is told of the step is so
  abbrev pub Goal : PhaseKind → Type 0
  Goal was = StepIs was (kind_now next)

  pub land : (was : PhaseKind) (st : Stage) → follows was (stage_kind st) ≡ true → Told was (stage_kind st) p sys next → (user : List ℕ) (env : ℕ → ℕ) → Here kernel user env blocks (stage_number st) next → Links st (phase_from was (stage_kind st) p next).user env
      → Extra st (phase_from was (stage_kind st) p next) user env → Goal was
  land was st order told user env w l x =
      subst (λ z. StepIs was z) (sym (kind-by-place user env st next w))
      (record { tohost_is = refl; fromhost_is = refl; request_is = refl; place = placed st _ next (record { user = user; env = env; stage = st; staged = refl; here = w; links = l; extra = x }) }, order, told)

  pub as-user : (was : PhaseKind) → follows was User ≡ true → Told was User p sys next → next.hart.mode ≡ mode.User → HoldsAs User (phase_from was User p next) next → Goal was
  as-user was order told m h = subst (λ z. StepIs was z) (sym (ap (λ z. kind_of z next.hart.pc) m)) (h, order, told)

  module _ (user : List ℕ) (env : ℕ → ℕ) where
    abbrev pub At : ℕ → Type 0
    At k = Here kernel user env blocks k sys

    abbrev pub Into : ℕ → Type 0
    Into k = Enters may_follow kernel user env blocks k next

    pub moves : (k : ℕ) → (w : At k) → Moves may_follow kernel user env blocks k w.block w.state next
    moves k w = here-moves kernel user env may_follow blocks sys fit k blocks_well w

    pub enter : (k j : ℕ) → (n : Into k) → n.block.kind ≡ j → Here kernel user env blocks j next
    enter k j n e = start-here user env j n.block next n.among e n.describes

    pub gate : (k g : ℕ) → (n : Into k) → n.block.kind ≡ g → gate_ok g n.block.start ≡ true
    gate k g n e = subst (λ z. gate_ok z n.block.start ≡ true) e (starts-at gate_ok blocks n.block gates_right n.among)

    pub open-never : (k : ℕ) (w : At k) → is_open k ≡ false → w.block.checked ≡ false → ⊥
    open-never k w o c = not-open w.block k w.among w.kind o c

    pub relink : (st to : Stage) (u : UserState) → (CauseIs st (env v_cause) → CauseIs to (env v_cause)) → PcIs to u env → BreakIs to u env → Links st u env → Links to u env
    relink st to u cause pc brk l = record { regs_are = l.regs_are; count = l.count; zeroth = l.zeroth; pc_is = pc; pc_even = l.pc_even; first_is = l.first_is; break_is = brk; cause_is = cause l.cause_is }

    pub relink_with : (to_env : ℕ → ℕ) (st to : Stage) (u : UserState) → ((n : ℕ) → n < 35 → to_env n ≡ env n) → (CauseIs st (env v_cause) → CauseIs to (to_env v_cause)) → PcIs to u to_env → BreakIs to u to_env → Links st u env → Links to u to_env
    relink_with to_env st to u same cause pc brk l = record {
      regs_are = λ n k. same n (omega arith) ∙ l.regs_are n k;
      count = l.count;
      zeroth = l.zeroth;
      pc_is = pc;
      pc_even = subst (λ z. z % instruction_alignment ≡ 0) (sym (same v_pc (omega arith))) l.pc_even;
      first_is = l.first_is ∙ sym (same v_first_break (omega arith));
      break_is = brk;
      cause_is = cause l.cause_is;
    }

    pub kept_above : (k v n : ℕ) → 35 ≤ k → n < 35 → with_var env k v n ≡ env n
    kept_above k v n h j = low-kept env k v n (omega arith)

    -- what the facts say of the call
    pub decided : (s : State) (a : Answer) → same_answer (decide s.facts call_tree) a ≡ true → FactsHold env s.facts → direct env ≡ part_of env a
    decided s a e h = sym (tree-part env) ∙ decide-right env s.facts call_tree a h (answer-path _ a e)

    pub part-gives : (a : ℕ) → direct env ≡ gives a → part env user ≡ gives a
    part-gives a e = ap (λ z. with_path z (path_scan env user 0 4096)) e

    pub part-posts : (ws : List ℕ) → direct env ≡ posts ws → part env user ≡ posts ws
    part-posts ws e = ap (λ z. with_path z (path_scan env user 0 4096)) e

    pub part-scans : direct env ≡ scans → part env user ≡ path_scan env user 0 4096
    part-scans e = ap (λ z. with_path z (path_scan env user 0 4096)) e

    pub goes-elsewhere : (f : ℕ → Bool) (u : State) → Describes kernel user env u sys → test (successors kernel u) (all_at f) ≡ true → f next.hart.pc ≡ true
    goes-elsewhere f u m e = go (successors kernel u) refl e
      where
        go : (o : Option (List State)) → successors kernel u ≡ o → test o (all_at f) ≡ true → f next.hart.pc ≡ true
        go None q g = absurd (false≢true g)
        go (Some ts) q g = next-pc user env f ts next (led kernel user env may_follow blocks sys fit u ts _ refl q m) g

    -- a state that a step leads to
    pub goes-with : (f : State → Bool) (u : State) → Describes kernel user env u sys → test (successors kernel u) (all_st f) ≡ true → (t : State) × (f t ≡ true) × Describes kernel user env t next
    goes-with f u m e = go (successors kernel u) refl e
      where
        go : (o : Option (List State)) → successors kernel u ≡ o → test o (all_st f) ≡ true → (t : State) × (f t ≡ true) × Describes kernel user env t next
        go None q g = absurd (false≢true g)
        go (Some ts) q g = one-st user env f ts next (led kernel user env may_follow blocks sys fit u ts _ refl q m) g

    pub is_known-values : (s : State) → Describes kernel user env s next → (n : ℕ) → is_known (reg s n) ≡ true → value env (reg s n) ≡ slice_index next.hart.registers n
    is_known-values s m n e = sym (value-Is env (reg s n) _ e (AllIs-get env s.regs next.hart.registers n m.regs))

    -- six registers get names
    abbrev pub env50 : ℕ → ℕ
    env50 = with_var env v_word0 (slice_index next.hart.registers 17)

    abbrev pub env51 : ℕ → ℕ
    env51 = with_var env50 v_word1 (slice_index next.hart.registers 10)

    abbrev pub env52 : ℕ → ℕ
    env52 = with_var env51 v_word2 (slice_index next.hart.registers 11)

    abbrev pub env53 : ℕ → ℕ
    env53 = with_var env52 v_word3 (slice_index next.hart.registers 12)

    abbrev pub env54 : ℕ → ℕ
    env54 = with_var env53 v_word4 (slice_index next.hart.registers 13)

    abbrev pub env6 : ℕ → ℕ
    env6 = with_var env54 v_word5 (slice_index next.hart.registers 14)

    pub fill-describes : (s : State) → implies s (fill_at s) ≡ true → all_avoid6 (fill_at s) ≡ true → Describes kernel user env s next → Describes kernel user env6 (filled (fill_at s)) next
    fill-describes s e f m =
        let a5 = and_parts _ _ f in
        let a4 = and_parts _ _ a5.0 in
        let a3 = and_parts _ _ a4.0 in
        let a2 = and_parts _ _ a3.0 in
        let a1 = and_parts _ _ a2.0 in
        let t = fill_at s in
        let m0 = implies-Describes kernel user env s t next e m in
        let m1 = fresh env v_word0 (slice_index next.hart.registers 17) kernel user t next a1.0 (fit_next.fit 17) m0 in
        let m2 = fresh env50 v_word1 (slice_index next.hart.registers 10) kernel user t next a1.1 (fit_next.fit 10) m1 in
        let m3 = fresh env51 v_word2 (slice_index next.hart.registers 11) kernel user t next a2.1 (fit_next.fit 11) m2 in
        let m4 = fresh env52 v_word3 (slice_index next.hart.registers 12) kernel user t next a3.1 (fit_next.fit 12) m3 in
        let m5 = fresh env53 v_word4 (slice_index next.hart.registers 13) kernel user t next a4.1 (fit_next.fit 13) m4 in
        let m6 = fresh env54 v_word5 (slice_index next.hart.registers 14) kernel user t next a5.1 (fit_next.fit 14) m5 in
        let n1 = learn_reg kernel user env6 t next 17 (Var v_word0) refl m6 in
        let n2 = learn_reg kernel user env6 _ next 10 (Var v_word1) refl n1 in
        let n3 = learn_reg kernel user env6 _ next 11 (Var v_word2) refl n2 in
        let n4 = learn_reg kernel user env6 _ next 12 (Var v_word3) refl n3 in
        let n5 = learn_reg kernel user env6 _ next 13 (Var v_word4) refl n4 in
        learn_reg kernel user env6 _ next 14 (Var v_word5) refl n5

    pub kept6 : (n : ℕ) → n < v_word0 → env6 n ≡ env n
    kept6 n k = low-kept env54 v_word5 (slice_index next.hart.registers 14) n (omega arith) ∙ low-kept env53 v_word4 (slice_index next.hart.registers 13) n (omega arith) ∙ low-kept env52 v_word3 (slice_index next.hart.registers 12) n (omega arith) ∙ low-kept env51 v_word2 (slice_index next.hart.registers 11) n (omega arith) ∙ low-kept env50 v_word1 (slice_index next.hart.registers 10) n (omega arith) ∙ low-kept env v_word0 (slice_index next.hart.registers 17) n (omega arith)

    pub links6 : (st to : Stage) (u : UserState) → (CauseIs st (env v_cause) → env v_cause ≡ 8) → CauseIs to 8 → PcIs to u env6 → BreakIs to u env6 → Links st u env → Links to u env6
    links6 st to u cause eight pc brk l = record {
      regs_are = λ n k. kept6 n (omega arith) ∙ l.regs_are n k;
      count = l.count;
      zeroth = l.zeroth;
      pc_is = pc;
      pc_even = l.pc_even;
      first_is = l.first_is;
      break_is = brk;
      cause_is = subst (CauseIs to) (sym (kept6 v_cause (omega arith) ∙ cause l.cause_is)) eight;
    }

    pub list6 : (a b c d e f v w x y z u : ℕ) → a ≡ v → b ≡ w → c ≡ x → d ≡ y → e ≡ z → f ≡ u → posts (a ∷ b ∷ c ∷ d ∷ e ∷ f ∷ 0 ∷ 0 ∷ []) ≡ posts (v ∷ w ∷ x ∷ y ∷ z ∷ u ∷ 0 ∷ 0 ∷ [])
    list6 a b c d e f v w x y z u p1 p2 p3 p4 p5 p6 = rw (p1, p2, p3, p4, p5, p6) refl

    pub reg-is : (s : State) (n : ℕ) (v : Term) → same (reg s n) v ≡ true → Describes kernel user env s next → Is env v (slice_index next.hart.registers n)
    reg-is s n v e m = subst (λ z. Is env z (slice_index next.hart.registers n)) (same-path (reg s n) v e) (AllIs-get env s.regs next.hart.registers n m.regs)

    -- in a scan, before a byte is passed
    pub not-passed_in : (env : ℕ → ℕ) (k : ℕ) → passes_ok k ≡ (λ s. not (s.at == pc_path_passed)) → Here kernel user env blocks k next → (next.hart.pc == pc_path_passed) ≡ false
    not-passed_in env k q w = ap (λ z. z == pc_path_passed) w.describes.at ∙ no (w.state.at == pc_path_passed) (ap (λ f. f w.state) (sym q) ∙ subst (λ z. passes_ok z w.state ≡ true) w.kind (blocks_all-at passes_ok kernel blocks w.block w.state passes_right w.among w.on))
      where
        no : (b : Bool) → not b ≡ true → b ≡ false
        no true e = sym e
        no false e = refl

    pub same-count : (pc : ℕ) → (pc == pc_path_passed) ≡ false → (if pc == pc_path_passed then min (p.scanned + 1) (2 ^ 32 - 1) else p.scanned) ≡ p.scanned
    same-count pc e = rw e refl

    pub to_speak : (w : TrapIs p env) → (env v_cause == 8) ≡ false → Says p.text env × (p.text.posted ≡ 0)
    to_speak (inl e) f = absurd (false≢true (sym f ∙ ap (λ z. z == 8) e))
    to_speak (inr h) f = (h.1, h.2)
