-- Steps in Local.
use Rattle.std.proofs.Common.{◌≡◌, ℕ, ◌-◌, ◌^◌, true, false, ◌&&◌, ◌||◌, inl, inr, List, [], ◌∷◌, get_or, refl, ap, sym, subst, ◌∙◌, arith, nat_lt}
use Rattle.std.specs.Prelude.{slice_index}
use Rattle.std.proofs.lemmas.Bool.{false≢true, and_parts}
use Rattle.fe_base.specs.MemoryMap.{kernel_code_size, kernel_variables}
use Rattle.rv_hart.specs.HartStep.{System, AreRegisters, hart_step}
use Rattle.guest_memory.specs.Bus.{IsBus}
use Rattle.guest_memory.specs.Bus.{bus_load}
use Rattle.kernel_sim.specs.declared.phase.PhaseKind.TheVariants.{Local, Restore}
use Rattle.kernel_sim.specs.declared.phase.Phase.{Phase}
use Rattle.kernel_steps.specs.Terms.{Term, Lit, Var, Unknown, Is}
use Rattle.kernel_steps.specs.States.{State, Describes}
use Rattle.kernel_steps.specs.Successors.{reg}
use Rattle.kernel_steps.specs.Blocks.{test, Here, Moves, Stays, Goes_to, Left_open, same, has_fact}
use Rattle.kernel_code.specs.Kinds.{may_follow, followers}
use Rattle.kernel_steps.specs.Blocks.{member}
use Rattle.kernel_code.specs.Kernel.{kernel, blocks}
use Rattle.plain_machine.specs.KernelPart.{gives, breaks, break_after, kernel_part}
use Rattle.kernel_sim.proofs.Told.{Told}
use Rattle.kernel_sim.proofs.PartLaws.{part-is, break-part}
use Rattle.kernel_sim.specs.Stages.{CauseIs, Stage, NoCall, Outside, Long, Breaking, Restoring, stage_kind, stage_number, part, PcIs, BreakIs, Links}
use Rattle.kernel_steps.proofs.Soundness.{CellsAre-get}
use Rattle.kernel_steps.proofs.GraphLaws.{same-path, has_fact-holds}
use Rattle.kernel_steps.proofs.Tests.{In, member-In, blocks_all-at}
use Rattle.kernel_sim.proofs.Gates.{below_first, above_top, stays_break, moves_break, break_answer, keeps_break, moved_ok, moved_right, cell_of, gate_ok, breaks_ok, is_open, restores}
use Rattle.kernel_code.specs.Numbers.{no_call_blocks, v_first_break, v_cause, v_break, v_pc, outside_blocks, break_blocks, long_blocks, no_call_done_gate, outside_done_gate, long_done_gate, break_done_gate}
use Rattle.kernel_code.specs.Places.{break_cell, break_place}
use Rattle.kernel_sim.proofs.PathLaws.{or-elim}
use Rattle.kernel_sim.proofs.StageLaws.{Setting, next, Goal, land, At, Into, moves, enter, gate, open-never}
use Rattle.kernel_sim.proofs.AnswerLaws.{x10, cell66, env_r, restore-here, break-now, restore-links, break-kept, first, second, reg10, break-is}

module _ (given : Setting) where
  abbrev p : Phase
  p = given.phase

  abbrev sys : System
  sys = given.system

  abbrev fit : AreRegisters sys.hart.registers
  fit = given.fit

  abbrev fit_next : AreRegisters (hart_step sys).hart.registers
  fit_next = given.fit_next

  abbrev whole : IsBus sys.bus
  whole = given.whole

  abbrev whole_next : IsBus (hart_step sys).bus
  whole_next = given.whole_next

  module _ (user : List ℕ) (env : ℕ → ℕ) where
    pub local-told : (st : Stage) (v : ℕ) → Links st p.user env → p.user.brk ≡ env v_break → sys.bus.user ≡ user → part env user ≡ gives v → (x10 given user env) ≡ v → (s : State) → keeps_break s ≡ true → Describes kernel user env s (next given) → Told Local Restore p sys (next given)
    local-told st v l b eu x q s k m = inl (subst (λ z. kernel_part p.user.regs z p.user.brk p.user.first_break ≡ gives (x10 given user env)) (sym eu) (sym (part-is st p.user env user l b) ∙ x ∙ ap gives (sym q)), (break-now given user env) ∙ (break-is given user env) s (Var v_break) k m ∙ sym b)

    -- a step of a stage of one block that leads to restoring
    pub local : (k g : ℕ) (st : Stage) → (CauseIs st (env v_cause) → env v_cause ≡ 8) → stage_number st ≡ k → stage_kind st ≡ Local → followers k ≡ g ∷ [] → is_open k ≡ false → ((s : State) → gate_ok g s ≡ true → restores s ≡ true) → ((s : State) → gate_ok g s ≡ true → Describes kernel user env s (next given) → Told Local Restore p sys (next given)) → (At given user env) k → Links st p.user env → p.user.pc ≡ env v_pc
        → (Here kernel user env blocks k (next given) → (Goal given) Local) → (Goal given) Local
    local k g st cause num kind fol shut test told w l pc stays = go ((moves given user env) k w)
      where
        leaves : (n : (Into given user env) k) → n.block.kind ≡ g → (Goal given) Local
        leaves n e = (land given) Local Restoring refl (told n.block.start ((gate given user env) k g n e) n.describes) user (env_r given user env) ((restore-here given user env) n.block.start (test n.block.start ((gate given user env) k g n e)) n.describes) ((restore-links given user env) st p.user _ cause (break-now given user env) pc l) tt

        enters : (n : (Into given user env) k) → In n.block.kind (g ∷ []) → (Goal given) Local
        enters n (inl e) = leaves n e
        enters n (inr e) = absurd e

        go : Moves may_follow kernel user env blocks k w.block w.state (next given) → (Goal given) Local
        go (Stays n) = stays n
        go (Goes_to n) = enters n (member-In n.block.kind (g ∷ []) (subst (λ z. member n.block.kind z ≡ true) fol n.goes))
        go (Left_open c i) = absurd ((open-never given user env) k w shut c)

    pub local_links : (st : Stage) (k : ℕ) → (PcIs st p.user env → PcIs st (record p.user { brk = (cell66 given user env) }) env) → ((cell66 given user env) ≡ env v_break → BreakIs st (record p.user { brk = bus_load (next given).bus kernel_variables 8 }) env) → PcIs st (record p.user { brk = bus_load (next given).bus kernel_variables 8 }) env
        → breaks_ok k ≡ (λ s. same (get_or s.cells break_cell Unknown) (Var v_break)) → Here kernel user env blocks k (next given) → Links st p.user env → Links st (record p.user { brk = bus_load (next given).bus kernel_variables 8 }) env
    local_links st k f g pc q n l = record { regs_are = l.regs_are; count = l.count; zeroth = l.zeroth; pc_is = pc; pc_even = l.pc_even; first_is = l.first_is; break_is = g ((break-kept given user env) k q n); cause_is = l.cause_is }

    pub unknown : (At given user env) no_call_blocks → Links NoCall p.user env → part env user ≡ gives (2 ^ 64 - 38) → (Goal given) Local
    unknown w l x = local no_call_blocks no_call_done_gate NoCall (λ z. z) refl refl refl refl (λ s e. (second given user env) (same (reg s 10) (Lit 18446744073709551578) && keeps_break s) _ e) (λ s e m. let a = and_parts (same (reg s 10) (Lit 18446744073709551578)) (keeps_break s) ((first given user env) (same (reg s 10) (Lit 18446744073709551578) && keeps_break s) _ e) in local-told NoCall 18446744073709551578 l l.break_is w.describes.memory.user_is x ((reg10 given user env) s (Lit 18446744073709551578) a.0 m) s a.1 m) w l l.pc_is
        (λ n. (land given) Local NoCall refl tt user env n (local_links NoCall no_call_blocks (λ z. z) (λ z. (break-now given user env) ∙ z) l.pc_is refl n l) x)

    pub outside : (At given user env) outside_blocks → Links Outside p.user env → part env user ≡ gives (2 ^ 64 - 14) → (Goal given) Local
    outside w l x = local outside_blocks outside_done_gate Outside (λ z. z) refl refl refl refl (λ s e. (second given user env) (same (reg s 10) (Lit 18446744073709551602) && keeps_break s) _ e) (λ s e m. let a = and_parts (same (reg s 10) (Lit 18446744073709551602)) (keeps_break s) ((first given user env) (same (reg s 10) (Lit 18446744073709551602) && keeps_break s) _ e) in local-told Outside 18446744073709551602 l l.break_is w.describes.memory.user_is x ((reg10 given user env) s (Lit 18446744073709551602) a.0 m) s a.1 m) w l l.pc_is
        (λ n. (land given) Local Outside refl tt user env n (local_links Outside outside_blocks (λ z. z) (λ z. (break-now given user env) ∙ z) l.pc_is refl n l) x)

    pub long_path : (At given user env) long_blocks → Links Long p.user env → part env user ≡ gives (2 ^ 64 - 36) → (Goal given) Local
    long_path w l x = local long_blocks long_done_gate Long (λ z. z) refl refl refl refl (λ s e. (second given user env) (same (reg s 10) (Lit 18446744073709551580) && keeps_break s) _ e) (λ s e m. let a = and_parts (same (reg s 10) (Lit 18446744073709551580)) (keeps_break s) ((first given user env) (same (reg s 10) (Lit 18446744073709551580) && keeps_break s) _ e) in local-told Long 18446744073709551580 l l.break_is w.describes.memory.user_is x ((reg10 given user env) s (Lit 18446744073709551580) a.0 m) s a.1 m) w l l.pc_is
        (λ n. (land given) Local Long refl tt user env n (local_links Long long_blocks (λ z. z) (λ z. (break-now given user env) ∙ z) l.pc_is refl n l) x)

    pub break-moved : Here kernel user env blocks break_blocks (next given) → BreakIs Breaking (record p.user { brk = bus_load (next given).bus kernel_variables 8 }) env
    break-moved n = or-elim (same (cell_of n.state break_cell) (Var v_break)) _ t
        (λ q. inl ((break-now given user env) ∙ cell66-is (Var v_break) q))
        (λ q.
        let a = and_parts (same (cell_of n.state break_cell) (Var 10)) (has_fact (below_first false) n.state.facts && has_fact (above_top false) n.state.facts) q in
        let b = and_parts (has_fact (below_first false) n.state.facts) (has_fact (above_top false) n.state.facts) a.1 in
        inr ((break-now given user env) ∙ cell66-is (Var 10) a.0, has_fact-holds env (below_first false) n.state.facts b.0 n.describes.facts, has_fact-holds env (above_top false) n.state.facts b.1 n.describes.facts))
      where
        t : moved_ok break_blocks n.state ≡ true
        t = subst (λ z. moved_ok z n.state ≡ true) n.kind (blocks_all-at moved_ok kernel blocks n.block n.state moved_right n.among n.on)

        cell66-is : (v : Term) → same (cell_of n.state break_cell) v ≡ true → Is env v (cell66 given user env)
        cell66-is v q = subst (λ z. Is env z (cell66 given user env)) (same-path (cell_of n.state break_cell) v q) (CellsAre-get env n.state.cells (next given).bus.kernel kernel_code_size break_cell break_place refl n.describes.memory.cells_are)

    abbrev pub BreakResult : Type 0
    BreakResult = break_after (slice_index p.user.regs 10) p.user.brk p.user.first_break ≡ (x10 given user env)

    pub break-told : (At given user env) break_blocks → Links Breaking p.user env → env 17 ≡ 214 → (s : State) → break_answer s ≡ true → Describes kernel user env s (next given) → Told Local Restore p sys (next given)
    break-told w l x s e m = inr (break-part p.user.regs sys.bus.user p.user.brk p.user.first_break (sym (l.regs_are 17 (omega arith)) ∙ x) ∙ ap breaks (or-elim (stays_break s) (moves_break s) e stays moves_it), (break-now given user env) ∙ answer_is)
      where
        answer_is : (cell66 given user env) ≡ (x10 given user env)
        answer_is = or-elim (stays_break s) (moves_break s) e
            (λ q. let a = and_parts (same (reg s 10) (Var v_break)) (keeps_break s) ((first given user env) (same (reg s 10) (Var v_break) && keeps_break s) _ q) in (break-is given user env) s (Var v_break) a.1 m ∙ sym ((reg10 given user env) s (Var v_break) a.0 m))
            (λ q. let a = and_parts (same (reg s 10) (Var 10)) (same (get_or s.cells break_cell Unknown) (Var 10)) ((first given user env) (same (reg s 10) (Var 10) && same (get_or s.cells break_cell Unknown) (Var 10)) _ q) in (break-is given user env) s (Var 10) a.1 m ∙ sym ((reg10 given user env) s (Var 10) a.0 m))

        a_is : slice_index p.user.regs 10 ≡ env 10
        a_is = sym (l.regs_are 10 (omega arith))

        kept_break : (x10 given user env) ≡ env v_break → ((p.user.brk ≡ env 10) × (nat_lt (env 10) (env v_first_break) ≡ false) × (nat_lt 15728640 (env 10) ≡ false) → ⊥) → p.user.brk ≡ (x10 given user env)
        kept_break q f = by l.break_is
          where
            by : BreakIs Breaking p.user env → p.user.brk ≡ (x10 given user env)
            by (inl b) = b ∙ sym q
            by (inr b) = absurd (f b)

        stays : stays_break s ≡ true → BreakResult
        stays q =
            let a = and_parts (same (reg s 10) (Var v_break) && keeps_break s) (has_fact (below_first true) s.facts || (has_fact (below_first false) s.facts && has_fact (above_top true) s.facts)) q in
            let v : (x10 given user env) ≡ env v_break = (reg10 given user env) s (Var v_break) ((first given user env) (same (reg s 10) (Var v_break)) (keeps_break s) a.0) m in
            or-elim (has_fact (below_first true) s.facts) (has_fact (below_first false) s.facts && has_fact (above_top true) s.facts) a.1
            (λ r. let f = has_fact-holds env (below_first true) s.facts r m.facts in rw (a_is, l.first_is, f) (kept_break v (λ b. false≢true (sym b.1 ∙ f))))
            (λ r.
            let b = and_parts (has_fact (below_first false) s.facts) (has_fact (above_top true) s.facts) r in
            let f = has_fact-holds env (below_first false) s.facts b.0 m.facts in
            let g = has_fact-holds env (above_top true) s.facts b.1 m.facts in
            rw (a_is, l.first_is, f, g) (kept_break v (λ z. false≢true (sym z.2 ∙ g))))

        moves_it : moves_break s ≡ true → BreakResult
        moves_it q =
            let a = and_parts (same (reg s 10) (Var 10) && same (get_or s.cells break_cell Unknown) (Var 10)) (has_fact (below_first false) s.facts && has_fact (above_top false) s.facts) q in
            let b = and_parts (has_fact (below_first false) s.facts) (has_fact (above_top false) s.facts) a.1 in
            let v : (x10 given user env) ≡ env 10 = (reg10 given user env) s (Var 10) ((first given user env) (same (reg s 10) (Var 10)) (same (get_or s.cells break_cell Unknown) (Var 10)) a.0) m in
            let f = has_fact-holds env (below_first false) s.facts b.0 m.facts in
            let g = has_fact-holds env (above_top false) s.facts b.1 m.facts in
            rw (a_is, l.first_is, f, g) (sym v)

    pub breaking : (At given user env) break_blocks → Links Breaking p.user env → env 17 ≡ 214 → (Goal given) Local
    breaking w l x = go ((moves given user env) break_blocks w)
      where
        stays : Here kernel user env blocks break_blocks (next given) → (Goal given) Local
        stays n = (land given) Local Breaking refl tt user env n (record { regs_are = l.regs_are; count = l.count; zeroth = l.zeroth; pc_is = l.pc_is; pc_even = l.pc_even; first_is = l.first_is; break_is = break-moved n; cause_is = l.cause_is }) x

        leaves : (n : (Into given user env) break_blocks) → n.block.kind ≡ break_done_gate → (Goal given) Local
        leaves n e = let a = and_parts (restores n.block.start) (break_answer n.block.start) ((gate given user env) break_blocks break_done_gate n e) in (land given) Local Restoring refl (break-told w l x n.block.start a.1 n.describes) user (env_r given user env) ((restore-here given user env) n.block.start a.0 n.describes) ((restore-links given user env) Breaking p.user _ (λ z. z) (break-now given user env) l.pc_is l) tt

        enters : (n : (Into given user env) break_blocks) → In n.block.kind (break_blocks ∷ break_done_gate ∷ []) → (Goal given) Local
        enters n (inl e) = stays ((enter given user env) break_blocks break_blocks n e)
        enters n (inr (inl e)) = leaves n e
        enters n (inr (inr e)) = absurd e

        go : Moves may_follow kernel user env blocks break_blocks w.block w.state (next given) → (Goal given) Local
        go (Stays n) = stays n
        go (Goes_to n) = enters n (member-In n.block.kind (break_blocks ∷ break_done_gate ∷ []) n.goes)
        go (Left_open c i) = absurd ((open-never given user env) break_blocks w refl c)
