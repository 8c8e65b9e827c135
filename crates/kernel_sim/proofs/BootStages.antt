-- Steps before the program starts.
use Rattle.std.proofs.Common.{◌≡◌, ◌≢◌, ℕ, ◌+◌, ◌%◌, ◌==◌, true, false, ◌&&◌, inl, inr, Option, Some, None, List, [], ◌∷◌, get_or, length, refl, ap, sym, subst, ◌∙◌, arith}
use Rattle.std.specs.Prelude.{not}
use Rattle.std.proofs.lemmas.Bool.{false≢true, eqb-true, eqb-false, and_parts}
use Rattle.rv_decode.specs.Alignment.{instruction_alignment}
use Rattle.rv_decode.specs.declared.instruction.Insn.TheVariants.{Mret}
use Rattle.fe_base.specs.MemoryMap.{boot, kernel_code_size, kernel_variables, fromhost}
use Rattle.guest_memory.proofs.AreaLemmas.{bus_load-kernel}
use Rattle.rv_hart.specs.HartStep.{System, AreRegisters, hart_step, over, after_mret}
use Rattle.rv_csr.specs.Fields.{instruction_aligned}
use Rattle.guest_memory.specs.Memory.{load}
use Rattle.guest_memory.specs.Bus.{IsBus}
use Rattle.guest_memory.specs.Bus.{bus_load}
use Rattle.kernel_sim.specs.declared.phase.PhaseKind.{PhaseKind}
use Rattle.kernel_sim.specs.declared.phase.PhaseKind.TheVariants.{Boot, BootWait, BootTake, Leave, User}
use Rattle.kernel_sim.specs.declared.phase.Phase.{Phase}
use Rattle.kernel_steps.specs.Terms.{Lit, Var, Unknown, Is}
use Rattle.kernel_steps.specs.States.{State, CodeIs, Describes}
use Rattle.kernel_steps.specs.Blocks.{test, step_at, Here, Moves, Stays, Goes_to, Left_open, same, has_fact}
use Rattle.kernel_code.specs.Kinds.{may_follow}
use Rattle.kernel_code.specs.Kernel.{kernel, blocks}
use Rattle.kernel_sim.specs.Steps.{follows}
use Rattle.kernel_sim.proofs.Told.{Told}
use Rattle.kernel_sim.specs.Phases.{phase_from}
use Rattle.kernel_sim.specs.Stages.{BootStage, Booting, BootWaiting, BootTested, BootTaking, Leaving, boot_kind, boot_number, BootBreak, BootSeen}
use Rattle.kernel_steps.proofs.Soundness.{fetched, CellsAre-get}
use Rattle.kernel_steps.proofs.GraphLaws.{stepped, implies-Describes, same-path, has_fact-holds}
use Rattle.kernel_steps.proofs.Rebase.{with_var, fresh, learn_cell}
use Rattle.kernel_steps.proofs.Tests.{In, member-In, blocks_all-at, starts-at}
use Rattle.kernel_sim.proofs.Gates.{has_posted, posts_boot, has_come, posts_ok, posts_right, begins_ok, begins_right, speaks_ok, speaks_right, leads_ok, leads_right, open_ok, opens-at, at_leave, landed, lands, set_cell, fact}
use Rattle.kernel_code.specs.Numbers.{booting_blocks, boot_waiting_blocks, boot_taking_blocks, leaving_blocks, v_first_break, v_entry, boot_tested_blocks, v_fromhost}
use Rattle.kernel_code.specs.Places.{break_cell, first_break_cell, entry_place, pc_boot_test, break_place, first_break_place, fromhost_place, fromhost_cell, pc_boot_wait, entry_cell}
use Rattle.kernel_sim.proofs.PlaceLaws.{boot-by-place, boot-placed, starts_boot, boot_right}
use Rattle.kernel_sim.proofs.PathLaws.{or-elim, eight-fits, not-false}
use Rattle.kernel_sim.proofs.TrapLaws.{leave-there, mret-done, opened, after_mret-is, leave_values, lits-are}
use Rattle.kernel_sim.proofs.StageLaws.{Setting, next, StepIs, Goal, as-user, At, Into, moves, enter, open-never, goes-elsewhere, goes-with}
use Rattle.kernel_sim.proofs.RequestStages.{posted-cells, words8}

module _ (given : Setting) where
  abbrev p : Phase
  p = given.phase

  abbrev sys : System
  sys = given.system

  abbrev fit : AreRegisters sys.hart.registers
  fit = given.fit

  abbrev fit_next : AreRegisters (hart_step sys).hart.registers
  fit_next = given.fit_next

  abbrev whole : IsBus sys.bus
  whole = given.whole

  abbrev whole_next : IsBus (hart_step sys).bus
  whole_next = given.whole_next

  pub boot-land : (was : PhaseKind) (st : BootStage) → follows was (boot_kind st) ≡ true → Told was (boot_kind st) p sys (next given) → (user : List ℕ) (env : ℕ → ℕ) → Here kernel user env blocks (boot_number st) (next given) → BootBreak st (phase_from was (boot_kind st) p (next given)).user env → BootSeen st (phase_from was (boot_kind st) p (next given)) env → env v_entry % instruction_alignment ≡ 0 → (Goal given) was
  boot-land was st order told user env w b x e =
      subst (λ z. (StepIs given) was z) (sym (boot-by-place user env st (next given) w))
      (record { tohost_is = refl; fromhost_is = refl; request_is = refl; place = boot-placed st _ (next given) (record { user = user; env = env; stage = st; staged = refl; here = w; break_is = b; seen = x; entry_even = e }) }, order, told)

  module _ (user : List ℕ) (env : ℕ → ℕ) where
    pub booting : (At given) user env booting_blocks → env v_entry % instruction_alignment ≡ 0 → (Goal given) Boot
    booting w e = go ((moves given) user env booting_blocks w)
      where
        posts-told : (n : (Into given) user env booting_blocks) → n.block.kind ≡ boot_waiting_blocks → bus_load (next given).bus kernel_variables 8 ≡ bus_load (next given).bus (boot + 8) 8 → Told Boot BootWait p sys (next given)
        posts-told n q brk_first =
            let here : (next given).hart.pc ≡ pc_boot_wait = n.describes.at ∙ eqb-true n.block.start.at pc_boot_wait (subst (λ z. begins_ok z n.block.start ≡ true) q (starts-at begins_ok blocks n.block begins_right n.among)) in
            let t = (goes-with given) user env posts_boot w.state w.describes (subst (λ z. posts_ok z w.state ≡ true) w.kind (blocks_all-at posts_ok kernel blocks w.block w.state posts_right w.among w.on)) in
            let z = or-elim (not (t.0.at == pc_boot_wait)) (has_posted t.0 (Lit 2011) (Lit 0x1000000) (Lit 65536) (Lit 0) (Lit 0) (Lit 0)) t.1 (λ y. absurd (eqb-false t.0.at pc_boot_wait (not-false _ y) (sym t.2.at ∙ here))) (λ y. y) in
            let r = (posted-cells given) user env t.0 (Lit 2011) (Lit 0x1000000) (Lit 65536) (Lit 0) (Lit 0) (Lit 0) z t.2 in
            ((words8 given) user env r.1 r.2 r.3 r.4 r.5 r.6 r.7 r.8, r.0, brk_first)

        waits : (n : (Into given) user env booting_blocks) → n.block.kind ≡ boot_waiting_blocks → (Goal given) Boot
        waits n q =
            let s = n.block.start in
            let t : starts_boot boot_waiting_blocks s ≡ true = subst (λ z. starts_boot z s ≡ true) q (starts-at starts_boot blocks n.block boot_right n.among) in
            let a = and_parts _ _ t in
            let m = n.describes.memory.cells_are in
            let brk : load (next given).bus.kernel break_place 8 ≡ env v_first_break = subst (λ z. Is env z (load (next given).bus.kernel break_place 8)) (same-path (get_or s.cells break_cell Unknown) (Var v_first_break) a.0) (CellsAre-get env s.cells (next given).bus.kernel kernel_code_size break_cell break_place refl m) in
            let first : load (next given).bus.kernel first_break_place 8 ≡ env v_first_break = subst (λ z. Is env z (load (next given).bus.kernel first_break_place 8)) (same-path (get_or s.cells first_break_cell Unknown) (Var v_first_break) a.1) (CellsAre-get env s.cells (next given).bus.kernel kernel_code_size first_break_cell first_break_place refl m) in
            boot-land Boot BootWaiting refl (posts-told n q (bus_load-kernel (next given).bus kernel_variables 8 (omega arith) ∙ brk ∙ sym first ∙ sym (bus_load-kernel (next given).bus (boot + 8) 8 (omega arith)))) user env ((enter given) user env booting_blocks boot_waiting_blocks n q) (bus_load-kernel (next given).bus kernel_variables 8 (omega arith) ∙ brk, bus_load-kernel (next given).bus (boot + 8) 8 (omega arith) ∙ first) tt e

        enters : (n : (Into given) user env booting_blocks) → In n.block.kind (boot_waiting_blocks ∷ []) → (Goal given) Boot
        enters n (inl q) = waits n q
        enters n (inr q) = absurd q

        go : Moves may_follow kernel user env blocks booting_blocks w.block w.state (next given) → (Goal given) Boot
        go (Stays n) = boot-land Boot Booting refl tt user env n tt tt e
        go (Goes_to n) = enters n (member-In n.block.kind (boot_waiting_blocks ∷ []) n.goes)
        go (Left_open c i) = absurd ((open-never given) user env booting_blocks w refl c)

    pub boot_waiting : (At given) user env boot_waiting_blocks → (p.user.brk ≡ env v_first_break) × (p.user.first_break ≡ env v_first_break) → env v_entry % instruction_alignment ≡ 0 → (Goal given) BootWait
    boot_waiting w b e36 = go ((moves given) user env boot_waiting_blocks w)
      where
        peeks : (u : State) → Describes kernel user env u sys → open_ok boot_waiting_blocks u ≡ true → (Goal given) BootWait
        peeks u m t0 =
            let t = and_parts _ _ t0 in
            let v = load sys.bus.kernel fromhost_place 8 in
            let to : ℕ → ℕ = with_var env v_fromhost v in
            let m1 = fresh env v_fromhost v kernel user u sys t.0 (eight-fits sys.bus.kernel fromhost_place whole.kernel_bytes) m in
            let m2 = learn_cell kernel user to u sys fromhost_cell fromhost_place (Var v_fromhost) refl refl m1 in
            after (step_at kernel (set_cell u fromhost_cell (Var v_fromhost))) refl t.1 m2
          where
            after : (o : Option State) → step_at kernel (set_cell u fromhost_cell (Var v_fromhost)) ≡ o → test o (λ t. same (get_or t.cells fromhost_cell Unknown) (Var v_fromhost) && lands boot_tested_blocks t) ≡ true → Describes kernel user (with_var env v_fromhost (load sys.bus.kernel fromhost_place 8)) (set_cell u fromhost_cell (Var v_fromhost)) sys → (Goal given) BootWait
            after None e f m2 = absurd (false≢true f)
            after (Some t) e f m2 =
                let to : ℕ → ℕ = with_var env v_fromhost (load sys.bus.kernel fromhost_place 8) in
                let m3 = stepped kernel user to may_follow blocks sys fit (set_cell u fromhost_cell (Var v_fromhost)) t e m2 in
                let g = and_parts _ _ f in
                let held : load (next given).bus.kernel fromhost_place 8 ≡ to v_fromhost = subst (λ z. Is to z (load (next given).bus.kernel fromhost_place 8)) (same-path (get_or t.cells fromhost_cell Unknown) (Var v_fromhost) g.0) (CellsAre-get to t.cells (next given).bus.kernel kernel_code_size fromhost_cell fromhost_place refl m3.memory.cells_are) in
                boot-land BootWait BootTested refl tt user to (landed user to boot_tested_blocks t (next given) g.1 m3) b (λ ne z. ne (sym held ∙ sym (bus_load-kernel (next given).bus fromhost 8 (omega arith)) ∙ z)) e36

        go : Moves may_follow kernel user env blocks boot_waiting_blocks w.block w.state (next given) → (Goal given) BootWait
        go (Stays n) = boot-land BootWait BootWaiting refl tt user env n b tt e36
        go (Goes_to n) = absurd (member-In n.block.kind [] n.goes)
        go (Left_open c i) = peeks w.state w.describes (subst (λ z. open_ok z w.state ≡ true) w.kind (opens-at w.block w.state w.among c i))

    pub boot_tested : (At given) user env boot_tested_blocks → (p.user.brk ≡ env v_first_break) × (p.user.first_break ≡ env v_first_break) → (env v_fromhost ≢ 0 → p.fromhost ≢ 0) → env v_entry % instruction_alignment ≡ 0 → (Goal given) BootWait
    boot_tested w b seen e36 = go ((moves given) user env boot_tested_blocks w)
      where
        come : (n : (Into given) user env boot_tested_blocks) → n.block.kind ≡ boot_taking_blocks → p.fromhost ≢ 0
        come n q =
            let behind : (n.block.start.at == pc_boot_wait) ≡ false = not-false _ (subst (λ z. begins_ok z n.block.start ≡ true) q (starts-at begins_ok blocks n.block begins_right n.among)) in
            let t = (goes-with given) user env has_come w.state w.describes (subst (λ z. posts_ok z w.state ≡ true) w.kind (blocks_all-at posts_ok kernel blocks w.block w.state posts_right w.among w.on)) in
            seen (or-elim (t.0.at == pc_boot_wait) (has_fact (fact false (Var v_fromhost) (Lit 0) false) t.0.facts) t.1 (λ y. absurd (eqb-false n.block.start.at pc_boot_wait behind (sym n.describes.at ∙ t.2.at ∙ eqb-true t.0.at pc_boot_wait y))) (λ y. eqb-false (env v_fromhost) 0 (has_fact-holds env (fact false (Var v_fromhost) (Lit 0) false) t.0.facts y t.2.facts)))

        enters : (n : (Into given) user env boot_tested_blocks) → In n.block.kind (boot_waiting_blocks ∷ boot_taking_blocks ∷ []) → (Goal given) BootWait
        enters n (inl q) = boot-land BootWait BootWaiting refl tt user env ((enter given) user env boot_tested_blocks boot_waiting_blocks n q) b tt e36
        enters n (inr (inl q)) = boot-land BootWait BootTaking refl (come n q) user env ((enter given) user env boot_tested_blocks boot_taking_blocks n q) b tt e36
        enters n (inr (inr q)) = absurd q

        go : Moves may_follow kernel user env blocks boot_tested_blocks w.block w.state (next given) → (Goal given) BootWait
        go (Stays n) = absurd (false≢true (sym (not-false ((next given).hart.pc == pc_boot_test) ((goes-elsewhere given) user env (λ a. not (a == pc_boot_test)) w.state w.describes (subst (λ z. leads_ok z w.state ≡ true) w.kind (blocks_all-at leads_ok kernel blocks w.block w.state leads_right w.among w.on)))) ∙ ap (λ z. z == pc_boot_test) n.describes.at ∙ subst (λ z. speaks_ok z n.state ≡ true) n.kind (blocks_all-at speaks_ok kernel blocks n.block n.state speaks_right n.among n.on)))
        go (Goes_to n) = enters n (member-In n.block.kind (boot_waiting_blocks ∷ boot_taking_blocks ∷ []) n.goes)
        go (Left_open c i) = absurd ((open-never given) user env boot_tested_blocks w refl c)

    pub boot_taking : (At given) user env boot_taking_blocks → (p.user.brk ≡ env v_first_break) × (p.user.first_break ≡ env v_first_break) → env v_entry % instruction_alignment ≡ 0 → (Goal given) BootTake
    boot_taking w b e36 = go ((moves given) user env boot_taking_blocks w)
      where
        enters : (n : (Into given) user env boot_taking_blocks) → In n.block.kind (leaving_blocks ∷ []) → (Goal given) BootTake
        enters n (inl q) = boot-land BootTake Leaving refl tt user env ((enter given) user env boot_taking_blocks leaving_blocks n q) b tt e36
        enters n (inr q) = absurd q

        go : Moves may_follow kernel user env blocks boot_taking_blocks w.block w.state (next given) → (Goal given) BootTake
        go (Stays n) = boot-land BootTake BootTaking refl tt user env n b tt e36
        go (Goes_to n) = enters n (member-In n.block.kind (leaving_blocks ∷ []) n.goes)
        go (Left_open c i) = absurd ((open-never given) user env boot_taking_blocks w refl c)

    pub leaves_to : Describes kernel user env at_leave sys → (p.user.brk ≡ env v_first_break) × (p.user.first_break ≡ env v_first_break) → env v_entry % instruction_alignment ≡ 0 → (Goal given) Leave
    leaves_to m b e36 = (as-user given) Leave refl told (by_mret (λ z. z.hart.mode) ∙ m.csrs.mpp) record {
      tohost_is = refl;
      fromhost_is = refl;
      request_is = refl;
      place = record {
        run = by_mret (λ z. z.hart.run) ∙ m.run;
        user_mode = by_mret (λ z. z.hart.mode) ∙ m.csrs.mpp;
        pc_is = refl;
        pc_even = subst (λ z. z % instruction_alignment ≡ 0) (sym (by_mret (λ z. z.hart.pc) ∙ m.csrs.epc)) (let e = e36 in omega arith);
        regs_are = refl;
        fenced = by_mret (λ z. z.hart.csrs.pmp) ∙ m.csrs.pmp;
        scratch_is = by_mret (λ z. z.hart.csrs.mscratch) ∙ m.csrs.scratch;
        handler_is = by_mret (λ z. z.hart.csrs.mtvec) ∙ m.csrs.tvec;
        long = by_mret (λ z. length z.bus.kernel) ∙ m.memory.long;
        code_is = subst (λ z. CodeIs kernel z) (sym (by_mret (λ z. z.bus.kernel))) m.memory.code_is;
        first_is = by_mret (λ z. load z.bus.kernel first_break_place 8) ∙ CellsAre-get env at_leave.cells sys.bus.kernel kernel_code_size first_break_cell first_break_place refl m.memory.cells_are ∙ sym b.1;
        break_is = by_mret (λ z. load z.bus.kernel break_place 8) ∙ CellsAre-get env at_leave.cells sys.bus.kernel kernel_code_size break_cell break_place refl m.memory.cells_are ∙ sym b.0;
      };
    }
      where
        entry_is : instruction_aligned (env v_entry) ≡ bus_load sys.bus boot 8
        entry_is =
            let e = e36 in
            let q : instruction_aligned (env v_entry) ≡ env v_entry = omega arith in
            q ∙ sym (CellsAre-get env at_leave.cells sys.bus.kernel kernel_code_size entry_cell entry_place refl m.memory.cells_are) ∙ sym (bus_load-kernel sys.bus boot 8 (omega arith))

        done : (next given) ≡ over sys.bus (after_mret sys.hart)
        done = fetched kernel user env at_leave sys m fit Mret leave-there ∙ mret-done sys _ _ m.mode

        by_mret : {A : Type 0} → (f : System → A) → f (next given) ≡ f (over sys.bus (opened sys))
        by_mret f = ap f (done ∙ ap (λ h. over sys.bus h) (after_mret-is sys))

        told : Told Leave User p sys (next given)
        told = (
          by_mret (λ z. z.hart.pc) ∙ m.csrs.epc ∙ entry_is,
          by_mret (λ z. z.hart.registers) ∙ lits-are env leave_values sys.hart.registers m.regs fit.count,
        )

    pub leaving : (At given) user env leaving_blocks → (p.user.brk ≡ env v_first_break) × (p.user.first_break ≡ env v_first_break) → env v_entry % instruction_alignment ≡ 0 → (Goal given) Leave
    leaving w b e36 = go ((moves given) user env leaving_blocks w)
      where
        go : Moves may_follow kernel user env blocks leaving_blocks w.block w.state (next given) → (Goal given) Leave
        go (Stays n) = boot-land Leave Leaving refl tt user env n b tt e36
        go (Goes_to n) = absurd (member-In n.block.kind [] n.goes)
        go (Left_open c i) = leaves_to (implies-Describes kernel user env w.state at_leave sys (subst (λ z. open_ok z w.state ≡ true) w.kind (opens-at w.block w.state w.among c i)) w.describes) b e36

    pub by-boot : (st : BootStage) → (At given) user env (boot_number st) → BootBreak st p.user env → BootSeen st p env → env v_entry % instruction_alignment ≡ 0 → (Goal given) (boot_kind st)
    by-boot Booting w b x e = booting w e
    by-boot BootWaiting w b x e = boot_waiting w b e
    by-boot BootTested w b x e = boot_tested w b x e
    by-boot BootTaking w b x e = boot_taking w b e
    by-boot Leaving w b x e = leaving w b e
