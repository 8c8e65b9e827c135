-- A step of the program.
use Rattle.std.proofs.Common.{◌≡◌, ℕ, ◌%◌, ◌^◌, ◌<◌, ◌==◌, Bool, true, false, inl, inr, [], ◌∷◌, length, refl, ap, sym, subst, ◌∙◌, arith}
use Rattle.std.specs.Prelude.{slice_index}
use Rattle.std.proofs.lemmas.Bool.{eqb-true, eqb-false}
use Rattle.rv_decode.specs.Alignment.{instruction_alignment}
use Rattle.rv_csr.specs.declared.privilege.Mode.TheVariants.{Machine}
use Rattle.fe_base.specs.MemoryMap.{kernel_code_size}
use Rattle.rv_hart.specs.HartStep.{System, AreRegisters, hart_step, over, HartState}
use Rattle.rv_alu.specs.Causes.{cause_number}
use Rattle.rv_alu.specs.declared.causes.Cause.{Cause}
use Rattle.rv_alu.specs.declared.causes.Cause.TheVariants.{UserCall}
use Rattle.rv_csr.specs.Fields.{instruction_aligned}
use Rattle.rv_csr.specs.declared.privilege.Mode.TheVariants as mode
use Rattle.rv_hart.specs.HartStep.{trap_step, counted_step}
use Rattle.rv_csr.specs.CsrTable.{IsCsrs}
use Rattle.plain_machine.specs.UserStep.{UserStep, call, trap, user_step}
use Rattle.plain_machine.specs.UserStep as user_spec
use Rattle.kernel_sim.specs.UserMode.{user_of}
use Rattle.kernel_sim.proofs.UserSteps.{seen_by}
use Rattle.kernel_sim.proofs.Agreement.{user_steps_agree}
use Rattle.kernel_sim.proofs.UserSteps.{Good, good-step}
use Rattle.guest_memory.specs.Memory.{load}
use Rattle.guest_memory.specs.Bus.{IsBus}
use Rattle.kernel_sim.specs.declared.phase.PhaseKind.TheVariants.{User, Save}
use Rattle.kernel_sim.specs.declared.phase.Phase.{Phase}
use Rattle.kernel_steps.specs.Terms.{Lit, Var, AllIs}
use Rattle.kernel_steps.specs.States.{CodeIs, Describes}
use Rattle.kernel_code.specs.Kernel.{kernel}
use Rattle.plain_machine.specs.UserStep.{is_user}
use Rattle.kernel_sim.specs.Traps.{TrapTold}
use Rattle.kernel_sim.specs.Phases.{phase_from}
use Rattle.kernel_sim.specs.Stages.{Saving, TrapIs, Links, InUser}
use Rattle.kernel_sim.proofs.Gates.{at_save, save_lands, landed}
use Rattle.kernel_code.specs.Numbers.{saving_blocks, v_first_break, v_entry, v_break}
use Rattle.kernel_code.specs.Places.{entry_place, break_place, first_break_place}
use Rattle.kernel_sim.proofs.PathLaws.{eight-fits}
use Rattle.kernel_sim.proofs.TrapLaws.{vars, cells-after, first-and-rest, user_env, user_env-reg, user_env-small}
use Rattle.kernel_sim.proofs.StageLaws.{Setting, next, Goal, land, as-user}

module _ (given : Setting) where
  abbrev p : Phase
  p = given.phase

  abbrev sys : System
  sys = given.system

  abbrev fit : AreRegisters sys.hart.registers
  fit = given.fit

  abbrev fit_next : AreRegisters (hart_step sys).hart.registers
  fit_next = given.fit_next

  abbrev whole : IsBus sys.bus
  whole = given.whole

  abbrev whole_next : IsBus (hart_step sys).bus
  whole_next = given.whole_next

  abbrev pub counted_now : HartState
  counted_now = counted_step mode.User sys.hart

  pub saved : (c : Cause) (v : ℕ) → ((next given).hart.csrs.mcause ≡ cause_number c → (next given).hart.csrs.mtval ≡ v → TrapTold sys (next given)) → InUser p sys → IsCsrs (next given).hart.csrs → (next given) ≡ over sys.bus (trap_step c v counted_now) → (cause_number c ≡ 2 → v < 2 ^ 32) → (Goal given) User
  unfolding trap_step user_env
  saved c v tells u fits e word =
      let env = user_env p (next given) in
      let pc_same : instruction_aligned sys.hart.pc ≡ sys.hart.pc = let q = u.pc_even in omega arith in
      let epc : (next given).hart.csrs.mepc ≡ p.user.pc = ap (λ z. z.hart.csrs.mepc) e ∙ pc_same ∙ u.pc_is in
      let regs : (next given).hart.registers ≡ p.user.regs = ap (λ z. z.hart.registers) e ∙ u.regs_are in
      let kernel_same : (next given).bus.kernel ≡ sys.bus.kernel = ap (λ z. z.bus.kernel) e in
      let count : length p.user.regs ≡ 32 = ap length (sym u.regs_are) ∙ fit.count in
      let zero_reg : slice_index p.user.regs 0 ≡ 0 = ap (λ z. slice_index z 0) (sym u.regs_are) ∙ fit.x0_is_zero in
      let reg_fits : ((k : ℕ) → slice_index p.user.regs k < 2 ^ 64) = λ k. subst (λ z. slice_index z k < 2 ^ 64) u.regs_are (fit.fit k) in
      let pc_fits : p.user.pc < 2 ^ 64 = subst (λ z. z < 2 ^ 64) epc fits.mepc_fits in
      let brk_fits : p.user.brk < 2 ^ 64 = subst (λ z. z < 2 ^ 64) u.break_is (eight-fits sys.bus.kernel break_place whole.kernel_bytes) in
      let first_fits : p.user.first_break < 2 ^ 64 = subst (λ z. z < 2 ^ 64) u.first_is (eight-fits sys.bus.kernel first_break_place whole.kernel_bytes) in
      let m : Describes kernel (next given).bus.user env at_save (next given) = record {
        run = ap (λ z. z.hart.run) e ∙ u.run;
        mode = ap (λ z. z.hart.mode) e;
        at = ap (λ z. z.hart.pc) e ∙ u.handler_is;
        regs = subst (AllIs env (Lit 0 ∷ vars 1 31)) (sym regs) (first-and-rest env p.user.regs 31 count zero_reg (λ k l. sym (user_env-reg p (next given) k (omega arith))));
        csrs = record { scratch = ap (λ z. z.hart.csrs.mscratch) e ∙ u.scratch_is; epc = epc; cause = refl; tval = refl; tvec = ap (λ z. z.hart.csrs.mtvec) e ∙ u.handler_is; mpp = ap (λ z. z.hart.csrs.mstatus_mpp) e ∙ u.user_mode; pmp = ap (λ z. z.hart.csrs.pmp) e ∙ u.fenced };
        memory = record {
          cells_are = cells-after env 64 (Var v_entry ∷ Var v_first_break ∷ Var v_break ∷ []) (next given).bus.kernel kernel_code_size entry_place refl
              (refl, (ap (λ z. load z first_break_place 8) kernel_same ∙ u.first_is, (ap (λ z. load z break_place 8) kernel_same ∙ u.break_is, tt)));
          long = ap length kernel_same ∙ u.long;
          user_is = refl;
          code_is = subst (CodeIs kernel) (sym kernel_same) u.code_is;
        };
        facts = tt;
        small = λ n. user_env-small p (next given) n reg_fits pc_fits brk_fits first_fits whole_next.kernel_bytes fits;
      } in
      let even : p.user.pc % instruction_alignment ≡ 0 = subst (λ z. z % instruction_alignment ≡ 0) u.pc_is u.pc_even in
      let word_fits : (next given).hart.csrs.mcause ≡ 2 → (next given).hart.csrs.mtval < 2 ^ 32 = λ q. subst (λ z. z < 2 ^ 32) (sym (ap (λ z. z.hart.csrs.mtval) e)) (word (sym (ap (λ z. z.hart.csrs.mcause) e) ∙ q)) in
      let l : Links Saving (phase_from User Save p (next given)).user env = record { regs_are = λ n k. user_env-reg p (next given) n k; count = count; zeroth = zero_reg; pc_is = refl; pc_even = even; first_is = refl; break_is = refl; cause_is = tt } in
      (land given) User Saving refl (tells (ap (λ z. z.hart.csrs.mcause) e) (ap (λ z. z.hart.csrs.mtval) e), ap (λ z. z.bus.user) e) (next given).bus.user env (landed (next given).bus.user env saving_blocks at_save (next given) save_lands m) l (told ((next given).hart.csrs.mcause == 8) refl word_fits)
    where
      told : (b : Bool) → ((next given).hart.csrs.mcause == 8) ≡ b → ((next given).hart.csrs.mcause ≡ 2 → (next given).hart.csrs.mtval < 2 ^ 32) → TrapIs (phase_from User Save p (next given)) (user_env p (next given))
      told true q f = inl (eqb-true _ _ q)
      told false q f = inr (eqb-false _ _ q, rw q (record { counter_is = refl; cause_is = refl; at_is = refl; value_is = refl; word_fits = f }), rw q refl)

  pub in_user : InUser p sys → IsCsrs (next given).hart.csrs → (Goal given) User
  in_user u fits = go (user_step (user_of sys)) refl (good-step (user_of sys) whole.user_bytes u.pc_even)
    where
      step : (next given) ≡ seen_by (user_step (user_of sys)) (over sys.bus counted_now)
      step = user_steps_agree sys u.run u.user_mode u.fenced

      goes : (st : user_spec.UserState) → user_step (user_of sys) ≡ user_spec.next st → (next given) ≡ record { hart = record counted_now { pc = st.pc; registers = st.registers }; bus = record sys.bus { user = st.user } } → st.pc % instruction_alignment ≡ 0 → (Goal given) User
      goes st q e g = (as-user given) User refl (st, q, ap (λ z. z.hart.pc) e, ap (λ z. z.hart.registers) e, ap (λ z. z.bus.user) e) (ap (λ z. z.hart.mode) e ∙ u.user_mode) record {
        tohost_is = refl;
        fromhost_is = refl;
        request_is = refl;
        place = record {
          run = ap (λ z. z.hart.run) e ∙ u.run;
          user_mode = ap (λ z. z.hart.mode) e ∙ u.user_mode;
          pc_is = refl;
          pc_even = subst (λ z. z % instruction_alignment ≡ 0) (sym (ap (λ z. z.hart.pc) e)) g;
          regs_are = refl;
          fenced = ap (λ z. z.hart.csrs.pmp) e ∙ u.fenced;
          scratch_is = ap (λ z. z.hart.csrs.mscratch) e ∙ u.scratch_is;
          handler_is = ap (λ z. z.hart.csrs.mtvec) e ∙ u.handler_is;
          long = ap (λ z. length z.bus.kernel) e ∙ u.long;
          code_is = subst (CodeIs kernel) (sym (ap (λ z. z.bus.kernel) e)) u.code_is;
          first_is = ap (λ z. load z.bus.kernel first_break_place 8) e ∙ u.first_is;
          break_is = ap (λ z. load z.bus.kernel break_place 8) e ∙ u.break_is;
        };
      }

      go : (r : UserStep) → user_step (user_of sys) ≡ r → Good r → (Goal given) User
      go (user_spec.next st) q g = goes st q (step ∙ ap (λ z. seen_by z (over sys.bus counted_now)) q) g
      go call q g = saved UserCall 0 (λ m n. inl (q, m)) u fits (step ∙ ap (λ z. seen_by z (over sys.bus counted_now)) q) (λ z. absurd (omega arith))
      go (trap c v) q g = saved c v (λ m n. inr (c, v, q, m, n, g.0)) u fits (step ∙ ap (λ z. seen_by z (over sys.bus counted_now)) q) g.1
