-- Steps in Restore.
use Rattle.std.proofs.Common.{◌≡◌, ℕ, ◌+◌, ◌%◌, ◌^◌, true, List, [], length, refl, ap, sym, subst, ◌∙◌, arith}
use Rattle.rv_decode.specs.Alignment.{instruction_alignment}
use Rattle.rv_decode.specs.declared.instruction.Insn.TheVariants.{Mret}
use Rattle.fe_base.specs.MemoryMap.{kernel_code_size}
use Rattle.rv_hart.specs.HartStep.{System, AreRegisters, hart_step, over, after_mret}
use Rattle.rv_csr.specs.Fields.{instruction_aligned}
use Rattle.guest_memory.specs.Memory.{load}
use Rattle.guest_memory.specs.Bus.{IsBus}
use Rattle.kernel_sim.specs.declared.phase.PhaseKind.TheVariants.{Restore}
use Rattle.kernel_sim.specs.declared.phase.Phase.{Phase}
use Rattle.kernel_steps.specs.States.{State, CodeIs, Describes}
use Rattle.kernel_steps.specs.Blocks.{Moves, Stays, Goes_to, Left_open}
use Rattle.kernel_code.specs.Kinds.{may_follow}
use Rattle.kernel_code.specs.Kernel.{kernel, blocks}
use Rattle.kernel_sim.specs.Stages.{Restoring, Links}
use Rattle.kernel_steps.proofs.Soundness.{fetched, CellsAre-get}
use Rattle.kernel_steps.proofs.GraphLaws.{implies-Describes}
use Rattle.kernel_steps.proofs.Tests.{In, member-In}
use Rattle.kernel_sim.proofs.Gates.{open_ok, opens-at, at_mret}
use Rattle.kernel_code.specs.Numbers.{restoring_blocks, v_pc}
use Rattle.kernel_code.specs.Places.{break_cell, first_break_cell, break_place, first_break_place}
use Rattle.kernel_sim.proofs.TrapLaws.{mret-there, mret-done, opened, after_mret-is, same-regs}
use Rattle.kernel_sim.proofs.StageLaws.{Setting, next, Goal, land, as-user, At, Into, moves}

module _ (given : Setting) where
  abbrev p : Phase
  p = given.phase

  abbrev sys : System
  sys = given.system

  abbrev fit : AreRegisters sys.hart.registers
  fit = given.fit

  abbrev fit_next : AreRegisters (hart_step sys).hart.registers
  fit_next = given.fit_next

  abbrev whole : IsBus sys.bus
  whole = given.whole

  abbrev whole_next : IsBus (hart_step sys).bus
  whole_next = given.whole_next

  module _ (user : List ℕ) (env : ℕ → ℕ) where
    pub back-to-user : Describes kernel user env at_mret sys → Links Restoring p.user env → (Goal given) Restore
    back-to-user m l = (as-user given) Restore refl tt (by_mret (λ z. z.hart.mode) ∙ m.csrs.mpp) record {
      tohost_is = refl;
      fromhost_is = refl;
      request_is = refl;
      place = record {
        run = by_mret (λ z. z.hart.run) ∙ m.run;
        user_mode = by_mret (λ z. z.hart.mode) ∙ m.csrs.mpp;
        pc_is = pc_now ∙ sym l.pc_is;
        pc_even = subst (λ z. z % instruction_alignment ≡ 0) (sym pc_now) even;
        regs_are = by_mret (λ z. z.hart.registers) ∙ same-regs env sys.hart.registers p.user.regs m.regs fit.count l.count l.zeroth l.regs_are;
        fenced = by_mret (λ z. z.hart.csrs.pmp) ∙ m.csrs.pmp;
        scratch_is = by_mret (λ z. z.hart.csrs.mscratch) ∙ m.csrs.scratch;
        handler_is = by_mret (λ z. z.hart.csrs.mtvec) ∙ m.csrs.tvec;
        long = by_mret (λ z. length z.bus.kernel) ∙ m.memory.long;
        code_is = subst (λ z. CodeIs kernel z) (sym (by_mret (λ z. z.bus.kernel))) m.memory.code_is;
        first_is = by_mret (λ z. load z.bus.kernel first_break_place 8) ∙ CellsAre-get env at_mret.cells sys.bus.kernel kernel_code_size first_break_cell first_break_place refl m.memory.cells_are ∙ sym l.first_is;
        break_is = by_mret (λ z. load z.bus.kernel break_place 8) ∙ CellsAre-get env at_mret.cells sys.bus.kernel kernel_code_size break_cell break_place refl m.memory.cells_are ∙ sym l.break_is;
      };
    }
      where
        done : (next given) ≡ over sys.bus (after_mret sys.hart)
        done = fetched kernel user env at_mret sys m fit Mret mret-there ∙ mret-done sys _ _ m.mode

        by_mret : {A : Type 0} → (f : System → A) → f (next given) ≡ f (over sys.bus (opened sys))
        by_mret f = ap f (done ∙ ap (λ h. over sys.bus h) (after_mret-is sys))

        even : (env v_pc + 4) % 2 ^ 64 % instruction_alignment ≡ 0
        even = let e = l.pc_even in omega arith

        pc_now : (next given).hart.pc ≡ (env v_pc + 4) % 2 ^ 64
        pc_now = let e = even in let q : instruction_aligned ((env v_pc + 4) % 2 ^ 64) ≡ (env v_pc + 4) % 2 ^ 64 = omega arith in by_mret (λ z. z.hart.pc) ∙ m.csrs.epc ∙ q

    pub restoring : (At given user env) restoring_blocks → Links Restoring p.user env → (Goal given) Restore
    restoring w l = go ((moves given user env) restoring_blocks w)
      where
        enters : (n : (Into given user env) restoring_blocks) → In n.block.kind [] → (Goal given) Restore
        enters n e = absurd e

        returns_to : (u : State) → Describes kernel user env u sys → open_ok restoring_blocks u ≡ true → (Goal given) Restore
        returns_to u m t = back-to-user (implies-Describes kernel user env u at_mret sys t m) l

        go : Moves may_follow kernel user env blocks restoring_blocks w.block w.state (next given) → (Goal given) Restore
        go (Stays n) = (land given) Restore Restoring refl tt user env n l tt
        go (Goes_to n) = enters n (member-In n.block.kind [] n.goes)
        go (Left_open c i) = returns_to w.state w.describes (subst (λ z. open_ok z w.state ≡ true) w.kind (opens-at w.block w.state w.among c i))
