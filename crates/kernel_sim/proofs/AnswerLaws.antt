-- Into Restore: the answer in a0, and the break.
use Rattle.std.proofs.Common.{◌≡◌, ◌≢◌, length-set, get_or-set_same, get_or-set_other, ℕ, ◌+◌, ◌%◌, ◌^◌, ◌<◌, ◌==◌, Bool, true, false, ◌&&◌, List, get_or, length, refl, ap, sym, subst, ◌∙◌, arith}
use Rattle.std.specs.Prelude.{slice_index, slice_set}
use Rattle.std.proofs.lemmas.Bool.{eqb-true, eqb-false, and_parts}
use Rattle.fe_base.specs.MemoryMap.{kernel_code_size, kernel_variables}
use Rattle.guest_memory.proofs.AreaLemmas.{bus_load-kernel}
use Rattle.rv_hart.specs.HartStep.{System, AreRegisters, hart_step}
use Rattle.guest_memory.specs.Memory.{load}
use Rattle.guest_memory.specs.Bus.{IsBus}
use Rattle.guest_memory.specs.Bus.{bus_load}
use Rattle.kernel_sim.specs.declared.phase.Phase.{Phase}
use Rattle.kernel_sim.specs.declared.phase.UserState.{UserState}
use Rattle.kernel_steps.specs.Terms.{Term, Var, Unknown, Is}
use Rattle.kernel_steps.specs.States.{State, Describes}
use Rattle.kernel_steps.specs.Successors.{reg}
use Rattle.kernel_steps.specs.Blocks.{Here, same}
use Rattle.kernel_code.specs.Kernel.{kernel, blocks}
use Rattle.kernel_sim.specs.Phases.{answered}
use Rattle.kernel_sim.specs.Stages.{CauseIs, Stage, Restoring, Links}
use Rattle.kernel_steps.proofs.Soundness.{AllIs-get, CellsAre-get}
use Rattle.kernel_steps.proofs.GraphLaws.{implies-Describes, same-path}
use Rattle.kernel_steps.proofs.Rebase.{with_var, fresh, learn_reg, learn_cell}
use Rattle.kernel_steps.proofs.Tests.{blocks_all-at}
use Rattle.kernel_sim.proofs.Gates.{breaks_ok, breaks_right, landed, set_reg, restore_at, restored, restores}
use Rattle.kernel_code.specs.Numbers.{restoring_blocks, v_cause, v_break, v_pc}
use Rattle.kernel_code.specs.Places.{break_cell, break_place}
use Rattle.kernel_sim.proofs.PlaceLaws.{low-kept}
use Rattle.kernel_sim.proofs.PathLaws.{eight-fits}
use Rattle.kernel_sim.proofs.StageLaws.{Setting, next}

module _ (given : Setting) where
  abbrev p : Phase
  p = given.phase

  abbrev sys : System
  sys = given.system

  abbrev fit : AreRegisters sys.hart.registers
  fit = given.fit

  abbrev fit_next : AreRegisters (hart_step sys).hart.registers
  fit_next = given.fit_next

  abbrev whole : IsBus sys.bus
  whole = given.whole

  abbrev whole_next : IsBus (hart_step sys).bus
  whole_next = given.whole_next

  module _ (user : List ℕ) (env : ℕ → ℕ) where
    abbrev pub x10 : ℕ
    x10 = slice_index (next given).hart.registers 10

    abbrev pub cell66 : ℕ
    cell66 = load (next given).bus.kernel break_place 8

    abbrev pub env_r : ℕ → ℕ
    env_r = with_var (with_var env 10 x10) v_break cell66

    pub cell-fits : (place : ℕ) → load (next given).bus.kernel place 8 < 2 ^ 64
    cell-fits place = eight-fits (next given).bus.kernel place whole_next.kernel_bytes

    pub restore-here : (s : State) → restores s ≡ true → Describes kernel user env s (next given) → Here kernel user env_r blocks restoring_blocks (next given)
    restore-here s e m =
        let t1 = and_parts _ _ e in
        let t2 = and_parts _ _ t1.0 in
        let t3 = and_parts _ _ t2.0 in
        let r = restore_at s in
        let m0 = implies-Describes kernel user env s r (next given) t3.0 m in
        let m1 = fresh env 10 x10 kernel user r (next given) t3.1 (fit_next.fit 10) m0 in
        let m2 = fresh (with_var env 10 x10) v_break cell66 kernel user r (next given) t2.1 (cell-fits break_place) m1 in
        let m3 = learn_reg kernel user env_r r (next given) 10 (Var 10) refl m2 in
        landed user env_r restoring_blocks (restored r) (next given) t1.1 (learn_cell kernel user env_r (set_reg r 10 (Var 10)) (next given) break_cell break_place (Var v_break) refl refl m3)

    pub break-now : bus_load (next given).bus kernel_variables 8 ≡ cell66
    break-now = bus_load-kernel (next given).bus kernel_variables 8 (omega arith)

    -- the program's registers with the answer
    pub restore-links : (st : Stage) (u : UserState) (brk : ℕ) → (CauseIs st (env v_cause) → env v_cause ≡ 8) → brk ≡ cell66 → u.pc ≡ env v_pc → Links st u env → Links Restoring (record (answered x10 u) { brk = brk }) env_r
    restore-links st u brk cause b pc l = record {
      regs_are = λ n k. go n k (n == 10) refl;
      count = length-set u.regs 10 x10 ∙ l.count;
      zeroth = get_or-set_other u.regs 10 0 x10 0 (omega arith) ∙ l.zeroth;
      pc_is = ap (λ z. (z + 4) % 2 ^ 64) pc;
      pc_even = l.pc_even;
      first_is = l.first_is;
      break_is = b;
      cause_is = cause l.cause_is;
    }
      where
        go : (n : ℕ) → n < 32 → (b : Bool) → (n == 10) ≡ b → env_r n ≡ slice_index (slice_set u.regs 10 x10) n
        go n k true q =
            let e : n ≡ 10 = eqb-true n 10 q in
            let count = l.count in
            let inside : 10 < length u.regs = omega arith in
            subst (λ z. env_r z ≡ slice_index (slice_set u.regs 10 x10) z) (sym e) (sym (get_or-set_same u.regs 10 x10 0 inside))
        go n k false q =
            let ne : n ≢ 10 = eqb-false n 10 q in
            low-kept (with_var env 10 x10) v_break cell66 n (omega arith) ∙ low-kept env 10 x10 n ne ∙ l.regs_are n k ∙ sym (get_or-set_other u.regs 10 n x10 0 ne)

    -- the break is what its doubleword holds
    pub break-kept : (k : ℕ) → breaks_ok k ≡ (λ s. same (get_or s.cells break_cell Unknown) (Var v_break)) → Here kernel user env blocks k (next given) → cell66 ≡ env v_break
    break-kept k q n =
        let t = ap (λ f. f n.state) (sym q) ∙ subst (λ z. breaks_ok z n.state ≡ true) n.kind (blocks_all-at breaks_ok kernel blocks n.block n.state breaks_right n.among n.on) in
        subst (λ z. Is env z cell66) (same-path (get_or n.state.cells break_cell Unknown) (Var v_break) t) (CellsAre-get env n.state.cells (next given).bus.kernel kernel_code_size break_cell break_place refl n.describes.memory.cells_are)

    pub first : (a b : Bool) → (a && b) ≡ true → a ≡ true
    first a b e = (and_parts a b e).0

    pub second : (a b : Bool) → (a && b) ≡ true → b ≡ true
    second a b e = (and_parts a b e).1

    pub reg10 : (s : State) (v : Term) → same (reg s 10) v ≡ true → Describes kernel user env s (next given) → Is env v x10
    reg10 s v e m = subst (λ z. Is env z x10) (same-path (reg s 10) v e) (AllIs-get env s.regs (next given).hart.registers 10 m.regs)

    pub break-is : (s : State) (v : Term) → same (get_or s.cells break_cell Unknown) v ≡ true → Describes kernel user env s (next given) → Is env v cell66
    break-is s v q m = subst (λ z. Is env z cell66) (same-path (get_or s.cells break_cell Unknown) v q) (CellsAre-get env s.cells (next given).bus.kernel kernel_code_size break_cell break_place refl m.memory.cells_are)
