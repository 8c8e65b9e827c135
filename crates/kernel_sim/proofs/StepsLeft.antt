-- Each step of the kernel makes progress.
use Rattle.std.proofs.Common.{◌≡◌, ◌≢◌, pos, ℕ, ◌+◌, ◌-◌, ◌*◌, ◌%◌, ◌^◌, ◌<◌, ◌≤◌, ◌==◌, Bool, true, false, ◌&&◌, ◌||◌, ◌⊎◌, inl, inr, Option, Some, None, List, [], ◌∷◌, get_or, refl, ap, sym, subst, ◌∙◌, arith, nat_lt, if◌then◌else◌}
use Rattle.std.specs.Prelude.{nat_le, not, min, slice_index, slice_set}
use Rattle.std.proofs.lemmas.Bool.{false≢true, eqb-true, and_parts}
use Rattle.std.proofs.lemmas.Bool.Decides.{nat_tests}
use Rattle.fe_base.specs.MemoryMap.{kernel_start, kernel_code_size, tohost, fromhost, request}
use Rattle.guest_memory.specs.Bus.{IsBus}
use Rattle.guest_memory.specs.Memory.{load}
use Rattle.guest_memory.proofs.AreaLemmas.{bus_load-kernel}
use Rattle.plain_machine.specs.KernelPart.{greatest_path}
use Rattle.kernel_steps.specs.Terms.{Lit, Var, Unknown, Is}
use Rattle.kernel_steps.specs.Successors.{reg, fetch, successors}
use Rattle.kernel_steps.specs.Blocks.{Here, same, has_fact}
use Rattle.kernel_steps.proofs.Soundness.{carried, fetched, CellsAre-get, AllIs-get}
use Rattle.kernel_steps.proofs.GraphLaws.{led, same-path, has_fact-holds, then-l, then-r}
use Rattle.kernel_steps.proofs.Rebase.{with_var, state_avoids, fresh, learn_reg, learn_cell}
use Rattle.kernel_code.specs.StepsLeft.{left_table, left_at, loads_word, tests_word, is_left_out, is_lower, all_lower, may_end, lowers}
use Rattle.kernel_code.specs.Places.{pc_boot_wait, pc_boot_test, pc_wait, pc_wait_test, pc_put, pc_put_test, pc_put_store, pc_put_done, pc_closing, pc_closing_test, pc_idle, pc_path_test, pc_path_passed, pc_save, pc_path_load, pc_path_loaded, pc_return, pc_leave_return, tohost_cell, fromhost_cell, tohost_place, fromhost_place}
use Rattle.kernel_code.specs.Numbers.{v_before, v_seen, store_gates}
use Rattle.kernel_sim.specs.Phases.{kernel_kind, kind_of, kind_now, dword, text_after, scanned_after, phase_from, next_phase}
use Rattle.kernel_sim.specs.Stages.{Stage, Choosing, Saying, Said, stage_kind, stage_number, boot_number, Extra, InKernel, InBoot, InUser, HoldsAs, Known}
use Rattle.kernel_sim.specs.HostWrites.{HostWrite, Clears, Results, Answers, Fills, written}
use Rattle.kernel_sim.specs.Begins.{begun_hart}
use Rattle.kernel_sim.specs.Progress.{waits_by, is_waiting, goes_back, left_here, left_in, steps_left, Progress, Lowers, Runs, Waits, Passes, Puts, Ends}
use Rattle.kernel_sim.specs.Advance.{StepsLower, WritesLower, StepsBounded}
use Rattle.plain_machine.specs.UserStep.{UserStep, call, trap, user_step}
use Rattle.plain_machine.specs.UserStep as user_spec
use Rattle.kernel_sim.specs.UserMode.{user_of}
use Rattle.kernel_sim.proofs.Agreement.{user_steps_agree}
use Rattle.kernel_sim.proofs.UserSteps.{seen_by}
use Rattle.kernel_sim.proofs.Gates.{number_code, set_cell, set_reg, fact, all_st}
use Rattle.kernel_sim.proofs.PathLaws.{eight-fits}
use Rattle.kernel_sim.proofs.ChangeLaws.{few-scanned}
use Rattle.kernel_sim.proofs.MailLaws.{tries, is_bus_kept, return-step}
use Rattle.rv_alu.specs.Effects.{effect_of, bytes}
use Rattle.rv_alu.specs.declared.causes.Cause.TheVariants.{LoadAccess}
use Rattle.rv_alu.specs.declared.effects.Effect.TheVariants.{Load}
use Rattle.rv_alu.specs.declared.effects.Size.{Size}
use Rattle.rv_alu.specs.declared.effects.Size.TheVariants.{Byte}
use Rattle.rv_csr.specs.CsrTable.{csr_of}
use Rattle.rv_csr.specs.declared.privilege.Access.TheVariants.{Read}
use Rattle.rv_csr.specs.declared.privilege.Mode.TheVariants as mode
use Rattle.rv_decode.specs.declared.instruction.Insn.TheVariants.{Lbu}
use Rattle.rv_hart.specs.Accesses.{refused_byte}
use Rattle.rv_hart.specs.HartStep.{System, AreRegisters, hart_step, over, after_step, next_hart, unless, effect_step, trap_step, after_mret, counted_step}
use Rattle.rv_hart.specs.Laws.{IsSystem}
use Rattle.kernel_steps.specs.States.{State, Describes, OneDescribes}
use Rattle.kernel_steps.proofs.Tests.{blocks_all, blocks_all-at}
use Rattle.kernel_code.specs.Kinds.{may_follow}
use Rattle.kernel_code.specs.Kernel.{kernel, blocks}
use Rattle.proxy_kernel.specs.KernelWords.{kernel_insns}
use Rattle.kernel_code.specs.Calls.{call_blocks}
use Rattle.kernel_code.specs.TrapWords.{trap_blocks}
use Rattle.kernel_code.specs.CounterWords.{counter_blocks}
use Rattle.kernel_code.specs.Shorthand.{cells_0, cells_1, cells_2, cells_3, cells_4, cells_5, cells_6, cells_7, cells_8, cells_9, csrs_0, csrs_1, csrs_2}
use Rattle.kernel_sim.specs.declared.phase.PhaseKind.{PhaseKind}
use Rattle.kernel_sim.specs.declared.phase.PhaseKind.TheVariants.{Boot, BootWait, BootTake, Leave, User, Save, Check, Scan, Fill, Wait, Take, Local, Restore, Speak, Closing}
use Rattle.kernel_sim.specs.declared.phase.Phase.{Phase}
use Rattle.kernel_sim.specs.Holds.{Holds}
use Rattle.kernel_sim.specs.Steps.{follows}
use Rattle.kernel_sim.proofs.PlaceLaws.{kind-by-place, boot-by-place}
use Rattle.kernel_sim.proofs.PathLaws.{lbu-there}
use Rattle.kernel_sim.proofs.TrapLaws.{mret-there, leave-there}
use Rattle.kernel_sim.proofs.HostLaws.{shut-of, boot-shut}
use Rattle.kernel_sim.proofs.KeptLaws.{keeps_by, keeps-at}
use Rattle.kernel_sim.proofs.AdvanceLaws.{steps_advance}

-- ---- the tests: of the load of a word that is awaited, of its test, and of every other step
abbrev is_loaded : ℕ → ℕ → State → Bool
is_loaded test r t = t.at == test && same (reg t r) (Var v_before)

abbrev loads_ok : ℕ → ℕ → ℕ → State → Bool
loads_ok test r c u = state_avoids v_before u && tries false (successors kernel (set_cell u c (Var v_before))) (all_st (is_loaded test r))

abbrev goes_to : ℕ → ℕ → Bool
goes_to test at = not (loads_word at) && (not (tests_word at) && nat_lt (left_at at) (left_at test))

abbrev is_tested : ℕ → ℕ → ℕ → Bool → State → Bool
is_tested loads test c back t =
    same (get_or t.cells c Unknown) (Var v_before)
    && ((t.at == loads && has_fact (fact false (Var v_seen) (Lit 0) back) t.facts) || (goes_to test t.at && has_fact (fact false (Var v_seen) (Lit 0) (not back)) t.facts))

abbrev tests_ok : ℕ → ℕ → ℕ → ℕ → Bool → State → Bool
tests_ok loads test r c back u =
    (state_avoids v_before u && state_avoids v_seen u)
    && tries false (successors kernel (set_reg (set_cell u c (Var v_before)) r (Var v_seen))) (all_st (is_tested loads test c back))

abbrev load_at : State → Bool
load_at u =
    (u.at == pc_boot_wait && loads_ok pc_boot_test 1 fromhost_cell u)
    || ((u.at == pc_wait && loads_ok pc_wait_test 5 fromhost_cell u)
    || ((u.at == pc_put && loads_ok pc_put_test 6 tohost_cell u)
    || (u.at == pc_closing && loads_ok pc_closing_test 6 tohost_cell u)))

abbrev test_at : State → Bool
test_at u =
    (u.at == pc_boot_test && tests_ok pc_boot_wait pc_boot_test 1 fromhost_cell true u)
    || ((u.at == pc_wait_test && tests_ok pc_wait pc_wait_test 5 fromhost_cell true u)
    || ((u.at == pc_put_test && tests_ok pc_put pc_put_test 6 tohost_cell false u)
    || (u.at == pc_closing_test && tests_ok pc_closing pc_closing_test 6 tohost_cell false u)))

abbrev wait_by : Bool → Bool → State → Bool
wait_by true tests u = load_at u
wait_by false true u = test_at u
wait_by false false u = true

abbrev wait_ok : ℕ → State → Bool
wait_ok k u = elim (nat_le store_gates k || number_code k == 99) [ true ↦ true | false ↦ wait_by (loads_word u.at) (tests_word u.at) u ]

waits_right : blocks_all wait_ok kernel blocks ≡ true
unfolding kernel kernel_insns blocks call_blocks trap_blocks counter_blocks cells_0 cells_1 cells_2 cells_3 cells_4 cells_5 cells_6 cells_7 cells_8 cells_9 csrs_0 csrs_1 csrs_2 csr_of left_table
waits_right = refl

left_lowers : blocks_all lowers kernel blocks ≡ true
unfolding kernel kernel_insns blocks call_blocks trap_blocks counter_blocks cells_0 cells_1 cells_2 cells_3 cells_4 cells_5 cells_6 cells_7 cells_8 cells_9 csrs_0 csrs_1 csrs_2 csr_of left_table
left_lowers = refl

-- ---- the number
orb : {P : Type 0} (a b : Bool) → (a || b) ≡ true → (a ≡ true → P) → (b ≡ true → P) → P
orb true b e f g = f refl
orb false b e f g = g e

not-true : (b : Bool) → not b ≡ true → b ≡ false
not-true true e = sym e
not-true false e = refl

none-of : (a b c d x y z w : Bool) → (a || b || c || d) ≡ false → (if a then x else if b then y else if c then z else if d then w else false) ≡ false
none-of true b c d x y z w e = absurd (false≢true (sym e))
none-of false true c d x y z w e = absurd (false≢true (sym e))
none-of false false true d x y z w e = absurd (false≢true (sym e))
none-of false false false true x y z w e = absurd (false≢true (sym e))
none-of false false false false x y z w e = refl

no-test : (pc : ℕ) (registers : List ℕ) → tests_word pc ≡ false → goes_back pc registers ≡ false
no-test pc registers e = none-of (pc == pc_boot_test) (pc == pc_wait_test) (pc == pc_put_test) (pc == pc_closing_test) _ _ _ _ e

at-most : (k : PhaseKind) (n : ℕ) → left_in k n ≤ n
at-most User n = omega arith
at-most k n = omega arith

kept-in : (k : PhaseKind) (n : ℕ) → k ≢ User → left_in k n ≡ n
kept-in User n e = absurd (e refl)
kept-in k n e = refl

load-is : (waiting : Bool) (pc : ℕ) (registers : List ℕ) → loads_word pc ≡ true → left_here waiting pc registers ≡ (if waiting then left_at pc else left_at pc - 1)
load-is waiting pc registers e = rw e refl

else-is : (waiting back : Bool) (pc : ℕ) (registers : List ℕ) → loads_word pc ≡ false → goes_back pc registers ≡ back → left_here waiting pc registers ≡ (if back then left_at pc + 2 else left_at pc)
else-is waiting back pc registers e f = rw (e, f) refl

upper : (waiting : Bool) (pc : ℕ) (registers : List ℕ) → tests_word pc ≡ false → left_here waiting pc registers ≤ left_at pc
upper waiting pc registers e = go (loads_word pc) refl waiting
  where
    go : (b : Bool) → loads_word pc ≡ b → (w : Bool) → left_here w pc registers ≤ left_at pc
    go false f w = let q = else-is w false pc registers f (no-test pc registers e) in omega arith
    go true f true = let q = load-is true pc registers f in omega arith
    go true f false = let q = load-is false pc registers f in omega arith

bound-parts : (nat_le (left_at pc_save) 400 ≡ true) × (nat_le (left_at pc_put_done) 399 ≡ true) × (nat_le (left_at pc_path_passed) (left_at pc_path_test + 15) ≡ true)
unfolding left_table
bound-parts = (refl, refl, refl)

start-bound : left_at kernel_start ≤ 400
unfolding left_table
start-bound = omega arith

waits-apart : (left_at pc_boot_wait ≡ left_at pc_boot_test + 2) × (left_at pc_wait ≡ left_at pc_wait_test + 2) × (left_at pc_put ≡ left_at pc_put_test + 2) × (left_at pc_closing ≡ left_at pc_closing_test + 2)
unfolding left_table
waits-apart = (refl, refl, refl, refl)

-- ---- a load goes on, or traps
load-pc : (sys : System) (rd at bits after : ℕ) (z : Size) (x : Bool) → ((carried (Load rd z x at) bits after sys).hart.pc ≡ after) ⊎ ((carried (Load rd z x at) bits after sys).hart.pc ≡ sys.hart.csrs.mtvec)
unfolding effect_step trap_step
load-pc sys rd at bits after z x = go (refused_byte sys.hart.csrs sys.hart.mode Read at (bytes z)) _
  where
    go : (o : Option ℕ) (rs : List ℕ) → ((after_step sys (unless o LoadAccess (next_hart sys.bus (record sys.hart { pc = after; registers = rs })))).hart.pc ≡ after) ⊎ ((after_step sys (unless o LoadAccess (next_hart sys.bus (record sys.hart { pc = after; registers = rs })))).hart.pc ≡ sys.hart.csrs.mtvec)
    go None rs = inl refl
    go (Some b) rs = inr refl

-- and where it traps, it does so into machine mode
load-mode : (sys : System) (rd at bits after : ℕ) (z : Size) (x : Bool) → sys.hart.mode ≡ mode.Machine → (carried (Load rd z x at) bits after sys).hart.mode ≡ mode.Machine
unfolding effect_step trap_step
load-mode sys rd at bits after z x m = go (refused_byte sys.hart.csrs sys.hart.mode Read at (bytes z)) _
  where
    go : (o : Option ℕ) (rs : List ℕ) → (after_step sys (unless o LoadAccess (next_hart sys.bus (record sys.hart { pc = after; registers = rs })))).hart.mode ≡ mode.Machine
    go None rs = m
    go (Some b) rs = refl

-- ---- a step from a phase of a kind
module _ (p : Phase) (sys : System) (fit : AreRegisters sys.hart.registers) (whole : IsBus sys.bus) where
  abbrev next : System
  next = hart_step sys

  abbrev as_kind : PhaseKind → Phase
  as_kind k = record p { kind = k }

  abbrev after : PhaseKind → Phase
  after k = phase_from k (kind_now next) p next

  abbrev pub Goal : PhaseKind → Type 0
  Goal k = Progress (as_kind k) sys.hart (after k) next.hart

  abbrev old-left : PhaseKind → ℕ
  old-left k = steps_left sys.hart (as_kind k)

  abbrev new-left : PhaseKind → ℕ
  new-left k = steps_left next.hart (after k)

  old-plain : (k : PhaseKind) (back : Bool) → k ≢ User → loads_word sys.hart.pc ≡ false → goes_back sys.hart.pc sys.hart.registers ≡ back → old-left k ≡ (if back then left_at sys.hart.pc + 2 else left_at sys.hart.pc)
  old-plain k back u l t = kept-in k _ u ∙ else-is (is_waiting (as_kind k)) back sys.hart.pc sys.hart.registers l t

  new-upper : (k : PhaseKind) (at : ℕ) → next.hart.pc ≡ at → tests_word at ≡ false → new-left k ≤ left_at at
  new-upper k at e t =
      let a = at-most (kind_now next) (left_here (is_waiting (after k)) next.hart.pc next.hart.registers) in
      let b = upper (is_waiting (after k)) next.hart.pc next.hart.registers (ap tests_word e ∙ t) in
      let c = ap left_at e in
      omega arith

  -- ---- the waits
  load-case : (k : PhaseKind) (loads test : ℕ) (waiting : Bool) → k ≢ User → sys.hart.pc ≡ loads → next.hart.pc ≡ test → kind_now next ≡ k → waits_by k p.tohost p.fromhost ≡ waiting → goes_back test next.hart.registers ≡ waiting → loads_word loads ≡ true → loads_word test ≡ false → left_at loads ≡ left_at test + 2 → Goal k
  load-case k loads test waiting u at to now w back l t apart = go waiting w back
    where
      old : (b : Bool) → waits_by k p.tohost p.fromhost ≡ b → old-left k ≡ (if b then left_at loads else left_at loads - 1)
      old b e = kept-in k _ u ∙ load-is (waits_by k p.tohost p.fromhost) sys.hart.pc sys.hart.registers (ap loads_word at ∙ l) ∙ rw (e, at) refl

      new : (b : Bool) → goes_back test next.hart.registers ≡ b → new-left k ≤ (if b then left_at test + 2 else left_at test)
      new b e =
          let a = at-most (kind_now next) (left_here (is_waiting (after k)) next.hart.pc next.hart.registers) in
          let c = else-is (is_waiting (after k)) b next.hart.pc next.hart.registers (ap loads_word to ∙ t) (ap (λ z. goes_back z next.hart.registers) to ∙ e) in
          let d : (if b then left_at next.hart.pc + 2 else left_at next.hart.pc) ≡ (if b then left_at test + 2 else left_at test) = ap (λ z. if b then left_at z + 2 else left_at z) to in
          omega arith

      go : (b : Bool) → waits_by k p.tohost p.fromhost ≡ b → goes_back test next.hart.registers ≡ b → Goal k
      go true e f = let x = old true e in let y = new true f in Waits e (omega arith)
      go false e f = let x = old false e in let y = new false f in Lowers (omega arith)

  back-case : (k : PhaseKind) (loads test : ℕ) (waiting : Bool) → k ≢ User → sys.hart.pc ≡ test → next.hart.pc ≡ loads → kind_now next ≡ k → waits_by k p.tohost p.fromhost ≡ waiting → waits_by k (after k).tohost (after k).fromhost ≡ waiting → goes_back test sys.hart.registers ≡ true → loads_word loads ≡ true → loads_word test ≡ false → left_at loads ≡ left_at test + 2 → Goal k
  back-case k loads test waiting u at to now w v back l t apart = go waiting w v
    where
      old : old-left k ≡ left_at test + 2
      old = old-plain k true u (ap loads_word at ∙ t) (ap (λ z. goes_back z sys.hart.registers) at ∙ back) ∙ ap (λ z. left_at z + 2) at

      new : (b : Bool) → waits_by k (after k).tohost (after k).fromhost ≡ b → new-left k ≤ (if b then left_at loads else left_at loads - 1)
      new b e =
          let a = at-most (kind_now next) (left_here (is_waiting (after k)) next.hart.pc next.hart.registers) in
          let c = load-is (is_waiting (after k)) next.hart.pc next.hart.registers (ap loads_word to ∙ l) in
          let f : is_waiting (after k) ≡ b = ap (λ z. waits_by z (after k).tohost (after k).fromhost) now ∙ e in
          let d : (if is_waiting (after k) then left_at next.hart.pc else left_at next.hart.pc - 1) ≡ (if b then left_at loads else left_at loads - 1) = ap (λ z. if z then left_at next.hart.pc else left_at next.hart.pc - 1) f ∙ ap (λ z. if b then left_at z else left_at z - 1) to in
          omega arith

      go : (b : Bool) → waits_by k p.tohost p.fromhost ≡ b → waits_by k (after k).tohost (after k).fromhost ≡ b → Goal k
      go true e f = let x = old in let y = new true f in Waits e (omega arith)
      go false e f = let x = old in let y = new false f in Lowers (omega arith)

  on-case : (k : PhaseKind) (test : ℕ) → k ≢ User → sys.hart.pc ≡ test → goes_back test sys.hart.registers ≡ false → loads_word test ≡ false → goes_to test next.hart.pc ≡ true → Goal k
  on-case k test u at back t e =
      let a = and_parts (not (loads_word next.hart.pc)) (not (tests_word next.hart.pc) && nat_lt (left_at next.hart.pc) (left_at test)) e in
      let b = and_parts (not (tests_word next.hart.pc)) (nat_lt (left_at next.hart.pc) (left_at test)) a.1 in
      let l : left_at next.hart.pc < left_at test = below (left_at next.hart.pc) (left_at test) b.1 in
      let old : old-left k ≡ left_at test = old-plain k false u (ap loads_word at ∙ t) (ap (λ z. goes_back z sys.hart.registers) at ∙ back) ∙ ap left_at at in
      let new = new-upper k next.hart.pc refl (not-true (tests_word next.hart.pc) b.0) in
      Lowers (omega arith)
    where
      below : (x y : ℕ) → nat_lt x y ≡ true → x < y
      below x y q = grind (arith, nat_tests)

  -- what the kernel does there, in the words of its blocks
  module _ (user : List ℕ) (env : ℕ → ℕ) where
    abbrev word : System → ℕ → ℕ
    word z place = load z.bus.kernel place 8

    one-of : {P : Type 0} (to : ℕ → ℕ) (f : State → Bool) (ts : List State) → all_st f ts ≡ true → ((t : State) → f t ≡ true → Describes kernel user to t next → P) → OneDescribes kernel user to ts next → P
    one-of to f [] e g m = absurd m
    one-of to f (t ∷ ts) e g (inl m) = g t (then-l (f t) _ e) m
    one-of to f (t ∷ ts) e g (inr m) = one-of to f ts (then-r (f t) _ e) g m

    tried : (P : Type 0) (to : ℕ → ℕ) (u : State) (f : State → Bool) → tries false (successors kernel u) (all_st f) ≡ true → Describes kernel user to u sys → ((t : State) → f t ≡ true → Describes kernel user to t next → P) → P
    tried P to u f e m g = go (successors kernel u) refl e
      where
        go : (x : Option (List State)) → successors kernel u ≡ x → tries false x (all_st f) ≡ true → P
        go (Some ts) q r = one-of to f ts r g (led kernel user to may_follow blocks sys fit u ts _ refl q m)
        go None q r = absurd (false≢true r)

    abbrev env1 : ℕ → (ℕ → ℕ)
    env1 place = with_var env v_before (word sys place)

    abbrev env2 : ℕ → ℕ → (ℕ → ℕ)
    env2 place r = with_var (env1 place) v_seen (slice_index sys.hart.registers r)

    abbrev Loaded : ℕ → ℕ → ℕ → Type 0
    Loaded test r place = (next.hart.mode ≡ mode.Machine) × (next.hart.pc ≡ test) × (slice_index next.hart.registers r ≡ word sys place)

    load-step : (u : State) (test r c place : ℕ) → place ≡ kernel_code_size + 8 * c → loads_ok test r c u ≡ true → Describes kernel user env u sys → Loaded test r place
    load-step u test r c place at e m =
        let a = and_parts (state_avoids v_before u) (tries false (successors kernel (set_cell u c (Var v_before))) (all_st (is_loaded test r))) e in
        let m1 = fresh env v_before (word sys place) kernel user u sys a.0 (eight-fits sys.bus.kernel place whole.kernel_bytes) m in
        let m2 = learn_cell kernel user (env1 place) u sys c place (Var v_before) at refl m1 in
        tried (Loaded test r place) (env1 place) (set_cell u c (Var v_before)) (is_loaded test r) a.1 m2
        (λ t f n.
        let b = and_parts (t.at == test) (same (reg t r) (Var v_before)) f in
        (n.mode, n.at ∙ eqb-true t.at test b.0, subst (λ s. Is (env1 place) s (slice_index next.hart.registers r)) (same-path (reg t r) (Var v_before) b.1) (AllIs-get (env1 place) t.regs next.hart.registers r n.regs)))

    abbrev Tested : ℕ → ℕ → ℕ → ℕ → Bool → Type 0
    Tested loads test r place back =
        (next.hart.mode ≡ mode.Machine)
        × (word next place ≡ word sys place)
        × (((next.hart.pc ≡ loads) × ((slice_index sys.hart.registers r == 0) ≡ back)) ⊎ ((goes_to test next.hart.pc ≡ true) × ((slice_index sys.hart.registers r == 0) ≡ not back)))

    test-step : (u : State) (loads test r c place : ℕ) (back : Bool) → place ≡ kernel_code_size + 8 * c → tests_ok loads test r c back u ≡ true → Describes kernel user env u sys → Tested loads test r place back
    test-step u loads test r c place back at e m =
        let a = and_parts (state_avoids v_before u && state_avoids v_seen u) (tries false (successors kernel (set_reg (set_cell u c (Var v_before)) r (Var v_seen))) (all_st (is_tested loads test c back))) e in
        let b = and_parts (state_avoids v_before u) (state_avoids v_seen u) a.0 in
        let m1 = fresh env v_before (word sys place) kernel user u sys b.0 (eight-fits sys.bus.kernel place whole.kernel_bytes) m in
        let m2 = fresh (env1 place) v_seen (slice_index sys.hart.registers r) kernel user u sys b.1 (fit.fit r) m1 in
        let m3 = learn_cell kernel user (env2 place r) u sys c place (Var v_before) at refl m2 in
        let m4 = learn_reg kernel user (env2 place r) (set_cell u c (Var v_before)) sys r (Var v_seen) refl m3 in
        tried (Tested loads test r place back) (env2 place r) (set_reg (set_cell u c (Var v_before)) r (Var v_seen)) (is_tested loads test c back) a.1 m4 says
      where
        says : (t : State) → is_tested loads test c back t ≡ true → Describes kernel user (env2 place r) t next → Tested loads test r place back
        says t f n =
            let d = and_parts (same (get_or t.cells c Unknown) (Var v_before)) ((t.at == loads && has_fact (fact false (Var v_seen) (Lit 0) back) t.facts) || (goes_to test t.at && has_fact (fact false (Var v_seen) (Lit 0) (not back)) t.facts)) f in (
              n.mode,
              subst (λ s. Is (env2 place r) s (word next place)) (same-path (get_or t.cells c Unknown) (Var v_before) d.0) (CellsAre-get (env2 place r) t.cells next.bus.kernel kernel_code_size c place at n.memory.cells_are),
              orb (t.at == loads && has_fact (fact false (Var v_seen) (Lit 0) back) t.facts) (goes_to test t.at && has_fact (fact false (Var v_seen) (Lit 0) (not back)) t.facts) d.1
                  (λ g. let h = and_parts (t.at == loads) (has_fact (fact false (Var v_seen) (Lit 0) back) t.facts) g in inl (n.at ∙ eqb-true t.at loads h.0, has_fact-holds (env2 place r) (fact false (Var v_seen) (Lit 0) back) t.facts h.1 n.facts))
                  (λ g. let h = and_parts (goes_to test t.at) (has_fact (fact false (Var v_seen) (Lit 0) (not back)) t.facts) g in inr (subst (λ z. goes_to test z ≡ true) (sym n.at) h.0, has_fact-holds (env2 place r) (fact false (Var v_seen) (Lit 0) (not back)) t.facts h.1 n.facts)),
            )

    -- the place of a test of a word
    abbrev Words : Type 0
    Words = (p.tohost ≡ word sys tohost_place) × (p.fromhost ≡ word sys fromhost_place)

    tohost-next : dword next.bus tohost ≡ word next tohost_place
    tohost-next = bus_load-kernel next.bus tohost 8 (omega arith)

    fromhost-next : dword next.bus fromhost ≡ word next fromhost_place
    fromhost-next = bus_load-kernel next.bus fromhost 8 (omega arith)

    now-is : (k : PhaseKind) (at : ℕ) → next.hart.mode ≡ mode.Machine → next.hart.pc ≡ at → kernel_kind at ≡ k → kind_now next ≡ k
    now-is k at m e f = ap (λ z. kind_of z next.hart.pc) m ∙ ap kernel_kind e ∙ f

    places : (kernel_kind pc_boot_wait ≡ BootWait) × (kernel_kind pc_boot_test ≡ BootWait) × (kernel_kind pc_wait ≡ Wait) × (kernel_kind pc_wait_test ≡ Wait) × (kernel_kind pc_put ≡ Speak) × (kernel_kind pc_put_test ≡ Speak) × (kernel_kind pc_closing ≡ Closing) × (kernel_kind pc_closing_test ≡ Closing)
    unfolding kernel_kind
    places = (refl, refl, refl, refl, refl, refl, refl, refl)

    at-load : (u : State) → load_at u ≡ true → Words → Describes kernel user env u sys → Goal (kernel_kind u.at)
    at-load u e w m =
        let one = u.at == pc_boot_wait && loads_ok pc_boot_test 1 fromhost_cell u in
        let two = u.at == pc_wait && loads_ok pc_wait_test 5 fromhost_cell u in
        let three = u.at == pc_put && loads_ok pc_put_test 6 tohost_cell u in
        let four = u.at == pc_closing && loads_ok pc_closing_test 6 tohost_cell u in
        orb one (two || (three || four)) e boot
        (λ f. orb two (three || four) f wait
        (λ g. orb three four g put closing))
      where
        boot : (u.at == pc_boot_wait && loads_ok pc_boot_test 1 fromhost_cell u) ≡ true → Goal (kernel_kind u.at)
        boot q =
            let a = and_parts (u.at == pc_boot_wait) (loads_ok pc_boot_test 1 fromhost_cell u) q in
            let here = eqb-true u.at pc_boot_wait a.0 in
            let l = load-step u pc_boot_test 1 fromhost_cell fromhost_place refl a.1 m in
            subst Goal (sym (ap kernel_kind here ∙ places.0)) (load-case BootWait pc_boot_wait pc_boot_test (p.fromhost == 0) (λ z. cc) (m.at ∙ here) l.1 (now-is BootWait pc_boot_test l.0 l.1 places.1) refl (ap (λ z. z == 0) (l.2 ∙ sym w.1)) refl refl waits-apart.0)

        wait : (u.at == pc_wait && loads_ok pc_wait_test 5 fromhost_cell u) ≡ true → Goal (kernel_kind u.at)
        wait q =
            let a = and_parts (u.at == pc_wait) (loads_ok pc_wait_test 5 fromhost_cell u) q in
            let here = eqb-true u.at pc_wait a.0 in
            let l = load-step u pc_wait_test 5 fromhost_cell fromhost_place refl a.1 m in
            subst Goal (sym (ap kernel_kind here ∙ places.2)) (load-case Wait pc_wait pc_wait_test (p.fromhost == 0) (λ z. cc) (m.at ∙ here) l.1 (now-is Wait pc_wait_test l.0 l.1 places.3) refl (ap (λ z. z == 0) (l.2 ∙ sym w.1)) refl refl waits-apart.1)

        put : (u.at == pc_put && loads_ok pc_put_test 6 tohost_cell u) ≡ true → Goal (kernel_kind u.at)
        put q =
            let a = and_parts (u.at == pc_put) (loads_ok pc_put_test 6 tohost_cell u) q in
            let here = eqb-true u.at pc_put a.0 in
            let l = load-step u pc_put_test 6 tohost_cell tohost_place refl a.1 m in
            subst Goal (sym (ap kernel_kind here ∙ places.4)) (load-case Speak pc_put pc_put_test (not (p.tohost == 0)) (λ z. cc) (m.at ∙ here) l.1 (now-is Speak pc_put_test l.0 l.1 places.5) refl (ap (λ z. not (z == 0)) (l.2 ∙ sym w.0)) refl refl waits-apart.2)

        closing : (u.at == pc_closing && loads_ok pc_closing_test 6 tohost_cell u) ≡ true → Goal (kernel_kind u.at)
        closing q =
            let a = and_parts (u.at == pc_closing) (loads_ok pc_closing_test 6 tohost_cell u) q in
            let here = eqb-true u.at pc_closing a.0 in
            let l = load-step u pc_closing_test 6 tohost_cell tohost_place refl a.1 m in
            subst Goal (sym (ap kernel_kind here ∙ places.6)) (load-case Closing pc_closing pc_closing_test (not (p.tohost == 0)) (λ z. cc) (m.at ∙ here) l.1 (now-is Closing pc_closing_test l.0 l.1 places.7) refl (ap (λ z. not (z == 0)) (l.2 ∙ sym w.0)) refl refl waits-apart.3)

    -- behind a test
    went : (k : PhaseKind) (loads test r place : ℕ) (back waiting : Bool) → k ≢ User → sys.hart.pc ≡ test → kernel_kind loads ≡ k → waits_by k p.tohost p.fromhost ≡ waiting → (word next place ≡ word sys place → waits_by k (after k).tohost (after k).fromhost ≡ waiting)
        → ((slice_index sys.hart.registers r == 0) ≡ back → goes_back test sys.hart.registers ≡ true) → ((slice_index sys.hart.registers r == 0) ≡ not back → goes_back test sys.hart.registers ≡ false) → loads_word loads ≡ true → loads_word test ≡ false → left_at loads ≡ left_at test + 2 → Tested loads test r place back → Goal k
    went k loads test r place back waiting u at kind w v yes_back no_back l t apart r3 = go r3.2
      where
        go : ((next.hart.pc ≡ loads) × ((slice_index sys.hart.registers r == 0) ≡ back)) ⊎ ((goes_to test next.hart.pc ≡ true) × ((slice_index sys.hart.registers r == 0) ≡ not back)) → Goal k
        go (inl q) = back-case k loads test waiting u at q.0 (now-is k loads r3.0 q.0 kind) w (v r3.1) (yes_back q.1) l t apart
        go (inr q) = on-case k test u at (no_back q.1) t q.0

    at-test : (u : State) → test_at u ≡ true → Words → Describes kernel user env u sys → Goal (kernel_kind u.at)
    at-test u e w m =
        let one = u.at == pc_boot_test && tests_ok pc_boot_wait pc_boot_test 1 fromhost_cell true u in
        let two = u.at == pc_wait_test && tests_ok pc_wait pc_wait_test 5 fromhost_cell true u in
        let three = u.at == pc_put_test && tests_ok pc_put pc_put_test 6 tohost_cell false u in
        let four = u.at == pc_closing_test && tests_ok pc_closing pc_closing_test 6 tohost_cell false u in
        orb one (two || (three || four)) e boot
        (λ f. orb two (three || four) f wait
        (λ g. orb three four g put closing))
      where
        boot : (u.at == pc_boot_test && tests_ok pc_boot_wait pc_boot_test 1 fromhost_cell true u) ≡ true → Goal (kernel_kind u.at)
        boot q =
            let a = and_parts (u.at == pc_boot_test) (tests_ok pc_boot_wait pc_boot_test 1 fromhost_cell true u) q in
            let here = eqb-true u.at pc_boot_test a.0 in
            let l = test-step u pc_boot_wait pc_boot_test 1 fromhost_cell fromhost_place true refl a.1 m in
            subst Goal (sym (ap kernel_kind here ∙ places.1)) (went BootWait pc_boot_wait pc_boot_test 1 fromhost_place true (p.fromhost == 0) (λ z. cc) (m.at ∙ here) places.0 refl (λ z. ap (λ y. y == 0) (fromhost-next ∙ z ∙ sym w.1)) (λ z. z) (λ z. z) refl refl waits-apart.0 l)

        wait : (u.at == pc_wait_test && tests_ok pc_wait pc_wait_test 5 fromhost_cell true u) ≡ true → Goal (kernel_kind u.at)
        wait q =
            let a = and_parts (u.at == pc_wait_test) (tests_ok pc_wait pc_wait_test 5 fromhost_cell true u) q in
            let here = eqb-true u.at pc_wait_test a.0 in
            let l = test-step u pc_wait pc_wait_test 5 fromhost_cell fromhost_place true refl a.1 m in
            subst Goal (sym (ap kernel_kind here ∙ places.3)) (went Wait pc_wait pc_wait_test 5 fromhost_place true (p.fromhost == 0) (λ z. cc) (m.at ∙ here) places.2 refl (λ z. ap (λ y. y == 0) (fromhost-next ∙ z ∙ sym w.1)) (λ z. z) (λ z. z) refl refl waits-apart.1 l)

        put : (u.at == pc_put_test && tests_ok pc_put pc_put_test 6 tohost_cell false u) ≡ true → Goal (kernel_kind u.at)
        put q =
            let a = and_parts (u.at == pc_put_test) (tests_ok pc_put pc_put_test 6 tohost_cell false u) q in
            let here = eqb-true u.at pc_put_test a.0 in
            let l = test-step u pc_put pc_put_test 6 tohost_cell tohost_place false refl a.1 m in
            subst Goal (sym (ap kernel_kind here ∙ places.5)) (went Speak pc_put pc_put_test 6 tohost_place false (not (p.tohost == 0)) (λ z. cc) (m.at ∙ here) places.4 refl (λ z. ap (λ y. not (y == 0)) (tohost-next ∙ z ∙ sym w.0)) (λ z. ap not z) (λ z. ap not z) refl refl waits-apart.2 l)

        closing : (u.at == pc_closing_test && tests_ok pc_closing pc_closing_test 6 tohost_cell false u) ≡ true → Goal (kernel_kind u.at)
        closing q =
            let a = and_parts (u.at == pc_closing_test) (tests_ok pc_closing pc_closing_test 6 tohost_cell false u) q in
            let here = eqb-true u.at pc_closing_test a.0 in
            let l = test-step u pc_closing pc_closing_test 6 tohost_cell tohost_place false refl a.1 m in
            subst Goal (sym (ap kernel_kind here ∙ places.7)) (went Closing pc_closing pc_closing_test 6 tohost_place false (not (p.tohost == 0)) (λ z. cc) (m.at ∙ here) places.6 refl (λ z. ap (λ y. not (y == 0)) (tohost-next ∙ z ∙ sym w.0)) (λ z. ap not z) (λ z. ap not z) refl refl waits-apart.3 l)

  -- ---- every other step
  abbrev Few : PhaseKind → Type 0
  Few k = (k ≡ Speak → p.text.posted < 400) × (k ≡ Scan → p.scanned ≤ greatest_path)

  below : (x y : ℕ) → nat_lt x y ≡ true → x < y
  below x y q = grind (arith, nat_tests)

  at-least : (x y : ℕ) → nat_le x y ≡ true → x ≤ y
  at-least x y q = grind (arith, nat_tests)

  lower-case : (k : PhaseKind) (a b : ℕ) → k ≢ User → sys.hart.pc ≡ a → next.hart.pc ≡ b → loads_word a ≡ false → tests_word a ≡ false → tests_word b ≡ false → left_at b < left_at a → Goal k
  lower-case k a b u at to l t s lt =
      let old : old-left k ≡ left_at a = old-plain k false u (ap loads_word at ∙ l) (no-test sys.hart.pc sys.hart.registers (ap tests_word at ∙ t)) ∙ ap left_at at in
      let new = new-upper k b to s in
      Lowers (omega arith)

  puts-case : (k : PhaseKind) → kernel_kind pc_put_store ≡ k → k ≢ User → Few k → next.hart.mode ≡ mode.Machine → next.hart.pc ≡ pc_put_done → Goal k
  unfolding kernel_kind
  puts-case k kind u few m to =
      let new = new-upper k pc_put_done to refl in
      let c = at-least _ _ bound-parts.1 in
      let now : kind_now next ≡ Speak = ap (λ z. kind_of z next.hart.pc) m ∙ ap kernel_kind to in
      let l = few.0 (sym kind) in
      let one : min (p.text.posted + 1) (2 ^ 32 - 1) ≡ p.text.posted + 1 = omega arith in
      Puts (subst (λ z. (text_after z (kind_now next) p next.hart).posted ≡ p.text.posted + 1) kind (subst (λ z. (text_after Speak z p next.hart).posted ≡ p.text.posted + 1) (sym now) (rw to one))) (omega arith)

  passes-case : (k : PhaseKind) → kernel_kind pc_path_test ≡ k → k ≢ User → Few k → next.hart.mode ≡ mode.Machine → sys.hart.pc ≡ pc_path_test → next.hart.pc ≡ pc_path_passed → Goal k
  unfolding kernel_kind
  passes-case k kind u few m at to =
      let old : old-left k ≡ left_at pc_path_test = old-plain k false u (ap loads_word at) (no-test sys.hart.pc sys.hart.registers (ap tests_word at)) ∙ ap left_at at in
      let new = new-upper k pc_path_passed to refl in
      let c = at-least _ _ bound-parts.2 in
      let now : kind_now next ≡ Scan = ap (λ z. kind_of z next.hart.pc) m ∙ ap kernel_kind to in
      let l = few.1 (sym kind) in
      let one : min (p.scanned + 1) (2 ^ 32 - 1) ≡ p.scanned + 1 = omega arith in
      Passes (subst (λ z. scanned_after z (kind_now next) p.scanned next.hart.pc ≡ p.scanned + 1) kind (subst (λ z. scanned_after Scan z p.scanned next.hart.pc ≡ p.scanned + 1) (sym now) (rw to one))) (omega arith)

  other-case : (k : PhaseKind) (a b : ℕ) → kernel_kind a ≡ k → k ≢ User → Few k → next.hart.mode ≡ mode.Machine → sys.hart.pc ≡ a → next.hart.pc ≡ b → loads_word a ≡ false → tests_word a ≡ false → is_lower a b ≡ true → Goal k
  other-case k a b kind u few m at to l t e =
      let f = and_parts (not (tests_word b)) (is_left_out a b || nat_lt (left_at b) (left_at a)) e in
      orb (is_left_out a b) (nat_lt (left_at b) (left_at a)) f.1
      (λ g. orb (a == pc_put_store && b == pc_put_done || a == pc_path_test && b == pc_path_passed) (a == pc_idle && b == pc_idle) g
      (λ h. orb (a == pc_put_store && b == pc_put_done) (a == pc_path_test && b == pc_path_passed) h
      (λ q. let r = and_parts (a == pc_put_store) (b == pc_put_done) q in puts-case k (sym (ap kernel_kind (eqb-true a pc_put_store r.0)) ∙ kind) u few m (to ∙ eqb-true b pc_put_done r.1))
      (λ q. let r = and_parts (a == pc_path_test) (b == pc_path_passed) q in passes-case k (sym (ap kernel_kind (eqb-true a pc_path_test r.0)) ∙ kind) u few m (at ∙ eqb-true a pc_path_test r.0) (to ∙ eqb-true b pc_path_passed r.1)))
      (λ q. let r = and_parts (a == pc_idle) (b == pc_idle) q in Ends (at ∙ eqb-true a pc_idle r.0) (to ∙ eqb-true b pc_idle r.1)))
      (λ g. lower-case k a b u at to l t (not-true (tests_word b) f.0) (below _ _ g))

  -- MRET leads to the program, where no step is left
  left-case : (k : PhaseKind) (a : ℕ) → k ≢ User → sys.hart.pc ≡ a → loads_word a ≡ false → tests_word a ≡ false → 0 < left_at a → next.hart.mode ≡ mode.User → Goal k
  left-case k a u at l t some m =
      let old : old-left k ≡ left_at a = old-plain k false u (ap loads_word at ∙ l) (no-test sys.hart.pc sys.hart.registers (ap tests_word at ∙ t)) ∙ ap left_at at in
      let now : kind_now next ≡ User = ap (λ z. kind_of z next.hart.pc) m in
      let new : new-left k ≡ 0 = ap (λ z. left_in z (left_here (waits_by z (after k).tohost (after k).fromhost) next.hart.pc next.hart.registers)) now in
      Lowers (omega arith)

  module _ (user : List ℕ) (env : ℕ → ℕ) where
    all-progress : (k : PhaseKind) (u : State) (ts : List State) → kernel_kind u.at ≡ k → k ≢ User → Few k → sys.hart.pc ≡ u.at → loads_word u.at ≡ false → tests_word u.at ≡ false → all_lower u.at ts ≡ true → OneDescribes kernel user env ts next → Goal k
    all-progress k u [] kind n few at l t e m = absurd m
    all-progress k u (s ∷ ts) kind n few at l t e (inl m) = other-case k u.at s.at kind n few m.mode at m.at l t (then-l _ _ e)
    all-progress k u (s ∷ ts) kind n few at l t e (inr m) = all-progress k u ts kind n few at l t (then-r (is_lower u.at s.at) _ e) m

    -- where the step is left open: the load of a path's byte goes on, and MRET leads to user mode
    opened : (k : PhaseKind) (u : State) → kernel_kind u.at ≡ k → k ≢ User → follows k (kind_now next) ≡ true → is_bus_kept u ≡ true → Describes kernel user env u sys → Goal k
    unfolding effect_of kernel_kind after_mret left_table
    opened k u kind n order e m = orb (u.at == pc_path_load && same u.csrs.tvec (Lit pc_save)) (u.at == pc_return || u.at == pc_leave_return) e looks
        (λ q. orb (u.at == pc_return) (u.at == pc_leave_return) q
        (λ r. left-user pc_return (eqb-true u.at pc_return r) refl refl (omega arith) (return-step user env sys fit pc_return u m (eqb-true u.at pc_return r) mret-there))
        (λ r. left-user pc_leave_return (eqb-true u.at pc_leave_return r) refl refl (omega arith) (return-step user env sys fit pc_leave_return u m (eqb-true u.at pc_leave_return r) leave-there)))
      where
        left-user : (a : ℕ) → u.at ≡ a → loads_word a ≡ false → tests_word a ≡ false → 0 < left_at a → next ≡ over sys.bus (after_mret sys.hart) → Goal k
        left-user a here l t some f = left-case k a n (m.at ∙ here) l t some (ap (λ z. z.hart.mode) f ∙ m.csrs.mpp)

        looks : (u.at == pc_path_load && same u.csrs.tvec (Lit pc_save)) ≡ true → Goal k
        looks q =
            let a = and_parts (u.at == pc_path_load) (same u.csrs.tvec (Lit pc_save)) q in
            let here : u.at ≡ pc_path_load = eqb-true u.at pc_path_load a.0 in
            let tvec : sys.hart.csrs.mtvec ≡ pc_save = subst (λ z. Is env z sys.hart.csrs.mtvec) (same-path u.csrs.tvec (Lit pc_save) a.1) m.csrs.tvec in
            let after_is : (sys.hart.pc + 4) % 2 ^ 64 ≡ pc_path_loaded = let w = m.at in omega arith in
            let d = fetched kernel user env u sys m fit (Lbu 5 5 (pos 0)) (ap (λ z. fetch kernel z) here ∙ lbu-there) in
            by here (load-pc sys 5 _ _ ((sys.hart.pc + 4) % 2 ^ 64) Byte false) (ap (λ z. z.hart.pc) d) after_is tvec (ap (λ z. z.hart.mode) d ∙ load-mode sys 5 _ _ ((sys.hart.pc + 4) % 2 ^ 64) Byte false m.mode)
          where
            by : {x y : ℕ} → u.at ≡ pc_path_load → (x ≡ y) ⊎ (x ≡ sys.hart.csrs.mtvec) → next.hart.pc ≡ x → y ≡ pc_path_loaded → sys.hart.csrs.mtvec ≡ pc_save → next.hart.mode ≡ mode.Machine → Goal k
            by here (inl f) d g t machine = lower-case k pc_path_load pc_path_loaded n (m.at ∙ here) (d ∙ f ∙ g) refl refl refl (omega arith)
            by here (inr f) d g t machine =
                let now : kind_now next ≡ Save = ap (λ z. kind_of z next.hart.pc) machine ∙ ap kernel_kind (d ∙ f ∙ t) in
                let was : k ≡ Scan = sym kind ∙ ap kernel_kind here in
                absurd (false≢true (subst (λ z. follows z Save ≡ true) was (subst (λ z. follows k z ≡ true) now order)))

    here-progress : (k : PhaseKind) (n : ℕ) → (w : Here kernel user env blocks n sys) → (nat_le store_gates n || number_code n == 99) ≡ false → kernel_kind w.state.at ≡ k → k ≢ User → Few k → Words user env → follows k (kind_now next) ≡ true → keeps_by w.state (successors kernel w.state) ≡ true → Goal k
    here-progress k n w shut kind u few words order e = go (loads_word w.state.at) (tests_word w.state.at) refl refl waits (blocks_all-at lowers kernel blocks w.block w.state left_lowers w.among w.on)
      where
        pick : (x : Bool) → x ≡ false → ◌≡◌ {A = Bool} (elim x [ true ↦ true | false ↦ wait_by (loads_word w.state.at) (tests_word w.state.at) w.state ]) true → wait_by (loads_word w.state.at) (tests_word w.state.at) w.state ≡ true
        pick true q r = absurd (false≢true (sym q))
        pick false q r = r

        waits : wait_by (loads_word w.state.at) (tests_word w.state.at) w.state ≡ true
        waits = pick (nat_le store_gates n || number_code n == 99) shut (subst (λ z. wait_ok z w.state ≡ true) w.kind (blocks_all-at wait_ok kernel blocks w.block w.state waits_right w.among w.on))

        plain : (o : Option (List State)) → successors kernel w.state ≡ o → keeps_by w.state o ≡ true → loads_word w.state.at ≡ false → tests_word w.state.at ≡ false → may_end (successors kernel w.state) w.state.at ≡ true → Goal k
        plain (Some ts) q r l t f = all-progress k w.state ts kind u few w.describes.at l t (subst (λ z. may_end z w.state.at ≡ true) q f) (led kernel user env may_follow blocks sys fit w.state ts _ refl q w.describes)
        plain None q r l t f = opened k w.state kind u order r w.describes

        go : (l t : Bool) → loads_word w.state.at ≡ l → tests_word w.state.at ≡ t → wait_by l t w.state ≡ true → ◌≡◌ {A = Bool} (elim (l || t) [ true ↦ true | false ↦ may_end (successors kernel w.state) w.state.at ]) true → Goal k
        go true t p1 p2 f g = subst Goal kind (at-load user env w.state f words w.describes)
        go false true p1 p2 f g = subst Goal kind (at-test user env w.state f words w.describes)
        go false false p1 p2 f g = plain (successors kernel w.state) refl e p1 p2 g

-- ---- the law
module _ (p : Phase) (sys : System) (fit : AreRegisters sys.hart.registers) (whole : IsBus sys.bus) where
  few-posted : InKernel Speak p sys → p.text.posted < 400
  few-posted i = go i.stage i.staged i.extra
    where
      go : (st : Stage) → stage_kind st ≡ Speak → Extra st p i.user i.env → p.text.posted < 400
      go Choosing e x = let z = x.1 in omega arith
      go (Saying c t) e x = let z = x.2 in let y = x.3 in omega arith
      go (Said c t) e x = let z = x.2 in let y = x.3 in omega arith
      go st e x = cc

  words : (k : PhaseKind) → HoldsAs k p sys → (p.tohost ≡ load sys.bus.kernel tohost_place 8) × (p.fromhost ≡ load sys.bus.kernel fromhost_place 8)
  words k h = (h.tohost_is ∙ bus_load-kernel sys.bus tohost 8 (omega arith), h.fromhost_is ∙ bus_load-kernel sys.bus fromhost 8 (omega arith))

  in-kernel : (k : PhaseKind) → k ≢ User → InKernel k p sys → (p.tohost ≡ load sys.bus.kernel tohost_place 8) × (p.fromhost ≡ load sys.bus.kernel fromhost_place 8) → (k ≡ Speak → p.text.posted < 400) × (k ≡ Scan → p.scanned ≤ greatest_path) → follows k (kind_now (hart_step sys)) ≡ true → Goal p sys fit whole k
  in-kernel k n i w few order =
      let kind : kernel_kind i.here.state.at ≡ k = ap kernel_kind (sym i.here.describes.at) ∙ sym (ap (λ z. kind_of z sys.hart.pc) i.here.describes.mode) ∙ kind-by-place i.user i.env i.stage sys i.here ∙ i.staged in
      let shut = shut-of i.stage p i.user i.env i.extra in
      here-progress p sys fit whole i.user i.env k (stage_number i.stage) i.here shut kind n few w order (keeps-at i.user i.env sys (stage_number i.stage) shut i.here)

  in-boot : (k : PhaseKind) → k ≢ User → k ≢ Speak → k ≢ Scan → InBoot k p sys → (p.tohost ≡ load sys.bus.kernel tohost_place 8) × (p.fromhost ≡ load sys.bus.kernel fromhost_place 8) → follows k (kind_now (hart_step sys)) ≡ true → Goal p sys fit whole k
  in-boot k n a b i w order =
      let kind : kernel_kind i.here.state.at ≡ k = ap kernel_kind (sym i.here.describes.at) ∙ sym (ap (λ z. kind_of z sys.hart.pc) i.here.describes.mode) ∙ boot-by-place i.user i.env i.stage sys i.here ∙ i.staged in
      here-progress p sys fit whole i.user i.env k (boot_number i.stage) i.here (boot-shut i.stage) kind n (λ z. absurd (a z), λ z. absurd (b z)) w order (keeps-at i.user i.env sys (boot_number i.stage) (boot-shut i.stage) i.here)

  -- the program traps to where the registers are saved
  in-user : InUser p sys → follows User (kind_now (hart_step sys)) ≡ true → Goal p sys fit whole User
  unfolding trap_step
  in-user u order = Runs refl (go (user_step (user_of sys)) refl)
    where
      step : hart_step sys ≡ seen_by (user_step (user_of sys)) (over sys.bus (counted_step mode.User sys.hart))
      step = user_steps_agree sys u.run u.user_mode u.fenced

      at-save : (z : System) → hart_step sys ≡ z → z.hart.pc ≡ sys.hart.csrs.mtvec → new-left p sys fit whole User ≤ 400
      at-save z e f =
          let new = new-upper p sys fit whole User pc_save (ap (λ y. y.hart.pc) e ∙ f ∙ u.handler_is) refl in
          let c = at-least p sys fit whole _ _ bound-parts.0 in
          omega arith

      go : (r : UserStep) → user_step (user_of sys) ≡ r → new-left p sys fit whole User ≤ 400
      go (user_spec.next st) q =
          let now : kind_now (hart_step sys) ≡ User = ap (λ z. kind_of z (hart_step sys).hart.pc) (ap (λ z. z.hart.mode) (step ∙ ap (λ z. seen_by z (over sys.bus (counted_step mode.User sys.hart))) q) ∙ u.user_mode) in
          let new : new-left p sys fit whole User ≡ 0 = ap (λ z. left_in z (left_here (waits_by z (dword (hart_step sys).bus tohost) (dword (hart_step sys).bus fromhost)) (hart_step sys).hart.pc (hart_step sys).hart.registers)) now in
          omega arith
      go call q = at-save _ (step ∙ ap (λ z. seen_by z (over sys.bus (counted_step mode.User sys.hart))) q) refl
      go (trap c v) q = at-save _ (step ∙ ap (λ z. seen_by z (over sys.bus (counted_step mode.User sys.hart))) q) refl

  by-kind : (k : PhaseKind) → HoldsAs k p sys → follows k (kind_now (hart_step sys)) ≡ true → Goal p sys fit whole k
  by-kind User h o = in-user h.place o
  by-kind Boot h o = in-boot Boot (λ z. cc) (λ z. cc) (λ z. cc) h.place (words Boot h) o
  by-kind BootWait h o = in-boot BootWait (λ z. cc) (λ z. cc) (λ z. cc) h.place (words BootWait h) o
  by-kind BootTake h o = in-boot BootTake (λ z. cc) (λ z. cc) (λ z. cc) h.place (words BootTake h) o
  by-kind Leave h o = in-boot Leave (λ z. cc) (λ z. cc) (λ z. cc) h.place (words Leave h) o
  by-kind Save h o = in-kernel Save (λ z. cc) h.place (words Save h) (λ z. cc, λ z. cc) o
  by-kind Check h o = in-kernel Check (λ z. cc) h.place (words Check h) (λ z. cc, λ z. cc) o
  by-kind Scan h o = in-kernel Scan (λ z. cc) h.place (words Scan h) (λ z. cc, λ z. few-scanned p sys h.place) o
  by-kind Fill h o = in-kernel Fill (λ z. cc) h.place (words Fill h) (λ z. cc, λ z. cc) o
  by-kind Wait h o = in-kernel Wait (λ z. cc) h.place (words Wait h) (λ z. cc, λ z. cc) o
  by-kind Take h o = in-kernel Take (λ z. cc) h.place (words Take h) (λ z. cc, λ z. cc) o
  by-kind Local h o = in-kernel Local (λ z. cc) h.place (words Local h) (λ z. cc, λ z. cc) o
  by-kind Restore h o = in-kernel Restore (λ z. cc) h.place (words Restore h) (λ z. cc, λ z. cc) o
  by-kind Speak h o = in-kernel Speak (λ z. cc) h.place (words Speak h) (λ z. few-posted h.place, λ z. cc) o
  by-kind Closing h o = in-kernel Closing (λ z. cc) h.place (words Closing h) (λ z. cc, λ z. cc) o

known-holds : (p : Phase) (sys : System) → Known p sys → HoldsAs p.kind p sys
unfolding Known
known-holds p sys h = h.0

pub steps_lower : StepsLower
steps_lower p sys h s = by-kind p sys s.hart_fits.registers_fit s.bus_fits p.kind (known-holds p sys h.known) (steps_advance p sys h s).1.order

-- the same of a step that was made and a phase that was computed
pub made_progress : (p q : Phase) (sys new : System) → Holds p sys → IsSystem sys → new ≡ hart_step sys → q ≡ next_phase p new → Progress p sys.hart q new.hart
made_progress p q sys new h s e f = subst (λ z. Progress p sys.hart z new.hart) (sym f) (subst (λ z. Progress p sys.hart (next_phase p z) z.hart) (sym e) (steps_lower p sys h s))

-- ---- the writes of the host
left-falls : (k : PhaseKind) (a b : Bool) (pc : ℕ) (registers : List ℕ) → (b ≡ true → a ≡ true) → left_in k (left_here b pc registers) ≤ left_in k (left_here a pc registers)
left-falls k a b pc registers f = go k
  where
    here : (l : Bool) (a b : Bool) → (b ≡ true → a ≡ true) → (if l then (if b then left_at pc else left_at pc - 1) else if goes_back pc registers then left_at pc + 2 else left_at pc) ≤ (if l then (if a then left_at pc else left_at pc - 1) else if goes_back pc registers then left_at pc + 2 else left_at pc)
    here false a b f = omega arith
    here true true true f = omega arith
    here true true false f = omega arith
    here true false false f = omega arith
    here true false true f = absurd (false≢true (f refl))

    go : (k : PhaseKind) → left_in k (left_here b pc registers) ≤ left_in k (left_here a pc registers)
    go User = omega arith
    go k = here (loads_word pc) a b f

cleared : (k : PhaseKind) (t f v : ℕ) → v ≡ 0 → waits_by k v f ≡ true → waits_by k t f ≡ true
cleared Speak t f v z e = absurd (false≢true (ap (λ y. not (y == 0)) (sym z) ∙ e))
cleared Closing t f v z e = absurd (false≢true (ap (λ y. not (y == 0)) (sym z) ∙ e))
cleared k t f v z e = e

come : (k : PhaseKind) (t f v : ℕ) → v ≢ 0 → waits_by k t v ≡ true → waits_by k t f ≡ true
come BootWait t f v n e = absurd (n (eqb-true v 0 e))
come Wait t f v n e = absurd (n (eqb-true v 0 e))
come k t f v n e = e

module _ (p : Phase) (at value : ℕ) where
  clears : HostWrite at value p → at ≡ tohost → value ≡ 0
  clears (Clears e z) q = z
  clears (Results e c) q = absurd (omega arith)
  clears (Answers e n c t f) q = absurd (omega arith)
  clears (Fills l h c) q = absurd (omega arith)

  answers : HostWrite at value p → at ≡ fromhost → value ≢ 0
  answers (Clears e z) q = absurd (omega arith)
  answers (Results e c) q = absurd (omega arith)
  answers (Answers e n c t f) q = n
  answers (Fills l h c) q = absurd (omega arith)

  waits-on : HostWrite at value p → is_waiting (written at value p) ≡ true → is_waiting p ≡ true
  waits-on w = go (at == tohost) (at == fromhost) (at == request) refl refl
    where
      go : (a b c : Bool) → (at == tohost) ≡ a → (at == fromhost) ≡ b → is_waiting (if a then record p { tohost = value } else (if b then record p { fromhost = value } else (if c then record p { request = slice_set p.request 0 value } else p))) ≡ true → is_waiting p ≡ true
      go true b c x y e = cleared p.kind p.tohost p.fromhost value (clears w (eqb-true at tohost x)) e
      go false true c x y e = come p.kind p.tohost p.fromhost value (answers w (eqb-true at fromhost y)) e
      go false false true x y e = e
      go false false false x y e = e

  same-kind : (written at value p).kind ≡ p.kind
  same-kind = go (at == tohost) (at == fromhost) (at == request)
    where
      go : (a b c : Bool) → (if a then record p { tohost = value } else (if b then record p { fromhost = value } else (if c then record p { request = slice_set p.request 0 value } else p))).kind ≡ p.kind
      go true b c = refl
      go false true c = refl
      go false false true = refl
      go false false false = refl

pub writes_lower : WritesLower
writes_lower p hart at value w =
    subst (λ z. left_in z (left_here (is_waiting (written at value p)) hart.pc hart.registers) ≤ steps_left hart p) (sym (same-kind p at value))
    (left-falls p.kind (is_waiting p) (is_waiting (written at value p)) hart.pc hart.registers (waits-on p at value w))

pub bounds_hold : StepsBounded
bounds_hold p =
    let a = at-most p.kind (left_here (is_waiting p) begun_hart.pc begun_hart.registers) in
    let b = upper (is_waiting p) begun_hart.pc begun_hart.registers refl in
    let c = start-bound in
    omega arith
