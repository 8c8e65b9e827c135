-- TOHOST between its load and the store to it, and what is stored there.
use Rattle.std.proofs.Common.{◌≡◌, pos, ◌%◌, ℕ, ◌+◌, ◌^◌, ◌==◌, Bool, true, false, ◌&&◌, ◌||◌, inl, inr, Option, Some, None, List, [], ◌∷◌, get_or, refl, ap, sym, subst, ◌∙◌, arith}
use Rattle.std.specs.Prelude.{nat_le, not, slice_index}
use Rattle.std.proofs.lemmas.Bool.{false≢true, eqb-true, and_parts}
use Rattle.rv_csr.specs.CsrTable.{csr_of}
use Rattle.rv_csr.specs.declared.privilege.Mode.TheVariants as mode
use Rattle.rv_hart.specs.HartStep.{System, AreRegisters, hart_step, over, unless, effect_step, after_step, next_hart, trap_step, after_mret}
use Rattle.rv_hart.specs.Accesses.{refused_byte}
use Rattle.rv_alu.specs.declared.causes.Cause.TheVariants.{LoadAccess}
use Rattle.rv_csr.specs.declared.privilege.Access.TheVariants.{Read}
use Rattle.rv_decode.specs.declared.instruction.Insn.TheVariants.{Lbu, Mret}
use Rattle.rv_alu.specs.Effects.{effect_of, bytes}
use Rattle.rv_alu.specs.declared.effects.Effect.TheVariants.{Load}
use Rattle.rv_alu.specs.declared.effects.Size.{Size}
use Rattle.rv_alu.specs.declared.effects.Size.TheVariants.{Byte}
use Rattle.guest_memory.specs.Memory.{load}
use Rattle.guest_memory.specs.Bus.{IsBus}
use Rattle.kernel_steps.specs.Terms.{Lit, Var, Unknown, Is}
use Rattle.kernel_steps.specs.States.{State, Describes, OneDescribes}
use Rattle.kernel_steps.specs.Successors.{reg, fetch, successors}
use Rattle.kernel_steps.specs.Blocks.{Here, same, has_fact}
use Rattle.kernel_code.specs.Kinds.{may_follow}
use Rattle.kernel_code.specs.Kernel.{kernel, blocks}
use Rattle.proxy_kernel.specs.KernelWords.{kernel_insns}
use Rattle.kernel_code.specs.Calls.{call_blocks}
use Rattle.kernel_code.specs.TrapWords.{trap_blocks}
use Rattle.kernel_code.specs.CounterWords.{counter_blocks}
use Rattle.kernel_code.specs.Shorthand.{cells_0, cells_1, cells_2, cells_3, cells_4, cells_5, cells_6, cells_7, cells_8, cells_9, csrs_0, csrs_1, csrs_2}
use Rattle.kernel_sim.specs.Ready.{looks_at, loaded_at, stores_at, Need, Nothing, ZeroIfSeen, Zero, need_at, need, NeedIs}
use Rattle.kernel_steps.proofs.Soundness.{carried, CellsAre-get, AllIs-get, fetched}
use Rattle.kernel_steps.proofs.GraphLaws.{led, same-path, has_fact-holds, then-l, then-r}
use Rattle.kernel_steps.proofs.Rebase.{with_var, fresh, state_avoids, learn_cell, learn_reg}
use Rattle.kernel_steps.proofs.Tests.{blocks_all, blocks_all-at}
use Rattle.kernel_sim.proofs.Gates.{number_code, set_cell, set_reg, fact, all_at}
use Rattle.kernel_sim.proofs.TrapLaws.{mret-done, mret-there, leave-there}
use Rattle.kernel_sim.proofs.PathLaws.{lbu-there, eight-fits}
use Rattle.kernel_sim.proofs.MailLaws.{tries, is_bus_kept}
use Rattle.kernel_code.specs.Numbers.{v_before, v_seen, store_gates}
use Rattle.kernel_code.specs.Places.{tohost_cell, tohost_place, pc_save, pc_path_loaded, pc_path_load, pc_return, pc_leave_return}
use Rattle.fe_base.specs.MemoryMap.{kernel_code_size}

abbrev free_pc : ℕ → Bool
free_pc a = not (loaded_at a) && not (stores_at a)

-- after the load
abbrev has_loaded : State → Bool
has_loaded t = not (stores_at t.at) && same (reg t 6) (Var v_before) && same (get_or t.cells tohost_cell Unknown) (Var v_before)

abbrev all_loaded : List State → Bool
all_loaded [] = true
all_loaded (t ∷ ts) = elim (has_loaded t) [ true ↦ all_loaded ts | false ↦ false ]

-- after the test
abbrev seen_zero : State → Bool
seen_zero t = not (loaded_at t.at) && has_fact (fact false (Var v_seen) (Lit 0) true) t.facts && same (get_or t.cells tohost_cell Unknown) (Var v_before)

abbrev has_tested : State → Bool
has_tested t = free_pc t.at || seen_zero t

abbrev all_tested : List State → Bool
all_tested [] = true
all_tested (t ∷ ts) = elim (has_tested t) [ true ↦ all_tested ts | false ↦ false ]

abbrev named : State → State
named u = set_cell u tohost_cell (Var v_before)

abbrev named2 : State → State
named2 u = set_reg (named u) 6 (Var v_seen)

abbrev avoids_both : State → Bool
avoids_both u = state_avoids v_before u && state_avoids v_seen u

abbrev ready_by : Bool → Bool → State → Bool
ready_by true l u = state_avoids v_before u && tries false (successors kernel (named u)) all_loaded
ready_by false true u = avoids_both u && tries false (successors kernel (named2 u)) all_tested
ready_by false false u = tries (is_bus_kept u) (successors kernel u) (all_at free_pc)

abbrev ready_ok : ℕ → State → Bool
ready_ok k u = elim (nat_le store_gates k || number_code k == 99) [ true ↦ true | false ↦ ready_by (looks_at u.at) (loaded_at u.at) u ]

ready_right : blocks_all ready_ok kernel blocks ≡ true
unfolding kernel kernel_insns blocks call_blocks trap_blocks counter_blocks cells_0 cells_1 cells_2 cells_3 cells_4 cells_5 cells_6 cells_7 cells_8 cells_9 csrs_0 csrs_1 csrs_2 csr_of
ready_right = refl

not-true : (b : Bool) → not b ≡ true → b ≡ false
not-true true e = sym e
not-true false e = refl

free-need : (a s t : ℕ) → free_pc a ≡ true → NeedIs (need_at a) s t
free-need a s t e =
    let p = and_parts (not (loaded_at a)) (not (stores_at a)) e in
    let q = not-true (loaded_at a) p.0 in
    let r = not-true (stores_at a) p.1 in
    go (loaded_at a) (stores_at a) q r
  where
    go : (b c : Bool) → b ≡ false → c ≡ false → NeedIs (elim b [ true ↦ ZeroIfSeen | false ↦ elim c [ true ↦ Zero | false ↦ Nothing ] ]) s t
    go false false q r = tt
    go true c q r = absurd (false≢true (sym q))
    go false true q r = absurd (false≢true (sym r))

-- the need of a place where x6 holds what TOHOST does
loaded-need : (a s t : ℕ) → stores_at a ≡ false → s ≡ t → NeedIs (need_at a) s t
loaded-need a s t r e = go (loaded_at a) (stores_at a) r
  where
    go : (b c : Bool) → c ≡ false → NeedIs (elim b [ true ↦ ZeroIfSeen | false ↦ elim c [ true ↦ Zero | false ↦ Nothing ] ]) s t
    go true c q = λ z. sym e ∙ z
    go false false q = tt
    go false true q = absurd (false≢true (sym q))

zero-need : (n : Need) (s t : ℕ) → t ≡ 0 → NeedIs n s t
zero-need Nothing s t e = tt
zero-need ZeroIfSeen s t e = λ z. e
zero-need Zero s t e = e

seen-need : (a s t : ℕ) → loaded_at a ≡ true → NeedIs (need_at a) s t → s ≡ 0 → t ≡ 0
seen-need a s t e h = go (loaded_at a) e h
  where
    go : (b : Bool) → b ≡ true → NeedIs (elim b [ true ↦ ZeroIfSeen | false ↦ elim (stores_at a) [ true ↦ Zero | false ↦ Nothing ] ]) s t → s ≡ 0 → t ≡ 0
    go true e h = h
    go false e h = absurd (false≢true e)

orb : {P : Type 0} (a b : Bool) → (a || b) ≡ true → (a ≡ true → P) → (b ≡ true → P) → P
orb true b e f g = f refl
orb false b e f g = g e

module _ (user : List ℕ) (env : ℕ → ℕ) (sys : System) (fit : AreRegisters sys.hart.registers) (whole : IsBus sys.bus) where
  abbrev next : System
  next = hart_step sys

  abbrev w0 : System → ℕ
  w0 z = load z.bus.kernel tohost_place 8

  abbrev x6 : System → ℕ
  x6 z = slice_index z.hart.registers 6

  abbrev pub Done : Type 0
  Done = NeedIs (need next.hart.mode next.hart.pc) (x6 next) (w0 next)

  at-pc : next.hart.mode ≡ mode.Machine → NeedIs (need_at next.hart.pc) (x6 next) (w0 next) → Done
  at-pc m h = subst (λ z. NeedIs (need z next.hart.pc) (x6 next) (w0 next)) (sym m) h

  abbrev env1 : ℕ → ℕ
  env1 = with_var env v_before (w0 sys)

  abbrev env2 : ℕ → ℕ
  env2 = with_var env1 v_seen (x6 sys)

  means1 : (u : State) → state_avoids v_before u ≡ true → Describes kernel user env u sys → Describes kernel user env1 (named u) sys
  means1 u e m = learn_cell kernel user env1 u sys tohost_cell tohost_place (Var v_before) refl refl (fresh env v_before (w0 sys) kernel user u sys e (eight-fits sys.bus.kernel kernel_code_size whole.kernel_bytes) m)

  means2 : (u : State) → avoids_both u ≡ true → Describes kernel user env u sys → Describes kernel user env2 (named2 u) sys
  means2 u e m =
      let p = and_parts (state_avoids v_before u) (state_avoids v_seen u) e in
      let m1 = fresh env v_before (w0 sys) kernel user u sys p.0 (eight-fits sys.bus.kernel kernel_code_size whole.kernel_bytes) m in
      let m2 = fresh env1 v_seen (x6 sys) kernel user u sys p.1 (fit.fit 6) m1 in
      learn_reg kernel user env2 (named u) sys 6 (Var v_seen) refl (learn_cell kernel user env2 u sys tohost_cell tohost_place (Var v_before) refl refl m2)

  cell-is : (to : ℕ → ℕ) (t : State) (n : ℕ) → same (get_or t.cells tohost_cell Unknown) (Var n) ≡ true → Describes kernel user to t next → w0 next ≡ to n
  cell-is to t n e m = subst (λ s. Is to s (w0 next)) (same-path (get_or t.cells tohost_cell Unknown) (Var n) e) (CellsAre-get to t.cells next.bus.kernel kernel_code_size tohost_cell tohost_place refl m.memory.cells_are)

  reg-is : (to : ℕ → ℕ) (t : State) (n : ℕ) → same (reg t 6) (Var n) ≡ true → Describes kernel user to t next → x6 next ≡ to n
  reg-is to t n e m = subst (λ s. Is to s (x6 next)) (same-path (reg t 6) (Var n) e) (AllIs-get to t.regs next.hart.registers 6 m.regs)

  after-load : (ts : List State) → all_loaded ts ≡ true → OneDescribes kernel user env1 ts next → Done
  after-load [] e m = absurd m
  after-load (t ∷ ts) e (inl m) =
      let h = then-l (has_loaded t) _ e in
      let a = and_parts (not (stores_at t.at) && same (reg t 6) (Var v_before)) (same (get_or t.cells tohost_cell Unknown) (Var v_before)) h in
      let b = and_parts (not (stores_at t.at)) (same (reg t 6) (Var v_before)) a.0 in
      at-pc m.mode (subst (λ z. NeedIs (need_at z) (x6 next) (w0 next)) (sym m.at) (loaded-need t.at (x6 next) (w0 next) (not-true (stores_at t.at) b.0) (reg-is env1 t 60 b.1 m ∙ sym (cell-is env1 t 60 a.1 m))))
  after-load (t ∷ ts) e (inr m) = after-load ts (then-r (has_loaded t) _ e) m

  after-test : (ts : List State) → all_tested ts ≡ true → (x6 sys ≡ 0 → w0 sys ≡ 0) → OneDescribes kernel user env2 ts next → Done
  after-test [] e f m = absurd m
  after-test (t ∷ ts) e f (inl m) = at-pc m.mode (subst (λ z. NeedIs (need_at z) (x6 next) (w0 next)) (sym m.at) (orb (free_pc t.at) (seen_zero t) (then-l (has_tested t) _ e) (free-need t.at (x6 next) (w0 next)) seen))
    where
      seen : seen_zero t ≡ true → NeedIs (need_at t.at) (x6 next) (w0 next)
      seen q =
          let a = and_parts (not (loaded_at t.at) && has_fact (fact false (Var v_seen) (Lit 0) true) t.facts) (same (get_or t.cells tohost_cell Unknown) (Var v_before)) q in
          let b = and_parts (not (loaded_at t.at)) (has_fact (fact false (Var v_seen) (Lit 0) true) t.facts) a.0 in
          let z : x6 sys ≡ 0 = eqb-true (x6 sys) 0 (has_fact-holds env2 (fact false (Var v_seen) (Lit 0) true) t.facts b.1 m.facts) in
          zero-need (need_at t.at) (x6 next) (w0 next) (cell-is env2 t 60 a.1 m ∙ f z)
  after-test (t ∷ ts) e f (inr m) = after-test ts (then-r (has_tested t) _ e) f m

  freed : (ts : List State) → all_at free_pc ts ≡ true → OneDescribes kernel user env ts next → Done
  freed [] e m = absurd m
  freed (t ∷ ts) e (inl m) = at-pc m.mode (subst (λ z. NeedIs (need_at z) (x6 next) (w0 next)) (sym m.at) (free-need t.at (x6 next) (w0 next) (then-l (free_pc t.at) _ e)))
  freed (t ∷ ts) e (inr m) = freed ts (then-r (free_pc t.at) _ e) m

  tried : (to : ℕ → ℕ) (u : State) (o : Bool) (f : List State → Bool) → tries o (successors kernel u) f ≡ true → Describes kernel user to u sys → ((ts : List State) → f ts ≡ true → OneDescribes kernel user to ts next → Done) → (o ≡ true → Done) → Done
  tried to u o f e m g h = go (successors kernel u) refl e
    where
      go : (x : Option (List State)) → successors kernel u ≡ x → tries o x f ≡ true → Done
      go (Some ts) q r = g ts r (led kernel user to may_follow blocks sys fit u ts _ refl q m)
      go None q r = h r

  never : false ≡ true → Done
  never e = absurd (false≢true e)

  -- where the step is left open
  return-step : (at : ℕ) (u : State) → Describes kernel user env u sys → u.at ≡ at → fetch kernel at ≡ Some Mret → next ≡ over sys.bus (after_mret sys.hart)
  return-step at u m e f = fetched kernel user env u sys m fit Mret (ap (λ z. fetch kernel z) e ∙ f) ∙ mret-done sys _ _ m.mode

  to-user : (u : State) → Describes kernel user env u sys → next ≡ over sys.bus (after_mret sys.hart) → Done
  unfolding after_mret
  to-user u m e = let user_now : next.hart.mode ≡ mode.User = ap (λ z. z.hart.mode) e ∙ m.csrs.mpp in subst (λ z. NeedIs (need z next.hart.pc) (x6 next) (w0 next)) (sym user_now) tt

  load-free : (rd at bits after : ℕ) (z : Size) (x : Bool) → sys.hart.mode ≡ mode.Machine → sys.hart.csrs.mtvec ≡ pc_save → after ≡ pc_path_loaded → (s t : ℕ) → NeedIs (need (carried (Load rd z x at) bits after sys).hart.mode (carried (Load rd z x at) bits after sys).hart.pc) s t
  unfolding effect_step trap_step
  load-free rd at bits after z x m t a s w = go (refused_byte sys.hart.csrs sys.hart.mode Read at (bytes z)) _
    where
      go : (o : Option ℕ) (rs : List ℕ) → NeedIs (need (after_step sys (unless o LoadAccess (next_hart sys.bus (record sys.hart { pc = after; registers = rs })))).hart.mode (after_step sys (unless o LoadAccess (next_hart sys.bus (record sys.hart { pc = after; registers = rs })))).hart.pc) s w
      go None rs = rw (m, a) tt
      go (Some b) rs = rw t tt

  opened : (u : State) → is_bus_kept u ≡ true → Describes kernel user env u sys → Done
  unfolding effect_of
  opened u e m = orb (u.at == pc_path_load && same u.csrs.tvec (Lit pc_save)) (u.at == pc_return || u.at == pc_leave_return) e
      (λ q. let p = and_parts (u.at == pc_path_load) (same u.csrs.tvec (Lit pc_save)) q in looks (eqb-true u.at pc_path_load p.0) (subst (λ z. Is env z sys.hart.csrs.mtvec) (same-path u.csrs.tvec (Lit pc_save) p.1) m.csrs.tvec))
      (λ q. orb (u.at == pc_return) (u.at == pc_leave_return) q
      (λ r. to-user u m (return-step pc_return u m (eqb-true u.at pc_return r) mret-there))
      (λ r. to-user u m (return-step pc_leave_return u m (eqb-true u.at pc_leave_return r) leave-there)))
    where
      looks : u.at ≡ pc_path_load → sys.hart.csrs.mtvec ≡ pc_save → Done
      looks here tvec =
          let after_is : (sys.hart.pc + 4) % 2 ^ 64 ≡ pc_path_loaded = let q = m.at in omega arith in
          let e = fetched kernel user env u sys m fit (Lbu 5 5 (pos 0)) (ap (λ z. fetch kernel z) here ∙ lbu-there) in
          subst (λ z. NeedIs (need z.hart.mode z.hart.pc) (x6 next) (w0 next)) (sym e) (load-free 5 _ _ _ Byte false m.mode tvec after_is (x6 next) (w0 next))

  -- the need after a step from a place of a block
  by-place : (a b : Bool) (u : State) → looks_at u.at ≡ a → loaded_at u.at ≡ b → ready_by a b u ≡ true → Describes kernel user env u sys → NeedIs (need_at u.at) (x6 sys) (w0 sys) → Done
  by-place true b u p q e m h = let r = and_parts (state_avoids v_before u) (tries false (successors kernel (named u)) all_loaded) e in tried env1 (named u) false all_loaded r.1 (means1 u r.0 m) after-load never
  by-place false true u p q e m h =
      let r = and_parts (avoids_both u) (tries false (successors kernel (named2 u)) all_tested) e in
      tried env2 (named2 u) false all_tested r.1 (means2 u r.0 m) (λ ts v n. after-test ts v (seen-need u.at (x6 sys) (w0 sys) q h) n) never
  by-place false false u p q e m h = tried env u (is_bus_kept u) (all_at free_pc) e m freed (λ z. opened u z m)

  pub ready-step : (k : ℕ) → (nat_le store_gates k || number_code k == 99) ≡ false → (w : Here kernel user env blocks k sys) → NeedIs (need sys.hart.mode sys.hart.pc) (x6 sys) (w0 sys) → Done
  ready-step k shut w h =
      let n : NeedIs (need_at w.state.at) (x6 sys) (w0 sys) = subst (λ z. NeedIs (need_at z) (x6 sys) (w0 sys)) w.describes.at (subst (λ z. NeedIs (need z sys.hart.pc) (x6 sys) (w0 sys)) w.describes.mode h) in
      by-place (looks_at w.state.at) (loaded_at w.state.at) w.state refl refl (go (nat_le store_gates k || number_code k == 99) shut (subst (λ z. ready_ok z w.state ≡ true) w.kind (blocks_all-at ready_ok kernel blocks w.block w.state ready_right w.among w.on))) w.describes n
    where
      go : (x : Bool) → x ≡ false → ◌≡◌ {A = Bool} (elim x [ true ↦ true | false ↦ ready_by (looks_at w.state.at) (loaded_at w.state.at) w.state ]) true → ready_by (looks_at w.state.at) (loaded_at w.state.at) w.state ≡ true
      go true e f = absurd (false≢true (sym e))
      go false e f = f
