-- Which doublewords of the mailbox a step leaves as they were.
use Rattle.std.proofs.Common.{◌≡◌, ◌≢◌, ℕ, ◌-◌, ◌+◌, ◌*◌, ◌≤◌, ◌==◌, Bool, true, false, ◌||◌, ◌⊎◌, inl, inr, Option, Some, None, List, [], ◌∷◌, refl, ap, sym, subst, ◌∙◌, arith}
use Rattle.std.specs.Prelude.{nat_le}
use Rattle.std.proofs.lemmas.Bool.{false≢true, eqb-true}
use Rattle.rv_csr.specs.CsrTable.{csr_of}
use Rattle.rv_csr.specs.declared.privilege.Mode.TheVariants as mode
use Rattle.rv_hart.specs.HartStep.{System, AreRegisters, hart_step, over, counted_step}
use Rattle.fe_base.specs.MemoryMap.{kernel_start, kernel_code_size, tohost, request, fromhost}
use Rattle.guest_memory.specs.Memory.{load}
use Rattle.guest_memory.specs.Bus.{IsBus}
use Rattle.guest_memory.proofs.AreaLemmas.{bus_load-kernel}
use Rattle.plain_machine.specs.UserStep.{UserStep, call, trap, user_step}
use Rattle.plain_machine.specs.UserStep as user_spec
use Rattle.kernel_sim.specs.UserMode.{user_of}
use Rattle.kernel_sim.proofs.UserSteps.{seen_by}
use Rattle.kernel_sim.proofs.Agreement.{user_steps_agree}
use Rattle.kernel_sim.specs.declared.phase.PhaseKind.{PhaseKind}
use Rattle.kernel_sim.specs.declared.phase.PhaseKind.TheVariants.{Boot, BootWait, BootTake, Leave, User, Save, Check, Scan, Fill, Wait, Take, Local, Restore, Speak, Closing}
use Rattle.kernel_sim.specs.declared.phase.Phase.{Phase}
use Rattle.kernel_steps.specs.Terms.{Lit, Var, Is}
use Rattle.kernel_steps.specs.States.{State, Describes}
use Rattle.kernel_steps.specs.Successors.{successors}
use Rattle.kernel_steps.specs.Blocks.{Here, same}
use Rattle.kernel_code.specs.Kinds.{may_follow}
use Rattle.kernel_steps.specs.Blocks.{member}
use Rattle.kernel_code.specs.Kernel.{kernel, blocks}
use Rattle.proxy_kernel.specs.KernelWords.{kernel_insns}
use Rattle.kernel_code.specs.Calls.{call_blocks}
use Rattle.kernel_code.specs.TrapWords.{trap_blocks}
use Rattle.kernel_code.specs.CounterWords.{counter_blocks}
use Rattle.kernel_code.specs.Shorthand.{cells_0, cells_1, cells_2, cells_3, cells_4, cells_5, cells_6, cells_7, cells_8, cells_9, csrs_0, csrs_1, csrs_2}
use Rattle.kernel_sim.specs.Phases.{dword, request_of, kind_of, kind_now, kernel_kind}
use Rattle.kernel_sim.specs.Mailbox.{TohostKept, MailboxKept}
use Rattle.kernel_sim.specs.Stages.{InKernel, InBoot, InUser, stage_number, boot_number, Place, Known}
use Rattle.kernel_steps.proofs.Soundness.{CellsAre-get}
use Rattle.kernel_steps.proofs.GraphLaws.{led, same-path, then-l, then-r}
use Rattle.kernel_steps.proofs.Rebase.{with_var, fresh, state_avoids, learn_cell}
use Rattle.kernel_steps.proofs.Tests.{In, member-In, blocks_all, blocks_all-at}
use Rattle.kernel_sim.proofs.Gates.{number_code, kind_code, set_cell, all_st, one-st, cell_of}
use Rattle.kernel_sim.proofs.PathLaws.{eight-fits}
use Rattle.kernel_sim.proofs.PlaceLaws.{code-of, boot-code}
use Rattle.kernel_sim.proofs.MailLaws.{tries, is_bus_kept, bus-kept}
use Rattle.kernel_sim.proofs.HostLaws.{shut-of, boot-shut}
use Rattle.kernel_code.specs.Places.{pc_boot_wait, pc_wait, fromhost_cell, fromhost_place, tohost_cell}
use Rattle.kernel_code.specs.Numbers.{v_before, store_gates}

-- a cell of the mailbox that a step from a kind may change, and how
abbrev excused : ℕ → ℕ → State → Bool
excused code c t =
    elim (c == 0) [
      | true ↦ elim (code == 13 || code == 14) [ true ↦ true | false ↦ elim (code == 0) [ true ↦ t.at == pc_boot_wait | false ↦ elim (code == 8) [ true ↦ t.at == pc_wait | false ↦ false ] ] ]
      | false ↦ elim (c == 8) [ true ↦ elim (code == 2 || code == 10) [ true ↦ same (cell_of t fromhost_cell) (Lit 0) | false ↦ false ] | false ↦ (code == 0 || code == 8) ]
    ]

abbrev fine : ℕ → ℕ → State → Bool
fine code c t = same (cell_of t c) (Var v_before) || excused code c t

abbrev box_by : ℕ → ℕ → State → Bool
box_by code c u = tries (is_bus_kept u) (successors kernel (set_cell u c (Var v_before))) (all_st (fine code c))

abbrev boxes : List ℕ → ℕ → State → Bool
boxes [] code u = true
boxes (c ∷ cs) code u = elim (box_by code c u) [ true ↦ boxes cs code u | false ↦ false ]

abbrev the_cells : List ℕ
the_cells = 0 ∷ 8 ∷ 16 ∷ 17 ∷ 18 ∷ 19 ∷ 20 ∷ 21 ∷ 22 ∷ 23 ∷ []

abbrev box_ok : ℕ → State → Bool
box_ok k u = elim (nat_le store_gates k || number_code k == 99) [ true ↦ true | false ↦ elim (state_avoids v_before u) [ true ↦ boxes the_cells (number_code k) u | false ↦ false ] ]

box_right : blocks_all box_ok kernel blocks ≡ true
unfolding kernel kernel_insns blocks call_blocks trap_blocks counter_blocks cells_0 cells_1 cells_2 cells_3 cells_4 cells_5 cells_6 cells_7 cells_8 cells_9 csrs_0 csrs_1 csrs_2 csr_of
box_right = refl

box-at : (cs : List ℕ) (code c : ℕ) (u : State) → boxes cs code u ≡ true → In c cs → box_by code c u ≡ true
box-at [] code c u e i = absurd i
box-at (d ∷ cs) code c u e (inl q) = subst (λ z. box_by code z u ≡ true) (sym q) (then-l (box_by code d u) _ e)
box-at (d ∷ cs) code c u e (inr q) = box-at cs code c u (then-r (box_by code d u) _ e) q

orb : {P : Type 0} (a b : Bool) → (a || b) ≡ true → (a ≡ true → P) → (b ≡ true → P) → P
orb true b e f g = f refl
orb false b e f g = g e

module _ (user : List ℕ) (env : ℕ → ℕ) (sys : System) (fit : AreRegisters sys.hart.registers) (whole : IsBus sys.bus) where
  abbrev next : System
  next = hart_step sys

  abbrev place : ℕ → ℕ
  place c = kernel_code_size + 8 * c

  abbrev held : ℕ → ℕ
  held c = load sys.bus.kernel (place c) 8

  abbrev to : ℕ → (ℕ → ℕ)
  to c = with_var env v_before (held c)

  -- the cell stays, or the step is excused
  abbrev pub Box : ℕ → ℕ → Type 0
  Box code c = (load next.bus.kernel (place c) 8 ≡ held c) ⊎ ((t : State) × (excused code c t ≡ true) × Describes kernel user (to c) t next)

  boxed : (code c : ℕ) (u : State) → box_by code c u ≡ true → state_avoids v_before u ≡ true → Describes kernel user env u sys → Box code c
  boxed code c u e a m = go (successors kernel (set_cell u c (Var v_before))) refl e
    where
      named : Describes kernel user (to c) (set_cell u c (Var v_before)) sys
      named = learn_cell kernel user (to c) u sys c (place c) (Var v_before) refl refl (fresh env v_before (held c) kernel user u sys a (eight-fits sys.bus.kernel (place c) whole.kernel_bytes) m)

      ends : (t : State) × (fine code c t ≡ true) × Describes kernel user (to c) t next → Box code c
      ends h = orb (same (cell_of h.0 c) (Var v_before)) (excused code c h.0) h.1
          (λ q. inl (subst (λ z. Is (to c) z (load next.bus.kernel (place c) 8)) (same-path (cell_of h.0 c) (Var v_before) q) (CellsAre-get (to c) h.0.cells next.bus.kernel kernel_code_size c (place c) refl h.2.memory.cells_are)))
          (λ q. inr (h.0, q, h.2))

      go : (o : Option (List State)) → successors kernel (set_cell u c (Var v_before)) ≡ o → tries (is_bus_kept u) o (all_st (fine code c)) ≡ true → Box code c
      go (Some ts) q r = ends (one-st user (to c) (fine code c) ts next (led kernel user (to c) may_follow blocks sys fit (set_cell u c (Var v_before)) ts _ refl q named) r)
      go None q r = inl (ap (λ z. load z.kernel (place c) 8) (bus-kept user env sys fit u r m))

  pub box-step : (k : ℕ) → (nat_le store_gates k || number_code k == 99) ≡ false → Here kernel user env blocks k sys → (c : ℕ) → In c the_cells → Box (number_code k) c
  box-step k shut w c i =
      let e = go (nat_le store_gates k || number_code k == 99) shut (subst (λ z. box_ok z w.state ≡ true) w.kind (blocks_all-at box_ok kernel blocks w.block w.state box_right w.among w.on)) in
      boxed (number_code k) c w.state (box-at the_cells (number_code k) c w.state (then-r (state_avoids v_before w.state) _ e) i) (then-l (state_avoids v_before w.state) _ e) w.describes
    where
      go : (x : Bool) → x ≡ false → ◌≡◌ {A = Bool} (elim x [ true ↦ true | false ↦ elim (state_avoids v_before w.state) [ true ↦ boxes the_cells (number_code k) w.state | false ↦ false ] ]) true → ◌≡◌ {A = Bool} (elim (state_avoids v_before w.state) [ true ↦ boxes the_cells (number_code k) w.state | false ↦ false ]) true
      go true e f = absurd (false≢true (sym e))
      go false e f = f

module _ (p : Phase) (sys : System) (fit : AreRegisters sys.hart.registers) (whole : IsBus sys.bus) where
  abbrev after : System
  after = hart_step sys

  abbrev Kept : PhaseKind → Type 0
  Kept k = MailboxKept k (kind_now after) sys.bus after.bus

  abbrev Boxes : (List ℕ) → (ℕ → ℕ) → ℕ → Type 0
  Boxes user env code = (c : ℕ) → In c the_cells → Box user env sys fit whole code c

  same-cell : (user : List ℕ) (env : ℕ → ℕ) (code c at : ℕ) → at ≡ tohost + 8 * c → ((t : State) → excused code c t ≡ false) → Box user env sys fit whole code c → dword after.bus at ≡ dword sys.bus at
  same-cell user env code c at e n (inl h) =
      let low : kernel_start ≤ at = omega arith in
      let q : at - kernel_start ≡ kernel_code_size + 8 * c = omega arith in
      bus_load-kernel after.bus at 8 low ∙ ap (λ z. load after.bus.kernel z 8) q ∙ h ∙ ap (λ z. load sys.bus.kernel z 8) (sym q) ∙ sym (bus_load-kernel sys.bus at 8 low)
  same-cell user env code c at e n (inr h) = absurd (false≢true (sym (n h.0) ∙ h.1))

  cell-in : (c : ℕ) → member c the_cells ≡ true → In c the_cells
  cell-in c e = member-In c the_cells e

  request-same : (user : List ℕ) (env : ℕ → ℕ) (code : ℕ) → ((c : ℕ) (t : State) → 16 ≤ c → excused code c t ≡ false) → Boxes user env code → request_of after.bus ≡ request_of sys.bus
  request-same user env code n b =
      let c16 = same-cell user env code 16 request refl (λ t. n 16 t (omega arith)) (b 16 (cell-in 16 refl)) in
      let c17 = same-cell user env code 17 (request + 8) refl (λ t. n 17 t (omega arith)) (b 17 (cell-in 17 refl)) in
      let c18 = same-cell user env code 18 (request + 16) refl (λ t. n 18 t (omega arith)) (b 18 (cell-in 18 refl)) in
      let c19 = same-cell user env code 19 (request + 24) refl (λ t. n 19 t (omega arith)) (b 19 (cell-in 19 refl)) in
      let c20 = same-cell user env code 20 (request + 32) refl (λ t. n 20 t (omega arith)) (b 20 (cell-in 20 refl)) in
      let c21 = same-cell user env code 21 (request + 40) refl (λ t. n 21 t (omega arith)) (b 21 (cell-in 21 refl)) in
      let c22 = same-cell user env code 22 (request + 48) refl (λ t. n 22 t (omega arith)) (b 22 (cell-in 22 refl)) in
      let c23 = same-cell user env code 23 (request + 56) refl (λ t. n 23 t (omega arith)) (b 23 (cell-in 23 refl)) in
      rw (c16, c17, c18, c19, c20, c21, c22, c23) refl

  no-request : (code : ℕ) → (code == 0 || code == 8) ≡ false → (c : ℕ) (t : State) → 16 ≤ c → excused code c t ≡ false
  no-request code e c t l = go (c == 0) (c == 8) (far0 (c == 0) refl) (far8 (c == 8) refl)
    where
      far0 : (b : Bool) → (c == 0) ≡ b → b ≡ false
      far0 true q = let z = eqb-true c 0 q in absurd (omega arith)
      far0 false q = refl

      far8 : (b : Bool) → (c == 8) ≡ b → b ≡ false
      far8 true q = let z = eqb-true c 8 q in absurd (omega arith)
      far8 false q = refl

      go : (x y : Bool) → x ≡ false → y ≡ false
          → ◌≡◌ {A = Bool} (elim x [
            | true ↦ elim (code == 13 || code == 14) [ true ↦ true | false ↦ elim (code == 0) [ true ↦ t.at == pc_boot_wait | false ↦ elim (code == 8) [ true ↦ t.at == pc_wait | false ↦ false ] ] ]
            | false ↦ elim y [ true ↦ elim (code == 2 || code == 10) [ true ↦ same (cell_of t fromhost_cell) (Lit 0) | false ↦ false ] | false ↦ (code == 0 || code == 8) ]
          ]) false
      go false false p q = e
      go true y p q = absurd (false≢true (sym p))
      go false true p q = absurd (false≢true (sym q))

  fromhost-zero : (user : List ℕ) (env : ℕ → ℕ) (code : ℕ) → ((t : State) → excused code fromhost_cell t ≡ same (cell_of t fromhost_cell) (Lit 0)) → Boxes user env code → (dword after.bus fromhost ≡ dword sys.bus fromhost) ⊎ (dword after.bus fromhost ≡ 0)
  fromhost-zero user env code f b = go (b 8 (cell-in 8 refl))
    where
      go : Box user env sys fit whole code 8 → (dword after.bus fromhost ≡ dword sys.bus fromhost) ⊎ (dword after.bus fromhost ≡ 0)
      go (inl h) = inl (bus_load-kernel after.bus fromhost 8 (omega arith) ∙ h ∙ sym (bus_load-kernel sys.bus fromhost 8 (omega arith)))
      go (inr h) = inr (bus_load-kernel after.bus fromhost 8 (omega arith) ∙ subst (λ z. Is (with_var env v_before (load sys.bus.kernel (kernel_code_size + 8 * 8) 8)) z (load after.bus.kernel fromhost_place 8)) (same-path (cell_of h.0 fromhost_cell) (Lit 0) (sym (f h.0) ∙ h.1)) (CellsAre-get _ h.0.cells after.bus.kernel kernel_code_size fromhost_cell fromhost_place refl h.2.memory.cells_are))

  -- TOHOST where a request is posted by the step into the wait
  tohost-posted : (was wait : PhaseKind) (user : List ℕ) (env : ℕ → ℕ) (code at : ℕ) → kernel_kind at ≡ wait → ((old new : ℕ) → TohostKept was wait old new) → ((now : PhaseKind) (old new : ℕ) → new ≡ old → TohostKept was now old new) → ((t : State) → excused code tohost_cell t ≡ (t.at == at)) → Boxes user env code → TohostKept was (kind_now after) (dword sys.bus tohost) (dword after.bus tohost)
  tohost-posted was wait user env code at k free kept f b = go (b 0 (cell-in 0 refl))
    where
      go : Box user env sys fit whole code 0 → TohostKept was (kind_now after) (dword sys.bus tohost) (dword after.bus tohost)
      go (inl h) = kept (kind_now after) _ _ (bus_load-kernel after.bus tohost 8 (omega arith) ∙ h ∙ sym (bus_load-kernel sys.bus tohost 8 (omega arith)))
      go (inr h) =
          let pc : after.hart.pc ≡ at = h.2.at ∙ eqb-true h.0.at at (sym (f h.0) ∙ h.1) in
          let now : kind_now after ≡ wait = ap (λ z. kind_of z after.hart.pc) h.2.mode ∙ ap kernel_kind pc ∙ k in
          subst (λ z. TohostKept was z (dword sys.bus tohost) (dword after.bus tohost)) (sym now) (free _ _)

  boot-keeps : (now : PhaseKind) (old new : ℕ) → new ≡ old → TohostKept Boot now old new
  boot-keeps Boot old new e = e
  boot-keeps BootWait old new e = tt
  boot-keeps BootTake old new e = e
  boot-keeps Leave old new e = e
  boot-keeps User old new e = e
  boot-keeps Save old new e = e
  boot-keeps Check old new e = e
  boot-keeps Scan old new e = e
  boot-keeps Fill old new e = e
  boot-keeps Wait old new e = e
  boot-keeps Take old new e = e
  boot-keeps Local old new e = e
  boot-keeps Restore old new e = e
  boot-keeps Speak old new e = e
  boot-keeps Closing old new e = e

  fill-keeps : (now : PhaseKind) (old new : ℕ) → new ≡ old → TohostKept Fill now old new
  fill-keeps Boot old new e = e
  fill-keeps BootWait old new e = e
  fill-keeps BootTake old new e = e
  fill-keeps Leave old new e = e
  fill-keeps User old new e = e
  fill-keeps Save old new e = e
  fill-keeps Check old new e = e
  fill-keeps Scan old new e = e
  fill-keeps Fill old new e = e
  fill-keeps Wait old new e = tt
  fill-keeps Take old new e = e
  fill-keeps Local old new e = e
  fill-keeps Restore old new e = e
  fill-keeps Speak old new e = e
  fill-keeps Closing old new e = e

  boot-waits : kernel_kind pc_boot_wait ≡ BootWait
  unfolding kernel_kind
  boot-waits = refl

  fill-waits : kernel_kind pc_wait ≡ Wait
  unfolding kernel_kind
  fill-waits = refl

  from-boxes : (k : PhaseKind) → (k ≢ User) → (user : List ℕ) (env : ℕ → ℕ) → Boxes user env (kind_code k) → Kept k
  from-boxes Boot n user env b = (tohost-posted Boot BootWait user env 0 pc_boot_wait boot-waits (λ o m. tt) boot-keeps (λ t. refl) b, same-cell user env 0 8 fromhost refl (λ t. refl) (b 8 (cell-in 8 refl)), tt)
  from-boxes BootWait n user env b = (same-cell user env 1 0 tohost refl (λ t. refl) (b 0 (cell-in 0 refl)), same-cell user env 1 8 fromhost refl (λ t. refl) (b 8 (cell-in 8 refl)), request-same user env 1 (no-request 1 refl) b)
  from-boxes BootTake n user env b = (same-cell user env 2 0 tohost refl (λ t. refl) (b 0 (cell-in 0 refl)), fromhost-zero user env 2 (λ t. refl) b, request-same user env 2 (no-request 2 refl) b)
  from-boxes Leave n user env b = (same-cell user env 3 0 tohost refl (λ t. refl) (b 0 (cell-in 0 refl)), same-cell user env 3 8 fromhost refl (λ t. refl) (b 8 (cell-in 8 refl)), request-same user env 3 (no-request 3 refl) b)
  from-boxes User n user env b = absurd (n refl)
  from-boxes Save n user env b = (same-cell user env 5 0 tohost refl (λ t. refl) (b 0 (cell-in 0 refl)), same-cell user env 5 8 fromhost refl (λ t. refl) (b 8 (cell-in 8 refl)), request-same user env 5 (no-request 5 refl) b)
  from-boxes Check n user env b = (same-cell user env 6 0 tohost refl (λ t. refl) (b 0 (cell-in 0 refl)), same-cell user env 6 8 fromhost refl (λ t. refl) (b 8 (cell-in 8 refl)), request-same user env 6 (no-request 6 refl) b)
  from-boxes Scan n user env b = (same-cell user env 7 0 tohost refl (λ t. refl) (b 0 (cell-in 0 refl)), same-cell user env 7 8 fromhost refl (λ t. refl) (b 8 (cell-in 8 refl)), request-same user env 7 (no-request 7 refl) b)
  from-boxes Fill n user env b = (tohost-posted Fill Wait user env 8 pc_wait fill-waits (λ o m. tt) fill-keeps (λ t. refl) b, same-cell user env 8 8 fromhost refl (λ t. refl) (b 8 (cell-in 8 refl)), tt)
  from-boxes Wait n user env b = (same-cell user env 9 0 tohost refl (λ t. refl) (b 0 (cell-in 0 refl)), same-cell user env 9 8 fromhost refl (λ t. refl) (b 8 (cell-in 8 refl)), request-same user env 9 (no-request 9 refl) b)
  from-boxes Take n user env b = (same-cell user env 10 0 tohost refl (λ t. refl) (b 0 (cell-in 0 refl)), fromhost-zero user env 10 (λ t. refl) b, request-same user env 10 (no-request 10 refl) b)
  from-boxes Local n user env b = (same-cell user env 11 0 tohost refl (λ t. refl) (b 0 (cell-in 0 refl)), same-cell user env 11 8 fromhost refl (λ t. refl) (b 8 (cell-in 8 refl)), request-same user env 11 (no-request 11 refl) b)
  from-boxes Restore n user env b = (same-cell user env 12 0 tohost refl (λ t. refl) (b 0 (cell-in 0 refl)), same-cell user env 12 8 fromhost refl (λ t. refl) (b 8 (cell-in 8 refl)), request-same user env 12 (no-request 12 refl) b)
  from-boxes Speak n user env b = (tt, same-cell user env 13 8 fromhost refl (λ t. refl) (b 8 (cell-in 8 refl)), request-same user env 13 (no-request 13 refl) b)
  from-boxes Closing n user env b = (tt, same-cell user env 14 8 fromhost refl (λ t. refl) (b 8 (cell-in 8 refl)), request-same user env 14 (no-request 14 refl) b)

  in-kernel : (k : PhaseKind) → (k ≢ User) → InKernel k p sys → Kept k
  in-kernel k n i = from-boxes k n i.user i.env (subst (λ z. Boxes i.user i.env z) (code-of i.stage ∙ ap kind_code i.staged) (λ c q. box-step i.user i.env sys fit whole (stage_number i.stage) (shut-of i.stage p i.user i.env i.extra) i.here c q))

  in-boot : (k : PhaseKind) → (k ≢ User) → InBoot k p sys → Kept k
  in-boot k n i = from-boxes k n i.user i.env (subst (λ z. Boxes i.user i.env z) (boot-code i.stage ∙ ap kind_code i.staged) (λ c q. box-step i.user i.env sys fit whole (boot_number i.stage) (boot-shut i.stage) i.here c q))

  -- a user step leaves the kernel area
  in-user : InUser p sys → Kept User
  in-user u = go (user_step (user_of sys)) refl
    where
      step : after ≡ seen_by (user_step (user_of sys)) (over sys.bus (counted_step mode.User sys.hart))
      step = user_steps_agree sys u.run u.user_mode u.fenced

      kept : after.bus.kernel ≡ sys.bus.kernel → (at : ℕ) → kernel_start ≤ at → dword after.bus at ≡ dword sys.bus at
      kept e at l = bus_load-kernel after.bus at 8 l ∙ ap (λ y. load y (at - kernel_start) 8) e ∙ sym (bus_load-kernel sys.bus at 8 l)

      same-request : after.bus.kernel ≡ sys.bus.kernel → request_of after.bus ≡ request_of sys.bus
      same-request e =
          rw (kept e request (omega arith), kept e (request + 8) (omega arith), kept e (request + 16) (omega arith), kept e (request + 24) (omega arith), kept e (request + 32) (omega arith), kept e (request + 40) (omega arith), kept e (request + 48) (omega arith), kept e (request + 56) (omega arith)) refl

      ends : (z : System) → after ≡ z → z.bus.kernel ≡ sys.bus.kernel → Kept User
      ends z e k = let s : after.bus.kernel ≡ sys.bus.kernel = ap (λ y. y.bus.kernel) e ∙ k in (kept s tohost (omega arith), kept s fromhost (omega arith), same-request s)

      go : (r : UserStep) → user_step (user_of sys) ≡ r → Kept User
      go (user_spec.next st) q = ends _ (step ∙ ap (λ z. seen_by z (over sys.bus (counted_step mode.User sys.hart))) q) refl
      go call q = ends _ (step ∙ ap (λ z. seen_by z (over sys.bus (counted_step mode.User sys.hart))) q) refl
      go (trap c v) q = ends _ (step ∙ ap (λ z. seen_by z (over sys.bus (counted_step mode.User sys.hart))) q) refl

  pub by-kind : (k : PhaseKind) → Place k p sys → Kept k
  by-kind Boot i = in-boot Boot (λ z. cc) i
  by-kind BootWait i = in-boot BootWait (λ z. cc) i
  by-kind BootTake i = in-boot BootTake (λ z. cc) i
  by-kind Leave i = in-boot Leave (λ z. cc) i
  by-kind User i = in-user i
  by-kind Save i = in-kernel Save (λ z. cc) i
  by-kind Check i = in-kernel Check (λ z. cc) i
  by-kind Scan i = in-kernel Scan (λ z. cc) i
  by-kind Fill i = in-kernel Fill (λ z. cc) i
  by-kind Wait i = in-kernel Wait (λ z. cc) i
  by-kind Take i = in-kernel Take (λ z. cc) i
  by-kind Local i = in-kernel Local (λ z. cc) i
  by-kind Restore i = in-kernel Restore (λ z. cc) i
  by-kind Speak i = in-kernel Speak (λ z. cc) i
  by-kind Closing i = in-kernel Closing (λ z. cc) i

-- the mailbox over a step that was made
pub mailbox_law : (p : Phase) (sys made : System) → Known p sys → IsBus sys.bus → AreRegisters sys.hart.registers → made ≡ hart_step sys → MailboxKept p.kind (kind_now made) sys.bus made.bus
unfolding Known
mailbox_law p sys made h b fit e = subst (λ z. MailboxKept p.kind (kind_now z) sys.bus z.bus) (sym e) (by-kind p sys fit b p.kind h.0.place)
