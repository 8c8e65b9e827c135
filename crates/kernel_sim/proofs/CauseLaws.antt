-- The registers of a trap stay while the kernel handles it.
use Rattle.std.proofs.Common.{◌≡◌, ◌≢◌, pos, ℕ, ◌+◌, ◌*◌, ◌%◌, ◌^◌, ◌≤◌, ◌==◌, Bool, true, false, ◌&&◌, ◌||◌, ◌⊎◌, inl, inr, Option, Some, None, List, [], ◌∷◌, refl, ap, sym, subst, ◌∙◌, arith}
use Rattle.std.specs.Prelude.{nat_le}
use Rattle.std.proofs.lemmas.Bool.{false≢true, eqb-true, ne_eqb, and_parts}
use Rattle.rv_decode.specs.declared.instruction.Insn.TheVariants.{Lbu}
use Rattle.rv_alu.specs.Effects.{effect_of, bytes}
use Rattle.rv_alu.specs.declared.causes.Cause.TheVariants.{LoadAccess}
use Rattle.rv_alu.specs.declared.effects.Effect.TheVariants.{Load}
use Rattle.rv_alu.specs.declared.effects.Size.{Size}
use Rattle.rv_alu.specs.declared.effects.Size.TheVariants.{Byte}
use Rattle.rv_csr.specs.CsrTable.{IsCsrs, csr_of}
use Rattle.rv_csr.specs.Fields.{instruction_aligned}
use Rattle.rv_csr.specs.declared.privilege.Access.TheVariants.{Read}
use Rattle.rv_csr.specs.declared.privilege.Mode.TheVariants as mode
use Rattle.rv_hart.specs.Accesses.{refused_byte}
use Rattle.rv_hart.specs.HartStep.{System, AreRegisters, hart_step, over, after_step, next_hart, unless, effect_step, trap_step, after_mret, counted_step}
use Rattle.plain_machine.specs.UserStep.{user_step}
use Rattle.kernel_steps.specs.Terms.{Lit, Var, Is}
use Rattle.kernel_steps.specs.States.{State, Describes, OneDescribes}
use Rattle.kernel_steps.specs.Successors.{fetch, successors}
use Rattle.kernel_steps.specs.Blocks.{Here, same}
use Rattle.kernel_steps.proofs.Soundness.{carried, fetched}
use Rattle.kernel_steps.proofs.GraphLaws.{led, same-path, then-l, then-r}
use Rattle.kernel_steps.proofs.Rebase.{with_var, state_avoids, fresh, learn_trap}
use Rattle.kernel_steps.proofs.Tests.{blocks_all, blocks_all-at}
use Rattle.kernel_code.specs.Kinds.{may_follow}
use Rattle.kernel_code.specs.Kernel.{kernel, blocks}
use Rattle.proxy_kernel.specs.KernelWords.{kernel_insns}
use Rattle.kernel_code.specs.Calls.{call_blocks}
use Rattle.kernel_code.specs.TrapWords.{trap_blocks}
use Rattle.kernel_code.specs.CounterWords.{counter_blocks}
use Rattle.kernel_code.specs.Shorthand.{cells_0, cells_1, cells_2, cells_3, cells_4, cells_5, cells_6, cells_7, cells_8, cells_9, csrs_0, csrs_1, csrs_2}
use Rattle.kernel_code.specs.Numbers.{v_before, v_seen, store_gates, trap_words, leaving_blocks, restoring_blocks}
use Rattle.kernel_code.specs.Places.{pc_save, pc_path_load, pc_return, pc_leave_return}
use Rattle.kernel_sim.specs.UserMode.{user_of}
use Rattle.kernel_sim.specs.declared.phase.PhaseKind.{PhaseKind}
use Rattle.kernel_sim.specs.declared.phase.PhaseKind.TheVariants.{Boot, BootWait, BootTake, Leave, User, Save, Check, Scan, Fill, Wait, Take, Local, Restore, Speak, Closing}
use Rattle.kernel_sim.specs.declared.phase.Phase.{Phase}
use Rattle.kernel_sim.specs.Phases.{kernel_kind, kind_of, kind_now}
use Rattle.kernel_sim.specs.Steps.{follows}
use Rattle.kernel_sim.specs.Traps.{TrapTold, CauseKept, TrapAfter}
use Rattle.kernel_sim.specs.Stages.{Stage, Restoring, base, Saying, Said, Ending, Ended, stage_kind, stage_number, BootStage, Booting, BootWaiting, BootTested, BootTaking, Leaving, boot_kind, boot_number, InKernel, InBoot, InUser, Place}
use Rattle.kernel_sim.proofs.Agreement.{user_steps_agree}
use Rattle.kernel_sim.proofs.UserSteps.{seen_by}
use Rattle.kernel_sim.proofs.Told.{Told}
use Rattle.kernel_sim.proofs.Gates.{number_code}
use Rattle.kernel_sim.proofs.PlaceLaws.{kind-by-place, boot-by-place}
use Rattle.kernel_sim.proofs.PathLaws.{lbu-there}
use Rattle.kernel_sim.proofs.TrapLaws.{mret-there, leave-there}
use Rattle.kernel_sim.proofs.MessageLaws.{base-low}
use Rattle.kernel_sim.proofs.HostLaws.{shut-of, boot-shut}
use Rattle.kernel_sim.proofs.MailLaws.{tries, is_bus_kept, return-step}

-- ---- the test: with a name for what each of the three holds, each state that follows holds it still
abbrev v_return : ℕ
v_return = v_seen + 1

abbrev named : State → State
named u = record u { csrs = record u.csrs { epc = Var v_return; cause = Var v_before; tval = Var v_seen } }

abbrev writes_return : ℕ → Bool
writes_return k = k == leaving_blocks || k == restoring_blocks

abbrev keeps_trap : ℕ → State → Bool
keeps_trap k t = (same t.csrs.cause (Var v_before) && same t.csrs.tval (Var v_seen)) && (writes_return k || same t.csrs.epc (Var v_return))

abbrev all_keep : ℕ → List State → Bool
all_keep k [] = true
all_keep k (t ∷ ts) = elim (keeps_trap k t) [ true ↦ all_keep k ts | false ↦ false ]

abbrev avoids_all : State → Bool
avoids_all u = state_avoids v_before u && (state_avoids v_seen u && state_avoids v_return u)

abbrev trap_ok : ℕ → State → Bool
trap_ok k u = elim (nat_le store_gates k || number_code k == 99) [ true ↦ true | false ↦ avoids_all u && tries (is_bus_kept u) (successors kernel (named u)) (all_keep k) ]

trap_right : blocks_all trap_ok kernel blocks ≡ true
unfolding kernel kernel_insns blocks call_blocks trap_blocks counter_blocks cells_0 cells_1 cells_2 cells_3 cells_4 cells_5 cells_6 cells_7 cells_8 cells_9 csrs_0 csrs_1 csrs_2 csr_of
trap_right = refl

orb : {P : Type 0} (a b : Bool) → (a || b) ≡ true → (a ≡ true → P) → (b ≡ true → P) → P
orb true b e f g = f refl
orb false b e f g = g e

-- ---- a step of the kernel
module _ (user : List ℕ) (env : ℕ → ℕ) (sys : System) (fit : AreRegisters sys.hart.registers) (csrs : IsCsrs sys.hart.csrs) where
  abbrev next : System
  next = hart_step sys

  -- mcause and mtval stay, and mepc does but in blocks that write it
  abbrev pub Keeps : ℕ → Type 0
  Keeps k = CauseKept sys.hart.csrs next.hart.csrs × ((writes_return k ≡ true) ⊎ (next.hart.csrs.mepc ≡ sys.hart.csrs.mepc))

  abbrev to : ℕ → ℕ
  to = with_var (with_var (with_var env v_before sys.hart.csrs.mcause) v_seen sys.hart.csrs.mtval) v_return sys.hart.csrs.mepc

  means : (u : State) → avoids_all u ≡ true → Describes kernel user env u sys → Describes kernel user to (named u) sys
  means u e m =
      let p = and_parts (state_avoids v_before u) (state_avoids v_seen u && state_avoids v_return u) e in
      let q = and_parts (state_avoids v_seen u) (state_avoids v_return u) p.1 in
      let m1 = fresh env v_before sys.hart.csrs.mcause kernel user u sys p.0 csrs.mcause_fits m in
      let m2 = fresh (with_var env v_before sys.hart.csrs.mcause) v_seen sys.hart.csrs.mtval kernel user u sys q.0 csrs.mtval_fits m1 in
      let m3 = fresh (with_var (with_var env v_before sys.hart.csrs.mcause) v_seen sys.hart.csrs.mtval) v_return sys.hart.csrs.mepc kernel user u sys q.1 csrs.mepc_fits m2 in
      learn_trap kernel user to u sys (Var v_return) (Var v_before) (Var v_seen) refl refl refl m3

  one-kept : (k : ℕ) (t : State) → keeps_trap k t ≡ true → Describes kernel user to t next → Keeps k
  one-kept k t e m =
      let a = and_parts (same t.csrs.cause (Var v_before) && same t.csrs.tval (Var v_seen)) (writes_return k || same t.csrs.epc (Var v_return)) e in
      let b = and_parts (same t.csrs.cause (Var v_before)) (same t.csrs.tval (Var v_seen)) a.0 in (
        (subst (λ z. Is to z next.hart.csrs.mcause) (same-path t.csrs.cause (Var v_before) b.0) m.csrs.cause, subst (λ z. Is to z next.hart.csrs.mtval) (same-path t.csrs.tval (Var v_seen) b.1) m.csrs.tval),
        orb (writes_return k) (same t.csrs.epc (Var v_return)) a.1 (λ q. inl q) (λ q. inr (subst (λ z. Is to z next.hart.csrs.mepc) (same-path t.csrs.epc (Var v_return) q) m.csrs.epc)),
      )

  all-kept : (k : ℕ) (ts : List State) → all_keep k ts ≡ true → OneDescribes kernel user to ts next → Keeps k
  all-kept k [] e m = absurd m
  all-kept k (t ∷ ts) e (inl m) = one-kept k t (then-l _ _ e) m
  all-kept k (t ∷ ts) e (inr m) = all-kept k ts (then-r (keeps_trap k t) _ e) m

  -- a load goes on, or traps
  load-csrs : (rd at bits after : ℕ) (z : Size) (x : Bool)
      → ((carried (Load rd z x at) bits after sys).hart.csrs ≡ sys.hart.csrs)
      ⊎ (((carried (Load rd z x at) bits after sys).hart.mode ≡ mode.Machine) × ((carried (Load rd z x at) bits after sys).hart.pc ≡ sys.hart.csrs.mtvec))
  unfolding effect_step trap_step
  load-csrs rd at bits after z x = go (refused_byte sys.hart.csrs sys.hart.mode Read at (bytes z)) _
    where
      go : (o : Option ℕ) (rs : List ℕ)
          → ((after_step sys (unless o LoadAccess (next_hart sys.bus (record sys.hart { pc = after; registers = rs })))).hart.csrs ≡ sys.hart.csrs)
          ⊎ (((after_step sys (unless o LoadAccess (next_hart sys.bus (record sys.hart { pc = after; registers = rs })))).hart.mode ≡ mode.Machine) × ((after_step sys (unless o LoadAccess (next_hart sys.bus (record sys.hart { pc = after; registers = rs })))).hart.pc ≡ sys.hart.csrs.mtvec))
      go None rs = inl refl
      go (Some b) rs = inr (refl, refl)

  -- where the step is left open: MRET, and the load of a path's byte, which goes on, since a trap does not follow
  opened : (k : PhaseKind) (n : ℕ) (u : State) → kernel_kind u.at ≡ k → follows k (kind_now next) ≡ true → is_bus_kept u ≡ true → Describes kernel user env u sys → Keeps n
  unfolding effect_of kernel_kind after_mret
  opened k n u kind order e m = orb (u.at == pc_path_load && same u.csrs.tvec (Lit pc_save)) (u.at == pc_return || u.at == pc_leave_return) e looks
      (λ q. orb (u.at == pc_return) (u.at == pc_leave_return) q
      (λ r. left (return-step user env sys fit pc_return u m (eqb-true u.at pc_return r) mret-there))
      (λ r. left (return-step user env sys fit pc_leave_return u m (eqb-true u.at pc_leave_return r) leave-there)))
    where
      left : next ≡ over sys.bus (after_mret sys.hart) → Keeps n
      left f = ((ap (λ z. z.hart.csrs.mcause) f, ap (λ z. z.hart.csrs.mtval) f), inr (ap (λ z. z.hart.csrs.mepc) f))

      looks : (u.at == pc_path_load && same u.csrs.tvec (Lit pc_save)) ≡ true → Keeps n
      looks q =
          let a = and_parts (u.at == pc_path_load) (same u.csrs.tvec (Lit pc_save)) q in
          let here : u.at ≡ pc_path_load = eqb-true u.at pc_path_load a.0 in
          let tvec : sys.hart.csrs.mtvec ≡ pc_save = subst (λ z. Is env z sys.hart.csrs.mtvec) (same-path u.csrs.tvec (Lit pc_save) a.1) m.csrs.tvec in
          let d = fetched kernel user env u sys m fit (Lbu 5 5 (pos 0)) (ap (λ z. fetch kernel z) here ∙ lbu-there) in
          by _ d here tvec (load-csrs 5 _ _ ((sys.hart.pc + 4) % 2 ^ 64) Byte false)
        where
          by : (z : System) → next ≡ z → u.at ≡ pc_path_load → sys.hart.csrs.mtvec ≡ pc_save → (z.hart.csrs ≡ sys.hart.csrs) ⊎ ((z.hart.mode ≡ mode.Machine) × (z.hart.pc ≡ sys.hart.csrs.mtvec)) → Keeps n
          by z d here t (inl f) =
              let c : next.hart.csrs ≡ sys.hart.csrs = ap (λ y. y.hart.csrs) d ∙ f in
              ((ap (λ y. y.mcause) c, ap (λ y. y.mtval) c), inr (ap (λ y. y.mepc) c))
          by z d here t (inr f) =
              let now : kind_now next ≡ Save = ap kind_now d ∙ ap (λ y. kind_of y z.hart.pc) f.0 ∙ ap kernel_kind (f.1 ∙ t) in
              let was : k ≡ Scan = sym kind ∙ ap kernel_kind here in
              absurd (false≢true (subst (λ y. follows y Save ≡ true) was (subst (λ y. follows k y ≡ true) now order)))

  here-keeps : (k : PhaseKind) (n : ℕ) → (nat_le store_gates n || number_code n == 99) ≡ false → (w : Here kernel user env blocks n sys) → kernel_kind w.state.at ≡ k → follows k (kind_now next) ≡ true → Keeps n
  here-keeps k n shut w kind order = go (successors kernel (named w.state)) refl test.1
    where
      shut-test : (x : Bool) → x ≡ false → ◌≡◌ {A = Bool} (elim x [ true ↦ true | false ↦ avoids_all w.state && tries (is_bus_kept w.state) (successors kernel (named w.state)) (all_keep n) ]) true → (avoids_all w.state && tries (is_bus_kept w.state) (successors kernel (named w.state)) (all_keep n)) ≡ true
      shut-test true e f = absurd (false≢true (sym e))
      shut-test false e f = f

      test : (avoids_all w.state ≡ true) × (tries (is_bus_kept w.state) (successors kernel (named w.state)) (all_keep n) ≡ true)
      test = and_parts (avoids_all w.state) _ (shut-test (nat_le store_gates n || number_code n == 99) shut (subst (λ z. trap_ok z w.state ≡ true) w.kind (blocks_all-at trap_ok kernel blocks w.block w.state trap_right w.among w.on)))

      go : (o : Option (List State)) → successors kernel (named w.state) ≡ o → tries (is_bus_kept w.state) (successors kernel (named w.state)) (all_keep n) ≡ true → Keeps n
      go (Some ts) q r = all-kept n ts (subst (λ z. tries (is_bus_kept w.state) z (all_keep n) ≡ true) q r) (led kernel user to may_follow blocks sys fit (named w.state) ts _ refl q (means w.state test.0 w.describes))
      go None q r = opened k n w.state kind order (subst (λ z. tries (is_bus_kept w.state) z (all_keep n) ≡ true) q r) w.describes

-- ---- which stages write mepc
both-false : (a b : Bool) → a ≡ false → b ≡ false → (a || b) ≡ false
both-false a b p q = rw (p, q) refl

far : (n : ℕ) → trap_words ≤ n → writes_return n ≡ false
far n l = both-false _ _ (ne_eqb n leaving_blocks (omega arith)) (ne_eqb n restoring_blocks (omega arith))

reads-return : (st : Stage) → stage_kind st ≢ Restore → writes_return (stage_number st) ≡ false
reads-return Restoring n = absurd (n refl)
reads-return (Saying c t) n = far (base c + 2 * t) (base-low c t)
reads-return (Said c t) n = far (base c + 2 * t + 1) (let l = base-low c t in omega arith)
reads-return (Ending true) n = refl
reads-return (Ending false) n = refl
reads-return (Ended true) n = refl
reads-return (Ended false) n = refl
reads-return st n = refl

boot-reads-return : (st : BootStage) → boot_kind st ≢ Leave → writes_return (boot_number st) ≡ false
boot-reads-return Leaving n = absurd (n refl)
boot-reads-return Booting n = refl
boot-reads-return BootWaiting n = refl
boot-reads-return BootTested n = refl
boot-reads-return BootTaking n = refl

-- ---- the clause
module _ (p : Phase) (sys : System) (fit : AreRegisters sys.hart.registers) (csrs : IsCsrs sys.hart.csrs) where
  abbrev after : System
  after = hart_step sys

  abbrev Stays : Type 0
  Stays = CauseKept sys.hart.csrs after.hart.csrs × (after.hart.csrs.mepc ≡ sys.hart.csrs.mepc)

  not-written : {A : Type 0} (b : Bool) → b ≡ false → (b ≡ true) ⊎ A → A
  not-written b e (inl q) = absurd (false≢true (sym e ∙ q))
  not-written b e (inr a) = a

  kernel-keeps : (k : PhaseKind) → (i : InKernel k p sys) → follows k (kind_now after) ≡ true → Keeps i.user i.env sys fit csrs (stage_number i.stage)
  kernel-keeps k i order =
      let kind : kernel_kind i.here.state.at ≡ k = ap kernel_kind (sym i.here.describes.at) ∙ sym (ap (λ z. kind_of z sys.hart.pc) i.here.describes.mode) ∙ kind-by-place i.user i.env i.stage sys i.here ∙ i.staged in
      here-keeps i.user i.env sys fit csrs k (stage_number i.stage) (shut-of i.stage p i.user i.env i.extra) i.here kind order

  boot-keeps : (k : PhaseKind) → (i : InBoot k p sys) → follows k (kind_now after) ≡ true → Keeps i.user i.env sys fit csrs (boot_number i.stage)
  boot-keeps k i order =
      let kind : kernel_kind i.here.state.at ≡ k = ap kernel_kind (sym i.here.describes.at) ∙ sym (ap (λ z. kind_of z sys.hart.pc) i.here.describes.mode) ∙ boot-by-place i.user i.env i.stage sys i.here ∙ i.staged in
      here-keeps i.user i.env sys fit csrs k (boot_number i.stage) (boot-shut i.stage) i.here kind order

  in-kernel : (k : PhaseKind) → k ≢ Restore → InKernel k p sys → follows k (kind_now after) ≡ true → Stays
  in-kernel k n i order = let r = kernel-keeps k i order in (r.0, not-written _ (reads-return i.stage (λ e. n (sym i.staged ∙ e))) r.1)

  in-boot : (k : PhaseKind) → k ≢ Leave → InBoot k p sys → follows k (kind_now after) ≡ true → Stays
  in-boot k n i order = let r = boot-keeps k i order in (r.0, not-written _ (boot-reads-return i.stage (λ e. n (sym i.staged ∙ e))) r.1)

  -- of the program
  module _ (u : InUser p sys) where
    abbrev counted_sys : System
    counted_sys = over sys.bus (counted_step mode.User sys.hart)

    step : after ≡ seen_by (user_step (user_of sys)) counted_sys
    step = user_steps_agree sys u.run u.user_mode u.fenced

    pc-same : instruction_aligned sys.hart.pc ≡ sys.hart.pc
    pc-same = let q = u.pc_even in omega arith

    goes-on : Told User User p sys after → TrapAfter User User sys after
    goes-on t =
        let e = step ∙ ap (λ z. seen_by z counted_sys) t.1 in
        ((ap (λ z. z.hart.csrs.mcause) e, ap (λ z. z.hart.csrs.mtval) e), ap (λ z. z.hart.csrs.mepc) e)

    saves : TrapTold sys after → TrapAfter User Save sys after
    unfolding trap_step
    saves (inl h) = (inl h, ap (λ z. z.hart.csrs.mepc) (step ∙ ap (λ z. seen_by z counted_sys) h.0) ∙ pc-same)
    saves (inr h) = (inr h, ap (λ z. z.hart.csrs.mepc) (step ∙ ap (λ z. seen_by z counted_sys) h.2) ∙ pc-same)

  pub trap-after : (k now : PhaseKind) → Place k p sys → follows k now ≡ true → follows k (kind_now after) ≡ true → Told k now p sys after → TrapAfter k now sys after
  trap-after User User i e o t = goes-on i t
  trap-after User Save i e o t = saves i t.0
  trap-after User now i e o t = absurd (false≢true e)
  trap-after Leave now i e o t = (boot-keeps Leave i o).0
  trap-after Restore now i e o t = (kernel-keeps Restore i o).0
  trap-after Boot now i e o t = in-boot Boot (λ z. cc) i o
  trap-after BootWait now i e o t = in-boot BootWait (λ z. cc) i o
  trap-after BootTake now i e o t = in-boot BootTake (λ z. cc) i o
  trap-after Save now i e o t = in-kernel Save (λ z. cc) i o
  trap-after Check now i e o t = in-kernel Check (λ z. cc) i o
  trap-after Scan now i e o t = in-kernel Scan (λ z. cc) i o
  trap-after Fill now i e o t = in-kernel Fill (λ z. cc) i o
  trap-after Wait now i e o t = in-kernel Wait (λ z. cc) i o
  trap-after Take now i e o t = in-kernel Take (λ z. cc) i o
  trap-after Local now i e o t = in-kernel Local (λ z. cc) i o
  trap-after Speak now i e o t = in-kernel Speak (λ z. cc) i o
  trap-after Closing now i e o t = in-kernel Closing (λ z. cc) i o
