-- The mailbox over every step.
use Rattle.std.proofs.Common.{◌≡◌, ◌≢◌, ℕ, ◌+◌, ◌*◌, ◌<◌, ◌≤◌, ◌==◌, Bool, true, false, ◌||◌, refl, ap, sym, subst, ◌∙◌, arith}
use Rattle.std.proofs.lemmas.Bool.{false≢true, ne_eqb}
use Rattle.rv_hart.specs.HartStep.{System, HartState, AreRegisters, IsHart, hart_step, over, trap_step, counted_step}
use Rattle.rv_csr.specs.declared.privilege.Mode.TheVariants as mode
use Rattle.guest_memory.specs.Bus.{IsBus}
use Rattle.guest_memory.specs.Memory.{load}
use Rattle.guest_memory.proofs.AreaLemmas.{bus_load-kernel}
use Rattle.plain_machine.specs.UserStep.{UserStep, call, trap, user_step}
use Rattle.plain_machine.specs.UserStep as user_spec
use Rattle.kernel_sim.specs.UserMode.{user_of}
use Rattle.kernel_sim.proofs.UserSteps.{seen_by}
use Rattle.kernel_sim.proofs.Agreement.{user_steps_agree}
use Rattle.kernel_sim.specs.declared.phase.PhaseKind.{PhaseKind}
use Rattle.kernel_sim.specs.declared.phase.PhaseKind.TheVariants.{Boot, BootWait, BootTake, Leave, User, Save, Check, Scan, Fill, Wait, Take, Local, Restore, Speak, Closing}
use Rattle.kernel_sim.specs.declared.phase.Phase.{Phase}
use Rattle.kernel_sim.specs.Phases.{kernel_kind, kind_of, kind_now, next_phase, dword}
use Rattle.std.specs.Prelude.{slice_index}
use Rattle.kernel_sim.specs.Ready.{Nothing, need, NeedIs}
use Rattle.kernel_sim.proofs.ReadyLaws.{ready-step}
use Rattle.kernel_sim.proofs.HostLaws.{shut-of, boot-shut}
use Rattle.kernel_sim.specs.Mail.{MailClass, Quiet, mail_class, MailIs}
use Rattle.kernel_sim.specs.Stages.{Stage, Tested, base, Saying, Said, Ending, Ended, stage_kind, stage_number, Extra, BootStage, BootTested, boot_kind, boot_number, BootSeen, InBoot, InKernel, InUser, Place, HoldsAs, Known}
use Rattle.kernel_sim.proofs.Gates.{number_code}
use Rattle.kernel_sim.proofs.StepLaws.{step_law, step_told}
use Rattle.kernel_sim.proofs.PlaceLaws.{code-of, boot-code, code-small}
use Rattle.kernel_sim.proofs.BreakLaws.{breaks_law}
use Rattle.kernel_sim.proofs.MailLaws.{class_of, class-same, mail-step, kept-quiet}
use Rattle.kernel_code.specs.Places.{tohost_place, fromhost_place, pc_save}
use Rattle.kernel_code.specs.Numbers.{trap_words, tested_blocks, boot_tested_blocks, v_fromhost}
use Rattle.fe_base.specs.MemoryMap.{tohost, fromhost}

module _ (p : Phase) (sys : System) (fit : AreRegisters sys.hart.registers) where
  abbrev next : System
  next = hart_step sys

  abbrev w0 : System → ℕ
  w0 z = load z.bus.kernel tohost_place 8

  abbrev w8 : System → ℕ
  w8 z = load z.bus.kernel fromhost_place 8

  abbrev Result : Type 0
  Result = MailIs (mail_class (kind_now next)) (w0 next) (w8 next)

  big-apart : (n m : ℕ) → trap_words ≤ n → m < trap_words → (n == m) ≡ false
  big-apart n m a b = ne_eqb n m (omega arith)

  no-57 : (n : ℕ) → trap_words ≤ n → (n == tested_blocks || n == boot_tested_blocks) ≡ false
  no-57 n l = rw (big-apart n tested_blocks l (omega arith), big-apart n boot_tested_blocks l (omega arith)) refl

  base-big : (c : Bool) (t : ℕ) → trap_words ≤ base c + 2 * t
  base-big true t = omega arith
  base-big false t = omega arith

  seen-of : (st : Stage) (user : _) (env : ℕ → ℕ) → Extra st p user env → p.fromhost ≡ w8 sys → (stage_number st == tested_blocks || stage_number st == boot_tested_blocks) ≡ true → env v_fromhost ≢ 0 → w8 sys ≢ 0
  seen-of Tested user env x f e = λ ne z. x.1 ne (f ∙ z)
  seen-of (Saying c t) user env x f e = absurd (false≢true (sym (no-57 _ (base-big c t)) ∙ e))
  seen-of (Said c t) user env x f e = let b = base-big c t in absurd (false≢true (sym (no-57 (base c + 2 * t + 1) (omega arith)) ∙ e))
  seen-of (Ending true) user env x f e = absurd (false≢true e)
  seen-of (Ending false) user env x f e = absurd (false≢true e)
  seen-of (Ended true) user env x f e = absurd (false≢true e)
  seen-of (Ended false) user env x f e = absurd (false≢true e)
  seen-of st user env x f e = absurd (false≢true e)

  shut : (st : Stage) → (number_code (stage_number st) == 99) ≡ false
  shut st = ap (λ z. z == 99) (code-of st) ∙ code-small (stage_kind st)

  same-class : (st : Stage) → class_of (number_code (stage_number st)) ≡ mail_class (stage_kind st)
  same-class st = ap class_of (code-of st) ∙ class-same (stage_kind st)

  quiet-words : (c : MailClass) → c ≡ Quiet → MailIs c (w0 sys) (w8 sys) → (w0 sys ≡ 0) × (w8 sys ≡ 0)
  quiet-words c e h = subst (λ z. MailIs z (w0 sys) (w8 sys)) e h

  in-kernel-mail : (k : PhaseKind) → (i : InKernel k p sys) → p.fromhost ≡ w8 sys → MailIs (mail_class k) (w0 sys) (w8 sys) → Result
  in-kernel-mail k i f h =
      let h2 : MailIs (mail_class (stage_kind i.stage)) (w0 sys) (w8 sys) = subst (λ z. MailIs (mail_class z) (w0 sys) (w8 sys)) (sym i.staged) h in
      mail-step i.user i.env sys fit (stage_number i.stage) (shut i.stage) i.here (subst (λ z. MailIs z (w0 sys) (w8 sys)) (sym (same-class i.stage)) h2) (seen-of i.stage i.user i.env i.extra f)
      (λ e a b. kept-quiet i.user i.env sys fit i.here.state e i.here.describes a b)

  boot-seen : (st : BootStage) (env : ℕ → ℕ) → BootSeen st p env → p.fromhost ≡ w8 sys → (boot_number st == tested_blocks || boot_number st == boot_tested_blocks) ≡ true → env v_fromhost ≢ 0 → w8 sys ≢ 0
  boot-seen BootTested env x f e = λ ne z. x ne (f ∙ z)
  boot-seen st env x f e = absurd (false≢true e)

  in-boot-mail : (k : PhaseKind) → (i : InBoot k p sys) → p.fromhost ≡ w8 sys → MailIs (mail_class k) (w0 sys) (w8 sys) → Result
  in-boot-mail k i f h =
      let h2 : MailIs (mail_class (boot_kind i.stage)) (w0 sys) (w8 sys) = subst (λ z. MailIs (mail_class z) (w0 sys) (w8 sys)) (sym i.staged) h in
      let c : class_of (number_code (boot_number i.stage)) ≡ mail_class (boot_kind i.stage) = ap class_of (boot-code i.stage) ∙ class-same (boot_kind i.stage) in
      mail-step i.user i.env sys fit (boot_number i.stage) (ap (λ z. z == 99) (boot-code i.stage) ∙ code-small (boot_kind i.stage)) i.here (subst (λ z. MailIs z (w0 sys) (w8 sys)) (sym c) h2) (boot-seen i.stage i.env i.seen f)
      (λ e a b. kept-quiet i.user i.env sys fit i.here.state e i.here.describes a b)

  -- a user step leaves the kernel area
  in-user-mail : InUser p sys → (w0 sys ≡ 0) × (w8 sys ≡ 0) → Result
  unfolding kernel_kind trap_step
  in-user-mail u h = go (user_step (user_of sys)) refl
    where
      counted_now : HartState
      counted_now = counted_step mode.User sys.hart

      step : next ≡ seen_by (user_step (user_of sys)) (over sys.bus (counted_step mode.User sys.hart))
      step = user_steps_agree sys u.run u.user_mode u.fenced

      ends : (z : System) → next ≡ z → mail_class (kind_now z) ≡ Quiet → z.bus.kernel ≡ sys.bus.kernel → Result
      ends z e q k = subst (λ c. MailIs c (w0 next) (w8 next)) (sym (ap (λ y. mail_class (kind_now y)) e ∙ q)) (ap w0 e ∙ ap (λ y. load y tohost_place 8) k ∙ h.0, ap w8 e ∙ ap (λ y. load y fromhost_place 8) k ∙ h.1)

      at_handler : (pc : ℕ) → pc ≡ pc_save → mail_class (kernel_kind pc) ≡ Quiet
      at_handler pc e = rw e refl

      go : (r : UserStep) → user_step (user_of sys) ≡ r → Result
      go (user_spec.next st) q = ends _ (step ∙ ap (λ z. seen_by z (over sys.bus (counted_step mode.User sys.hart))) q) (ap (λ m. mail_class (kind_of m st.pc)) u.user_mode) refl
      go call q = ends _ (step ∙ ap (λ z. seen_by z (over sys.bus (counted_step mode.User sys.hart))) q) (at_handler sys.hart.csrs.mtvec u.handler_is) refl
      go (trap c v) q = ends _ (step ∙ ap (λ z. seen_by z (over sys.bus (counted_step mode.User sys.hart))) q) (at_handler sys.hart.csrs.mtvec u.handler_is) refl

  -- ---- TOHOST, from its load to the store
  abbrev Readied : Type 0
  Readied = NeedIs (need next.hart.mode next.hart.pc) (slice_index next.hart.registers 6) (w0 next)

  in-kernel-ready : (k : PhaseKind) → IsBus sys.bus → (i : InKernel k p sys) → NeedIs (need sys.hart.mode sys.hart.pc) (slice_index sys.hart.registers 6) (w0 sys) → Readied
  in-kernel-ready k whole i h = ready-step i.user i.env sys fit whole (stage_number i.stage) (shut-of i.stage p i.user i.env i.extra) i.here h

  in-boot-ready : (k : PhaseKind) → IsBus sys.bus → (i : InBoot k p sys) → NeedIs (need sys.hart.mode sys.hart.pc) (slice_index sys.hart.registers 6) (w0 sys) → Readied
  in-boot-ready k whole i h = ready-step i.user i.env sys fit whole (boot_number i.stage) (boot-shut i.stage) i.here h

  in-user-ready : InUser p sys → Readied
  unfolding trap_step
  in-user-ready u = go (user_step (user_of sys)) refl
    where
      step : next ≡ seen_by (user_step (user_of sys)) (over sys.bus (counted_step mode.User sys.hart))
      step = user_steps_agree sys u.run u.user_mode u.fenced

      ends : (z : System) → next ≡ z → need z.hart.mode z.hart.pc ≡ Nothing → Readied
      ends z e q = subst (λ n. NeedIs n (slice_index next.hart.registers 6) (w0 next)) (sym (ap (λ y. need y.hart.mode y.hart.pc) e ∙ q)) tt

      at_handler : (pc : ℕ) → pc ≡ pc_save → need mode.Machine pc ≡ Nothing
      at_handler pc e = rw e refl

      go : (r : UserStep) → user_step (user_of sys) ≡ r → Readied
      go (user_spec.next st) q = ends _ (step ∙ ap (λ z. seen_by z (over sys.bus (counted_step mode.User sys.hart))) q) (ap (λ m. need m st.pc) u.user_mode)
      go call q = ends _ (step ∙ ap (λ z. seen_by z (over sys.bus (counted_step mode.User sys.hart))) q) (at_handler sys.hart.csrs.mtvec u.handler_is)
      go (trap c v) q = ends _ (step ∙ ap (λ z. seen_by z (over sys.bus (counted_step mode.User sys.hart))) q) (at_handler sys.hart.csrs.mtvec u.handler_is)

  ready-kind : (k : PhaseKind) → IsBus sys.bus → Place k p sys → NeedIs (need sys.hart.mode sys.hart.pc) (slice_index sys.hart.registers 6) (w0 sys) → Readied
  ready-kind User b i h = in-user-ready i
  ready-kind Boot b i h = in-boot-ready Boot b i h
  ready-kind BootWait b i h = in-boot-ready BootWait b i h
  ready-kind BootTake b i h = in-boot-ready BootTake b i h
  ready-kind Leave b i h = in-boot-ready Leave b i h
  ready-kind Save b i h = in-kernel-ready Save b i h
  ready-kind Check b i h = in-kernel-ready Check b i h
  ready-kind Scan b i h = in-kernel-ready Scan b i h
  ready-kind Fill b i h = in-kernel-ready Fill b i h
  ready-kind Wait b i h = in-kernel-ready Wait b i h
  ready-kind Take b i h = in-kernel-ready Take b i h
  ready-kind Local b i h = in-kernel-ready Local b i h
  ready-kind Restore b i h = in-kernel-ready Restore b i h
  ready-kind Speak b i h = in-kernel-ready Speak b i h
  ready-kind Closing b i h = in-kernel-ready Closing b i h

  pub ready_law : (k : PhaseKind) → IsBus sys.bus → HoldsAs k p sys → NeedIs (need sys.hart.mode sys.hart.pc) (slice_index sys.hart.registers 6) p.tohost → NeedIs (need next.hart.mode next.hart.pc) (slice_index next.hart.registers 6) (dword next.bus tohost)
  ready_law k b h n =
      subst (λ z. NeedIs (need next.hart.mode next.hart.pc) (slice_index next.hart.registers 6) z) (sym (bus_load-kernel next.bus tohost 8 (omega arith)))
      (ready-kind k b h.place (subst (λ z. NeedIs (need sys.hart.mode sys.hart.pc) (slice_index sys.hart.registers 6) z) (h.tohost_is ∙ bus_load-kernel sys.bus tohost 8 (omega arith)) n))

  words : (k : PhaseKind) → HoldsAs k p sys → MailIs (mail_class k) p.tohost p.fromhost → MailIs (mail_class k) (w0 sys) (w8 sys)
  words k h m = subst (λ z. MailIs (mail_class k) z (w8 sys)) (h.tohost_is ∙ bus_load-kernel sys.bus tohost 8 (omega arith)) (subst (λ z. MailIs (mail_class k) p.tohost z) (h.fromhost_is ∙ bus_load-kernel sys.bus fromhost 8 (omega arith)) m)

  seen_word : (k : PhaseKind) → HoldsAs k p sys → p.fromhost ≡ w8 sys
  seen_word k h = h.fromhost_is ∙ bus_load-kernel sys.bus fromhost 8 (omega arith)

  by-kind : (k : PhaseKind) → Place k p sys → p.fromhost ≡ w8 sys → MailIs (mail_class k) (w0 sys) (w8 sys) → Result
  by-kind User i f h = in-user-mail i h
  by-kind Boot i f h = in-boot-mail Boot i f h
  by-kind BootWait i f h = in-boot-mail BootWait i f h
  by-kind BootTake i f h = in-boot-mail BootTake i f h
  by-kind Leave i f h = in-boot-mail Leave i f h
  by-kind Save i f h = in-kernel-mail Save i f h
  by-kind Check i f h = in-kernel-mail Check i f h
  by-kind Scan i f h = in-kernel-mail Scan i f h
  by-kind Fill i f h = in-kernel-mail Fill i f h
  by-kind Wait i f h = in-kernel-mail Wait i f h
  by-kind Take i f h = in-kernel-mail Take i f h
  by-kind Local i f h = in-kernel-mail Local i f h
  by-kind Restore i f h = in-kernel-mail Restore i f h
  by-kind Speak i f h = in-kernel-mail Speak i f h
  by-kind Closing i f h = in-kernel-mail Closing i f h

  -- the mailbox of the phase after a step
  pub mail_law : (k : PhaseKind) → HoldsAs k p sys → MailIs (mail_class k) p.tohost p.fromhost → MailIs (mail_class (kind_now next)) (dword next.bus tohost) (dword next.bus fromhost)
  mail_law k h m =
      subst (λ z. MailIs (mail_class (kind_now next)) z (dword next.bus fromhost)) (sym (bus_load-kernel next.bus tohost 8 (omega arith)))
      (subst (λ z. MailIs (mail_class (kind_now next)) (w0 next) z) (sym (bus_load-kernel next.bus fromhost 8 (omega arith))) (by-kind k h.place (seen_word k h) (words k h m)))

-- a step from a phase leads to one in which the next phase holds
pub advance_law : (p : Phase) (sys : System) → Known p sys → IsBus sys.bus → IsHart sys.hart → IsBus (hart_step sys).bus → IsHart (hart_step sys).hart → Known (next_phase p (hart_step sys)) (hart_step sys)
unfolding Known
advance_law p sys h b i b2 i2 = (step_law p.kind p sys h.0 b i b2 i2, mail_law p sys i.registers_fit p.kind h.0 h.1, ready_law p sys i.registers_fit p.kind b h.0 h.2, breaks_law p sys i.registers_fit p.kind h.0 h.3 (step_told p.kind p sys h.0 b i b2 i2).0)

-- the same, of a step that was made and a phase that was computed
pub advanced : (p q : Phase) (sys made : System) → Known p sys → IsBus sys.bus → IsHart sys.hart → made ≡ hart_step sys → IsBus made.bus → IsHart made.hart → q ≡ next_phase p made → Known q made
advanced p q sys made h b i e b2 i2 f =
    subst (λ z. Known z made) (sym f)
    (subst (λ z. Known (next_phase p z) z) (sym e) (advance_law p sys h b i (subst (λ z. IsBus z.bus) e b2) (subst (λ z. IsHart z.hart) e i2)))
