-- The kernel's break and first break are those of the phase, after each step.
use Rattle.std.proofs.Common.{inl, inr, ◌≡◌, ◌≢◌, ℕ, ◌+◌, ◌*◌, ◌≤◌, ◌==◌, Bool, true, false, ◌&&◌, ◌||◌, ◌⊎◌, Option, Some, None, List, [], ◌∷◌, get_or, refl, ap, sym, subst, ◌∙◌, arith}
use Rattle.std.specs.Prelude.{nat_le, nat_lt, slice_index}
use Rattle.std.proofs.lemmas.Bool.{false≢true, and_parts, ne_eqb}
use Rattle.fe_base.specs.MemoryMap.{kernel_variables, boot, kernel_code_size}
use Rattle.rv_csr.specs.CsrTable.{csr_of}
use Rattle.rv_csr.specs.declared.privilege.Mode.TheVariants as mode
use Rattle.rv_hart.specs.HartStep.{System, AreRegisters, hart_step, over, counted_step}
use Rattle.guest_memory.specs.Memory.{load}
use Rattle.guest_memory.proofs.AreaLemmas.{bus_load-kernel}
use Rattle.plain_machine.specs.UserStep.{UserStep, call, trap, user_step}
use Rattle.plain_machine.specs.UserStep as user_spec
use Rattle.kernel_steps.specs.Terms.{Var, Unknown, Is}
use Rattle.kernel_steps.specs.States.{State, Describes, OneDescribes}
use Rattle.kernel_steps.specs.Successors.{successors}
use Rattle.kernel_steps.specs.Blocks.{Here, same, has_fact}
use Rattle.kernel_steps.proofs.GraphLaws.{led, same-path, has_fact-holds, then-l, then-r}
use Rattle.kernel_steps.proofs.Soundness.{CellsAre-get}
use Rattle.kernel_steps.proofs.Tests.{blocks_all, blocks_all-at}
use Rattle.kernel_code.specs.Places.{break_cell, break_place}
use Rattle.kernel_code.specs.Numbers.{booting_blocks, break_blocks, trap_words, store_gates, v_first_break}
use Rattle.kernel_code.specs.Kinds.{may_follow}
use Rattle.kernel_code.specs.Kernel.{kernel, blocks}
use Rattle.proxy_kernel.specs.KernelWords.{kernel_insns}
use Rattle.kernel_code.specs.Calls.{call_blocks}
use Rattle.kernel_code.specs.TrapWords.{trap_blocks}
use Rattle.kernel_code.specs.CounterWords.{counter_blocks}
use Rattle.kernel_code.specs.Shorthand.{cells_0, cells_1, cells_2, cells_3, cells_4, cells_5, cells_6, cells_7, cells_8, cells_9, csrs_0, csrs_1, csrs_2}
use Rattle.kernel_sim.specs.UserMode.{user_of}
use Rattle.kernel_sim.proofs.UserSteps.{seen_by}
use Rattle.kernel_sim.proofs.Agreement.{user_steps_agree}
use Rattle.kernel_sim.specs.declared.phase.PhaseKind.{PhaseKind}
use Rattle.kernel_sim.specs.declared.phase.PhaseKind.TheVariants.{Boot, BootWait, BootTake, Leave, User, Save, Check, Scan, Fill, Wait, Take, Local, Restore, Speak, Closing}
use Rattle.kernel_sim.specs.declared.phase.Phase.{Phase}
use Rattle.kernel_sim.specs.declared.phase.UserState.{UserState}
use Rattle.kernel_sim.specs.Phases.{dword, user_after, phase_from, kind_now}
use Rattle.kernel_sim.specs.Steps.{follows}
use Rattle.kernel_sim.specs.Stages.{Stage, NoCall, Outside, Long, Breaking, base, Saying, Said, Ending, Ended, stage_kind, stage_number, BootStage, Booting, BootWaiting, BootTested, BootTaking, Leaving, boot_kind, boot_number, InKernel, InBoot, InUser, Place, HoldsAs, BreaksAre, Links, Extra}
use Rattle.kernel_sim.specs.Rows.{call_part}
use Rattle.kernel_sim.proofs.Gates.{number_code, below_first, above_top}
use Rattle.kernel_sim.proofs.PartLaws.{break-part}
use Rattle.plain_machine.specs.KernelPart.{breaks, break_after}
use Rattle.kernel_sim.proofs.MessageLaws.{base-low}
use Rattle.kernel_sim.proofs.HostLaws.{shut-of, boot-shut}
use Rattle.kernel_sim.proofs.MailLaws.{is_bus_kept, bus-kept, tries}
use Rattle.kernel_sim.proofs.KeptLaws.{holds-cell, cell-held, block_kept}

-- ---- the break's doubleword over a step, but in Boot and in a call of brk
abbrev all_stay : State → List State → Bool
all_stay u [] = true
all_stay u (t ∷ ts) = elim (holds-cell u t break_cell) [ true ↦ all_stay u ts | false ↦ false ]

abbrev stays_by : State → Option (List State) → Bool
stays_by u (Some ts) = all_stay u ts
stays_by u None = is_bus_kept u

abbrev is_moving : ℕ → Bool
is_moving k = (nat_le store_gates k || number_code k == 99) || (k == booting_blocks || k == break_blocks)

abbrev stays_ok : ℕ → State → Bool
stays_ok k u = elim (is_moving k) [ true ↦ true | false ↦ stays_by u (successors kernel u) ]

stays_right : blocks_all stays_ok kernel blocks ≡ true
unfolding kernel kernel_insns blocks call_blocks trap_blocks counter_blocks cells_0 cells_1 cells_2 cells_3 cells_4 cells_5 cells_6 cells_7 cells_8 cells_9 csrs_0 csrs_1 csrs_2 csr_of
stays_right = refl

module _ (user : List ℕ) (env : ℕ → ℕ) (sys : System) (fit : AreRegisters sys.hart.registers) where
  abbrev next : System
  next = hart_step sys

  abbrev Kept : Type 0
  Kept = load next.bus.kernel break_place 8 ≡ load sys.bus.kernel break_place 8

  all-kept : (u : State) (ts : List State) → all_stay u ts ≡ true → Describes kernel user env u sys → OneDescribes kernel user env ts next → Kept
  all-kept u [] e m n = absurd n
  all-kept u (t ∷ ts) e m (inl n) = cell-held user env sys fit u t break_cell break_place refl (then-l _ _ e) m n
  all-kept u (t ∷ ts) e m (inr n) = all-kept u ts (then-r (holds-cell u t break_cell) _ e) m n

  keeps : (u : State) → stays_by u (successors kernel u) ≡ true → Describes kernel user env u sys → Kept
  keeps u e m = go (successors kernel u) refl e
    where
      go : (o : Option (List State)) → successors kernel u ≡ o → stays_by u o ≡ true → Kept
      go (Some ts) q r = all-kept u ts r m (led kernel user env may_follow blocks sys fit u ts _ refl q m)
      go None q r = ap (λ z. load z.kernel break_place 8) (bus-kept user env sys fit u r m)

  here-keeps : (k : ℕ) → is_moving k ≡ false → Here kernel user env blocks k sys → Kept
  here-keeps k shut w = keeps w.state (go (is_moving k) shut (subst (λ z. stays_ok z w.state ≡ true) w.kind (blocks_all-at stays_ok kernel blocks w.block w.state stays_right w.among w.on))) w.describes
    where
      go : (x : Bool) → x ≡ false → ◌≡◌ {A = Bool} (elim x [ true ↦ true | false ↦ stays_by w.state (successors kernel w.state) ]) true → stays_by w.state (successors kernel w.state) ≡ true
      go true e h = absurd (false≢true (sym e))
      go false e h = h

-- ---- the break's doubleword over a step in a call of brk: it stays, or becomes the break that is asked for
abbrev moved_to : State → Bool
moved_to t = same (get_or t.cells break_cell Unknown) (Var 10) && (has_fact (below_first false) t.facts && has_fact (above_top false) t.facts)

abbrev all_once : State → List State → Bool
all_once u [] = true
all_once u (t ∷ ts) = elim (holds-cell u t break_cell || moved_to t) [ true ↦ all_once u ts | false ↦ false ]

abbrev once_ok : ℕ → State → Bool
once_ok k u = elim (k == break_blocks) [ true ↦ tries false (successors kernel u) (all_once u) | false ↦ true ]

once_right : blocks_all once_ok kernel blocks ≡ true
unfolding kernel kernel_insns blocks call_blocks trap_blocks counter_blocks cells_0 cells_1 cells_2 cells_3 cells_4 cells_5 cells_6 cells_7 cells_8 cells_9 csrs_0 csrs_1 csrs_2 csr_of
once_right = refl

orb : {P : Type 0} (a b : Bool) → (a || b) ≡ true → (a ≡ true → P) → (b ≡ true → P) → P
orb true b e f g = f refl
orb false b e f g = g e

module _ (user : List ℕ) (env : ℕ → ℕ) (sys : System) (fit : AreRegisters sys.hart.registers) where
  abbrev stepped : System
  stepped = hart_step sys

  abbrev pub Moved : Type 0
  Moved = (load stepped.bus.kernel break_place 8 ≡ env 10) × (nat_lt (env 10) (env v_first_break) ≡ false) × (nat_lt 15728640 (env 10) ≡ false)

  abbrev Once : Type 0
  Once = (load stepped.bus.kernel break_place 8 ≡ load sys.bus.kernel break_place 8) ⊎ Moved

  one-moved : (t : State) → moved_to t ≡ true → Describes kernel user env t stepped → Moved
  one-moved t e m =
      let a = and_parts (same (get_or t.cells break_cell Unknown) (Var 10)) (has_fact (below_first false) t.facts && has_fact (above_top false) t.facts) e in
      let b = and_parts (has_fact (below_first false) t.facts) (has_fact (above_top false) t.facts) a.1 in (
        subst (λ z. Is env z (load stepped.bus.kernel break_place 8)) (same-path (get_or t.cells break_cell Unknown) (Var 10) a.0) (CellsAre-get env t.cells stepped.bus.kernel kernel_code_size break_cell break_place refl m.memory.cells_are),
        has_fact-holds env (below_first false) t.facts b.0 m.facts,
        has_fact-holds env (above_top false) t.facts b.1 m.facts,
      )

  all-moved : (u : State) (ts : List State) → all_once u ts ≡ true → Describes kernel user env u sys → OneDescribes kernel user env ts stepped → Once
  all-moved u [] e m n = absurd n
  all-moved u (t ∷ ts) e m (inl n) = orb (holds-cell u t break_cell) (moved_to t) (then-l _ _ e) (λ q. inl (cell-held user env sys fit u t break_cell break_place refl q m n)) (λ q. inr (one-moved t q n))
  all-moved u (t ∷ ts) e m (inr n) = all-moved u ts (then-r (holds-cell u t break_cell || moved_to t) _ e) m n

  pub moves-once : Here kernel user env blocks break_blocks sys → Once
  moves-once w = go (successors kernel w.state) refl (subst (λ z. once_ok z w.state ≡ true) w.kind (blocks_all-at once_ok kernel blocks w.block w.state once_right w.among w.on))
    where
      go : (o : Option (List State)) → successors kernel w.state ≡ o → tries false (successors kernel w.state) (all_once w.state) ≡ true → Once
      go (Some ts) q r = all-moved w.state ts (subst (λ z. tries false z (all_once w.state) ≡ true) q r) w.describes (led kernel user env may_follow blocks sys fit w.state ts _ refl q w.describes)
      go None q r = absurd (false≢true (subst (λ z. tries false z (all_once w.state) ≡ true) q r))

-- which stages those are
both-false : (a b : Bool) → a ≡ false → b ≡ false → (a || b) ≡ false
both-false a b p q = rw (p, q) refl

far : (n : ℕ) → trap_words ≤ n → (n == booting_blocks || n == break_blocks) ≡ false
far n l = both-false _ _ (ne_eqb n booting_blocks (omega arith)) (ne_eqb n break_blocks (omega arith))

unmoving : (st : Stage) → stage_kind st ≢ Local → (stage_number st == booting_blocks || stage_number st == break_blocks) ≡ false
unmoving Breaking n = absurd (n refl)
unmoving (Saying c t) n = far (base c + 2 * t) (base-low c t)
unmoving (Said c t) n = far (base c + 2 * t + 1) (let l = base-low c t in omega arith)
unmoving (Ending true) n = refl
unmoving (Ending false) n = refl
unmoving (Ended true) n = refl
unmoving (Ended false) n = refl
unmoving st n = refl

boot-unmoving : (st : BootStage) → boot_kind st ≢ Boot → (boot_number st == booting_blocks || boot_number st == break_blocks) ≡ false
boot-unmoving Booting n = absurd (n refl)
boot-unmoving BootWaiting n = refl
boot-unmoving BootTested n = refl
boot-unmoving BootTaking n = refl
boot-unmoving Leaving n = refl

-- the break in a call that the kernel answers
abbrev pub LocalBreak : Phase → System → System → Type 0
LocalBreak p old new = (dword new.bus kernel_variables ≡ p.user.brk) ⊎ (call_part p old.bus.user ≡ breaks (dword new.bus kernel_variables))

-- ---- the phase's break and first break
break-after : (was now : PhaseKind) (u : UserState) (new : System) → (was ≢ Boot → was ≢ Local → u.brk ≡ dword new.bus kernel_variables) → follows was now ≡ true → now ≢ Boot → (user_after was now u new).brk ≡ dword new.bus kernel_variables
break-after Boot Boot u new f e n = absurd (n refl)
break-after Boot BootWait u new f e n = refl
break-after Boot now u new f e n = absurd (false≢true e)
break-after BootWait now u new f e n = f (λ z. cc) (λ z. cc)
break-after BootTake now u new f e n = f (λ z. cc) (λ z. cc)
break-after Leave Leave u new f e n = f (λ z. cc) (λ z. cc)
break-after Leave User u new f e n = f (λ z. cc) (λ z. cc)
break-after Leave now u new f e n = absurd (false≢true e)
break-after User User u new f e n = f (λ z. cc) (λ z. cc)
break-after User Save u new f e n = f (λ z. cc) (λ z. cc)
break-after User now u new f e n = absurd (false≢true e)
break-after Save now u new f e n = f (λ z. cc) (λ z. cc)
break-after Check now u new f e n = f (λ z. cc) (λ z. cc)
break-after Scan now u new f e n = f (λ z. cc) (λ z. cc)
break-after Fill now u new f e n = f (λ z. cc) (λ z. cc)
break-after Wait now u new f e n = f (λ z. cc) (λ z. cc)
break-after Take Take u new f e n = f (λ z. cc) (λ z. cc)
break-after Take Restore u new f e n = refl
break-after Take now u new f e n = absurd (false≢true e)
break-after Local Local u new f e n = refl
break-after Local Restore u new f e n = refl
break-after Local now u new f e n = absurd (false≢true e)
break-after Restore now u new f e n = f (λ z. cc) (λ z. cc)
break-after Speak now u new f e n = f (λ z. cc) (λ z. cc)
break-after Closing now u new f e n = f (λ z. cc) (λ z. cc)

first-after : (was now : PhaseKind) (u : UserState) (new : System) → (was ≢ Boot → u.first_break ≡ dword new.bus (boot + 8)) → follows was now ≡ true → now ≢ Boot → (user_after was now u new).first_break ≡ dword new.bus (boot + 8)
first-after Boot Boot u new f e n = absurd (n refl)
first-after Boot BootWait u new f e n = refl
first-after Boot now u new f e n = absurd (false≢true e)
first-after BootWait now u new f e n = f (λ z. cc)
first-after BootTake now u new f e n = f (λ z. cc)
first-after Leave Leave u new f e n = f (λ z. cc)
first-after Leave User u new f e n = f (λ z. cc)
first-after Leave now u new f e n = absurd (false≢true e)
first-after User User u new f e n = f (λ z. cc)
first-after User Save u new f e n = f (λ z. cc)
first-after User now u new f e n = absurd (false≢true e)
first-after Save now u new f e n = f (λ z. cc)
first-after Check now u new f e n = f (λ z. cc)
first-after Scan now u new f e n = f (λ z. cc)
first-after Fill now u new f e n = f (λ z. cc)
first-after Wait now u new f e n = f (λ z. cc)
first-after Take Take u new f e n = f (λ z. cc)
first-after Take Restore u new f e n = f (λ z. cc)
first-after Take now u new f e n = absurd (false≢true e)
first-after Local Local u new f e n = f (λ z. cc)
first-after Local Restore u new f e n = f (λ z. cc)
first-after Local now u new f e n = absurd (false≢true e)
first-after Restore now u new f e n = f (λ z. cc)
first-after Speak now u new f e n = f (λ z. cc)
first-after Closing now u new f e n = f (λ z. cc)

module _ (p : Phase) (sys : System) (fit : AreRegisters sys.hart.registers) where
  abbrev after : System
  after = hart_step sys

  word : load after.bus.kernel break_place 8 ≡ load sys.bus.kernel break_place 8 → dword after.bus kernel_variables ≡ dword sys.bus kernel_variables
  word e = bus_load-kernel after.bus kernel_variables 8 (omega arith) ∙ e ∙ sym (bus_load-kernel sys.bus kernel_variables 8 (omega arith))

  in-kernel : (k : PhaseKind) → k ≢ Local → InKernel k p sys → dword after.bus kernel_variables ≡ dword sys.bus kernel_variables
  in-kernel k n i = word (here-keeps i.user i.env sys fit (stage_number i.stage) (both-false _ _ (shut-of i.stage p i.user i.env i.extra) (unmoving i.stage (λ e. n (sym i.staged ∙ e)))) i.here)

  in-boot : (k : PhaseKind) → k ≢ Boot → InBoot k p sys → dword after.bus kernel_variables ≡ dword sys.bus kernel_variables
  in-boot k n i = word (here-keeps i.user i.env sys fit (boot_number i.stage) (both-false _ _ (boot-shut i.stage) (boot-unmoving i.stage (λ e. n (sym i.staged ∙ e)))) i.here)

  in-user : InUser p sys → dword after.bus kernel_variables ≡ dword sys.bus kernel_variables
  in-user u = word (go (user_step (user_of sys)) refl)
    where
      step : hart_step sys ≡ seen_by (user_step (user_of sys)) (over sys.bus (counted_step mode.User sys.hart))
      step = user_steps_agree sys u.run u.user_mode u.fenced

      ends : (z : System) → hart_step sys ≡ z → z.bus.kernel ≡ sys.bus.kernel → load after.bus.kernel break_place 8 ≡ load sys.bus.kernel break_place 8
      ends z e k = ap (λ y. load y.bus.kernel break_place 8) e ∙ ap (λ y. load y break_place 8) k

      go : (r : UserStep) → user_step (user_of sys) ≡ r → load after.bus.kernel break_place 8 ≡ load sys.bus.kernel break_place 8
      go (user_spec.next st) q = ends _ (step ∙ ap (λ z. seen_by z (over sys.bus (counted_step mode.User sys.hart))) q) refl
      go call q = ends _ (step ∙ ap (λ z. seen_by z (over sys.bus (counted_step mode.User sys.hart))) q) refl
      go (trap c v) q = ends _ (step ∙ ap (λ z. seen_by z (over sys.bus (counted_step mode.User sys.hart))) q) refl

  stays : (k : PhaseKind) → k ≢ Boot → k ≢ Local → Place k p sys → dword after.bus kernel_variables ≡ dword sys.bus kernel_variables
  stays User n m i = in-user i
  stays Boot n m i = absurd (n refl)
  stays BootWait n m i = in-boot BootWait n i
  stays BootTake n m i = in-boot BootTake n i
  stays Leave n m i = in-boot Leave n i
  stays Save n m i = in-kernel Save m i
  stays Check n m i = in-kernel Check m i
  stays Scan n m i = in-kernel Scan m i
  stays Fill n m i = in-kernel Fill m i
  stays Wait n m i = in-kernel Wait m i
  stays Take n m i = in-kernel Take m i
  stays Local n m i = absurd (m refl)
  stays Restore n m i = in-kernel Restore m i
  stays Speak n m i = in-kernel Speak m i
  stays Closing n m i = in-kernel Closing m i

  -- in a call that the kernel answers, the break stays or is the answer of brk
  pub local-break : InKernel Local p sys → p.user.brk ≡ dword sys.bus kernel_variables → LocalBreak p sys after
  local-break i b = go i.stage i.staged i.here i.links i.extra
    where
      keeps-it : (st : Stage) → stage_kind st ≡ Local → (stage_number st == booting_blocks || stage_number st == break_blocks) ≡ false → Extra st p i.user i.env → Here kernel i.user i.env blocks (stage_number st) sys → LocalBreak p sys after
      keeps-it st e n x w = inl (word (here-keeps i.user i.env sys fit (stage_number st) (both-false _ _ (shut-of st p i.user i.env x) n) w) ∙ sym b)

      go : (st : Stage) → stage_kind st ≡ Local → Here kernel i.user i.env blocks (stage_number st) sys → Links st p.user i.env → Extra st p i.user i.env → LocalBreak p sys after
      go NoCall e w l x = keeps-it NoCall e refl x w
      go Outside e w l x = keeps-it Outside e refl x w
      go Long e w l x = keeps-it Long e refl x w
      go Breaking e w l x = by (moves-once i.user i.env sys fit w)
        where
          asked : slice_index p.user.regs 10 ≡ i.env 10
          asked = sym (l.regs_are 10 (omega arith))

          by : (load after.bus.kernel break_place 8 ≡ load sys.bus.kernel break_place 8) ⊎ Moved i.user i.env sys fit → LocalBreak p sys after
          by (inl q) = inl (word q ∙ sym b)
          by (inr q) =
              let now : dword after.bus kernel_variables ≡ i.env 10 = bus_load-kernel after.bus kernel_variables 8 (omega arith) ∙ q.0 in
              let answer : break_after (slice_index p.user.regs 10) p.user.brk p.user.first_break ≡ dword after.bus kernel_variables = rw (asked, l.first_is, q.1, q.2, now) refl in
              inr (break-part p.user.regs sys.bus.user p.user.brk p.user.first_break (sym (l.regs_are 17 (omega arith)) ∙ x) ∙ ap breaks answer)
      go st e w l x = cc

  breaks-of : (k : PhaseKind) → k ≢ Boot → BreaksAre k p sys → (p.user.brk ≡ dword sys.bus kernel_variables) × (p.user.first_break ≡ dword sys.bus (boot + 8))
  breaks-of Boot n b = absurd (n refl)
  breaks-of k n b = b

  to-breaks : (k : PhaseKind) (q : Phase) (z : System) → (k ≢ Boot → (q.user.brk ≡ dword z.bus kernel_variables) × (q.user.first_break ≡ dword z.bus (boot + 8))) → BreaksAre k q z
  to-breaks Boot q z f = tt
  to-breaks BootWait q z f = f (λ e. cc)
  to-breaks BootTake q z f = f (λ e. cc)
  to-breaks Leave q z f = f (λ e. cc)
  to-breaks User q z f = f (λ e. cc)
  to-breaks Save q z f = f (λ e. cc)
  to-breaks Check q z f = f (λ e. cc)
  to-breaks Scan q z f = f (λ e. cc)
  to-breaks Fill q z f = f (λ e. cc)
  to-breaks Wait q z f = f (λ e. cc)
  to-breaks Take q z f = f (λ e. cc)
  to-breaks Local q z f = f (λ e. cc)
  to-breaks Restore q z f = f (λ e. cc)
  to-breaks Speak q z f = f (λ e. cc)
  to-breaks Closing q z f = f (λ e. cc)

  -- the breaks after a step
  pub breaks_law : (k : PhaseKind) → HoldsAs k p sys → BreaksAre k p sys → follows k (kind_now after) ≡ true → BreaksAre (kind_now after) (phase_from k (kind_now after) p after) after
  breaks_law k h b e = to-breaks (kind_now after) (phase_from k (kind_now after) p after) after (λ n. (
    break-after k (kind_now after) p.user after (λ x y. (breaks-of k x b).0 ∙ sym (stays k x y h.place)) e n,
    first-after k (kind_now after) p.user after (λ x. (breaks-of k x b).1 ∙ sym (block_kept p sys fit k h.place).1) e n,
  ))
