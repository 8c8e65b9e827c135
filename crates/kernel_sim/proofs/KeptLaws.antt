-- No step of the kernel changes a user byte, and none changes the boot block.
use Rattle.std.proofs.Common.{◌≡◌, ℕ, ◌+◌, ◌*◌, ◌==◌, Bool, true, false, ◌&&◌, ◌||◌, inl, inr, Option, Some, None, List, [], ◌∷◌, get_or, refl, ap, sym, subst, ◌∙◌, arith}
use Rattle.std.specs.Prelude.{nat_le}
use Rattle.std.proofs.lemmas.Bool.{false≢true, and_parts}
use Rattle.rv_csr.specs.CsrTable.{csr_of}
use Rattle.rv_csr.specs.declared.privilege.Mode.TheVariants as mode
use Rattle.rv_hart.specs.HartStep.{System, AreRegisters, hart_step, over, counted_step}
use Rattle.guest_memory.proofs.AreaLemmas.{bus_load-kernel}
use Rattle.plain_machine.specs.UserStep.{UserStep, call, trap, user_step}
use Rattle.plain_machine.specs.UserStep as user_spec
use Rattle.kernel_sim.specs.UserMode.{user_of}
use Rattle.kernel_sim.proofs.UserSteps.{seen_by}
use Rattle.kernel_sim.proofs.Agreement.{user_steps_agree}
use Rattle.guest_memory.specs.Bus.{BusState}
use Rattle.guest_memory.specs.Memory.{load}
use Rattle.kernel_sim.specs.declared.phase.PhaseKind.{PhaseKind}
use Rattle.kernel_sim.specs.declared.phase.PhaseKind.TheVariants.{Boot, BootWait, BootTake, Leave, User, Save, Check, Scan, Fill, Wait, Take, Local, Restore, Speak, Closing}
use Rattle.kernel_sim.specs.declared.phase.Phase.{Phase}
use Rattle.kernel_steps.specs.Terms.{Unknown, Is, is_known}
use Rattle.kernel_steps.specs.States.{State, Describes, OneDescribes}
use Rattle.kernel_steps.specs.Successors.{successors}
use Rattle.kernel_steps.specs.Blocks.{Here, same}
use Rattle.kernel_code.specs.Kinds.{may_follow}
use Rattle.kernel_code.specs.Kernel.{kernel, blocks}
use Rattle.proxy_kernel.specs.KernelWords.{kernel_insns}
use Rattle.kernel_code.specs.Calls.{call_blocks}
use Rattle.kernel_code.specs.TrapWords.{trap_blocks}
use Rattle.kernel_code.specs.CounterWords.{counter_blocks}
use Rattle.kernel_code.specs.Shorthand.{cells_0, cells_1, cells_2, cells_3, cells_4, cells_5, cells_6, cells_7, cells_8, cells_9, csrs_0, csrs_1, csrs_2}
use Rattle.kernel_sim.specs.Stages.{InKernel, InBoot, InUser, stage_number, boot_number, Place, Known}
use Rattle.kernel_sim.specs.Kept.{UserKept, BootBlockKept}
use Rattle.kernel_sim.specs.Steps.{follows}
use Rattle.kernel_sim.proofs.Told.{Told}
use Rattle.kernel_steps.proofs.Soundness.{CellsAre-get, value-Is}
use Rattle.kernel_steps.proofs.GraphLaws.{led, same-path, then-l, then-r}
use Rattle.kernel_steps.proofs.Tests.{blocks_all, blocks_all-at}
use Rattle.kernel_sim.proofs.Gates.{number_code}
use Rattle.kernel_sim.proofs.HostLaws.{shut-of, boot-shut}
use Rattle.kernel_sim.proofs.MailLaws.{is_bus_kept, bus-kept}
use Rattle.kernel_code.specs.Places.{entry_cell, first_break_cell, entry_place, first_break_place}
use Rattle.kernel_code.specs.Numbers.{store_gates}
use Rattle.fe_base.specs.MemoryMap.{kernel_code_size, boot}

abbrev pub holds-cell : State → State → ℕ → Bool
holds-cell u t c = is_known (get_or u.cells c Unknown) && same (get_or t.cells c Unknown) (get_or u.cells c Unknown)

abbrev pub all_hold : State → List State → Bool
all_hold u [] = true
all_hold u (t ∷ ts) = elim (holds-cell u t entry_cell && holds-cell u t first_break_cell) [ true ↦ all_hold u ts | false ↦ false ]

abbrev pub keeps_by : State → Option (List State) → Bool
keeps_by u (Some ts) = all_hold u ts
keeps_by u None = is_bus_kept u

abbrev pub keeps_ok : ℕ → State → Bool
keeps_ok k u = elim (nat_le store_gates k || number_code k == 99) [ true ↦ true | false ↦ keeps_by u (successors kernel u) ]

pub keeps_right : blocks_all keeps_ok kernel blocks ≡ true
unfolding kernel kernel_insns blocks call_blocks trap_blocks counter_blocks cells_0 cells_1 cells_2 cells_3 cells_4 cells_5 cells_6 cells_7 cells_8 cells_9 csrs_0 csrs_1 csrs_2 csr_of
keeps_right = refl

pub keeps-at : (user : List ℕ) (env : ℕ → ℕ) (sys : System) (k : ℕ) → (nat_le store_gates k || number_code k == 99) ≡ false → (w : Here kernel user env blocks k sys) → keeps_by w.state (successors kernel w.state) ≡ true
keeps-at user env sys k shut w = go (nat_le store_gates k || number_code k == 99) shut (subst (λ z. keeps_ok z w.state ≡ true) w.kind (blocks_all-at keeps_ok kernel blocks w.block w.state keeps_right w.among w.on))
  where
    go : (x : Bool) → x ≡ false → ◌≡◌ {A = Bool} (elim x [ true ↦ true | false ↦ keeps_by w.state (successors kernel w.state) ]) true → keeps_by w.state (successors kernel w.state) ≡ true
    go true e h = absurd (false≢true (sym e))
    go false e h = h

module _ (user : List ℕ) (env : ℕ → ℕ) (sys : System) (fit : AreRegisters sys.hart.registers) where
  abbrev next : System
  next = hart_step sys

  abbrev Kept : Type 0
  Kept = (next.bus.user ≡ sys.bus.user) × (load next.bus.kernel entry_place 8 ≡ load sys.bus.kernel entry_place 8) × (load next.bus.kernel first_break_place 8 ≡ load sys.bus.kernel first_break_place 8)

  pub cell-held : (u t : State) (c b : ℕ) → b ≡ kernel_code_size + 8 * c → holds-cell u t c ≡ true → Describes kernel user env u sys → Describes kernel user env t next → load next.bus.kernel b 8 ≡ load sys.bus.kernel b 8
  cell-held u t c b e q m n =
      let p = and_parts (is_known (get_or u.cells c Unknown)) (same (get_or t.cells c Unknown) (get_or u.cells c Unknown)) q in
      let old = CellsAre-get env u.cells sys.bus.kernel kernel_code_size c b e m.memory.cells_are in
      let new = subst (λ z. Is env z (load next.bus.kernel b 8)) (same-path (get_or t.cells c Unknown) (get_or u.cells c Unknown) p.1) (CellsAre-get env t.cells next.bus.kernel kernel_code_size c b e n.memory.cells_are) in
      value-Is env (get_or u.cells c Unknown) (load next.bus.kernel b 8) p.0 new ∙ sym (value-Is env (get_or u.cells c Unknown) (load sys.bus.kernel b 8) p.0 old)

  all-held : (u : State) (ts : List State) → all_hold u ts ≡ true → Describes kernel user env u sys → OneDescribes kernel user env ts next → Kept
  all-held u [] e m n = absurd n
  all-held u (t ∷ ts) e m (inl n) =
      let p = and_parts (holds-cell u t entry_cell) (holds-cell u t first_break_cell) (then-l _ _ e) in
      (n.memory.user_is ∙ sym m.memory.user_is, cell-held u t entry_cell entry_place refl p.0 m n, cell-held u t first_break_cell first_break_place refl p.1 m n)
  all-held u (t ∷ ts) e m (inr n) = all-held u ts (then-r (holds-cell u t entry_cell && holds-cell u t first_break_cell) _ e) m n

  keeps : (u : State) → keeps_by u (successors kernel u) ≡ true → Describes kernel user env u sys → Kept
  keeps u e m = go (successors kernel u) refl e
    where
      go : (o : Option (List State)) → successors kernel u ≡ o → keeps_by u o ≡ true → Kept
      go (Some ts) q r = all-held u ts r m (led kernel user env may_follow blocks sys fit u ts _ refl q m)
      go None q r = let b = bus-kept user env sys fit u r m in (ap (λ z. z.user) b, ap (λ z. load z.kernel entry_place 8) b, ap (λ z. load z.kernel first_break_place 8) b)

  here-keeps : (k : ℕ) → (nat_le store_gates k || number_code k == 99) ≡ false → Here kernel user env blocks k sys → Kept
  here-keeps k shut w = keeps w.state (keeps-at user env sys k shut w) w.describes

module _ (p : Phase) (sys : System) (fit : AreRegisters sys.hart.registers) where
  abbrev after : BusState
  after = (hart_step sys).bus

  abbrev All : Type 0
  All = (after.user ≡ sys.bus.user) × (load after.kernel entry_place 8 ≡ load sys.bus.kernel entry_place 8) × (load after.kernel first_break_place 8 ≡ load sys.bus.kernel first_break_place 8)

  kernel-keeps : (k : PhaseKind) → InKernel k p sys → All
  kernel-keeps k i = here-keeps i.user i.env sys fit (stage_number i.stage) (shut-of i.stage p i.user i.env i.extra) i.here

  boot-keeps : (k : PhaseKind) → InBoot k p sys → All
  boot-keeps k i = here-keeps i.user i.env sys fit (boot_number i.stage) (boot-shut i.stage) i.here

  user_kept : (k now : PhaseKind) → Place k p sys → follows k now ≡ true → Told k now p sys (hart_step sys) → UserKept k now sys.bus after
  user_kept User User i e t = tt
  user_kept User Save i e t = t.1
  user_kept User now i e t = absurd (false≢true e)
  user_kept Boot now i e t = (boot-keeps Boot i).0
  user_kept BootWait now i e t = (boot-keeps BootWait i).0
  user_kept BootTake now i e t = (boot-keeps BootTake i).0
  user_kept Leave now i e t = (boot-keeps Leave i).0
  user_kept Save now i e t = (kernel-keeps Save i).0
  user_kept Check now i e t = (kernel-keeps Check i).0
  user_kept Scan now i e t = (kernel-keeps Scan i).0
  user_kept Fill now i e t = (kernel-keeps Fill i).0
  user_kept Wait now i e t = (kernel-keeps Wait i).0
  user_kept Take now i e t = (kernel-keeps Take i).0
  user_kept Local now i e t = (kernel-keeps Local i).0
  user_kept Restore now i e t = (kernel-keeps Restore i).0
  user_kept Speak now i e t = (kernel-keeps Speak i).0
  user_kept Closing now i e t = (kernel-keeps Closing i).0

  block-of : All → BootBlockKept sys.bus after
  block-of a = (
    bus_load-kernel after boot 8 (omega arith) ∙ a.1 ∙ sym (bus_load-kernel sys.bus boot 8 (omega arith)),
    bus_load-kernel after (boot + 8) 8 (omega arith) ∙ a.2 ∙ sym (bus_load-kernel sys.bus (boot + 8) 8 (omega arith)),
  )

  -- a user step leaves the kernel area
  user-block : InUser p sys → BootBlockKept sys.bus after
  user-block u = go (user_step (user_of sys)) refl
    where
      step : hart_step sys ≡ seen_by (user_step (user_of sys)) (over sys.bus (counted_step mode.User sys.hart))
      step = user_steps_agree sys u.run u.user_mode u.fenced

      ends : (z : System) → hart_step sys ≡ z → z.bus.kernel ≡ sys.bus.kernel → BootBlockKept sys.bus after
      ends z e k =
          let same_kernel : after.kernel ≡ sys.bus.kernel = ap (λ y. y.bus.kernel) e ∙ k in (
            bus_load-kernel after boot 8 (omega arith) ∙ ap (λ y. load y entry_place 8) same_kernel ∙ sym (bus_load-kernel sys.bus boot 8 (omega arith)),
            bus_load-kernel after (boot + 8) 8 (omega arith) ∙ ap (λ y. load y first_break_place 8) same_kernel ∙ sym (bus_load-kernel sys.bus (boot + 8) 8 (omega arith)),
          )

      go : (r : UserStep) → user_step (user_of sys) ≡ r → BootBlockKept sys.bus after
      go (user_spec.next st) q = ends _ (step ∙ ap (λ z. seen_by z (over sys.bus (counted_step mode.User sys.hart))) q) refl
      go call q = ends _ (step ∙ ap (λ z. seen_by z (over sys.bus (counted_step mode.User sys.hart))) q) refl
      go (trap c v) q = ends _ (step ∙ ap (λ z. seen_by z (over sys.bus (counted_step mode.User sys.hart))) q) refl

  pub block_kept : (k : PhaseKind) → Place k p sys → BootBlockKept sys.bus after
  block_kept User i = user-block i
  block_kept Boot i = block-of (boot-keeps Boot i)
  block_kept BootWait i = block-of (boot-keeps BootWait i)
  block_kept BootTake i = block-of (boot-keeps BootTake i)
  block_kept Leave i = block-of (boot-keeps Leave i)
  block_kept Save i = block-of (kernel-keeps Save i)
  block_kept Check i = block-of (kernel-keeps Check i)
  block_kept Scan i = block-of (kernel-keeps Scan i)
  block_kept Fill i = block-of (kernel-keeps Fill i)
  block_kept Wait i = block-of (kernel-keeps Wait i)
  block_kept Take i = block-of (kernel-keeps Take i)
  block_kept Local i = block-of (kernel-keeps Local i)
  block_kept Restore i = block-of (kernel-keeps Restore i)
  block_kept Speak i = block-of (kernel-keeps Speak i)
  block_kept Closing i = block-of (kernel-keeps Closing i)

-- the boot block over any step
pub block_kept_law : (p : Phase) (sys made : System) → Known p sys → AreRegisters sys.hart.registers → made ≡ hart_step sys → BootBlockKept sys.bus made.bus
unfolding Known
block_kept_law p sys made h fit e = subst (λ z. BootBlockKept sys.bus z.bus) (sym e) (block_kept p sys fit p.kind h.0.place)

-- the user bytes over a step of the kernel, or to it
pub user_kept_law : (p : Phase) (sys : System) (now : PhaseKind) → Known p sys → AreRegisters sys.hart.registers → follows p.kind now ≡ true → Told p.kind now p sys (hart_step sys) → UserKept p.kind now sys.bus (hart_step sys).bus
unfolding Known
user_kept_law p sys now h fit e t = user_kept p sys fit p.kind now h.0.place e t
