-- A step from any phase leads to one in which the next phase holds.
use Rattle.std.proofs.Common.{◌≡◌, ℕ, true, false, List, refl, subst}
use Rattle.rv_hart.specs.HartStep.{System, AreRegisters, hart_step, IsHart}
use Rattle.rv_csr.specs.CsrTable.{IsCsrs}
use Rattle.guest_memory.specs.Bus.{IsBus}
use Rattle.kernel_sim.specs.declared.phase.PhaseKind.{PhaseKind}
use Rattle.kernel_sim.specs.declared.phase.PhaseKind.TheVariants.{Boot, BootWait, BootTake, Leave, User, Save, Check, Scan, Fill, Wait, Take, Local, Restore, Speak, Closing}
use Rattle.kernel_sim.specs.declared.phase.Phase.{Phase}
use Rattle.kernel_sim.specs.Steps.{follows}
use Rattle.kernel_sim.proofs.Told.{Told}
use Rattle.kernel_sim.specs.Phases.{phase_from, kind_now}
use Rattle.kernel_sim.specs.Stages.{Stage, Saving, Checking, Starting, Scanning, Looked, Past, Full, Found, Filling, Waiting, Tested, Taking, NoCall, Outside, Long, Breaking, Restoring, Choosing, Saying, Said, Ending, Ended, stage_kind, stage_number, Extra, Links, InBoot, InKernel, Place, HoldsAs}
use Rattle.kernel_code.specs.Numbers.{counter_end_blocks, trap_end_blocks, counter_idle_blocks, trap_idle_blocks}
use Rattle.kernel_sim.proofs.StageLaws.{Setting, next, Goal, land, At, relink}
use Rattle.kernel_sim.proofs.UserStage.{in_user}
use Rattle.kernel_sim.proofs.CallStages.{saving, checking}
use Rattle.kernel_sim.proofs.PathStages.{starting, scanning, looked, past, full}
use Rattle.kernel_sim.proofs.LocalStages.{unknown, outside, long_path, breaking}
use Rattle.kernel_sim.proofs.RequestStages.{taking, found, filling, waiting, tested}
use Rattle.kernel_sim.proofs.RestoreStage.{restoring}
use Rattle.kernel_sim.proofs.SpeakStages.{choosing, saying, said, closing, ended}
use Rattle.kernel_sim.proofs.BootStages.{by-boot}

module _ (given : Setting) where
  abbrev p : Phase
  p = given.phase

  abbrev sys : System
  sys = given.system

  abbrev fit : AreRegisters sys.hart.registers
  fit = given.fit

  abbrev fit_next : AreRegisters (hart_step sys).hart.registers
  fit_next = given.fit_next

  abbrev whole : IsBus sys.bus
  whole = given.whole

  abbrev whole_next : IsBus (hart_step sys).bus
  whole_next = given.whole_next

  module _ (user : List ℕ) (env : ℕ → ℕ) where
    pub by-stage : (st : Stage) → (At given user env) (stage_number st) → Links st p.user env → Extra st p user env → (Goal given) (stage_kind st)
    by-stage Saving w l x = (saving given user env) w l x
    by-stage Checking w l x = (checking given user env) w l x
    by-stage Starting w l x = (starting given user env) w l x
    by-stage Scanning w l x = (scanning given user env) w l x
    by-stage Looked w l x = (looked given user env) w l x
    by-stage Past w l x = (past given user env) w l x
    by-stage Full w l x = (full given user env) w l x
    by-stage Found w l x = (found given user env) w l x
    by-stage Filling w l x = (filling given user env) w l x
    by-stage Waiting w l x = (waiting given user env) w l x
    by-stage Tested w l x = (tested given user env) w l x
    by-stage Taking w l x = (taking given user env) w l x
    by-stage NoCall w l x = (unknown given user env) w l x
    by-stage Outside w l x = (outside given user env) w l x
    by-stage Long w l x = (long_path given user env) w l x
    by-stage Breaking w l x = (breaking given user env) w l x
    by-stage Restoring w l x = (restoring given user env) w l
    by-stage Choosing w l x = (choosing given user env) w l x
    by-stage (Saying c t) w l x = ((saying given user env) c t w l x).0
    by-stage (Said c t) w l x = ((said given user env) c t w l x).0
    by-stage (Ending true) w l x = (closing given user env) counter_end_blocks counter_idle_blocks (Ending true) (Ended true) refl refl refl refl w (λ n. (land given) Closing (Ending true) refl tt user env n l x) (λ n. (land given) Closing (Ended true) refl tt user env n ((relink given user env) (Ending true) (Ended true) p.user (λ z. z) l.pc_is l.break_is l) x)
    by-stage (Ending false) w l x = (closing given user env) trap_end_blocks trap_idle_blocks (Ending false) (Ended false) refl refl refl refl w (λ n. (land given) Closing (Ending false) refl tt user env n l x) (λ n. (land given) Closing (Ended false) refl tt user env n ((relink given user env) (Ending false) (Ended false) p.user (λ z. z) l.pc_is l.break_is l) x)
    by-stage (Ended true) w l x = (ended given user env) counter_idle_blocks refl refl w (λ n. (land given) Closing (Ended true) refl tt user env n l x)
    by-stage (Ended false) w l x = (ended given user env) trap_idle_blocks refl refl w (λ n. (land given) Closing (Ended false) refl tt user env n l x)

  in_boot : (k : PhaseKind) → InBoot k p sys → (Goal given) k
  in_boot k i = subst (λ z. (Goal given) z) i.staged ((by-boot given) i.user i.env i.stage i.here i.break_is i.seen i.entry_even)

  in_kernel : (k : PhaseKind) → InKernel k p sys → (Goal given) k
  in_kernel k i = subst (λ z. (Goal given) z) i.staged (by-stage i.user i.env i.stage i.here i.links i.extra)

  -- a step from a phase leads to one in which the next phase holds
  pub law : (k : PhaseKind) → Place k p sys → IsCsrs (next given).hart.csrs → (Goal given) k
  law User i c = (in_user given) i c
  law Boot i c = in_boot Boot i
  law BootWait i c = in_boot BootWait i
  law BootTake i c = in_boot BootTake i
  law Leave i c = in_boot Leave i
  law Save i c = in_kernel Save i
  law Check i c = in_kernel Check i
  law Scan i c = in_kernel Scan i
  law Fill i c = in_kernel Fill i
  law Wait i c = in_kernel Wait i
  law Take i c = in_kernel Take i
  law Local i c = in_kernel Local i
  law Restore i c = in_kernel Restore i
  law Speak i c = in_kernel Speak i
  law Closing i c = in_kernel Closing i

pub step_law : (k : PhaseKind) (p : Phase) (sys : System) → HoldsAs k p sys → IsBus sys.bus → IsHart sys.hart → IsBus (hart_step sys).bus → IsHart (hart_step sys).hart → HoldsAs (kind_now (hart_step sys)) (phase_from k (kind_now (hart_step sys)) p (hart_step sys)) (hart_step sys)
step_law k p sys h b i b2 i2 = (law (record { phase = p; system = sys; fit = i.registers_fit; fit_next = i2.registers_fit; whole = b; whole_next = b2 }) k h.place i2.csrs_fit).0

-- the kind that follows, and what is told of the step
pub step_told : (k : PhaseKind) (p : Phase) (sys : System) → HoldsAs k p sys → IsBus sys.bus → IsHart sys.hart → IsBus (hart_step sys).bus → IsHart (hart_step sys).hart → (follows k (kind_now (hart_step sys)) ≡ true) × Told k (kind_now (hart_step sys)) p sys (hart_step sys)
step_told k p sys h b i b2 i2 = let g = law (record { phase = p; system = sys; fit = i.registers_fit; fit_next = i2.registers_fit; whole = b; whole_next = b2 }) k h.place i2.csrs_fit in (g.1, g.2)
