-- Which fields of a phase a step changes.
use Rattle.std.proofs.Common.{◌≡◌, ◌≢◌, ℕ, ◌+◌, ◌-◌, ◌^◌, ◌<◌, ◌≤◌, ◌==◌, Bool, true, false, ◌⊎◌, inl, inr, Option, Some, None, List, refl, ap, sym, ◌∙◌, arith, subst, if◌then◌else◌}
use Rattle.std.specs.Prelude.{min, length, slice_index}
use Rattle.std.proofs.lemmas.Bool.{false≢true, eq-eqb, ne_eqb}
use Rattle.fe_base.specs.Memory.{counted}
use Rattle.rv_csr.specs.declared.privilege.Mode.TheVariants as mode
use Rattle.rv_hart.specs.HartStep.{System, AreRegisters, hart_step, over, counted_step, trap_step}
use Rattle.rv_hart.proofs.CountLaws.{machine_steps_uncounted}
use Rattle.guest_memory.specs.Memory.{load}
use Rattle.plain_machine.specs.UserStep.{UserStep, next, call, trap, user_step}
use Rattle.plain_machine.specs.UserStep as user_spec
use Rattle.plain_machine.specs.KernelPart.{gives, breaks, greatest_path}
use Rattle.rv_decode.specs.declared.instruction.Insn.{Insn}
use Rattle.kernel_steps.specs.States.{State}
use Rattle.kernel_steps.specs.Successors.{and_then, fetch, successors_of, successors}
use Rattle.kernel_steps.specs.Blocks.{Here}
use Rattle.kernel_steps.proofs.Soundness.{keeps-code}
use Rattle.kernel_code.specs.Kernel.{kernel, blocks}
use Rattle.kernel_code.specs.Places.{pc_path_passed}
use Rattle.kernel_sim.specs.UserMode.{user_of}
use Rattle.kernel_sim.proofs.Agreement.{user_steps_agree}
use Rattle.kernel_sim.proofs.UserSteps.{seen_by}
use Rattle.kernel_sim.specs.declared.phase.PhaseKind.{PhaseKind}
use Rattle.kernel_sim.specs.declared.phase.PhaseKind.TheVariants.{Boot, BootWait, BootTake, Leave, User, Save, Check, Scan, Fill, Wait, Take, Local, Restore, Speak, Closing}
use Rattle.kernel_sim.specs.declared.phase.Phase.{Phase}
use Rattle.kernel_sim.specs.declared.phase.Spoken.{Spoken}
use Rattle.kernel_sim.specs.Phases.{message, request_of, answered, user_after, text_after, scanned_after}
use Rattle.kernel_sim.specs.Rows.{call_part, Row}
use Rattle.kernel_sim.specs.Steps.{follows}
use Rattle.kernel_sim.specs.Traps.{TrapTold}
use Rattle.kernel_sim.proofs.Told.{Told}
use Rattle.kernel_sim.specs.Mailbox.{MailboxKept}
use Rattle.kernel_sim.specs.Stages.{Stage, Starting, Scanning, Looked, Past, Full, stage_kind, stage_number, boot_number, Extra, InKernel, InBoot, InUser, Place}
use Rattle.kernel_sim.specs.Stores.{NextByte, NoByte, NoExit, ExitWord, Stores}
use Rattle.kernel_sim.specs.Changes.{UserAfter, TextAfter, ScannedAfter, StepsCounted, PutsNone, Waits, CodeKept}
use Rattle.kernel_sim.proofs.MailLaws.{bus-kept}
use Rattle.kernel_sim.proofs.KeptLaws.{keeps_by, keeps-at}
use Rattle.kernel_sim.proofs.HostLaws.{shut-of, boot-shut}
use Rattle.kernel_sim.proofs.BreakLaws.{LocalBreak}

-- ---- the program's state
pub user-changes : (was now : PhaseKind) (p : Phase) (old new : System) → follows was now ≡ true → Told was now p old new → p.request ≡ request_of old.bus → MailboxKept was now old.bus new.bus → (was ≡ Local → LocalBreak p old new) → UserAfter was now p old new (user_after was now p.user new)
user-changes Boot BootWait p old new e t r m b = rw t.2 refl
user-changes Boot Boot p old new e t r m b = refl
user-changes Boot now p old new e t r m b = absurd (false≢true e)
user-changes BootWait now p old new e t r m b = refl
user-changes BootTake now p old new e t r m b = refl
user-changes Leave User p old new e t r m b = rw (t.0, t.1) refl
user-changes Leave Leave p old new e t r m b = refl
user-changes Leave now p old new e t r m b = absurd (false≢true e)
user-changes User User p old new e t r m b = (t.0, t.1, rw (t.2, t.3) refl, t.4)
user-changes User Save p old new e t r m b = refl
user-changes User now p old new e t r m b = absurd (false≢true e)
user-changes Save now p old new e t r m b = refl
user-changes Check now p old new e t r m b = refl
user-changes Scan now p old new e t r m b = refl
user-changes Fill now p old new e t r m b = refl
user-changes Wait now p old new e t r m b = refl
user-changes Take Restore p old new e t r m b =
    let first : slice_index new.hart.registers 10 ≡ slice_index p.request 0 = t.0 ∙ ap (λ z. slice_index z 0) (m.2 ∙ sym r) in
    rw (first, t.1) refl
user-changes Take Take p old new e t r m b = refl
user-changes Take now p old new e t r m b = absurd (false≢true e)
user-changes Local Local p old new e t r m b = go (b refl)
  where
    go : LocalBreak p old new → UserAfter Local Local p old new (user_after Local Local p.user new)
    go (inl q) = inl (rw q refl)
    go (inr q) = inr (q, refl)
user-changes Local Restore p old new e t r m b = (slice_index new.hart.registers 10, go t)
  where
    go : Told Local Restore p old new
        → ((call_part p old.bus.user ≡ gives (slice_index new.hart.registers 10)) × (user_after Local Restore p.user new ≡ answered (slice_index new.hart.registers 10) p.user))
        ⊎ ((call_part p old.bus.user ≡ breaks (slice_index new.hart.registers 10)) × (user_after Local Restore p.user new ≡ record (answered (slice_index new.hart.registers 10) p.user) { brk = slice_index new.hart.registers 10 }))
    go (inl q) = inl (q.0, rw q.1 refl)
    go (inr q) = inr (q.0, rw q.1 refl)
user-changes Local now p old new e t r m b = absurd (false≢true e)
user-changes Restore now p old new e t r m b = refl
user-changes Speak now p old new e t r m b = refl
user-changes Closing now p old new e t r m b = refl

-- ---- the message
pub text-changes : (was now : PhaseKind) (p : Phase) (old new : System) → follows was now ≡ true → Told was now p old new → TextAfter was now p old (text_after was now p new.hart)
text-changes User Save p old new e t = go t.0
  where
    go : TrapTold old new → TextAfter User Save p old (text_after User Save p new.hart)
    go (inl h) = inl (h.0, let b : (new.hart.csrs.mcause == 8) ≡ true = eq-eqb _ _ h.1 in rw b refl)
    go (inr h) = inr (h.0, h.1, h.2, let b : (new.hart.csrs.mcause == 8) ≡ false = ne_eqb _ _ (λ z. h.5 (sym h.3 ∙ z)) in rw b (rw (h.3, h.4) refl))
text-changes User User p old new e t = refl
text-changes User now p old new e t = absurd (false≢true e)
text-changes Speak Speak p old new e t = refl
text-changes Speak Closing p old new e t = refl
text-changes Speak now p old new e t = absurd (false≢true e)
text-changes Boot now p old new e t = refl
text-changes BootWait now p old new e t = refl
text-changes BootTake now p old new e t = refl
text-changes Leave now p old new e t = refl
text-changes Save now p old new e t = refl
text-changes Check now p old new e t = refl
text-changes Scan now p old new e t = refl
text-changes Fill now p old new e t = refl
text-changes Wait now p old new e t = refl
text-changes Take now p old new e t = refl
text-changes Local now p old new e t = refl
text-changes Restore now p old new e t = refl
text-changes Closing now p old new e t = refl

-- ---- the bytes of a path
pub few-scanned : (p : Phase) (sys : System) (i : InKernel Scan p sys) → p.scanned ≤ greatest_path
few-scanned p sys i = go i.stage i.staged i.extra
  where
    go : (st : Stage) → stage_kind st ≡ Scan → Extra st p i.user i.env → p.scanned ≤ greatest_path
    go Starting e x = let z = x.1 in omega arith
    go Scanning e x = let z = x.1 in let l = x.0.below in omega arith
    go Looked e x = let z = x.1 in let l = x.0.below in omega arith
    go Past e x = let z = x.1 in let l = x.0.below in omega arith
    go Full e x = let z = x.1 in let l = x.0.below in omega arith
    go st e x = cc

pub scanned-changes : (was now : PhaseKind) (p : Phase) (sys : System) (pc : ℕ) → follows was now ≡ true → Place was p sys → ScannedAfter was now p.scanned (scanned_after was now p.scanned pc)
scanned-changes Scan Scan p sys pc e i = go (pc == pc_path_passed)
  where
    go : (b : Bool) → ((if b then min (p.scanned + 1) (2 ^ 32 - 1) else p.scanned) ≡ p.scanned) ⊎ ((if b then min (p.scanned + 1) (2 ^ 32 - 1) else p.scanned) ≡ p.scanned + 1)
    go true = let l = few-scanned p sys i in inr (omega arith)
    go false = inl refl
scanned-changes Scan Local p sys pc e i = refl
scanned-changes Scan Fill p sys pc e i = refl
scanned-changes Scan now p sys pc e i = absurd (false≢true e)
scanned-changes Check Scan p sys pc e i = refl
scanned-changes Check Check p sys pc e i = refl
scanned-changes Check Local p sys pc e i = refl
scanned-changes Check Fill p sys pc e i = refl
scanned-changes Check Speak p sys pc e i = refl
scanned-changes Check now p sys pc e i = absurd (false≢true e)
scanned-changes Boot now p sys pc e i = refl
scanned-changes BootWait now p sys pc e i = refl
scanned-changes BootTake now p sys pc e i = refl
scanned-changes Leave now p sys pc e i = refl
scanned-changes User now p sys pc e i = refl
scanned-changes Save now p sys pc e i = refl
scanned-changes Fill now p sys pc e i = refl
scanned-changes Wait now p sys pc e i = refl
scanned-changes Take now p sys pc e i = refl
scanned-changes Local now p sys pc e i = refl
scanned-changes Restore now p sys pc e i = refl
scanned-changes Speak now p sys pc e i = refl
scanned-changes Closing now p sys pc e i = refl

-- ---- the waits
-- while TOHOST is not 0, no byte is put
no-byte : (p q : Phase) (old new : System) → Stores Speak p old.hart new.hart q → (q.text.posted ≡ p.text.posted → q.text ≡ p.text) → p.tohost ≢ 0 → PutsNone p q
no-byte p q old new s f n = go s.0
  where
    go : NoByte p q.tohost q.text.posted ⊎ NextByte p q.tohost q.text.posted → PutsNone p q
    go (inl w) = (w.0, f w.1)
    go (inr w) = absurd (n w.0)

no-exit : (p q : Phase) (old new : System) → Stores Closing p old.hart new.hart q → q.text ≡ p.text → p.tohost ≢ 0 → PutsNone p q
no-exit p q old new (inl w) x n = (w.0, x)
no-exit p q old new (inr w) x n = absurd (n w.0)

-- a message of which bytes are left was not stored whole
not-whole : (t u : Spoken) → u ≡ t → u.posted ≡ length (message u) → t.posted < length (message t) → ⊥
not-whole t u e w l =
    let z : t.posted ≡ length (message t) = subst (λ y. y.posted ≡ length (message y)) e w in
    omega arith

pub waits-law : (was now : PhaseKind) (p q : Phase) (old new : System) → follows was now ≡ true → Told was now p old new → q.kind ≡ now → TextAfter was now p old q.text → Stores was p old.hart new.hart q → Row now q new → Waits was p q
waits-law BootWait BootWait p q old new e t k x s r = λ z. k
waits-law BootWait BootTake p q old new e t k x s r = λ z. absurd (t z)
waits-law BootWait now p q old new e t k x s r = absurd (false≢true e)
waits-law Wait Wait p q old new e t k x s r = λ z. k
waits-law Wait Take p q old new e t k x s r = λ z. absurd (t z)
waits-law Wait now p q old new e t k x s r = absurd (false≢true e)
waits-law Speak Speak p q old new e t k x s r = (λ l. k, no-byte p q old new s (λ z. x ∙ ap (λ y. record p.text { posted = y }) z))
waits-law Speak Closing p q old new e t k x s r = (λ l. absurd (not-whole p.text q.text x r.1 l), no-byte p q old new s (λ z. x))
waits-law Speak now p q old new e t k x s r = absurd (false≢true e)
waits-law Closing Closing p q old new e t k x s r = (k, no-exit p q old new s x)
waits-law Closing now p q old new e t k x s r = absurd (false≢true e)
waits-law Boot now p q old new e t k x s r = tt
waits-law BootTake now p q old new e t k x s r = tt
waits-law Leave now p q old new e t k x s r = tt
waits-law User now p q old new e t k x s r = tt
waits-law Save now p q old new e t k x s r = tt
waits-law Check now p q old new e t k x s r = tt
waits-law Scan now p q old new e t k x s r = tt
waits-law Fill now p q old new e t k x s r = tt
waits-law Take now p q old new e t k x s r = tt
waits-law Local now p q old new e t k x s r = tt
waits-law Restore now p q old new e t k x s r = tt

-- ---- the count of user steps, and the code
module _ (p : Phase) (sys : System) (fit : AreRegisters sys.hart.registers) where
  abbrev after : System
  after = hart_step sys

  -- of the program
  module _ (u : InUser p sys) where
    abbrev counted_sys : System
    counted_sys = over sys.bus (counted_step mode.User sys.hart)

    step : after ≡ seen_by (user_step (user_of sys)) counted_sys
    step = user_steps_agree sys u.run u.user_mode u.fenced

    by-step : {A : Type 0} → (f : System → A) (v : A) → ((r : UserStep) → f (seen_by r counted_sys) ≡ v) → f after ≡ v
    by-step f v g = ap f step ∙ g (user_step (user_of sys))

    kernel-same : (r : UserStep) → (seen_by r counted_sys).bus.kernel ≡ sys.bus.kernel
    kernel-same (user_spec.next st) = refl
    kernel-same call = refl
    kernel-same (trap c v) = refl

    count-same : (r : UserStep) → (seen_by r counted_sys).hart.user_steps ≡ counted sys.hart.user_steps
    unfolding trap_step
    count-same (user_spec.next st) = refl
    count-same call = refl
    count-same (trap c v) = refl

  code-here : (user : List ℕ) (env : ℕ → ℕ) (k : ℕ) → (w : Here kernel user env blocks k sys) → keeps_by w.state (successors kernel w.state) ≡ true → CodeKept sys.bus after.bus
  code-here user env k w e = go (successors kernel w.state) refl e
    where
      found : (o : Option Insn) → fetch kernel w.state.at ≡ o → (ts : List State) → and_then o (λ i. successors_of i w.state) ≡ Some ts → CodeKept sys.bus after.bus
      found (Some i) f ts q = keeps-code kernel user env w.state sys w.describes fit i ts f q
      found None f ts q = cc

      go : (o : Option (List State)) → successors kernel w.state ≡ o → keeps_by w.state o ≡ true → CodeKept sys.bus after.bus
      go (Some ts) q r = found (fetch kernel w.state.at) refl ts q
      go None q r = λ at width l. ap (λ z. load z.kernel at width) (bus-kept user env sys fit w.state r w.describes)

  in-kernel : (k : PhaseKind) → InKernel k p sys → CodeKept sys.bus after.bus
  in-kernel k i = code-here i.user i.env (stage_number i.stage) i.here (keeps-at i.user i.env sys (stage_number i.stage) (shut-of i.stage p i.user i.env i.extra) i.here)

  in-boot : (k : PhaseKind) → InBoot k p sys → CodeKept sys.bus after.bus
  in-boot k i = code-here i.user i.env (boot_number i.stage) i.here (keeps-at i.user i.env sys (boot_number i.stage) (boot-shut i.stage) i.here)

  pub code-kept : (k : PhaseKind) → Place k p sys → CodeKept sys.bus after.bus
  code-kept User i = λ at width l. ap (λ z. load z at width) (by-step i (λ z. z.bus.kernel) sys.bus.kernel (kernel-same i))
  code-kept Boot i = in-boot Boot i
  code-kept BootWait i = in-boot BootWait i
  code-kept BootTake i = in-boot BootTake i
  code-kept Leave i = in-boot Leave i
  code-kept Save i = in-kernel Save i
  code-kept Check i = in-kernel Check i
  code-kept Scan i = in-kernel Scan i
  code-kept Fill i = in-kernel Fill i
  code-kept Wait i = in-kernel Wait i
  code-kept Take i = in-kernel Take i
  code-kept Local i = in-kernel Local i
  code-kept Restore i = in-kernel Restore i
  code-kept Speak i = in-kernel Speak i
  code-kept Closing i = in-kernel Closing i

  pub steps-counted : (k : PhaseKind) → Place k p sys → StepsCounted k sys.hart after.hart
  steps-counted User i = by-step i (λ z. z.hart.user_steps) (counted sys.hart.user_steps) (count-same i)
  steps-counted Boot i = machine_steps_uncounted sys i.here.describes.mode
  steps-counted BootWait i = machine_steps_uncounted sys i.here.describes.mode
  steps-counted BootTake i = machine_steps_uncounted sys i.here.describes.mode
  steps-counted Leave i = machine_steps_uncounted sys i.here.describes.mode
  steps-counted Save i = machine_steps_uncounted sys i.here.describes.mode
  steps-counted Check i = machine_steps_uncounted sys i.here.describes.mode
  steps-counted Scan i = machine_steps_uncounted sys i.here.describes.mode
  steps-counted Fill i = machine_steps_uncounted sys i.here.describes.mode
  steps-counted Wait i = machine_steps_uncounted sys i.here.describes.mode
  steps-counted Take i = machine_steps_uncounted sys i.here.describes.mode
  steps-counted Local i = machine_steps_uncounted sys i.here.describes.mode
  steps-counted Restore i = machine_steps_uncounted sys i.here.describes.mode
  steps-counted Speak i = machine_steps_uncounted sys i.here.describes.mode
  steps-counted Closing i = machine_steps_uncounted sys i.here.describes.mode
