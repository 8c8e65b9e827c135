-- The hand goes on in each step of the hart, wherever the kernel is.
use Rattle.std.proofs.Common.{◌≡◌, ◌<◌, ◌+◌, ◌^◌, ℕ, zero, suc, inl, inr, List, [], refl, sym, subst, arith}
use Rattle.guest_memory.specs.Bus.{BusState, IsBus, reset_bus}
use Rattle.host_text.specs.World.{World}
use Rattle.kernel_sim.proofs.AdvanceLaws.{steps_advance}
use Rattle.kernel_sim.specs.declared.phase.Phase.{Phase}
use Rattle.kernel_sim.specs.declared.phase.PhaseKind.{PhaseKind}
use Rattle.kernel_sim.specs.declared.phase.PhaseKind.TheVariants.{Boot, BootWait, BootTake, Leave, User, Save, Check}
use Rattle.kernel_sim.specs.declared.phase.PhaseKind.TheVariants.{Scan, Fill, Wait, Take, Local, Restore, Speak}
use Rattle.kernel_sim.specs.declared.phase.PhaseKind.TheVariants.{Closing}
use Rattle.plain_machine.specs.Direct.{DirectState}
use Rattle.plain_machine.specs.Starts.{Configuration, direct_start, first_world, setting_of}
use Rattle.rv_hart.proofs.RangeLaws.{steps_keep_range}
use Rattle.rv_hart.proofs.RegisterLemmas.{AreRegisters-zeros}
use Rattle.rv_hart.specs.HartStep.{IsHart, System, hart_step, over, reset_hart}
use Rattle.rv_hart.specs.Laws.{IsSystem}
use Rattle.rv_hart.specs.Walks.{hart_after}
use Rattle.syscall_proxy.specs.Kept.{Setting}
use Rattle.syscall_proxy.specs.Worlds.{IsWorld}
use Rattle.tether_base.proofs.Followed.{posted_calls_wait}
use Rattle.tether_base.proofs.OwnAnswers.{own_calls_begin}
use Rattle.tether_base.proofs.SessionLaws.{answer_steps_follow, call_steps_follow, own_answers_follow, stays_waiting}
use Rattle.tether_base.proofs.SessionLaws.{user_steps_follow}
use Rattle.tether_base.proofs.WordWalk.{steps_never_fall}
use Rattle.tether_base.specs.Behind.{BehindAnswer, TakesBack, waits, takes, restores}
use Rattle.tether_base.specs.Between.{BehindCall, BehindUser, IsCalling, IsPosted, Prepares, phase_after, posted_call}
use Rattle.tether_base.specs.Between.{saves, checks, looks, fills}
use Rattle.tether_base.specs.Loading.{loaded_bus}
use Rattle.tether_base.specs.Own.{AnswersItself, BehindOwn, decides, hands_back}
use Rattle.tether_base.specs.Place.{Book}
use Rattle.tether_base.specs.Texts.{loads_of}
use Rattle.tether_boot.proofs.Begun.{hart_begins}
use Rattle.tether_boot.proofs.BootLaws.{boot_steps_follow}
use Rattle.tether_boot.specs.Booting.{BehindBoot, StartsUp, boots, leaves, started_bus, asks as boot_asks}
use Rattle.tether_boot.specs.Booting.{takes as boot_takes}
use Rattle.tether_run.specs.Hands.{Hand, HandSteps, HandsStay, IsIn, IsStarting, starts, begins, runs, prepares}
use Rattle.tether_run.specs.Hands.{answers, asks, queued, returns, says}
use Rattle.tether_traps.proofs.TrapLaws.{trap_hands_stay}
use Rattle.tether_traps.specs.Saying.{BehindTrap}

-- a step keeps that the hart is in a phase
pub in-after : (p : Phase) (sys : System) → IsIn p sys → IsIn (phase_after p sys) (hart_step sys)
in-after p sys is = record {
  holds = (steps_advance p sys is.holds is.fits).0;
  fits = steps_keep_range sys is.fits;
}

-- the numbers of a hart at reset fit
pub reset-fits : IsHart reset_hart
reset-fits = record {
  pc_fits = omega arith;
  registers_fit = AreRegisters-zeros;
  csrs_fit = record {
    mtvec_fits = omega arith;
    mtvec_aligned = refl;
    mscratch_fits = omega arith;
    mepc_fits = omega arith;
    mepc_aligned = refl;
    mcause_fits = omega arith;
    mtval_fits = omega arith;
    pmp0_fits = record { end_fits = omega arith; end_aligned = refl; write_reads = refl };
    pmp1_fits = record { end_fits = omega arith; end_aligned = refl; write_reads = refl };
  };
  user_steps_fit = omega arith;
}

-- and those of a bus, whatever the start word
pub started-fits : (bus : BusState) → IsBus bus → IsBus (record bus { start = 1 })
started-fits bus fits = record {
  user_length = fits.user_length;
  kernel_length = fits.kernel_length;
  user_bytes = fits.user_bytes;
  kernel_bytes = fits.kernel_bytes;
  start_bits = omega arith;
}

-- the numbers fit wherever a hand stands
pub hand-fits : {c : Configuration} {w : World} {book : Book} {ws : List ℕ} {sys : System} → Hand c w book ws sys
    → IsSystem sys
hand-fits {c = c} (starts none s) =
    let bus : BusState = loaded_bus (loads_of s.kernel c.image) reset_bus in
    subst IsSystem (sym s.is) (record { hart_fits = reset-fits; bus_fits = started-fits bus s.bus_fits })
hand-fits (begins p is kind b) = is.fits
hand-fits (runs p is kind none b) = is.fits
hand-fits (prepares p is kind none cause b) = is.fits
hand-fits (answers p is kind none b) = is.fits
hand-fits (asks call user wait word none pending noted silent) = wait.fits
hand-fits (queued call user wait word one acted) = wait.fits
hand-fits (returns p is kind none b) = is.fits
hand-fits (says none hand) = hand.fits

module _ (c : Configuration) (w : World) (book : Book) where
  abbrev given : Setting
  given = setting_of c

  abbrev start : DirectState
  start = direct_start c

  abbrev Stands : List ℕ → System → Type 0
  Stands ws sys = Hand c w book ws sys

  -- ---- what holds behind a step, by the kind of its phase
  module _ (p : Phase) (sys : System) (is : IsIn p sys) (ws : List ℕ) where
    -- on the way to the program
    abbrev ByBoot : PhaseKind → Type 0
    ByBoot k = BehindBoot c w book ws k p sys

    still-boots : (k : PhaseKind) → p.kind ≡ k → StartsUp k → ByBoot k → Stands ws sys
    still-boots k kind up b = begins p is (subst StartsUp (sym kind) up) (subst ByBoot (sym kind) b)

    after-boot : (k : PhaseKind) → p.kind ≡ k → ByBoot k → Stands ws sys
    after-boot Boot kind b = still-boots Boot kind boots b
    after-boot BootWait kind b = still-boots BootWait kind boot_asks b
    after-boot BootTake kind b = still-boots BootTake kind boot_takes b
    after-boot Leave kind b = still-boots Leave kind leaves b
    after-boot User kind b = runs p is kind b.0 b.1
    after-boot Save kind b = absurd b
    after-boot Check kind b = absurd b
    after-boot Scan kind b = absurd b
    after-boot Fill kind b = absurd b
    after-boot Wait kind b = absurd b
    after-boot Take kind b = absurd b
    after-boot Local kind b = absurd b
    after-boot Restore kind b = absurd b
    after-boot Speak kind b = absurd b
    after-boot Closing kind b = absurd b

  module _ (p : Phase) (sys : System) (is : IsIn p sys) (ws : List ℕ) (none : ws ≡ []) where
    abbrev Calls : Type 0
    Calls = IsCalling given start w book sys.hart.user_steps p.user sys.bus.user

    -- behind a user step
    traps : p.kind ≡ Save → BehindTrap given start w book Save p sys → Stands ws sys
    traps kind b = says none (record {
      phase = p;
      holds = is.holds;
      fits = is.fits;
      behind = subst (λ (k : PhaseKind). BehindTrap given start w book k p sys) (sym kind) b;
    })

    still-prepares : (k : PhaseKind) → p.kind ≡ k → Prepares k → sys.hart.csrs.mcause ≡ 8 → Calls → Stands ws sys
    still-prepares k kind prepared cause b = prepares p is (subst Prepares (sym kind) prepared) none cause b

    after-user : (k : PhaseKind) → p.kind ≡ k → BehindUser given start w book k p sys → Stands ws sys
    after-user User kind b = runs p is kind none b
    after-user Save kind b = elim b [
      | inl h ↦ still-prepares Save kind saves h.1 h.0
      | inr h ↦ traps kind h
    ]
    after-user Boot kind b = absurd b
    after-user BootWait kind b = absurd b
    after-user BootTake kind b = absurd b
    after-user Leave kind b = absurd b
    after-user Check kind b = absurd b
    after-user Scan kind b = absurd b
    after-user Fill kind b = absurd b
    after-user Wait kind b = absurd b
    after-user Take kind b = absurd b
    after-user Local kind b = absurd b
    after-user Restore kind b = absurd b
    after-user Speak kind b = absurd b
    after-user Closing kind b = absurd b

    -- behind a step of the kernel in a call that was not yet posted
    still-answers : (k : PhaseKind) → p.kind ≡ k → AnswersItself k → BehindOwn given start w book k p sys
        → Stands ws sys
    still-answers k kind own b =
        answers p is (subst AnswersItself (sym kind) own) none
        (subst (λ (z : PhaseKind). BehindOwn given start w book z p sys) (sym kind) b)

    was-posted : IsWorld w → p.kind ≡ Wait → IsPosted given start w book p sys.hart.user_steps sys.bus.user
        → Stands ws sys
    was-posted world kind b =
        let both = posted_calls_wait given start w book p sys is.holds is.fits kind b world in
        asks (posted_call p sys) sys.bus.user both.0 refl none both.1
        (omega (arith, b.calls.noted, b.calls.counted, both.1.counted)) b.calls.silent

    after-call : IsWorld w → sys.hart.csrs.mcause ≡ 8 → (k : PhaseKind) → p.kind ≡ k
        → BehindCall given start w book k p sys → Stands ws sys
    after-call world cause Save kind b = still-prepares Save kind saves cause b
    after-call world cause Check kind b = still-prepares Check kind checks cause b
    after-call world cause Scan kind b = still-prepares Scan kind looks cause b
    after-call world cause Fill kind b = still-prepares Fill kind fills cause b
    after-call world cause Wait kind b = was-posted world kind b
    after-call world cause Local kind b = still-answers Local kind decides (own_calls_begin given start w book p sys b)
    after-call world cause Boot kind b = absurd b
    after-call world cause BootWait kind b = absurd b
    after-call world cause BootTake kind b = absurd b
    after-call world cause Leave kind b = absurd b
    after-call world cause User kind b = absurd b
    after-call world cause Take kind b = absurd b
    after-call world cause Restore kind b = absurd b
    after-call world cause Speak kind b = absurd b
    after-call world cause Closing kind b = absurd b

    -- where the kernel answers a call itself
    after-own : (k : PhaseKind) → p.kind ≡ k → BehindOwn given start w book k p sys → Stands ws sys
    after-own User kind b = runs p is kind none b
    after-own Local kind b = still-answers Local kind decides b
    after-own Restore kind b = still-answers Restore kind hands_back b
    after-own Boot kind b = absurd b
    after-own BootWait kind b = absurd b
    after-own BootTake kind b = absurd b
    after-own Leave kind b = absurd b
    after-own Save kind b = absurd b
    after-own Check kind b = absurd b
    after-own Scan kind b = absurd b
    after-own Fill kind b = absurd b
    after-own Wait kind b = absurd b
    after-own Take kind b = absurd b
    after-own Speak kind b = absurd b
    after-own Closing kind b = absurd b

    -- where it takes an answer back
    still-returns : (k : PhaseKind) → p.kind ≡ k → TakesBack k → BehindAnswer given start w book k p sys
        → Stands ws sys
    still-returns k kind back b =
        returns p is (subst TakesBack (sym kind) back) none
        (subst (λ (z : PhaseKind). BehindAnswer given start w book z p sys) (sym kind) b)

    after-answer : (k : PhaseKind) → p.kind ≡ k → BehindAnswer given start w book k p sys → Stands ws sys
    after-answer User kind b = runs p is kind none b
    after-answer Wait kind b = still-returns Wait kind waits b
    after-answer Take kind b = still-returns Take kind takes b
    after-answer Restore kind b = still-returns Restore kind restores b
    after-answer Boot kind b = absurd b
    after-answer BootWait kind b = absurd b
    after-answer BootTake kind b = absurd b
    after-answer Leave kind b = absurd b
    after-answer Save kind b = absurd b
    after-answer Check kind b = absurd b
    after-answer Scan kind b = absurd b
    after-answer Fill kind b = absurd b
    after-answer Local kind b = absurd b
    after-answer Speak kind b = absurd b
    after-answer Closing kind b = absurd b

  -- ---- the step
  module _ (world : IsWorld w) (ws : List ℕ) (sys : System) (small : sys.hart.user_steps + 1 < 2 ^ 64) where
    -- the first step of the hart
    first : IsStarting c w book sys → ws ≡ [] → Stands ws (hart_step sys)
    first s none =
        let at : System = over (started_bus s.kernel c.image 1) reset_hart in
        let begun = hart_begins s.kernel c book s.is_kernel s.is_fit s.bus_fits s.noted s.silent in
        let B : World → List ℕ → Type 0 = λ z l. BehindBoot c z book l Boot begun.0 (hart_step at) in
        let behind : B w ws = subst (λ (z : World). B z ws) (sym s.world_is)
        (subst (λ (l : List ℕ). B (first_world c.contents) l) (sym none) begun.4) in
        let here : Stands ws (hart_step at) =
        after-boot begun.0 (hart_step at) (record { holds = begun.2; fits = begun.3 }) ws Boot begun.1 behind in
        subst (λ (z : System). Stands ws (hart_step z)) (sym s.is) here

    step : Stands ws sys → Stands ws (hart_step sys)
    step (starts none s) = first s none
    step (begins p is kind b) =
        let q = phase_after p sys in
        after-boot q (hart_step sys) (in-after p sys is) ws q.kind refl
        (boot_steps_follow c w book ws p sys is.holds is.fits kind b)
    step (runs p is kind none b) =
        let q = phase_after p sys in
        after-user q (hart_step sys) (in-after p sys is) ws none q.kind refl
        (user_steps_follow given start w book p sys is.holds is.fits kind small b)
    step (prepares p is kind none cause b) =
        let q = phase_after p sys in
        let next = call_steps_follow given start w book p sys is.holds is.fits kind cause b in
        after-call q (hart_step sys) (in-after p sys is) ws none world next.1 q.kind refl next.0
    step (answers p is kind none b) =
        let q = phase_after p sys in
        after-own q (hart_step sys) (in-after p sys is) ws none q.kind refl
        (own_answers_follow given start w book p sys is.holds is.fits kind b)
    step (asks call user wait word none pending noted silent) =
        asks call user (stays_waiting call user sys wait) word none pending noted silent
    step (queued call user wait word one acted) = queued call user (stays_waiting call user sys wait) word one acted
    step (returns p is kind none b) =
        let q = phase_after p sys in
        after-answer q (hart_step sys) (in-after p sys is) ws none q.kind refl
        (answer_steps_follow given start w book p sys is.holds is.fits kind b)
    step (says none hand) = says none (trap_hands_stay given start w book sys hand)

pub hand_steps : HandSteps
hand_steps c w book ws sys world small hand = step c w book world ws sys small hand

-- ---- any number of steps
hand-after : (c : Configuration) (w : World) (book : Book) (ws : List ℕ) → IsWorld w → (n : ℕ) (sys : System)
    → (hart_after n sys).hart.user_steps + 1 < 2 ^ 64 → Hand c w book ws sys → Hand c w book ws (hart_after n sys)
unfolding hart_after
hand-after c w book ws world zero sys small hand = hand
hand-after c w book ws world (suc n) sys small hand =
    let fits : IsSystem sys = hand-fits hand in
    let before = steps_never_fall.along sys (hart_after n sys) n fits refl in
    let one = steps_never_fall.along (hart_after n sys) (hart_step (hart_after n sys)) 1 before.fits refl in
    let next : (hart_step (hart_after n sys)).hart.user_steps + 1 < 2 ^ 64 = small in
    let fewer : (hart_after n sys).hart.user_steps + 1 < 2 ^ 64 = omega (arith, one.later, next) in
    hand_steps c w book ws (hart_after n sys) world fewer (hand-after c w book ws world n sys fewer hand)

pub hands_stay : HandsStay
hands_stay c w book ws sys now steps world small r hand =
    let all : (hart_after steps sys).hart.user_steps + 1 < 2 ^ 64 =
    subst (λ (z : System). z.hart.user_steps + 1 < 2 ^ 64) r small in
    subst (λ (z : System). Hand c w book ws z) (sym r) (hand-after c w book ws world steps sys all hand)
