-- A word in TOHOST stays while the hart runs, and most hands have none.
use Rattle.std.proofs.Common.{◌≡◌, ◌≢◌, ℕ, zero, suc, inl, inr, List, [], refl, sym, ap, subst, ◌∙◌, ◌∷◌, ◌⊎◌}
use Rattle.fe_base.specs.MemoryMap.{tohost}
use Rattle.guest_memory.specs.Bus.{BusState}
use Rattle.host_text.specs.World.{World}
use Rattle.htif_mailbox.specs.Turns.{call_answer}
use Rattle.kernel_sim.proofs.LoadLaws.{reset_begins}
use Rattle.kernel_sim.specs.Begins.{begun_hart}
use Rattle.kernel_sim.specs.Mail.{MailClass, MailIs, Quiet, mail_class}
use Rattle.kernel_sim.specs.Phases.{dword}
use Rattle.kernel_sim.specs.declared.phase.Phase.{Phase}
use Rattle.kernel_sim.specs.declared.phase.PhaseKind.{PhaseKind}
use Rattle.kernel_sim.specs.declared.phase.PhaseKind.TheVariants.{Boot, BootWait, BootTake, Leave, User, Save, Check}
use Rattle.kernel_sim.specs.declared.phase.PhaseKind.TheVariants.{Scan, Fill, Wait, Take, Local, Restore, Speak}
use Rattle.kernel_sim.specs.declared.phase.PhaseKind.TheVariants.{Closing}
use Rattle.plain_machine.specs.Starts.{Configuration, direct_start, setting_of}
use Rattle.rv_hart.specs.HartStep.{System, hart_step, over, reset_hart}
use Rattle.rv_hart.specs.Walks.{hart_after}
use Rattle.target_box.specs.Turn.{ran}
use Rattle.tether_base.specs.Behind.{BehindAnswer, TakesBack, waits, takes, restores}
use Rattle.tether_base.specs.Between.{Prepares, phase_after, saves, checks, looks, fills}
use Rattle.tether_base.specs.Own.{AnswersItself, decides, hands_back}
use Rattle.tether_base.specs.Place.{Book}
use Rattle.tether_boot.proofs.Begun.{hart_begins}
use Rattle.tether_boot.specs.Booting.{AsksMainVars, BehindBoot, StartsUp, started_bus, is_asked, is_carried_out}
use Rattle.tether_boot.specs.Booting.{is_answered, boots, leaves, asks as boot_asks, takes as boot_takes}
use Rattle.tether_run.proofs.HandSteps.{in-after}
use Rattle.tether_run.specs.Hands.{Hand, IsIn, IsStarting, starts, begins, runs, prepares, answers, asks, queued}
use Rattle.tether_run.specs.Hands.{returns, says}
use Rattle.tether_traps.proofs.TrapLaws.{words_stay}

-- a phase with this word in TOHOST
pub record HasWord (word : ℕ) (sys : System) : Type 0 where
  pub phase : Phase
  pub is : IsIn phase sys
  pub word_is : phase.tohost ≡ word

pub word-there : (word : ℕ) (sys : System) → HasWord word sys → dword sys.bus tohost ≡ word
word-there word sys h = sym h.is.holds.every.tohost_is ∙ h.word_is

module _ (word : ℕ) (some : word ≢ 0) where
  word-step : (sys : System) → HasWord word sys → HasWord word (hart_step sys)
  word-step sys h = record {
    phase = phase_after h.phase sys;
    is = in-after h.phase sys h.is;
    word_is = words_stay h.phase sys h.is.holds h.is.fits (λ e. some (sym h.word_is ∙ e)) ∙ h.word_is;
  }

  word-after : (n : ℕ) (sys : System) → HasWord word sys → HasWord word (hart_after n sys)
  unfolding hart_after
  word-after zero sys h = h
  word-after (suc n) sys h = word-step (hart_after n sys) (word-after n sys h)

  pub word-ran : (sys now : System) (n : ℕ) → ran sys n now → HasWord word sys → HasWord word now
  word-ran sys now n r h = subst (λ (z : System). HasWord word z) (sym r) (word-after n sys h)

-- before the first step TOHOST holds 0
pub starting-quiet : (c : Configuration) (w : World) (book : Book) (sys : System) → IsStarting c w book sys
    → dword sys.bus tohost ≡ 0
starting-quiet c w book sys s =
    let bus : BusState = started_bus s.kernel c.image 1 in
    let some : bus.start ≢ 0 = λ e. (let no : ◌≡◌ {A = ℕ} 1 0 = e in cc) in
    let step : hart_step (over bus reset_hart) ≡ over bus begun_hart = reset_begins bus some in
    let b = hart_begins s.kernel c book s.is_kernel s.is_fit s.bus_fits s.noted s.silent in
    let mail = subst (λ (k : PhaseKind). MailIs (mail_class k) b.0.tohost b.0.fromhost) b.1 b.2.every.mailbox in
    ap (λ (z : System). dword z.bus tohost) s.is ∙ ap (λ (z : System). dword z.bus tohost) (sym step)
    ∙ sym b.2.every.tohost_is ∙ mail.0

module _ (c : Configuration) (w : World) (book : Book) (ws : List ℕ) (word : ℕ) (some : word ≢ 0) (sys : System)
    (here : dword sys.bus tohost ≡ word) where
  in-word : (p : Phase) → IsIn p sys → HasWord word sys
  in-word p is = record { phase = p; is = is; word_is = is.holds.every.tohost_is ∙ here }

  -- a hand has the word in its phase
  pub hand-word : Hand c w book ws sys → HasWord word sys
  hand-word (starts none b) = absurd (some (sym here ∙ starting-quiet c w book sys b))
  hand-word (begins p is kind b) = in-word p is
  hand-word (runs p is kind none b) = in-word p is
  hand-word (prepares p is kind none cause b) = in-word p is
  hand-word (answers p is kind none b) = in-word p is
  hand-word (asks call user wait word none pending noted silent) =
      in-word wait.phase (record { holds = wait.holds; fits = wait.fits })
  hand-word (queued call user wait word one acted) =
      in-word wait.phase (record { holds = wait.holds; fits = wait.fits })
  hand-word (returns p is kind none b) = in-word p is
  hand-word (says none hand) = in-word hand.phase (record { holds = hand.holds; fits = hand.fits })

-- ---- the kinds with none
pub quiet-kind : (k : PhaseKind) (t f : ℕ) → mail_class k ≡ Quiet → MailIs (mail_class k) t f → t ≡ 0
quiet-kind k t f quiet mail = (subst (λ (m : MailClass). MailIs m t f) quiet mail).0

pub prepares-quiet : (k : PhaseKind) → Prepares k → mail_class k ≡ Quiet
prepares-quiet Save saves = refl
prepares-quiet Check checks = refl
prepares-quiet Scan looks = refl
prepares-quiet Fill fills = refl
prepares-quiet Boot kind = elim kind [ ]
prepares-quiet BootWait kind = elim kind [ ]
prepares-quiet BootTake kind = elim kind [ ]
prepares-quiet Leave kind = elim kind [ ]
prepares-quiet User kind = elim kind [ ]
prepares-quiet Wait kind = elim kind [ ]
prepares-quiet Take kind = elim kind [ ]
prepares-quiet Local kind = elim kind [ ]
prepares-quiet Restore kind = elim kind [ ]
prepares-quiet Speak kind = elim kind [ ]
prepares-quiet Closing kind = elim kind [ ]

pub own-quiet : (k : PhaseKind) → AnswersItself k → mail_class k ≡ Quiet
own-quiet Local decides = refl
own-quiet Restore hands_back = refl
own-quiet Boot own = elim own [ ]
own-quiet BootWait own = elim own [ ]
own-quiet BootTake own = elim own [ ]
own-quiet Leave own = elim own [ ]
own-quiet User own = elim own [ ]
own-quiet Save own = elim own [ ]
own-quiet Check own = elim own [ ]
own-quiet Scan own = elim own [ ]
own-quiet Fill own = elim own [ ]
own-quiet Wait own = elim own [ ]
own-quiet Take own = elim own [ ]
own-quiet Speak own = elim own [ ]
own-quiet Closing own = elim own [ ]

pub back-quiet : (c : Configuration) (w : World) (book : Book) (k : PhaseKind) (p : Phase) (sys : System) → TakesBack k
    → MailIs (mail_class k) p.tohost p.fromhost → BehindAnswer (setting_of c) (direct_start c) w book k p sys
    → p.tohost ≡ 0
back-quiet c w book Wait p sys waits mail b = mail b.0
back-quiet c w book Take p sys takes mail b = mail
back-quiet c w book Restore p sys restores mail b = mail.0
back-quiet c w book Boot p sys back mail b = elim back [ ]
back-quiet c w book BootWait p sys back mail b = elim back [ ]
back-quiet c w book BootTake p sys back mail b = elim back [ ]
back-quiet c w book Leave p sys back mail b = elim back [ ]
back-quiet c w book User p sys back mail b = elim back [ ]
back-quiet c w book Save p sys back mail b = elim back [ ]
back-quiet c w book Check p sys back mail b = elim back [ ]
back-quiet c w book Scan p sys back mail b = elim back [ ]
back-quiet c w book Fill p sys back mail b = elim back [ ]
back-quiet c w book Local p sys back mail b = elim back [ ]
back-quiet c w book Speak p sys back mail b = elim back [ ]
back-quiet c w book Closing p sys back mail b = elim back [ ]

-- ---- the answers that wait
-- none waits, or the one to a call
abbrev pub OneWaits : List ℕ → Type 0
OneWaits ws = (ws ≡ []) ⊎ (ws ≡ call_answer ∷ [])

asked-waits : (c : Configuration) (w : World) (book : Book) (ws : List ℕ) (p : Phase) (sys : System)
    → AsksMainVars c w book ws p sys → OneWaits ws
asked-waits c w book ws p sys (is_asked none word answer request user) = inl none
asked-waits c w book ws p sys (is_carried_out one word answer user) = inr one
asked-waits c w book ws p sys (is_answered none answer user) = inl none

boot-waits : (c : Configuration) (w : World) (book : Book) (ws : List ℕ) (k : PhaseKind) (p : Phase) (sys : System)
    → StartsUp k → BehindBoot c w book ws k p sys → OneWaits ws
boot-waits c w book ws Boot p sys boots b = inl b.0
boot-waits c w book ws BootWait p sys boot_asks b = asked-waits c w book ws p sys b.1
boot-waits c w book ws BootTake p sys boot_takes b = inl b.none_waits
boot-waits c w book ws Leave p sys leaves b = inl b.none_waits
boot-waits c w book ws User p sys up b = elim up [ ]
boot-waits c w book ws Save p sys up b = elim up [ ]
boot-waits c w book ws Check p sys up b = elim up [ ]
boot-waits c w book ws Scan p sys up b = elim up [ ]
boot-waits c w book ws Fill p sys up b = elim up [ ]
boot-waits c w book ws Wait p sys up b = elim up [ ]
boot-waits c w book ws Take p sys up b = elim up [ ]
boot-waits c w book ws Local p sys up b = elim up [ ]
boot-waits c w book ws Restore p sys up b = elim up [ ]
boot-waits c w book ws Speak p sys up b = elim up [ ]
boot-waits c w book ws Closing p sys up b = elim up [ ]

pub one-waits : (c : Configuration) (w : World) (book : Book) (ws : List ℕ) (sys : System) → Hand c w book ws sys
    → OneWaits ws
one-waits c w book ws sys (starts none b) = inl none
one-waits c w book ws sys (begins p is kind b) = boot-waits c w book ws p.kind p sys kind b
one-waits c w book ws sys (runs p is kind none b) = inl none
one-waits c w book ws sys (prepares p is kind none cause b) = inl none
one-waits c w book ws sys (answers p is kind none b) = inl none
one-waits c w book ws sys (asks call user wait word none pending noted silent) = inl none
one-waits c w book ws sys (queued call user wait word one acted) = inr one
one-waits c w book ws sys (returns p is kind none b) = inl none
one-waits c w book ws sys (says none hand) = inl none
