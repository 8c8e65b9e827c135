-- What stands beside the direct run from a trap that is no call until its message is said and the exit is posted.
use Rattle.std.specs.Prelude.{◌≡◌, ◌≢◌, ◌<◌, ◌⊎◌, ◌+◌, ℕ, [], drop, length, slice_index}
use Rattle.host_text.specs.World.{World}
use Rattle.kernel_code.specs.Places.{pc_idle}
use Rattle.kernel_sim.specs.Holds.{Holds}
use Rattle.kernel_sim.specs.Phases.{console_word, message}
use Rattle.kernel_sim.specs.Stores.{exit_status, exit_word}
use Rattle.kernel_sim.specs.declared.phase.Phase.{Phase}
use Rattle.kernel_sim.specs.declared.phase.PhaseKind.{PhaseKind}
use Rattle.kernel_sim.specs.declared.phase.PhaseKind.TheVariants.{Save, Check, Speak, Closing}
use Rattle.kernel_sim.specs.declared.phase.Spoken.{Spoken}
use Rattle.plain_machine.specs.Direct.{DirectState, dying}
use Rattle.rv_hart.specs.HartStep.{System, hart_step}
use Rattle.rv_hart.specs.Laws.{IsSystem}
use Rattle.syscall_proxy.specs.Kept.{Setting}
use Rattle.tether_base.specs.Between.{IsDying, StandsAt, phase_after}
use Rattle.tether_base.specs.Place.{Book}

-- all that was posted of the message was put: TOHOST holds 0
pub record NoneWaits (book : Book) (text : Spoken) (tohost : ℕ) : Type 0 where
  pub posted_is : text.posted ≡ book.said
  pub tohost_is : tohost ≡ 0

-- the next byte of the message is posted: TOHOST holds its word
pub record ByteWaits (book : Book) (text : Spoken) (tohost : ℕ) : Type 0 where
  pub posted_is : text.posted ≡ book.said + 1
  pub tohost_is : tohost ≡ console_word (slice_index (message text) book.said)

module _ (given : Setting) (start : DirectState) (w : World) (book : Book) where
  -- the last user step was a trap of this message, of which so many bytes were put: the direct run has said as many
  pub record HasSaid (steps : ℕ) (text : Spoken) : Type 0 where
    pub noted : book.acted_at < steps
    pub stands : StandsAt given start w book (steps + book.said)
        (dying (drop book.said (message text)) (exit_status text))

  -- the kernel says the message, byte by byte
  pub record IsSaying (steps : ℕ) (text : Spoken) (tohost : ℕ) : Type 0 where
    pub said : HasSaid steps text
    pub word : NoneWaits book text tohost ⊎ ByteWaits book text tohost

  -- all of the message was put, and the exit behind it is posted
  pub record IsLeaving (steps : ℕ) (text : Spoken) (tohost : ℕ) : Type 0 where
    pub said : HasSaid steps text
    pub all_said : book.said ≡ length (message text)
    pub tohost_is : tohost ≡ exit_word text

  -- from the trap to the exit, which is posted where the hart stands at its last place
  abbrev pub BehindTrap : PhaseKind → Phase → System → Type 0
  BehindTrap Save p sys = IsDying given start w book sys.hart.user_steps p.text × (sys.hart.csrs.mcause ≢ 8)
  BehindTrap Check p sys = IsDying given start w book sys.hart.user_steps p.text × (sys.hart.csrs.mcause ≢ 8)
  BehindTrap Speak p sys = IsSaying sys.hart.user_steps p.text p.tohost
  BehindTrap Closing p sys =
      (IsSaying sys.hart.user_steps p.text p.tohost × (sys.hart.pc ≢ pc_idle))
      ⊎ (IsLeaving sys.hart.user_steps p.text p.tohost × (sys.hart.pc ≡ pc_idle))
  BehindTrap _ p sys = ⊥

  -- a hart there, in a phase that holds
  pub record TrapHand (sys : System) : Type 0 where
    pub phase : Phase
    pub holds : Holds phase sys
    pub fits : IsSystem sys
    pub behind : BehindTrap phase.kind phase sys

  -- a hart whose exit was handled: the direct run had said all its last words, and its next step is the end
  pub record EndHand (status : ℕ) (sys : System) : Type 0 where
    pub phase : Phase
    pub holds : Holds phase sys
    pub fits : IsSystem sys
    pub kind : phase.kind ≡ Closing
    pub noted : book.acted_at < sys.hart.user_steps
    pub stands : StandsAt given start w book (sys.hart.user_steps + book.said) (dying [] status)

-- the kinds in which the kernel has to do with a trap that is no call
pub data Dies : PhaseKind → Type 0 where
  saves : Dies Save
  checks : Dies Check
  speaks : Dies Speak
  closes : Dies Closing

-- ---- the laws
-- Each step of the kernel behind a trap takes the message on, to the exit that is posted.
abbrev pub TrapStepsFollow : Type 0
TrapStepsFollow =
    (given : Setting) (start : DirectState) (w : World) (book : Book) (p : Phase) (sys : System) → Holds p sys
    → IsSystem sys → Dies p.kind → BehindTrap given start w book p.kind p sys
    → BehindTrap given start w book (phase_after p sys).kind (phase_after p sys) (hart_step sys)

-- A hart behind a trap stays so in each step.
abbrev pub TrapHandsStay : Type 0
TrapHandsStay =
    (given : Setting) (start : DirectState) (w : World) (book : Book) (sys : System) → TrapHand given start w book sys
    → TrapHand given start w book (hart_step sys)

-- A word that waits in TOHOST stays in each step, whatever the phase.
abbrev pub WordsStay : Type 0
WordsStay =
    (p : Phase) (sys : System) → Holds p sys → IsSystem sys → p.tohost ≢ 0 → (phase_after p sys).tohost ≡ p.tohost
