-- What the part of a host turn on tohost comes to behind a trap: a byte of the message, or the exit behind it.
use Rattle.std.specs.Prelude.{◌≡◌, ◌≢◌, ◌<◌, ◌+◌, ℕ, false, true, List, [], Option, Some, None, Result, Ok, Err}
use Rattle.fe_base.specs.MemoryMap.{tohost}
use Rattle.host_text.specs.Played.{Played}
use Rattle.host_text.specs.World.{World}
use Rattle.htif_mailbox.specs.Turns.{word_text}
use Rattle.htif_mailbox.specs.declared.answers.MailFault.{MailFault}
use Rattle.htif_mailbox.specs.declared.answers.Turned.{Turned}
use Rattle.htif_mailbox.specs.declared.answers.Turned.TheVariants.{Idle, Answered, Served, Exited}
use Rattle.kernel_sim.specs.Holds.{Holds}
use Rattle.kernel_sim.specs.declared.phase.Phase.{Phase}
use Rattle.kernel_sim.specs.declared.phase.PhaseKind.{PhaseKind}
use Rattle.kernel_sim.specs.declared.phase.PhaseKind.TheVariants.{Speak, Closing}
use Rattle.plain_machine.specs.Direct.{DirectState, direct_after, dying, in_world, running, status_of, with_byte}
use Rattle.plain_machine.specs.Programs.{Process}
use Rattle.rv_hart.specs.HartStep.{System}
use Rattle.rv_hart.specs.Laws.{IsSystem}
use Rattle.syscall_proxy.specs.Kept.{Kept, Setting, kept}
use Rattle.tether_base.specs.Between.{StandsAt}
use Rattle.tether_base.specs.Place.{Agrees, Book, noted_in, place}
use Rattle.tether_base.specs.Serving.{Here, TellsAll}
use Rattle.tether_base.specs.ToldActs.{seen_acts}
use Rattle.tether_traps.specs.Saying.{EndHand, TrapHand}

-- one byte more was put, or the exit was handled
abbrev pub one_more : Book → Book
one_more book = record book { said = book.said + 1 }

-- the kinds in which a message is said and the exit is posted
pub data Puts : PhaseKind → Type 0 where
  speaks : Puts Speak
  closes : Puts Closing

-- the direct run begins with a program that runs
abbrev pub StartsRunning : DirectState → Type 0
StartsRunning start = (process : Process) × (start.machine ≡ running process)

module _ (given : Setting) (start : DirectState) (w : World) (book : Book) where
  -- a hart behind a trap where the host has stopped, whether the word is cleared or not: no more was put than before
  pub record StoppedHand (sys : System) : Type 0 where
    pub phase : Phase
    pub holds : Holds phase sys
    pub fits : IsSystem sys
    pub kind : Puts phase.kind
    pub noted : book.acted_at < sys.hart.user_steps
    pub left : List ℕ
    pub status : ℕ
    pub stands : StandsAt given start w book (sys.hart.user_steps + book.said) (dying left status)

  -- What a word behind a trap comes to, where no answer waits: its byte was put, and the direct run has said it too;
  -- the exit was handled, and the direct run has ended; or a refusal, before which nothing was put.
  pub data Handled (r : Result Turned MailFault) (s : Here) : Type 0 where
    was_put : (byte : ℕ) → r ≡ Ok Served → TrapHand given start (with_byte w byte) (one_more book) s.port
        → TellsAll (with_byte w byte).contents (kept w.numbers true []) s → Handled r s
    has_exited : (status : ℕ) → r ≡ Ok (Exited status) → EndHand given start w book status s.port
        → TellsAll w.contents (kept w.numbers true []) s → Handled r s
    was_refused : (fault : MailFault) → r ≡ Err fault → StoppedHand s.port
        → TellsAll w.contents (kept w.numbers false []) s → Handled r s

-- the status of an answer that is an exit
abbrev pub exit_of : Result Turned MailFault → Option ℕ
exit_of (Ok (Exited status)) = Some status
exit_of (Ok Idle) = None
exit_of (Ok Answered) = None
exit_of (Ok Served) = None
exit_of (Err fault) = None

-- the direct run at the place of a session
abbrev pub at_place : Setting → DirectState → System → Book → DirectState
at_place given start sys book = direct_after given (place sys.hart book) start

-- ---- the laws
-- What the part of a turn on tohost does for a word that waits behind a trap comes to this.
abbrev pub WordsAreHandled : Type 0
WordsAreHandled =
    (given : Setting) (start : DirectState) (w : World) (book : Book) (word : ℕ) (s now : Here)
    (r : Result Turned MailFault) → StartsRunning start → (hand : TrapHand given start w book s.port)
    → hand.phase.tohost ≡ word → word ≢ 0 → TellsAll w.contents (kept w.numbers false []) s
    → Played seen_acts (word_text given tohost word) s r now → Handled given start w book r now

-- Whatever it comes to, console, input and files are those of the direct run at the place.
abbrev pub HandledAgree : Type 0
HandledAgree =
    (given : Setting) (start : DirectState) (w : World) (book : Book) (r : Result Turned MailFault) (s : Here)
    → Handled given start w book r s
    → Agrees given start s.port (noted_in s.kept.acted s.port.hart book) (Some s.input) (Some s.console) (Some s.folder)

-- An exit is answered exactly where the direct run has ended at the place, with its status.
abbrev pub ExitsAgree : Type 0
ExitsAgree =
    (given : Setting) (start : DirectState) (w : World) (book : Book) (r : Result Turned MailFault) (s : Here)
    → Handled given start w book r s
    → status_of (at_place given start s.port (noted_in s.kept.acted s.port.hart book)).machine ≡ exit_of r

-- What is noted of a byte that was put is one byte more.
abbrev pub BytesAreNoted : Type 0
BytesAreNoted =
    (given : Setting) (start : DirectState) (w : World) (book : Book) (sys : System)
    → TrapHand given start w (one_more book) sys → noted_in true sys.hart book ≡ one_more book

-- Behind a trap console, input and files are those of the direct run at the place, where it says its last words.
abbrev pub TrapsAgree : Type 0
TrapsAgree =
    (given : Setting) (start : DirectState) (w : World) (book : Book) (k : Kept) (s : Here)
    → TrapHand given start w book s.port → TellsAll w.contents k s
    → Agrees given start s.port book (Some s.input) (Some s.console) (Some s.folder)
    × ((text : List ℕ) × (status : ℕ) × (at_place given start s.port book ≡ in_world (dying text status) w))
