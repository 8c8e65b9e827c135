-- A whole session: what is done before the first host turn, the host turns, and what they come to.
use Rattle.std.specs.Prelude.{◌≡◌, ℕ, false, List, [], Some, Result, Ok, Err}
use Rattle.std.specs.Int.{to_le_bytes, w64}
use Rattle.elf_loader.specs.ElfFile.{IsFit}
use Rattle.elf_loader.specs.Rules.{user_rules}
use Rattle.fe_base.specs.MemoryMap.{start_word}
use Rattle.folder_tree.specs.Tree.{IsWellFormed}
use Rattle.host_text.specs.Played.{Acts, At, Played, at}
use Rattle.host_text.specs.Text.{Done, Write}
use Rattle.host_text.specs.World.{first_numbers}
use Rattle.htif_mailbox.specs.Turns.{Mail}
use Rattle.htif_mailbox.specs.declared.answers.MailFault.{MailFault}
use Rattle.htif_mailbox.specs.declared.answers.MailFault.TheVariants.{Port}
use Rattle.htif_mailbox.specs.declared.answers.Turned.{Turned}
use Rattle.htif_mailbox.specs.declared.answers.Turned.TheVariants.{Idle, Exited}
use Rattle.plain_machine.specs.Starts.{Configuration, setting_of}
use Rattle.rv_hart.specs.HartStep.{HartState, System}
use Rattle.syscall_proxy.specs.Kept.{Kept, Setting, kept}
use Rattle.target_box.specs.Lined.{IsDirectLine, Lined, seen}
use Rattle.target_box.specs.Turn.{reset_system}
use Rattle.tether_base.specs.Place.{Book, SessionRan}
use Rattle.tether_base.specs.Seen.{seen_at}
use Rattle.tether_base.specs.Serving.{Here}
use Rattle.tether_base.specs.Tethered.{IsKernel, TetherState}
use Rattle.tether_base.specs.Texts.{Range, load_text, loads_of, session_text}
use Rattle.tether_base.specs.ToldActs.{line_acts, seen_acts}
use Rattle.tether_run.specs.HostTurns.{CountsOn, FitsMainVars, HostTurns}

-- nothing is noted yet
abbrev pub first_book : Book
first_book = record { acted_at = 0; said = 0 }

-- what is done before the first host turn: the ranges are written, and 1 to the start word
abbrev pub begin_text : List Range → Mail
begin_text ranges = load_text ranges (Write start_word (to_le_bytes w64 1) Port (Done Idle))

module _ {X F I C : Type 0} (o : Acts X F I C) (hart : X → HartState) (given : Setting) (ranges : List Range)
    (turns : ℕ) (s : At X F I C Kept) where
  -- A session was made from a place, with at most so many host turns: it did not begin, or it began, and host turns
  -- were made from an empty book.
  pub data SessionMade : Result Turned MailFault → Book → At X F I C Kept → Type 0 where
    not_begun : {now : At X F I C Kept} (fault : MailFault) → Played o (begin_text ranges) s (Err fault) now
        → SessionMade (Err fault) first_book now
    has_begun : {r : Result Turned MailFault} {last : Book} {now : At X F I C Kept} (mid : At X F I C Kept)
        → Played o (begin_text ranges) s (Ok Idle) mid → HostTurns o hart given turns first_book mid r last now
        → SessionMade r last now

-- the hart of a target behind a line
abbrev pub line_hart : Lined → HartState
line_hart line = (seen line).hart

-- what is seen where a session of a configuration begins: a target at reset, the configuration's contents, and nothing
-- but the first open numbers
abbrev pub first_here : Configuration → Here
first_here c =
    at reset_system c.contents.tree c.contents.input c.contents.console (kept first_numbers false [])

-- a session may be made of a kernel's image and this configuration: the program may be run, its main vars fit, and its
-- tree is well formed
pub record IsSessionOf (kernel : List ℕ) (c : Configuration) : Type 0 where
  pub is_kernel : IsKernel kernel
  pub is_fit : IsFit user_rules c.image
  pub fits : FitsMainVars c
  pub formed : IsWellFormed c.contents.tree

-- what is answered at an exit with this status
abbrev pub exits_with : Result Turned MailFault → ℕ → Type 0
exits_with r status = r ≡ Ok (Exited status)

-- the session agrees with the direct run of a configuration, whatever was answered
abbrev pub RanHere : Configuration → Result Turned MailFault → Book → Here → Type 0
RanHere c r book s = SessionRan c (exits_with r) s.port book (Some s.input) (Some s.console) (Some s.folder)

-- ---- the laws
-- What was followed of a session's text is such a session.
abbrev pub TextsAreSessions : Type 0
TextsAreSessions =
    (given : Setting) (ranges : List Range) (turns : ℕ) (s now : Here) (r : Result Turned MailFault)
    → Played seen_acts (session_text given ranges turns) s r now
    → (last : Book) × SessionMade seen_acts (λ (sys : System). sys.hart) given ranges turns s r last now

-- A session that was made over a target behind a line was made over what is seen of it.
abbrev pub SessionsAreSeen : Type 0
SessionsAreSeen =
    (given : Setting) (ranges : List Range) (turns : ℕ) (s now : TetherState) (r : Result Turned MailFault)
    (last : Book)
    → IsDirectLine s.port → SessionMade line_acts line_hart given ranges turns s r last now
    → SessionMade seen_acts (λ (sys : System). sys.hart) given ranges turns (seen_at s) r last (seen_at now)

-- Whatever it answers, a session agrees with the direct run at its place, and has ended exactly where it says so.
abbrev pub SessionsAgree : Type 0
SessionsAgree =
    (kernel : List ℕ) (c : Configuration) (turns : ℕ) (now : Here) (r : Result Turned MailFault) (last : Book)
    → IsSessionOf kernel c → CountsOn now
    → SessionMade seen_acts (λ (sys : System). sys.hart) (setting_of c) (loads_of kernel c.image) turns (first_here c) r
    last now → RanHere c r last now
