-- Host turns one after the other, with what the host notes behind each part on tohost, and what they come to.
use Rattle.std.specs.Prelude.{◌≡◌, ◌≤◌, ◌<◌, ◌+◌, ◌^◌, ℕ, zero, suc, Bool, Some, None, Result, Ok, Err}
use Rattle.chunk_memory.specs.declared.stops.MemStop.{MemStop}
use Rattle.fe_base.specs.Limits.{main_vars_limit}
use Rattle.fe_base.specs.MemoryMap.{fromhost, tohost}
use Rattle.fe_base.specs.WordLists.{main_vars_length}
use Rattle.host_text.specs.Played.{Acts, At, Played}
use Rattle.htif_mailbox.specs.Turns.{give_text, serve_text}
use Rattle.htif_mailbox.specs.declared.answers.MailFault.{MailFault}
use Rattle.htif_mailbox.specs.declared.answers.MailFault.TheVariants.{Port}
use Rattle.htif_mailbox.specs.declared.answers.Turned.{Turned}
use Rattle.htif_mailbox.specs.declared.answers.Turned.TheVariants.{Idle, Answered, Served, Exited}
use Rattle.plain_machine.specs.Direct.{DirectState, ended, status_of}
use Rattle.plain_machine.specs.Starts.{Configuration, direct_start, setting_of, state_after}
use Rattle.rv_hart.specs.HartStep.{HartState, System}
use Rattle.syscall_proxy.specs.Kept.{Kept, Setting}
use Rattle.tether_base.specs.Place.{Agrees, Book, noted_in, place}
use Rattle.tether_base.specs.Serving.{Here}
use Rattle.tether_base.specs.ToldActs.{seen_acts}
use Rattle.tether_run.specs.Hands.{Standing}

-- a part on tohost that was no exit: the part on fromhost comes behind it
pub data GoesOn : Turned → Type 0 where
  idle : GoesOn Idle
  served : GoesOn Served

module _ {X F I C : Type 0} (o : Acts X F I C) (hart : X → HartState) (given : Setting) where
  -- where the four and the host stand
  abbrev pub There : Type 0
  There = At X F I C Kept

  -- the book behind a part on tohost, by the hart that is seen there
  abbrev pub noted_at : There → Book → Book
  noted_at s book = noted_in s.kept.acted (hart s.port) book

  -- Host turns were made, at most so many, from a book and a place. They end where as many were made, behind an exit,
  -- or where a part was refused. Behind a part on tohost that says it has answered no part on fromhost would come.
  pub data HostTurns : ℕ → Book → There → Result Turned MailFault → Book → There → Type 0 where
    all_made : {book : Book} {s : There} → HostTurns zero book s (Ok Idle) book s
    has_exited : {n : ℕ} {book : Book} {s now : There} (status : ℕ)
        → Played o (serve_text given tohost) s (Ok (Exited status)) now
        → HostTurns (suc n) book s (Ok (Exited status)) (noted_at now book) now
    serve_refused : {n : ℕ} {book : Book} {s now : There} (fault : MailFault)
        → Played o (serve_text given tohost) s (Err fault) now
        → HostTurns (suc n) book s (Err fault) (noted_at now book) now
    give_refused : {n : ℕ} {book : Book} {s now : There} (turned : Turned) (mid : There) (why : MemStop)
        → GoesOn turned → Played o (serve_text given tohost) s (Ok turned) mid
        → Played o (give_text fromhost) mid (Err why) now
        → HostTurns (suc n) book s (Err (Port why)) (noted_at mid book) now
    has_answered : {n : ℕ} {book last : Book} {s now : There} {r : Result Turned MailFault} (mid : There)
        → Played o (serve_text given tohost) s (Ok Answered) mid → HostTurns n (noted_at mid book) mid r last now
        → HostTurns (suc n) book s r last now
    goes_on : {n : ℕ} {book last : Book} {s now : There} {r : Result Turned MailFault} (turned : Turned) (mid : There)
        (gave : Bool) (next : There) → GoesOn turned
        → Played o (serve_text given tohost) s (Ok turned) mid → Played o (give_text fromhost) mid (Ok gave) next
        → HostTurns n (noted_at mid book) next r last now → HostTurns (suc n) book s r last now

-- where the direct run stands at the place of the session
abbrev pub at_place : Configuration → Book → Here → DirectState
at_place c book s = state_after (place s.port.hart book) c

-- what the objects tell agrees with the direct run at the place
abbrev pub AgreesHere : Configuration → Book → Here → Type 0
AgreesHere c book s =
    Agrees (setting_of c) (direct_start c) s.port book (Some s.input) (Some s.console) (Some s.folder)

-- the session agrees, and the direct run has not ended at its place
pub record IsOpen (c : Configuration) (book : Book) (s : Here) : Type 0 where
  pub agrees : AgreesHere c book s
  pub goes_on : status_of (at_place c book s).machine ≡ None

-- the session agrees, and the direct run has ended at its place with this status, and not one step before
pub record IsOver (c : Configuration) (book : Book) (s : Here) (status : ℕ) : Type 0 where
  pub agrees : AgreesHere c book s
  pub ends : (at_place c book s).machine ≡ ended status
  pub before : ℕ
  pub counted : place s.port.hart book ≡ before + 1
  pub earlier : status_of (state_after before c).machine ≡ None

-- What a part of a session on tohost, or a number of host turns, comes to, by its answer: it stands on; or it is over,
-- with the exit's status; or it was refused, and is open.
abbrev pub ComesTo : Configuration → Result Turned MailFault → Book → Here → Type 0
ComesTo c (Ok Idle) book s = Standing c book s
ComesTo c (Ok Answered) book s = Standing c book s
ComesTo c (Ok Served) book s = Standing c book s
ComesTo c (Ok (Exited status)) book s = IsOver c book s status
ComesTo c (Err fault) book s = IsOpen c book s

-- what a part on fromhost comes to
abbrev pub GivesTo : Configuration → Result Bool MemStop → Book → Here → Type 0
GivesTo c (Ok gave) book s = Standing c book s
GivesTo c (Err why) book s = IsOpen c book s

-- the main vars of a configuration fit
abbrev pub FitsMainVars : Configuration → Type 0
FitsMainVars c = main_vars_length c.args ≤ main_vars_limit

-- the count of user steps does not overflow
abbrev pub CountsOn : Here → Type 0
CountsOn s = s.port.hart.user_steps + 1 < 2 ^ 64

-- ---- the laws
-- A session that stands agrees with the direct run, which has not ended.
abbrev pub StandingIsOpen : Type 0
StandingIsOpen = (c : Configuration) (book : Book) (s : Here) → Standing c book s → IsOpen c book s

-- The part of a turn on tohost from where a session stands comes to one of the three, with what is noted of it.
abbrev pub ServesHands : Type 0
ServesHands =
    (c : Configuration) (book : Book) (s now : Here) (r : Result Turned MailFault) → FitsMainVars c → CountsOn now
    → Standing c book s → Played seen_acts (serve_text (setting_of c) tohost) s r now
    → ComesTo c r (noted_in now.kept.acted now.port.hart book) now

-- The part on fromhost leaves it standing, or is refused and leaves it open.
abbrev pub GivesHands : Type 0
GivesHands =
    (c : Configuration) (book : Book) (s now : Here) (r : Result Bool MemStop) → CountsOn now
    → Standing c book s → Played seen_acts (give_text fromhost) s r now → GivesTo c r book now

-- Host turns from where it stands come to one of the three.
abbrev pub TurnsAgree : Type 0
TurnsAgree =
    (c : Configuration) (n : ℕ) (book last : Book) (s now : Here) (r : Result Turned MailFault) → FitsMainVars c
    → CountsOn now → Standing c book s
    → HostTurns seen_acts (λ (sys : System). sys.hart) (setting_of c) n book s r last now → ComesTo c r last now
