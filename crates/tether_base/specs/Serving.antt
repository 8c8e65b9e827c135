-- What a host turn comes to while the kernel waits: the direct run stands at a call that posts a request, and the host
-- carries it out.
use Rattle.std.specs.Prelude.{◌≡◌, ◌≤◌, ◌+◌, ℕ, Bool, false, true, List, [], ◌∷◌, length, slice_set, Some, Result, Ok}
use Rattle.std.specs.Prelude.{Err}
use Rattle.chunk_memory.specs.declared.stops.MemStop.{MemStop}
use Rattle.fe_base.specs.MemoryMap.{fromhost, request, tohost}
use Rattle.folder_tree.specs.Tree.{Tree}
use Rattle.host_text.specs.Openings.{AsBefore}
use Rattle.host_text.specs.Played.{At, Played}
use Rattle.host_text.specs.Runs.{End}
use Rattle.host_text.specs.World.{Contents, World}
use Rattle.htif_mailbox.specs.Turns.{awaits, call_answer, give_text, gone, serve_text, word_text}
use Rattle.htif_mailbox.specs.declared.answers.MailFault.{MailFault}
use Rattle.htif_mailbox.specs.declared.answers.Turned.{Turned}
use Rattle.htif_mailbox.specs.declared.answers.Turned.TheVariants.{Served, Exited}
use Rattle.kernel_sim.specs.Holds.{Holds}
use Rattle.kernel_sim.specs.declared.phase.Phase.{Phase}
use Rattle.kernel_sim.specs.declared.phase.PhaseKind.TheVariants.{Wait}
use Rattle.plain_machine.specs.Direct.{DirectState, running, in_world, after_answer, direct_after}
use Rattle.plain_machine.specs.KernelPart.{posts}
use Rattle.plain_machine.specs.Programs.{part_of}
use Rattle.plain_machine.specs.UserStep.{call, user_step}
use Rattle.rv_hart.specs.HartStep.{System}
use Rattle.rv_hart.specs.Laws.{IsSystem}
use Rattle.syscall_proxy.specs.CallLaws.{AsksInside}
use Rattle.syscall_proxy.specs.CallTable.{service_of}
use Rattle.syscall_proxy.specs.Kept.{Kept, Setting, kept}
use Rattle.syscall_proxy.specs.Rows.{word}
use Rattle.syscall_proxy.specs.Streams.{MayOpen}
use Rattle.syscall_proxy.specs.Worlds.{EndsWell, IsWorld}
use Rattle.syscall_proxy.specs.declared.answers.CallAnswer.{CallAnswer}
use Rattle.syscall_proxy.specs.declared.answers.CallAnswer.TheVariants.{Result as Value, Exit}
use Rattle.target_box.specs.Turn.{ran}
use Rattle.tether_base.specs.Place.{Agrees, Book, noted_in}
use Rattle.tether_base.specs.ToldActs.{seen_acts}
use Rattle.tether_base.specs.Waiting.{CallState, Waiting, process_of}

-- what is seen of the target, what is told outside, and what the host keeps
abbrev pub Here : Type 0
Here = At System Tree (List ℕ) (List ℕ) Kept

-- the same call with this word in TOHOST
abbrev pub with_tohost : ℕ → CallState → CallState
with_tohost value c = record c { tohost = value }

-- the same call with this result in the request's first doubleword
abbrev pub with_result : ℕ → CallState → CallState
with_result value c = record c { request = slice_set c.request 0 value }

-- what the host keeps, with these answers waiting
abbrev pub with_waiting : List ℕ → Kept → Kept
with_waiting answers k = record k { waiting = answers }

-- told outside and kept is this
pub record TellsAll (contents : Contents) (k : Kept) (s : Here) : Type 0 where
  pub tree_is : s.folder ≡ contents.tree
  pub input_is : s.input ≡ contents.input
  pub console_is : s.console ≡ contents.console
  pub kept_is : s.kept ≡ k

-- The kernel waits with the call of these user steps, whatever stands in the two words that the host writes and in the
-- user area; and this is told and kept.
pub record LeftWaiting (c : CallState) (contents : Contents) (k : Kept) (s : Here) : Type 0 where
  pub call_now : CallState
  pub same_steps : call_now.steps ≡ c.steps
  pub user_now : List ℕ
  pub waits : Waiting call_now user_now s.port
  pub tells : TellsAll contents k s

-- the direct run from a state stands one step before the count of user steps, at a call of the program that posts this
-- request, in this world; the range that the request names stands in the user area
pub record Pending (given : Setting) (start : DirectState) (c : CallState) (user : List ℕ) (w : World) : Type 0 where
  pub before : ℕ
  pub counted : c.steps ≡ before + 1
  pub stands : direct_after given before start ≡ in_world (running (process_of c.program user)) w
  pub calls : user_step (process_of c.program user).state ≡ call
  pub posted : part_of (process_of c.program user) ≡ posts c.request
  pub long : length c.request ≡ 8
  pub inside : AsksInside (service_of (word c.request 0)) given c.request
  pub in_a_world : IsWorld w

-- the direct run has made the call's step, which leads to this end of the host's row: it has acted, and ends well
pub record Stepped (given : Setting) (start : DirectState) (c : CallState) (user : List ℕ)
    (end : End (List ℕ) Kept CallAnswer)
    : Type 0 where
  pub direct : direct_after given c.steps start ≡ after_answer (process_of c.program user) end.answer end.place
  pub acts : end.place.kept.acted ≡ true
  pub well : EndsWell end.answer end.place.contents.tree end.place.kept

module _ (given : Setting) (start : DirectState) (c : CallState) (user : List ℕ) (w : World)
    (pending : Pending given start c user w) where
  -- A system call whose request was read, and behind which these answers wait, comes to one of these: its result
  -- stands in the request and its answer waits; the program's exit; a refusal before it acted, which changes nothing
  -- outside, but for one open more of a file that openat was to cut next; or one after it acted, which no exit meets.
  -- But for the third, the direct run has made its step.
  pub data Outcome (answers : List ℕ) (r : Result Turned MailFault) (s : Here) : Type 0 where
    carried_out : (end : End (List ℕ) Kept CallAnswer) (value : ℕ) → r ≡ Ok Served → Stepped given start c user end
        → end.answer ≡ Value value → Waiting (with_result value c) end.place.memory s.port
        → TellsAll end.place.contents (awaits call_answer (with_waiting answers end.place.kept)) s → Outcome answers r s
    has_exited : (end : End (List ℕ) Kept CallAnswer) (status : ℕ) → r ≡ Ok (Exited status)
        → Stepped given start c user end
        → end.answer ≡ Exit status → LeftWaiting c end.place.contents (with_waiting answers end.place.kept) s
        → Outcome answers r s
    refused_before : (fault : MailFault) (now : Tree) → r ≡ Err fault
        → AsBefore (MayOpen given c.request) w.contents.tree now
        → LeftWaiting c (record w.contents { tree = now }) (kept w.numbers false answers) s → Outcome answers r s
    refused_behind : (fault : MailFault) (end : End (List ℕ) Kept CallAnswer) (value : ℕ) → r ≡ Err fault
        → Stepped given start c user end → end.answer ≡ Value value
        → LeftWaiting c end.place.contents (with_waiting answers end.place.kept) s → Outcome answers r s

-- what the part of a turn on fromhost leaves: all outside as it was, and this is kept
pub record GiveLeaves (before : Here) (k : Kept) (s : Here) : Type 0 where
  pub folder_is : s.folder ≡ before.folder
  pub input_is : s.input ≡ before.input
  pub console_is : s.console ≡ before.console
  pub kept_is : s.kept ≡ k

-- the kernel waits no more than to see its answer: TOHOST holds 0, and FROMHOST the answer to a call
pub record IsAnswered (c : CallState) (user : List ℕ) (sys : System) : Type 0 where
  pub phase : Phase
  pub holds : Holds phase sys
  pub kind : phase.kind ≡ Wait
  pub tohost_is : phase.tohost ≡ 0
  pub fromhost_is : phase.fromhost ≡ call_answer
  pub program_is : phase.user ≡ c.program
  pub request_is : phase.request ≡ c.request
  pub user_is : sys.bus.user ≡ user
  pub steps_are : sys.hart.user_steps ≡ c.steps
  pub fits : IsSystem sys

-- The part of a turn on fromhost, where the answer to a call waits alone and the kernel waits for it, comes to this:
-- the answer was written, behind which the hart goes on, and waits no more; or the port refused, while the kernel
-- waits still, or behind the write of the answer, which then waits still.
pub data Giving (c : CallState) (user : List ℕ) (before : Here) (r : Result Bool MemStop) (s : Here) : Type 0 where
  was_given : (mid : System) (steps : ℕ) → r ≡ Ok true → IsAnswered c user mid → ran mid steps s.port
      → GiveLeaves before (gone before.kept) s → Giving c user before r s
  not_given : (why : MemStop) → r ≡ Err why → Waiting c user s.port → GiveLeaves before before.kept s
      → Giving c user before r s
  given_and_cut : (why : MemStop) (mid : System) (steps : ℕ) → r ≡ Err why → IsAnswered c user mid
      → ran mid steps s.port
      → GiveLeaves before before.kept s → Giving c user before r s

-- ---- the laws
-- The part of a turn on tohost, where the kernel waits with a request and no answer waits, comes to the call's outcome.
abbrev pub ServesCalls : Type 0
ServesCalls =
    (given : Setting) (start : DirectState) (c : CallState) (user : List ℕ) (w : World)
    (pending : Pending given start (with_tohost 0 c) user w) (acted : Bool) (s now : Here) (r : Result Turned MailFault)
    → c.tohost ≡ request → Waiting c user s.port → TellsAll w.contents (kept w.numbers acted []) s
    → Played seen_acts (serve_text given tohost) s r now
    → Outcome given start (with_tohost 0 c) user w pending [] r now

-- So does what is done once the word of a request was read, whatever answers wait.
abbrev pub ServesWords : Type 0
ServesWords =
    (given : Setting) (start : DirectState) (c : CallState) (user : List ℕ) (w : World)
    (pending : Pending given start (with_tohost 0 c) user w) (answers : List ℕ) (s now : Here)
    (r : Result Turned MailFault)
    → Waiting c user s.port → TellsAll w.contents (kept w.numbers false answers) s
    → Played seen_acts (word_text given tohost request) s r now
    → Outcome given start (with_tohost 0 c) user w pending answers r now

-- Whatever it comes to, console, input and files are those of the direct run at the place.
abbrev pub CallsAgree : Type 0
CallsAgree =
    (given : Setting) (start : DirectState) (c : CallState) (user : List ℕ) (w : World)
    (pending : Pending given start c user w) (answers : List ℕ) (r : Result Turned MailFault) (s : Here) (book : Book)
    → book.acted_at ≤ pending.before → book.said ≡ 0 → Outcome given start c user w pending answers r s
    → Agrees given start s.port (noted_in s.kept.acted s.port.hart book) (Some s.input) (Some s.console) (Some s.folder)

-- The part of a turn on fromhost gives a call's answer while the kernel waits for it.
abbrev pub GivesAnswers : Type 0
GivesAnswers =
    (c : CallState) (user : List ℕ) (s now : Here) (r : Result Bool MemStop)
    → c.tohost ≡ 0 → Waiting c user s.port → s.kept.waiting ≡ call_answer ∷ []
    → Played seen_acts (give_text fromhost) s r now → Giving c user s r now
