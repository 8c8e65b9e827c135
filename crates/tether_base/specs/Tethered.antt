-- The tethered run: a session's text over the turns of a target from reset and over told contents. It names no phase of
-- the kernel and no user step.
use Rattle.std.specs.Prelude.{◌≡◌, ◌⊎◌, ℕ, ◌*◌, ◌+◌, false, List, [], length, Option, Result, Ok, Err}
use Rattle.chunk_memory.specs.declared.stops.MemStop.TheVariants.{Spent}
use Rattle.fe_base.specs.PausePlan.{PausePlan}
use Rattle.folder_tree.specs.Tree.{Tree}
use Rattle.host_text.specs.Played.{At, at, Played}
use Rattle.host_text.specs.World.{first_numbers}
use Rattle.htif_mailbox.specs.declared.answers.MailFault.{MailFault}
use Rattle.htif_mailbox.specs.declared.answers.MailFault.TheVariants.{Call, Port}
use Rattle.htif_mailbox.specs.declared.answers.Turned.{Turned}
use Rattle.htif_mailbox.specs.declared.answers.Turned.TheVariants.{Idle, Exited}
use Rattle.plain_machine.specs.Starts.{Configuration, setting_of}
use Rattle.proxy_kernel.specs.Image.{HoldsInsns}
use Rattle.proxy_kernel.specs.KernelWords.{kernel_insns, kernel_count}
use Rattle.syscall_proxy.specs.Kept.{Kept, Setting, kept}
use Rattle.syscall_proxy.specs.declared.answers.CallFault.TheVariants.{Port as CallPort}
use Rattle.target_box.specs.Lined.{Lined, lined}
use Rattle.target_box.specs.Turn.{reset_target}
use Rattle.target_box.specs.declared.target.Link.TheVariants.{Direct}
use Rattle.tether_base.specs.Texts.{Range, loads_of, session_text}
use Rattle.tether_base.specs.ToldActs.{AtLimit, line_acts}

-- a target with its trace, what is told outside, and what the host keeps
abbrev pub TetherState : Type 0
TetherState = At Lined Tree (List ℕ) (List ℕ) Kept

-- where it starts: a target at reset that may make so many turns, a trace that holds these bytes where its sink tells
-- them, the contents of a configuration, the first open numbers, and no answer that waits
abbrev pub tether_start : Configuration → PausePlan → ℕ → Option (List ℕ) → TetherState
tether_start c pauses limit held =
    at (lined (reset_target pauses limit Direct) held) c.contents.tree c.contents.input c.contents.console
    (kept first_numbers false [])

-- the session of a kernel's image and a configuration was followed so far, by at most so many turns of the target, with
-- this answer
abbrev pub Tethered : List ℕ → Configuration → PausePlan → ℕ → Option (List ℕ) → Result Turned MailFault → TetherState
    → Type 0
Tethered kernel c pauses limit held r s =
    (turns : ℕ)
    × Played line_acts (session_text (setting_of c) (loads_of kernel c.image) turns)
    (tether_start c pauses limit held) r s

-- how a run ends that so many turns were allowed: the next one was asked for and not made; or an exit was handled
pub data TetherEnd : Type 0 where
  OnTheWay : TetherEnd
  Ended : (status : ℕ) → TetherEnd

-- no turn was left, for the host's own words or for a range of a call
abbrev pub IsSpent : MailFault → Type 0
IsSpent fault = (fault ≡ Port Spent) ⊎ (fault ≡ Call (CallPort Spent))

-- what was answered at such an end
abbrev pub EndsBy : TetherEnd → Result Turned MailFault → Type 0
EndsBy OnTheWay (Ok done) = ⊥
EndsBy OnTheWay (Err fault) = IsSpent fault
EndsBy (Ended status) r = r ≡ Ok (Exited status)

-- The tethered run after so many turns, and after all that is done outside before the next one, stands at this state.
pub record TetherAt (kernel : List ℕ) (c : Configuration) (pauses : PausePlan) (held : Option (List ℕ)) (count : ℕ)
    (end : TetherEnd) (s : TetherState) : Type 0 where
  pub answer : Result Turned MailFault
  pub ends : EndsBy end answer
  pub run : Tethered kernel c pauses count held answer s
  pub all_made : AtLimit s.port

-- these bytes are the kernel's image
pub record IsKernel (bytes : List ℕ) : Type 0 where
  pub insns : HoldsInsns bytes kernel_insns
  pub size : length bytes ≡ 4 * kernel_count

-- ---- the laws
-- There is one such state for each number of turns, and one end.
abbrev pub TetheredOnce : Type 0
TetheredOnce =
    (kernel : List ℕ) (c : Configuration) (pauses : PausePlan) (held : Option (List ℕ)) (count : ℕ)
    (end other : TetherEnd) (s now : TetherState) → TetherAt kernel c pauses held count end s
    → TetherAt kernel c pauses held count other now
    → (end ≡ other) × (s ≡ now)

-- A session that was followed with so many host turns, and did not use up all of them, is followed so with more.
abbrev pub MoreTurns : Type 0
MoreTurns =
    (given : Setting) (ranges : List Range) (turns more : ℕ) (s now : TetherState) (r : Result Turned MailFault)
    → (r ≡ Ok Idle → ⊥)
    → Played line_acts (session_text given ranges turns) s r now
    → Played line_acts (session_text given ranges (turns + more)) s r now
