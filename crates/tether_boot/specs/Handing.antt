-- What the parts of a host turn come to before the program runs: the host writes the main vars, and gives its answer.
use Rattle.std.specs.Prelude.{◌≡◌, ◌≢◌, ◌≤◌, ℕ, Bool, true, List, [], ◌∷◌, Result, Ok, Err}
use Rattle.chunk_memory.specs.declared.stops.MemStop.{MemStop}
use Rattle.fe_base.specs.Limits.{main_vars_limit}
use Rattle.fe_base.specs.MemoryMap.{fromhost, tohost}
use Rattle.fe_base.specs.WordLists.{main_vars_length}
use Rattle.host_text.specs.Played.{Played}
use Rattle.host_text.specs.World.{World}
use Rattle.htif_mailbox.specs.Turns.{call_answer, give_text, gone, word_text}
use Rattle.htif_mailbox.specs.declared.answers.MailFault.{MailFault}
use Rattle.htif_mailbox.specs.declared.answers.Turned.{Turned}
use Rattle.htif_mailbox.specs.declared.answers.Turned.TheVariants.{Served}
use Rattle.kernel_sim.specs.Holds.{Holds}
use Rattle.kernel_sim.specs.declared.phase.Phase.{Phase}
use Rattle.kernel_sim.specs.declared.phase.PhaseKind.TheVariants.{BootWait}
use Rattle.plain_machine.specs.Starts.{Configuration, setting_of}
use Rattle.rv_hart.specs.HartStep.{System}
use Rattle.rv_hart.specs.Laws.{IsSystem}
use Rattle.syscall_proxy.specs.Kept.{kept}
use Rattle.target_box.specs.Turn.{ran}
use Rattle.tether_base.specs.Place.{Book}
use Rattle.tether_base.specs.Serving.{GiveLeaves, Here, TellsAll}
use Rattle.tether_base.specs.ToldActs.{seen_acts}
use Rattle.tether_boot.specs.Booting.{BehindBoot, IsBooting, StartsUp}

module _ (c : Configuration) (w : World) (book : Book) where
  -- the kernel waits for its main vars, while these answers wait with the host
  pub record InBootWait (ws : List ℕ) (sys : System) : Type 0 where
    pub phase : Phase
    pub holds : Holds phase sys
    pub kind : phase.kind ≡ BootWait
    pub behind : BehindBoot c w book ws BootWait phase sys
    pub fits : IsSystem sys

  -- What the kernel's word comes to: the main vars were written, and their answer waits; or a refusal, with nothing of
  -- the program done. Neither changes anything outside.
  pub data BootServed (r : Result Turned MailFault) (now : Here) : Type 0 where
    has_handed : r ≡ Ok Served → InBootWait (call_answer ∷ []) now.port
        → TellsAll w.contents (kept w.numbers true (call_answer ∷ [])) now → BootServed r now
    not_handed : (fault : MailFault) (acted : Bool) → r ≡ Err fault → IsBooting c w book now.port
        → TellsAll w.contents (kept w.numbers acted []) now → BootServed r now

  -- What the part of a turn on fromhost comes to while that answer waits: it was written, behind which the hart goes
  -- on, and waits no more; or the port refused, while the kernel waits still, or behind the write of the answer.
  pub data BootGiven (before : Here) (r : Result Bool MemStop) (now : Here) : Type 0 where
    was_given : (mid : System) (steps : ℕ) → r ≡ Ok true → InBootWait [] mid → ran mid steps now.port
        → GiveLeaves before (gone before.kept) now → BootGiven before r now
    not_given : (why : MemStop) → r ≡ Err why → InBootWait (call_answer ∷ []) now.port
        → GiveLeaves before before.kept now → BootGiven before r now
    given_and_cut : (why : MemStop) (mid : System) (steps : ℕ) → r ≡ Err why → InBootWait [] mid
        → ran mid steps now.port → GiveLeaves before before.kept now → BootGiven before r now

-- ---- the laws
-- Before the program runs, the only word in TOHOST asks for the main vars, and the host writes them where they fit.
abbrev pub ServesBoot : Type 0
ServesBoot =
    (c : Configuration) (w : World) (book : Book) (ws : List ℕ) (p : Phase) (word : ℕ) (acted : Bool) (s now : Here)
    (r : Result Turned MailFault)
    → main_vars_length c.args ≤ main_vars_limit → Holds p s.port → IsSystem s.port → StartsUp p.kind
    → BehindBoot c w book ws p.kind p s.port → p.tohost ≡ word → word ≢ 0
    → TellsAll w.contents (kept w.numbers acted ws) s → Played seen_acts (word_text (setting_of c) tohost word) s r now
    → BootServed c w book r now

-- Before it runs, an answer that waits is the one to that call, and the kernel waits for it.
abbrev pub GivesBoot : Type 0
GivesBoot =
    (c : Configuration) (w : World) (book : Book) (ws : List ℕ) (p : Phase) (s now : Here) (r : Result Bool MemStop)
    → Holds p s.port → IsSystem s.port → StartsUp p.kind → BehindBoot c w book ws p.kind p s.port → ws ≢ []
    → s.kept.waiting ≡ ws → Played seen_acts (give_text fromhost) s r now → BootGiven c w book s r now
