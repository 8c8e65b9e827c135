-- The hand of a session: what stands beside the direct run between two acts of the host, wherever the kernel is.
use Rattle.std.specs.Prelude.{◌≡◌, ◌≤◌, ◌<◌, ◌+◌, ◌^◌, ℕ, Bool, List, [], ◌∷◌, slice_index}
use Rattle.elf_loader.specs.ElfFile.{IsFit}
use Rattle.elf_loader.specs.Rules.{user_rules}
use Rattle.fe_base.specs.MemoryMap.{request}
use Rattle.guest_memory.specs.Bus.{IsBus, reset_bus}
use Rattle.host_text.specs.World.{World}
use Rattle.htif_mailbox.specs.Turns.{call_answer}
use Rattle.kernel_sim.specs.Holds.{Holds}
use Rattle.kernel_sim.specs.declared.phase.Phase.{Phase}
use Rattle.kernel_sim.specs.declared.phase.PhaseKind.TheVariants.{User}
use Rattle.plain_machine.specs.Starts.{Configuration, direct_start, first_world, setting_of}
use Rattle.rv_hart.specs.HartStep.{System, hart_step, over, reset_hart}
use Rattle.rv_hart.specs.Laws.{IsSystem}
use Rattle.syscall_proxy.specs.Kept.{kept}
use Rattle.syscall_proxy.specs.Worlds.{IsWorld}
use Rattle.target_box.specs.Turn.{ran}
use Rattle.tether_base.specs.Behind.{BehindAnswer, HasActed, TakesBack}
use Rattle.tether_base.specs.Between.{IsCalling, Prepares, RunsBeside}
use Rattle.tether_base.specs.Loading.{loaded_bus}
use Rattle.tether_base.specs.Own.{AnswersItself, BehindOwn}
use Rattle.tether_base.specs.Place.{Book}
use Rattle.tether_base.specs.Serving.{Here, Pending, TellsAll, with_tohost}
use Rattle.tether_base.specs.Tethered.{IsKernel}
use Rattle.tether_base.specs.Texts.{loads_of}
use Rattle.tether_base.specs.Waiting.{CallState, Waiting}
use Rattle.tether_boot.specs.Booting.{BehindBoot, StartsUp, started_bus}
use Rattle.tether_traps.specs.Saying.{TrapHand}

-- a phase holds of the hart over its bus
pub record IsIn (p : Phase) (sys : System) : Type 0 where
  pub holds : Holds p sys
  pub fits : IsSystem sys

module _ (c : Configuration) (w : World) (book : Book) where
  -- the hart is held no more, over what was loaded of a kernel and the image, and has made no step
  pub record IsStarting (sys : System) : Type 0 where
    pub kernel : List ℕ
    pub is_kernel : IsKernel kernel
    pub is_fit : IsFit user_rules c.image
    pub is : sys ≡ over (started_bus kernel c.image 1) reset_hart
    pub bus_fits : IsBus (loaded_bus (loads_of kernel c.image) reset_bus)
    pub world_is : w ≡ first_world c.contents
    pub noted : book.acted_at ≡ 0
    pub silent : book.said ≡ 0

  -- Where kernel, host and the direct run of a configuration stand, in this world and with these answers waiting: the
  -- hart is to make its first step; the kernel starts the program; the program runs; it has called, and the kernel
  -- prepares the call, or answers it itself, or has posted it and waits; the host has carried it out, and its answer
  -- waits; the answer is on its way back to the program; or the program has met another trap, and the kernel says its
  -- message.
  pub data Hand (waiting : List ℕ) (sys : System) : Type 0 where
    starts : waiting ≡ [] → IsStarting sys → Hand waiting sys
    begins : (p : Phase) → IsIn p sys → StartsUp p.kind → BehindBoot c w book waiting p.kind p sys → Hand waiting sys
    runs : (p : Phase) → IsIn p sys → p.kind ≡ User → waiting ≡ []
        → RunsBeside (setting_of c) (direct_start c) w book sys.hart.user_steps p.user sys.bus.user
        → Hand waiting sys
    prepares : (p : Phase) → IsIn p sys → Prepares p.kind → waiting ≡ [] → sys.hart.csrs.mcause ≡ 8
        → IsCalling (setting_of c) (direct_start c) w book sys.hart.user_steps p.user sys.bus.user
        → Hand waiting sys
    answers : (p : Phase) → IsIn p sys → AnswersItself p.kind → waiting ≡ []
        → BehindOwn (setting_of c) (direct_start c) w book p.kind p sys → Hand waiting sys
    asks : (call : CallState) (user : List ℕ) → Waiting call user sys → call.tohost ≡ request → waiting ≡ []
        → (pending : Pending (setting_of c) (direct_start c) (with_tohost 0 call) user w)
        → book.acted_at ≤ pending.before → book.said ≡ 0 → Hand waiting sys
    queued : (call : CallState) (user : List ℕ) → Waiting call user sys → call.tohost ≡ 0 → waiting ≡ call_answer ∷ []
        → HasActed (setting_of c) (direct_start c) w book call.steps (slice_index call.request 0) call.program user
        → Hand waiting sys
    returns : (p : Phase) → IsIn p sys → TakesBack p.kind → waiting ≡ []
        → BehindAnswer (setting_of c) (direct_start c) w book p.kind p sys → Hand waiting sys
    says : waiting ≡ [] → TrapHand (setting_of c) (direct_start c) w book sys → Hand waiting sys

-- The session stands between two acts of the host: there is a world, which is told and kept, and a hand in it.
pub record Standing (c : Configuration) (book : Book) (s : Here) : Type 0 where
  pub world : World
  pub in_a_world : IsWorld world
  pub waiting : List ℕ
  pub acted : Bool
  pub tells : TellsAll world.contents (kept world.numbers acted waiting) s
  pub hand : Hand c world book waiting s.port

-- ---- the laws
-- A step of the hart keeps the hand, where the count of user steps does not overflow.
abbrev pub HandSteps : Type 0
HandSteps =
    (c : Configuration) (w : World) (book : Book) (waiting : List ℕ) (sys : System) → IsWorld w
    → sys.hart.user_steps + 1 < 2 ^ 64 → Hand c w book waiting sys → Hand c w book waiting (hart_step sys)

-- So does any number of them.
abbrev pub HandsStay : Type 0
HandsStay =
    (c : Configuration) (w : World) (book : Book) (waiting : List ℕ) (sys now : System) (steps : ℕ) → IsWorld w
    → now.hart.user_steps + 1 < 2 ^ 64 → ran sys steps now → Hand c w book waiting sys → Hand c w book waiting now
