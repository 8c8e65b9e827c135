-- From the loaded memory and the write of the start word to the program's first step, beside the direct run's start.
use Rattle.std.specs.Prelude.{◌≡◌, ◌≢◌, ◌+◌, ℕ, Bool, List, [], ◌∷◌, Some}
use Rattle.elf_loader.specs.ElfFile.{IsFit}
use Rattle.elf_loader.specs.Rules.{user_rules}
use Rattle.elf_loader.specs.declared.image.Image.{Image}
use Rattle.fe_base.specs.MemoryMap.{boot, request}
use Rattle.guest_memory.specs.Bus.{BusState, IsBus, reset_bus, user_size}
use Rattle.guest_memory.specs.Memory.{zeros}
use Rattle.host_text.specs.World.{World}
use Rattle.htif_mailbox.specs.Turns.{call_answer}
use Rattle.kernel_sim.specs.Begins.{IsLoaded}
use Rattle.kernel_sim.specs.Holds.{Holds}
use Rattle.kernel_sim.specs.Phases.{dword}
use Rattle.kernel_sim.specs.Rows.{boot_request}
use Rattle.kernel_sim.specs.declared.phase.Phase.{Phase}
use Rattle.kernel_sim.specs.declared.phase.PhaseKind.{PhaseKind}
use Rattle.kernel_sim.specs.declared.phase.PhaseKind.TheVariants.{Boot, BootWait, BootTake, Leave, User}
use Rattle.plain_machine.specs.Starts.{Configuration, direct_start, first_bytes, first_world, loaded, setting_of}
use Rattle.rv_csr.specs.declared.privilege.Mode.TheVariants as mode
use Rattle.rv_hart.specs.HartStep.{HartState, System, hart_step, over, reset_hart}
use Rattle.rv_hart.specs.Laws.{IsSystem}
use Rattle.tether_base.specs.Between.{RunsBeside, phase_after}
use Rattle.tether_base.specs.Loading.{AreInside, loaded_bus}
use Rattle.tether_base.specs.Place.{Agrees, Book, noted_in, place}
use Rattle.tether_base.specs.Serving.{Here, TellsAll}
use Rattle.tether_base.specs.Tethered.{IsKernel}
use Rattle.tether_base.specs.Texts.{loads_of}
use Rattle.syscall_proxy.specs.Kept.{Kept}

-- the user bytes where an image is loaded, before the main vars stand behind it
abbrev pub image_bytes : Image → List ℕ
image_bytes image = loaded image.segments (zeros user_size)

-- what is loaded of a kernel and an image, over memory at reset, with this in the start word
abbrev pub started_bus : List ℕ → Image → ℕ → BusState
started_bus kernel image start = record (loaded_bus (loads_of kernel image) reset_bus) { start = start }

-- the boot block names the image's entry and first break
pub record NamesEntry (image : Image) (bus : BusState) : Type 0 where
  pub entry_is : dword bus boot ≡ image.entry
  pub break_is : dword bus (boot + 8) ≡ image.first_break

-- the kernel is loaded, and the image's segments and its boot block are
pub record HoldsImage (image : Image) (bus : BusState) : Type 0 where
  pub kernel_is : IsLoaded bus
  pub names : NamesEntry image bus
  pub user_is : bus.user ≡ image_bytes image

-- nothing of the program was done yet, and nothing is noted of it
pub record IsUnbegun (book : Book) (hart : HartState) : Type 0 where
  pub in_machine : hart.mode ≡ mode.Machine
  pub no_steps : hart.user_steps ≡ 0
  pub noted : book.acted_at ≡ 0
  pub silent : book.said ≡ 0

module _ (c : Configuration) (w : World) (book : Book) where
  -- no step of the program was made, and the world is the one in which it begins; the boot block stands
  pub record IsBooting (sys : System) : Type 0 where
    pub world_is : w ≡ first_world c.contents
    pub unbegun : IsUnbegun book sys.hart
    pub names : NamesEntry c.image sys.bus

  -- the kernel has set the program's break
  pub record IsSetUp (p : Phase) (sys : System) : Type 0 where
    pub booting : IsBooting sys
    pub program_break : p.user.brk ≡ c.image.first_break
    pub first_break : p.user.first_break ≡ c.image.first_break

  -- the main vars stand in the user area, and no answer waits with the host
  pub record IsReady (ws : List ℕ) (p : Phase) (sys : System) : Type 0 where
    pub set_up : IsSetUp p sys
    pub none_waits : ws ≡ []
    pub user_is : sys.bus.user ≡ first_bytes c.image c.args

  -- the request for the main vars, by the answers that wait with the host: it is posted, and was not handled; or the
  -- main vars stand, and its answer waits; or it was answered
  pub data AsksMainVars (ws : List ℕ) (p : Phase) (sys : System) : Type 0 where
    is_asked : ws ≡ [] → p.tohost ≡ request → p.fromhost ≡ 0 → p.request ≡ boot_request
        → sys.bus.user ≡ image_bytes c.image → AsksMainVars ws p sys
    is_carried_out : ws ≡ call_answer ∷ [] → p.tohost ≡ 0 → p.fromhost ≡ 0
        → sys.bus.user ≡ first_bytes c.image c.args → AsksMainVars ws p sys
    is_answered : ws ≡ [] → p.fromhost ≢ 0 → sys.bus.user ≡ first_bytes c.image c.args → AsksMainVars ws p sys

  -- from the hart that begins to the program, which runs beside the direct run, while these answers wait
  abbrev pub BehindBoot : List ℕ → PhaseKind → Phase → System → Type 0
  BehindBoot ws Boot p sys = (ws ≡ []) × IsBooting sys × (sys.bus.user ≡ image_bytes c.image)
  BehindBoot ws BootWait p sys = IsSetUp p sys × AsksMainVars ws p sys
  BehindBoot ws BootTake p sys = IsReady ws p sys
  BehindBoot ws Leave p sys = IsReady ws p sys
  BehindBoot ws User p sys =
      (ws ≡ [])
      × RunsBeside (setting_of c) (direct_start c) w book sys.hart.user_steps p.user sys.bus.user
  BehindBoot ws _ p sys = ⊥

-- the kinds before the program runs
pub data StartsUp : PhaseKind → Type 0 where
  boots : StartsUp Boot
  asks : StartsUp BootWait
  takes : StartsUp BootTake
  leaves : StartsUp Leave

-- ---- the laws
-- What is loaded of a kernel and of a fitting image stands inside the areas.
abbrev pub LoadsStandInside : Type 0
LoadsStandInside =
    (kernel : List ℕ) (image : Image) → IsKernel kernel → IsFit user_rules image → AreInside (loads_of kernel image)

-- Behind loading, memory holds the kernel, the image and its boot block, whatever the start word holds.
abbrev pub ImagesStand : Type 0
ImagesStand =
    (kernel : List ℕ) (image : Image) (start : ℕ) → IsKernel kernel → IsFit user_rules image
    → HoldsImage image (started_bus kernel image start)

-- Behind the write of the start word the first step of the hart leads to the kernel's first phase.
abbrev pub HartBegins : Type 0
HartBegins =
    (kernel : List ℕ) (c : Configuration) (book : Book) → IsKernel kernel → IsFit user_rules c.image
    → IsBus (loaded_bus (loads_of kernel c.image) reset_bus) → book.acted_at ≡ 0 → book.said ≡ 0
    → (p : Phase) × (p.kind ≡ Boot) × Holds p (hart_step (over (started_bus kernel c.image 1) reset_hart))
    × IsSystem (hart_step (over (started_bus kernel c.image 1) reset_hart))
    × BehindBoot c (first_world c.contents) book [] Boot p (hart_step (over (started_bus kernel c.image 1) reset_hart))

-- Each step of the hart goes on with that, until the program runs beside the direct run, at its start.
abbrev pub BootStepsFollow : Type 0
BootStepsFollow =
    (c : Configuration) (w : World) (book : Book) (ws : List ℕ) (p : Phase) (sys : System) → Holds p sys
    → IsSystem sys → StartsUp p.kind → BehindBoot c w book ws p.kind p sys
    → BehindBoot c w book ws (phase_after p sys).kind (phase_after p sys) (hart_step sys)

-- Until then nothing of the program was done.
abbrev pub BootIsUnbegun : Type 0
BootIsUnbegun =
    (c : Configuration) (w : World) (book : Book) (ws : List ℕ) (p : Phase) (sys : System) → StartsUp p.kind
    → BehindBoot c w book ws p.kind p sys → IsBooting c w book sys

-- Where nothing of it was done, and console, input and files are the first ones, they are the direct run's at the
-- place, which is its start, also where the host has noted the call for the main vars.
abbrev pub BootAgrees : Type 0
BootAgrees =
    (c : Configuration) (w : World) (book : Book) (acted : Bool) (k : Kept) (s : Here) → w ≡ first_world c.contents
    → IsUnbegun book s.port.hart → TellsAll w.contents k s
    → (noted_in acted s.port.hart book ≡ book) × (place s.port.hart book ≡ 0)
    × Agrees (setting_of c) (direct_start c) s.port book (Some s.input) (Some s.console) (Some s.folder)
