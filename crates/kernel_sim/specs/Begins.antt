-- The hart that begins: after reset, let go over loaded memory.
use Rattle.std.specs.Prelude.{◌≡◌, ◌≢◌, ℕ, ◌*◌, ◌%◌, List, [], ◌∷◌, ◌++◌, length}
use Rattle.guest_memory.specs.Bus.{BusState}
use Rattle.rv_decode.specs.Alignment.{instruction_alignment}
use Rattle.rv_hart.specs.HartStep.{HartState, reset_hart, over, hart_step}
use Rattle.rv_hart.specs.declared.debug.Run.TheVariants.{Running}
use Rattle.proxy_kernel.specs.Image.{HoldsInsns}
use Rattle.proxy_kernel.specs.KernelWords.{kernel_insns, kernel_count}
use Rattle.kernel_code.specs.Kernel.{IsImage}
use Rattle.kernel_sim.specs.Phases.{dword, request_of}
use Rattle.fe_base.specs.MemoryMap.{boot, tohost, fromhost}

-- the hart as reset leaves it, but running
abbrev pub begun_hart : HartState
begun_hart = record reset_hart { run = Running }

-- the image's words stand at their places, the boot block's entry is one of an instruction, and TOHOST, FROMHOST and
-- REQUEST hold 0
pub record IsLoaded (bus : BusState) : Type 0 where
  pub code : IsImage bus.kernel
  pub entry : dword bus boot % instruction_alignment ≡ 0
  pub tohost : dword bus tohost ≡ 0
  pub fromhost : dword bus fromhost ≡ 0
  pub request : request_of bus ≡ 0 ∷ 0 ∷ 0 ∷ 0 ∷ 0 ∷ 0 ∷ 0 ∷ 0 ∷ []

-- a kernel area that begins with bytes whose words decode to the kernel's instructions holds the image
abbrev pub ImageLoads : Type 0
ImageLoads =
    (bytes rest : List ℕ) → HoldsInsns bytes kernel_insns → length bytes ≡ 4 * kernel_count
    → IsImage (bytes ++ rest)

-- over a start word that is not 0, the first step after reset lets the hart run, and does nothing else
abbrev pub ResetBegins : Type 0
ResetBegins = (bus : BusState) → bus.start ≢ 0 → hart_step (over bus reset_hart) ≡ over bus begun_hart
