-- What the kernel leaves as it was.
use Rattle.std.specs.Prelude.{◌+◌, ◌≡◌, ⊤}
use Rattle.guest_memory.specs.Bus.{BusState}
use Rattle.kernel_sim.specs.declared.phase.PhaseKind.{PhaseKind}
use Rattle.kernel_sim.specs.declared.phase.PhaseKind.TheVariants.{User}
use Rattle.kernel_sim.specs.Phases.{dword}
use Rattle.fe_base.specs.MemoryMap.{boot}

-- no user byte has changed in a step of the kernel, nor in one of the program that calls or traps
abbrev pub UserKept : PhaseKind → PhaseKind → BusState → BusState → Type 0
UserKept User User old new = ⊤
UserKept was now old new = new.user ≡ old.user

-- the boot block, entry and first break, has not changed
abbrev pub BootBlockKept : BusState → BusState → Type 0
BootBlockKept old new = (dword new boot ≡ dword old boot) × (dword new (boot + 8) ≡ dword old (boot + 8))
