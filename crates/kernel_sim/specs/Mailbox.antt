-- Where a step of the hart stores to TOHOST, FROMHOST and REQUEST.
use Rattle.std.specs.Prelude.{◌≡◌, ◌⊎◌, ⊤, ℕ}
use Rattle.guest_memory.specs.Bus.{BusState}
use Rattle.kernel_sim.specs.declared.phase.PhaseKind.{PhaseKind}
use Rattle.kernel_sim.specs.declared.phase.PhaseKind.TheVariants.{Boot, BootWait, BootTake, Fill, Wait, Take, Speak}
use Rattle.kernel_sim.specs.declared.phase.PhaseKind.TheVariants.{Closing}
use Rattle.kernel_sim.specs.Phases.{dword, request_of}
use Rattle.fe_base.specs.MemoryMap.{tohost, fromhost}

-- to TOHOST in the steps that enter BootWait and Wait, and in Speak and Closing
abbrev pub TohostKept : PhaseKind → PhaseKind → ℕ → ℕ → Type 0
TohostKept Boot BootWait old new = ⊤
TohostKept Fill Wait old new = ⊤
TohostKept Speak now old new = ⊤
TohostKept Closing now old new = ⊤
TohostKept was now old new = new ≡ old

-- to FROMHOST only 0, in BootTake and Take
abbrev pub FromhostKept : PhaseKind → ℕ → ℕ → Type 0
FromhostKept BootTake old new = (new ≡ old) ⊎ (new ≡ 0)
FromhostKept Take old new = (new ≡ old) ⊎ (new ≡ 0)
FromhostKept was old new = new ≡ old

-- to REQUEST in Boot and Fill
abbrev pub RequestKept : PhaseKind → BusState → BusState → Type 0
RequestKept Boot old new = ⊤
RequestKept Fill old new = ⊤
RequestKept was old new = request_of new ≡ request_of old

-- each of the three is stored to as it may be
abbrev pub MailboxKept : PhaseKind → PhaseKind → BusState → BusState → Type 0
MailboxKept was now old new =
    TohostKept was now (dword old tohost) (dword new tohost)
    × FromhostKept was (dword old fromhost) (dword new fromhost)
    × RequestKept was old new
