-- How the kinds follow each other.
use Rattle.std.specs.Prelude.{Bool, true, false}
use Rattle.kernel_sim.specs.declared.phase.PhaseKind.{PhaseKind}
use Rattle.kernel_sim.specs.declared.phase.PhaseKind.TheVariants.{Boot, BootWait, BootTake, Leave, User, Save, Check}
use Rattle.kernel_sim.specs.declared.phase.PhaseKind.TheVariants.{Scan, Fill, Wait, Take, Local, Restore, Speak}
use Rattle.kernel_sim.specs.declared.phase.PhaseKind.TheVariants.{Closing}

-- a step stays in its kind, or goes on to one that may follow
abbrev pub follows : PhaseKind → PhaseKind → Bool
follows Boot Boot = true
follows Boot BootWait = true
follows BootWait BootWait = true
follows BootWait BootTake = true
follows BootTake BootTake = true
follows BootTake Leave = true
follows Leave Leave = true
follows Leave User = true
follows User User = true
follows User Save = true
follows Save Save = true
follows Save Check = true
follows Check Check = true
follows Check Local = true
follows Check Scan = true
follows Check Fill = true
follows Check Speak = true
follows Scan Scan = true
follows Scan Local = true
follows Scan Fill = true
follows Fill Fill = true
follows Fill Wait = true
follows Wait Wait = true
follows Wait Take = true
follows Take Take = true
follows Take Restore = true
follows Local Local = true
follows Local Restore = true
follows Restore Restore = true
follows Restore User = true
follows Speak Speak = true
follows Speak Closing = true
follows Closing Closing = true
follows _ _ = false
