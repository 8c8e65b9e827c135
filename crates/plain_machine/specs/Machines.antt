-- How the parts of a machine stand for a direct state.
use Rattle.std.specs.Prelude.{◌≡◌, ℕ, List, [], ◌∷◌, Option, Some, None}
use Rattle.plain_machine.specs.Direct.{Machine, running, dying, ended}
use Rattle.plain_machine.specs.KernelPart.{Part as DirectPart, gives, breaks, posts, scans}
use Rattle.plain_machine.specs.KernelPart.{Scanned as DirectScanned, ends, leaves, is_long}
use Rattle.plain_machine.specs.Programs.{Process}
use Rattle.plain_machine.specs.declared.kernel_part.Part.{Part}
use Rattle.plain_machine.specs.declared.kernel_part.Part.TheVariants.{Gives, Breaks, Posts}
use Rattle.plain_machine.specs.declared.kernel_part.Scanned.{Scanned}
use Rattle.plain_machine.specs.declared.kernel_part.Scanned.TheVariants.{Ends, Leaves, IsLong}
use Rattle.plain_machine.specs.declared.machine.Phase.{Phase}
use Rattle.plain_machine.specs.declared.machine.Phase.TheVariants.{Running, Dying, Ended}

-- the machine of a program, by its phase
abbrev pub machine_of : Process → Phase → Machine
machine_of process Running = running process
machine_of process (Dying text status) = dying text status
machine_of process (Ended status) = ended status

-- the machine that a call leaves: its program runs on, or has ended with a status
abbrev pub machine_when : Process → Option ℕ → Machine
machine_when process None = running process
machine_when process (Some status) = ended status

-- a text begins with this byte, or there is none
abbrev pub BeginsWith : List ℕ → List ℕ → Option ℕ → Type 0
BeginsWith text rest None = text ≡ []
BeginsWith text rest (Some byte) = text ≡ byte ∷ rest

-- a kernel part as the code has it
abbrev pub part_in : Part → DirectPart
part_in (Gives answer) = gives answer
part_in (Breaks moved) = breaks moved
part_in (Posts request) = posts request

-- the same of a call whose path is scanned where there is none
abbrev pub part_or_scan : Option Part → DirectPart
part_or_scan None = scans
part_or_scan (Some part) = part_in part

-- what a scan came to, as the code has it
abbrev pub scanned_in : Scanned → DirectScanned
scanned_in (Ends length) = ends length
scanned_in Leaves = leaves
scanned_in IsLong = is_long
