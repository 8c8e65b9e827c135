-- What every row of the table is: its shape, where it leads, and which ranges of the guest it touches.
use Rattle.std.specs.Prelude.{◌≡◌, ◌≤◌, ◌<◌, ◌+◌, ⊤, ℕ, Bool, true, false, List, if◌then◌else◌}
use Rattle.fe_base.specs.MemoryMap.{user_start, user_end}
use Rattle.folder_tree.specs.Tree.{Tree}
use Rattle.host_text.specs.Leads.{Leads}
use Rattle.host_text.specs.Runs.{Within}
use Rattle.host_text.specs.Shapes.{Stops, Shaped}
use Rattle.host_text.specs.declared.open_numbers.Open.{Open}
use Rattle.syscall_proxy.specs.Kept.{Kept, kept}
use Rattle.syscall_proxy.specs.Rows.{Row, folder_fault}
use Rattle.syscall_proxy.specs.Worlds.{IsWorldOf, EndsWell}
use Rattle.syscall_proxy.specs.declared.answers.CallAnswer.{CallAnswer}
use Rattle.syscall_proxy.specs.declared.answers.CallAnswer.TheVariants.{Result as Value, Exit}
use Rattle.syscall_proxy.specs.declared.answers.CallFault.{CallFault}
use Rattle.syscall_proxy.specs.declared.answers.CallFault.TheVariants.{Port, InputFault, ConsoleFault}

-- the faults of the host's calls
abbrev pub stops : Stops CallFault
stops = record { port = Port; folder = folder_fault; input = InputFault; console = ConsoleFault }

-- by this note the call acts, and it is all one to the answers that wait in the mailbox
pub record Marks (g : Kept → Kept) : Type 0 where
  pub acted : (k : Kept) → (g k).acted ≡ true
  pub waiting : (k : Kept) (w : List ℕ) → g (record k { waiting = w }) ≡ record (g k) { waiting = w }

-- what may stand behind a write to the guest: a result, and no exit
abbrev pub IsResult : CallAnswer → Type 0
IsResult (Value value) = ⊤
IsResult (Exit status) = ⊥

-- a row is shaped: it acts once, behind its last call of the outside or where its answer is decided, and writes the
-- guest
-- behind that alone; an exit is its last act
abbrev pub IsRow : Row → Type 0
IsRow t = Shaped stops Marks IsResult t

-- in a world a row ends well, with these open numbers: each of its calls suits, and it leads to a world
abbrev pub LeadsOn : List Open → Row → Type 0
LeadsOn numbers row = (t : Tree) (acted : Bool) (waiting : List ℕ) → IsWorldOf numbers t
    → Leads EndsWell row t (kept numbers acted waiting)

-- a range stands in the user area
abbrev pub InUserArea : ℕ → ℕ → Type 0
InUserArea at count = (user_start ≤ at) × (at + count ≤ user_end)

-- a row touches no other ranges
abbrev pub StaysInside : Row → Type 0
StaysInside row = Within InUserArea row
