-- Where a run stands, and what it leaves.
use Rattle.std.specs.Prelude.{◌≡◌, ◌≤◌, ◌<◌, ◌-◌, ◌+◌, ◌⊎◌, ◌↔◌, ⊤, ℕ, Bool, true, false, List, [], Option, Some, None}
use Rattle.folder_tree.specs.Tree.{Tree, files_of, number_at}
use Rattle.folder_tree.specs.TreeOps.{opened}
use Rattle.elf_loader.specs.declared.image.Image.{Image}
use Rattle.folder_tree.specs.Paths.{Parts}
use Rattle.host_text.specs.World.{Contents, World, first_numbers}
use Rattle.host_text.specs.declared.open_numbers.Open.{Open}
use Rattle.syscall_proxy.specs.Kept.{Setting}
use Rattle.syscall_proxy.specs.Streams.{StandsBelow}
use Rattle.plain_machine.specs.Asks.{Asked, puts_of, step_asks, step_cuts}
use Rattle.plain_machine.specs.Direct.{Machine, ended, DirectState, in_world, direct_after, status_of}
use Rattle.plain_machine.specs.Starts.{Configuration, first_machine, setting_of, direct_start}
use Rattle.plain_machine.specs.declared.plain.PlainEnd.{PlainEnd}
use Rattle.plain_machine.specs.declared.plain.PlainEnd.TheVariants.{Exited, StepsSpent, Fault}
use Rattle.plain_machine.specs.declared.plain.PlainFault.{PlainFault}

-- a direct machine as its callers see it: the machine, what its program was started with, its open numbers, and the
-- number of steps that were made
pub record PlainState : Type 0 where
  pub machine : Machine
  pub given : Setting
  pub numbers : List Open
  pub steps : ℕ

-- a program before its first step
abbrev pub first_state : Image → List (List ℕ) → Parts → PlainState
first_state image args root = record {
  machine = first_machine image args;
  given = record { args = args; root = root };
  numbers = first_numbers;
  steps = 0;
}

-- a machine over contents
abbrev pub direct_of : PlainState → Contents → DirectState
direct_of plain contents = in_world plain.machine (record { contents = contents; numbers = plain.numbers })

-- what its next step asks
abbrev pub asks : PlainState → Asked
asks plain = step_asks plain.numbers plain.machine

-- the objects tell these contents
pub record Tells (c : Contents) (input console : Option (List ℕ)) (tree : Option Tree) : Type 0 where
  pub input_told : input ≡ Some c.input
  pub console_told : console ≡ Some c.console
  pub tree_told : tree ≡ Some c.tree

-- this machine, these open numbers and the told objects stand at this state
pub record Reaches (state : DirectState) (machine : Machine) (numbers : List Open) (input console : Option (List ℕ))
    (tree : Option Tree) : Type 0 where
  pub machine_is : machine ≡ state.machine
  pub numbers_is : numbers ≡ state.world.numbers
  pub contents : Tells state.world.contents input console tree

-- the same of a machine as its callers see it
abbrev pub IsAt : DirectState → PlainState → Option (List ℕ) → Option (List ℕ) → Option Tree → Type 0
IsAt state plain input console tree = Reaches state plain.machine plain.numbers input console tree

-- this machine and these open numbers stand at this state; of contents nothing is said
pub record MachineAt (state : DirectState) (machine : Machine) (numbers : List Open) : Type 0 where
  pub machine_is : machine ≡ state.machine
  pub numbers_is : numbers ≡ state.world.numbers

-- a tree is told as it was; or, where it may have been, with the file at a path below this root open once more
abbrev pub TreeStays : Bool → Parts → Tree → Option Tree → Type 0
TreeStays false root t told = told ≡ Some t
TreeStays true root t told = (told ≡ Some t) ⊎ ((path : Parts) × (number : ℕ) × StandsBelow root path
    × (number_at t path ≡ Some number) × (told ≡ Some (opened t number)))

-- the objects tell these contents, but that a file below this root may have been opened once more
pub record Spares (opens : Bool) (root : Parts) (c : Contents) (input console : Option (List ℕ)) (tree : Option Tree)
    : Type 0 where
  pub input_told : input ≡ Some c.input
  pub console_told : console ≡ Some c.console
  pub tree_stays : TreeStays opens root c.tree tree

-- a tree with these files is told; how often each is open is no part of them
abbrev pub HasFiles : Tree → Option Tree → Type 0
HasFiles t told = (now : Tree) × (told ≡ Some now) × (files_of now ≡ files_of t)

-- the objects tell what these contents have: input, console and files
pub record Leaves (c : Contents) (input console : Option (List ℕ)) (tree : Option Tree) : Type 0 where
  pub input_told : input ≡ Some c.input
  pub console_told : console ≡ Some c.console
  pub files_told : HasFiles c.tree tree

-- A run from this state, of a program that was started with this setting, came to so many steps: what it leaves, that
-- its program had not ended before, and where it says that it has ended. Every kind of run says so.
pub record Ran (given : Setting) (first : DirectState) (steps : ℕ) (exits : ℕ → Type 0)
    (input console : Option (List ℕ)) (tree : Option Tree) : Type 0 where
  pub contents : Leaves (direct_after given steps first).world.contents input console tree
  pub earlier : (n : ℕ) → n < steps → status_of (direct_after given n first).machine ≡ None
  pub exited : (status : ℕ) → exits status ↔ ((direct_after given steps first).machine ≡ ended status)

-- the same of a configuration's run
abbrev pub RanOf : Configuration → ℕ → (ℕ → Type 0) → Option (List ℕ) → Option (List ℕ) → Option Tree → Type 0
RanOf c steps exits input console tree = Ran (setting_of c) (direct_start c) steps exits input console tree

-- so many steps were made from one state to the other
abbrev pub made : PlainState → PlainState → ℕ
made old new = new.steps - old.steps

-- what stopped a run, if it was a fault
abbrev pub end_fault : PlainEnd → Option PlainFault
end_fault (Exited status) = None
end_fault StepsSpent = None
end_fault (Fault fault) = Some fault

-- whether a file may have been opened once more: a run stopped at an openat that takes the file's bytes away
abbrev pub end_opens : PlainEnd → Machine → Bool
end_opens (Exited status) machine = false
end_opens StepsSpent machine = false
end_opens (Fault fault) machine = step_cuts machine

-- how many steps were tried where so many were made: a fault comes in one more, which was not made
abbrev pub tried : PlainEnd → ℕ → ℕ
tried (Exited status) steps = steps
tried StepsSpent steps = steps
tried (Fault fault) steps = steps + 1

-- what a run of the direct machine comes to: a run, after which machine and open numbers are those of the direct run,
-- and the objects tell its contents to the last open
pub record PlainRan (first : DirectState) (old new : PlainState) (end : PlainEnd)
    (input console : Option (List ℕ)) (tree : Option Tree) : Type 0 where
  pub ran : Ran old.given first (made old new) (λ status. end ≡ Exited status) input console tree
  pub machine : new.machine ≡ (direct_after old.given (made old new) first).machine
  pub numbers : new.numbers ≡ (direct_after old.given (made old new) first).world.numbers
  pub spared : Spares (end_opens end new.machine) old.given.root
      (direct_after old.given (made old new) first).world.contents input console tree

-- what a run of the direct machine comes to that needs neither folder nor input: whatever the objects tell, machine and
-- open numbers are those of the direct run, over any contents, and before none of its steps the program had ended
pub record LoneRan (first : DirectState) (old new : PlainState) : Type 0 where
  pub at : MachineAt (direct_after old.given (made old new) first) new.machine new.numbers
  pub earlier : (n : ℕ) → n < made old new → status_of (direct_after old.given n first).machine ≡ None

-- none of the first so many steps asks what passes this test
abbrev pub NeverAsks : (Asked → Bool) → Setting → DirectState → ℕ → Type 0
NeverAsks test given first steps =
    (n : ℕ) → n < steps → test (step_asks (direct_after given n first).world.numbers
    (direct_after given n first).machine) ≡ false

-- none of the first so many steps puts a byte
abbrev pub NeverPuts : Setting → DirectState → ℕ → Type 0
NeverPuts given first steps =
    (n : ℕ) → n < steps
    → puts_of (step_asks (direct_after given n first).world.numbers (direct_after given n first).machine) ≡ []

-- a sink of this capacity, where it tells one, holds so many bytes
abbrev pub HasRoomFor : Option ℕ → ℕ → Type 0
HasRoomFor None count = ⊤
HasRoomFor (Some capacity) count = count ≤ capacity
