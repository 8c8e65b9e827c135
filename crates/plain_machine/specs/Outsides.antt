-- What a step, or a run, does to the objects of the outside.
use Rattle.std.specs.Prelude.{◌≡◌, ◌≢◌, ◌≤◌, ℕ, true, false, List, [], length, Option, Some}
use Rattle.fe_base.specs.Outside.{capacity, PutSuits, Rose}
use Rattle.fe_base.specs.declared.outside.Sink as sink
use Rattle.fe_base.specs.declared.outside.Source as source
use Rattle.folder_tree.specs.Tree.{Tree}
use Rattle.folder_tree.specs.declared.folder.Folder as folder
use Rattle.host_text.specs.declared.open_numbers.Open.{Open}
use Rattle.syscall_proxy.specs.Worlds.{IsWorldOf}
use Rattle.plain_machine.specs.Asks.{Asked, asks_folder, asks_input, puts_of}
use Rattle.plain_machine.specs.declared.plain.PlainFault.{PlainFault}
use Rattle.plain_machine.specs.declared.plain.PlainFault.TheVariants.{FileFault, InputFault, ConsoleFault, OutOfMemory}

-- the three objects
pub record Outside (F I C : Type 0) : Type 0 where
  pub folder : F
  pub input : I
  pub console : C

-- these three
abbrev pub outside : {F I C : Type 0} → F → I → C → Outside F I C
outside folder input console = record { folder = folder; input = input; console = console }

module _ {F I C : Type 0} (f : folder.Ghosts F) (i : source.Ghosts I) (c : sink.Ghosts C) where
  -- Each fault comes only where that object's count rose, and the counts never fall. A steady input is not at fault and
  -- stays steady; so does a steady console, unless it is at fault. What a told console holds and still takes together
  -- does not change.
  pub record Called (old new : Outside F I C) (fault : Option PlainFault) : Type 0 where
    pub file_fault : fault ≡ Some FileFault → Rose (f.faults old.folder) (f.faults new.folder)
    pub out_of_memory : fault ≡ Some OutOfMemory → Rose (f.short old.folder) (f.short new.folder)
    pub input_fault : fault ≡ Some InputFault → Rose (i.faults old.input) (i.faults new.input)
    pub console_fault : fault ≡ Some ConsoleFault → Rose (c.faults old.console) (c.faults new.console)
    pub folder_count : f.faults old.folder ≤ f.faults new.folder
    pub short_count : f.short old.folder ≤ f.short new.folder
    pub input_count : i.faults old.input ≤ i.faults new.input
    pub console_count : c.faults old.console ≤ c.faults new.console
    pub input_calm : i.steady old.input → fault ≡ Some InputFault → ⊥
    pub input_steady : i.steady old.input → (i.faults new.input ≡ i.faults old.input) × i.steady new.input
    pub console_steady : c.steady old.console → (fault ≡ Some ConsoleFault → ⊥)
        → (c.faults new.console ≡ c.faults old.console) × c.steady new.console
    pub console_capacity : capacity (c.held new.console) (c.room new.console)
        ≡ capacity (c.held old.console) (c.room old.console)

  -- What a step asks nothing is as it was, and each fault comes only of what it asks. A steady console fails no step
  -- for which its room suffices.
  pub record Asking (asked : Asked) (old new : Outside F I C) (fault : Option PlainFault) : Type 0 where
    pub folder_untouched : asks_folder asked ≡ false → new.folder ≡ old.folder
    pub input_untouched : asks_input asked ≡ false → new.input ≡ old.input
    pub console_untouched : puts_of asked ≡ [] → new.console ≡ old.console
    pub file_asked : fault ≡ Some FileFault → asks_folder asked ≡ true
    pub memory_asked : fault ≡ Some OutOfMemory → asks_folder asked ≡ true
    pub input_asked : fault ≡ Some InputFault → asks_input asked ≡ true
    pub console_asked : fault ≡ Some ConsoleFault → puts_of asked ≢ []
    pub console_suits : c.steady old.console → PutSuits (c.room old.console) (length (puts_of asked))
        → fault ≡ Some ConsoleFault → ⊥

  -- Over a told tree that is one of a world with these open numbers, so is the tree behind it, with the new ones. A
  -- steady folder is not at fault there, and stays steady.
  pub record InWorld (old_numbers new_numbers : List Open) (old new : Outside F I C) (fault : Option PlainFault)
      : Type 0 where
    pub world : (t : Tree) → f.tree old.folder ≡ Some t → IsWorldOf old_numbers t
        → (now : Tree) × (f.tree new.folder ≡ Some now) × IsWorldOf new_numbers now
    pub folder_calm : (t : Tree) → f.tree old.folder ≡ Some t → IsWorldOf old_numbers t → f.steady old.folder
        → fault ≡ Some FileFault → ⊥
    pub folder_steady : (t : Tree) → f.tree old.folder ≡ Some t → IsWorldOf old_numbers t → f.steady old.folder
        → (f.faults new.folder ≡ f.faults old.folder) × f.steady new.folder
