-- Faults by their order, and the first of several.
use Rattle.std.specs.Prelude.{ℕ, Bool, true, false, List, [], ◌∷◌, Option, Some, None}
use Rattle.elf_loader.specs.declared.fault.ElfFault.{ElfFault}
use Rattle.elf_loader.specs.declared.fault.ElfFault.TheVariants.{TooLarge, Short, Magic, Class, Order, Version, Kind}
use Rattle.elf_loader.specs.declared.fault.ElfFault.TheVariants.{Machine, Flags, HeaderSize, Headers, Dynamic, Segment}
use Rattle.elf_loader.specs.declared.fault.ElfFault.TheVariants.{Outside, Overlap, Entry}

-- the fault, where the test is true
abbrev pub fault_when : Bool → ElfFault → Option ElfFault
fault_when false fault = None
fault_when true fault = Some fault

-- the first fault that there is
abbrev pub first_fault : List (Option ElfFault) → Option ElfFault
first_fault [] = None
first_fault (None ∷ rows) = first_fault rows
first_fault (Some fault ∷ rows) = Some fault

-- a fault's number
abbrev pub number_of : ElfFault → ℕ
number_of TooLarge = 1
number_of Short = 2
number_of Magic = 3
number_of Class = 4
number_of Order = 5
number_of Version = 6
number_of Kind = 7
number_of Machine = 8
number_of Flags = 9
number_of HeaderSize = 10
number_of Headers = 11
number_of Dynamic = 12
number_of (Segment i) = 13
number_of (Outside i) = 14
number_of (Overlap i j) = 15
number_of Entry = 16
