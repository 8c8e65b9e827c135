-- How an answer is told: by the status of the process, and by the last line of the report.
use Rattle.std.specs.Prelude.{◌≡◌, ℕ, List, [], ◌++◌, codes, Option, Some, None}
use Rattle.std.specs.Fmt.{decimal}
use Rattle.elf_loader.specs.Faults.{number_of}
use Rattle.elf_loader.specs.declared.fault.ElfFault.{ElfFault}
use Rattle.elf_loader.specs.declared.fault.ElfFault.TheVariants.{TooLarge, Short, Magic, Class, Order, Version, Kind}
use Rattle.elf_loader.specs.declared.fault.ElfFault.TheVariants.{Machine, Flags, HeaderSize, Headers, Dynamic, Segment}
use Rattle.elf_loader.specs.declared.fault.ElfFault.TheVariants.{Outside, Overlap, Entry}
use Rattle.spike_front.specs.declared.answer.Answer.{Answer}
use Rattle.spike_front.specs.declared.answer.Answer.TheVariants.{Done, Exited, Usage, NoProgram, BadElf, NoFolder}
use Rattle.spike_front.specs.declared.answer.Answer.TheVariants.{ArgsTooLong, BadAsm, StepsSpent, FileFault, InputFault}
use Rattle.spike_front.specs.declared.answer.Answer.TheVariants.{ConsoleFault, ReportFault, OutOfMemory, NotBuilt}

-- the status of the process
abbrev pub code_of : Answer → ℕ
code_of Done = 0
code_of (Exited status) = status
code_of (Usage kind place) = 64
code_of NoProgram = 65
code_of (BadElf fault) = 66
code_of NoFolder = 67
code_of (ArgsTooLong n) = 68
code_of FileFault = 70
code_of InputFault = 71
code_of ConsoleFault = 72
code_of ReportFault = 73
code_of OutOfMemory = 74
code_of (BadAsm line kind) = 75
code_of (NotBuilt kind) = 77
code_of (StepsSpent n) = 78

-- a text, and then how many steps were made, where steps are counted
abbrev pub counted : List ℕ → Option ℕ → List ℕ
counted text None = text ++ codes "\n"
counted text (Some steps) = text ++ (codes " after " ++ (decimal steps ++ codes " steps\n"))

-- the places of the program headers that a fault names, each behind a space
abbrev pub places_of : ElfFault → List ℕ
places_of TooLarge = []
places_of Short = []
places_of Magic = []
places_of Class = []
places_of Order = []
places_of Version = []
places_of Kind = []
places_of Machine = []
places_of Flags = []
places_of HeaderSize = []
places_of Headers = []
places_of Dynamic = []
places_of (Segment i) = codes " " ++ decimal i
places_of (Outside i) = codes " " ++ decimal i
places_of (Overlap i j) = codes " " ++ (decimal i ++ (codes " " ++ decimal j))
places_of Entry = []

-- the last line of the report, for an answer and the number of steps that were made before it, where steps are counted;
-- Done and ReportFault have none
abbrev pub line_of : Answer → Option ℕ → List ℕ
line_of Done steps = []
line_of (Exited status) steps = counted (codes "pkfe: exited " ++ decimal status) steps
line_of (Usage kind place) steps =
    codes "pkfe: usage " ++ (decimal kind ++ (codes " at " ++ (decimal place ++ codes "\n")))
line_of NoProgram steps = codes "pkfe: no program\n"
line_of (BadElf fault) steps = codes "pkfe: bad elf " ++ (decimal (number_of fault) ++ (places_of fault ++ codes "\n"))
line_of NoFolder steps = codes "pkfe: no folder\n"
line_of (ArgsTooLong n) steps = codes "pkfe: arguments need " ++ (decimal n ++ codes " bytes\n")
line_of (BadAsm line kind) steps =
    codes "pkfe: asm fault " ++ (decimal kind ++ (codes " at line " ++ (decimal line ++ codes "\n")))
line_of (StepsSpent n) steps = counted (codes "pkfe: steps spent") steps
line_of FileFault steps = counted (codes "pkfe: file fault") steps
line_of InputFault steps = counted (codes "pkfe: input fault") steps
line_of ConsoleFault steps = counted (codes "pkfe: console fault") steps
line_of ReportFault steps = []
line_of OutOfMemory steps = counted (codes "pkfe: out of memory") steps
line_of (NotBuilt kind) steps = codes "pkfe: not built " ++ (decimal kind ++ codes "\n")

-- the report, where it is told, has grown by the last line of this answer
abbrev pub Reported : Answer → Option ℕ → Option (List ℕ) → Option (List ℕ) → Type 0
Reported answer steps before after = (held : List ℕ) → before ≡ Some held → after ≡ Some (held ++ line_of answer steps)
