-- What the words ask for, over a tree of files: a refusal, a listing, or a run.
use Rattle.std.specs.Prelude.{◌≡◌, ◌<◌, ◌≤◌, ◌⊎◌, ℕ, ⊤, nat_le, if◌then◌else◌, List, [], drop, length, slice_index_or}
use Rattle.std.specs.Prelude.{Option, Some, None, Result, Ok, Err}
use Rattle.fe_base.specs.Limits.{assembly_file_limit, main_vars_limit, path_text_limit}
use Rattle.fe_base.specs.WordLists.{main_vars_length}
use Rattle.folder_tree.specs.Paths.{Parts, path_text}
use Rattle.folder_tree.specs.Tree.{Tree, IsWellFormed}
use Rattle.elf_loader.specs.ElfFile.{IsFit, fault_of, image_of}
use Rattle.elf_loader.specs.Rules.{user_rules}
use Rattle.elf_loader.specs.declared.image.Image.{Image}
use Rattle.elf_loader.specs.declared.fault.ElfFault.{ElfFault}
use Rattle.asm_items.specs.ItemMeaning.{Part, assembled}
use Rattle.asm_items.specs.declared.fault.AsmFault.{AsmFault}
use Rattle.asm_items.specs.declared.fault.AsmFault.TheVariants.{UnknownLabel, LabelTwice, OutOfReach}
use Rattle.asm_items.specs.declared.fault.AsmFault.TheVariants.{OutOfMemory as NoMemory}
use Rattle.asm_text.specs.Faults.{number_of}
use Rattle.asm_text.specs.Texts.{Found, text_items}
use Rattle.spike_front.specs.Words.{command_of, usage_number}
use Rattle.spike_front.specs.Answers.{IsAssemblyRefusal, IsProgramRefusal, IsRefusal, IsRunAnswer, Yields}
use Rattle.spike_front.specs.FoundFiles.{directory_named, file_named}
use Rattle.spike_front.specs.Listings.{Listing, Lists, code_listing, kernel_listing}
use Rattle.spike_front.specs.declared.words.Command.{Command}
use Rattle.spike_front.specs.declared.words.Command.TheVariants.{Plain, Kernel, Asm}
use Rattle.spike_front.specs.declared.words.WordFault.{WordFault}
use Rattle.spike_front.specs.declared.words.WordFault.TheVariants.{Usage as WordUsage, NotBuilt as WordNotBuilt}
use Rattle.spike_front.specs.declared.answer.Answer.{Answer}
use Rattle.spike_front.specs.declared.answer.Answer.TheVariants.{Done, Usage, NoProgram, BadElf, NoFolder, ArgsTooLong}
use Rattle.spike_front.specs.declared.answer.Answer.TheVariants.{BadAsm, OutOfMemory, NotBuilt}
use Rattle.spike_front.specs.declared.plan.Plan.{Plan}
use Rattle.spike_front.specs.declared.plan.Plan.TheVariants.{Refuse, Put, Run}

-- what is done: a refusal with an answer, a listing, or a run of an image with arguments, under this path of the folder
-- and for so many steps at most
pub data Planned : Type 0 where
  refuse : Answer → Planned
  put : Listing → Planned
  run : Image → List (List ℕ) → Parts → ℕ → Planned

-- a program is run with its arguments, unless their main vars are too long
abbrev pub planned_args : Image → List (List ℕ) → Parts → ℕ → Planned
planned_args image args root limit =
    if nat_le (main_vars_length args) main_vars_limit then run image args root limit
    else refuse (ArgsTooLong (main_vars_length args))

-- its paths stand under a directory, if there is one
abbrev pub planned_under : Option Parts → Image → List (List ℕ) → ℕ → Planned
planned_under None image args limit = refuse NoFolder
planned_under (Some root) image args limit = planned_args image args root limit

-- a file with a fault is refused
abbrev pub planned_image : ℕ → Option Parts → List (List ℕ) → List ℕ → Option ElfFault → Planned
planned_image limit under args bytes None = planned_under under (image_of bytes) args limit
planned_image limit under args bytes (Some fault) = refuse (BadElf fault)

-- no file is no program
abbrev pub planned_file : ℕ → Option Parts → List (List ℕ) → Option (List ℕ) → Planned
planned_file limit under args None = refuse NoProgram
planned_file limit under args (Some bytes) = planned_image limit under args bytes (fault_of bytes)

-- the file that the word at this place names
abbrev pub named_file : ℕ → List (List ℕ) → Tree → Option (List ℕ)
named_file file words t = file_named (slice_index_or words file []) t

-- the word at DIR's place; where none was given it is the word of no bytes, which names the folder's root
abbrev pub folder_word : Option ℕ → List (List ℕ) → List ℕ
folder_word None words = []
folder_word (Some place) words = slice_index_or words place []

-- the directory that DIR names
abbrev pub named_folder : Option ℕ → List (List ℕ) → Tree → Option Parts
named_folder folder words t = directory_named (folder_word folder words) t

-- a run of the file that the word at this place names: the arguments are that word and those behind it
abbrev pub planned_run : ℕ → Option ℕ → ℕ → List (List ℕ) → Tree → Planned
planned_run limit folder file words t =
    planned_file limit (named_folder folder words t) (drop file words) (named_file file words t)

-- the items of assembly text whose lines these are: their parts are listed, or the first item with a fault is told by
-- its line. No meaning has the fault OutOfMemory
abbrev pub planned_items : List ℕ → Result (List Part) AsmFault → Planned
planned_items lines (Ok parts) = put (code_listing parts)
planned_items lines (Err (UnknownLabel item)) = refuse (BadAsm (slice_index_or lines item 0) 6)
planned_items lines (Err (LabelTwice item)) = refuse (BadAsm (slice_index_or lines item 0) 7)
planned_items lines (Err (OutOfReach item)) = refuse (BadAsm (slice_index_or lines item 0) 8)
planned_items lines (Err NoMemory) = refuse OutOfMemory

-- a text with a fault is refused by its first one; the items of every other are assembled at 0
abbrev pub planned_text : Found → Planned
planned_text (Ok found) = planned_items found.1 (assembled 0 found.0)
planned_text (Err fault) = refuse (BadAsm fault.0 (number_of fault.1))

-- a file that is too large is refused for its size alone; no file is no program
abbrev pub planned_source : Option (List ℕ) → Planned
planned_source None = refuse NoProgram
planned_source (Some bytes) =
    if nat_le (length bytes) assembly_file_limit then planned_text (text_items bytes) else refuse (BadAsm 0 9)

-- how words that are no command are answered
abbrev pub answer_of_fault : WordFault → Answer
answer_of_fault (WordUsage kind place) = Usage (usage_number kind) place
answer_of_fault WordNotBuilt = NotBuilt 1

-- how what was read of the words is answered, where it is no command
abbrev pub refusal_of : Result Command WordFault → Option Answer
refusal_of (Ok command) = None
refusal_of (Err fault) = Some (answer_of_fault fault)

-- how words are answered that are no command
abbrev pub words_refusal : List (List ℕ) → Option Answer
words_refusal words = refusal_of (command_of words)

-- words that are no command are refused first
abbrev pub planned_command : Result Command WordFault → List (List ℕ) → Tree → Planned
planned_command (Ok (Plain limit folder file)) words t = planned_run limit folder file words t
planned_command (Ok Kernel) words t = put kernel_listing
planned_command (Ok (Asm file)) words t = planned_source (named_file file words t)
planned_command (Err fault) words t = refuse (answer_of_fault fault)

-- what the words ask for, over a tree of files
abbrev pub plan_of : List (List ℕ) → Tree → Planned
plan_of words t = planned_command (command_of words) words t

-- the words ask for this, over a well-formed tree that is told
pub record Plans (words : List (List ℕ)) (t : Tree) (plan : Planned) (told : Option Tree) : Type 0 where
  pub formed : IsWellFormed t
  pub tree_told : told ≡ Some t
  pub planned : plan_of words t ≡ plan

-- the arguments of the words' command have main vars of so many bytes, which are too many
abbrev pub AreTooLong : List (List ℕ) → ℕ → Type 0
AreTooLong words n = (limit : ℕ) × (folder : Option ℕ) × (file : ℕ)
    × (command_of words ≡ Ok (Plain limit folder file)) × (n ≡ main_vars_length (drop file words))
    × (main_vars_limit < n)

-- the words' command has this limit of steps
abbrev pub HasLimit : List (List ℕ) → ℕ → Type 0
HasLimit words n = (folder : Option ℕ) × (file : ℕ) × (command_of words ≡ Ok (Plain n folder file))

-- the words' command puts a listing
abbrev pub IsListing : Result Command WordFault → Type 0
IsListing (Ok (Plain limit folder file)) = ⊥
IsListing (Ok Kernel) = ⊤
IsListing (Ok (Asm file)) = ⊤
IsListing (Err fault) = ⊥

-- the text lists what some assembly file means
abbrev pub ListsSource : List ℕ → Type 0
ListsSource text = (source : List ℕ) × (parts : List Part)
    × (planned_source (Some source) ≡ put (code_listing parts)) × Lists (code_listing parts) text

-- a text that the words' command may put, whatever the folder holds: that of the kernel's items, or the words of some
-- assembly file
abbrev pub MayPut : Result Command WordFault → List ℕ → Type 0
MayPut (Ok (Plain limit folder file)) text = ⊥
MayPut (Ok Kernel) text = Lists kernel_listing text
MayPut (Ok (Asm file)) text = ListsSource text
MayPut (Err fault) text = ⊥

-- the answers that a command may have, whatever the objects hold, but for a report that fails
abbrev pub MayAnswer : Result Command WordFault → Answer → Type 0
MayAnswer (Ok (Plain limit folder file)) answer = IsProgramRefusal answer ⊎ IsRunAnswer answer
MayAnswer (Ok Kernel) answer = (answer ≡ Done) ⊎ Yields answer
MayAnswer (Ok (Asm file)) answer = IsAssemblyRefusal answer ⊎ ((answer ≡ Done) ⊎ Yields answer)
MayAnswer (Err fault) answer = answer ≡ answer_of_fault fault

-- the words' command names no file, or they are no command
abbrev pub NamesNone : Result Command WordFault → Type 0
NamesNone (Ok (Plain limit folder file)) = ⊥
NamesNone (Ok Kernel) = ⊤
NamesNone (Ok (Asm file)) = ⊥
NamesNone (Err fault) = ⊤

-- the words ask for this listing: `kernel`, or an assembly file of a told tree that has it
abbrev pub AsksListing : List (List ℕ) → Listing → Option Tree → Type 0
AsksListing words listing told = ((command_of words ≡ Ok Kernel) × (listing ≡ kernel_listing))
    ⊎ ((t : Tree) × Plans words t (put listing) told)

-- a plan that was made is what is planned: the same refusal or run, or a text that lists the listing
abbrev pub IsPlan : Plan → Planned → Type 0
IsPlan (Refuse answer) planned = planned ≡ refuse answer
IsPlan (Put text) planned = (listing : Listing) × (planned ≡ put listing) × Lists listing text
IsPlan (Run image args root limit) planned = planned ≡ run image args root limit

-- a run may begin: its image fits, and so do its arguments and the text of the path that it stands under
pub record MayBegin (image : Image) (args : List (List ℕ)) (root : Parts) : Type 0 where
  pub fit : IsFit user_rules image
  pub short : main_vars_length args ≤ main_vars_limit
  pub root_short : length (path_text root) ≤ path_text_limit

-- a plan refuses with a refusal, or has a run that may begin and some steps to make
abbrev pub FitsPlan : Plan → Type 0
FitsPlan (Refuse answer) = IsRefusal answer
FitsPlan (Put text) = ⊤
FitsPlan (Run image args root limit) = MayBegin image args root × (0 < limit)

-- a plan for a program with these arguments and this limit: a refusal of the file or of what it would run with, or a
-- run
abbrev pub IsProgramPlan : List (List ℕ) → ℕ → Plan → Type 0
IsProgramPlan args limit (Refuse answer) = IsProgramRefusal answer
    × ((n : ℕ) → answer ≡ ArgsTooLong n → (n ≡ main_vars_length args) × (main_vars_limit < n))
IsProgramPlan args limit (Put text) = ⊥
IsProgramPlan args limit (Run image arguments root most) = MayBegin image arguments root × (most ≡ limit)

-- a plan for an assembly file: a refusal of the file, or the words of one
abbrev pub IsSourcePlan : Plan → Type 0
IsSourcePlan (Refuse answer) = IsAssemblyRefusal answer
IsSourcePlan (Put text) = ListsSource text
IsSourcePlan (Run image args root limit) = ⊥

-- a plan for these words and what was read of them, whatever the folder holds
abbrev pub IsPlanFor : Result Command WordFault → List (List ℕ) → Plan → Type 0
IsPlanFor (Ok (Plain limit folder file)) words plan = IsProgramPlan (drop file words) limit plan
IsPlanFor (Ok Kernel) words plan = IsPlan plan (put kernel_listing)
IsPlanFor (Ok (Asm file)) words plan = IsSourcePlan plan
IsPlanFor (Err fault) words plan = plan ≡ Refuse (answer_of_fault fault)
