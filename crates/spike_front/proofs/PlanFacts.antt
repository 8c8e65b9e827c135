-- What a plan that was made says of the words' command.
use Rattle.std.proofs.Common.{◌≡◌, ◌∙◌, ◌<◌, ◌⊎◌, inl, inr, ℕ, Bool, true, false, nat_le, if◌then◌else◌, List, drop, length, Option, Some, None, IsSome, IfOk, Result, Ok, Err, refl, ap, sym, subst, arith}
use Rattle.fe_base.specs.Limits.{assembly_file_limit, main_vars_limit}
use Rattle.fe_base.specs.WordLists.{main_vars_length}
use Rattle.folder_tree.specs.Paths.{Parts}
use Rattle.folder_tree.specs.Tree.{Tree}
use Rattle.elf_loader.specs.ElfFile.{fault_of, image_of}
use Rattle.elf_loader.specs.declared.fault.ElfFault.{ElfFault}
use Rattle.elf_loader.specs.declared.image.Image.{Image}
use Rattle.asm_items.specs.ItemMeaning.{Part, assembled}
use Rattle.asm_items.specs.declared.fault.AsmFault.{AsmFault}
use Rattle.asm_items.specs.declared.fault.AsmFault.TheVariants.{UnknownLabel, LabelTwice, OutOfReach, OutOfMemory as NoMemory}
use Rattle.asm_text.specs.Texts.{Found, text_items}
use Rattle.spike_front.specs.Answers.{IsAssemblyRefusal, IsProgramRefusal, IsRunAnswer, IsStop, IsWordsRefusal, Yields}
use Rattle.spike_front.specs.Listings.{Listing, kernel_listing}
use Rattle.spike_front.specs.Plans.{AsksListing, Planned, refuse, put, run, planned_image, planned_file, planned_items, planned_text, planned_source, planned_command, planned_under, named_file, named_folder, answer_of_fault, refusal_of, AreTooLong, HasLimit, IsListing, IsPlan, IsPlanFor, MayAnswer, NamesNone}
use Rattle.spike_front.specs.Words.{IsSound, command_of, first_count}
use Rattle.spike_front.specs.declared.plan.Plan.{Plan}
use Rattle.spike_front.specs.declared.plan.Plan.TheVariants.{Refuse, Put, Run}
use Rattle.spike_front.specs.declared.words.Command.{Command}
use Rattle.spike_front.specs.declared.words.Command.TheVariants.{Plain, Kernel, Asm}
use Rattle.spike_front.specs.declared.words.WordFault.{WordFault}
use Rattle.spike_front.specs.declared.words.WordFault.TheVariants.{Usage as WordUsage, NotBuilt as WordNotBuilt}
use Rattle.spike_front.specs.declared.answer.Answer.{Answer}
use Rattle.spike_front.specs.declared.answer.Answer.TheVariants.{ArgsTooLong, BadAsm, Done}
use Rattle.spike_front.proofs.Stages.{other_stage, stop_of_run, stop_yields}

-- assembly text is never run
choice_not_run : (b : Bool) (p : Planned) (answer : Answer) (i : Image) (a : List (List ℕ)) (r : Parts) (n : ℕ) → (p ≡ run i a r n → ⊥) → (if b then p else refuse answer) ≡ run i a r n → ⊥
choice_not_run true p answer i a r n never e = never e
choice_not_run false p answer i a r n never e = cc

items_not_run : (lines : List ℕ) (meaning : Result (List Part) AsmFault) (i : Image) (a : List (List ℕ)) (r : Parts) (n : ℕ) → planned_items lines meaning ≡ run i a r n → ⊥
items_not_run lines (Ok parts) i a r n e = cc
items_not_run lines (Err (UnknownLabel item)) i a r n e = cc
items_not_run lines (Err (LabelTwice item)) i a r n e = cc
items_not_run lines (Err (OutOfReach item)) i a r n e = cc
items_not_run lines (Err NoMemory) i a r n e = cc

text_not_run : (found : Found) (i : Image) (a : List (List ℕ)) (r : Parts) (n : ℕ) → planned_text found ≡ run i a r n → ⊥
text_not_run (Ok found) i a r n e = items_not_run found.1 (assembled 0 found.0) i a r n e
text_not_run (Err fault) i a r n e = cc

source_not_run : (file : Option (List ℕ)) (i : Image) (a : List (List ℕ)) (r : Parts) (n : ℕ) → planned_source file ≡ run i a r n → ⊥
source_not_run None i a r n e = cc
source_not_run (Some bytes) i a r n e = choice_not_run (nat_le (length bytes) assembly_file_limit) (planned_text (text_items bytes)) (BadAsm 0 9) i a r n (λ is. text_not_run (text_items bytes) i a r n is) e

-- a run that is planned counts its steps
pub run_counts : (asked : Result Command WordFault) (words : List (List ℕ)) (t : Tree) (i : Image) (a : List (List ℕ)) (r : Parts) (n : ℕ) → planned_command asked words t ≡ run i a r n → first_count asked ≡ Some 0
run_counts (Ok (Plain limit folder file)) words t i a r n e = refl
run_counts (Ok Kernel) words t i a r n e = cc
run_counts (Ok (Asm file)) words t i a r n e = absurd (source_not_run (named_file file words t) i a r n e)
run_counts (Err fault) words t i a r n e = cc

args_limit : (b : Bool) (image i : Image) (args a : List (List ℕ)) (root r : Parts) (limit n : ℕ) (answer : Answer) → (if b then run image args root limit else refuse answer) ≡ run i a r n → n ≡ limit
args_limit true image i args a root r limit n answer e = cc
args_limit false image i args a root r limit n answer e = cc

under_limit : (under : Option Parts) (image i : Image) (args a : List (List ℕ)) (r : Parts) (limit n : ℕ) → planned_under under image args limit ≡ run i a r n → n ≡ limit
under_limit None image i args a r limit n e = cc
under_limit (Some root) image i args a r limit n e = args_limit (nat_le (main_vars_length args) main_vars_limit) image i args a root r limit n (ArgsTooLong (main_vars_length args)) e

image_limit : (limit n : ℕ) (under : Option Parts) (args a : List (List ℕ)) (r : Parts) (bytes : List ℕ) (fault : Option ElfFault) (i : Image) → planned_image limit under args bytes fault ≡ run i a r n → n ≡ limit
image_limit limit n under args a r bytes None i e = under_limit under (image_of bytes) i args a r limit n e
image_limit limit n under args a r bytes (Some fault) i e = cc

file_limit : (limit n : ℕ) (under : Option Parts) (args a : List (List ℕ)) (r : Parts) (file : Option (List ℕ)) (i : Image) → planned_file limit under args file ≡ run i a r n → n ≡ limit
file_limit limit n under args a r None i e = cc
file_limit limit n under args a r (Some bytes) i e = image_limit limit n under args a r bytes (fault_of bytes) i e

-- and may make some
pub some_steps : (asked : Result Command WordFault) (count n : ℕ) (words a : List (List ℕ)) (t : Tree) (i : Image) (r : Parts) → ((command : Command) → asked ≡ Ok command → IsSound count command) → planned_command asked words t ≡ run i a r n → 0 < n
some_steps (Ok (Plain limit folder file)) count n words a t i r sound e =
    let known = sound (Plain limit folder file) refl in
    omega (arith, file_limit limit n (named_folder folder words t) (drop file words) a r (named_file file words t) i e, known.0)
some_steps (Ok Kernel) count n words a t i r sound e = cc
some_steps (Ok (Asm file)) count n words a t i r sound e = absurd (source_not_run (named_file file words t) i a r n e)
some_steps (Err fault) count n words a t i r sound e = cc

-- a listing counts nothing
pub listing_counts : (asked : Result Command WordFault) → IsListing asked → first_count asked ≡ None
listing_counts (Ok (Plain limit folder file)) listing = absurd listing
listing_counts (Ok Kernel) listing = refl
listing_counts (Ok (Asm file)) listing = refl
listing_counts (Err fault) listing = absurd listing

-- and is never run
pub listing_not_run : (asked : Result Command WordFault) (words : List (List ℕ)) (i : Image) (a : List (List ℕ)) (r : Parts) (n : ℕ) → IsListing asked → IsPlanFor asked words (Run i a r n) → ⊥
listing_not_run (Ok (Plain limit folder file)) words i a r n listing kind = listing
listing_not_run (Ok Kernel) words i a r n listing kind = cc
listing_not_run (Ok (Asm file)) words i a r n listing kind = kind
listing_not_run (Err fault) words i a r n listing kind = listing

-- a text is put for a listing alone
pub put_is_listing : (asked : Result Command WordFault) (words : List (List ℕ)) (text : List ℕ) → IsPlanFor asked words (Put text) → IsListing asked
put_is_listing (Ok (Plain limit folder file)) words text kind = kind
put_is_listing (Ok Kernel) words text kind = tt
put_is_listing (Ok (Asm file)) words text kind = tt
put_is_listing (Err fault) words text kind = cc

-- what is answered of a plan is one of its command's answers
pub refusal_may : (asked : Result Command WordFault) (words : List (List ℕ)) (a : Answer) → IsPlanFor asked words (Refuse a) → MayAnswer asked a
refusal_may (Ok (Plain limit folder file)) words a kind = inl kind.0
refusal_may (Ok Kernel) words a kind = cc
refusal_may (Ok (Asm file)) words a kind = inl kind
refusal_may (Err fault) words a kind = cc

pub listing_may : (asked : Result Command WordFault) (words : List (List ℕ)) (text : List ℕ) (a : Answer) → IsPlanFor asked words (Put text) → (a ≡ Done) ⊎ Yields a → MayAnswer asked a
listing_may (Ok (Plain limit folder file)) words text a kind is = absurd kind
listing_may (Ok Kernel) words text a kind is = is
listing_may (Ok (Asm file)) words text a kind is = inr is
listing_may (Err fault) words text a kind is = cc

pub run_may : (asked : Result Command WordFault) (words : List (List ℕ)) (i : Image) (args : List (List ℕ)) (r : Parts) (n : ℕ) (a : Answer) → IsPlanFor asked words (Run i args r n) → IsRunAnswer a → MayAnswer asked a
run_may (Ok (Plain limit folder file)) words i args r n a kind is = inr is
run_may (Ok Kernel) words i args r n a kind is = cc
run_may (Ok (Asm file)) words i args r n a kind is = absurd kind
run_may (Err fault) words i args r n a kind is = cc

-- and so is what stops it
pub stop_may : (asked : Result Command WordFault) (a : Answer) → ((fault : WordFault) → asked ≡ Err fault → ⊥) → IsStop a → MayAnswer asked a
stop_may (Ok (Plain limit folder file)) a read stop = inr (stop_of_run a stop)
stop_may (Ok Kernel) a read stop = inr (stop_yields a stop)
stop_may (Ok (Asm file)) a read stop = inr (inr (stop_yields a stop))
stop_may (Err fault) a read stop = absurd (read fault refl)

-- a command with a limit counts its steps
pub limit_counts : (asked : Result Command WordFault) (words : List (List ℕ)) (limit : ℕ) → command_of words ≡ asked → HasLimit words limit → first_count asked ≡ Some 0
limit_counts asked words limit read has = ap first_count (sym read ∙ has.2)

-- and puts no listing
pub limit_not_listing : (asked : Result Command WordFault) (words : List (List ℕ)) (limit : ℕ) → command_of words ≡ asked → HasLimit words limit → IsListing asked → ⊥
limit_not_listing asked words limit read has listing = subst IsListing (sym read ∙ has.2) listing

-- words have one limit
pub one_limit : (words : List (List ℕ)) (n m : ℕ) → HasLimit words n → HasLimit words m → n ≡ m
one_limit words n m one other = let same : Ok (Plain n one.0 one.1) ≡ Ok (Plain m other.0 other.1) = sym one.2 ∙ other.2 in cc

-- a refusal of a program is none of words
program_not_words : (a : Answer) → IsProgramRefusal a → IsWordsRefusal a → ⊥
program_not_words a (inl file) refused = cc
program_not_words a (inr (inl program)) refused = cc
program_not_words a (inr (inr setting)) refused = cc

assembly_not_words : (a : Answer) → IsAssemblyRefusal a → IsWordsRefusal a → ⊥
assembly_not_words a (inl file) refused = cc
assembly_not_words a (inr assembly) refused = cc

-- a refusal of words is that of what was read of them
pub refused_words : (asked : Result Command WordFault) (words : List (List ℕ)) (a : Answer) → IsPlanFor asked words (Refuse a) → IsWordsRefusal a → refusal_of asked ≡ Some a
refused_words (Ok (Plain limit folder file)) words a kind refused = absurd (program_not_words a kind.0 refused)
refused_words (Ok Kernel) words a kind refused = cc
refused_words (Ok (Asm file)) words a kind refused = absurd (assembly_not_words a kind refused)
refused_words (Err fault) words a kind refused = let same : a ≡ answer_of_fault fault = cc in ap Some (sym same)

assembly_not_long : (a : Answer) (n : ℕ) → IsAssemblyRefusal a → a ≡ ArgsTooLong n → ⊥
assembly_not_long a n (inl file) long = other_stage a (ArgsTooLong n) file (λ e. cc) long
assembly_not_long a n (inr assembly) long = other_stage a (ArgsTooLong n) assembly (λ e. cc) long

pub refused_too_long : (asked : Result Command WordFault) (words : List (List ℕ)) (a : Answer) (n : ℕ) → command_of words ≡ asked → IsPlanFor asked words (Refuse a) → a ≡ ArgsTooLong n → AreTooLong words n
refused_too_long (Ok (Plain limit folder file)) words a n read kind long = let known = kind.1 n long in (limit, folder, file, read, known.0, known.1)
refused_too_long (Ok Kernel) words a n read kind long = cc
refused_too_long (Ok (Asm file)) words a n read kind long = absurd (assembly_not_long a n kind long)
refused_too_long (Err (WordUsage kind place)) words a n read plan long = let same : a ≡ answer_of_fault (WordUsage kind place) = cc in cc
refused_too_long (Err WordNotBuilt) words a n read plan long = let same : a ≡ answer_of_fault WordNotBuilt = cc in cc

-- words that are no command have a fault
pub fault_read : (asked : Result Command WordFault) (a : Answer) → refusal_of asked ≡ Some a → (fault : WordFault) × (asked ≡ Err fault) × (answer_of_fault fault ≡ a)
fault_read (Ok command) a e = cc
fault_read (Err fault) a e = (fault, refl, cc)

-- a run has the limit of the words
pub run_has_limit : (asked : Result Command WordFault) (words : List (List ℕ)) (i : Image) (a : List (List ℕ)) (r : Parts) (n : ℕ) → command_of words ≡ asked → IsPlanFor asked words (Run i a r n) → HasLimit words n
run_has_limit (Ok (Plain limit folder file)) words i a r n read kind = (folder, file, subst (λ (m : ℕ). command_of words ≡ Ok (Plain m folder file)) (sym kind.1) read)
run_has_limit (Ok Kernel) words i a r n read kind = cc
run_has_limit (Ok (Asm file)) words i a r n read kind = absurd kind
run_has_limit (Err fault) words i a r n read kind = cc

-- one thing is planned
pub same_listing : (l m : Listing) → put l ≡ put m → l ≡ m
same_listing l m e = cc

pub same_refusal : (a b : Answer) → refuse a ≡ refuse b → a ≡ b
same_refusal a b e = cc

choice_not_put : (b : Bool) (p : Planned) (answer : Answer) (l : Listing) → (p ≡ put l → ⊥) → (if b then p else refuse answer) ≡ put l → ⊥
choice_not_put true p answer l never e = never e
choice_not_put false p answer l never e = cc

-- a program is never put
under_not_put : (under : Option Parts) (image : Image) (args : List (List ℕ)) (limit : ℕ) (l : Listing) → planned_under under image args limit ≡ put l → ⊥
under_not_put None image args limit l e = cc
under_not_put (Some root) image args limit l e =
    choice_not_put (nat_le (main_vars_length args) main_vars_limit) (run image args root limit) (ArgsTooLong (main_vars_length args)) l (λ same. cc) e

file_not_put : (limit : ℕ) (under : Option Parts) (args : List (List ℕ)) (file : Option (List ℕ)) (l : Listing) → planned_file limit under args file ≡ put l → ⊥
file_not_put limit under args None l e = cc
file_not_put limit under args (Some bytes) l e = image_not_put (fault_of bytes) e
  where
    image_not_put : (fault : Option ElfFault) → planned_image limit under args bytes fault ≡ put l → ⊥
    image_not_put None is = under_not_put under (image_of bytes) args limit l is
    image_not_put (Some fault) is = cc

planned_is_listing : (asked : Result Command WordFault) (words : List (List ℕ)) (t : Tree) (l : Listing) → planned_command asked words t ≡ put l → IsListing asked
planned_is_listing (Ok (Plain limit folder file)) words t l e = file_not_put limit (named_folder folder words t) (drop file words) (named_file file words t) l e
planned_is_listing (Ok Kernel) words t l e = tt
planned_is_listing (Ok (Asm file)) words t l e = tt
planned_is_listing (Err fault) words t l e = cc

-- the words ask for a listing
pub asked_is_listing : (words : List (List ℕ)) (listing : Listing) (told : Option Tree) → AsksListing words listing told → IsListing (command_of words)
asked_is_listing words listing told (inl asked) = subst IsListing (sym asked.0) tt
asked_is_listing words listing told (inr (t, plans)) = planned_is_listing (command_of words) words t listing plans.planned

-- what was counted before a first step of a run is none
pub steps_early : (steps : Option ℕ) (n : ℕ) (first : Option ℕ) → steps ≡ Some n → steps ≡ first → first ≡ Some 0 → n ≡ 0
steps_early steps n first made early none = let same : Some n ≡ Some 0 = sym made ∙ early ∙ none in cc

-- the plan for `kernel`
pub kernel_plan : (asked : Result Command WordFault) (words : List (List ℕ)) (plan : Plan) → asked ≡ Ok Kernel → IsPlanFor asked words plan → IsPlan plan (put kernel_listing)
kernel_plan asked words plan is kind = subst (λ (r : Result Command WordFault). IsPlanFor r words plan) is kind

-- a command that was read is sound
pub sound_as : (asked : Result Command WordFault) (count : ℕ) → IfOk asked (IsSound count) → (command : Command) → asked ≡ Ok command → IsSound count command
sound_as asked count sound command is = subst (λ (r : Result Command WordFault). IfOk r (IsSound count)) is sound

-- words that are refused name no file
pub refused_names_none : (asked : Result Command WordFault) → IsSome (refusal_of asked) → NamesNone asked
refused_names_none (Ok command) some = cc
refused_names_none (Err fault) some = tt

pub some_is : (o : Option Answer) → IsSome o → (a : Answer) × (o ≡ Some a)
some_is None some = cc
some_is (Some a) some = (a, refl)
