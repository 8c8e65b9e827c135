-- From what was read of the words and of the file to what is done.
use Rattle.std.proofs.Common.{◌≡◌, ◌∙◌, ◌<◌, ◌≤◌, ℕ, nat_le, List, [], drop, length, Option, Some, None, Result, Ok, Err, IfOk, ap, sym}
use borrow.Author.Tests.{le-leb}
use Rattle.std.proofs.lemmas.Bool.{lt-leb}
use Rattle.std.proofs.lemmas.Option.{get_or_from_slice_get}
use Rattle.std.specs.Prelude.{slice_get}
use Rattle.fe_base.specs.Limits.{assembly_file_limit, elf_file_limit}
use Rattle.folder_tree.specs.Paths.{Parts}
use Rattle.folder_tree.specs.Tree.{Tree}
use Rattle.elf_loader.specs.ElfFile.{fault_of, fault_of-too_large, image_of}
use Rattle.elf_loader.specs.declared.image.Image.{Image}
use Rattle.elf_loader.specs.declared.fault.ElfFault.TheVariants.{TooLarge}
use Rattle.asm_text.specs.Texts.{text_items}
use Rattle.spike_front.specs.FoundFiles.{file_named}
use Rattle.spike_front.specs.Plans.{named_file, named_folder, planned_file, planned_image, planned_run, planned_source, planned_text, planned_under, refuse}
use Rattle.spike_front.specs.declared.answer.Answer.TheVariants.{BadAsm, BadElf}
use Rattle.spike_front.proofs.Choices.{if_true, if_false}

-- what holds of an Ok also holds in other words
pub ok_as : {A E : Type 0} (r : Result A E) (P Q : A → Type 0) → IfOk r P → ((x : A) → P x → Q x) → IfOk r Q
ok_as (Ok x) P Q holds as_well = as_well x holds
ok_as (Err e) P Q holds as_well = tt

-- the file that the word at a place names
pub named_at : (file : ℕ) (words : List (List ℕ)) (word : List ℕ) (t : Tree) (found : Option (List ℕ))
    → slice_get words file ≡ Some word → file_named word t ≡ found → named_file file words t ≡ found
named_at file words word t found here named = ap (λ (w : List ℕ). file_named w t) (get_or_from_slice_get words file word [] here) ∙ named

-- the file that a word names is run by its bytes
pub run_of_file : (limit file : ℕ) (folder : Option ℕ) (words : List (List ℕ)) (t : Tree) (bytes : List ℕ) → named_file file words t ≡ Some bytes
    → planned_run limit folder file words t ≡ planned_image limit (named_folder folder words t) (drop file words) bytes (fault_of bytes)
run_of_file limit file folder words t bytes named = ap (planned_file limit (named_folder folder words t) (drop file words)) named

-- a file of more bytes than are read is refused for them
pub large_file : (limit file : ℕ) (folder : Option ℕ) (words : List (List ℕ)) (t : Tree) (bytes : List ℕ) → named_file file words t ≡ Some bytes → elf_file_limit < length bytes
    → planned_run limit folder file words t ≡ refuse (BadElf TooLarge)
large_file limit file folder words t bytes named long =
    run_of_file limit file folder words t bytes named ∙ ap (planned_image limit (named_folder folder words t) (drop file words) bytes) (fault_of-too_large bytes long)

-- a program under the directory that its words name, and under none
pub image_under : (limit : ℕ) (folder : Option ℕ) (words args : List (List ℕ)) (t : Tree) (bytes : List ℕ) (image : Image) (found : Option Parts)
    → fault_of bytes ≡ None → image ≡ image_of bytes → named_folder folder words t ≡ found
    → planned_image limit (named_folder folder words t) args bytes (fault_of bytes) ≡ planned_under found image args limit
image_under limit folder words args t bytes image found good same named =
    ap (planned_image limit (named_folder folder words t) args bytes) good
    ∙ ap (λ (under : Option Parts). planned_under under (image_of bytes) args limit) named
    ∙ ap (λ (i : Image). planned_under found i args limit) (sym same)

-- assembly text that is not too large is read
pub source_of_file : (file : Option (List ℕ)) (bytes : List ℕ) → file ≡ Some bytes → length bytes ≤ assembly_file_limit → planned_source file ≡ planned_text (text_items bytes)
source_of_file file bytes named short = ap planned_source named ∙ if_true (nat_le (length bytes) assembly_file_limit) _ _ (le-leb (length bytes) assembly_file_limit short)

pub large_source : (file : Option (List ℕ)) (bytes : List ℕ) → file ≡ Some bytes → assembly_file_limit < length bytes → planned_source file ≡ refuse (BadAsm 0 9)
large_source file bytes named long = ap planned_source named ∙ if_false (nat_le (length bytes) assembly_file_limit) _ _ (lt-leb (length bytes) assembly_file_limit long)
