-- How the grammar of the words reads on from a place, and copies of the words from there.
use Rattle.std.proofs.Common.{◌≡◌, ◌∙◌, ℕ, zero, suc, ◌+◌, ◌<◌, ◌≤◌, ◌++◌, true, false, not, List, [], ◌∷◌, drop, length, Option, Some, None, Result, Ok, Err, ap, sym, add-one, append_assoc, arith}
use Rattle.std.proofs.Math.ListN.{drop_of_length-le}
use Rattle.std.proofs.lemmas.List.{drop-drop}
use Rattle.std.specs.Prelude.{slice_get, bytes_eq, codes, ok_or}
use Rattle.fe_base.specs.Limits.{greatest_step_limit}
use Rattle.spike_front.specs.Words.{asm_words, behind_option, behind_options, command_of, kernel_words, is_option, is_unbuilt_name, no_options, number_within, plain_file, plain_words, limit_value, read_option}
use Rattle.spike_front.specs.declared.words.PlainOptions.{PlainOptions}
use Rattle.spike_front.specs.declared.words.UsageKind.TheVariants.{UnknownCommand, UnknownOption, BadNumber}
use Rattle.spike_front.specs.declared.words.WordFault.{WordFault}
use Rattle.spike_front.specs.declared.words.WordFault.TheVariants.{Usage, NotBuilt}
use Rattle.spike_front.proofs.Choices.{if_true, if_false}

drop-word_suc : {X : Type 0} (xs : List X) (i : ℕ) (x : X) → slice_get xs i ≡ Some x → drop i xs ≡ x ∷ drop (suc i) xs
drop-word_suc [] i x h = cc
drop-word_suc (y ∷ ys) zero x h = let e : y ≡ x = cc in rw e
drop-word_suc (y ∷ ys) (suc i) x h = drop-word_suc ys i x h

-- the words from one on are it and those behind it
pub drop-word : {X : Type 0} (xs : List X) (i : ℕ) (x : X) → slice_get xs i ≡ Some x → drop i xs ≡ x ∷ drop (i + 1) xs
drop-word xs i x h = rw add-one (drop-word_suc xs i x h)

-- one word more of a copy
pub copied : (words copy new all : List (List ℕ)) (i : ℕ) (word : List ℕ) → slice_get words i ≡ Some word → new ≡ copy ++ word ∷ []
    → copy ++ drop i words ≡ all → new ++ drop (i + 1) words ≡ all
copied words copy new all i word here grown known =
    ap (λ (xs : List (List ℕ)). xs ++ drop (i + 1) words) grown
    ∙ append_assoc copy (word ∷ []) (drop (i + 1) words)
    ∙ sym (ap (λ (xs : List (List ℕ)). copy ++ xs) (drop-word words i word here))
    ∙ known

-- a value that is a number, and one that is none
pub value_given : (words : List (List ℕ)) (at n : ℕ) (word : List ℕ) → slice_get words at ≡ Some word → number_within 1 greatest_step_limit word ≡ Some n
    → limit_value at (drop at words) ≡ Ok n
value_given words at n word here number = ap (limit_value at) (drop-word words at word here) ∙ ap (λ (o : Option ℕ). ok_or o (Usage BadNumber at)) number

pub value_refused : (words : List (List ℕ)) (at : ℕ) (word : List ℕ) → slice_get words at ≡ Some word → number_within 1 greatest_step_limit word ≡ None
    → limit_value at (drop at words) ≡ Err (Usage BadNumber at)
value_refused words at word here number = ap (limit_value at) (drop-word words at word here) ∙ ap (λ (o : Option ℕ). ok_or o (Usage BadNumber at)) number

first-file : (options : PlainOptions) (at : ℕ) (word : List ℕ) (words : List (List ℕ)) → is_option word ≡ false
    → plain_words options at (word ∷ words) ≡ plain_file options at (word ∷ words)
first-file options at word [] plain = if_true (not (is_option word)) _ _ (ap not plain)
first-file options at word (next ∷ words) plain = if_true (not (is_option word)) _ _ (ap not plain)

first-dashes : (options : PlainOptions) (at : ℕ) (word : List ℕ) (words : List (List ℕ)) → is_option word ≡ true → bytes_eq word (codes "--") ≡ true
    → plain_words options at (word ∷ words) ≡ plain_file options (at + 1) words
first-dashes options at word [] dash both = if_false (not (is_option word)) _ _ (ap not dash) ∙ if_true (bytes_eq word (codes "--")) _ _ both
first-dashes options at word (next ∷ words) dash both = if_false (not (is_option word)) _ _ (ap not dash) ∙ if_true (bytes_eq word (codes "--")) _ _ both

first-option : (options : PlainOptions) (at : ℕ) (word : List ℕ) (words : List (List ℕ)) → is_option word ≡ true → bytes_eq word (codes "--") ≡ false
    → plain_words options at (word ∷ words) ≡ behind_option (read_option options at word words) (λ given. plain_words given (at + 2) (drop 1 words))
first-option options at word [] dash more = if_false (not (is_option word)) _ _ (ap not dash) ∙ if_false (bytes_eq word (codes "--")) _ _ more
first-option options at word (next ∷ words) dash more = if_false (not (is_option word)) _ _ (ap not dash) ∙ if_false (bytes_eq word (codes "--")) _ _ more

-- no word is left: FILE is missing
pub words-none : (options : PlainOptions) (at : ℕ) (words : List (List ℕ)) → length words ≤ at → plain_words options at (drop at words) ≡ plain_file options at (drop at words)
words-none options at words past =
    let none : drop at words ≡ [] = drop_of_length-le words past in
    ap (plain_words options at) none ∙ sym (ap (plain_file options at) none)

-- the next word is FILE
pub words-file : (options : PlainOptions) (at : ℕ) (words : List (List ℕ)) (word : List ℕ) → slice_get words at ≡ Some word → is_option word ≡ false
    → plain_words options at (drop at words) ≡ plain_file options at (drop at words)
words-file options at words word here plain =
    let next : drop at words ≡ word ∷ drop (at + 1) words = drop-word words at word here in
    ap (plain_words options at) next ∙ first-file options at word (drop (at + 1) words) plain ∙ sym (ap (plain_file options at) next)

-- the next word ends the options
pub words-dashes : (options : PlainOptions) (at : ℕ) (words : List (List ℕ)) (word : List ℕ) → slice_get words at ≡ Some word → is_option word ≡ true → bytes_eq word (codes "--") ≡ true
    → plain_words options at (drop at words) ≡ plain_file options (at + 1) (drop (at + 1) words)
words-dashes options at words word here dash both = ap (plain_words options at) (drop-word words at word here) ∙ first-dashes options at word (drop (at + 1) words) dash both

-- the next word is an option: it is refused, or the words behind its value are read
words-option : (options : PlainOptions) (at : ℕ) (words : List (List ℕ)) (word : List ℕ) (value : Result PlainOptions WordFault) → slice_get words at ≡ Some word → is_option word ≡ true
    → bytes_eq word (codes "--") ≡ false → read_option options at word (drop (at + 1) words) ≡ value
    → plain_words options at (drop at words) ≡ behind_option value (λ given. plain_words given (at + 2) (drop 1 (drop (at + 1) words)))
words-option options at words word value here dash more gives =
    ap (plain_words options at) (drop-word words at word here)
    ∙ first-option options at word (drop (at + 1) words) dash more
    ∙ ap (λ (r : Result PlainOptions WordFault). behind_option r (λ given. plain_words given (at + 2) (drop 1 (drop (at + 1) words)))) gives

pub words-refused : (options : PlainOptions) (at : ℕ) (words : List (List ℕ)) (word : List ℕ) (fault : WordFault) → slice_get words at ≡ Some word → is_option word ≡ true
    → bytes_eq word (codes "--") ≡ false → read_option options at word (drop (at + 1) words) ≡ Err fault
    → plain_words options at (drop at words) ≡ Err fault
words-refused options at words word fault here dash more gives = words-option options at words word (Err fault) here dash more gives

drop-two : (words : List (List ℕ)) (at : ℕ) → drop 1 (drop (at + 1) words) ≡ drop (at + 2) words
drop-two words at =
    let two : at + 1 + 1 ≡ at + 2 = omega arith in
    drop-drop 1 (at + 1) words ∙ ap (λ (n : ℕ). drop n words) two

pub words-next : (options given : PlainOptions) (at : ℕ) (words : List (List ℕ)) (word : List ℕ) → slice_get words at ≡ Some word → is_option word ≡ true
    → bytes_eq word (codes "--") ≡ false → read_option options at word (drop (at + 1) words) ≡ Ok given
    → plain_words options at (drop at words) ≡ plain_words given (at + 2) (drop (at + 2) words)
words-next options given at words word here dash more gives =
    words-option options at words word (Ok given) here dash more gives ∙ ap (plain_words given (at + 2)) (drop-two words at)

-- where the words behind no options begin
pub behind-none : (words : List (List ℕ)) → length words < 2 → behind_options (drop 1 words) ≡ Ok 1
behind-none words few = let none : drop 1 words ≡ [] = drop_of_length-le words {i = 1} (omega arith) in ap behind_options none

pub behind-word : (words : List (List ℕ)) (word : List ℕ) → slice_get words 1 ≡ Some word → is_option word ≡ false → behind_options (drop 1 words) ≡ Ok 1
behind-word words word here plain = ap behind_options (drop-word words 1 word here) ∙ if_true (not (is_option word)) _ _ (ap not plain)

pub behind-dashes : (words : List (List ℕ)) (word : List ℕ) → slice_get words 1 ≡ Some word → is_option word ≡ true → bytes_eq word (codes "--") ≡ true → behind_options (drop 1 words) ≡ Ok 2
behind-dashes words word here dash both =
    ap behind_options (drop-word words 1 word here) ∙ if_false (not (is_option word)) _ _ (ap not dash) ∙ if_true (bytes_eq word (codes "--")) _ _ both

pub behind-unknown : (words : List (List ℕ)) (word : List ℕ) → slice_get words 1 ≡ Some word → is_option word ≡ true → bytes_eq word (codes "--") ≡ false
    → behind_options (drop 1 words) ≡ Err (Usage UnknownOption 1)
behind-unknown words word here dash more =
    ap behind_options (drop-word words 1 word here) ∙ if_false (not (is_option word)) _ _ (ap not dash) ∙ if_false (bytes_eq word (codes "--")) _ _ more

-- the first word names the command
command-first : (words : List (List ℕ)) (name : List ℕ) → slice_get words 0 ≡ Some name → words ≡ name ∷ drop 1 words
command-first words name here = drop-word words 0 name here

count-behind : (words : List (List ℕ)) (name : List ℕ) → slice_get words 0 ≡ Some name → length (drop 1 words) + 1 ≡ length words
count-behind words name here = omega (arith, ap length (command-first words name here))

pub command-plain : (words : List (List ℕ)) (name : List ℕ) → slice_get words 0 ≡ Some name → bytes_eq name (codes "plain") ≡ true → command_of words ≡ plain_words no_options 1 (drop 1 words)
command-plain words name here same = ap command_of (command-first words name here) ∙ if_true (bytes_eq name (codes "plain")) _ _ same

pub command-kernel : (words : List (List ℕ)) (name : List ℕ) → slice_get words 0 ≡ Some name → bytes_eq name (codes "plain") ≡ false → bytes_eq name (codes "kernel") ≡ true
    → command_of words ≡ kernel_words (length words) (behind_options (drop 1 words))
command-kernel words name here other same =
    ap command_of (command-first words name here)
    ∙ if_false (bytes_eq name (codes "plain")) _ _ other ∙ if_true (bytes_eq name (codes "kernel")) _ _ same
    ∙ ap (λ n. kernel_words n (behind_options (drop 1 words))) (count-behind words name here)

pub command-asm : (words : List (List ℕ)) (name : List ℕ) → slice_get words 0 ≡ Some name → bytes_eq name (codes "plain") ≡ false → bytes_eq name (codes "kernel") ≡ false → bytes_eq name (codes "asm") ≡ true
    → command_of words ≡ asm_words (length words) (behind_options (drop 1 words))
command-asm words name here plain kernel same =
    ap command_of (command-first words name here)
    ∙ if_false (bytes_eq name (codes "plain")) _ _ plain ∙ if_false (bytes_eq name (codes "kernel")) _ _ kernel ∙ if_true (bytes_eq name (codes "asm")) _ _ same
    ∙ ap (λ n. asm_words n (behind_options (drop 1 words))) (count-behind words name here)

pub command-unbuilt : (words : List (List ℕ)) (name : List ℕ) → slice_get words 0 ≡ Some name → bytes_eq name (codes "plain") ≡ false → bytes_eq name (codes "kernel") ≡ false → bytes_eq name (codes "asm") ≡ false
    → is_unbuilt_name name ≡ true → command_of words ≡ Err NotBuilt
command-unbuilt words name here plain kernel asm unbuilt =
    ap command_of (command-first words name here)
    ∙ if_false (bytes_eq name (codes "plain")) _ _ plain ∙ if_false (bytes_eq name (codes "kernel")) _ _ kernel ∙ if_false (bytes_eq name (codes "asm")) _ _ asm
    ∙ if_true (is_unbuilt_name name) _ _ unbuilt

pub command-unknown : (words : List (List ℕ)) (name : List ℕ) → slice_get words 0 ≡ Some name → bytes_eq name (codes "plain") ≡ false → bytes_eq name (codes "kernel") ≡ false → bytes_eq name (codes "asm") ≡ false
    → is_unbuilt_name name ≡ false → command_of words ≡ Err (Usage UnknownCommand 0)
command-unknown words name here plain kernel asm unknown =
    ap command_of (command-first words name here)
    ∙ if_false (bytes_eq name (codes "plain")) _ _ plain ∙ if_false (bytes_eq name (codes "kernel")) _ _ kernel ∙ if_false (bytes_eq name (codes "asm")) _ _ asm
    ∙ if_false (is_unbuilt_name name) _ _ unknown
