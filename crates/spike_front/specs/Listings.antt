-- What the commands `kernel` and `asm` put on the console: the text of the kernel's items, or the words of assembly
-- text.
use Rattle.std.specs.Prelude.{◌≡◌, ◌⊎◌, ℕ, ◌+◌, ◌*◌, List, [], ◌∷◌, ◌++◌, length, Option, Some, Ok}
use Rattle.std.specs.Prelude.{option_map}
use Rattle.fe_base.specs.Digits.{hexadecimal}
use Rattle.fe_base.specs.Memory.{counted}
use Rattle.fe_base.specs.Outside.{PutSuits}
use Rattle.asm_items.specs.ItemMeaning.{Part, Spells}
use Rattle.asm_text.specs.Texts.{text_items}
use Rattle.asm_text.specs.Printing.{PrintsAll, numbers}
use Rattle.proxy_kernel.specs.Kernel.{kernel}
use Rattle.spike_front.specs.Answers.{Yields}
use Rattle.spike_front.specs.declared.answer.Answer.{Answer}
use Rattle.spike_front.specs.declared.answer.Answer.TheVariants.{Done}

-- what is listed: the kernel's items, or these parts of assembled code
pub data Listing : Type 0 where
  kernel_listing : Listing
  code_listing : List Part → Listing

-- four bytes, lowest first, as a word
abbrev pub word_of : ℕ → ℕ → ℕ → ℕ → ℕ
word_of first second third fourth = first + 256 * second + 65536 * third + 16777216 * fourth

-- each four bytes as a word of eight hexadecimal digits in lower case, with a newline
abbrev pub word_lines : List ℕ → List ℕ
word_lines (first ∷ second ∷ third ∷ fourth ∷ bytes) =
    hexadecimal 8 (word_of first second third fourth) ++ 10 ∷ word_lines bytes
word_lines (first ∷ second ∷ third ∷ []) = []
word_lines (first ∷ second ∷ []) = []
word_lines (first ∷ []) = []
word_lines [] = []

-- a text lists what is listed: it is print_asm's text of the kernel's items and reads back as them, or the words of
-- bytes that hold the parts
abbrev pub Lists : Listing → List ℕ → Type 0
Lists kernel_listing text = PrintsAll kernel text × (text_items text ≡ Ok (kernel, numbers 1 (length kernel)))
Lists (code_listing parts) text = (bytes : List ℕ) × Spells parts bytes × (text ≡ word_lines bytes)

-- a console that tells what it holds has grown by a text of this kind
abbrev pub GrewBy : (List ℕ → Type 0) → Option (List ℕ) → Option (List ℕ) → Type 0
GrewBy Is before after = (held : List ℕ) → before ≡ Some held
    → (text : List ℕ) × Is text × (after ≡ Some (held ++ text))

-- a console that tells what it holds holds the same
abbrev pub IsKept : Option (List ℕ) → Option (List ℕ) → Type 0
IsKept before after = (held : List ℕ) → before ≡ Some held → after ≡ Some held

-- one put was made on a sink that tells how many were
abbrev pub OnePut : Option ℕ → Option ℕ → Type 0
OnePut before after = after ≡ option_map counted before

-- a listing has this answer and leaves the console so: Done where it has grown by a text that lists it, and else it is
-- as it was
pub record Listed (listing : Listing) (answer : Answer) (before after : Option (List ℕ)) : Type 0 where
  pub done : answer ≡ Done → GrewBy (Lists listing) before after
  pub kept : (answer ≡ Done → ⊥) → IsKept before after
  pub answers : (answer ≡ Done) ⊎ Yields answer

-- each text that lists this suits a sink with this room
abbrev pub ListingSuits : Listing → Option ℕ → Type 0
ListingSuits listing room = (text : List ℕ) → Lists listing text → PutSuits room (length text)
