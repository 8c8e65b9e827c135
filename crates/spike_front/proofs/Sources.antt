-- From what was read of assembly text to what is planned for it.
use Rattle.std.proofs.Common.{◌≡◌, ◌∙◌, ℕ, List, Some, Result, Ok, Err, refl, ap, sym}
use Rattle.asm_items.specs.ItemMeaning.{Part, assembled, HoldsParts}
use Rattle.asm_items.specs.declared.item.Item.{Item}
use Rattle.asm_items.specs.declared.fault.AsmFault.{AsmFault}
use Rattle.asm_text.specs.Faults.{number_of}
use Rattle.asm_text.specs.Texts.{text_items}
use Rattle.asm_text.specs.declared.fault.TextKind.{TextKind}
use Rattle.spike_front.specs.Listings.{code_listing, word_lines}
use Rattle.spike_front.specs.Plans.{IsPlan, ListsSource, planned_items, planned_source, planned_text, refuse}
use Rattle.spike_front.specs.declared.answer.Answer.TheVariants.{BadAsm}
use Rattle.spike_front.specs.declared.plan.Plan.TheVariants.{Put}

-- a text with a fault is refused by it
pub text_refused : (text : List ℕ) (line number : ℕ) (kind : TextKind) → number ≡ number_of kind → text_items text ≡ Err (line, kind)
    → planned_text (text_items text) ≡ refuse (BadAsm line number)
text_refused text line number kind told found = ap planned_text found ∙ ap (λ (n : ℕ). refuse (BadAsm line n)) (sym told)

-- the items that were read are assembled
pub text_read : (text : List ℕ) (items : List Item) (lines : List ℕ) → text_items text ≡ Ok (items, lines)
    → planned_text (text_items text) ≡ planned_items lines (assembled 0 items)
text_read text items lines found = ap planned_text found

-- bytes that hold what is meant are listed
pub held_plan : (lines bytes : List ℕ) (meaning : Result (List Part) AsmFault) → HoldsParts bytes meaning → IsPlan (Put (word_lines bytes)) (planned_items lines meaning)
held_plan lines bytes (Ok parts) holds = (code_listing parts, refl, (bytes, holds, refl))
held_plan lines bytes (Err fault) holds = absurd holds

-- they are the words of the file that was read
pub held_source : (source lines bytes : List ℕ) (meaning : Result (List Part) AsmFault) → planned_source (Some source) ≡ planned_items lines meaning → HoldsParts bytes meaning → ListsSource (word_lines bytes)
held_source source lines bytes (Ok parts) planned holds = (source, parts, planned, (bytes, holds, refl))
held_source source lines bytes (Err fault) planned holds = absurd holds
