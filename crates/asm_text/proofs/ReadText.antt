-- What is read of a text can be printed, and takes no more words than its lines allow.
use Rattle.std.proofs.Common.{◌≡◌, ℕ, ◌+◌, ◌*◌, ◌≤◌, Bool, true, false, cond, ◌==◌, List, [], ◌∷◌, length, All, Option}
use Rattle.std.proofs.Common.{Some, None, Result, Ok, Err, subst, arith}
use Rattle.std.proofs.lemmas.List.Elements.{All-cons, All-nil}
use Rattle.asm_items.specs.ItemMeaning.{total_words}
use Rattle.asm_items.specs.Printable.{IsPrintable}
use Rattle.asm_items.specs.declared.item.Item.{Item}
use Rattle.asm_text.specs.Layout.{lines_of, on_first_line}
use Rattle.asm_text.specs.Reading.{line_item}
use Rattle.asm_text.specs.Texts.{Found, lines_from, text_items, with_front, with_line}
use Rattle.asm_text.specs.declared.fault.TextKind.{TextKind}
use Rattle.asm_text.proofs.ReadItems.{AreGood, IsGood, OkIs, line_item-is}

-- the items of so many lines
record AreOf (items : List Item) (lines : ℕ) : Type 0 where
  printable : All IsPrintable items
  size : total_words items ≤ 256 * lines

abbrev FoundIs : ℕ → Found → Type 0
FoundIs lines (Ok found) = AreOf found.0 lines
FoundIs lines (Err fault) = Unit {0}

more-lines : (items : List Item) (lines : ℕ) → AreOf items lines → AreOf items (lines + 1)
more-lines items lines h = record { printable = h.printable; size = omega (arith, h.size) }

front-is : (it : Item) (line lines : ℕ) (found : Found) → IsGood it → FoundIs lines found →
    FoundIs (lines + 1) (with_front (it ∷ []) (line ∷ []) found)
front-is it line lines (Err fault) good h = tt
front-is it line lines (Ok found) good h = record {
  printable = All-cons IsPrintable it found.0 good.printable h.printable;
  size = omega (arith, good.size, h.size);
}

line-is : (line lines : ℕ) (read : Result (Option Item) TextKind) (found : Found) → OkIs AreGood read →
    FoundIs lines found →
    FoundIs (lines + 1) (with_line line read found)
line-is line lines (Err kind) found good h = tt
line-is line lines (Ok None) (Err fault) good h = tt
line-is line lines (Ok None) (Ok found) good h = more-lines found.0 lines h
line-is line lines (Ok (Some it)) found good h = front-is it line lines found good h

lines-are : (line : ℕ) (texts : List (List ℕ)) → FoundIs (length texts) (lines_from line texts)
lines-are line [] = record { printable = All-nil IsPrintable; size = omega arith }
lines-are line (text ∷ texts) =
    let one_more : length texts + 1 ≡ length (text ∷ texts) = omega arith in
    subst (λ (n : ℕ). FoundIs n (with_line line (line_item text) (lines_from (line + 1) texts))) one_more
    (line-is line (length texts) (line_item text) (lines_from (line + 1) texts) (line_item-is text)
    (lines-are (line + 1) texts))

first-line : (byte : ℕ) (lines : List (List ℕ)) → length (on_first_line byte lines) ≤ length lines + 1
first-line byte [] = omega arith
first-line byte (line ∷ lines) = omega arith

count-step : (ends : Bool) (byte n : ℕ) (lines : List (List ℕ)) → length lines ≤ n →
    length (cond ends ([] ∷ lines) (on_first_line byte lines)) ≤ n + 1
count-step true byte n lines h = omega (arith, h)
count-step false byte n lines h = omega (arith, h, first-line byte lines)

line-count : (text : List ℕ) → length (lines_of text) ≤ length text + 1
line-count [] = omega arith
line-count (byte ∷ text) = omega
    (arith, count-step (byte == 10) byte (length text + 1) (lines_of text) (line-count text))

found-are : (lines : ℕ) (found : Found) (items : List Item) (numbers : List ℕ) → FoundIs lines found →
    found ≡ Ok (items, numbers) →
    AreOf items lines
found-are lines found items numbers h is = subst (FoundIs lines) is h

pub text-printable : (text : List ℕ) (items : List Item) (numbers : List ℕ) → text_items text ≡ Ok (items, numbers) →
    All IsPrintable items
unfolding text_items
text-printable text items numbers is =
    (found-are (length (lines_of text)) (lines_from 1 (lines_of text)) items numbers
    (lines-are 1 (lines_of text)) is).printable

pub text-size : (text : List ℕ) (items : List Item) (numbers : List ℕ) → text_items text ≡ Ok (items, numbers) →
    total_words items ≤ 256 * (length text + 1)
unfolding text_items
text-size text items numbers is =
    let size = (found-are (length (lines_of text)) (lines_from 1 (lines_of text)) items numbers
    (lines-are 1 (lines_of text)) is).size in
    omega (arith, size, line-count text)
