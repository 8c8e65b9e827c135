-- Reading a printed text gives the items, on the lines 1, 2 and so on.
use Rattle.std.proofs.Common.{◌≡◌, ℕ, ◌+◌, List, [], ◌∷◌, ◌++◌, length, Option, Some, Result, Ok, All, refl, ap, ◌∙◌}
use Rattle.std.proofs.lemmas.List.Elements.{All-head, All-tail}
use Rattle.asm_items.specs.declared.item.Item.{Item}
use Rattle.asm_table.specs.Cuts.{before, behind}
use Rattle.asm_text.specs.Layout.{bare}
use Rattle.asm_items.specs.Printable.{IsPrintable}
use Rattle.asm_text.specs.Printing.{IsHeld, numbers, PrintsAll}
use Rattle.asm_text.specs.Reading.{line_item}
use Rattle.asm_text.specs.Texts.{Found, text_items, with_line}
use Rattle.asm_text.specs.declared.fault.TextKind.{TextKind}
use Rattle.asm_text.proofs.Back.{is_line_byte}
use Rattle.asm_text.proofs.Cleanly.{before-stop, behind-stop}
use Rattle.asm_text.proofs.ItemBack.{item-back}
use Rattle.asm_text.proofs.TextWalk.{rest_items, step}

abbrev found_all : List Item → ℕ → Found
found_all items line = Ok (items, numbers line (length items))

nothing : (line : ℕ) → rest_items line (Some []) ≡ Ok ([], [])
unfolding line_item bare
nothing line = refl

lines-back : (items : List Item) (text : List ℕ) (line : ℕ) → All IsPrintable items → All IsHeld items →
    PrintsAll items text →
    rest_items line (Some text) ≡ found_all items line
lines-back [] text line fit held printed = ap (λ (t : List ℕ). rest_items line (Some t)) printed ∙ nothing line
lines-back (it ∷ items) text line fit held printed =
    let first : List ℕ = printed.0 in let rest : List ℕ = printed.1 in
    let is_line = item-back it printed.0 (All-head IsPrintable it items fit)
    (All-head IsHeld it items held) printed.2 in
    let front : before 10 (printed.0 ++ (10 ∷ printed.1)) ≡ printed.0 =
    before-stop is_line_byte 10 printed.0 printed.1 refl is_line.plain in
    let back : behind 10 (printed.0 ++ (10 ∷ printed.1)) ≡ Some printed.1 =
    behind-stop is_line_byte 10 printed.0 printed.1 refl is_line.plain in
    ap (λ (t : List ℕ). rest_items line (Some t)) printed.3
    ∙ step line (printed.0 ++ (10 ∷ printed.1))
    ∙ ap (λ (w : List ℕ). with_line line (line_item w)
    (rest_items (line + 1) (behind 10 (printed.0 ++ (10 ∷ printed.1))))) front
    ∙ ap (λ (o : Option (List ℕ)). with_line line (line_item printed.0) (rest_items (line + 1) o)) back
    ∙ ap (λ (found : Result (Option Item) TextKind). with_line line found (rest_items (line + 1) (Some printed.1)))
    is_line.back
    ∙ ap (λ (found : Found). with_line line (Ok (Some it)) found)
    (lines-back items printed.1 (line + 1) (All-tail IsPrintable it items fit)
    (All-tail IsHeld it items held) printed.4)

-- reading what was printed gives the same items
pub text-back : (items : List Item) (text : List ℕ) → All IsPrintable items → All IsHeld items → PrintsAll items text →
    text_items text ≡ Ok (items, numbers 1 (length items))
unfolding text_items
text-back items text fit held printed = lines-back items text 1 fit held printed
