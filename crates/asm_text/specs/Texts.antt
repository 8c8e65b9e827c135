-- What a whole text stands for: its items with their lines, or its first fault with its line.
use Rattle.std.specs.Prelude.{◌≡◌, ℕ, ◌+◌, List, [], ◌∷◌, ◌++◌, Option, Some, None, Result, Ok, Err, ⊤}
use Rattle.asm_items.specs.declared.item.Item.{Item}
use Rattle.asm_text.specs.Layout.{lines_of}
use Rattle.asm_text.specs.Reading.{line_item}
use Rattle.asm_text.specs.declared.fault.TextKind.{TextKind}
use Rattle.asm_text.specs.declared.fault.TextFault.{TextFault}
use Rattle.asm_text.specs.declared.fault.TextFault.TheVariants.{At, OutOfMemory}

-- items with their lines, or the line and the kind of a fault
abbrev pub Found : Type 0
Found = Result (List Item × List ℕ) (ℕ × TextKind)

-- items and lines before those that were found
abbrev pub with_front : List Item → List ℕ → Found → Found
with_front items lines (Ok found) = Ok (items ++ found.0, lines ++ found.1)
with_front items lines (Err fault) = Err fault

-- what a line adds to what is found behind it
abbrev pub with_line : ℕ → Result (Option Item) TextKind → Found → Found
with_line line (Err kind) found = Err (line, kind)
with_line line (Ok None) found = found
with_line line (Ok (Some item)) found = with_front (item ∷ []) (line ∷ []) found

-- what lines from this number on stand for
abbrev pub lines_from : ℕ → List (List ℕ) → Found
lines_from line [] = Ok ([], [])
lines_from line (text ∷ texts) = with_line line (line_item text) (lines_from (line + 1) texts)

-- what a text stands for; lines are counted from 1
unfoldable pub text_items : List ℕ → Found
text_items text = lines_from 1 (lines_of text)

-- a text is refused with its first fault; want of memory is free
abbrev pub Refuses : TextFault → Found → Type 0
Refuses (At line kind) found = found ≡ Err (line, kind)
Refuses OutOfMemory found = ⊤

-- items and lines grew by what a line adds, or the call failed with its fault, whatever is found behind the line
abbrev pub Puts : List Item → List ℕ → List Item → List ℕ → ℕ → Result (Option Item) TextKind → Result Unit TextFault →
    Type 0
Puts items lines now_items now_lines line found (Ok u) =
    (rest : Found) → with_front now_items now_lines rest ≡ with_front items lines (with_line line found rest)
Puts items lines now_items now_lines line found (Err fault) =
    (rest : Found) → Refuses fault (with_front items lines (with_line line found rest))
