-- A walk over the lines of a text.
use Rattle.std.proofs.Common.{◌≡◌, ℕ, ◌+◌, ◌<◌, ◌≤◌, Bool, true, false, cond, ◌==◌, List, [], ◌∷◌, ◌++◌, length, Option}
use Rattle.std.proofs.Common.{Some, None, Result, Ok, Err, refl, sym, ap, ◌∙◌, subst, append_assoc, Bor, IfSome, arith}
use Rattle.std.proofs.lemmas.List.{append-nil}
use Rattle.std.specs.Option.{option_copied}
use Rattle.asm_items.specs.declared.item.Item.{Item}
use Rattle.asm_table.specs.Cuts.{before, behind}
use Rattle.asm_text.specs.Layout.{lines_of, on_first_line}
use Rattle.asm_text.specs.Reading.{line_item}
use Rattle.asm_text.specs.Texts.{Found, lines_from, Puts, Refuses, text_items, with_front, with_line}
use Rattle.asm_text.specs.declared.fault.TextFault.{TextFault}
use Rattle.asm_text.specs.declared.fault.TextKind.{TextKind}

-- what the rest of a text stands for, from a line on
abbrev pub rest_items : ℕ → Option (List ℕ) → Found
rest_items line None = Ok ([], [])
rest_items line (Some text) = lines_from line (lines_of text)

-- one more than the rest of a text has bytes
abbrev pub rest_size : Option (List ℕ) → ℕ
rest_size None = 0
rest_size (Some text) = length text + 1

pub with_front_one : (items : List Item) (lines : List ℕ) (item : Item) (line : ℕ) (rest : Found) →
    with_front (items ++ item ∷ []) (lines ++ line ∷ []) rest ≡ with_front items lines
    (with_front (item ∷ []) (line ∷ []) rest)
with_front_one items lines item line (Ok found) =
    let a = append_assoc items (item ∷ []) found.0 in let b = append_assoc lines (line ∷ []) found.1 in cc
with_front_one items lines item line (Err fault) = refl

abbrev rest_lines : Option (List ℕ) → List (List ℕ)
rest_lines None = []
rest_lines (Some text) = lines_of text

cut-step : (test : Bool) (byte : ℕ) (bytes : List ℕ) → lines_of bytes ≡ before 10 bytes ∷ rest_lines (behind 10 bytes) →
    cond test ([] ∷ lines_of bytes) (on_first_line byte (lines_of bytes))
    ≡ cond test [] (byte ∷ before 10 bytes) ∷ rest_lines (cond test (Some bytes) (behind 10 bytes))
cut-step true byte bytes same = refl
cut-step false byte bytes same = ap (λ (lines : List (List ℕ)). on_first_line byte lines) same

lines_of-cut : (text : List ℕ) → lines_of text ≡ before 10 text ∷ rest_lines (behind 10 text)
lines_of-cut [] = refl
lines_of-cut (byte ∷ bytes) = cut-step (byte == 10) byte bytes (lines_of-cut bytes)

lines-rest : (line : ℕ) (rest : Option (List ℕ)) → lines_from line (rest_lines rest) ≡ rest_items line rest
lines-rest line None = refl
lines-rest line (Some text) = refl

pub step : (line : ℕ) (text : List ℕ) →
    rest_items line (Some text) ≡ with_line line (line_item (before 10 text)) (rest_items (line + 1) (behind 10 text))
step line text =
    ap (λ (lines : List (List ℕ)). lines_from line lines) (lines_of-cut text)
    ∙ ap (λ (found : Found). with_line line (line_item (before 10 text)) found) (lines-rest (line + 1) (behind 10 text))

-- one line on
pub turn : (items : List Item) (lines : List ℕ) (now_items : List Item) (now_lines : List ℕ) (line : ℕ)
    (text first : List ℕ)
    (more : Option (List ℕ)) (whole : Found) → first ≡ before 10 text → more ≡ behind 10 text →
    Puts items lines now_items now_lines line (line_item first) (Ok tt) →
    with_front items lines (rest_items line (Some text)) ≡ whole →
    with_front now_items now_lines (rest_items (line + 1) more) ≡ whole
turn items lines now_items now_lines line text first more whole is_first is_more puts same =
    puts (rest_items (line + 1) more)
    ∙ ap (λ (t : List ℕ). with_front items lines (with_line line (line_item t) (rest_items (line + 1) more))) is_first
    ∙ ap (λ (o : Option (List ℕ)). with_front items lines
    (with_line line (line_item (before 10 text)) (rest_items (line + 1) o))) is_more
    ∙ ap (λ (found : Found). with_front items lines found) (sym (step line text))
    ∙ same

-- a line that is refused
pub refused : (items : List Item) (lines : List ℕ) (now_items : List Item) (now_lines : List ℕ) (line : ℕ)
    (text first : List ℕ)
    (stop : TextFault) (whole : Found) → first ≡ before 10 text →
    Puts items lines now_items now_lines line (line_item first) (Err stop) →
    with_front items lines (rest_items line (Some text)) ≡ whole →
    Refuses stop whole
refused items lines now_items now_lines line text first stop whole is_first puts same =
    let along : with_front items lines
    (with_line line (line_item first) (rest_items (line + 1) (behind 10 text))) ≡ whole =
    ap (λ (t : List ℕ). with_front items lines (with_line line (line_item t) (rest_items (line + 1) (behind 10 text))))
    is_first
    ∙ ap (λ (found : Found). with_front items lines found) (sym (step line text))
    ∙ same in
    subst (λ (found : Found). Refuses stop found) along (puts (rest_items (line + 1) (behind 10 text)))

-- the rest is shorter than the text that it was cut from
pub rest_size-shorter : (more : Option (Bor (List ℕ))) (n : ℕ) → IfSome more (λ rest. length rest.now < n) →
    rest_size (option_copied more) ≤ n
rest_size-shorter None n h = omega arith
rest_size-shorter (Some rest) n h = omega (arith, h)

-- at the end
pub ended : (items : List Item) (lines : List ℕ) (line : ℕ) (rest : Option (Bor (List ℕ))) (whole : Found) →
    rest ≡ None →
    with_front items lines (rest_items line (option_copied rest)) ≡ whole → whole ≡ Ok (items, lines)
ended items lines line rest whole none same =
    let at_none : with_front items lines (Ok ([], [])) ≡ whole =
    ap (λ (r : Option (Bor (List ℕ))). with_front items lines (rest_items line (option_copied r))) (sym none) ∙ same in
    let a = append-nil items in let b = append-nil lines in
    cc

-- as many lines as items
abbrev pub IsPaired : Found → Type 0
IsPaired (Ok found) = length found.1 ≡ length found.0
IsPaired (Err fault) = Unit {0}

paired-item : (item : Item) (line : ℕ) (found : Found) → IsPaired found →
    IsPaired (with_front (item ∷ []) (line ∷ []) found)
paired-item item line (Ok found) h = omega (arith, h)
paired-item item line (Err fault) h = tt

paired-line : (line : ℕ) (read : Result (Option Item) TextKind) (found : Found) → IsPaired found →
    IsPaired (with_line line read found)
paired-line line (Err kind) found h = tt
paired-line line (Ok None) found h = h
paired-line line (Ok (Some item)) found h = paired-item item line found h

paired-lines : (line : ℕ) (texts : List (List ℕ)) → IsPaired (lines_from line texts)
paired-lines line [] = refl
paired-lines line (text ∷ texts) = paired-line line (line_item text) (lines_from (line + 1) texts)
    (paired-lines (line + 1) texts)

pub paired : (text : List ℕ) (items : List Item) (lines : List ℕ) → text_items text ≡ Ok (items, lines) →
    length lines ≡ length items
unfolding text_items
paired text items lines is = subst IsPaired is (paired-lines 1 (lines_of text))
