-- A walk over the items that are printed.
use Rattle.std.proofs.Common.{◌≡◌, ℕ, ◌+◌, ◌<◌, ◌≤◌, List, [], ◌∷◌, ◌++◌, length, take, drop, get_or, All, refl, sym}
use Rattle.std.proofs.Common.{ap, ◌∙◌, subst, append_assoc}
use Rattle.std.proofs.lemmas.List.{append-nil, at_drop_all, at_drop_more, take_all}
use Rattle.std.proofs.lemmas.List.Elements.{All-more}
use Rattle.asm_items.specs.declared.item.Item.{Item}
use Rattle.asm_text.specs.Printing.{IsHeld, PrintsAll, PrintsItem, Writes}

-- one item on
pub turn : (items : List Item) (out now next : List ℕ) (i : ℕ) (it : Item) → i < length items → it ≡ get_or items i it →
    ((rest : List ℕ) → PrintsAll (drop i items) rest → PrintsAll items (out ++ rest)) → Writes out now (PrintsItem it) →
    next ≡ now ++ 10 ∷ [] → (rest : List ℕ) → PrintsAll (drop (i + 1) items) rest → PrintsAll items (next ++ rest)
turn items out now next i it below is before written is_next rest prints =
    let here : PrintsAll (it ∷ drop (i + 1) items) (written.0 ++ (10 ∷ rest)) =
    (written.0, rest, written.2, refl, prints) in
    let same : it ∷ drop (i + 1) items ≡ drop i items =
    ap (λ (x : Item). x ∷ drop (i + 1) items) is ∙ sym (at_drop_more (λ (xs : List Item). xs) items i it below) in
    let whole : PrintsAll items (out ++ (written.0 ++ (10 ∷ rest))) =
    before (written.0 ++ (10 ∷ rest)) (subst (λ (xs : List Item). PrintsAll xs (written.0 ++ (10 ∷ rest))) same here) in
    let e : next ++ rest ≡ out ++ (written.0 ++ (10 ∷ rest)) =
    ap (λ (xs : List ℕ). xs ++ rest) (is_next ∙ ap (λ (xs : List ℕ). xs ++ 10 ∷ []) written.1)
    ∙ append_assoc (out ++ written.0) (10 ∷ []) rest ∙ append_assoc out written.0 (10 ∷ rest) in
    subst (λ (text : List ℕ). PrintsAll items text) (sym e) whole

-- at the end
pub ended : (items : List Item) (out : List ℕ) (i : ℕ) → length items ≤ i →
    ((rest : List ℕ) → PrintsAll (drop i items) rest → PrintsAll items (out ++ rest)) → PrintsAll items out
ended items out i past before =
    let none : PrintsAll (drop i items) [] =
    subst (λ (xs : List Item). PrintsAll xs []) (sym (at_drop_all (λ (xs : List Item). xs) items i past)) refl in
    subst (λ (text : List ℕ). PrintsAll items text) (append-nil out) (before [] none)

-- one item more is held
pub turn-held : (items : List Item) (i : ℕ) (it : Item) → i < length items → it ≡ get_or items i it →
    All IsHeld (take i items) → IsHeld it → All IsHeld (take (i + 1) items)
turn-held items i it below is before held =
    All-more IsHeld items i it below before (subst (λ (x : Item). IsHeld x) is held)

-- and at the end all are
pub ended-held : (items : List Item) (i : ℕ) → length items ≤ i → All IsHeld (take i items) → All IsHeld items
ended-held items i past held = subst (λ (xs : List Item). All IsHeld xs) (take_all i items past) held
