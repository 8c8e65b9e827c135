-- Where the first label of a name may stand.
use Rattle.std.proofs.Common.{◌≡◌, ℕ, ◌+◌, ◌^◌, ◌<◌, ◌≤◌, List, [], ◌∷◌, Bool, true, false, cond, Option, Some, None}
use Rattle.std.proofs.Common.{IfSome, subst, sym, arith}
use Rattle.asm_items.specs.declared.item.Item.{Item}
use Rattle.asm_items.specs.ItemMeaning.{address, find_label, is_label, labels_of, total_words, words_of}

-- no further than the words up to the end
abbrev Below : ℕ → Option (ℕ × ℕ) → Type 0
Below end found = IfSome found (λ spot. spot.1 ≤ end)

here_or_later : (b : Bool) (index place end : ℕ) (later : Option (ℕ × ℕ)) → place ≤ end → Below end later
    → Below end (cond b (Some (index, place)) later)
here_or_later true index place end later h k = h
here_or_later false index place end later h k = k

find_label_below : (name : List ℕ) (index place : ℕ) (items : List Item)
    → Below (place + total_words items) (find_label name index place items)
find_label_below name index place [] = tt
find_label_below name index place (item ∷ items) =
    let later = find_label name (index + 1) (place + words_of item) items in
    let same : place + words_of item + total_words items ≡ place + (words_of item + total_words items) = omega arith in
    here_or_later (is_label name item) index place (place + (words_of item + total_words items)) later (omega arith)
    (subst (λ (end : ℕ). Below end later) same (find_label_below name (index + 1) (place + words_of item) items))

address_below : (base end : ℕ) (found : Option (ℕ × ℕ)) → Below end found → address base end < 2 ^ 64
    → IfSome found (λ spot. address base spot.1 < 2 ^ 64)
address_below base end None h k = tt
address_below base end (Some spot) h k = omega arith

-- a found label has an address
pub spot_has_address : (base : ℕ) (items : List Item) (name : List ℕ) (found : Option (ℕ × ℕ))
    → found ≡ labels_of items name →
    address base (total_words items) < 2 ^ 64 → IfSome found (λ spot. address base spot.1 < 2 ^ 64)
spot_has_address base items name found e k =
    let below : Below (0 + total_words items) found =
    subst (λ (o : Option (ℕ × ℕ)). Below (0 + total_words items) o) (sym e) (find_label_below name 0 0 items) in
    address_below base (0 + total_words items) found below (omega arith)
