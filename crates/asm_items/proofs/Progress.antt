-- A walk over the items: what stands behind it, and what is to come.
use Rattle.std.proofs.Common.{◌≡◌, ℕ, ◌+◌, ◌<◌, ◌≤◌, List, [], ◌∷◌, ◌++◌, length, drop, get_or, refl, sym, ap, ◌∙◌}
use Rattle.std.proofs.Common.{append_assoc, Result, Ok, Err, Option, subst}
use mathlib.Core.Path.{fun_ext}
use Rattle.std.proofs.lemmas.List.{at_drop_more, at_drop_all, append-nil}
use Rattle.std.specs.Int.{w32, to_le_bytes}
use Rattle.asm_items.specs.declared.item.Item.{Item}
use Rattle.asm_items.specs.declared.fault.AsmFault.{AsmFault}
use Rattle.asm_items.specs.declared.fault.AsmFault.TheVariants.{UnknownLabel, LabelTwice, OutOfReach, OutOfMemory}
use Rattle.asm_items.specs.ItemMeaning.{Part, Code, Data, Spells, parts_of, parts_from, and_then, after, assembled}
use Rattle.asm_items.specs.ItemMeaning.{labels_of, words_of, Puts, Fails, HoldsParts}

-- one after the other
pub Spells-append : (first second : List Part) (x y : List ℕ) → Spells first x → Spells second y
    → Spells (first ++ second) (x ++ y)
Spells-append [] second x y e h = subst (λ (w : List ℕ). Spells second (w ++ y)) (sym e) h
Spells-append (Code insn ∷ first) second x y s h = (
  s.0,
  s.1 ++ y,
  s.2,
  s.3,
  ap (λ (w : List ℕ). w ++ y) s.4
      ∙ append_assoc (to_le_bytes w32 s.0) s.1 y,
  Spells-append first second s.1 y s.5 h,
)
Spells-append (Data bytes ∷ first) second x y s h =
    (s.0 ++ y, ap (λ (w : List ℕ). w ++ y) s.1 ∙ append_assoc bytes s.0 y, Spells-append first second s.0 y s.2 h)

-- the walk stands before the rest of the items, at an index and a place
pub record Progress (labels : List ℕ → Option (ℕ × ℕ)) (base : ℕ) (all : List Item) (index place : ℕ) (rest : List Item)
    (bytes : List ℕ) : Type 0 where
  pub so_far : List Part
  pub same : parts_from labels base 0 0 all ≡ after so_far (parts_from labels base index place rest)
  pub held : Spells so_far bytes

after-none : (meaning : Result (List Part) AsmFault) → meaning ≡ after [] meaning
after-none (Ok parts) = refl
after-none (Err fault) = refl

abbrev ok_parts : List Part → Result (List Part) AsmFault
ok_parts parts = Ok parts

after-after : (first second : List Part) (meaning : Result (List Part) AsmFault) →
    after first (after second meaning) ≡ after (first ++ second) meaning
after-after first second (Ok parts) = ap ok_parts (sym (append_assoc first second parts))
after-after first second (Err fault) = refl

pub Progress-first : (labels : List ℕ → Option (ℕ × ℕ)) (base : ℕ) (all : List Item)
    → Progress labels base all 0 0 all []
Progress-first labels base all = record { so_far = []; same = after-none (parts_from labels base 0 0 all); held = refl }

Progress-held : (labels : List ℕ → Option (ℕ × ℕ)) (base : ℕ) (all : List Item) (index place : ℕ) (item : Item)
    (rest : List Item) (old bytes new : List ℕ)
    (meaning : Result (List Part) AsmFault) → parts_of labels base index place item ≡ meaning →
    Progress labels base all index place (item ∷ rest) old → new ≡ old ++ bytes → HoldsParts bytes meaning →
    Progress labels base all (index + 1) (place + words_of item) rest new
Progress-held labels base all index place item rest old bytes new (Ok parts) is p grown held =
    let more : Result (List Part) AsmFault = parts_from labels base (index + 1) (place + words_of item) rest in
    let step : and_then (parts_of labels base index place item) more ≡ after parts more =
    ap (λ (m : Result (List Part) AsmFault). and_then m more) is in
    record {
      so_far = p.so_far ++ parts;
      same = p.same ∙ ap (λ (m : Result (List Part) AsmFault). after p.so_far m) step ∙ after-after p.so_far parts more;
      held = subst (λ (w : List ℕ). Spells (p.so_far ++ parts) w) (sym grown)
          (Spells-append p.so_far parts old bytes p.held held);
    }
Progress-held labels base all index place item rest old bytes new (Err fault) is p grown held = absurd held

-- one item on
pub Progress-turn : (labels : List ℕ → Option (ℕ × ℕ)) (base : ℕ) (all : List Item) (index place i : ℕ) (item : Item)
    (old new : List ℕ) → i < length all →
    item ≡ get_or all i item → Progress labels base all index place (drop i all) old →
    Puts old new (Ok tt) (parts_of labels base index place item) →
    Progress labels base all (index + 1) (place + words_of item) (drop (i + 1) all) new
Progress-turn labels base all index place i item old new below is p grown =
    let here : Progress labels base all index place (item ∷ drop (i + 1) all) old =
    subst (λ (it : Item). Progress labels base all index place (it ∷ drop (i + 1) all) old) (sym is)
    (subst (λ (rest : List Item). Progress labels base all index place rest old)
    (at_drop_more (λ (rest : List Item). rest) all i item below) p) in
    Progress-held labels base all index place item (drop (i + 1) all) old grown.0 new _ refl here grown.1 grown.2

-- a map that gives each name's first label may stand for the labels
meant : (labels : List ℕ → Option (ℕ × ℕ)) (base : ℕ) (all : List Item)
    → ((name : List ℕ) → labels name ≡ labels_of all name) →
    parts_from labels base 0 0 all ≡ parts_from (labels_of all) base 0 0 all
meant labels base all found =
    let e : labels ≡ labels_of all = fun_ext found in
    ap (λ (f : List ℕ → Option (ℕ × ℕ)). parts_from f base 0 0 all) e

-- at the end
pub Progress-end : (labels : List ℕ → Option (ℕ × ℕ)) (base : ℕ) (all : List Item) (index place i : ℕ) (bytes : List ℕ)
    → length all ≤ i →
    Progress labels base all index place (drop i all) bytes →
    ((name : List ℕ) → labels name ≡ labels_of all name) → HoldsParts bytes (assembled base all)
unfolding assembled
Progress-end labels base all index place i bytes past p found =
    let none : drop i all ≡ [] = at_drop_all (λ (rest : List Item). rest) all i past in
    let whole : parts_from labels base 0 0 all ≡ Ok p.so_far =
    p.same ∙ ap (λ (rest : List Item). after p.so_far (parts_from labels base index place rest)) none
    ∙ ap (λ (parts : List Part). ok_parts parts) (append-nil p.so_far) in
    subst (λ (meaning : Result (List Part) AsmFault). HoldsParts bytes meaning)
    (sym whole ∙ meant labels base all found) p.held

faulty : (labels : List ℕ → Option (ℕ × ℕ)) (base : ℕ) (all : List Item) (index place i : ℕ) (item : Item)
    (old : List ℕ) (fault : AsmFault) → i < length all →
    item ≡ get_or all i item → Progress labels base all index place (drop i all) old →
    parts_of labels base index place item ≡ Err fault → parts_from labels base 0 0 all ≡ Err fault
faulty labels base all index place i item old fault below is p fails =
    let here : drop i all ≡ item ∷ drop (i + 1) all =
    at_drop_more (λ (rest : List Item). rest) all i item below ∙ ap (λ (it : Item). it ∷ drop (i + 1) all) (sym is) in
    p.same ∙ ap (λ (rest : List Item). after p.so_far (parts_from labels base index place rest)) here
    ∙ ap (λ (m : Result (List Part) AsmFault). after p.so_far
    (and_then m (parts_from labels base (index + 1) (place + words_of item) (drop (i + 1) all)))) fails

-- at an item with a fault
pub Progress-fault : (labels : List ℕ → Option (ℕ × ℕ)) (base : ℕ) (all : List Item) (index place i : ℕ) (item : Item)
    (old : List ℕ) (fault : AsmFault) →
    i < length all → item ≡ get_or all i item → Progress labels base all index place (drop i all) old →
    ((name : List ℕ) → labels name ≡ labels_of all name) →
    Fails fault (parts_of labels base index place item) → Fails fault (assembled base all)
unfolding assembled
Progress-fault labels base all index place i item old (UnknownLabel n) below is p found fails =
    sym (meant labels base all found) ∙ faulty labels base all index place i item old (UnknownLabel n) below is p fails
Progress-fault labels base all index place i item old (LabelTwice n) below is p found fails =
    sym (meant labels base all found) ∙ faulty labels base all index place i item old (LabelTwice n) below is p fails
Progress-fault labels base all index place i item old (OutOfReach n) below is p found fails =
    sym (meant labels base all found) ∙ faulty labels base all index place i item old (OutOfReach n) below is p fails
Progress-fault labels base all index place i item old OutOfMemory below is p found fails = tt
