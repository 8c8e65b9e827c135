-- The first number that a rising list of keys leaves out.
use Rattle.std.proofs.Common.{◌≡◌, ◌<◌, ◌≤◌, ◌+◌, ◌==◌, ◌||◌, ℕ, Bool, true, false, cond, List, [], ◌∷◌, refl, ap, sym}
use Rattle.std.proofs.Common.{◌∙◌, subst, arith, inl, inr, Option, Some, None}
use Rattle.std.specs.Prelude.{⊤, is_some}
use Rattle.std.specs.Option.{option_map}
use Rattle.std.specs.List.{list_any, AllByRecursion}
use Rattle.std.specs.List.Sorted.{IsStrictlySortedBy}
use Rattle.std.specs.Ordering.{nat_cmp, eq_by_cmp}
use Rattle.std.specs.declared.cmp.Ordering.TheVariants.{Less}
use Rattle.std.specs.Cmp.{nat_cmp_total, eq_by_cmp_equiv}
use Rattle.std.specs.FinMap as map
use Rattle.std.specs.BTreeMap as tree
use Rattle.std.specs.BTreeMap.{BTreeMap}
use Rattle.std.proofs.lemmas.Bool.{cases_Bool, cases_eq, or_left, or_right, eqb-true, eqb-false}
use Rattle.std.proofs.lemmas.Cmp.{ranked}
use Rattle.slab.specs.Slab.{Slab}
use Rattle.folder_tree.specs.Laws.{same_number}
use Rattle.folder_tree.specs.Tree.{Tree}
use Rattle.folder_tree.specs.TreeOps.{least_free}
use Rattle.folder_tree.specs.FreeNumbers.{IsFreeNumber-one, least_free-IsFreeNumber}
use Rattle.folder_memory.specs.Contents.{contents_of, held_at, first_gap}
use Rattle.folder_memory.proofs.ContentLemmas.{get-state}

-- the keys rise, from this number on
abbrev Rises : ℕ → List ℕ → Type 0
Rises number [] = ⊤
Rises number (key ∷ keys) = (number ≤ key) × Rises (key + 1) keys

rises-from : (number : ℕ) (keys : List ℕ) → AllByRecursion (λ k. number ≤ k) keys → IsStrictlySortedBy nat_cmp keys
    → Rises number keys
unfolding IsStrictlySortedBy
rises-from number [] above sorted = tt
rises-from number (key ∷ keys) above sorted = (above.0, rises-from (key + 1) keys (later key keys sorted.0) sorted.1)
  where
    later : (key : ℕ) (keys : List ℕ) → AllByRecursion (λ k. nat_cmp key k ≡ Less) keys
        → AllByRecursion (λ k. key + 1 ≤ k) keys
    later key [] below = tt
    later key (k ∷ keys) below =
        ((let order : key < k = ranked key k Less (sym below.0) in omega arith), later key keys below.1)

all-zero : (keys : List ℕ) → AllByRecursion (λ k. 0 ≤ k) keys
all-zero [] = tt
all-zero (key ∷ keys) = (omega arith, all-zero keys)

eq_self : (q n : ℕ) → q ≡ n → eq_by_cmp nat_cmp q n ≡ true
eq_self q n e = ap (eq_by_cmp nat_cmp q) (sym e) ∙ (eq_by_cmp_equiv nat_cmp_total).refl q

eq_other : (q n : ℕ) → (q ≡ n → ⊥) → eq_by_cmp nat_cmp q n ≡ false
eq_other q n apart = elim (cases_Bool (eq_by_cmp nat_cmp q n))
    as (λ _. eq_by_cmp nat_cmp q n ≡ false) [ inl same ↦ absurd (apart (same_number q n same)) | inr other ↦ other ]

neither : (x y : Bool) → x ≡ false → y ≡ false → (x || y) ≡ false
neither true y p q = cc
neither false y p q = q

not_below : (number : ℕ) (keys : List ℕ) (q : ℕ) → Rises number keys → q < number
    → list_any (eq_by_cmp nat_cmp q) keys ≡ false
not_below number [] q rises below = refl
not_below number (key ∷ keys) q rises below =
    let first : number ≤ key = rises.0 in
    neither (eq_by_cmp nat_cmp q key) (list_any (eq_by_cmp nat_cmp q) keys) (eq_other q key (λ e. omega arith))
    (not_below (key + 1) keys q rises.1 (omega arith))

gap_above : (number : ℕ) (keys : List ℕ) → number ≤ first_gap number keys
gap_above number [] = omega arith
gap_above number (key ∷ keys) =
    elim (cases_Bool (key == number)) as (λ _. number ≤ first_gap number (key ∷ keys)) [
      | inl same ↦ let step : first_gap number (key ∷ keys)
          ≡ first_gap (number + 1) keys = ap (λ b. cond b (first_gap (number + 1) keys) number) same in
          let more : number + 1 ≤ first_gap (number + 1) keys = gap_above (number + 1) keys in omega arith
      | inr other ↦ let step : first_gap number (key ∷ keys)
          ≡ number = ap (λ b. cond b (first_gap (number + 1) keys) number) other in omega arith
    ]

-- the gap is no key
gap_free : (number : ℕ) (keys : List ℕ) → Rises number keys
    → list_any (eq_by_cmp nat_cmp (first_gap number keys)) keys ≡ false
gap_free number [] rises = refl
gap_free number (key ∷ keys) rises =
    elim (cases_Bool (key == number)) as (λ _. list_any (eq_by_cmp nat_cmp (first_gap number (key ∷ keys))) (key ∷ keys)
    ≡ false) [
      | inl same ↦
          let is : key ≡ number = eqb-true key number same in
          let step : first_gap number (key ∷ keys) ≡ first_gap (number + 1) keys =
          ap (λ b. cond b (first_gap (number + 1) keys) number) same in
          let more : number + 1 ≤ first_gap (number + 1) keys = gap_above (number + 1) keys in
          let rest : list_any (eq_by_cmp nat_cmp (first_gap (number + 1) keys)) keys ≡ false =
          gap_free (number + 1) keys (let P : ℕ → Type 0 = λ k. Rises (k + 1) keys in subst P is rises.1) in
          ap (λ g. list_any (eq_by_cmp nat_cmp g) (key ∷ keys)) step
          ∙ neither (eq_by_cmp nat_cmp (first_gap (number + 1) keys) key)
          (list_any (eq_by_cmp nat_cmp (first_gap (number + 1) keys)) keys)
          (eq_other (first_gap (number + 1) keys) key (λ e. omega arith)) rest
      | inr other ↦
          let apart : key ≡ number → ⊥ = eqb-false key number other in
          let first : number ≤ key = rises.0 in
          let step : first_gap number (key ∷ keys) ≡ number =
          ap (λ b. cond b (first_gap (number + 1) keys) number) other in
          ap (λ g. list_any (eq_by_cmp nat_cmp g) (key ∷ keys)) step
          ∙ neither (eq_by_cmp nat_cmp number key) (list_any (eq_by_cmp nat_cmp number) keys)
          (eq_other number key (λ e. apart (sym e))) (not_below (key + 1) keys number rises.1 (omega arith))
    ]

-- each number before it is one
gap_least : (number : ℕ) (keys : List ℕ) (q : ℕ) → number ≤ q → q < first_gap number keys
    → list_any (eq_by_cmp nat_cmp q) keys ≡ true
gap_least number [] q from below = absurd (omega arith)
gap_least number (key ∷ keys) q from below =
    elim (cases_Bool (key == number)) as (λ _. list_any (eq_by_cmp nat_cmp q) (key ∷ keys) ≡ true) [
      | inl same ↦ elim (cases_eq q number) as (λ _. list_any (eq_by_cmp nat_cmp q) (key ∷ keys) ≡ true) [
        | inl here ↦ or_left (eq_by_cmp nat_cmp q key) (list_any (eq_by_cmp nat_cmp q) keys)
            (eq_self q key (here ∙ sym (eqb-true key number same)))
        | inr later ↦
            let step : first_gap number (key ∷ keys) ≡ first_gap (number + 1) keys =
            ap (λ b. cond b (first_gap (number + 1) keys) number) same in
            or_right (eq_by_cmp nat_cmp q key) (list_any (eq_by_cmp nat_cmp q) keys)
            (gap_least (number + 1) keys q (grind (arith, later, from)) (omega arith))
      ]
      | inr other ↦ absurd (let step : first_gap number (key ∷ keys)
          ≡ number = ap (λ b. cond b (first_gap (number + 1) keys) number) other in omega arith)
    ]

some_map : {X Y : Type 0} (f : X → Y) (o : Option X) → is_some (option_map f o) ≡ is_some o
some_map f None = refl
some_map f (Some x) = refl

nothing_of : {X : Type 0} (o : Option X) → is_some o ≡ false → o ≡ None
nothing_of None e = refl
nothing_of (Some x) e = cc

-- the gap in the keys is the least free number
pub gap-least_free : (s : map.FinMap nat_cmp (List ℕ)) (keys : BTreeMap ℕ ℕ) (slab : Slab (List ℕ)) (all : List ℕ)
    → contents_of keys.entries slab ≡ s → tree.IsOrdered nat_cmp keys → all ≡ tree.keys keys
    → ((q : ℕ) → is_some (tree.get nat_cmp keys q) ≡ list_any (eq_by_cmp nat_cmp q) all)
    → first_gap 0 all ≡ least_free s
gap-least_free s keys slab all is ordered same has =
    let t : Tree = record { names = map.empty; bytes = s; opens = map.empty } in
    let rises : Rises 0 all =
    let P : List ℕ → Type 0 =
    λ ks. Rises 0 ks in subst P (sym same) (rises-from 0 (tree.keys keys) (all-zero (tree.keys keys))
    ordered) in
    let shows : (q : ℕ) → is_some (map.get s q) ≡ list_any (eq_by_cmp nat_cmp q) all =
    λ q. ap (λ (o : Option (List ℕ)). is_some o) (get-state s keys slab q is)
    ∙ some_map (held_at slab) (tree.get nat_cmp keys q) ∙ has q in
    IsFreeNumber-one t (first_gap 0 all) (least_free s)
    (record {
      free = nothing_of (map.get s (first_gap 0 all)) (shows (first_gap 0 all) ∙ gap_free 0 all rises);
      least = λ below within. shows below ∙ gap_least 0 all below (omega arith) within;
    }) (least_free-IsFreeNumber t)

-- where a key is met that isn't the number, the number is the gap
pub gap-met : (number key : ℕ) (keys rest : List ℕ) → keys ≡ key ∷ rest → (key == number) ≡ false
    → number ≡ first_gap number keys
gap-met number key keys rest is other =
    sym (ap (first_gap number) is ∙ ap (λ b. cond b (first_gap (number + 1) rest) number) other)

pub gap-end : (number : ℕ) (keys : List ℕ) → keys ≡ [] → number ≡ first_gap number keys
gap-end number keys is = sym (ap (first_gap number) is)
