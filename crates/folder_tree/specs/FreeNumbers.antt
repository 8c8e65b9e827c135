-- `least_free` is the least number that has no bytes, and the only one.
use Rattle.std.specs.Prelude.{◌≡◌, ◌<◌, ◌≤◌, ◌+◌, ℕ, zero, suc, true, false, if◌then◌else◌, List, [], ◌∷◌, Option}
use Rattle.std.specs.Prelude.{Some, None, IsSome, is_some, sum}
use Rattle.std.proofs.Common.{ap, sym, ◌∙◌, refl, subst, arith, ◌⊎◌, inl, inr}
use Rattle.std.specs.FinMap as map
use Rattle.std.specs.FinMap.{contains_key-keys}
use Rattle.std.specs.List.{list_any}
use Rattle.std.specs.Ordering.{nat_cmp, eq_by_cmp}
use Rattle.std.proofs.lemmas.Bool.{cases_Bool, cases_eq, or_cases}
use Rattle.std.proofs.lemmas.List.Recursion.{is_sum_by}
use Rattle.folder_tree.specs.Tree.{Tree}
use Rattle.folder_tree.specs.TreeOps.{free_from, least_free}
use Rattle.folder_tree.specs.Laws.{same_number}

-- the least number that has no bytes
pub record IsFreeNumber (t : Tree) (number : ℕ) : Type 0 where
  pub free : map.get t.bytes number ≡ None
  pub least : (below : ℕ) → below < number → IsSome (map.get t.bytes below)

nothing_of : {X : Type 0} (o : Option X) → is_some o ≡ false → o ≡ None
nothing_of None e = refl
nothing_of (Some x) e = cc

none_is : {X : Type 0} (o : Option X) → o ≡ None → IsSome o → ⊥
none_is None e some = cc
none_is (Some x) e some = cc

step-has : (bytes : map.FinMap nat_cmp (List ℕ)) (more n : ℕ) → is_some (map.get bytes n) ≡ true
    → free_from bytes (suc more) n ≡ free_from bytes more (n + 1)
step-has bytes more n has = ap (λ b. if b then free_from bytes more (n + 1) else n) has

step-none : (bytes : map.FinMap nat_cmp (List ℕ)) (more n : ℕ) → is_some (map.get bytes n) ≡ false
    → free_from bytes (suc more) n ≡ n
step-none bytes more n none = ap (λ b. if b then free_from bytes more (n + 1) else n) none

free_from-least : (bytes : map.FinMap nat_cmp (List ℕ)) (more n k : ℕ) → n ≤ k → k < free_from bytes more n
    → IsSome (map.get bytes k)
free_from-least bytes zero n k from below = absurd (omega arith)
free_from-least bytes (suc more) n k from below =
    elim (cases_Bool (is_some (map.get bytes n))) as (λ _. IsSome (map.get bytes k)) [
      | inl has ↦ elim (cases_eq n k) as (λ _. IsSome (map.get bytes k)) [
        | inl same ↦ let P : ℕ → Type 0 = λ j. IsSome (map.get bytes j) in subst P same has
        | inr other ↦ free_from-least bytes more (n + 1) k (grind (arith, other))
            (let step : free_from bytes (suc more) n ≡ free_from bytes more (n + 1) = step-has bytes more n has in
            omega arith)
      ]
      | inr none ↦ absurd (let step : free_from bytes (suc more) n ≡ n = step-none bytes more n none in omega arith)
    ]

free_from-end : (bytes : map.FinMap nat_cmp (List ℕ)) (more n : ℕ)
    → (map.get bytes (free_from bytes more n) ≡ None) ⊎ (free_from bytes more n ≡ n + more)
free_from-end bytes zero n = inr (let same : n ≡ n + 0 = omega arith in same)
free_from-end bytes (suc more) n =
    elim (cases_Bool (is_some (map.get bytes n)))
    as (λ _. (map.get bytes (free_from bytes (suc more) n) ≡ None)
    ⊎ (free_from bytes (suc more) n ≡ n + suc more)) [
      | inl has ↦ elim (free_from-end bytes more (n + 1))
          as (λ _. (map.get bytes (free_from bytes (suc more) n) ≡ None)
          ⊎ (free_from bytes (suc more) n ≡ n + suc more)) [
            | inl free ↦ inl (ap (map.get bytes) (step-has bytes more n has) ∙ free)
            | inr end ↦ inr (step-has bytes more n has ∙ end
                ∙ (let same : (n + 1) + more ≡ n + suc more = omega arith in same))
          ]
      | inr none ↦ inl (ap (map.get bytes) (step-none bytes more n none) ∙ nothing_of (map.get bytes n) none)
    ]

total : List ℕ → ℕ
total [] = 0
total (x ∷ xs) = x + total xs

total-sum : (xs : List ℕ) → total xs ≡ sum xs
unfolding total
total-sum xs = is_sum_by total (λ x. x) refl (λ _ _. refl) xs

member-total : (k : ℕ) (xs : List ℕ) → list_any (eq_by_cmp nat_cmp k) xs ≡ true → k ≤ total xs
unfolding total
member-total k [] e = absurd (let no : ⊥ = cc in no)
member-total k (x ∷ xs) e =
    elim (or_cases (eq_by_cmp nat_cmp k x) (list_any (eq_by_cmp nat_cmp k) xs) e) as (λ _. k ≤ x + total xs) [
      | inl here ↦ let same : k ≡ x = same_number k x here in omega arith
      | inr later ↦ let below : k ≤ total xs = member-total k xs later in omega arith
    ]

-- a number with bytes is at most the sum of all
key-sum : (bytes : map.FinMap nat_cmp (List ℕ)) (k : ℕ) → IsSome (map.get bytes k) → k ≤ sum (map.keys bytes)
key-sum bytes k some =
    let below : k ≤ total (map.keys bytes) = member-total k (map.keys bytes) (sym (contains_key-keys bytes k) ∙ some) in
    let same : total (map.keys bytes) ≡ sum (map.keys bytes) = total-sum (map.keys bytes) in omega arith

-- it has no bytes, and each number below it has some
pub least_free-IsFreeNumber : (t : Tree) → IsFreeNumber t (least_free t.bytes)
unfolding least_free
least_free-IsFreeNumber t =
    let most : ℕ = sum (map.keys t.bytes) in
    record {
      free = elim (free_from-end t.bytes (most + 1) 0)
          as (λ _. map.get t.bytes (free_from t.bytes (most + 1) 0) ≡ None) [
            | inl free ↦ free
            | inr end ↦ elim (cases_Bool (is_some (map.get t.bytes (free_from t.bytes (most + 1) 0))))
                as (λ _. map.get t.bytes (free_from t.bytes (most + 1) 0) ≡ None) [
                  | inl has ↦ absurd (let below : free_from t.bytes (most + 1) 0 ≤ most = key-sum t.bytes
                      (free_from t.bytes (most + 1) 0) has in omega arith)
                  | inr none ↦ nothing_of (map.get t.bytes (free_from t.bytes (most + 1) 0)) none
                ]
          ];
      least = λ below within. free_from-least t.bytes (most + 1) 0 below (omega arith) within;
    }

order : (m n : ℕ) → (m ≡ n) ⊎ ((m < n) ⊎ (n < m))
order m n = grind arith

-- there is one such number alone
pub IsFreeNumber-one : (t : Tree) (m n : ℕ) → IsFreeNumber t m → IsFreeNumber t n → m ≡ n
IsFreeNumber-one t m n first second =
    elim (order m n) as (λ _. m ≡ n) [
      | inl same ↦ same
      | inr apart ↦ elim apart as (λ _. m ≡ n) [
        | inl below ↦ absurd (none_is (map.get t.bytes m) first.free (second.least m below))
        | inr above ↦ absurd (none_is (map.get t.bytes n) second.free (first.least n above))
      ]
    ]
