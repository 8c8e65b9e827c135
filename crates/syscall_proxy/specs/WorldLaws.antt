-- What opens and open numbers come to when a call changes them.
use Rattle.std.specs.Prelude.{◌≡◌, ◌≤◌, ◌<◌, ◌+◌, ◌-◌, ◌^◌, ◌==◌, ℕ, zero, suc, Bool, true, false, cond, if◌then◌else◌}
use Rattle.std.specs.Prelude.{List, [], ◌∷◌, length, get_or, slice_set, Option, Some, None, unwrap_or}
use Rattle.std.proofs.Common.{sym, subst, ap, ◌∙◌, arith, refl}
use Rattle.std.proofs.lemmas.Bool.{eqb-true, eq-eqb}
use Rattle.std.specs.Cmp.{nat_cmp_total, nat_cmp_is}
use Rattle.std.specs.FinMap as map
use Rattle.std.specs.FinMap.{get-insert, get-remove}
use Rattle.std.specs.Ordering.{nat_cmp, eq_by_cmp, is_eq}
use Rattle.std.specs.declared.cmp.Ordering.TheVariants.{Equal}
use Rattle.folder_tree.specs.Laws.{same_number}
use Rattle.folder_tree.specs.Tree.{Tree, opens_of}
use Rattle.folder_tree.specs.TreeOps.{opened, released, fewer_opens}
use Rattle.host_text.specs.declared.open_numbers.Open.{Open}
use Rattle.host_text.specs.declared.open_numbers.Open.TheVariants.{Closed, Input, Console, File}
use Rattle.host_text.specs.declared.open_numbers.OpenFile.{OpenFile}
use Rattle.syscall_proxy.specs.Kept.{open_at}
use Rattle.syscall_proxy.specs.Worlds.{holds, held}

-- ---- open numbers

-- a number at which a file stands is one of them
pub file-inside : (numbers : List Open) (fd : ℕ) (file : OpenFile) → open_at numbers fd ≡ File file
    → fd < length numbers
file-inside [] fd file e = let no : ⊥ = cc in absurd no
file-inside (stands ∷ more) zero file e = grind arith
file-inside (stands ∷ more) (suc fd) file e = let h = file-inside more fd file e in grind (arith, h)

-- so is one at which something stands
pub stands-inside : (numbers : List Open) (fd : ℕ) {stands : Open} → open_at numbers fd ≡ stands
    → (stands ≡ Closed → ⊥) → fd < length numbers
stands-inside [] fd e some = absurd (some (sym e))
stands-inside (here ∷ more) zero e some = grind arith
stands-inside (here ∷ more) (suc fd) e some = let h = stands-inside more fd e some in grind (arith, h)

-- what another thing at a number changes
pub held-set : (numbers : List Open) (fd : ℕ) (stands : Open) (n : ℕ) → fd < length numbers
    → held (slice_set numbers fd stands) n + holds (open_at numbers fd) n ≡ held numbers n + holds stands n
held-set [] fd stands n h = let no : ⊥ = omega (arith, h) in absurd no
held-set (here ∷ more) zero stands n h = omega arith
held-set (here ∷ more) (suc fd) stands n h = let k = held-set more fd stands n (omega (arith, h)) in omega (arith, k)

-- a file that stands at a number is held
pub file-held : (numbers : List Open) (fd : ℕ) (file : OpenFile) → open_at numbers fd ≡ File file
    → 0 < held numbers file.number
file-held [] fd file e = let no : ⊥ = cc in absurd no
file-held (stands ∷ more) zero file e =
    let P : Open → Type 0 = λ s. 0 < holds s file.number + held more file.number in
    subst P (sym e) (rw (eq-eqb file.number file.number refl) (omega arith))
file-held (stands ∷ more) (suc fd) file e = let k = file-held more fd file e in omega (arith, k)

-- ---- opens

-- the test of a map's key is that of the numbers
pub same-test : (n number : ℕ) → eq_by_cmp nat_cmp n number ≡ (number == n)
same-test n number = tested (eq_by_cmp nat_cmp n number) (number == n)
    (λ h. eq-eqb number n (sym (same_number n number h))) (λ h. met n number (eqb-true number n h)) where
      tested : (a b : Bool) → (a ≡ true → b ≡ true) → (b ≡ true → a ≡ true) → a ≡ b
      tested true b f g = sym (f refl)
      tested false true f g = g refl
      tested false false f g = refl

      met : (n number : ℕ) → number ≡ n → eq_by_cmp nat_cmp n number ≡ true
      met n number e = let P : ℕ → Type 0 =
          λ z. eq_by_cmp nat_cmp n z ≡ true in subst P (sym e) (ap is_eq (sym (nat_cmp_is n n Equal refl)))

unwrapped : (b : Bool) (new old : Option ℕ) → unwrap_or (cond b new old) 0
    ≡ (if b then unwrap_or new 0 else unwrap_or old 0)
unwrapped true new old = refl
unwrapped false new old = refl

opened-by : (b : Bool) (here there : ℕ) → (b ≡ true → there ≡ here) → (if b then here + 1 else there) ≡ there
    + (if b then 1 else 0)
opened-by true here there same = rw (same refl) refl
opened-by false here there same = omega arith

-- a number that was opened is open once more, and all others are as often
pub opens_of-opened-at : (t : Tree) (number n : ℕ) → opens_of (opened t number) n ≡ opens_of t n
    + (if number == n then 1 else 0)
opens_of-opened-at t number n =
    ap (λ o. unwrap_or o 0) (get-insert nat_cmp_total t.opens number (opens_of t number + 1) n)
    ∙ unwrapped (eq_by_cmp nat_cmp n number) (Some (opens_of t number + 1)) (map.get t.opens n)
    ∙ ap (λ b. if b then opens_of t number + 1 else opens_of t n) (same-test n number)
    ∙ opened-by (number == n) (opens_of t number) (opens_of t n) (λ h. ap (opens_of t) (sym (eqb-true number n h)))

released-by : (b : Bool) (here there : ℕ) → 0 < here → (b ≡ true → there ≡ here) → (if b then here - 1 else there)
    + (if b then 1 else 0) ≡ there
released-by true here there some same = let e = same refl in omega (arith, e, some)
released-by false here there some same = omega arith

fewer-at : (last : Bool) (opens : map.FinMap nat_cmp ℕ) (number count n : ℕ) → (last ≡ true → count ≡ 1)
    → unwrap_or (map.get (if last then map.remove opens number else map.insert opens number (count - 1)) n) 0
    ≡ (if eq_by_cmp nat_cmp n number then count - 1 else unwrap_or (map.get opens n) 0)
fewer-at true opens number count n one =
    ap (λ o. unwrap_or o 0) (get-remove nat_cmp_total opens number n)
    ∙ unwrapped (eq_by_cmp nat_cmp n number) None (map.get opens n)
    ∙ ap (λ k. if eq_by_cmp nat_cmp n number then k else unwrap_or (map.get opens n) 0)
    (let e : 0 ≡ count - 1 = let h = one refl in omega (arith, h) in e)
fewer-at false opens number count n one =
    ap (λ o. unwrap_or o 0) (get-insert nat_cmp_total opens number (count - 1) n)
    ∙ unwrapped (eq_by_cmp nat_cmp n number) (Some (count - 1)) (map.get opens n)

-- a number that was released is open once less, and all others are as often
pub opens_of-released-at : (t : Tree) (number n : ℕ) → 0 < opens_of t number → opens_of (released t number) n
    + (if number == n then 1 else 0) ≡ opens_of t n
opens_of-released-at t number n some =
    ap (λ k. k + (if number == n then 1 else 0))
    (fewer-at (opens_of t number == 1) t.opens number (opens_of t number) n (λ h. eqb-true (opens_of t number) 1 h)
    ∙ ap (λ b. if b then opens_of t number - 1 else opens_of t n) (same-test n number))
    ∙ released-by (number == n) (opens_of t number) (opens_of t n) some
    (λ h. ap (opens_of t) (sym (eqb-true number n h)))
