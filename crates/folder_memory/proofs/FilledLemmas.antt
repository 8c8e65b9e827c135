-- Names below a path.
use Rattle.std.proofs.Common.{◌≡◌, ℕ, Bool, true, false, cond, List, [], ◌∷◌, refl, ap, sym, ◌∙◌, subst, inl, inr, Some}
use Rattle.std.proofs.Common.{IsSome}
use Rattle.std.specs.Prelude.{is_some}
use Rattle.std.specs.List.{list_any}
use Rattle.std.specs.Ordering.{eq_by_cmp}
use Rattle.std.specs.Map.{keys_of}
use Rattle.std.specs.FinMap as map
use Rattle.std.specs.FinMap.{find, get-from_entries, contains_key-keys}
use Rattle.std.specs.BTreeMap as tree
use Rattle.std.specs.BTreeMap.{BTreeMap}
use Rattle.std.proofs.lemmas.Bool.{cases_Bool, or_cases, or_left, or_right}
use Rattle.folder_tree.specs.Paths.{Parts, parts_cmp, parts_of}
use Rattle.folder_tree.specs.Tree.{Entry}
use Rattle.folder_tree.specs.TreeOps.{is_below, is_filled}
use Rattle.folder_tree.specs.Laws.{any_at, same_path}
use Rattle.folder_memory.specs.Names.{AreTexts, IsPathText, entry_of, name_entries, names_of, names_tree}
use Rattle.folder_memory.specs.declared.names.Stood.{Stood}
use Rattle.folder_memory.proofs.NameLemmas.{Texts, equal_tests, parts_total, same-parts, some_cond, texts}

member : (f : Parts → Bool) (paths : List Parts) → list_any f paths ≡ true
    → (p : Parts) × (f p ≡ true) × (list_any (eq_by_cmp parts_cmp p) paths ≡ true)
member f [] e = absurd (let none : ⊥ = cc in none)
member f (p ∷ paths) e =
    elim (or_cases (f p) (list_any f paths) e) as (λ _. (q : Parts) × (f q ≡ true)
    × (list_any (eq_by_cmp parts_cmp q) (p ∷ paths) ≡ true)) [
      | inl here ↦ (
        p,
        here,
        or_left (eq_by_cmp parts_cmp p p) (list_any (eq_by_cmp parts_cmp p) paths)
            (same-parts p p refl),
      )
      | inr later ↦ let rest =
          member f paths later in (
            rest.0,
            rest.1,
            or_right (eq_by_cmp parts_cmp rest.0 p)
                (list_any (eq_by_cmp parts_cmp rest.0) paths) rest.2,
          )
    ]

module _ {K : Type 0} (text : K → List ℕ) where
  -- a key that passes, and its name
  record Passing (test : List ℕ → Bool) (es : List (K × Stood)) : Type 0 where
    key : K
    is_text : IsPathText (text key)
    passes : test (text key) ≡ true
    found : IsSome (find parts_cmp (parts_of (text key)) (name_entries text es))

  passing : (test : List ℕ → Bool) (es : List (K × Stood)) → Texts text es
      → list_any (λ k. test (text k)) (keys_of es) ≡ true → Passing test es
  passing test [] all e = absurd (let none : ⊥ = cc in none)
  passing test (f ∷ es) all e =
      elim (or_cases (test (text f.0)) (list_any (λ k. test (text k)) (keys_of es)) e) as (λ _. Passing test (f ∷ es)) [
        | inl here ↦ record {
          key = f.0;
          is_text = all.0;
          passes = here;
          found = ap (λ b. is_some (cond b (Some (entry_of f.1))
              (find parts_cmp (parts_of (text f.0)) (name_entries text es))))
              (same-parts (parts_of (text f.0)) (parts_of (text f.0)) refl);
        }
        | inr later ↦ let rest = passing test es all.1 later in record {
          key = rest.key;
          is_text = rest.is_text;
          passes = rest.passes;
          found = some_cond (eq_by_cmp parts_cmp (parts_of (text rest.key)) (parts_of (text f.0))) (entry_of f.1)
              (find parts_cmp (parts_of (text rest.key)) (name_entries text es)) rest.found;
        }
      ]

  passes-by : (test : List ℕ → Bool) (p : Parts) (es : List (K × Stood))
      → ((k : K) → IsPathText (text k) → p ≡ parts_of (text k) → test (text k) ≡ true) → Texts text es
      → IsSome (find parts_cmp p (name_entries text es)) → list_any (λ k. test (text k)) (keys_of es) ≡ true
  passes-by test p [] law all some = absurd (let none : ⊥ = cc in none)
  passes-by test p (f ∷ es) law all some =
      elim (cases_Bool (eq_by_cmp parts_cmp p (parts_of (text f.0))))
      as (λ _. list_any (λ k. test (text k)) (keys_of (f ∷ es)) ≡ true) [
        | inl same ↦ or_left (test (text f.0)) (list_any (λ k. test (text k)) (keys_of es))
            (law f.0 all.0 (same_path p (parts_of (text f.0)) same))
        | inr other ↦ or_right (test (text f.0)) (list_any (λ k. test (text k)) (keys_of es))
            (passes-by test p es law all.1
            (let P : Bool → Type 0 = λ b. IsSome (cond b (Some (entry_of f.1))
            (find parts_cmp p (name_entries text es))) in subst P other some))
      ]

  -- some key passes a test of what is below a path exactly where a name stands there
  pub any-filled : (s : map.FinMap parts_cmp Entry) (m : BTreeMap K Stood) (path : Parts) (test : List ℕ → Bool)
      → ((name : List ℕ) → IsPathText name → test name ≡ is_below path (parts_of name))
      → names_of text m.entries ≡ s → AreTexts text m
      → list_any (λ k. test (text k)) (tree.keys m) ≡ is_filled (names_tree s) path
  any-filled s m path test law is are =
      let at : (p : Parts) → map.get s p ≡ find parts_cmp p (name_entries text m.entries) =
      λ p. ap (λ n. map.get n p) (sym is) ∙ get-from_entries parts_total (name_entries text m.entries) p in
      equal_tests (list_any (λ k. test (text k)) (tree.keys m)) (is_filled (names_tree s) path)
      (λ e. let one = passing test m.entries (texts text m are) e in
      any_at (is_below path) (parts_of (text one.key)) (map.keys s) (sym (law (text one.key) one.is_text) ∙ one.passes)
      (sym (contains_key-keys s (parts_of (text one.key))) ∙ ap is_some (at (parts_of (text one.key))) ∙ one.found))
      (λ e. let one = member (is_below path) (map.keys s) e in
      passes-by test one.0 m.entries (λ k kp same. law (text k) kp ∙ ap (is_below path) (sym same) ∙ one.1)
      (texts text m are)
      (sym (ap is_some (at one.0)) ∙ contains_key-keys s one.0 ∙ one.2))

  pub any-met : (test : List ℕ → Bool) (k : K) (keys rest : List K) → keys ≡ k ∷ rest → test (text k) ≡ true
      → true ≡ list_any (λ k. test (text k)) keys
  any-met test k keys rest is passes =
      sym (ap (list_any (λ k. test (text k))) is ∙ or_left (test (text k)) (list_any (λ k. test (text k)) rest) passes)

  pub any-end : (test : List ℕ → Bool) (keys : List K) → keys ≡ [] → false ≡ list_any (λ k. test (text k)) keys
  any-end test keys is = sym (ap (list_any (λ k. test (text k))) is)
