-- To remove the name of a file keeps a tree well formed.
use Rattle.std.specs.Prelude.{◌≡◌, ℕ, Bool, true, false, cond, not, ◌&&◌, ◌==◌, if◌then◌else◌, List, []}
use Rattle.std.specs.Prelude.{◌∷◌, ◌++◌, Option, Some, None, IsSome, is_some, unwrap_or}
use Rattle.std.proofs.Common.{ap, sym, ◌∙◌, refl, subst, inl, inr}
use Rattle.std.specs.FinMap as map
use Rattle.std.specs.FinMap.{get-remove}
use Rattle.std.specs.Cmp.{nat_cmp_total, eq_by_cmp_equiv}
use Rattle.std.specs.Cmp.Lexicographic.{lists_total, nat_list_cmp_total}
use Rattle.std.specs.Ordering.{nat_cmp, eq_by_cmp}
use Rattle.std.proofs.lemmas.Bool.{cases_Bool, both_ways, eqb-true, eqb-false}
use Rattle.folder_tree.specs.Paths.{Parts, parts_cmp}
use Rattle.folder_tree.specs.Tree.{Entry, directory, stored, Tree, Found, entry, nothing, no_parent, under_file}
use Rattle.folder_tree.specs.Tree.{found_from, found_at, number_found, number_at, opens_of, IsHeld, IsWellFormed}
use Rattle.folder_tree.specs.TreeOps.{dropped, is_named, remove_row, unnamed, without}
use Rattle.folder_tree.specs.Laws.{Keeps, same_number, same_path, found_at-names, is_named-name, name-is_named}
use Rattle.folder_tree.specs.Laws.{get-kept_by, some_kept, some_before, was_kept, gone_parts}
use Rattle.folder_tree.specs.RowLaws.{dirs-stay, tree_of}

pub append_nil : (a : Parts) → a ++ [] ≡ a
append_nil [] = refl
append_nil (x ∷ a) = ap (λ rest. x ∷ rest) (append_nil a)

pub append_more : (a : Parts) (p : List ℕ) (b : Parts) → (a ++ p ∷ []) ++ b ≡ a ++ p ∷ b
append_more [] p b = refl
append_more (x ∷ a) p b = ap (λ rest. x ∷ rest) (append_more a p b)

entry-name : (t : Tree) (above : Parts) (here : Option Entry) (path : Parts) (n : ℕ)
    → (path ≡ [] → here ≡ Some (stored n) → map.get t.names above ≡ here)
    → found_from t above here path ≡ entry (stored n)
    → map.get t.names (above ++ path) ≡ Some (stored n)
entry-name t above None [] n is e = cc
entry-name t above (Some x) [] n is e =
    let same : x ≡ stored n = cc in ap (map.get t.names) (append_nil above) ∙ is refl (ap Some same) ∙ ap Some same
entry-name t above None (p ∷ path) n is e = cc
entry-name t above (Some (stored k)) (p ∷ path) n is e = cc
entry-name t above (Some directory) (p ∷ path) n is e =
    ap (map.get t.names) (sym (append_more above p path))
    ∙ entry-name t (above ++ p ∷ []) (map.get t.names (above ++ p ∷ [])) path n (λ _ _. refl) e

found_number : (found : Found) (n : ℕ) → number_found found ≡ Some n → found ≡ entry (stored n)
found_number (entry directory) n e = cc
found_number (entry (stored k)) n e = let same : k ≡ n = cc in ap (λ m. entry (stored m)) same
found_number nothing n e = cc
found_number no_parent n e = cc
found_number under_file n e = cc

-- the file at a path is named by it
pub file-name : (t : Tree) (path : Parts) (n : ℕ) → number_at t path ≡ Some n → map.get t.names path ≡ Some (stored n)
file-name t path n e =
    entry-name t [] (Some directory) path n (λ _ is. let no : ⊥ = cc in absurd no) (found_number (found_at t path) n e)

gone_cond : {X : Type 0} (b : Bool) (o : Option X) (x : X) → cond b None o ≡ Some x → o ≡ Some x
gone_cond true o x e = absurd (let no : ⊥ = cc in no)
gone_cond false o x e = e

pub name-before : (t : Tree) (path p : Parts) (e : Entry) → map.get (without t path).names p ≡ Some e
    → map.get t.names p ≡ Some e
name-before t path p e is =
    gone_cond (eq_by_cmp parts_cmp p path) (map.get t.names p) e
    (sym (get-remove (lists_total nat_list_cmp_total) t.names path p) ∙ is)

pub name-after : (t : Tree) (path p : Parts) (e : Entry) → eq_by_cmp parts_cmp p path ≡ false
    → map.get t.names p ≡ Some e → map.get (without t path).names p ≡ Some e
name-after t path p e other is =
    get-remove (lists_total nat_list_cmp_total) t.names path p ∙ ap (λ b. cond b None (map.get t.names p)) other ∙ is

dir-after : (t : Tree) (path p : Parts) (n : ℕ) → map.get t.names path ≡ Some (stored n)
    → map.get t.names p ≡ Some directory → map.get (without t path).names p ≡ Some directory
dir-after t path p n file is =
    name-after t path p directory (elim (cases_Bool (eq_by_cmp parts_cmp p path))
    as (λ _. eq_by_cmp parts_cmp p path ≡ false) [
      | inl same ↦ absurd (let two : Some directory ≡ Some (stored n) = sym is
          ∙ ap (map.get t.names) (same_path p path same) ∙ file in let no : ⊥ = cc in no)
      | inr other ↦ other
    ]) is

pub some_value : {X : Type 0} (o : Option X) → IsSome o → (x : X) × (o ≡ Some x)
some_value None some = absurd (let no : ⊥ = cc in no)
some_value (Some x) some = (x, refl)

whole : (b : Bool) (u : Tree) (bytes : map.FinMap nat_cmp (List ℕ))
    → (if b then record u { bytes = bytes } else u) ≡ record u { bytes = if b then bytes else u.bytes }
whole true u bytes = refl
whole false u bytes = refl

zero_open : (o : Option ℕ) → unwrap_or o 0 ≡ 0 → IsSome o → o ≡ Some 0
zero_open None e some = absurd (let no : ⊥ = cc in no)
zero_open (Some n) e some = ap Some e

more_open : (o : Option ℕ) → (unwrap_or o 0 ≡ 0 → ⊥) → IsSome o
more_open None apart = absurd (apart refl)
more_open (Some n) apart = refl

not_both : (a b : Bool) → ((a && not b) ≡ true → ⊥) → b ≡ false → a ≡ false
not_both true true apart e = absurd (let no : ⊥ = cc in no)
not_both true false apart e = absurd (apart refl)
not_both false b apart e = refl

-- the name of a file goes, and its bytes with the last of its names and opens
pub removed-IsWellFormed : (t : Tree) (path : Parts) (number : ℕ) → IsWellFormed t
    → map.get t.names path ≡ Some (stored number) → IsWellFormed (dropped (without t path) number)
removed-IsWellFormed t path number well file =
    let u : Tree = without t path in
    let gone : Bool = opens_of u number == 0 && not (is_named u number) in
    let v : Tree = record u { bytes = if gone then map.remove t.bytes number else t.bytes } in
    let bytes_at : (m : ℕ) → map.get v.bytes m ≡ (if gone
    then cond (eq_by_cmp nat_cmp m number) None (map.get t.bytes m) else map.get t.bytes m) = λ m.
    get-kept_by t.bytes number m gone in
    let Has : Option (List ℕ) → Type 0 = λ o. IsSome o in
    let before : (m : ℕ) → IsHeld v m → IsHeld t m = λ m holds. elim holds as (λ _. IsHeld t m) [
      | inl name ↦ inl (name.0, name-before t path name.0 (stored m) name.1)
      | inr some ↦ inr some
    ] in
    subst IsWellFormed (sym (whole gone u (map.remove t.bytes number))) (record {
      root = elim (cases_Bool (eq_by_cmp parts_cmp [] path)) as (λ _. map.get v.names [] ≡ None) [
        | inl same ↦ get-remove (lists_total nat_list_cmp_total) t.names path []
            ∙ ap (λ b. cond b None (map.get t.names [])) same
        | inr other ↦ get-remove (lists_total nat_list_cmp_total) t.names path []
            ∙ ap (λ b. cond b None (map.get t.names [])) other ∙ well.root
      ];
      parents = λ above part some.
          let name = some_value (map.get u.names (above ++ part ∷ [])) some in
          found_at-names u v above refl
          ∙ dirs-stay t u [] (Some directory) (Some directory) above (λ p is. dir-after t path p number file is)
          (λ same. same)
          (well.parents above part (ap is_some (name-before t path (above ++ part ∷ []) name.0 name.1)));
      held = λ m holds. subst Has (sym (bytes_at m))
          (some_kept gone (eq_by_cmp nat_cmp m number) (map.get t.bytes m) (well.held m (before m holds))
          (λ is same. elim holds as (λ _. ⊥) [
            | inl name ↦ both_ways (is_named u number) (gone_parts (opens_of u number == 0) (is_named u number) is).1
                (let Named : ℕ → Type 0 = λ k. is_named u k ≡ true in
                subst Named (same_number m number same) (is_named-name u name.0 m name.1))
            | inr some ↦ well.counts number (zero_open (map.get t.opens number)
                (eqb-true (opens_of u number) 0 (gone_parts (opens_of u number == 0) (is_named u number) is).0)
                (let P : ℕ → Type 0 = λ k. IsSome (map.get t.opens k) in subst P (same_number m number same) some))
          ]));
      holders = λ m has.
          let was = some_before gone (eq_by_cmp nat_cmp m number) (map.get t.bytes m) (subst Has (bytes_at m) has) in
          elim (well.holders m was.0) as (λ _. IsHeld v m) [
            | inr some ↦ inr some
            | inl name ↦ elim (cases_Bool (eq_by_cmp parts_cmp name.0 path)) as (λ _. IsHeld v m) [
              | inr other ↦ inl (name.0, name-after t path name.0 (stored m) other name.1)
              | inl same ↦
                  let files : Some (stored m) ≡ Some (stored number) =
                  sym name.1 ∙ ap (map.get t.names) (same_path name.0 path same) ∙ file in
                  let is : m ≡ number = cc in
                  let apart : gone ≡ true → ⊥ =
                  λ g. was.1 g (ap (eq_by_cmp nat_cmp m) (sym is) ∙ (eq_by_cmp_equiv nat_cmp_total).refl m) in
                  elim (cases_Bool (is_named u number)) as (λ _. IsHeld v m) [
                    | inl still ↦ let other =
                        name-is_named u number still in inl (other.0, other.1 ∙ ap (λ k. Some (stored k)) (sym is))
                    | inr none ↦ inr (let P : ℕ → Type 0 = λ k. IsSome (map.get t.opens k) in subst P (sym is)
                        (more_open (map.get t.opens number) (eqb-false (opens_of u number) 0
                        (not_both (opens_of u number == 0) (is_named u number) apart none))))
                  ]
            ]
          ];
      sizes = λ m bytes e. well.sizes m bytes (was_kept gone (eq_by_cmp nat_cmp m number) (map.get t.bytes m) bytes
          (sym (bytes_at m) ∙ e));
      counts = well.counts;
    })

unnamed_is : (t : Tree) (path : Parts) (o : Option ℕ) (answer : Unit) (now : Tree)
    → unnamed t path o ≡ Some (record { answer = answer; tree = now })
    → (number : ℕ) × (o ≡ Some number) × (dropped (without t path) number ≡ now)
unnamed_is t path None answer now e = absurd (let no : ⊥ = cc in no)
unnamed_is t path (Some number) answer now e = (number, refl, tree_of tt answer (dropped (without t path) number) now e)

pub remove_row-Keeps : (path : Parts) → Keeps (remove_row path)
remove_row-Keeps path t answer now well e =
    let parts = unnamed_is t path (number_at t path) answer now e in
    subst IsWellFormed parts.2 (removed-IsWellFormed t path parts.0 well (file-name t path parts.0 parts.1))
