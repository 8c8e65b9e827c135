-- To remove a directory in which nothing stands keeps a tree well formed.
use Rattle.std.specs.Prelude.{◌≡◌, ℕ, Bool, true, false, cond, ◌&&◌, if◌then◌else◌, List, [], ◌∷◌, ◌++◌, Option, Some}
use Rattle.std.specs.Prelude.{None, IsSome, is_some}
use Rattle.std.proofs.Common.{ap, sym, ◌∙◌, refl, subst, inl, inr, ◌⊎◌}
use Rattle.std.specs.FinMap as map
use Rattle.std.specs.FinMap.{get-remove, contains_key-keys}
use Rattle.std.specs.Cmp.{eq_by_cmp_equiv}
use Rattle.std.specs.Cmp.Lexicographic.{slice_cmp, lists_total, nat_list_cmp_total}
use Rattle.std.specs.Ordering.{nat_cmp, eq_by_cmp}
use Rattle.std.proofs.lemmas.Bool.{cases_Bool}
use Rattle.folder_tree.specs.Paths.{Parts, parts_cmp}
use Rattle.folder_tree.specs.Tree.{Entry, directory, stored, Tree, Found, entry, nothing, no_parent, under_file}
use Rattle.folder_tree.specs.Tree.{found_from, found_at, kind_found, kind_of, IsHeld, IsWellFormed}
use Rattle.folder_tree.specs.TreeOps.{After, is_below, is_directory, is_filled, remove_dir_row, without}
use Rattle.folder_tree.specs.Laws.{Keeps, same_path, any_at, is_some_of}
use Rattle.folder_tree.specs.RowLaws.{if_some, tree_of}
use Rattle.folder_tree.specs.RemoveLaws.{append_nil, append_more, name-before, name-after, some_value}
use Rattle.folder_tree.specs.declared.folder.PathKind.{PathKind}
use Rattle.folder_tree.specs.declared.folder.PathKind.TheVariants.{Directory, File, Free, NoParent, UnderFile}

directory-entry : (t : Tree) (above : Parts) (here : Option Entry) (path : Parts)
    → (path ≡ [] → map.get t.names above ≡ here) → found_from t above here path ≡ entry directory
    → map.get t.names (above ++ path) ≡ Some directory
directory-entry t above None [] is e = cc
directory-entry t above (Some directory) [] is e = ap (map.get t.names) (append_nil above) ∙ is refl
directory-entry t above (Some (stored n)) [] is e = cc
directory-entry t above None (p ∷ path) is e = cc
directory-entry t above (Some (stored k)) (p ∷ path) is e = cc
directory-entry t above (Some directory) (p ∷ path) is e =
    ap (map.get t.names) (sym (append_more above p path))
    ∙ directory-entry t (above ++ p ∷ []) (map.get t.names (above ++ p ∷ [])) path (λ _. refl) e

kind_directory : (found : Found) → kind_found found ≡ Directory → found ≡ entry directory
kind_directory (entry directory) e = refl
kind_directory (entry (stored n)) e = cc
kind_directory nothing e = cc
kind_directory no_parent e = cc
kind_directory under_file e = cc

-- a directory but the root has a name
pub directory-name : (t : Tree) (part : List ℕ) (parts : Parts) → kind_of t (part ∷ parts) ≡ Directory
    → map.get t.names (part ∷ parts) ≡ Some directory
directory-name t part parts is =
    directory-entry t [] (Some directory) (part ∷ parts) (λ e. let no : ⊥ = cc in absurd no)
    (kind_directory (found_at t (part ∷ parts)) is)

-- a directory is still found where each name on the way that was a directory is one
dirs-on : (t s : Tree) (above : Parts) (here there : Option Entry) (path : Parts)
    → ((a b : Parts) → path ≡ a ++ b → map.get t.names (above ++ a) ≡ Some directory
    → map.get s.names (above ++ a) ≡ Some directory)
    → (here ≡ Some directory → there ≡ Some directory) → found_from t above here path ≡ entry directory
    → found_from s above there path ≡ entry directory
dirs-on t s above None there [] stay same e = cc
dirs-on t s above (Some directory) there [] stay same e = ap (λ h. found_from s above h []) (same refl)
dirs-on t s above (Some (stored n)) there [] stay same e = cc
dirs-on t s above None there (part ∷ below) stay same e = cc
dirs-on t s above (Some (stored n)) there (part ∷ below) stay same e = cc
dirs-on t s above (Some directory) there (part ∷ below) stay same e =
    ap (λ h. found_from s above h (part ∷ below)) (same refl)
    ∙ dirs-on t s (above ++ part ∷ []) (map.get t.names (above ++ part ∷ [])) (map.get s.names (above ++ part ∷ []))
    below
    (λ a b is there'. ap (map.get s.names) (append_more above part a)
    ∙ stay (part ∷ a) b (ap (λ r. part ∷ r) is) (ap (map.get t.names) (sym (append_more above part a)) ∙ there'))
    (stay (part ∷ []) below refl) e

part_refl : (part : List ℕ) → eq_by_cmp (slice_cmp nat_cmp) part part ≡ true
part_refl part = (eq_by_cmp_equiv nat_list_cmp_total).refl part

-- longer paths are below
pub below-longer : (path : Parts) (part : List ℕ) (rest : Parts) → is_below path (path ++ part ∷ rest) ≡ true
below-longer [] part rest = refl
below-longer (p ∷ path) part rest =
    ap (λ b. b && is_below path (path ++ part ∷ rest)) (part_refl p) ∙ below-longer path part rest

assoc : (a b c : Parts) → (a ++ b) ++ c ≡ a ++ (b ++ c)
assoc [] b c = refl
assoc (x ∷ a) b c = ap (λ rest. x ∷ rest) (assoc a b c)

below-more : (path b : Parts) (part : List ℕ) → is_below path (path ++ (b ++ part ∷ [])) ≡ true
below-more path [] part = below-longer path part []
below-more path (x ∷ b) part = below-longer path x (b ++ part ∷ [])

pub filled-name : (t : Tree) (path q : Parts) (e : Entry) → map.get t.names q ≡ Some e → is_below path q ≡ true
    → is_filled t path ≡ true
filled-name t path q e is below =
    any_at (is_below path) q (map.keys t.names) below
    (sym (contains_key-keys t.names q) ∙ is_some_of (map.get t.names q) e is)

not_both : (b : Bool) → b ≡ true → b ≡ false → ⊥
not_both true p q = cc
not_both false p q = cc

pub removed_dir-IsWellFormed : (t : Tree) (path : Parts) → IsWellFormed t → map.get t.names path ≡ Some directory
    → is_filled t path ≡ false → IsWellFormed (without t path)
removed_dir-IsWellFormed t path well dir empty =
    let u : Tree = without t path in record {
      root = elim (cases_Bool (eq_by_cmp parts_cmp [] path)) as (λ _. map.get u.names [] ≡ None) [
        | inl same ↦ get-remove (lists_total nat_list_cmp_total) t.names path []
            ∙ ap (λ b. cond b None (map.get t.names [])) same
        | inr other ↦ get-remove (lists_total nat_list_cmp_total) t.names path []
            ∙ ap (λ b. cond b None (map.get t.names [])) other ∙ well.root
      ];
      parents = λ above part some.
          let name = some_value (map.get u.names (above ++ part ∷ [])) some in
          let was : map.get t.names (above ++ part ∷ []) ≡ Some name.0 =
          name-before t path (above ++ part ∷ []) name.0 name.1 in
          dirs-on t u [] (Some directory) (Some directory) above
          (λ a b is there. name-after t path a directory
          (elim (cases_Bool (eq_by_cmp parts_cmp a path)) as (λ _. eq_by_cmp parts_cmp a path ≡ false) [
            | inl same ↦
                let whole : above ++ part ∷ [] ≡ path ++ (b ++ part ∷ []) =
                ap (λ p. p ++ part ∷ []) (is ∙ ap (λ p. p ++ b) (same_path a path same))
                ∙ assoc path b (part ∷ []) in
                absurd (not_both (is_filled t path) (filled-name t path (above ++ part ∷ []) name.0 was
                (ap (is_below path) whole ∙ below-more path b part)) empty)
            | inr other ↦ other
          ]) there)
          (λ same. same) (well.parents above part (ap is_some was));
      held = λ m holds. elim holds as (λ _. IsSome (map.get t.bytes m)) [
        | inl name ↦ well.held m (inl (name.0, name-before t path name.0 (stored m) name.1))
        | inr some ↦ well.held m (inr some)
      ];
      holders = λ m has. elim (well.holders m has) as (λ _. IsHeld u m) [
        | inr some ↦ inr some
        | inl name ↦ inl (
          name.0,
          name-after t path name.0 (stored m) (elim (cases_Bool (eq_by_cmp parts_cmp name.0 path))
              as (λ _. eq_by_cmp parts_cmp name.0 path ≡ false) [
                | inl same ↦ absurd (let two : Some (stored m) ≡ Some directory = sym name.1
                    ∙ ap (map.get t.names) (same_path name.0 path same) ∙ dir in let no : ⊥ = cc in no)
                | inr other ↦ other
              ]) name.1,
        )
      ];
      sizes = well.sizes;
      counts = well.counts;
    }

pub directory_kind : (kind : PathKind) → is_directory kind ≡ true → kind ≡ Directory
directory_kind Directory e = refl
directory_kind File e = cc
directory_kind Free e = cc
directory_kind NoParent e = cc
directory_kind UnderFile e = cc

by_filled : (filled : Bool) (t gone now : Tree) (answer : Bool)
    → ◌≡◌ {A = Option (After Bool)} (Some (if filled then record { answer = false; tree = t }
    else record { answer = true; tree = gone })) (Some (record { answer = answer; tree = now }))
    → (t ≡ now) ⊎ ((filled ≡ false) × (gone ≡ now))
by_filled true t gone now answer e = inl (tree_of false answer t now e)
by_filled false t gone now answer e = inr (refl, tree_of true answer gone now e)

-- to remove a directory keeps a tree well formed
pub remove_dir_row-Keeps : (path : Parts) → Keeps (remove_dir_row path)
remove_dir_row-Keeps [] t answer now well e = absurd (let no : ⊥ = cc in no)
remove_dir_row-Keeps (part ∷ parts) t answer now well e =
    let row = if_some (is_directory (kind_of t (part ∷ parts))) _ _ e in
    elim (by_filled (is_filled t (part ∷ parts)) t (without t (part ∷ parts)) now answer row.1)
    as (λ _. IsWellFormed now) [
      | inl same ↦ subst IsWellFormed same well
      | inr gone ↦ subst IsWellFormed gone.1 (removed_dir-IsWellFormed t (part ∷ parts) well
          (directory-name t part parts (directory_kind (kind_of t (part ∷ parts)) row.0)) gone.0)
    ]
