-- The rows that change a tree keep it well formed.
use Rattle.std.specs.Prelude.{◌≡◌, ◌<◌, ℕ, ◌+◌, ◌-◌, ◌^◌, Bool, true, false, cond, ◌&&◌}
use Rattle.std.specs.Prelude.{nat_lt, if◌then◌else◌, List, [], ◌∷◌, ◌++◌, length, take, drop, replicate, Option, Some}
use Rattle.std.specs.Prelude.{None, IsSome, is_some, unwrap_or}
use Rattle.std.proofs.Common.{ap, sym, ◌∙◌, refl, subst, arith, inl, inr, length-take, length-drop, length-append}
use Rattle.std.specs.FinMap as map
use Rattle.std.specs.FinMap.{get-insert}
use Rattle.std.specs.Cmp.{nat_cmp_total, eq_by_cmp_equiv}
use Rattle.std.specs.Cmp.Lexicographic.{lists_total, nat_list_cmp_total}
use Rattle.std.specs.Ordering.{nat_cmp, eq_by_cmp}
use Rattle.std.proofs.lemmas.List.{length-replicate}
use Rattle.std.proofs.lemmas.Bool.{cases_Bool, ltb-true}
use Rattle.folder_tree.specs.Paths.{Parts, parts_cmp}
use Rattle.folder_tree.specs.Tree.{Entry, directory, stored, Tree, Found, entry, nothing, no_parent, under_file}
use Rattle.folder_tree.specs.Tree.{found_from, found_at, kind_found, kind_of, opens_of, bytes_of, HasParents, IsHeld}
use Rattle.folder_tree.specs.Tree.{IsWellFormed}
use Rattle.folder_tree.specs.TreeOps.{After, holding, is_free, sized, written, is_writable, write_row, set_size_row}
use Rattle.folder_tree.specs.TreeOps.{named, with_file, created, create_row, make_dir_row, least_free}
use Rattle.folder_tree.specs.Laws.{Keeps, same_number, same_path, found_at-names, opened-IsWellFormed}
use Rattle.folder_tree.specs.declared.folder.PathKind.{PathKind}
use Rattle.folder_tree.specs.declared.folder.PathKind.TheVariants.{Directory, File, Free, NoParent, UnderFile}

some_cond : {X : Type 0} (b : Bool) (x : X) (o : Option X) → IsSome o → IsSome (cond b (Some x) o)
some_cond true x o some = refl
some_cond false x o some = some

some_cases : {X : Type 0} (P : Type 0) (b : Bool) (x : X) (o : Option X) → (b ≡ true → P) → (b ≡ false → IsSome o → P)
    → IsSome (cond b (Some x) o) → P
some_cases P true x o here there some = here refl
some_cases P false x o here there some = there refl some

value_cases : {X : Type 0} (P : X → Type 0) (b : Bool) (x : X) (o : Option X) (y : X) → P x → (o ≡ Some y → P y)
    → cond b (Some x) o ≡ Some y → P y
value_cases P true x o y new old e = let same : x ≡ y = cc in subst P same new
value_cases P false x o y new old e = old e

is_open : (o : Option ℕ) → 0 < unwrap_or o 0 → IsSome o
is_open None above = absurd (omega arith)
is_open (Some count) above = refl

-- ---- other bytes of an open number

pub holding-IsWellFormed : (t : Tree) (number : ℕ) (bytes : List ℕ) → IsWellFormed t → 0 < opens_of t number
    → length bytes < 2 ^ 64 → IsWellFormed (holding t number bytes)
holding-IsWellFormed t number bytes well above small =
    let at : (m : ℕ) → map.get (holding t number bytes).bytes m
    ≡ cond (eq_by_cmp nat_cmp m number) (Some bytes) (map.get t.bytes m) =
    λ m. get-insert nat_cmp_total t.bytes number bytes m in
    let Has : Option (List ℕ) → Type 0 = λ o. IsSome o in
    record {
      root = well.root;
      parents = λ above' part some. found_at-names t (holding t number bytes) above' refl
          ∙ well.parents above' part some;
      held = λ m holds. subst Has (sym (at m)) (some_cond (eq_by_cmp nat_cmp m number) bytes (map.get t.bytes m)
          (well.held m holds));
      holders = λ m has. some_cases (IsHeld t m) (eq_by_cmp nat_cmp m number) bytes (map.get t.bytes m)
          (λ same. inr (let P : ℕ → Type 0 = λ k. IsSome (map.get t.opens k) in
          subst P (sym (same_number m number same)) (is_open (map.get t.opens number) above)))
          (λ _ before. well.holders m before) (subst Has (at m) has);
      sizes = λ m b e. value_cases (λ b. length b < 2 ^ 64) (eq_by_cmp nat_cmp m number) bytes (map.get t.bytes m) b
          small (well.sizes m b) (sym (at m) ∙ e);
      counts = well.counts;
    }

size_of : (o : Option (List ℕ)) → ((b : List ℕ) → o ≡ Some b → length b < 2 ^ 64) → length (unwrap_or o []) < 2 ^ 64
size_of None small = omega arith
size_of (Some b) small = small b refl

pub bytes-small : (t : Tree) (number : ℕ) → IsWellFormed t → length (bytes_of t number) < 2 ^ 64
bytes-small t number well = size_of (map.get t.bytes number) (well.sizes number)

-- so many bytes
pub length-sized : (size : ℕ) (bytes : List ℕ) → length (sized size bytes) ≡ size
length-sized size bytes =
    length-append (take size bytes) (replicate (size - length bytes) 0)
    ∙ omega (arith, length-take size bytes, length-replicate {A = ℕ} (size - length bytes) 0)

-- the end of what was written, or of what was there
pub length-written : (at : ℕ) (new bytes : List ℕ)
    → length (written at new bytes) ≡ at + (length new + (length bytes - (at + length new)))
length-written at new bytes =
    length-append (sized at bytes) (new ++ drop (at + length new) bytes)
    ∙ omega (
      arith,
      length-sized at bytes,
      length-append new (drop (at + length new) bytes),
      length-drop
          (at + length new) bytes,
    )

pub if_some : {X : Type 0} (b : Bool) (row : Option X) (x : X) → (if b then row else None) ≡ Some x
    → (b ≡ true) × (row ≡ Some x)
if_some true row x e = (refl, e)
if_some false row x e = absurd (let no : ⊥ = cc in no)

pub tree_of : {A : Type 0} (answer answer' : A) (tree now : Tree)
    → ◌≡◌ {A = Option (After A)} (Some (record { answer = answer; tree = tree }))
    (Some (record { answer = answer'; tree = now })) → tree ≡ now
tree_of {A} answer answer' tree now e = ap (tree_in tree) e
  where
    tree_in : Tree → Option (After A) → Tree
    tree_in t None = t
    tree_in t (Some a) = a.tree

both : (a b : Bool) → (a && b) ≡ true → (a ≡ true) × (b ≡ true)
both true b e = (refl, e)
both false b e = absurd (let no : ⊥ = cc in no)

-- to write keeps a tree well formed
pub write_row-Keeps : (number at : ℕ) (new : List ℕ) → Keeps (write_row number at new)
write_row-Keeps number at new t answer now well e =
    let opens = if_some (nat_lt 0 (opens_of t number)) _ _ e in
    let fits = if_some (is_writable at new) _ _ opens.1 in
    let end : at + length new < 2 ^ 63 =
    ltb-true (at + length new) (2 ^ 63) (both (nat_lt 0 (length new)) (nat_lt (at + length new) (2 ^ 63))
    fits.0).1 in
    subst IsWellFormed (tree_of tt answer (holding t number (written at new (bytes_of t number))) now fits.1)
    (holding-IsWellFormed t number (written at new (bytes_of t number)) well (ltb-true 0 (opens_of t number) opens.0)
    (omega (arith, end, length-written at new (bytes_of t number), bytes-small t number well)))

-- and so does a size below 2^64
pub set_size_row-Keeps : (number size : ℕ) → size < 2 ^ 64 → Keeps (set_size_row number size)
set_size_row-Keeps number size small t answer now well e =
    let opens = if_some (nat_lt 0 (opens_of t number)) _ _ e in
    subst IsWellFormed (tree_of tt answer (holding t number (sized size (bytes_of t number))) now opens.1)
    (holding-IsWellFormed t number (sized size (bytes_of t number)) well (ltb-true 0 (opens_of t number) opens.0)
    (omega (arith, small, length-sized size (bytes_of t number))))

-- ---- the way to a path

-- a directory is still found where each name that was one is one
pub dirs-stay : (t s : Tree) (above : Parts) (here there : Option Entry) (path : Parts)
    → ((p : Parts) → map.get t.names p ≡ Some directory → map.get s.names p ≡ Some directory)
    → (here ≡ Some directory → there ≡ Some directory) → found_from t above here path ≡ entry directory
    → found_from s above there path ≡ entry directory
dirs-stay t s above None there [] stay same e = cc
dirs-stay t s above (Some directory) there [] stay same e = ap (λ h. found_from s above h []) (same refl)
dirs-stay t s above (Some (stored n)) there [] stay same e = cc
dirs-stay t s above None there (part ∷ below) stay same e = cc
dirs-stay t s above (Some (stored n)) there (part ∷ below) stay same e = cc
dirs-stay t s above (Some directory) there (part ∷ below) stay same e =
    ap (λ h. found_from s above h (part ∷ below)) (same refl)
    ∙ dirs-stay t s (above ++ part ∷ []) (map.get t.names (above ++ part ∷ [])) (map.get s.names (above ++ part ∷ []))
    below stay (stay (above ++ part ∷ [])) e

-- nothing is found only in a directory
free-parent : (t : Tree) (above : Parts) (here : Option Entry) (path : Parts) (part : List ℕ)
    → found_from t above here (path ++ part ∷ []) ≡ nothing → found_from t above here path ≡ entry directory
free-parent t above None [] part e = cc
free-parent t above (Some directory) [] part e = refl
free-parent t above (Some (stored n)) [] part e = cc
free-parent t above None (p ∷ path) part e = cc
free-parent t above (Some (stored n)) (p ∷ path) part e = cc
free-parent t above (Some directory) (p ∷ path) part e =
    free-parent t (above ++ p ∷ []) (map.get t.names (above ++ p ∷ [])) path part e

append_assoc' : (a : Parts) (p : List ℕ) (b : Parts) → (a ++ p ∷ []) ++ b ≡ a ++ p ∷ b
append_assoc' [] p b = refl
append_assoc' (x ∷ a) p b = ap (λ rest. x ∷ rest) (append_assoc' a p b)

append_nil : (a : Parts) → a ++ [] ≡ a
append_nil [] = refl
append_nil (x ∷ a) = ap (λ rest. x ∷ rest) (append_nil a)

-- and no name stands there
free-none : (t : Tree) (above : Parts) (here : Option Entry) (path : Parts) → (path ≡ [] → map.get t.names above ≡ here)
    → found_from t above here path ≡ nothing → map.get t.names (above ++ path) ≡ None
free-none t above None [] is e = ap (map.get t.names) (append_nil above) ∙ is refl
free-none t above (Some x) [] is e = cc
free-none t above None (p ∷ path) is e = cc
free-none t above (Some (stored n)) (p ∷ path) is e = cc
free-none t above (Some directory) (p ∷ path) is e =
    ap (map.get t.names) (sym (append_assoc' above p path))
    ∙ free-none t (above ++ p ∷ []) (map.get t.names (above ++ p ∷ [])) path (λ _. refl) e

kind_nothing : (found : Found) → kind_found found ≡ Free → found ≡ nothing
kind_nothing (entry directory) e = cc
kind_nothing (entry (stored n)) e = cc
kind_nothing nothing e = refl
kind_nothing no_parent e = cc
kind_nothing under_file e = cc

root_not : (path : Parts) (t : Tree) → kind_of t path ≡ Free → path ≡ [] → ⊥
root_not [] t free e = cc
root_not (p ∷ path) t free e = cc

pub free-name : (t : Tree) (path : Parts) → kind_of t path ≡ Free → map.get t.names path ≡ None
free-name t [] free = cc
free-name t (p ∷ path) free =
    free-none t [] (Some directory) (p ∷ path) (λ e. let no : ⊥ = cc in absurd no)
    (kind_nothing (found_at t (p ∷ path)) free)

same_refl : (p q : Parts) → p ≡ q → eq_by_cmp parts_cmp p q ≡ true
same_refl p q e = ap (eq_by_cmp parts_cmp p) (sym e) ∙ (eq_by_cmp_equiv (lists_total nat_list_cmp_total)).refl p

cond_stays : {X : Type 0} (b : Bool) (x : X) (o : Option X) (y : X) → (b ≡ true → o ≡ None) → o ≡ Some y
    → cond b (Some x) o ≡ Some y
cond_stays true x o y none e = absurd (let no : None ≡ Some y = sym (none refl) ∙ e in let bad : ⊥ = cc in bad)
cond_stays false x o y none e = e

-- names that were there stay
pub name-stays : (t : Tree) (path : Parts) (new : Entry) (p : Parts) (e : Entry) → kind_of t path ≡ Free
    → map.get t.names p ≡ Some e → map.get (named t path new).names p ≡ Some e
name-stays t path new p e free is =
    get-insert (lists_total nat_list_cmp_total) t.names path new p
    ∙ cond_stays (eq_by_cmp parts_cmp p path) new (map.get t.names p) e
    (λ same. ap (map.get t.names) (same_path p path same) ∙ free-name t path free) is

pub named-HasParents : (t : Tree) (path : Parts) (new : Entry) → IsWellFormed t → kind_of t path ≡ Free
    → HasParents (named t path new)
named-HasParents t path new well free =
    let Some_entry : Option Entry → Type 0 = λ o. IsSome o in
    let stay : (above : Parts) → found_at t above ≡ entry directory
    → found_at (named t path new) above ≡ entry directory =
    λ above e. dirs-stay t (named t path new) [] (Some directory) (Some directory) above
    (λ p is. name-stays t path new p directory free is) (λ same. same) e in
    record {
      root = get-insert (lists_total nat_list_cmp_total) t.names path new []
          ∙ elim (cases_Bool (eq_by_cmp parts_cmp [] path))
          as (λ _. cond (eq_by_cmp parts_cmp [] path) (Some new) (map.get t.names []) ≡ None) [
            | inl same ↦ absurd (root_not path t free (sym (same_path [] path same)))
            | inr other ↦ ap (λ b. cond b (Some new) (map.get t.names [])) other ∙ well.root
          ];
      parents = λ above part some. stay above (some_cases (found_at t above ≡ entry directory)
          (eq_by_cmp parts_cmp (above ++ part ∷ []) path) new (map.get t.names (above ++ part ∷ []))
          (λ same. free-parent t [] (Some directory) above part
          (kind_nothing (found_at t (above ++ part ∷ []))
          (ap (kind_of t) (same_path (above ++ part ∷ []) path same) ∙ free)))
          (λ _ before. well.parents above part before)
          (subst Some_entry (get-insert (lists_total nat_list_cmp_total) t.names path new (above ++ part ∷ [])) some));
    }

-- ---- new names

pub free_kind : (kind : PathKind) → is_free kind ≡ true → kind ≡ Free
free_kind Directory e = cc
free_kind File e = cc
free_kind Free e = refl
free_kind NoParent e = cc
free_kind UnderFile e = cc

not_directory : (b : Bool) (o : Option Entry) (m : ℕ) → cond b (Some directory) o ≡ Some (stored m)
    → o ≡ Some (stored m)
not_directory true o m e = absurd (let no : ⊥ = cc in no)
not_directory false o m e = e

pub with_directory-IsWellFormed : (t : Tree) (path : Parts) → IsWellFormed t → kind_of t path ≡ Free
    → IsWellFormed (named t path directory)
with_directory-IsWellFormed t path well free =
    let up = named-HasParents t path directory well free in
    record {
      root = up.root;
      parents = up.parents;
      held = λ m holds. elim holds as (λ _. IsSome (map.get t.bytes m)) [
        | inl name ↦ well.held m (inl (
          name.0,
          not_directory (eq_by_cmp parts_cmp name.0 path) (map.get t.names name.0)
              m (sym (get-insert (lists_total nat_list_cmp_total) t.names path directory name.0) ∙ name.1),
        ))
        | inr some ↦ well.held m (inr some)
      ];
      holders = λ m has. elim (well.holders m has) as (λ _. IsHeld (named t path directory) m) [
        | inl name ↦ inl (name.0, name-stays t path directory name.0 (stored m) free name.1)
        | inr some ↦ inr some
      ];
      sizes = well.sizes;
      counts = well.counts;
    }

-- to make a directory keeps a tree well formed
pub make_dir_row-Keeps : (path : Parts) → Keeps (make_dir_row path)
make_dir_row-Keeps path t answer now well e =
    let parts = if_some (is_free (kind_of t path)) _ _ e in
    subst IsWellFormed (tree_of tt answer (named t path directory) now parts.1)
    (with_directory-IsWellFormed t path well (free_kind (kind_of t path) parts.0))

other_file : (b : Bool) (n m : ℕ) (o : Option Entry) → (n ≡ m → ⊥) → cond b (Some (stored n)) o ≡ Some (stored m)
    → o ≡ Some (stored m)
other_file true n m o apart e = let same : n ≡ m = cc in absurd (apart same)
other_file false n m o apart e = e

number_refl : (m n : ℕ) → eq_by_cmp nat_cmp m n ≡ false → n ≡ m → ⊥
number_refl m n other same =
    let both : true ≡ false =
    sym ((eq_by_cmp_equiv nat_cmp_total).refl m) ∙ ap (eq_by_cmp nat_cmp m) (sym same) ∙ other in let no : ⊥ = cc in
    no

-- a new file keeps a tree well formed
pub with_file-IsWellFormed : (t : Tree) (path : Parts) (number : ℕ) (bytes : List ℕ) → IsWellFormed t
    → kind_of t path ≡ Free → length bytes < 2 ^ 64 → IsWellFormed (with_file t path number bytes)
with_file-IsWellFormed t path number bytes well free small =
    let up = named-HasParents t path (stored number) well free in
    let at : (m : ℕ) → map.get (with_file t path number bytes).bytes m
    ≡ cond (eq_by_cmp nat_cmp m number) (Some bytes) (map.get t.bytes m) =
    λ m. get-insert nat_cmp_total t.bytes number bytes m in
    let name_at : (p : Parts) → map.get (with_file t path number bytes).names p
    ≡ cond (eq_by_cmp parts_cmp p path) (Some (stored number)) (map.get t.names p) =
    λ p. get-insert (lists_total nat_list_cmp_total) t.names path (stored number) p in
    let Has : Option (List ℕ) → Type 0 = λ o. IsSome o in
    record {
      root = up.root;
      parents = λ above part some. found_at-names (named t path (stored number)) (with_file t path number bytes) above
          refl ∙ up.parents above part some;
      held = λ m holds. subst Has (sym (at m)) (elim (cases_Bool (eq_by_cmp nat_cmp m number))
          as (λ _. IsSome (cond (eq_by_cmp nat_cmp m number) (Some bytes) (map.get t.bytes m))) [
            | inl same ↦ ap (λ b. is_some (cond b (Some bytes) (map.get t.bytes m))) same
            | inr other ↦ some_cond (eq_by_cmp nat_cmp m number) bytes (map.get t.bytes m)
                (elim holds as (λ _. IsSome (map.get t.bytes m)) [
                  | inl name ↦ well.held m (inl (
                    name.0,
                    other_file (eq_by_cmp parts_cmp name.0 path) number m
                        (map.get t.names name.0) (number_refl m number other) (sym (name_at name.0) ∙ name.1),
                  ))
                  | inr some ↦ well.held m (inr some)
                ])
          ]);
      holders = λ m has. some_cases (IsHeld (with_file t path number bytes) m) (eq_by_cmp nat_cmp m number) bytes
          (map.get t.bytes m)
          (λ same. inl (
            path,
            name_at path ∙ ap (λ b. cond b (Some (stored number)) (map.get t.names path))
                (same_refl path path refl) ∙ ap (λ k. Some (stored k)) (sym (same_number m number same)),
          ))
          (λ _ before. elim (well.holders m before) as (λ _. IsHeld (with_file t path number bytes) m) [
            | inl name ↦ inl (name.0, name-stays t path (stored number) name.0 (stored m) free name.1)
            | inr some ↦ inr some
          ]) (subst Has (at m) has);
      sizes = λ m b e. value_cases (λ b. length b < 2 ^ 64) (eq_by_cmp nat_cmp m number) bytes (map.get t.bytes m) b
          small (well.sizes m b) (sym (at m) ∙ e);
      counts = well.counts;
    }

pub created-IsWellFormed : (t : Tree) (path : Parts) → IsWellFormed t → kind_of t path ≡ Free
    → IsWellFormed (created t path)
created-IsWellFormed t path well free =
    let number : ℕ = least_free t.bytes in
    let Has : Option (List ℕ) → Type 0 = λ o. IsSome o in
    opened-IsWellFormed (with_file t path number []) number
    (with_file-IsWellFormed t path number [] well free (omega arith))
    (subst Has (sym (get-insert nat_cmp_total t.bytes number [] number))
    (ap (λ b. is_some (cond b (Some []) (map.get t.bytes number))) ((eq_by_cmp_equiv nat_cmp_total).refl number)))

-- to create a file keeps a tree well formed
pub create_row-Keeps : (path : Parts) → Keeps (create_row path)
create_row-Keeps path t answer now well e =
    let parts = if_some (is_free (kind_of t path)) _ _ e in
    subst IsWellFormed (tree_of (least_free t.bytes) answer (created t path) now parts.1)
    (created-IsWellFormed t path well (free_kind (kind_of t path) parts.0))
