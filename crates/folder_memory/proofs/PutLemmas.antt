-- A new file, and how it is taken back.
use Rattle.std.proofs.Common.{◌≡◌, ◌<◌, ◌^◌, ◌+◌, ℕ, Bool, true, false, cond, List, [], length, refl, ap, sym, ◌∙◌}
use Rattle.std.proofs.Common.{subst, unwrap_or, Option, Some, None, Result, Ok, Err, OnOk, OnErr}
use Rattle.std.specs.Prelude.{is_err}
use Rattle.std.specs.FinMap as map
use Rattle.std.specs.FinMap.{same_map, get-insert, get-remove, nat_cmp-IsAntisymmetric}
use Rattle.std.specs.Ordering.{nat_cmp, eq_by_cmp}
use Rattle.std.specs.Cmp.{nat_cmp_total}
use Rattle.folder_tree.specs.Paths.{Parts, parts_cmp}
use Rattle.folder_tree.specs.Tree.{Entry, stored, Tree, IsWellFormed, kind_of}
use Rattle.folder_tree.specs.TreeOps.{with_file, created, opened, least_free}
use Rattle.folder_tree.specs.Laws.{same_number, same_path}
use Rattle.folder_tree.specs.FreeNumbers.{least_free-IsFreeNumber}
use Rattle.folder_tree.specs.RowLaws.{with_file-IsWellFormed, created-IsWellFormed, free-name}
use Rattle.folder_tree.specs.declared.folder.PathKind.TheVariants.{Free}
use Rattle.folder_memory.proofs.NameLemmas.{parts_total, parts_antisymmetric}
use Rattle.folder_memory.proofs.TreeLemmas.{Names, Bytes, Opens, tree}

pub on_err : {A E : Type 0} (r : Result A E) (P : Type 0) → is_err r ≡ true → OnErr r P → P
on_err (Ok a) P e held = absurd (let none : ⊥ = cc in none)
on_err (Err x) P e held = held

pub on_ok : {A E : Type 0} (r : Result A E) (P : Type 0) → is_err r ≡ false → OnOk r P → P
on_ok (Ok a) P e held = held
on_ok (Err x) P e held = absurd (let none : ⊥ = cc in none)

back : {X : Type 0} (b : Bool) (x : X) (o : Option X) → (b ≡ true → o ≡ None) → cond b None (cond b (Some x) o) ≡ o
back true x o none = sym (none refl)
back false x o none = refl

pub bytes-back : (m : Bytes) (n : ℕ) (b : List ℕ) → map.get m n ≡ None → map.remove (map.insert m n b) n ≡ m
bytes-back m n b none = same_map nat_cmp_total nat_cmp-IsAntisymmetric (map.remove (map.insert m n b) n) m (λ q.
    get-remove nat_cmp_total (map.insert m n b) n q
    ∙ ap (cond (eq_by_cmp nat_cmp q n) None) (get-insert nat_cmp_total m n b q)
    ∙ back (eq_by_cmp nat_cmp q n) b (map.get m q) (λ same. ap (map.get m) (same_number q n same) ∙ none))

pub names-back : (m : Names) (p : Parts) (e : Entry) → map.get m p ≡ None → map.remove (map.insert m p e) p ≡ m
names-back m p e none = same_map parts_total parts_antisymmetric (map.remove (map.insert m p e) p) m (λ q.
    get-remove parts_total (map.insert m p e) p q
    ∙ ap (cond (eq_by_cmp parts_cmp q p) None) (get-insert parts_total m p e q)
    ∙ back (eq_by_cmp parts_cmp q p) e (map.get m q) (λ same. ap (map.get m) (same_path q p same) ∙ none))

pub free-bytes : (contents : Bytes) (n : ℕ) → n ≡ least_free contents → map.get contents n ≡ None
free-bytes contents n is = ap (map.get contents) is ∙ (least_free-IsFreeNumber (tree map.empty contents map.empty)).free

-- a number that was added and taken back leaves all as it was
pub put-back : (names names2 : Names) (contents added gone : Bytes) (opens : Opens) (n : ℕ) (b : List ℕ)
    → n ≡ least_free contents → names2 ≡ names → added ≡ map.insert contents n b → gone ≡ map.remove added n
    → tree names2 gone opens ≡ tree names contents opens
put-back names names2 contents added gone opens n b free same made removed =
    ap (λ m. tree m gone opens) same ∙ ap (λ c. tree names c opens)
    (removed ∙ ap (λ m. map.remove m n) made ∙ bytes-back contents n b (free-bytes contents n free))

pub put-well : (names names2 : Names) (contents added : Bytes) (opens : Opens) (t : Tree) (path : Parts) (n : ℕ)
    (b : List ℕ) → tree names contents opens ≡ t → IsWellFormed (tree names contents opens) → kind_of t path ≡ Free
    → length b < 2 ^ 64 → names2 ≡ map.insert names path (stored n) → added ≡ map.insert contents n b
    → IsWellFormed (tree names2 added opens)
put-well names names2 contents added opens t path n b is well free small named made =
    let u : Tree = tree names contents opens in
    let all : tree names2 added opens ≡ with_file u path n b =
    ap (λ m. tree m added opens) named ∙ ap (λ c. tree (map.insert names path (stored n)) c opens) made in
    subst IsWellFormed (sym all) (with_file-IsWellFormed u path n b well (ap (λ v. kind_of v path) is ∙ free) small)

-- and a new file that can't be opened is taken back
pub create-back : (names gone_names : Names) (contents gone : Bytes) (opens now : Opens) (t : Tree) (path : Parts)
    (n : ℕ) (b : List ℕ) → tree names contents opens ≡ with_file t path (least_free t.bytes) b
    → n ≡ least_free t.bytes → kind_of t path ≡ Free → gone_names ≡ map.remove names path → gone ≡ map.remove contents n
    → now ≡ opens → tree gone_names gone now ≡ t
create-back names gone_names contents gone opens now t path n b is free kind names_gone bytes_gone same =
    let all_names : gone_names ≡ t.names =
    names_gone ∙ ap (λ (u : Tree). map.remove u.names path) is
    ∙ names-back t.names path (stored (least_free t.bytes)) (free-name t path kind) in
    let all_bytes : gone ≡ t.bytes =
    bytes_gone ∙ ap (map.remove contents) free ∙ ap (λ (u : Tree). map.remove u.bytes (least_free t.bytes)) is
    ∙ bytes-back t.bytes (least_free t.bytes) b (free-bytes t.bytes (least_free t.bytes) refl) in
    let all_opens : now ≡ t.opens = same ∙ ap (λ (u : Tree). u.opens) is in
    ap (λ m. tree m gone now) all_names ∙ ap (λ c. tree t.names c now) all_bytes
    ∙ ap (λ o. tree t.names t.bytes o) all_opens

pub well-back : (u t : Tree) (v : Tree) → u ≡ t → v ≡ t → IsWellFormed v → IsWellFormed u
well-back u t v e f well = subst IsWellFormed (f ∙ sym e) well

pub created-well : (names : Names) (contents : Bytes) (opens now : Opens) (t v : Tree) (path : Parts) (n : ℕ)
    (b : List ℕ) → tree names contents opens ≡ with_file t path (least_free t.bytes) b → b ≡ []
    → v ≡ t → IsWellFormed v → n ≡ least_free t.bytes → kind_of t path ≡ Free
    → now ≡ map.insert opens n (unwrap_or (map.get opens n) 0 + 1) → IsWellFormed (tree names contents now)
created-well names contents opens now t v path n b is empty same well free kind made =
    let full : tree names contents opens ≡ with_file t path (least_free t.bytes) [] =
    is ∙ ap (with_file t path (least_free t.bytes)) empty in
    let opens_now : now ≡ map.insert opens (least_free t.bytes) (unwrap_or (map.get opens (least_free t.bytes)) 0 + 1) =
    made ∙ ap (λ k. map.insert opens k (unwrap_or (map.get opens k) 0 + 1)) free in
    let all : tree names contents now ≡ created t path =
    ap (λ o. tree names contents o) opens_now ∙ ap (λ u. opened u (least_free t.bytes)) full in
    subst IsWellFormed (sym all) (created-IsWellFormed t path (subst IsWellFormed same well) kind)
