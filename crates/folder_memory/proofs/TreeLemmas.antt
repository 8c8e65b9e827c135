-- The tree of names, contents and opens stays well formed.
use Rattle.std.proofs.Common.{◌≡◌, ◌<◌, ◌^◌, ◌+◌, ◌==◌, ◌&&◌, not, ℕ, Bool, true, if◌then◌else◌, List, [], length, ap}
use Rattle.std.proofs.Common.{sym, ◌∙◌, subst, arith, unwrap_or}
use Rattle.std.specs.FinMap as map
use Rattle.std.specs.Ordering.{nat_cmp}
use Rattle.folder_tree.specs.Paths.{Parts, parts_cmp}
use Rattle.folder_tree.specs.Tree.{Entry, directory, Tree, empty_tree, IsWellFormed, opens_of, bytes_of, kind_of}
use Rattle.folder_tree.specs.TreeOps.{written, sized, released, fewer_opens, is_named}
use Rattle.folder_tree.specs.Laws.{opened-IsWellFormed, released-IsWellFormed, named-bytes, empty_tree-IsWellFormed}
use Rattle.folder_tree.specs.RowLaws.{holding-IsWellFormed, length-written, length-sized, bytes-small}
use Rattle.folder_tree.specs.RowLaws.{with_directory-IsWellFormed}
use Rattle.folder_tree.specs.declared.folder.PathKind.TheVariants.{Free}

abbrev pub Names : Type 0
Names = map.FinMap parts_cmp Entry

abbrev pub Bytes : Type 0
Bytes = map.FinMap nat_cmp (List ℕ)

abbrev pub Opens : Type 0
Opens = map.FinMap nat_cmp ℕ

abbrev pub tree : Names → Bytes → Opens → Tree
tree names bytes opens = record { names = names; bytes = bytes; opens = opens }

pub written-well : (names : Names) (contents now : Bytes) (opens : Opens) (t : Tree) (number at : ℕ) (new : List ℕ)
    → tree names contents opens ≡ t → IsWellFormed (tree names contents opens)
    → 0 < opens_of t number → at + length new < 2 ^ 63
    → now ≡ map.insert contents number (written at new (unwrap_or (map.get contents number) []))
    → IsWellFormed (tree names now opens)
written-well names contents now opens t number at new is well above end made =
    let u : Tree = tree names contents opens in
    let P : Bytes → Type 0 = λ b. IsWellFormed (tree names b opens) in
    let Open : Tree → Type 0 = λ v. 0 < opens_of v number in
    subst P (sym made) (holding-IsWellFormed u number (written at new (bytes_of u number)) well
    (subst Open (sym is) above)
    (omega (arith, end, length-written at new (bytes_of u number), bytes-small u number well)))

pub fitted-well : (names : Names) (contents now : Bytes) (opens : Opens) (t : Tree) (number size : ℕ)
    → tree names contents opens ≡ t → IsWellFormed (tree names contents opens)
    → 0 < opens_of t number → size < 2 ^ 64 → now
    ≡ map.insert contents number (sized size (unwrap_or (map.get contents number) []))
    → IsWellFormed (tree names now opens)
fitted-well names contents now opens t number size is well above small made =
    let u : Tree = tree names contents opens in
    let P : Bytes → Type 0 = λ b. IsWellFormed (tree names b opens) in
    let Open : Tree → Type 0 = λ v. 0 < opens_of v number in
    subst P (sym made) (holding-IsWellFormed u number (sized size (bytes_of u number)) well (subst Open (sym is) above)
    (omega (arith, small, length-sized size (bytes_of u number))))

pub opened-well : (names : Names) (contents : Bytes) (opens now : Opens) (t : Tree) (number : ℕ)
    → tree names contents opens ≡ t → IsWellFormed (tree names contents opens)
    → is_named t number ≡ true → now ≡ map.insert opens number (unwrap_or (map.get opens number) 0 + 1)
    → IsWellFormed (tree names contents now)
opened-well names contents opens now t number is well name made =
    let u : Tree = tree names contents opens in
    let P : Opens → Type 0 = λ o. IsWellFormed (tree names contents o) in
    subst P (sym made) (opened-IsWellFormed u number well
    (named-bytes u number well (ap (λ v. is_named v number) is ∙ name)))

pub released-well : (names : Names) (contents bytes : Bytes) (opens now : Opens) (t : Tree) (number : ℕ) (last : Bool)
    → tree names contents opens ≡ t → IsWellFormed (tree names contents opens)
    → 0 < opens_of t number → last ≡ (opens_of t number == 1 && not (is_named t number))
    → bytes ≡ (if last then map.remove contents number else contents)
    → now ≡ fewer_opens opens number (unwrap_or (map.get opens number) 0) → IsWellFormed (tree names bytes now)
released-well names contents bytes opens now t number last is well above test kept made =
    let u : Tree = tree names contents opens in
    let Open : Tree → Type 0 = λ v. 0 < opens_of v number in
    let same : last ≡ (opens_of u number == 1 && not (is_named u number)) =
    test ∙ ap (λ v. opens_of v number == 1 && not (is_named v number)) (sym is) in
    let bytes_are : bytes ≡ (released u number).bytes =
    kept ∙ ap (λ l. if l then map.remove contents number else contents) same in
    let all : tree names bytes now ≡ released u number =
    ap (λ b. tree names b now) bytes_are ∙ ap (λ o. tree names (released u number).bytes o) made in
    subst IsWellFormed (sym all) (released-IsWellFormed u number well (subst Open (sym is) above))

pub directory-well : (names now : Names) (contents : Bytes) (opens : Opens) (t : Tree) (path : Parts)
    → tree names contents opens ≡ t → IsWellFormed (tree names contents opens)
    → kind_of t path ≡ Free → now ≡ map.insert names path directory → IsWellFormed (tree now contents opens)
directory-well names now contents opens t path is well free made =
    let u : Tree = tree names contents opens in
    let P : Names → Type 0 = λ n. IsWellFormed (tree n contents opens) in
    subst P (sym made) (with_directory-IsWellFormed u path well (ap (λ v. kind_of v path) is ∙ free))

pub empty-well : (names : Names) (contents : Bytes) (opens : Opens) → names ≡ map.empty → contents ≡ map.empty
    → opens ≡ map.empty → IsWellFormed (tree names contents opens)
empty-well names contents opens n b o =
    let all : tree names contents opens ≡ empty_tree =
    ap (λ m. tree m contents opens) n ∙ ap (λ m. tree map.empty m opens) b
    ∙ ap (λ m. tree map.empty map.empty m) o in
    subst IsWellFormed (sym all) empty_tree-IsWellFormed
