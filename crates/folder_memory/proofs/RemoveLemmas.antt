-- A name that goes, and its bytes with it.
use Rattle.std.proofs.Common.{◌≡◌, ◌==◌, ◌&&◌, not, ℕ, Bool, true, false, if◌then◌else◌, refl, ap, sym, ◌∙◌, subst}
use Rattle.std.proofs.Common.{unwrap_or, Some}
use Rattle.std.specs.FinMap as map
use Rattle.folder_tree.specs.Paths.{Parts}
use Rattle.folder_tree.specs.Tree.{Tree, IsWellFormed, number_at}
use Rattle.folder_tree.specs.TreeOps.{dropped, is_named, without}
use Rattle.folder_tree.specs.RemoveLaws.{file-name, removed-IsWellFormed}
use Rattle.folder_memory.specs.Names.{names_tree}
use Rattle.folder_memory.proofs.TreeLemmas.{Names, Bytes, Opens, tree}

inside : (b : Bool) (names : Names) (gone kept : Bytes) (opens : Opens)
    → tree names (if b then gone else kept) opens ≡ (if b then tree names gone opens else tree names kept opens)
inside true names gone kept opens = refl
inside false names gone kept opens = refl

pub removed-tree : (names gone : Names) (contents kept : Bytes) (opens : Opens) (t : Tree) (path : Parts) (number : ℕ)
    (b : Bool) → tree names contents opens ≡ t → gone ≡ map.remove names path
    → b ≡ (unwrap_or (map.get opens number) 0 == 0 && not (is_named (names_tree gone) number))
    → kept ≡ (if b then map.remove contents number else contents)
    → tree gone kept opens ≡ dropped (without t path) number
removed-tree names gone contents kept opens t path number b is left test stays =
    let same : b ≡ (unwrap_or (map.get opens number) 0 == 0
    && not (is_named (names_tree (map.remove names path)) number)) = test
    ∙ ap (λ n. unwrap_or (map.get opens number) 0 == 0 && not (is_named (names_tree n) number)) left in
    ap (λ n. tree n kept opens) left ∙ ap (λ c. tree (map.remove names path) c opens) stays
    ∙ inside b (map.remove names path) (map.remove contents number) contents opens
    ∙ ap (λ l. if l then tree (map.remove names path) (map.remove contents number) opens
    else tree (map.remove names path) contents opens) same
    ∙ ap (λ v. dropped (without v path) number) is

pub removed-well : (names gone : Names) (contents kept : Bytes) (opens : Opens) (t : Tree) (path : Parts) (number : ℕ)
    (b : Bool) → tree names contents opens ≡ t → gone ≡ map.remove names path
    → b ≡ (unwrap_or (map.get opens number) 0 == 0 && not (is_named (names_tree gone) number))
    → kept ≡ (if b then map.remove contents number else contents)
    → IsWellFormed (tree names contents opens) → number_at t path ≡ Some number → IsWellFormed (tree gone kept opens)
removed-well names gone contents kept opens t path number b is left test stays well file =
    subst IsWellFormed (sym (removed-tree names gone contents kept opens t path number b is left test stays))
    (removed-IsWellFormed t path number (subst IsWellFormed is well) (file-name t path number file))
