-- The names of a tree decide kinds and numbers.
use Rattle.std.proofs.Common.{◌≡◌, refl, ap, sym, ◌∙◌, subst, false, true, arith, length, Some, None, Option, IsSome}
use Rattle.std.proofs.Common.{unwrap_or, ℕ, List, [], ◌∷◌}
use Rattle.std.specs.FinMap as map
use Rattle.folder_tree.specs.Paths.{Parts, parts_of, path_text}
use Rattle.folder_memory.specs.Folder.{is_inner_directory}
use Rattle.folder_tree.specs.Tree.{HasParents, IsWellFormed, Tree, kind_found, file_of, kind_of, number_at}
use Rattle.folder_tree.specs.Tree.{number_found}
use Rattle.folder_tree.specs.TreeOps.{is_directory, is_filled, without}
use Rattle.folder_tree.specs.Laws.{file_of-number, found_at-names, named-bytes, number_at-named}
use Rattle.folder_tree.specs.RemoveDirLaws.{directory_kind, directory-name, removed_dir-IsWellFormed}
use Rattle.folder_tree.specs.declared.folder.PathKind.TheVariants.{Directory}
use Rattle.folder_memory.specs.Names.{names_tree}
use Rattle.folder_memory.proofs.TreeLemmas.{Names, Bytes, Opens, tree}

-- a well-formed tree has its parents in its names
pub names-HasParents : (names : Names) (contents : Bytes) (opens : Opens) → IsWellFormed (tree names contents opens)
    → HasParents (names_tree names)
names-HasParents names contents opens well = record {
  root = well.root;
  parents = λ above part some. found_at-names (tree names contents opens) (names_tree names) above refl
      ∙ well.parents above part some;
}

-- kinds are those of the names
pub names-kind : (names : Names) (contents : Bytes) (opens : Opens) (t : Tree) (path : Parts)
    → tree names contents opens ≡ t → kind_of (names_tree names) path ≡ kind_of t path
names-kind names contents opens t path is =
    ap kind_found (found_at-names (tree names contents opens) (names_tree names) path refl)
    ∙ ap (λ u. kind_of u path) is

-- and so are numbers
pub names-number : (names : Names) (contents : Bytes) (opens : Opens) (t : Tree) (path : Parts)
    → tree names contents opens ≡ t → number_at (names_tree names) path ≡ number_at t path
names-number names contents opens t path is =
    ap number_found (found_at-names (tree names contents opens) (names_tree names) path refl)
    ∙ ap (λ u. number_at u path) is

some_bytes : (o : Option (List ℕ)) → IsSome o → o ≡ Some (unwrap_or o [])
some_bytes None some = cc
some_bytes (Some bytes) some = refl

-- a file holds what its number holds
pub file-bytes : (t : Tree) (path : Parts) (number : ℕ) → IsWellFormed t → number_at t path ≡ Some number
    → map.get t.bytes number ≡ file_of t path
file-bytes t path number well is =
    some_bytes (map.get t.bytes number) (named-bytes t number well (number_at-named t path number is))
    ∙ sym (file_of-number t path number is)

removed_by : (t : Tree) (path : Parts) → (path ≡ [] → ⊥) → IsWellFormed t → kind_of t path ≡ Directory
    → is_filled t path ≡ false → IsWellFormed (without t path)
removed_by t [] some well dir empty = absurd (some refl)
removed_by t (part ∷ parts) some well dir empty =
    removed_dir-IsWellFormed t (part ∷ parts) well (directory-name t part parts dir) empty

-- an empty directory goes
pub removed_dir-well : (names gone : Names) (contents : Bytes) (opens : Opens) (t : Tree) (path : Parts)
    → tree names contents opens ≡ t → IsWellFormed (tree names contents opens) → (path ≡ [] → ⊥)
    → kind_of t path ≡ Directory → is_filled (names_tree names) path ≡ false → gone ≡ map.remove names path
    → IsWellFormed (tree gone contents opens)
removed_dir-well names gone contents opens t path is well some dir empty left =
    let P : Names → Type 0 = λ n. IsWellFormed (tree n contents opens) in
    subst P (sym left) (removed_by (tree names contents opens) path some well (ap (λ u. kind_of u path) is ∙ dir) empty)

-- ---- a directory that is not the root

pub inner-parts : (t : Tree) (path : Parts) → is_inner_directory t path ≡ true → path ≡ [] → ⊥
inner-parts t [] inner e = cc
inner-parts t (part ∷ parts) inner e = cc

pub inner-kind : (t : Tree) (path : Parts) → is_inner_directory t path ≡ true → kind_of t path ≡ Directory
inner-kind t [] inner = cc
inner-kind t (part ∷ parts) inner = directory_kind (kind_of t (part ∷ parts)) inner

-- what a test of the text and of the kind says
pub inner-root : (t : Tree) (path : Parts) (text : List ℕ) → text ≡ path_text path → parts_of text ≡ path
    → length text ≡ 0 → false ≡ is_inner_directory t path
inner-root t path [] is parts none = ap (is_inner_directory t) parts
inner-root t path (byte ∷ text) is parts none = absurd (omega arith)

pub inner-other : (t : Tree) (path : Parts) (text : List ℕ) → text ≡ path_text path → (length text ≡ 0 → ⊥)
    → is_directory (kind_of t path) ≡ is_inner_directory t path
inner-other t [] text is filled = absurd (filled (ap length is))
inner-other t (part ∷ parts) text is filled = refl
