-- Names by the text of their path.
use Rattle.std.specs.Prelude.{◌≡◌, ◌==◌, ◌&&◌, ◌++◌, ℕ, Bool, false, List, [], ◌∷◌, IsSome}
use Rattle.std.specs.FinMap as map
use Rattle.std.specs.Ordering.{nat_cmp}
use Rattle.std.specs.declared.cmp.Ordering.{Ordering}
use Rattle.std.specs.Cmp.Lexicographic.{slice_cmp}
use Rattle.std.specs.BTreeMap as tree
use Rattle.std.specs.BTreeMap.{BTreeMap}
use Rattle.folder_tree.specs.Paths.{Parts, parts_cmp, parts_of, path_text}
use Rattle.folder_tree.specs.Tree.{Entry, directory, stored, Tree}
use Rattle.folder_memory.specs.declared.names.Stood.{Stood}
use Rattle.folder_memory.specs.declared.names.Stood.TheVariants.{Directory, File}

-- the entry of a name
abbrev pub entry_of : Stood → Entry
entry_of Directory = directory
entry_of (File number) = stored number

-- a name is that of this file
abbrev pub is_number : ℕ → Stood → Bool
is_number number Directory = false
is_number number (File other) = number == other

-- a tree of names alone
abbrev pub names_tree : map.FinMap parts_cmp Entry → Tree
names_tree names = record { names = names; bytes = map.empty; opens = map.empty }

-- the text of a path
abbrev pub IsPathText : List ℕ → Type 0
IsPathText text = path_text (parts_of text) ≡ text

-- a text begins with a slash
abbrev pub starts_below : List ℕ → Bool
starts_below [] = false
starts_below (byte ∷ bytes) = byte == 47

-- a name is a text, a slash and more
abbrev pub stands_below : List ℕ → List ℕ → Bool
stands_below [] name = starts_below name
stands_below (byte ∷ bytes) [] = false
stands_below (byte ∷ bytes) (other ∷ others) = other == byte && stands_below bytes others

-- a path has one part more than another
pub record IsLast (path above : Parts) : Type 0 where
  pub part : List ℕ
  pub parts : path ≡ above ++ part ∷ []

module _ {K : Type 0} (text : K → List ℕ) where
  -- the entry of each path
  abbrev pub name_entries : List (K × Stood) → List (Parts × Entry)
  name_entries [] = []
  name_entries (e ∷ es) = (parts_of (text e.0), entry_of e.1) ∷ name_entries es

  -- the names by path
  abbrev pub names_of : List (K × Stood) → map.FinMap parts_cmp Entry
  names_of es = map.from_entries (name_entries es)

  -- keys are ordered by their texts
  abbrev pub text_cmp : K → K → Ordering
  text_cmp x y = slice_cmp nat_cmp (text x) (text y)

  -- each key's text is that of a path
  abbrev pub AreTexts : BTreeMap K Stood → Type 0
  AreTexts m = (k : K) → IsSome (tree.get text_cmp m k) → IsPathText (text k)
