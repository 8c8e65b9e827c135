-- What stands at the path of a text.
use Rattle.std.proofs.Common.{◌≡◌, ◌<◌, ◌+◌, ◌==◌, ◌≢◌, ℕ, false, suc, List, [], ◌∷◌, ◌++◌, length, get_or, take, drop}
use Rattle.std.proofs.Common.{refl, ap, sym, ◌∙◌, arith, Option, Some, None, take-append-drop, length-drop, drop-cons}
use Rattle.std.proofs.Common.{MatchOption}
use Rattle.std.proofs.lemmas.List.{get_or-drop, get_or_default}
use Rattle.std.specs.Option.{option_map}
use Rattle.std.specs.List.{All}
use Rattle.std.specs.FinMap as map
use Rattle.std.proofs.lemmas.Bool.{ne_eqb}
use Rattle.folder_tree.specs.Paths.{Parts, parts_of, path_text}
use Rattle.folder_tree.specs.Tree.{Entry, HasParents, Tree, directory, kind_of, number_at}
use Rattle.folder_tree.specs.WalkLaws.{kind_of-missing, kind_of-standing, kind_standing, kind_under, kind_under-missing}
use Rattle.folder_tree.specs.WalkLaws.{number_at-standing, number_standing, standing}
use Rattle.folder_tree.specs.declared.folder.PathKind.{PathKind}
use Rattle.folder_tree.specs.declared.folder.PathKind.TheVariants.{Free, NoParent}
use Rattle.folder_memory.specs.Names.{IsLast, IsPathText, entry_of}
use Rattle.folder_memory.specs.declared.names.Stood.{Stood}
use Rattle.folder_memory.proofs.TextLemmas.{IsAbove, IsAbove-slash, IsAbove-whole}

-- the root is a directory
pub standing-empty : (t : Tree) (text : List ℕ) → length text ≡ 0 → Some directory ≡ standing t (parts_of text)
standing-empty t [] e = refl
standing-empty t (byte ∷ text) e = absurd (omega arith)

by_name : (t : Tree) (text : List ℕ) (parts : Parts) → path_text parts ≡ text → (length text ≡ 0 → ⊥)
    → map.get t.names parts ≡ standing t parts
by_name t text [] is filled = absurd (filled (sym (ap length is)))
by_name t text (part ∷ parts) is filled = refl

-- each other path has a name
pub standing-name : (t : Tree) (text : List ℕ) → IsPathText text → (length text ≡ 0 → ⊥)
    → map.get t.names (parts_of text) ≡ standing t (parts_of text)
standing-name t text is filled = by_name t text (parts_of text) is filled

-- nothing is missing at the root
pub missing-parts : (t : Tree) (parts : Parts) → standing t parts ≡ None → parts ≡ [] → ⊥
missing-parts t [] none e = cc
missing-parts t (part ∷ parts) none e = cc

-- what was found
pub some_standing : (o : Option Stood) (stood : Stood) (e : Option Entry) → option_map entry_of o ≡ e → o ≡ Some stood
    → e ≡ Some (entry_of stood)
some_standing o stood e is found = sym is ∙ ap (option_map entry_of) found

pub none_standing : (o : Option Stood) (e : Option Entry) → option_map entry_of o ≡ e → o ≡ None → e ≡ None
none_standing o e is missing = sym is ∙ ap (option_map entry_of) missing

-- the first step up from a missing name
pub step_up : (t : Tree) (path above : Parts) → IsLast path above → standing t path ≡ None
    → kind_of t path ≡ kind_under Free (kind_of t above)
step_up t path above last none =
    ap (kind_of t) last.parts ∙ kind_of-missing t above last.part (ap (standing t) (sym last.parts) ∙ none)

-- and each later one
pub step_further : (t : Tree) (kind missing : PathKind) (path above : Parts) → IsLast path above
    → standing t path ≡ None → kind ≡ kind_under missing (kind_of t path)
    → kind ≡ kind_under NoParent (kind_of t above)
step_further t kind missing path above last none is =
    is ∙ ap (λ p. kind_under missing (kind_of t p)) last.parts
    ∙ kind_under-missing t missing above last.part (ap (standing t) (sym last.parts) ∙ none)

found_by : (t : Tree) (path : Parts) (o : Option Stood) → HasParents t → option_map entry_of o ≡ standing t path
    → number_standing (option_map entry_of o) ≡ number_at t path
found_by t path o has is = ap number_standing is ∙ sym (number_at-standing t path has)

-- the number of a file that was found
pub found-number : (t : Tree) (text : List ℕ) (path : Parts) (o : Option Stood) (stood : Stood) → HasParents t
    → parts_of text ≡ path → option_map entry_of o ≡ standing t (parts_of text) → o ≡ Some stood
    → number_standing (Some (entry_of stood)) ≡ number_at t path
found-number t text path o stood has parts is found =
    ap (λ p. number_standing (option_map entry_of p)) (sym found) ∙ found_by t path o has (is ∙ ap (standing t) parts)

-- none, where nothing was found
pub none-number : (t : Tree) (text : List ℕ) (path : Parts) (o : Option Stood) → HasParents t → parts_of text ≡ path
    → option_map entry_of o ≡ standing t (parts_of text) → o ≡ None → None ≡ number_at t path
none-number t text path o has parts is missing =
    ap (λ p. number_standing (option_map entry_of p)) (sym missing) ∙ found_by t path o has (is ∙ ap (standing t) parts)

-- the kind of what was found
pub found-kind : (t : Tree) (parts : Parts) (o : Option Stood) (stood : Stood) → HasParents t
    → option_map entry_of o ≡ standing t parts → o ≡ Some stood → kind_standing (entry_of stood) ≡ kind_of t parts
found-kind t parts o stood has is found =
    sym (kind_of-standing t parts (entry_of stood) has (some_standing o stood (standing t parts) is found))

-- ---- the last slash of a text

abbrev NoSlash : List ℕ → Type 0
NoSlash text = All (λ byte. (byte == 47) ≡ false) text

no_slash : (text : List ℕ) → ((i : ℕ) → i < length text → get_or text i 0 ≢ 47) → NoSlash text
no_slash text none i d below = ne_eqb (get_or text i d) 47 (λ e. none i below (get_or_default text i 0 d below ∙ e))

behind_slash : (text : List ℕ) (end : ℕ) → ((i : ℕ) → end < i → i < length text → get_or text i 0 ≢ 47)
    → NoSlash (drop (end + 1) text)
behind_slash text end none = no_slash (drop (end + 1) text) (λ i below e.
    none (end + 1 + i) (omega arith) (omega (arith, below, length-drop (end + 1) text))
    (sym (get_or-drop (end + 1) text i 0) ∙ e))

at_slash : (text : List ℕ) (end : ℕ) → end < length text → get_or text end 0 ≡ 47
    → text ≡ take end text ++ 47 ∷ drop (end + 1) text
at_slash text end below here =
    sym (take-append-drop end text)
    ∙ ap (λ rest. take end text ++ rest) (drop-cons text end 0 below
    ∙ ap (λ n. get_or text end 0 ∷ drop n text) (let e : suc end ≡ end + 1 = omega arith in e)
    ∙ ap (λ b. b ∷ drop (end + 1) text) here)

-- the text in front of the last slash is that of the path above
pub IsAbove-found : (text : List ℕ) (r : Option ℕ) (end : ℕ)
    → MatchOption r ((i : ℕ) → i < length text → get_or text i 0 ≢ 47)
    (λ k. (k < length text) × (get_or text k 0 ≡ 47) × ((i : ℕ) → k < i → i < length text → get_or text i 0 ≢ 47))
    → r ≡ Some end → IsPathText text → IsAbove text (take end text)
IsAbove-found text r end found is path =
    let (below, here, none) = rw is at found in
    IsAbove-slash text (take end text) (drop (end + 1) text) (at_slash text end below here) (behind_slash text end none)
    path

-- without a slash that is the root
pub IsAbove-none : (text : List ℕ) (r : Option ℕ)
    → MatchOption r ((i : ℕ) → i < length text → get_or text i 0 ≢ 47)
    (λ k. (k < length text) × (get_or text k 0 ≡ 47) × ((i : ℕ) → k < i → i < length text → get_or text i 0 ≢ 47))
    → r ≡ None → IsPathText text → (parts_of text ≡ [] → ⊥) → IsAbove text []
IsAbove-none text r found is path some = IsAbove-whole text (no_slash text (rw is at found)) path some
