-- What real objects do that tell what they hold is what is told of them: turns of a target behind a line, a tree,
-- bytes.
use Rattle.std.specs.Prelude.{◌≡◌, List, ℕ, Some, Result}
use Rattle.fe_base.specs.declared.outside.Sink as sink
use Rattle.fe_base.specs.declared.outside.Source as source
use Rattle.folder_tree.specs.Tree.{Tree}
use Rattle.folder_tree.specs.declared.folder.Folder as folder
use Rattle.host_text.specs.Played.{At, Played, at}
use Rattle.host_text.specs.Text.{Text}
use Rattle.target_box.specs.Lined.{Lined}
use Rattle.tether_base.specs.ToldActs.{line_acts}

-- the text was followed over a line and told contents, from a place to one with this line, and what is told of these
-- objects
pub record WasTold {F I C H A E : Type 0} (f : folder.Ghosts F) (i : source.Ghosts I) (c : sink.Ghosts C)
    (t : Text H A E) (z : At Lined Tree (List ℕ) (List ℕ) H) (r : Result A E) (now : At Lined F I C H) : Type 0 where
  pub tree : Tree
  pub left : List ℕ
  pub held : List ℕ
  pub tree_is : f.tree now.folder ≡ Some tree
  pub input_is : i.left now.input ≡ Some left
  pub console_is : c.held now.console ≡ Some held
  pub played : Played line_acts t z r (at now.port tree left held now.kept)

-- where the three tell what they hold, the text was followed so
abbrev pub IfAllTold : {F I C H A E : Type 0} → folder.Ghosts F → source.Ghosts I → sink.Ghosts C → Text H A E
    → At Lined F I C H → Result A E → At Lined F I C H → Type 0
IfAllTold f i c t s r now =
    (tree : Tree) (left held : List ℕ) → f.tree s.folder ≡ Some tree → i.left s.input ≡ Some left
    → c.held s.console ≡ Some held → WasTold f i c t (at s.port tree left held s.kept) r now
