-- What the working directory tells of its files.
use Rattle.std.specs.Prelude.{Option, None}
use Rattle.folder_tree.specs.Tree.{Tree}

-- nothing
abbrev pub no_tree : Option Tree
no_tree = None
