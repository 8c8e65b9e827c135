use Rattle.std.proofs.Common.{◌≡◌, length}
use denote.Text.{Utf8}
use denote.Shadow.{shadow}
use Rattle.folder_tree.specs.Paths.{parts_of}
use Rattle.folder_tree.specs.Tree.{kind_of}
use Rattle.folder_tree.specs.WalkLaws.{kind_under}
use Rattle.folder_memory.specs.Names.{IsPathText, names_tree}
use Rattle.folder_memory.proofs.names.Names.missing_kind.Given as goal

-- what stands above decides the path's kind
abbrev pub invariant-loop-stood : goal.invariant-loop-stood
invariant-loop-stood l = record {
  utf8 : shadow (Utf8 l.above);
  path : IsPathText l.above;
  same : kind_of (names_tree l.self) (parts_of l.text)
      ≡ kind_under l.kind (kind_of (names_tree l.self) (parts_of l.above));
}

abbrev pub decreases-loop-stood : goal.decreases-loop-stood
decreases-loop-stood l = length l.above
