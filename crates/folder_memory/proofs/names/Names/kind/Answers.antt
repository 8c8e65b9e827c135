use Rattle.std.proofs.Common.{ap, ◌∙◌}
use Rattle.folder_tree.specs.Paths.{parts_of}
use Rattle.folder_tree.specs.Tree.{kind_of}
use Rattle.folder_memory.specs.Names.{names_tree}
use Rattle.folder_memory.proofs.StandingLemmas.{found-kind}
use Rattle.folder_memory.proofs.names.Names.kind.Goals as goal

pub returns : goal.returns
returns c =
    c.kind.ensures
    ∙ found-kind (names_tree c.args.self.now) (parts_of c.as_str-text.result.now) c.standing.result c.in-Some.stood
    c.requires c.standing.ensures c.in-Some.is
    ∙ ap (kind_of (names_tree c.args.self.now)) c.as_str-text.ensures.parts
