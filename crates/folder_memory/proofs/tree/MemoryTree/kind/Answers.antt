use Rattle.std.proofs.Common.{◌∙◌}
use Rattle.folder_memory.proofs.KindLemmas.{names-kind}
use Rattle.folder_memory.proofs.tree.MemoryTree.kind.Goals as goal

pub returns : goal.returns
returns c = c.kind.ensures ∙ names-kind c.self.inside.names c.self.inside.contents c.self.inside.opens c.args.self.now
    c.args.path.now c.self.view_is
