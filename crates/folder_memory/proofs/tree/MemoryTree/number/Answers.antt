use Rattle.std.proofs.Common.{◌∙◌}
use Rattle.folder_memory.proofs.KindLemmas.{names-number}
use Rattle.folder_memory.proofs.tree.MemoryTree.number.Goals as goal

pub returns : goal.returns
returns c = c.number.ensures ∙ names-number c.self.inside.names c.self.inside.contents c.self.inside.opens
    c.args.self.now c.args.path.now c.self.view_is
