use Rattle.std.proofs.Common.{sym, ◌∙◌}
use Rattle.folder_tree.specs.Laws.{number_at-named}
use Rattle.folder_memory.proofs.folder.MemoryFolder.try_open.Goals as goal

pub open-requires : goal.open-requires
open-requires c = number_at-named c.self.inside.tree c.args.path.now c.in-Some.number
    (sym c.number.ensures ∙ c.in-Some.is)
