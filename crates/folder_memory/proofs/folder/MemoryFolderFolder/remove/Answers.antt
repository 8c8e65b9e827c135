use Rattle.folder_tree.specs.TreeOps.{remove_row}
use Rattle.folder_memory.proofs.CallLemmas.{Called-Answers, Called-StaysSteady}
use Rattle.folder_memory.proofs.folder.MemoryFolderFolder.remove.Goals as goal

pub returns-clause-tree : goal.returns-clause-tree
returns-clause-tree c =
    Called-Answers (remove_row c.args.path.now) c.args.self.now c.try_remove.new.self c.try_remove.result
    c.try_remove.ensures.called

pub returns-clause-steady : goal.returns-clause-steady
returns-clause-steady c =
    Called-StaysSteady c.args.self.now c.try_remove.new.self (remove_row c.args.path.now c.args.self.now.tree)
    c.try_remove.result c.try_remove.result c.try_remove.ensures.counts (λ e. e) c.try_remove.ensures.called
