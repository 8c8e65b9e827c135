use Rattle.folder_tree.specs.TreeOps.{remove_dir_row}
use Rattle.folder_memory.proofs.CallLemmas.{Called-Answers, Called-StaysSteady}
use Rattle.folder_memory.proofs.folder.MemoryFolderFolder.remove_dir.Goals as goal

pub returns-clause-tree : goal.returns-clause-tree
returns-clause-tree c =
    Called-Answers (remove_dir_row c.args.path.now) c.args.self.now c.try_remove_dir.new.self c.try_remove_dir.result
    c.try_remove_dir.ensures.called

pub returns-clause-steady : goal.returns-clause-steady
returns-clause-steady c =
    Called-StaysSteady c.args.self.now c.try_remove_dir.new.self (remove_dir_row c.args.path.now c.args.self.now.tree)
    c.try_remove_dir.result c.try_remove_dir.result c.try_remove_dir.ensures.counts (λ e. e)
    c.try_remove_dir.ensures.called
