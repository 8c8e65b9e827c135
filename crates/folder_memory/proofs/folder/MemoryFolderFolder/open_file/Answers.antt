use Rattle.folder_tree.specs.TreeOps.{open_row}
use Rattle.folder_memory.proofs.CallLemmas.{Called-Answers, Called-StaysSteady}
use Rattle.folder_memory.proofs.folder.MemoryFolderFolder.open_file.Goals as goal

pub returns-clause-tree : goal.returns-clause-tree
returns-clause-tree c =
    Called-Answers (open_row c.args.path.now) c.args.self.now c.try_open.new.self c.try_open.result
    c.try_open.ensures.called

pub returns-clause-steady : goal.returns-clause-steady
returns-clause-steady c =
    Called-StaysSteady c.args.self.now c.try_open.new.self (open_row c.args.path.now c.args.self.now.tree)
    c.try_open.result c.try_open.result c.try_open.ensures.counts (λ e. e) c.try_open.ensures.called
