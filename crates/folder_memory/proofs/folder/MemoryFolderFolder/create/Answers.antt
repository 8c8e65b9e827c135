use Rattle.folder_tree.specs.TreeOps.{create_row}
use Rattle.folder_memory.proofs.CallLemmas.{Called-Answers, Called-StaysSteady}
use Rattle.folder_memory.proofs.folder.MemoryFolderFolder.create.Goals as goal

pub returns-clause-tree : goal.returns-clause-tree
returns-clause-tree c =
    Called-Answers (create_row c.args.path.now) c.args.self.now c.try_create.new.self c.try_create.result
    c.try_create.ensures.called

pub returns-clause-steady : goal.returns-clause-steady
returns-clause-steady c =
    Called-StaysSteady c.args.self.now c.try_create.new.self (create_row c.args.path.now c.args.self.now.tree)
    c.try_create.result c.try_create.result c.try_create.ensures.counts (λ e. e) c.try_create.ensures.called
