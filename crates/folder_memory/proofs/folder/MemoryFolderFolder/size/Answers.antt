use Rattle.folder_tree.specs.TreeOps.{size_row}
use Rattle.folder_memory.proofs.CallLemmas.{Called-Answers, Called-StaysSteady}
use Rattle.folder_memory.proofs.folder.MemoryFolderFolder.size.Goals as goal

pub returns-clause-tree : goal.returns-clause-tree
returns-clause-tree c =
    Called-Answers (size_row c.args.number) c.args.self.now c.try_size.new.self c.try_size.result
    c.try_size.ensures.called

pub returns-clause-steady : goal.returns-clause-steady
returns-clause-steady c =
    Called-StaysSteady c.args.self.now c.try_size.new.self (size_row c.args.number c.args.self.now.tree)
    c.try_size.result c.try_size.result c.try_size.ensures.counts (λ e. e) c.try_size.ensures.called
