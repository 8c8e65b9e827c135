use Rattle.folder_tree.specs.TreeOps.{write_row}
use Rattle.folder_memory.proofs.CallLemmas.{Called-Answers, Called-StaysSteady}
use Rattle.folder_memory.proofs.folder.MemoryFolderFolder.write_at.Goals as goal

pub returns-clause-tree : goal.returns-clause-tree
returns-clause-tree c =
    Called-Answers (write_row c.args.number c.args.at c.args.bytes.now) c.args.self.now c.try_write.new.self
    c.try_write.result c.try_write.ensures.called

pub returns-clause-steady : goal.returns-clause-steady
returns-clause-steady c =
    Called-StaysSteady c.args.self.now c.try_write.new.self
    (write_row c.args.number c.args.at c.args.bytes.now c.args.self.now.tree) c.try_write.result c.try_write.result
    c.try_write.ensures.counts (λ e. e) c.try_write.ensures.called
