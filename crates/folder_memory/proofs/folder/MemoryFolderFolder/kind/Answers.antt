use Rattle.folder_tree.specs.TreeOps.{kind_row}
use Rattle.folder_memory.proofs.CallLemmas.{Called-Answers, Called-StaysSteady}
use Rattle.folder_memory.proofs.folder.MemoryFolderFolder.kind.Goals as goal

pub returns-clause-tree : goal.returns-clause-tree
returns-clause-tree c =
    Called-Answers (kind_row c.args.path.now) c.args.self.now c.try_kind.new.self c.try_kind.result
    c.try_kind.ensures.called

pub returns-clause-steady : goal.returns-clause-steady
returns-clause-steady c =
    Called-StaysSteady c.args.self.now c.try_kind.new.self (kind_row c.args.path.now c.args.self.now.tree)
    c.try_kind.result c.try_kind.result c.try_kind.ensures.counts (λ e. e) c.try_kind.ensures.called
