use Rattle.folder_tree.specs.TreeOps.{make_dir_row}
use Rattle.folder_memory.proofs.CallLemmas.{Called-Answers, Called-StaysSteady}
use Rattle.folder_memory.proofs.folder.MemoryFolderFolder.make_dir.Goals as goal

pub returns-clause-tree : goal.returns-clause-tree
returns-clause-tree c =
    Called-Answers (make_dir_row c.args.path.now) c.args.self.now c.try_make_dir.new.self c.try_make_dir.result
    c.try_make_dir.ensures.called

pub returns-clause-steady : goal.returns-clause-steady
returns-clause-steady c =
    Called-StaysSteady c.args.self.now c.try_make_dir.new.self (make_dir_row c.args.path.now c.args.self.now.tree)
    c.try_make_dir.result c.try_make_dir.result c.try_make_dir.ensures.counts (λ e. e) c.try_make_dir.ensures.called
