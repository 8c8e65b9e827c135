use Rattle.folder_tree.specs.TreeOps.{release_row}
use Rattle.folder_memory.proofs.CallLemmas.{Called-Answers, Called-StaysSteady}
use Rattle.folder_memory.proofs.folder.MemoryFolderFolder.release.Goals as goal

pub returns-clause-tree : goal.returns-clause-tree
returns-clause-tree c =
    Called-Answers (release_row c.args.number) c.args.self.now c.try_release.new.self c.try_release.result
    c.try_release.ensures.called

pub returns-clause-steady : goal.returns-clause-steady
returns-clause-steady c =
    Called-StaysSteady c.args.self.now c.try_release.new.self (release_row c.args.number c.args.self.now.tree)
    c.try_release.result c.try_release.result c.try_release.ensures.counts (λ e. e) c.try_release.ensures.called
