use Rattle.std.proofs.Common.{ap, length}
use Rattle.folder_tree.specs.TreeOps.{read_row}
use Rattle.folder_tree.specs.Answers.{bytes_read}
use Rattle.folder_memory.proofs.CallLemmas.{Called-Answers, Called-StaysSteady}
use Rattle.folder_memory.proofs.folder.MemoryFolderFolder.read_at.Goals as goal

pub returns-clause-tree : goal.returns-clause-tree
returns-clause-tree c =
    Called-Answers (read_row c.args.number c.args.at (length c.args.into.now)) c.args.self.now c.try_read.new.self
    (bytes_read c.try_read.result c.try_read.new.into) c.try_read.ensures.called

pub returns-clause-steady : goal.returns-clause-steady
returns-clause-steady c =
    Called-StaysSteady c.args.self.now c.try_read.new.self
    (read_row c.args.number c.args.at (length c.args.into.now) c.args.self.now.tree)
    (bytes_read c.try_read.result c.try_read.new.into) c.try_read.result
    c.try_read.ensures.counts (ap (λ r. bytes_read r c.try_read.new.into)) c.try_read.ensures.called
