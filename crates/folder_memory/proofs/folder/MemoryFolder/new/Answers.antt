use Rattle.std.proofs.Common.{subst, sym}
use Rattle.folder_tree.specs.Tree.{IsWellFormed}
use Rattle.folder_tree.specs.Laws.{empty_tree-IsWellFormed}
use Rattle.folder_memory.proofs.folder.MemoryFolder.new.Goals as goal

pub returns-clause-well_formed : goal.returns-clause-well_formed
returns-clause-well_formed c = subst IsWellFormed (sym c.new.ensures) empty_tree-IsWellFormed
