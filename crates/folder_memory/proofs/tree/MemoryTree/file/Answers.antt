use Rattle.std.proofs.Common.{ap, subst, sym, ◌∙◌}
use Rattle.std.specs.FinMap as map
use Rattle.folder_tree.specs.Tree.{IsWellFormed, Tree}
use Rattle.folder_memory.proofs.KindLemmas.{file-bytes}
use Rattle.folder_memory.proofs.tree.MemoryTree.file.Goals as goal

pub returns : goal.returns
returns c =
    c.bytes.ensures ∙ ap (λ (t : Tree). map.get t.bytes c.in_ok-number.number) c.self.view_is
    ∙ file-bytes c.args.self.now c.args.path.now c.in_ok-number.number
    (subst IsWellFormed c.self.view_is c.self.invariant) (sym c.number.ensures ∙ c.in_ok-number.was)
