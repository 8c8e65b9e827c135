use Rattle.std.proofs.Common.{sym, ◌∙◌}
use Rattle.folder_memory.proofs.KindLemmas.{inner-kind, inner-parts, removed_dir-well}
use Rattle.folder_memory.proofs.tree.MemoryTree.remove_dir.Goals as goal

pub invariant_of-self : goal.invariant_of-self
invariant_of-self c =
    removed_dir-well c.self.inside.names c.remove.new.self c.self.inside.contents c.self.inside.opens c.args.self.now
    c.args.path.now c.self.view_is c.self.invariant
    (inner-parts c.args.self.now c.args.path.now c.requires) (inner-kind c.args.self.now c.args.path.now c.requires)
    (sym c.is_filled.ensures ∙ c.if-is_filled.false) c.remove.ensures

pub is_filled-requires : goal.is_filled-requires
is_filled-requires c = inner-parts c.args.self.now c.args.path.now c.requires
