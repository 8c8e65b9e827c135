use Rattle.folder_tree.proofs.PathLemmas.{added-IsBelow}
use Rattle.folder_tree.proofs.path.Path.below.Goals as goal

pub invariant_of-result : goal.invariant_of-result
invariant_of-result c =
    (added-IsBelow c.args.root.now c.args.self.now c.root.inside.text.bytes c.as_str.result.now
    c.add_parts.new.path.bytes
    c.root.invariant c.root.view_is c.as_str.ensures.text c.as_str.ensures.parts c.as_str.ensures.inside
    c.add_parts.ensures).text

pub returns : goal.returns
returns c =
    (added-IsBelow c.args.root.now c.args.self.now c.root.inside.text.bytes c.as_str.result.now
    c.add_parts.new.path.bytes
    c.root.invariant c.root.view_is c.as_str.ensures.text c.as_str.ensures.parts c.as_str.ensures.inside
    c.add_parts.ensures).parts
