use Rattle.std.proofs.Common.{◌∙◌}
use Rattle.folder_memory.proofs.TextLemmas.{below-none, below-some}
use Rattle.folder_memory.proofs.names.stands_below.Goals as goal

pub returns-in-Some : goal.returns-in-Some
returns-in-Some c = c.starts_below.ensures ∙ below-some c.args.text.now c.args.name.now c.strip_prefix.result
    c.in-Some.rest c.strip_prefix.ensures.cases c.in-Some.is

pub returns-in-None : goal.returns-in-None
returns-in-None c = below-none c.args.text.now c.args.name.now c.strip_prefix.result c.strip_prefix.ensures.cases
    c.in-None.is
