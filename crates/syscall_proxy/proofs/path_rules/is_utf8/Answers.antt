use Rattle.std.proofs.Common.{◌∙◌}
use Rattle.folder_tree.proofs.PathLemmas.{utf8_test}
use Rattle.syscall_proxy.proofs.path_rules.is_utf8.Goals as goal

pub returns : goal.returns
returns c = c.is_ok.ensures.value ∙ utf8_test _ _ c.from_utf8.result c.args.name.now c.from_utf8.ensures.cases
