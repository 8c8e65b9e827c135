use Rattle.std.proofs.Common.{ap, sym, ◌∙◌}
use Rattle.std.specs.Prelude.{is_ok}
use Rattle.folder_tree.proofs.PathLemmas.{no_text, some_text, utf8_test}
use Rattle.folder_tree.proofs.path.text_of.Goals as goal

pub returns-in_default : goal.returns-in_default
returns-in_default c =
    no_text c.args.bytes.now (sym (utf8_test _ _ c.from_utf8.result c.args.bytes.now c.from_utf8.ensures.cases)
    ∙ ap is_ok c.in_default.is)

pub returns : goal.returns
returns c =
    some_text c.args.bytes.now c.in-Ok.text.now (sym
    (utf8_test _ _ c.from_utf8.result c.args.bytes.now c.from_utf8.ensures.cases) ∙ ap is_ok c.in-Ok.is)
    (sym c.contains.ensures.value ∙ c.if-contains.false) c.in-Ok.ensures.cases.0
