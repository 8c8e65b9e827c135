use Rattle.std.proofs.Common.{◌==◌, rules, sym, ap, ◌∙◌}
use Rattle.std.proofs.lemmas.Iterator.{YieldsList-from_slice}
use Rattle.std.proofs.lemmas.Iterator.Search.{position_from_yields_List}
use borrow.Author.Tests.{tests}
use Rattle.syscall_proxy.specs.PathRules.{before_nul}
use Rattle.syscall_proxy.proofs.path_rules.name_of.Goals as goal

pub returns-in-Some : goal.returns-in-Some
returns-in-Some c =
    let found = position_from_yields_List (λ byte. byte == 0) _ _ c.position.result c.position.ensures.ran
    (YieldsList-from_slice c.args.bytes.now c.iter.ensures.rest) (λ x b q k. search (rules, tests)) in
    ap (before_nul c.args.bytes.now) (sym c.in-Some.is ∙ found)

pub returns-in-None : goal.returns-in-None
returns-in-None c =
    let found = position_from_yields_List (λ byte. byte == 0) _ _ c.position.result c.position.ensures.ran
    (YieldsList-from_slice c.args.bytes.now c.iter.ensures.rest) (λ x b q k. search (rules, tests)) in
    ap (before_nul c.args.bytes.now) (sym c.in-None.is ∙ found)
