use Rattle.std.proofs.Common.{◌≡◌, ℕ, Option, position, rules, sym, ap, ◌∙◌}
use Rattle.std.proofs.lemmas.Iterator.{YieldsList-from_slice}
use Rattle.std.proofs.lemmas.Iterator.Search.{position_from_yields_List}
use borrow.Author.Tests.{tests}
use Rattle.syscall_proxy.specs.Rows.{is_closed}
use Rattle.syscall_proxy.proofs.numbers.Numbers.first_free.Goals as goal

pub returns-in-Some : goal.returns-in-Some
returns-in-Some c =
    let e = position_from_yields_List is_closed _ _ c.position.result c.position.ensures.ran
    (YieldsList-from_slice c.self.inside.stands.items (c.iter.ensures.rest ∙ c.as_slice.ensures.value))
    (λ x b q k. search (rules, tests)) in
    let v = c.self.view_is in
    let i = c.in-Some.is in
    cc

pub returns-in-None : goal.returns-in-None
returns-in-None c =
    let e = position_from_yields_List is_closed _ _ c.position.result c.position.ensures.ran
    (YieldsList-from_slice c.self.inside.stands.items (c.iter.ensures.rest ∙ c.as_slice.ensures.value))
    (λ x b q k. search (rules, tests)) in
    let v = c.self.view_is in
    let i = c.in-None.is in
    cc
