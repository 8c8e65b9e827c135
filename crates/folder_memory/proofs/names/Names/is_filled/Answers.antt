use Rattle.std.proofs.Common.{◌≡◌, ap, rules, sym, ◌∙◌}
use Rattle.std.specs.BTreeMap as tree
use Rattle.std.specs.List.{list_any}
use Rattle.folder_memory.specs.Names.{stands_below}
use Rattle.folder_memory.proofs.FilledLemmas.{any-end, any-filled, any-met}
use Rattle.folder_memory.proofs.TextLemmas.{filled-law}
use Rattle.folder_memory.proofs.names.Names.is_filled.Goals as goal

pub returns-then-stands_below : goal.returns-then-stands_below
returns-then-stands_below c =
    let all : c.into_iter-name-iterator.result ≡ tree.keys c.self.inside.names = search rules in
    any-met (λ k. k.items) (stands_below c.text-text.result.now) c.in-Some.name.now c.loop-name.name-iterator
    c.next.new.self (search rules) (ap (stands_below c.text-text.result.now) (sym c.deref.ensures.value)
    ∙ sym c.stands_below.ensures ∙ c.if-stands_below.true) ∙ c.loop-name.invariant.same
    ∙ ap (list_any (λ k. stands_below c.text-text.result.now k.items)) all
    ∙ any-filled (λ k. k.items) c.args.self.now c.self.inside.names c.args.path.now
    (stands_below c.text-text.result.now)
    (filled-law c.text-text.result.now c.args.path.now c.text-text.ensures.text c.text-text.ensures.parts c.requires)
    c.self.view_is c.self.invariant

pub returns : goal.returns
returns c =
    let all : c.into_iter-name-iterator.result ≡ tree.keys c.self.inside.names = search rules in
    any-end (λ k. k.items) (stands_below c.text-text.result.now) c.loop-name.name-iterator (search rules)
    ∙ c.loop-name.invariant.same
    ∙ ap (list_any (λ k. stands_below c.text-text.result.now k.items)) all
    ∙ any-filled (λ k. k.items) c.args.self.now c.self.inside.names c.args.path.now
    (stands_below c.text-text.result.now)
    (filled-law c.text-text.result.now c.args.path.now c.text-text.ensures.text c.text-text.ensures.parts c.requires)
    c.self.view_is c.self.invariant
