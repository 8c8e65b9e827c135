use Rattle.std.proofs.Common.{◌∙◌, ap, refl, sym, subst, List, Some, ℕ}
use Rattle.asm_items.specs.ItemMeaning.{assembled, HoldsParts}
use Rattle.asm_items.specs.declared.item.Item.{Item}
use Rattle.asm_text.specs.Texts.{text_items}
use Rattle.spike_front.specs.Listings.{word_lines}
use Rattle.spike_front.specs.Plans.{IsPlan, ListsSource, planned_text}
use Rattle.spike_front.specs.declared.plan.Plan.TheVariants.{Put}
use Rattle.spike_front.proofs.Plans.{source_of_file}
use Rattle.spike_front.proofs.Sources.{held_plan, held_source, text_read}
use Rattle.spike_front.proofs.plan.plan_text.Goals as goal

pub returns-in-Ok-assemble-clause-told : goal.returns-in-Ok-assemble-clause-told
returns-in-Ok-assemble-clause-told c =
    let items = c.in-Ok.found.items in
    let lines = c.in-Ok.found.lines in
    let bytes = c.in-Ok-assemble.code.bytes in
    let planned = planned_text (text_items c.args.text.now) in
    let read = text_read c.args.text.now items lines c.in-Ok.ensures.read in
    let holds = subst (λ (xs : List Item). HoldsParts bytes (assembled 0 xs)) c.as_slice.ensures c.in-Ok-assemble.ensures.meaning.1 in
    let text = c.in_ok-word_lines-in-Ok-assemble.ensures ∙ ap word_lines c.as_slice-in-Ok-assemble.ensures in
    let plan = subst (IsPlan (Put (word_lines bytes))) (sym read) (held_plan lines bytes (assembled 0 items) holds) in
    subst (λ (xs : List ℕ). IsPlan (Put xs) planned) (sym text) plan

pub returns-in-Ok-assemble-clause-kind : goal.returns-in-Ok-assemble-clause-kind
returns-in-Ok-assemble-clause-kind c =
    let items = c.in-Ok.found.items in
    let lines = c.in-Ok.found.lines in
    let bytes = c.in-Ok-assemble.code.bytes in
    let read = source_of_file (Some c.args.text.now) c.args.text.now refl c.requires ∙ text_read c.args.text.now items lines c.in-Ok.ensures.read in
    let holds = subst (λ (xs : List Item). HoldsParts bytes (assembled 0 xs)) c.as_slice.ensures c.in-Ok-assemble.ensures.meaning.1 in
    let text = c.in_ok-word_lines-in-Ok-assemble.ensures ∙ ap word_lines c.as_slice-in-Ok-assemble.ensures in
    subst ListsSource (sym text) (held_source c.args.text.now lines bytes (assembled 0 items) read holds)
