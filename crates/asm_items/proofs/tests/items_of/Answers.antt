use Rattle.std.proofs.Common.{◌≤◌, arith}
use Rattle.std.proofs.lemmas.List.Elements.{All-push}
use Rattle.asm_items.specs.ItemMeaning.{IsItemFit, words_of}
use Rattle.asm_items.proofs.Totals.{total_words-push}
use Rattle.asm_items.proofs.tests.items_of.Goals as goal

pub loop-row-preserved : goal.loop-row-preserved
loop-row-preserved c =
    let fit : IsItemFit c.in_ok-ok_or.field-0 = rw c.in_ok-ok_or.ensures.ok_part at c.item_of.ensures.fit in
    let short : words_of c.in_ok-ok_or.field-0 ≤ 256 = rw c.in_ok-ok_or.ensures.ok_part at c.item_of.ensures.short in
    record {
      fit = rw c.in_ok-push.ensures.ok (All-push IsItemFit c.loop-row.items c.in_ok-ok_or.field-0
          c.loop-row.invariant.fit fit);
      short = rw (c.in_ok-push.ensures.ok, total_words-push c.loop-row.items c.in_ok-ok_or.field-0) (omega arith);
    }
