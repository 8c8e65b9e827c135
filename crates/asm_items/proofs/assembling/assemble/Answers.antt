use Rattle.std.proofs.Common.{List, ℕ, subst, sym, refl, ap, arith}
use Rattle.std.proofs.lemmas.List.{at_drop_more}
use Rattle.asm_items.specs.ItemMeaning.{total_words, words_of}
use Rattle.asm_items.specs.LabelMap.{look_up}
use Rattle.asm_items.proofs.Lengths.{assembled-length}
use Rattle.asm_items.proofs.Progress.{Progress, Progress-end, Progress-fault, Progress-first, Progress-turn}
use Rattle.asm_items.proofs.Spots.{spot_has_address}
use Rattle.asm_items.proofs.assembling.assemble.Goals as goal

pub loop-item-init : goal.loop-item-init
loop-item-init c = record {
  walked = subst (λ (bytes : List ℕ). Progress (look_up c.in_ok-labels.labels) c.args.base c.args.items.now 0 0
      c.args.items.now bytes) (sym c.new-bytes.ensures)
      (Progress-first (look_up c.in_ok-labels.labels) c.args.base c.args.items.now);
  counted = refl;
  size = omega arith;
}

pub loop-item-preserved : goal.loop-item-preserved
loop-item-preserved c = record {
  walked = rw c.words_in-place.ensures.value
      (Progress-turn (look_up c.in_ok-labels.labels) c.args.base c.args.items.now c.loop-item.index c.loop-item.place
      c.loop-item.item-index c.item-item.result c.loop-item.bytes c.put_item.new.code c.loop-item-test.true
      c.item-item.is c.loop-item.invariant.walked c.in_default.ensures);
  counted = omega arith;
  size = omega (
    arith,
    at_drop_more total_words c.args.items.now c.loop-item.item-index c.item-item.result
        c.loop-item-test.true,
    ap words_of c.item-item.is,
  );
}

pub returns-in-Err-clause-meaning : goal.returns-in-Err-clause-meaning
returns-in-Err-clause-meaning c =
    Progress-fault (look_up c.in_ok-labels.labels) c.args.base c.args.items.now c.loop-item.index c.loop-item.place
    c.loop-item.item-index c.item-item.result c.loop-item.bytes c.in-Err.fault c.loop-item-test.true c.item-item.is
    c.loop-item.invariant.walked c.in_ok-labels.ensures c.in-Err.ensures

pub returns-clause-length : goal.returns-clause-length
returns-clause-length c =
    assembled-length c.args.base c.args.items.now c.loop-item.bytes
    (Progress-end (look_up c.in_ok-labels.labels) c.args.base c.args.items.now c.loop-item.index c.loop-item.place
    c.loop-item.item-index c.loop-item.bytes c.loop-item-test.false c.loop-item.invariant.walked
    c.in_ok-labels.ensures)

pub returns-clause-meaning : goal.returns-clause-meaning
returns-clause-meaning c = (
  refl,
  Progress-end (look_up c.in_ok-labels.labels) c.args.base c.args.items.now c.loop-item.index c.loop-item.place
      c.loop-item.item-index c.loop-item.bytes c.loop-item-test.false c.loop-item.invariant.walked
      c.in_ok-labels.ensures,
)

pub put_item-requires-clause-spots : goal.put_item-requires-clause-spots
put_item-requires-clause-spots c = λ name.
    spot_has_address c.args.base c.args.items.now name (look_up c.in_ok-labels.labels name)
    (c.in_ok-labels.ensures name) c.requires.size
