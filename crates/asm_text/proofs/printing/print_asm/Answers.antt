use Rattle.asm_text.proofs.PrintWalk.{ended, ended-held, turn, turn-held}
use Rattle.asm_text.proofs.TextBack.{text-back}
use Rattle.asm_text.proofs.printing.print_asm.Goals as goal

pub loop-item-preserved : goal.loop-item-preserved
loop-item-preserved c = record {
  prints = turn c.args.items.now c.loop-item.out c.put_item.new.out c.push.new.self c.loop-item.item-index
      c.item-item.result c.loop-item-test.true c.item-item.is c.loop-item.invariant.prints
      c.in_ok-put_item.ensures.prints c.in_ok-push.ensures.ok;
  held = turn-held c.args.items.now c.loop-item.item-index c.item-item.result c.loop-item-test.true c.item-item.is
      c.loop-item.invariant.held c.in_ok-put_item.ensures.held;
}

pub returns-clause-text : goal.returns-clause-text
returns-clause-text c = ended c.args.items.now c.loop-item.out c.loop-item.item-index c.loop-item-test.false
    c.loop-item.invariant.prints

pub returns-clause-back : goal.returns-clause-back
returns-clause-back c =
    text-back c.args.items.now c.loop-item.out c.requires
    (ended-held c.args.items.now c.loop-item.item-index c.loop-item-test.false c.loop-item.invariant.held)
    (ended c.args.items.now c.loop-item.out c.loop-item.item-index c.loop-item-test.false c.loop-item.invariant.prints)
