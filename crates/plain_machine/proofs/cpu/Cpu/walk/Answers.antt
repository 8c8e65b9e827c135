use Rattle.std.proofs.Common.{sym, arith}
use Rattle.plain_machine.specs.UserStep.{walked-zero}
use Rattle.plain_machine.proofs.Walks.{walk-next, walk-each}
use Rattle.plain_machine.proofs.cpu.Cpu.walk.Goals as goal

pub steps-init : goal.steps-init
steps-init c = record {
  after = sym (walked-zero _);
  each = λ n low. absurd (omega arith);
  most = omega arith;
}

pub steps-preserved : goal.steps-preserved
steps-preserved c = record {
  after = walk-next c.steps.count c.args.self.now c.steps.self c.execute.new.self c.steps.invariant.after c.in-Moved.ensures.step;
  each = walk-each c.steps.count c.args.self.now c.steps.self c.execute.new.self c.steps.invariant.after c.in-Moved.ensures.step c.steps.invariant.each;
  most = omega (arith, c.steps-test.true);
}
