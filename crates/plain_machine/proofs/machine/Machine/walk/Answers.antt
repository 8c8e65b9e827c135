use Rattle.std.proofs.Common.{rules, arith}
use Rattle.plain_machine.specs.Direct.{direct_after-zero}
use Rattle.plain_machine.proofs.Walks.{walk-direct, walk-moves}
use Rattle.plain_machine.proofs.machine.Machine.walk.Goals as goal

pub returns-in-Running-clause-after : goal.returns-in-Running-clause-after
returns-in-Running-clause-after c =
    walk-direct _ _ c.self.inside.process _ c.walk.new.self c.walk.result.0 c.walk.ensures.after c.walk.ensures.each (search rules) (search rules) (search rules)

pub returns-in-Running-clause-each : goal.returns-in-Running-clause-each
returns-in-Running-clause-each c =
    walk-moves _ c.self.inside.process _ c.walk.new.self c.walk.result.0 c.walk.ensures.after c.walk.ensures.each (search rules) (search rules)

pub returns-in-Dying : goal.returns-in-Dying
returns-in-Dying c = record {
  after = λ given w. direct_after-zero given _;
  each = λ given w n low. absurd (omega arith);
  most = omega arith;
  stopped = search rules;
  status = search rules;
}
