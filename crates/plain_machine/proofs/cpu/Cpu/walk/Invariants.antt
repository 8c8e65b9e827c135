use Rattle.std.proofs.Common.{◌≡◌, ◌<◌, ◌≤◌, ◌-◌, ℕ, true}
use Rattle.plain_machine.specs.UserStep.{user_step, walked, moves}
use Rattle.plain_machine.proofs.cpu.Cpu.walk.Given as goal

abbrev pub invariant-steps : goal.invariant-steps
invariant-steps l = record {
  after : l.self ≡ walked l.count l.fn.self;
  each : (n : ℕ) → n < l.count → moves (user_step (walked n l.fn.self)) ≡ true;
  most : l.count ≤ l.most;
}

abbrev pub decreases-steps : goal.decreases-steps
decreases-steps l = l.most - l.count
