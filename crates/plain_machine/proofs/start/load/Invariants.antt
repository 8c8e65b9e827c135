use Rattle.std.proofs.Common.{◌≡◌, ◌≤◌, drop, length}
use Rattle.plain_machine.specs.Starts.{loaded}
use Rattle.plain_machine.proofs.start.load.Given as goal

abbrev pub invariant-loop-i : goal.invariant-loop-i
invariant-loop-i l = record {
  within : l.i ≤ length l.segments;
  rest : loaded (drop l.i l.segments) l.bus.user ≡ loaded l.segments l.fn.bus.user;
}
