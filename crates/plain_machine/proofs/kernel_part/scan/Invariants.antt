use Rattle.std.proofs.Common.{◌≡◌, ◌≤◌, ◌-◌}
use Rattle.plain_machine.specs.KernelPart.{scan, greatest_path}
use Rattle.plain_machine.proofs.kernel_part.scan.Given as goal

abbrev pub invariant-loop-from : goal.invariant-loop-from
invariant-loop-from l = record {
  within : l.from ≤ greatest_path;
  rest : scan l.cpu.user l.path l.from (greatest_path - l.from) ≡ scan l.cpu.user l.path 0 greatest_path;
}
