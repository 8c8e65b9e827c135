use Rattle.std.proofs.Common.{◌≡◌, ◌++◌, drop}
use Rattle.proxy_kernel.specs.Kernel.{items_of}
use Rattle.proxy_kernel.proofs.rows.items_from.Given as goal

abbrev pub invariant-loop-row : goal.invariant-loop-row
invariant-loop-row l = l.items ++ items_of (drop l.row-index l.rows) ≡ items_of l.rows
