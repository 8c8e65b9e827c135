use Rattle.std.proofs.Common.{◌≡◌, take}
use Rattle.fe_base.proofs.pauses.Pauses.list.Given as goal

abbrev pub invariant-loop-value : goal.invariant-loop-value
invariant-loop-value l = l.held.items ≡ take l.value-index l.values
