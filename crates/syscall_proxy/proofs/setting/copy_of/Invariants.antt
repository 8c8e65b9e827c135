use Rattle.std.proofs.Common.{◌≡◌, ◌++◌, drop}
use Rattle.syscall_proxy.proofs.setting.copy_of.Given as goal

abbrev pub invariant-loop-i : goal.invariant-loop-i
invariant-loop-i l = l.copy ++ drop l.i l.texts ≡ l.texts
