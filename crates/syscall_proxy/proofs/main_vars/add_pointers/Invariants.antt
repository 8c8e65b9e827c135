use Rattle.std.proofs.Common.{◌≡◌, ◌+◌, ◌*◌, ◌++◌, drop, length}
use Rattle.elf_loader.specs.MainVars.{pointers}
use Rattle.syscall_proxy.proofs.main_vars.add_pointers.Given as goal

abbrev pub invariant-loop-i : goal.invariant-loop-i
invariant-loop-i l =
    (l.buffer ++ pointers l.at (drop l.i l.args) ≡ l.initial.buffer ++ pointers l.first l.args)
    × (length l.buffer ≡ length l.initial.buffer + 8 * l.i)
