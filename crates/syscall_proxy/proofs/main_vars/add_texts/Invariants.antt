use Rattle.std.proofs.Common.{◌≡◌, ◌+◌, ◌++◌, drop, length}
use Rattle.elf_loader.specs.MainVars.{texts_with_nuls}
use Rattle.fe_base.specs.WordLists.{strings_length}
use Rattle.syscall_proxy.proofs.main_vars.add_texts.Given as goal

abbrev pub invariant-loop-i : goal.invariant-loop-i
invariant-loop-i l =
    (l.buffer ++ texts_with_nuls (drop l.i l.args) ≡ l.initial.buffer ++ texts_with_nuls l.args)
    × (length l.buffer + strings_length (drop l.i l.args) ≡ length l.initial.buffer + strings_length l.args)
