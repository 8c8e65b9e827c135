use Rattle.std.proofs.Common.{◌≡◌, ◌+◌, drop}
use Rattle.fe_base.specs.WordLists.{main_vars_length, strings_length}
use Rattle.elf_loader.proofs.arguments.main_vars_len.Given as goal

abbrev pub invariant-loop-i : goal.invariant-loop-i
invariant-loop-i l = l.length + strings_length (drop l.i l.args) ≡ main_vars_length l.args
