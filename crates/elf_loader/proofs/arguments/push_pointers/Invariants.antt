use Rattle.std.proofs.Common.{◌≡◌, ◌+◌, ◌++◌, drop}
use Rattle.fe_base.specs.WordLists.{strings_length}
use Rattle.elf_loader.specs.MainVars.{pointers}
use Rattle.elf_loader.proofs.arguments.push_pointers.Given as goal

abbrev pub invariant-loop-i : goal.invariant-loop-i
invariant-loop-i l =
    (l.bytes ++ pointers l.at (drop l.i l.args) ≡ l.initial.bytes ++ pointers l.first l.args)
    × (l.at + strings_length (drop l.i l.args) ≡ l.first + strings_length l.args)
