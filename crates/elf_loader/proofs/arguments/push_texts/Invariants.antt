use Rattle.std.proofs.Common.{◌≡◌, ◌++◌, drop}
use Rattle.elf_loader.specs.MainVars.{texts_with_nuls}
use Rattle.elf_loader.proofs.arguments.push_texts.Given as goal

abbrev pub invariant-loop-i : goal.invariant-loop-i
invariant-loop-i l = l.bytes ++ texts_with_nuls (drop l.i l.args) ≡ l.initial.bytes ++ texts_with_nuls l.args
