use Rattle.std.proofs.Common.{◌≡◌, drop}
use Rattle.std.specs.List.{list_any}
use Rattle.elf_loader.specs.ProgramHeader.{is_dynamic}
use Rattle.elf_loader.proofs.check.any_dynamic.Given as goal

abbrev pub invariant-loop-i : goal.invariant-loop-i
invariant-loop-i l = list_any is_dynamic l.headers ≡ list_any is_dynamic (drop l.i l.headers)
