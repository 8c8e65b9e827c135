use Rattle.std.proofs.Common.{◌≡◌, drop}
use Rattle.std.specs.List.{list_any}
use Rattle.elf_loader.specs.ProgramHeader.{segment_holds}
use Rattle.elf_loader.proofs.check.any_holds.Given as goal

abbrev pub invariant-loop-i : goal.invariant-loop-i
invariant-loop-i l = list_any (segment_holds l.address) l.headers
    ≡ list_any (segment_holds l.address) (drop l.i l.headers)
