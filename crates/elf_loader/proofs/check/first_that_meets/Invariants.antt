use Rattle.std.proofs.Common.{◌≡◌, drop}
use Rattle.std.specs.List.{position_from}
use Rattle.elf_loader.specs.ProgramHeader.{segments_meet}
use Rattle.elf_loader.proofs.check.first_that_meets.Given as goal

abbrev pub invariant-loop-j : goal.invariant-loop-j
invariant-loop-j l = position_from (segments_meet l.header) l.from (drop l.from l.headers)
    ≡ position_from (segments_meet l.header) l.j (drop l.j l.headers)
