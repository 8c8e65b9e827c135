use Rattle.std.proofs.Common.{◌≡◌, drop}
use Rattle.std.specs.List.{position_from}
use Rattle.elf_loader.specs.ProgramHeader.{is_cut}
use Rattle.elf_loader.proofs.check.first_cut.Given as goal

abbrev pub invariant-loop-i : goal.invariant-loop-i
invariant-loop-i l = position_from (is_cut l.file_length) 0 l.headers
    ≡ position_from (is_cut l.file_length) l.i (drop l.i l.headers)
