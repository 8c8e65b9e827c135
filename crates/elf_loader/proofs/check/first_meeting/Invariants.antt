use Rattle.std.proofs.Common.{◌≡◌, drop}
use Rattle.elf_loader.specs.ElfFile.{first_meeting}
use Rattle.elf_loader.proofs.check.first_meeting.Given as goal

abbrev pub invariant-loop-i : goal.invariant-loop-i
invariant-loop-i l = first_meeting 0 l.headers ≡ first_meeting l.i (drop l.i l.headers)
