use Rattle.std.proofs.Common.{◌≡◌, drop}
use Rattle.std.specs.Prelude.{max}
use Rattle.elf_loader.specs.Segment.{greatest_end}
use Rattle.elf_loader.proofs.read.greatest_end.Given as goal

abbrev pub invariant-loop-i : goal.invariant-loop-i
invariant-loop-i l = max l.greatest (greatest_end (drop l.i l.segments)) ≡ greatest_end l.segments
