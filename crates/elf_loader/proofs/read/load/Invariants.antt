use Rattle.std.proofs.Common.{◌≡◌, ◌++◌, length, drop, map, filter, None}
use Rattle.std.specs.List.{position_from}
use Rattle.elf_loader.specs.ProgramHeader.{is_segment, is_cut, segment_of_header}
use Rattle.elf_loader.proofs.read.load.Given as goal

abbrev pub invariant-loop-i : goal.invariant-loop-i
invariant-loop-i l =
    (l.segments ++ map (segment_of_header l.file) (filter is_segment (drop l.i l.headers))
    ≡ map (segment_of_header l.file) (filter is_segment l.headers))
    × (position_from (is_cut (length l.file)) l.i (drop l.i l.headers) ≡ None)
