-- A part of a program that stands in memory before its first step.
use Rattle.std.specs.Prelude.{ℕ, ◌+◌, max, Bool, List, [], ◌∷◌, slice_index_or}
use Rattle.std.specs.Int.{next_multiple_of}
use Rattle.elf_loader.specs.Ranges.{is_in_range, ranges_meet}

-- where it begins, how many bytes of memory it takes, and the file's bytes that stand first in it; zeros follow
pub record Segment : Type 0 where
  pub address : ℕ
  pub size : ℕ
  pub bytes : List ℕ

-- the first address behind it
abbrev pub end_of : Segment → ℕ
end_of s = s.address + s.size

-- the address is one of its bytes
abbrev pub holds : ℕ → Segment → Bool
holds at s = is_in_range at s.address s.size

-- an address is in both
abbrev pub meets : Segment → Segment → Bool
meets a b = ranges_meet a.address a.size b.address b.size

-- the first address behind them all, and 0 for none
abbrev pub greatest_end : List Segment → ℕ
greatest_end [] = 0
greatest_end (s ∷ ss) = max (end_of s) (greatest_end ss)

-- where a program's heap begins: behind its segments, at the next multiple of 16
abbrev pub first_break_of : List Segment → ℕ
first_break_of segments = next_multiple_of (greatest_end segments) 16

-- the segment at a place of the list
abbrev pub segment_at : List Segment → ℕ → Segment
segment_at segments i = slice_index_or segments i (record { address = 0; size = 0; bytes = [] })
