-- What differs from one kind of program to another: where its segments may stand, and where it may begin.
use Rattle.std.specs.Prelude.{ℕ, ◌+◌, ◌%◌, ◌==◌, ◌&&◌, nat_le, Bool, List, [], ◌∷◌}
use Rattle.std.specs.List.{list_any}
use Rattle.fe_base.specs.Limits.{stack_top}
use Rattle.fe_base.specs.MemoryMap.{user_start}
use Rattle.elf_loader.specs.declared.area.Area.{Area}

-- the areas in one of which each segment has to stand whole, and the addresses at which a program may begin
pub record Rules : Type 0 where
  pub areas : List Area
  pub may_enter : ℕ → Bool

-- rules by which a program begins at a multiple of this
abbrev pub aligned_rules : List Area → ℕ → Rules
aligned_rules areas alignment = record { areas = areas; may_enter = λ entry. entry % alignment == 0 }

-- a range of addresses, given by its first one and its size, lies in an area
abbrev pub lies_in : ℕ → ℕ → Area → Bool
lies_in start size area = nat_le area.start start && nat_le (start + size) area.end

-- a range lies in one of the areas
abbrev pub is_inside : List Area → ℕ → ℕ → Bool
is_inside areas start size = list_any (lies_in start size) areas

-- a program for the kernel begins at a multiple of this (Unprivileged ISA, 1.5: IALIGN is 32 bits)
abbrev pub entry_alignment : ℕ
entry_alignment = 4

-- the rules for a program that the kernel runs: it stands in the user area, below the stack
unfoldable pub user_rules : Rules
user_rules = aligned_rules (record { start = user_start; end = stack_top } ∷ []) entry_alignment
