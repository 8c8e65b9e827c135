-- Where the segments of a program that the kernel runs stand: in the user area, below the stack.
use Rattle.std.proofs.Common.{◌≡◌, ◌≤◌, ◌+◌, ℕ, suc, true, List, [], ◌∷◌, length, arith}
use Rattle.std.specs.Prelude.{All}
use Rattle.std.proofs.lemmas.Bool.Decides.{nat_tests}
use Rattle.fe_base.specs.Limits.{stack_top}
use Rattle.fe_base.specs.MemoryMap.{user_start}
use Rattle.elf_loader.specs.Rules.{is_inside, user_rules}
use Rattle.elf_loader.specs.Segment.{Segment, end_of, greatest_end}
use Rattle.elf_loader.specs.ElfFile.{IsFitSegment}

in_user_area : (start size : ℕ) → is_inside user_rules.areas start size ≡ true
    → (user_start ≤ start) × (start + size ≤ stack_top)
unfolding user_rules
in_user_area start size h = (grind (arith, nat_tests), grind (arith, nat_tests))

-- none begins before the area
pub begin_inside : (ss : List Segment) → All (IsFitSegment user_rules.areas) ss → All (λ s. user_start ≤ s.address) ss
begin_inside ss fit = λ k d h. (in_user_area _ _ (fit k d h).inside).0

-- none ends behind the stack's top
pub end_inside : (ss : List Segment) → All (IsFitSegment user_rules.areas) ss → All (λ s. end_of s ≤ stack_top) ss
end_inside ss fit = λ k d h. (in_user_area _ _ (fit k d h).inside).1

-- nor do the bytes of the file
pub bytes_end_inside : (ss : List Segment) → All (IsFitSegment user_rules.areas) ss
    → All (λ s. s.address + length s.bytes ≤ stack_top) ss
bytes_end_inside ss fit = λ k d h. omega (arith, (in_user_area _ _ (fit k d h).inside).1, (fit k d h).fits)

-- so the greatest end is not behind it
pub greatest_end-le : (ss : List Segment) → All (λ s. end_of s ≤ stack_top) ss → greatest_end ss ≤ stack_top
greatest_end-le [] below = omega arith
greatest_end-le (s ∷ ss) below =
    let first = below 0 s (omega arith) in
    let rest = greatest_end-le ss (λ k d h. below (suc k) d (omega arith)) in
    omega (arith, first, rest)
