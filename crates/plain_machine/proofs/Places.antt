-- The first byte outside the user area, by the area's ends.
use Rattle.std.proofs.Common.{◌≡◌, ℕ, zero, suc, ◌+◌, ◌^◌, ◌<◌, ◌≤◌, Option, Some, None, if◌then◌else◌, nat_le, arith}
use Rattle.std.proofs.lemmas.Bool.Decides.{nat_tests}
use Rattle.fe_base.specs.ByteRanges.{next_byte, first_failing}
use Rattle.plain_machine.specs.UserStep.{is_user, outside}

step-closed : (a w : ℕ) (r : Option ℕ) → w < 2 ^ 32 →
    r ≡ (if is_user (next_byte a) then (if nat_le (next_byte a + suc w) 0x1010000 then None else Some 0x1010000) else Some (next_byte a)) →
    (if is_user a then r else Some a) ≡ (if is_user a then (if nat_le (a + suc (suc w)) 0x1010000 then None else Some 0x1010000) else Some a)
step-closed a w r l e = grind (arith, nat_tests)

pub closed : (a w : ℕ) → w < 2 ^ 32 → first_failing is_user a (suc w) ≡ (if is_user a then (if nat_le (a + suc w) 0x1010000 then None else Some 0x1010000) else Some a)
closed a zero l = grind (arith, nat_tests)
closed a (suc w) l = step-closed a w _ (omega arith) (closed (next_byte a) w (omega arith))

pub outside-by_ends : (a w : ℕ) → 0 < w → w ≤ 8 → outside a w ≡ (if is_user a then (if nat_le (a + w) 0x1010000 then None else Some 0x1010000) else Some a)
unfolding outside
outside-by_ends a zero p q = absurd (omega arith)
outside-by_ends a (suc w) p q = closed a w (omega arith)

pub ruleset outside_lemmas = (outside-by_ends, nat_tests)
