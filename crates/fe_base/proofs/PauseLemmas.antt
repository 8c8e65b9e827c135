-- Pauses within their limit.
use Rattle.std.proofs.Common.{◌≤◌, ◌<◌, ◌%◌, ℕ, length, arith}
use Rattle.std.proofs.lemmas.List.Elements.{All-get_or}
use Rattle.fe_base.specs.Limits.{pause_limit}
use Rattle.fe_base.specs.PausePlan.{PausePlan, Listed, Shuffled, IsPausePlan, pause_at}

-- each pause is at most the limit
pub pause_at-le : (plan : PausePlan) (turn : ℕ) → IsPausePlan plan → pause_at plan turn ≤ pause_limit
pause_at-le (Listed values) turn is =
    let some : 0 < length values = is.some in
    let inside : turn % length values < length values = omega arith in
    All-get_or (λ (value : ℕ). value ≤ pause_limit) values (turn % length values) 0 inside is.short
pause_at-le (Shuffled seed) turn is = omega arith
