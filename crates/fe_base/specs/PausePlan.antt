-- How many hart steps go before each turn of a target.
use Rattle.std.specs.Prelude.{ℕ, ◌+◌, ◌*◌, ◌%◌, ◌/◌, ◌^◌, ◌<◌, ◌≤◌, ⊤, List, length, slice_index, All}
use Rattle.fe_base.specs.Limits.{pause_limit}

-- the pauses of all turns: a list that begins anew behind its last value, or what a seed gives
pub data PausePlan : Type 0 where
  Listed : (values : List ℕ) → PausePlan
  Shuffled : (seed : ℕ) → PausePlan

-- the pause of a seed at a turn: one more than the upper three bits of a linear congruence of 64 bits (its multiplier
-- is that of Knuth's MMIX)
abbrev pub shuffled : ℕ → ℕ → ℕ
shuffled seed turn = 1 + (turn * 6364136223846793005 + seed) % 2 ^ 64 / 2 ^ 61

-- the pause before the turn of this number, counted from 0
abbrev pub pause_at : PausePlan → ℕ → ℕ
pause_at (Listed values) turn = slice_index values (turn % length values)
pause_at (Shuffled seed) turn = shuffled seed turn

-- a list has 1 to 64 values, each at most the limit
pub record IsPauseList (values : List ℕ) : Type 0 where
  pub some : 0 < length values
  pub few : length values ≤ 64
  pub short : All (λ value. value ≤ pause_limit) values

abbrev pub IsPausePlan : PausePlan → Type 0
IsPausePlan (Listed values) = IsPauseList values
IsPausePlan (Shuffled seed) = ⊤

-- before each turn there is a hart step
abbrev pub IsPositive : PausePlan → Type 0
IsPositive plan = (turn : ℕ) → 0 < pause_at plan turn
