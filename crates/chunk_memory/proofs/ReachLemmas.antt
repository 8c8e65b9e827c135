-- Accesses behind a step of the hart.
use Rattle.std.proofs.Common.{ℕ, List, ◌++◌}
use Rattle.fe_base.specs.Access.{Access}
use Rattle.chunk_memory.specs.Spelling.{StepsFirst}

module _ {V : Type 0} (ran : V → ℕ → V → Type 0) (reached : V → List Access → V → Type 0) (reached_then : (u v w : V) (xs ys : List Access) → reached u xs v → reached v ys w → reached u (xs ++ ys) w) where
  -- more accesses behind them
  pub steps-then : (u v w : V) (xs ys : List Access) → StepsFirst ran reached u xs v → reached v ys w → StepsFirst ran reached u (xs ++ ys) w
  steps-then u v w xs ys front rest = record {
    steps = front.steps;
    some = front.some;
    first = front.first;
    ran_so = front.ran_so;
    path = reached_then front.first v w xs ys front.path rest;
  }
