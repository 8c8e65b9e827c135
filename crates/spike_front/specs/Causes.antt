-- Why a fault is answered: the count of the object's faults.
use Rattle.std.specs.Prelude.{◌≤◌, ℕ}
use Rattle.fe_base.specs.Outside.{Rose}

-- an object's count of faults never falls, and it rose where this fault was answered
pub record RoseFor (fault : Type 0) (before now : ℕ) : Type 0 where
  pub later : before ≤ now
  pub rose : fault → Rose before now
