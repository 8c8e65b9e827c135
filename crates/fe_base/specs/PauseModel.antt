-- The pauses that a value of the code stands for.
use Rattle.fe_base.specs.PausePlan.{PausePlan, Listed, Shuffled}
use Rattle.fe_base.specs.declared.pauses.Plan.{Plan}
use Rattle.fe_base.specs.declared.pauses.Plan.TheVariants.{List, Shuffle}

-- a list's values, or the seed
abbrev pub plan_of : Plan → PausePlan
plan_of (List values) = Listed values.items
plan_of (Shuffle seed) = Shuffled seed
