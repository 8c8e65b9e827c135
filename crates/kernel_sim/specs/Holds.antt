-- What it is that a phase holds.
use Rattle.rv_hart.specs.HartStep.{System}
use Rattle.kernel_sim.specs.declared.phase.Phase.{Phase}
use Rattle.kernel_sim.specs.Rows.{InEvery, SetRow, Row}
use Rattle.kernel_sim.specs.Stages.{Known}

-- the phase holds of a hart over its bus: the rows of its kind do, and the hart stands at a place of the kernel's code
-- of that kind (or in the program), where what is known of it in terms is so
pub record Holds (p : Phase) (sys : System) : Type 0 where
  pub every : InEvery p sys
  pub set : SetRow p.kind p sys
  pub row : Row p.kind p sys
  pub known : Known p sys
