use Rattle.std.proofs.Common.{◌≡◌, ℕ, ◌<◌, length, get_or}
use Rattle.kernel_sim.proofs.steps.registers.Given as goal

abbrev pub invariant-loop-n : goal.invariant-loop-n
invariant-loop-n l = (length l.registers ≡ 32) × ((k : ℕ) → k < l.n → get_or l.registers k 0 ≡ get_or l.hart.registers k 0)
