use Rattle.tether_traps.proofs.TrapLaws as law
use Rattle.tether_traps.proofs.laws.trap_steps_follow.Goals as goal

-- src/laws.rt
pub returns : goal.returns
returns c = law.trap_steps_follow
