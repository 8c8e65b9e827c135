use Rattle.tether_traps.proofs.TrapLaws as law
use Rattle.tether_traps.proofs.laws.trap_hands_stay.Goals as goal

-- src/laws.rt
pub returns : goal.returns
returns c = law.trap_hands_stay
