use Rattle.tether_traps.proofs.TrapAgreed as law
use Rattle.tether_traps.proofs.laws.exits_agree.Goals as goal

-- src/laws.rt
pub returns : goal.returns
returns c = law.exits_agree
