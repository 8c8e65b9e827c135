use Rattle.tether_traps.proofs.TrapAgreed as law
use Rattle.tether_traps.proofs.laws.handled_agree.Goals as goal

-- src/laws.rt
pub returns : goal.returns
returns c = law.handled_agree
