use Rattle.tether_traps.proofs.TrapAgreed as law
use Rattle.tether_traps.proofs.laws.bytes_are_noted.Goals as goal

-- src/laws.rt
pub returns : goal.returns
returns c = law.bytes_are_noted
