use Rattle.tether_traps.proofs.TrapLaws as law
use Rattle.tether_traps.proofs.laws.words_are_handled.Goals as goal

-- src/laws.rt
pub returns : goal.returns
returns c = law.words_are_handled
