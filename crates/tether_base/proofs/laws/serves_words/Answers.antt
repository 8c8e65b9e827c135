use Rattle.tether_base.proofs.SessionLaws as law
use Rattle.tether_base.proofs.laws.serves_words.Goals as goal

-- src/laws.rt
pub returns : goal.returns
returns c = law.serves_words
