use Rattle.std.proofs.Common.{◌≡◌, ◌-◌, drop, length}
use Rattle.spike_front.specs.Words.{AreSound, no_options, plain_words}
use Rattle.spike_front.proofs.words.plain_words.Given as goal

abbrev pub invariant-options : goal.invariant-options
invariant-options l = record {
  read : plain_words no_options 1 (drop 1 l.words) ≡ plain_words l.options l.at (drop l.at l.words);
  sound : AreSound (length l.words) l.options;
}

abbrev pub decreases-options : goal.decreases-options
decreases-options l = length l.words - l.at
