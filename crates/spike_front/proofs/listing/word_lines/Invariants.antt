use Rattle.std.proofs.Common.{◌≡◌, ◌≤◌, ◌++◌, ◌-◌, drop, length}
use Rattle.spike_front.specs.Listings.{word_lines}
use Rattle.spike_front.proofs.listing.word_lines.Given as goal

abbrev pub invariant-words : goal.invariant-words
invariant-words l = record {
  within : l.at ≤ length l.bytes;
  done : word_lines l.bytes ≡ l.text ++ word_lines (drop l.at l.bytes);
}

abbrev pub decreases-words : goal.decreases-words
decreases-words l = length l.bytes - l.at
