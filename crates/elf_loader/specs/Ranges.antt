-- Ranges of addresses, each given by its first address and its size.
use Rattle.std.specs.Prelude.{ℕ, ◌+◌, ◌&&◌, nat_le, nat_lt, Bool}

-- the address is one of the range
abbrev pub is_in_range : ℕ → ℕ → ℕ → Bool
is_in_range at start size = nat_le start at && nat_lt at (start + size)

-- of two ranges that are not empty, an address is in both
abbrev pub ranges_meet : ℕ → ℕ → ℕ → ℕ → Bool
ranges_meet start size start' size' = nat_lt start (start' + size') && nat_lt start' (start + size)
