-- What a memory is once a part of it was lent.
use Rattle.std.specs.Prelude.{ℕ, List, take}
use Rattle.std.specs.Borrow.{Lends, MutBor, Fml, u8}
use denote.Array.{Array}
use Rattle.guest_memory.specs.Memory.{with_part}
use Rattle.guest_memory.specs.contracts.ram.Ram.{the_row}

-- r is the n bytes from `at` on, and the memory ends with the last bytes there
abbrev pub LendsPart : MutBor (List ℕ) → ℕ → ℕ → MutBor (List ℕ) → Fml
LendsPart m at n r = Lends the_row (Array u8 0) m r (λ ws. with_part m.now at (take n ws))
