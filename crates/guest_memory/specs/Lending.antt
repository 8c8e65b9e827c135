-- What a block is once some of its bytes were lent.
use Rattle.std.specs.Prelude.{ℕ, List, take}
use Rattle.std.specs.Borrow.{Lends, MutBor, Fml, u8}
use denote.Array.{Array}
use Rattle.guest_memory.specs.Memory.{with_part}
use Rattle.guest_memory.specs.declared.block.Block.{Block}
use Rattle.guest_memory.specs.contracts.block.Block.{the_row}

-- a block with other bytes
abbrev pub with_bytes : Block → List ℕ → Block
with_bytes b ws = record b { bytes = ws }

-- r is the n bytes from `at` on, and b ends with the last bytes there
abbrev pub LendsSome : MutBor Block → ℕ → ℕ → MutBor (List ℕ) → Fml
LendsSome b at n r = Lends the_row (Array u8 0) b r (λ ws. with_bytes b.now (with_part b.now.bytes at (take n ws)))
