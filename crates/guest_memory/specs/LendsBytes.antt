-- What a bus is once some of its bytes were lent.
use Rattle.std.specs.Prelude.{ℕ, List, take}
use Rattle.std.specs.Borrow.{Lends, MutBor, Fml, u8}
use denote.Array.{Array}
use Rattle.guest_memory.specs.Bus.{BusState, with_bus_bytes}
use Rattle.guest_memory.specs.contracts.bus.Bus.{the_row}

-- r is the n bytes from the address on, and the bus ends with the last bytes there
abbrev pub LendsBytes : MutBor BusState → ℕ → ℕ → MutBor (List ℕ) → Fml
LendsBytes bus at n r = Lends the_row (Array u8 0) bus r (λ bytes. with_bus_bytes bus.now at (take n bytes))
