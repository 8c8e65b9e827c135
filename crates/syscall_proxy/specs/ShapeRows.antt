-- Shapes of rows, from their parts.
use Rattle.std.specs.Prelude.{◌≡◌, ℕ, Bool, true, false, List, if◌then◌else◌}
use Rattle.std.proofs.Common.{refl}
use Rattle.host_text.specs.Shapes.{Closes}
use Rattle.host_text.specs.declared.open_numbers.Open.{Open}
use Rattle.syscall_proxy.specs.Kept.{Kept, acts, opens}
use Rattle.syscall_proxy.specs.Rows.{Row, done}
use Rattle.syscall_proxy.specs.RowShapes.{stops, Marks, IsResult, IsRow, StaysInside}

-- by a test
pub row-if : (b : Bool) (one other : Row) → IsRow one → IsRow other → IsRow (if b then one else other)
row-if true one other p q = p
row-if false one other p q = q

-- the call acts by its result
pub by_result : Marks acts
by_result = record { acted = λ k. refl; waiting = λ k w. refl }

-- and something else stands at a number
pub by_opens : (fd : ℕ) (stands : Open) → Marks (opens fd stands)
by_opens fd stands = record { acted = λ k. refl; waiting = λ k w. refl }

-- a call that is done is a row
pub done-row : (value : ℕ) → IsRow (done value)
done-row value = (by_result, tt)

-- and ends one
pub done-closes : (value : ℕ) → Closes stops Marks IsResult (done value)
done-closes value = (by_result, tt)

-- a row by a test stays inside
pub inside-if : (b : Bool) (one other : Row) → StaysInside one → StaysInside other
    → StaysInside (if b then one else other)
inside-if true one other p q = p
inside-if false one other p q = q
