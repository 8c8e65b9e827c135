-- The laws of loads and stores.
use Rattle.std.specs.Prelude.{◌≡◌, ℕ, ◌+◌, ◌^◌, ◌%◌, ◌≤◌, ◌⊎◌, List, length}
use Rattle.guest_memory.specs.Memory.{load, store}

-- a store outside a range leaves what the range loads
abbrev pub StoresLeave : Type 0
StoresLeave = (memory : List ℕ) (at width value from size : ℕ) → at + width ≤ length memory → (from + size ≤ at) ⊎ (at + width ≤ from)
    → load (store memory at width value) from size ≡ load memory from size

-- a load of what was stored gives it, modulo what so many bytes hold
abbrev pub LoadsGive : Type 0
LoadsGive = (memory : List ℕ) (at width value : ℕ) → at + width ≤ length memory
    → load (store memory at width value) at width ≡ value % 256 ^ width
