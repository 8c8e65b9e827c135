-- The bus of the target: two areas of RAM and the start word.
use Rattle.std.specs.Prelude.{◌≡◌, ◌<◌, ◌^◌, ℕ, ◌-◌, ◌==◌, nat_lt, if◌then◌else◌, Option, List, length, take, drop}
use Rattle.core.specs.Bool.{then_some}
pub use Rattle.fe_base.specs.MemoryMap.{is_within, is_ram, is_mapped, is_beat}
use Rattle.fe_base.specs.MemoryMap.{user_start, user_end, start_word, kernel_start, kernel_end}
use Rattle.guest_memory.specs.Memory.{zeros, load, store, with_part, AreBytes}

-- how many bytes the user area has; unfoldable, so that no proof counts them out
unfoldable pub user_size : ℕ
user_size = user_end - user_start

-- how many bytes the kernel area has; unfoldable, so that no proof counts them out
unfoldable pub kernel_size : ℕ
kernel_size = kernel_end - kernel_start

-- what the bus holds: the bytes of the user area and of the kernel area, and the start word
pub record BusState : Type 0 where
  pub user : List ℕ
  pub kernel : List ℕ
  pub start : ℕ

-- the bus at reset: all zero
abbrev pub reset_bus : BusState
reset_bus = record { user = zeros user_size; kernel = zeros kernel_size; start = 0 }

-- the areas have their sizes and hold bytes, and the start word has 64 bits
pub record IsBus (bus : BusState) : Type 0 where
  pub user_length : length bus.user ≡ user_size
  pub kernel_length : length bus.kernel ≡ kernel_size
  pub user_bytes : AreBytes bus.user
  pub kernel_bytes : AreBytes bus.kernel
  pub start_bits : bus.start < 2 ^ 64

-- the area of an address in RAM
abbrev pub area : BusState → ℕ → List ℕ
area bus at = if nat_lt at kernel_start then bus.user else bus.kernel

-- the place in its area of an address in RAM
abbrev pub offset : ℕ → ℕ
offset at = if nat_lt at kernel_start then at - user_start else at - kernel_start

-- the bus with other bytes in the area of an address in RAM; all else stays
abbrev pub with_area : BusState → ℕ → List ℕ → BusState
with_area bus at bytes = if nat_lt at kernel_start then record bus { user = bytes } else record bus { kernel = bytes }

-- the number that a width of bytes from an address in RAM on spell, little endian
unfoldable pub bus_load : BusState → ℕ → ℕ → ℕ
bus_load bus at width = load (area bus at) (offset at) width

-- the bus with the low bytes of a value from an address in RAM on, little endian
unfoldable pub bus_store : BusState → ℕ → ℕ → ℕ → BusState
bus_store bus at width value = with_area bus at (store (area bus at) (offset at) width value)

-- n bytes from an address in RAM on
unfoldable pub bus_bytes : BusState → ℕ → ℕ → List ℕ
bus_bytes bus at n = take n (drop (offset at) (area bus at))

-- the bus with others in the place of its bytes from an address in RAM on
unfoldable pub with_bus_bytes : BusState → ℕ → List ℕ → BusState
with_bus_bytes bus at bytes = with_area bus at (with_part (area bus at) (offset at) bytes)

-- the doubleword at an address, where there is one
unfoldable pub beat : BusState → ℕ → Option ℕ
beat bus at = then_some (is_beat at) (if at == start_word then bus.start else bus_load bus at 8)

-- the bus with another doubleword at an address, where there is one; else it is as it was
unfoldable pub with_beat : BusState → ℕ → ℕ → BusState
with_beat bus at value =
    if is_beat at then (if at == start_word then record bus { start = value } else bus_store bus at 8 value) else bus
