-- How many transactions a range takes at most, where a chunk of so many bytes takes so many.
use Rattle.std.specs.Prelude.{ℕ, zero, suc, ◌+◌, ◌-◌, ◌/◌, ◌%◌, min, if◌then◌else◌}
use Rattle.chunk_memory.specs.Transactions.{begins_in_part, chunk_size, step_size}

-- the sum over the steps of a range, each by its address and by how many bytes are left; fuel is at least that many
abbrev pub range_turns : (ℕ → ℕ → ℕ) → ℕ → ℕ → ℕ → ℕ → ℕ → ℕ
range_turns step unit most zero at zero = 0
range_turns step unit most zero at (suc count) = 0
range_turns step unit most (suc fuel) at zero = 0
range_turns step unit most (suc fuel) at (suc count) =
    step at (suc count) + range_turns step unit most fuel (at + step_size unit most at (suc count))
    (suc count - step_size unit most at (suc count))

-- a step of a read: one chunk
abbrev pub read_step : (ℕ → ℕ) → ℕ → ℕ → ℕ → ℕ → ℕ
read_step cost unit most at count = cost (chunk_size unit most at count)

-- a step of a write: one chunk, or the unit that is not whole read and written
abbrev pub write_step : (ℕ → ℕ) → ℕ → ℕ → ℕ → ℕ → ℕ
write_step cost unit most at count =
    if begins_in_part unit at count then cost unit + cost unit else cost (chunk_size unit most at count)

-- the most transactions of a read, and of a write
abbrev pub read_turns : (ℕ → ℕ) → ℕ → ℕ → ℕ → ℕ → ℕ
read_turns cost unit most at count = range_turns (read_step cost unit most) unit most count at count

abbrev pub write_turns : (ℕ → ℕ) → ℕ → ℕ → ℕ → ℕ → ℕ
write_turns cost unit most at count = range_turns (write_step cost unit most) unit most count at count

-- the doublewords that a range of some bytes meets, and how many of its ends do not fill theirs
abbrev pub doublewords_met : ℕ → ℕ → ℕ
doublewords_met at count = (at % 8 + count + 7) / 8

abbrev pub open_ends : ℕ → ℕ → ℕ
open_ends at count = min 1 (at % 8) + min 1 ((at + count) % 8)
