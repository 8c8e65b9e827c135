-- The fields of the words in tohost and fromhost (HTIF of riscv-isa-sim's fesvr).
use Rattle.std.specs.Prelude.{ℕ, ◌+◌, ◌*◌, ◌/◌, ◌%◌, ◌^◌}

-- bits 63 to 56
abbrev pub device_of : ℕ → ℕ
device_of word = word / 2 ^ 56

-- bits 55 to 48
abbrev pub command_of : ℕ → ℕ
command_of word = word / 2 ^ 48 % 256

-- bits 47 to 0
abbrev pub payload_of : ℕ → ℕ
payload_of word = word % 2 ^ 48

-- a word of these fields
abbrev pub from_host : ℕ → ℕ → ℕ → ℕ
from_host device command payload = device * 2 ^ 56 + command * 2 ^ 48 + payload
