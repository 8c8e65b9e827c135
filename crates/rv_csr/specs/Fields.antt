-- Fields of registers.
use Rattle.std.specs.Prelude.{ℕ, ◌-◌, ◌/◌, ◌%◌, ◌^◌, ◌==◌, Bool, if◌then◌else◌}
use Rattle.rv_decode.specs.Alignment.{instruction_alignment}
use Rattle.rv_csr.specs.declared.privilege.Mode.{Mode}
use Rattle.rv_csr.specs.declared.privilege.Mode.TheVariants.{User, Machine}

-- the number that so many bits spell, from bit `low` upward
abbrev pub bits : ℕ → ℕ → ℕ → ℕ
bits number low count = number / 2 ^ low % 2 ^ count

-- a bit is 1
abbrev pub is_set : ℕ → ℕ → Bool
is_set number place = bits number place 1 == 1

-- a bit as a number
abbrev pub bit : Bool → ℕ
bit is = if is then 1 else 0

-- an address with its low two bits cleared
abbrev pub aligned : ℕ → ℕ
aligned address = address - address % 4

-- the last address up to this one at which an instruction may stand
abbrev pub instruction_aligned : ℕ → ℕ
instruction_aligned address = address - address % instruction_alignment

-- the two bits that stand for a mode (Privileged Architecture, 1.2)
abbrev pub mode_number : Mode → ℕ
mode_number User = 0
mode_number Machine = 3

-- the mode that two bits of a mode field are kept as: 1 and 2, which are no modes here, as 0 (Privileged Architecture,
-- 3.1.6.1, MPP is WARL)
abbrev pub kept_mode : ℕ → Mode
kept_mode number = if number == 3 then Machine else User
