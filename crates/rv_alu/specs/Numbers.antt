-- What the bits of a register stand for: a register is a number below 2 ^ 64, a word a number below 2 ^ 32.
use Rattle.std.specs.Prelude.{ℕ, ℤ, ◌-◌, ◌/◌, ◌%◌, ◌^◌, pos, Bool, if◌then◌else◌}
use Rattle.std.proofs.Common.{negsuc}
use Rattle.std.specs.Int.{cast_signed, w64, w32}

-- the signed number that a register stands for in two's complement (Unprivileged ISA, RV64I, Register State)
abbrev pub signed : ℕ → ℤ
signed a = cast_signed w64 a

-- the signed number that a word stands for in two's complement
abbrev pub signed_word : ℕ → ℤ
signed_word a = cast_signed w32 a

-- the register of a whole number: z modulo 2 ^ 64
abbrev pub register_of : ℤ → ℕ
register_of (pos n) = n % 2 ^ 64
register_of (negsuc n) = 2 ^ 64 - 1 - n % 2 ^ 64

-- the word of a whole number: z modulo 2 ^ 32
abbrev pub word_of : ℤ → ℕ
word_of (pos n) = n % 2 ^ 32
word_of (negsuc n) = 2 ^ 32 - 1 - n % 2 ^ 32

-- z divided by m, rounded down
abbrev pub floor_div : ℤ → ℕ → ℤ
floor_div (pos n) m = pos (n / m)
floor_div (negsuc n) m = negsuc (n / m)

-- the low word of a register
abbrev pub low_word : ℕ → ℕ
low_word a = a % 2 ^ 32

-- a word as a register, sign-extended (Unprivileged ISA, RV64I, Integer Computational Instructions)
abbrev pub extended_word : ℕ → ℕ
extended_word a = register_of (signed_word a)

-- what a comparison leaves in a register
abbrev pub bit : Bool → ℕ
bit b = if b then 1 else 0
