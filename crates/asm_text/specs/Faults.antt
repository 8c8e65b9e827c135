-- The numbers of faults.
use Rattle.std.specs.Prelude.{ℕ}
use Rattle.asm_text.specs.declared.fault.TextKind.{TextKind}
use Rattle.asm_text.specs.declared.fault.TextKind.TheVariants.{BadLine, UnknownName, BadRegister, BadNumber, BadLabel}

-- the number of a kind; of two faults at one place the one with the lowest number counts
abbrev pub number_of : TextKind → ℕ
number_of BadLine = 1
number_of UnknownName = 2
number_of BadRegister = 3
number_of BadNumber = 4
number_of BadLabel = 5
