-- Where instructions may stand.
use Rattle.std.specs.Prelude.{ℕ}
use Rattle.rv_decode.specs.declared.instruction.TheConstants.{INSTRUCTION_ALIGNMENT}

-- an instruction's address is a multiple of this (Unprivileged ISA, 1.5, IALIGN, in bytes)
abbrev pub instruction_alignment : ℕ
instruction_alignment = INSTRUCTION_ALIGNMENT
