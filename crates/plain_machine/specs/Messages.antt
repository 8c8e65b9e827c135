-- The last words of a program that a trap ends.
use Rattle.std.specs.Prelude.{ℕ, ◌==◌, ◌&&◌, not, nat_le, Bool, List, ◌++◌, codes}
use Rattle.fe_base.specs.Digits.{hexadecimal}
use Rattle.rv_decode.specs.Fields.{opcode, funct3, csr_at}

-- a trap at pc of a cause, by its number, and a value
abbrev pub trap_text : ℕ → ℕ → ℕ → List ℕ
trap_text cause pc value =
    codes "pk: trap " ++ (hexadecimal 2 cause
    ++ (codes " at " ++ (hexadecimal 16 pc ++ (codes " value " ++ (hexadecimal 16 value ++ codes "\n")))))

-- an instruction at pc that asks for a counter
abbrev pub counter_text : ℕ → List ℕ
counter_text pc = codes "pk: counter read at " ++ (hexadecimal 16 pc ++ codes "\n")

-- a CSR instruction for one of the 32 counters from cycle on: opcode SYSTEM, every funct3 but 0 and 4 (Unprivileged
-- ISA, Zicsr, CSR Instructions, and Zicntr)
abbrev pub is_counter_access : ℕ → Bool
is_counter_access word =
    opcode word == 0x73 && (not (funct3 word == 0) && not (funct3 word == 4))
    && (nat_le 0xc00 (csr_at word) && nat_le (csr_at word) 0xc1f)
