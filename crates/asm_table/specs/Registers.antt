-- The table of registers, looked up by name (RISC-V calling convention, integer registers).
use Rattle.std.specs.Prelude.{ℕ, List, [], ◌∷◌, Option, Some, None, if◌then◌else◌}
use Rattle.std.specs.Str.{bytes_eq}
use Rattle.asm_table.specs.Cuts.{before}
use Rattle.asm_table.specs.declared.registers.Register.{Register}
use Rattle.asm_table.specs.declared.registers.TheConstants.{REGISTERS}

-- the number of the first register of this name
abbrev pub register_in : List Register → List ℕ → Option ℕ
register_in [] name = None
register_in (row ∷ rows) name = if bytes_eq (before 0 row.name) name then Some row.number else register_in rows name

-- the number of a register
unfoldable pub register_of : List ℕ → Option ℕ
register_of name = register_in REGISTERS name
