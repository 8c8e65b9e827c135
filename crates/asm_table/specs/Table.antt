-- The table of the names of instructions and directives, looked up by name.
use Rattle.std.specs.Prelude.{ℕ, List, [], ◌∷◌, Option, Some, None, if◌then◌else◌}
use Rattle.std.specs.Str.{bytes_eq}
use Rattle.asm_table.specs.Cuts.{before}
use Rattle.asm_table.specs.declared.mnemonics.Op.{Op}
use Rattle.asm_table.specs.declared.mnemonics.Mnemonic.{Mnemonic}
use Rattle.asm_table.specs.declared.mnemonics.TheConstants.{MNEMONICS}

-- what the first row of this name stands for
abbrev pub op_in : List Mnemonic → List ℕ → Option Op
op_in [] name = None
op_in (row ∷ rows) name = if bytes_eq (before 0 row.name) name then Some row.op else op_in rows name

-- what a name stands for
unfoldable pub op_of : List ℕ → Option Op
op_of name = op_in MNEMONICS name
