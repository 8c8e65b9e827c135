use Rattle.std.proofs.Common.{◌≡◌, drop}
use Rattle.asm_table.specs.Registers.{register_in}
use Rattle.asm_table.proofs.registers.number_among.Given as goal

abbrev pub invariant-loop-row : goal.invariant-loop-row
invariant-loop-row l = register_in (drop l.row-index l.rows) l.name ≡ register_in l.rows l.name
