use Rattle.std.proofs.Common.{◌≡◌, drop}
use Rattle.asm_table.specs.Table.{op_in}
use Rattle.asm_table.proofs.mnemonics.op_among.Given as goal

abbrev pub invariant-loop-row : goal.invariant-loop-row
invariant-loop-row l = op_in (drop l.row-index l.rows) l.name ≡ op_in l.rows l.name
