use Rattle.std.proofs.Common.{◌∙◌, sym}
use Rattle.rv_decode.proofs.Rows.{decoded, rows_decoded, one_row}
use Rattle.rv_decode.proofs.RowFits.{decoded-fits}
use Rattle.rv_decode.proofs.decoding.decode.Goals as goal

pub returns-clause-row : goal.returns-clause-row
returns-clause-row c insn = (λ e. decoded c.args.word insn (sym c.decode_opcode.ensures ∙ e), λ r. c.decode_opcode.ensures ∙ rows_decoded c.args.word insn r)

pub returns-clause-one_row : goal.returns-clause-one_row
returns-clause-one_row c one other = one_row c.args.word one other

pub returns-clause-in_range : goal.returns-clause-in_range
returns-clause-in_range c = decoded-fits c.args.word _ c.decode_opcode.ensures
