use Rattle.rv_decode.proofs.Rows.{rows_decoded}
use Rattle.rv_decode.proofs.encoding.encode.Goals as goal

pub returns-clause-decoded : goal.returns-clause-decoded
returns-clause-decoded c = rows_decoded _ c.args.insn c.row_word.ensures
