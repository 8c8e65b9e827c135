use Rattle.syscall_proxy.proofs.TableLaws.{rows_end}
use Rattle.syscall_proxy.proofs.laws.rows_end.Goals as goal

pub returns : goal.returns
returns c = rows_end
