use Rattle.syscall_proxy.proofs.TableLaws.{rows_stay_inside}
use Rattle.syscall_proxy.proofs.laws.rows_stay_inside.Goals as goal

pub returns : goal.returns
returns c = rows_stay_inside
