use Rattle.syscall_proxy.proofs.TableLaws.{rows_act_once}
use Rattle.syscall_proxy.proofs.laws.rows_act_once.Goals as goal

pub returns : goal.returns
returns c = rows_act_once
