use Rattle.syscall_proxy.proofs.TableLaws.{rows_keep_worlds}
use Rattle.syscall_proxy.proofs.laws.rows_keep_worlds.Goals as goal

pub returns : goal.returns
returns c = rows_keep_worlds
