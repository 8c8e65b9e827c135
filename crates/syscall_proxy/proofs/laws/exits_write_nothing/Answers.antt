use Rattle.syscall_proxy.proofs.TableLaws.{exits_write_nothing}
use Rattle.syscall_proxy.proofs.laws.exits_write_nothing.Goals as goal

pub returns : goal.returns
returns c = exits_write_nothing
