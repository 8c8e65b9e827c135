use Rattle.syscall_proxy.proofs.TableLaws.{results_are_small}
use Rattle.syscall_proxy.proofs.laws.results_are_small.Goals as goal

pub returns : goal.returns
returns c = results_are_small
