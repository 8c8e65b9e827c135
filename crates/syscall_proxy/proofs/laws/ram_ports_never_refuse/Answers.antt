use Rattle.std.proofs.Common.{refl}
use Rattle.syscall_proxy.proofs.laws.ram_ports_never_refuse.Goals as goal

pub returns : goal.returns
returns c = record { tells = λ x. (_, refl); never = λ before chunk stop after no. no }
