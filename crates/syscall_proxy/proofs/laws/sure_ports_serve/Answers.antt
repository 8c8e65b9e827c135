use Rattle.syscall_proxy.proofs.TableLaws.{ports_serve}
use Rattle.syscall_proxy.proofs.laws.sure_ports_serve.Goals as goal

pub returns : goal.returns
returns g c = ports_serve g.P.ChunkPort g.F.Folder g.I.Source g.C.Sink c.requires
