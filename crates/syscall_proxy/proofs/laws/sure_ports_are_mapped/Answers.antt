use Rattle.syscall_proxy.proofs.TableLaws.{ports_are_sure}
use Rattle.syscall_proxy.proofs.laws.sure_ports_are_mapped.Goals as goal

pub returns : goal.returns
returns g c = ports_are_sure g.P.ChunkPort g.F.Folder g.I.Source g.C.Sink c.requires
