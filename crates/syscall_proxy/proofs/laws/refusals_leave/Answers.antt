use Rattle.syscall_proxy.proofs.TableLaws.{refusals_leave}
use Rattle.syscall_proxy.proofs.laws.refusals_leave.Goals as goal

pub returns : goal.returns
returns g c =
    refusals_leave g.P.ChunkPort g.F.Folder g.I.Source g.C.Sink g.P.UserMemory.holds c.requires.reads c.requires.writes
    c.requires.sure
