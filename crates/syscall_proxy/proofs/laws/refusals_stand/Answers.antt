use Rattle.syscall_proxy.proofs.TableLaws.{refusals_stand}
use Rattle.syscall_proxy.proofs.laws.refusals_stand.Goals as goal

pub returns : goal.returns
returns g c =
    refusals_stand g.P.ChunkPort g.F.Folder g.I.Source g.C.Sink g.P.UserMemory.holds c.requires.reads c.requires.writes
    g.P.LeftMemory.left c.requires.leaves
