use Rattle.syscall_proxy.proofs.TableLaws.{calls_are_rows}
use Rattle.syscall_proxy.proofs.laws.calls_are_rows.Goals as goal

pub returns : goal.returns
returns g c =
    calls_are_rows g.P.ChunkPort g.F.Folder g.I.Source g.C.Sink g.P.UserMemory.holds c.requires.reads c.requires.writes
