use Rattle.std.proofs.Common.{arith, ◌≡◌, length, take, drop}
use Rattle.std.proofs.lemmas.List.{length-take-le}
use Rattle.syscall_proxy.proofs.Fronts.{file_front}
use Rattle.syscall_proxy.proofs.buffer.read_file_front.Goals as goal

pub returns-in-Ok-clause-ok : goal.returns-in-Ok-clause-ok
returns-in-Ok-clause-ok g c =
    let room : length (take c.args.count c.args.bytes.now) ≡ c.args.count =
    length-take-le c.args.count c.args.bytes.now c.requires in
    file_front g.F.Folder c.args.folder.now c.read_at.new.self c.args.number c.args.place c.args.count
    (length (take c.args.count c.args.bytes.now)) c.in-Ok.moved c.read_at.new.into
    (drop c.args.count c.args.bytes.now)
    room c.read_at.auto.into c.in-Ok.ensures.bound c.in-Ok.ensures.tree c.in-Ok.ensures.untold c.in-Ok.ensures.cause c.in-Ok.ensures.steady
