use Rattle.std.proofs.Common.{arith, ◌≡◌, length, take, drop}
use Rattle.std.proofs.lemmas.List.{length-take-le}
use Rattle.syscall_proxy.proofs.Fronts.{taken_front}
use Rattle.syscall_proxy.proofs.buffer.take_front.Goals as goal

pub returns-in-Ok-clause-ok : goal.returns-in-Ok-clause-ok
returns-in-Ok-clause-ok g c =
    let room : length (take c.args.count c.args.bytes.now) ≡ c.args.count =
    length-take-le c.args.count c.args.bytes.now c.requires in
    taken_front g.I.Source c.args.input.now c.take.new.self c.args.count c.in-Ok.taken
    (take c.args.count c.args.bytes.now) c.take.new.into (drop c.args.count c.args.bytes.now)
    room c.take.auto.into c.in-Ok.ensures.bound c.in-Ok.ensures.bytes c.in-Ok.ensures.untold c.in-Ok.ensures.cause
    c.in-Ok.ensures.steady
