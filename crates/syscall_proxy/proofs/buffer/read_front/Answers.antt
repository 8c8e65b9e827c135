use Rattle.std.proofs.Common.{arith, ◌≡◌, ℕ, length, take, drop, Ok, Err, refl, ap}
use Rattle.std.proofs.lemmas.List.{length-take-le}
use Rattle.chunk_memory.specs.declared.stops.MemStop.TheVariants.{Unmapped}
use Rattle.host_text.specs.Outside.{HasRead}
use Rattle.syscall_proxy.proofs.Fronts.{same_count, read_front}
use Rattle.syscall_proxy.proofs.buffer.read_front.Goals as goal

pub returns-in-Ok-clause-ok : goal.returns-in-Ok-clause-ok
returns-in-Ok-clause-ok g c =
    let room : length (take c.args.count c.args.bytes.now) ≡ c.args.count =
    length-take-le c.args.count c.args.bytes.now c.requires.room in
    let size : length c.read.new.into ≡ c.args.count = omega (arith, c.read.auto.into, room) in
    read_front g.P.ChunkPort c.args.mem.now c.read.new.self c.args.at c.args.count c.read.new.into
    (drop c.args.count c.args.bytes.now) size
    (same_count g.P.ChunkPort c.args.mem.now c.read.new.self c.args.at
    (length (take c.args.count c.args.bytes.now)) c.args.count (Ok c.read.new.into) room
    (record {
      usable = c.in-Ok.ensures.usable;
      kept = c.in-Ok.ensures.kept;
      maps = c.in-Ok.ensures.maps;
      causes = c.in-Ok.ensures.causes;
      steady = c.in-Ok.ensures.steady;
      turns = c.in-Ok.ensures.turns;
      takes = c.in-Ok.ensures.takes;
      told = c.in-Ok.ensures.told;
      reached = c.in-Ok.ensures.reached;
      unmapped = λ a e. let no : ⊥ = cc in absurd no;
      empty = c.in-Ok.ensures.empty;
      empty_done = c.in-Ok.ensures.empty_done;
      bytes = c.read.auto.into;
    }))

pub returns-in-Err-clause-err : goal.returns-in-Err-clause-err
returns-in-Err-clause-err g c =
    let room : length (take c.args.count c.args.bytes.now) ≡ c.args.count =
    length-take-le c.args.count c.args.bytes.now c.requires.room in
    same_count g.P.ChunkPort c.args.mem.now c.read.new.self c.args.at
    (length (take c.args.count c.args.bytes.now)) c.args.count (Err c.in-Err.why) room
    (record {
      usable = c.in-Err.ensures.usable;
      kept = c.in-Err.ensures.kept;
      maps = c.in-Err.ensures.maps;
      causes = c.in-Err.ensures.causes;
      steady = c.in-Err.ensures.steady;
      turns = c.in-Err.ensures.turns;
      takes = c.in-Err.ensures.takes;
      told = c.in-Err.ensures.told;
      reached = c.in-Err.ensures.reached;
      unmapped = λ a e. let h : c.in-Err.why ≡ Unmapped a = cc in c.in-Err.ensures.unmapped a (ap Err h);
      empty = c.in-Err.ensures.empty;
      empty_done = c.in-Err.ensures.empty_done;
      bytes = tt;
    })
