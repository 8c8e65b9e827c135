use Rattle.std.proofs.Common.{◌≡◌, ℕ, ◌+◌, ◌≤◌, List, length, take, drop, Result, Err, sym, ap, subst, ◌∙◌, arith, rules, ◌/◌}
use Rattle.std.proofs.lemmas.List.{take_rest}
use Rattle.std.proofs.lemmas.Result.{err_from_is_err_and}
use Rattle.byteorder.specs.Endian.{little_number}
use Rattle.fe_base.specs.Beats.{WriteBeat}
use Rattle.fe_base.specs.Wires.{OnTold, Asked}
use Rattle.fe_base.specs.declared.wires.WireStop.{WireStop}
use Rattle.chunk_memory.proofs.DirectLemmas.{written-one, write-refused, count-one, takes-ok, takes-err}
use Rattle.chunk_memory.proofs.ToldLemmas.{told-then}
use Rattle.chunk_memory.proofs.WordLemmas.{AreSmall}
use Rattle.chunk_memory.specs.BeatChunks.{WrittenByBeats, DirectOne, DirectRefused, of_wire, wire_counts}
use Rattle.chunk_memory.specs.Ports.{ChunkWritten, PortTakes}
use Rattle.chunk_memory.specs.declared.stops.PortStop.{PortStop}
use Rattle.std.specs.Result.{result_err}
use Rattle.chunk_memory.proofs.direct_port.write_beats.Goals as goal

pub returns-in_err-write_beat-clause-told : goal.returns-in_err-write_beat-clause-told
returns-in_err-write_beat-clause-told g c =
    let W = g.W.BeatWire in
    let bytes : List ℕ = c.args.from.now in
    let done : ℕ = c.loop-done.done in
    let at : ℕ = c.args.at in
    let value : ℕ = c.read_u64-value.result in
    let small : AreSmall bytes = search rules in
    let is : value ≡ little_number 8 (drop done bytes) = c.read_u64-value.ensures ∙ ap (λ (l : List ℕ). little_number 8 l) (take_rest bytes done) in
    let room : done + 8 ≤ length bytes = omega (arith, c.requires.chunk.whole, c.loop-done.invariant.count.whole, c.loop-done-test.true) in
    let stop : WireStop = c.in_err-write_beat.field-0.0 in
    let failed = err_from_is_err_and c.from_residual.result c.from_residual.ensures.1 in
    subst (λ (r : Result Unit PortStop). OnTold (W.told c.args.wire.now) (W.told c.write_beat.new.self) (ChunkWritten (DirectOne W.next) (DirectRefused W.next W.lost) at bytes r)) (sym (failed.1 ∙ ap Err failed.2))
    (told-then (W.told c.args.wire.now) (W.told c.loop-done.wire) (W.told c.write_beat.new.self)
    (WrittenByBeats W.next at (take done bytes)) (Asked W.next W.lost (WriteBeat (at + done) value) (λ (u : Unit {0}). 0) (Err stop)) (ChunkWritten {T = Unit {0}} (DirectOne W.next) (DirectRefused W.next W.lost) at bytes (Err (of_wire stop)))
    (λ a m n so_far asked. write-refused W.next W.lost at done value bytes stop a m n small room c.requires.chunk.whole is so_far asked)
    c.loop-done.invariant.told c.in_err-write_beat.ensures.told)

pub loop-done-preserved : goal.loop-done-preserved
loop-done-preserved g c =
    let W = g.W.BeatWire in
    let bytes : List ℕ = c.args.from.now in
    let done : ℕ = c.loop-done.done in
    let at : ℕ = c.args.at in
    let value : ℕ = c.read_u64-value.result in
    let small : AreSmall bytes = search rules in
    let is : value ≡ little_number 8 (drop done bytes) = c.read_u64-value.ensures ∙ ap (λ (l : List ℕ). little_number 8 l) (take_rest bytes done) in
    let room : done + 8 ≤ length bytes = omega (arith, c.requires.chunk.whole, c.loop-done.invariant.count.whole, c.loop-done-test.true) in
    record {
      within = room;
      usable = c.in_ok-write_beat.ensures.usable;
      kept = c.in_ok-write_beat.ensures.kept ∙ c.loop-done.invariant.kept;
      count = count-one {T = Unit {0}} done (W.left c.args.wire.now) (W.left c.loop-done.wire) (W.left c.write_beat.new.self) (W.faults c.args.wire.now) (W.faults c.loop-done.wire) (W.faults c.write_beat.new.self) tt c.loop-done.invariant.count c.in_ok-write_beat.ensures.left c.in_ok-write_beat.ensures.cause;
      steady = λ s. let i = c.loop-done.invariant.steady s in let t = c.in_ok-write_beat.ensures.steady i.0 in (t.steady, t.same ∙ i.1);
      told = told-then (W.told c.args.wire.now) (W.told c.loop-done.wire) (W.told c.write_beat.new.self)
          (WrittenByBeats W.next at (take done bytes)) (λ m n. W.next m (WriteBeat (at + done) value) ≡ (n, 0)) (WrittenByBeats W.next at (take (done + 8) bytes))
          (λ a m n so_far here. written-one W.next at done value bytes a m n small room is so_far here)
          c.loop-done.invariant.told c.in_ok-write_beat.ensures.told;
    }

pub returns-in_err-write_beat-clause-takes : goal.returns-in_err-write_beat-clause-takes
returns-in_err-write_beat-clause-takes g c =
    let W = g.W.BeatWire in
    let done : ℕ = c.loop-done.done in
    let count : ℕ = length c.args.from.now in
    let stop : WireStop = c.in_err-write_beat.field-0.0 in
    let room : done + 8 ≤ count = omega (arith, c.requires.chunk.whole, c.loop-done.invariant.count.whole, c.loop-done-test.true) in
    let failed = err_from_is_err_and c.from_residual.result c.from_residual.ensures.1 in
    subst (λ (r : Result Unit PortStop). PortTakes (count / 8) (wire_counts (W.left c.args.wire.now) (W.faults c.args.wire.now)) (wire_counts (W.left c.write_beat.new.self) (W.faults c.write_beat.new.self)) (result_err r)) (sym (failed.1 ∙ ap Err failed.2))
    (takes-err (Unit {0}) done count (W.left c.args.wire.now) (W.left c.loop-done.wire) (W.left c.write_beat.new.self) (W.faults c.args.wire.now) (W.faults c.loop-done.wire) (W.faults c.write_beat.new.self) stop c.loop-done.invariant.count c.in_err-write_beat.ensures.left room)

pub returns-clause-takes : goal.returns-clause-takes
returns-clause-takes g c =
    let W = g.W.BeatWire in
    let done : ℕ = c.loop-done.done in
    let count : ℕ = length c.args.from.now in
    let less : done ≤ count = omega (arith, c.loop-done.invariant.within) in
    let past : count ≤ done = omega (arith, c.loop-done-test.false) in
    takes-ok done count (W.left c.args.wire.now) (W.left c.loop-done.wire) (W.faults c.args.wire.now) (W.faults c.loop-done.wire) c.loop-done.invariant.count less past
