use Rattle.std.proofs.Common.{◌≡◌, ℕ, ◌+◌, ◌-◌, ◌<◌, ◌≤◌, ◌^◌, List, length, take, drop, length-drop, Result, Err, sym, ap, subst, ◌∙◌, arith, rules, ◌/◌}
use Rattle.std.proofs.lemmas.List.{take_rest}
use Rattle.std.proofs.lemmas.Result.{err_from_is_err_and}
use Rattle.fe_base.specs.Beats.{ReadBeat}
use Rattle.fe_base.specs.Wires.{OnTold, Asked}
use Rattle.fe_base.specs.declared.wires.WireStop.{WireStop}
use Rattle.chunk_memory.proofs.DirectLemmas.{read-one, read-refused, count-one, takes-ok, takes-err}
use Rattle.chunk_memory.proofs.StepLemmas.{put-size}
use Rattle.chunk_memory.proofs.ToldLemmas.{told-then}
use Rattle.chunk_memory.specs.BeatChunks.{ReadByBeats, DirectOne, DirectRefused, of_wire, wire_counts}
use Rattle.chunk_memory.specs.Ports.{ChunkRead, PortTakes}
use Rattle.chunk_memory.specs.declared.stops.PortStop.{PortStop}
use borrow.Rule.Slice.PartMut.{put_mid}
use Rattle.std.specs.Result.{result_err}
use Rattle.chunk_memory.proofs.direct_port.read_beats.Goals as goal

pub returns-in_err-value-clause-told : goal.returns-in_err-value-clause-told
returns-in_err-value-clause-told g c =
    let W = g.W.BeatWire in
    let bytes : List ℕ = c.loop-done.into in
    let done : ℕ = c.loop-done.done in
    let at : ℕ = c.args.at in
    let stop : WireStop = c.in_err-value.field-0.0 in
    let failed = err_from_is_err_and c.from_residual.result c.from_residual.ensures.1 in
    subst (λ (r : Result Unit PortStop). OnTold (W.told c.args.wire.now) (W.told c.read_beat.new.self) (ChunkRead (DirectOne W.next) (DirectRefused W.next W.lost) at bytes r)) (sym (failed.1 ∙ ap Err failed.2))
    (told-then (W.told c.args.wire.now) (W.told c.loop-done.wire) (W.told c.read_beat.new.self)
    (ReadByBeats W.next at (take done bytes)) (Asked W.next W.lost (ReadBeat (at + done)) (λ (value : ℕ). value) (Err stop)) (ChunkRead {T = Unit {0}} (DirectOne W.next) (DirectRefused W.next W.lost) at bytes (Err (of_wire stop)))
    (λ a m n so_far asked. read-refused W.next W.lost at (length bytes) done bytes stop a m n c.loop-done.invariant.within c.loop-done-test.true so_far asked)
    c.loop-done.invariant.told c.in_err-value.ensures.told)

pub loop-done-preserved : goal.loop-done-preserved
loop-done-preserved g c =
    let W = g.W.BeatWire in
    let bytes : List ℕ = c.loop-done.into in
    let done : ℕ = c.loop-done.done in
    let at : ℕ = c.args.at in
    let value : ℕ = c.in_ok-value.value in
    let small : value < 2 ^ 64 = search rules in
    let buffer : List ℕ = c.write_u64.new.buf in
    let rest : List ℕ = drop 8 (take (length bytes - done) (drop done bytes)) in
    let room : done + 8 ≤ length bytes = omega (arith, c.requires.chunk.whole, c.loop-done.invariant.count.whole, c.loop-done.auto.into, c.loop-done-test.true) in
    let long : length buffer ≡ length bytes - done = c.write_u64.auto.buf ∙ ap (λ (l : List ℕ). length l) (take_rest bytes done) ∙ length-drop done bytes in
    let same : length (put_mid done (length bytes - done) bytes buffer) ≡ length bytes = put-size bytes buffer done (omega arith) long in
    record {
      within = omega arith;
      usable = c.in_ok-value.ensures.usable;
      kept = c.in_ok-value.ensures.kept ∙ c.loop-done.invariant.kept;
      count = count-one done (W.left c.args.wire.now) (W.left c.loop-done.wire) (W.left c.read_beat.new.self) (W.faults c.args.wire.now) (W.faults c.loop-done.wire) (W.faults c.read_beat.new.self) value c.loop-done.invariant.count c.in_ok-value.ensures.left c.in_ok-value.ensures.cause;
      steady = λ s. let i = c.loop-done.invariant.steady s in let t = c.in_ok-value.ensures.steady i.0 in (t.steady, t.same ∙ i.1);
      told = told-then (W.told c.args.wire.now) (W.told c.loop-done.wire) (W.told c.read_beat.new.self)
          (ReadByBeats W.next at (take done bytes)) (λ m n. W.next m (ReadBeat (at + done)) ≡ (n, value)) (ReadByBeats W.next at (take (done + 8) (put_mid done (length bytes - done) bytes buffer)))
          (λ a m n so_far here. subst (λ (l : List ℕ). ReadByBeats W.next at (take (done + 8) (put_mid done (length bytes - done) bytes l)) a n) (sym c.write_u64.ensures) (read-one W.next at done value bytes rest a m n room small so_far here))
          c.loop-done.invariant.told c.in_ok-value.ensures.told;
    }

pub returns-in_err-value-clause-takes : goal.returns-in_err-value-clause-takes
returns-in_err-value-clause-takes g c =
    let W = g.W.BeatWire in
    let done : ℕ = c.loop-done.done in
    let count : ℕ = length c.args.into.now in
    let stop : WireStop = c.in_err-value.field-0.0 in
    let room : done + 8 ≤ count = omega (arith, c.requires.chunk.whole, c.loop-done.invariant.count.whole, c.loop-done.auto.into, c.loop-done-test.true) in
    let failed = err_from_is_err_and c.from_residual.result c.from_residual.ensures.1 in
    subst (λ (r : Result Unit PortStop). PortTakes (count / 8) (wire_counts (W.left c.args.wire.now) (W.faults c.args.wire.now)) (wire_counts (W.left c.read_beat.new.self) (W.faults c.read_beat.new.self)) (result_err r)) (sym (failed.1 ∙ ap Err failed.2))
    (takes-err ℕ done count (W.left c.args.wire.now) (W.left c.loop-done.wire) (W.left c.read_beat.new.self) (W.faults c.args.wire.now) (W.faults c.loop-done.wire) (W.faults c.read_beat.new.self) stop c.loop-done.invariant.count c.in_err-value.ensures.left room)

pub returns-clause-takes : goal.returns-clause-takes
returns-clause-takes g c =
    let W = g.W.BeatWire in
    let done : ℕ = c.loop-done.done in
    let count : ℕ = length c.args.into.now in
    let less : done ≤ count = omega (arith, c.loop-done.auto.into, c.loop-done.invariant.within) in
    let past : count ≤ done = omega (arith, c.loop-done.auto.into, c.loop-done-test.false) in
    takes-ok done count (W.left c.args.wire.now) (W.left c.loop-done.wire) (W.faults c.args.wire.now) (W.faults c.loop-done.wire) c.loop-done.invariant.count less past
