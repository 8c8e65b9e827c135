use Rattle.chunk_memory.specs.Turns.{read_turns, read_step}
use Rattle.chunk_memory.specs.Ranges.{IsMappedRange}
use Rattle.chunk_memory.proofs.TurnSteps.{read-calm}
use Rattle.chunk_memory.proofs.TurnLemmas.{turns-step}
use Rattle.std.proofs.Common.{◌≡◌, ℕ, ◌+◌, ◌-◌, ◌<◌, List, length, drop, length-drop, Result, Ok, Err, None, sym, ap, subst, ◌∙◌, arith, take, Some, refl}
use Rattle.std.proofs.lemmas.List.{take_rest}
use Rattle.std.proofs.lemmas.Result.{err_from_is_err_and}
use Rattle.fe_base.specs.Wires.{OnTold}
use Rattle.chunk_memory.proofs.SizeLemmas.{mapped-byte, mapped-rest}
use Rattle.chunk_memory.proofs.StepLemmas.{ReadSoFar, read-on, read-off, read-end, put-size}
use Rattle.chunk_memory.proofs.ToldLemmas.{told-as, told-then, causes-then, steady-then, told-valid, told-next}
use Rattle.chunk_memory.specs.Ports.{with_bytes, IfExact, PortTakes}
use Rattle.chunk_memory.specs.Steps.{ReadNext}
use Rattle.chunk_memory.specs.Transactions.{Reads, step_size}
use Rattle.chunk_memory.specs.declared.stops.PortStop.{PortStop}
use borrow.Rule.Slice.PartMut.{put_mid}
use Rattle.std.specs.Result.{result_err}
use Rattle.chunk_memory.proofs.TakeLemmas.{exact-by, exact-at, taken-on, taken-off, taken-end}
use Rattle.chunk_memory.proofs.chunked.Chunked.read_mapped.Goals as goal

pub overflow_add-at : goal.overflow_add-at
overflow_add-at g c =
    let less : c.loop-done.done < length c.args.into.now = omega (arith, c.loop-done.auto.into) in
    omega (arith, mapped-byte c.args.at (length c.args.into.now) c.loop-done.done c.requires.mapped less)

pub returns-in_err-size-clause-told : goal.returns-in_err-size-clause-told
returns-in_err-size-clause-told g c =
    let P = g.P.ChunkPort in
    let bytes : List ℕ = c.loop-done.into in
    let next : List ℕ = c.read_next.new.into in
    let done : ℕ = c.loop-done.done in
    let stop : PortStop = c.in_err-size.field-0.0 in
    let count : ℕ = length c.args.into.now in
    let same : count ≡ length bytes = sym c.loop-done.auto.into in
    let long : length next ≡ length bytes - done = c.read_next.auto.into ∙ ap (λ (l : List ℕ). length l) (take_rest bytes done) ∙ length-drop done bytes in
    let failed = err_from_is_err_and c.from_residual.result c.from_residual.ensures.1 in
    let after : List ℕ = put_mid done (length bytes - done) bytes next in
    subst (λ (r : Result Unit PortStop). OnTold (P.told c.args.self.now) (P.told c.read_next.new.self) (Reads P.one P.refused P.unit P.most c.args.at count (with_bytes r after))) (sym (failed.1 ∙ ap Err failed.2))
    (told-then (P.told c.args.self.now) (P.told c.loop-done.self) (P.told c.read_next.new.self)
    (ReadSoFar P.one P.refused P.unit P.most c.args.at (length bytes) bytes done) (ReadNext P.one P.refused P.unit P.most (c.args.at + done) next (Err stop)) (Reads P.one P.refused P.unit P.most c.args.at count (Err stop))
    (λ a m n so_far here. read-off P.one P.refused P.unit P.most c.in_err-size.ensures.sizes c.args.at count done bytes next stop a m n same c.loop-done-test.true long so_far here)
    c.loop-done.invariant.told c.in_err-size.ensures.told)

pub loop-done-preserved : goal.loop-done-preserved
loop-done-preserved g c =
    let P = g.P.ChunkPort in
    let bytes : List ℕ = c.loop-done.into in
    let next : List ℕ = c.read_next.new.into in
    let done : ℕ = c.loop-done.done in
    let size : ℕ = c.in_ok-size.size in
    let long : length next ≡ length bytes - done = c.read_next.auto.into ∙ ap (λ (l : List ℕ). length l) (take_rest bytes done) ∙ length-drop done bytes in
    let step = c.in_ok-size.ensures.size in
    let after : List ℕ = put_mid done (length bytes - done) bytes next in
    let less : done < length bytes = c.loop-done-test.true in
    let same : length after ≡ length bytes = put-size bytes next done (omega arith) long in
    let laws = g.met.P.ChunkPort in
    let old_long : length (take (length bytes - done) (drop done bytes)) ≡ length bytes - done = ap (λ (l : List ℕ). length l) (take_rest bytes done) ∙ length-drop done bytes in
    let rest_mapped : IsMappedRange (c.args.at + done) (length c.read_next.new.into) = subst (λ (n : ℕ). IsMappedRange (c.args.at + done) n) (let p : length c.args.into.now - done ≡ length c.read_next.new.into = omega (arith, long, c.loop-done.auto.into) in p) (mapped-rest c.args.at (length c.args.into.now) done c.requires.mapped (omega (arith, c.loop-done.auto.into))) in
    record {
      within = omega (arith, step.2);
      usable = c.in_ok-size.ensures.usable;
      kept = c.in_ok-size.ensures.kept ∙ c.loop-done.invariant.kept;
      causes = causes-then (P.counts c.args.self.now) (P.counts c.loop-done.self) (P.counts c.read_next.new.self) None c.loop-done.invariant.causes c.in_ok-size.ensures.causes;
      calm = told-then (P.told c.args.self.now) (P.told c.loop-done.self) (P.told c.read_next.new.self) (λ a m. P.ready a → P.positive a → P.ready m × P.positive m) (λ m n. P.ready m → P.positive m → P.ready n × P.positive n) (λ a n. P.ready a → P.positive a → P.ready n × P.positive n)
          (λ a m n so_far here now pos. let i = so_far now pos in here i.0 i.1) c.loop-done.invariant.calm
          (told-valid (P.told c.loop-done.self) (P.told c.read_next.new.self) P.valid (ReadNext P.one P.refused P.unit P.most (c.args.at + done) c.read_next.new.into (Ok size)) (λ m n. P.ready m → P.positive m → P.ready n × P.positive n) (laws.tells_valid c.loop-done.self c.loop-done.invariant.usable)
          (λ m n ok here. read-calm P.unit P.most c.in_ok-size.ensures.sizes P.view P.valid P.ready P.positive P.ran P.reached P.one P.refused laws.one_reaches (c.args.at + done) size c.read_next.new.into m n ok rest_mapped here) c.in_ok-size.ensures.told);
      turns = λ state told now pos.
          let m = told-next (P.told c.args.self.now) (P.told c.loop-done.self) (λ a b. P.ready a → P.positive a → P.ready b × P.positive b) state told c.loop-done.invariant.calm in
          let both = m.holds now pos in
          let h = c.in_ok-size.ensures.turns m.state m.is both.0 both.1 in
          let cost : read_step P.cost P.unit P.most (c.args.at + done) (length (take (length bytes - done) (drop done bytes))) ≡ read_step P.cost P.unit P.most (c.args.at + done) (length bytes - done) = ap (λ (n : ℕ). read_step P.cost P.unit P.most (c.args.at + done) n) old_long in
          let i = c.loop-done.invariant.turns state told now pos in
          let s = turns-step (read_step P.cost P.unit P.most) P.unit P.most c.in_ok-size.ensures.sizes (c.args.at + done) (length bytes - done) (omega arith) in
          let k_is : step_size P.unit P.most (c.args.at + done) (length bytes - done) ≡ size = ap (λ (n : ℕ). step_size P.unit P.most (c.args.at + done) n) (sym old_long) ∙ sym step.0 in
          let rest : read_turns P.cost P.unit P.most (c.args.at + done + step_size P.unit P.most (c.args.at + done) (length bytes - done)) (length bytes - done - step_size P.unit P.most (c.args.at + done) (length bytes - done)) ≡ read_turns P.cost P.unit P.most (c.args.at + done + size) (length bytes - done - size) =
          ap (λ (k : ℕ). read_turns P.cost P.unit P.most (c.args.at + done + k) (length bytes - done - k)) k_is in
          let e1 : read_turns P.cost P.unit P.most (c.args.at + done + size) (length bytes - done - size) ≡ read_turns P.cost P.unit P.most (c.args.at + (done + size)) (length (put_mid done (length bytes - done) bytes c.read_next.new.into) - (done + size)) =
          ap (λ (n : ℕ). read_turns P.cost P.unit P.most n (length bytes - done - size)) (let p : c.args.at + done + size ≡ c.args.at + (done + size) = omega arith in p)
          ∙ ap (λ (n : ℕ). read_turns P.cost P.unit P.most (c.args.at + (done + size)) n) (let p : length bytes - done - size ≡ length (put_mid done (length bytes - done) bytes c.read_next.new.into) - (done + size) = omega (arith, same) in p) in
          let e2 : read_turns P.cost P.unit P.most c.args.at (length bytes) ≡ read_turns P.cost P.unit P.most c.args.at (length (put_mid done (length bytes - done) bytes c.read_next.new.into)) = ap (λ (n : ℕ). read_turns P.cost P.unit P.most c.args.at n) (let p : length bytes ≡ length (put_mid done (length bytes - done) bytes c.read_next.new.into) = omega (arith, same) in p) in
          omega (arith, h, i, s, cost, rest, e1, e2);
      takes = λ turns is.
          let h = exact-at P.exact (λ (turns : ℕ → ℕ). PortTakes (read_step turns P.unit P.most (c.args.at + done) (length (take (length bytes - done) (drop done bytes)))) (P.counts c.loop-done.self) (P.counts c.read_next.new.self) None) turns is c.in_ok-size.ensures.takes in
          let on = taken-on (read_step turns P.unit P.most) P.unit P.most c.in_ok-size.ensures.sizes c.args.at (length bytes) done size (length (take (length bytes - done) (drop done bytes))) (P.counts c.args.self.now).left (P.counts c.loop-done.self).left (P.counts c.read_next.new.self).left less old_long step.0 step.2
          (c.loop-done.invariant.takes turns is) (h.made refl) in
          subst (λ (n : ℕ). (P.counts c.args.self.now).left + read_turns turns P.unit P.most (c.args.at + (done + size)) (n - (done + size)) ≡ (P.counts c.read_next.new.self).left + read_turns turns P.unit P.most c.args.at n) (sym same) on;
      steady = steady-then (P.counts c.args.self.now) (P.counts c.loop-done.self) (P.counts c.read_next.new.self) None (P.steady c.args.self.now) (P.steady c.loop-done.self) (P.steady c.read_next.new.self) c.loop-done.invariant.steady c.in_ok-size.ensures.steady;
      told = told-then (P.told c.args.self.now) (P.told c.loop-done.self) (P.told c.read_next.new.self)
          (ReadSoFar P.one P.refused P.unit P.most c.args.at (length bytes) bytes done) (ReadNext P.one P.refused P.unit P.most (c.args.at + done) next (Ok size)) (ReadSoFar P.one P.refused P.unit P.most c.args.at (length after) after (done + size))
          (λ a m n so_far here. read-on P.one P.refused P.unit P.most c.in_ok-size.ensures.sizes c.args.at done size bytes next a m n less long
          (step.0 ∙ ap (λ (k : ℕ). Rattle.chunk_memory.specs.Transactions.step_size P.unit P.most (c.args.at + done) k) (sym c.read_next.auto.into)) so_far here)
          c.loop-done.invariant.told c.in_ok-size.ensures.told;
      empty = λ none. absurd (omega arith);
    }

pub returns-clause-told : goal.returns-clause-told
returns-clause-told g c =
    let P = g.P.ChunkPort in
    let bytes : List ℕ = c.loop-done.into in
    let done : ℕ = c.loop-done.done in
    let count : ℕ = length c.args.into.now in
    let same : count ≡ length bytes = sym c.loop-done.auto.into in
    told-as (P.told c.args.self.now) (P.told c.loop-done.self) (ReadSoFar P.one P.refused P.unit P.most c.args.at (length bytes) bytes done) (Reads P.one P.refused P.unit P.most c.args.at count (Ok bytes))
    (λ a m so_far. read-end P.one P.refused P.unit P.most c.args.at count done bytes a m same c.loop-done-test.false so_far) c.loop-done.invariant.told

pub returns-in_err-size-clause-turns : goal.returns-in_err-size-clause-turns
returns-in_err-size-clause-turns g c state told now pos =
    let P = g.P.ChunkPort in
    let bytes : List ℕ = c.loop-done.into in
    let done : ℕ = c.loop-done.done in
    let same : length c.args.into.now ≡ length bytes = sym c.loop-done.auto.into in
    let old_long : length (take (length bytes - done) (drop done bytes)) ≡ length bytes - done = ap (λ (l : List ℕ). length l) (take_rest bytes done) ∙ length-drop done bytes in
    let m = told-next (P.told c.args.self.now) (P.told c.loop-done.self) (λ a b. P.ready a → P.positive a → P.ready b × P.positive b) state told c.loop-done.invariant.calm in
    let both = m.holds now pos in
    let h = c.in_err-size.ensures.turns m.state m.is both.0 both.1 in
    let cost : read_step P.cost P.unit P.most (c.args.at + done) (length (take (length bytes - done) (drop done bytes))) ≡ read_step P.cost P.unit P.most (c.args.at + done) (length bytes - done) = ap (λ (n : ℕ). read_step P.cost P.unit P.most (c.args.at + done) n) old_long in
    let i = c.loop-done.invariant.turns state told now pos in
    let less : done < length bytes = c.loop-done-test.true in
    let s = turns-step (read_step P.cost P.unit P.most) P.unit P.most c.in_err-size.ensures.sizes (c.args.at + done) (length bytes - done) (omega arith) in
    let all : read_turns P.cost P.unit P.most c.args.at (length c.args.into.now) ≡ read_turns P.cost P.unit P.most c.args.at (length bytes) = ap (λ (n : ℕ). read_turns P.cost P.unit P.most c.args.at n) same in
    omega (arith, h, i, s, cost, all)

pub returns-clause-turns : goal.returns-clause-turns
returns-clause-turns g c state told now pos =
    let P = g.P.ChunkPort in
    let bytes : List ℕ = c.loop-done.into in
    let same : length c.args.into.now ≡ length bytes = sym c.loop-done.auto.into in
    let all : read_turns P.cost P.unit P.most c.args.at (length c.args.into.now) ≡ read_turns P.cost P.unit P.most c.args.at (length bytes) = ap (λ (n : ℕ). read_turns P.cost P.unit P.most c.args.at n) same in
    omega (arith, c.loop-done.invariant.turns state told now pos, all)

pub returns-in_err-size-clause-takes : goal.returns-in_err-size-clause-takes
returns-in_err-size-clause-takes g c =
    let P = g.P.ChunkPort in
    let bytes : List ℕ = c.loop-done.into in
    let done : ℕ = c.loop-done.done in
    let stop : PortStop = c.in_err-size.field-0.0 in
    let same : length c.args.into.now ≡ length bytes = sym c.loop-done.auto.into in
    let old_long : length (take (length bytes - done) (drop done bytes)) ≡ length bytes - done = ap (λ (l : List ℕ). length l) (take_rest bytes done) ∙ length-drop done bytes in
    let less : done < length bytes = c.loop-done-test.true in
    let failed = err_from_is_err_and c.from_residual.result c.from_residual.ensures.1 in
    subst (λ (r : Result Unit PortStop). IfExact P.exact (λ (turns : ℕ → ℕ). PortTakes (read_turns turns P.unit P.most c.args.at (length c.args.into.now)) (P.counts c.args.self.now) (P.counts c.read_next.new.self) (result_err r))) (sym (failed.1 ∙ ap Err failed.2))
    (subst (λ (n : ℕ). IfExact P.exact (λ (turns : ℕ → ℕ). PortTakes (read_turns turns P.unit P.most c.args.at (n)) (P.counts c.args.self.now) (P.counts c.read_next.new.self) (Some stop))) (sym same)
    (exact-by P.exact (λ (turns : ℕ → ℕ). PortTakes (read_turns turns P.unit P.most c.args.at (length bytes)) (P.counts c.args.self.now) (P.counts c.read_next.new.self) (Some stop))
    (λ turns is. taken-off (read_step turns P.unit P.most) P.unit P.most c.in_err-size.ensures.sizes c.args.at (length bytes) done (length (take (length bytes - done) (drop done bytes))) (P.counts c.args.self.now) (P.counts c.loop-done.self) (P.counts c.read_next.new.self) stop less old_long (c.loop-done.invariant.takes turns is)
    (exact-at P.exact (λ (turns : ℕ → ℕ). PortTakes (read_step turns P.unit P.most (c.args.at + done) (length (take (length bytes - done) (drop done bytes)))) (P.counts c.loop-done.self) (P.counts c.read_next.new.self) (Some stop)) turns is c.in_err-size.ensures.takes))))

pub returns-clause-takes : goal.returns-clause-takes
returns-clause-takes g c =
    let P = g.P.ChunkPort in
    let bytes : List ℕ = c.loop-done.into in
    let done : ℕ = c.loop-done.done in
    let same : length c.args.into.now ≡ length bytes = sym c.loop-done.auto.into in
    subst (λ (n : ℕ). IfExact P.exact (λ (turns : ℕ → ℕ). PortTakes (read_turns turns P.unit P.most c.args.at (n)) (P.counts c.args.self.now) (P.counts c.loop-done.self) None)) (sym same)
    (exact-by P.exact (λ (turns : ℕ → ℕ). PortTakes (read_turns turns P.unit P.most c.args.at (length bytes)) (P.counts c.args.self.now) (P.counts c.loop-done.self) None)
    (λ turns is. taken-end (read_step turns P.unit P.most) P.unit P.most c.args.at (length bytes) done (P.counts c.args.self.now) (P.counts c.loop-done.self) c.loop-done-test.false (c.loop-done.invariant.takes turns is)))
