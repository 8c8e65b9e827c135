use Rattle.chunk_memory.specs.Turns.{write_turns, write_step}
use Rattle.chunk_memory.specs.Ranges.{IsMappedRange}
use Rattle.chunk_memory.proofs.TurnSteps.{write-calm}
use Rattle.chunk_memory.proofs.TurnLemmas.{turns-step}
use Rattle.std.proofs.Common.{◌≡◌, ℕ, ◌+◌, ◌-◌, ◌<◌, List, length, take, drop, length-drop, Result, Ok, Err, None, refl, sym, ap, subst, ◌∙◌, arith, Some}
use Rattle.std.proofs.lemmas.List.{take_rest}
use Rattle.std.proofs.lemmas.Result.{err_from_is_err_and}
use Rattle.fe_base.specs.Wires.{OnTold}
use Rattle.chunk_memory.proofs.SizeLemmas.{mapped-byte, mapped-rest}
use Rattle.chunk_memory.proofs.StepLemmas.{WriteSoFar, write-on, write-off, write-end}
use Rattle.chunk_memory.proofs.ToldLemmas.{told-as, told-then, causes-then, steady-then, told-valid, told-next}
use Rattle.chunk_memory.specs.Steps.{WriteNext}
use Rattle.chunk_memory.specs.Transactions.{Writes, step_size}
use Rattle.chunk_memory.specs.declared.stops.PortStop.{PortStop}
use Rattle.std.specs.Result.{result_err}
use Rattle.chunk_memory.specs.Ports.{IfExact, PortTakes}
use Rattle.chunk_memory.proofs.TakeLemmas.{exact-by, exact-at, taken-on, taken-off, taken-end}
use Rattle.chunk_memory.proofs.chunked.Chunked.write_mapped.Goals as goal

pub overflow_add-at : goal.overflow_add-at
overflow_add-at g c = omega (arith, mapped-byte c.args.at (length c.args.from.now) c.loop-done.done c.requires.mapped c.loop-done-test.true)

pub returns-in_err-size-clause-told : goal.returns-in_err-size-clause-told
returns-in_err-size-clause-told g c =
    let P = g.P.ChunkPort in
    let bytes : List ℕ = c.args.from.now in
    let done : ℕ = c.loop-done.done in
    let stop : PortStop = c.in_err-size.field-0.0 in
    let failed = err_from_is_err_and c.from_residual.result c.from_residual.ensures.1 in
    subst (λ (r : Result Unit PortStop). OnTold (P.told c.args.self.now) (P.told c.write_next.new.self) (Writes P.one P.refused P.unit P.most c.args.at bytes r)) (sym (failed.1 ∙ ap Err failed.2))
    (told-then (P.told c.args.self.now) (P.told c.loop-done.self) (P.told c.write_next.new.self)
    (WriteSoFar P.one P.refused P.unit P.most c.args.at bytes done) (WriteNext P.one P.refused P.unit P.most (c.args.at + done) (drop done bytes) (Err stop)) (Writes P.one P.refused P.unit P.most c.args.at bytes (Err stop))
    (λ a m n so_far here. write-off P.one P.refused P.unit P.most c.in_err-size.ensures.sizes c.args.at done bytes stop a m n so_far here)
    c.loop-done.invariant.told
    (subst (λ (l : List ℕ). OnTold (P.told c.loop-done.self) (P.told c.write_next.new.self) (WriteNext P.one P.refused P.unit P.most (c.args.at + done) l (Err stop))) (take_rest bytes done) c.in_err-size.ensures.told))

pub loop-done-preserved : goal.loop-done-preserved
loop-done-preserved g c =
    let P = g.P.ChunkPort in
    let bytes : List ℕ = c.args.from.now in
    let done : ℕ = c.loop-done.done in
    let size : ℕ = c.in_ok-size.size in
    let step = c.in_ok-size.ensures.size in
    let less : done < length bytes = c.loop-done-test.true in
    let left : length (take (length bytes - done) (drop done bytes)) ≡ length bytes - done = ap (λ (l : List ℕ). length l) (take_rest bytes done) ∙ length-drop done bytes in
    let size_is : size ≡ step_size P.unit P.most (c.args.at + done) (length (drop done bytes)) =
    subst (λ (l : List ℕ). size ≡ step_size P.unit P.most (c.args.at + done) (length l)) (take_rest bytes done) step.0 in
    let laws = g.met.P.ChunkPort in
    let old_long : length (take (length bytes - done) (drop done bytes)) ≡ length bytes - done = ap (λ (l : List ℕ). length l) (take_rest bytes done) ∙ length-drop done bytes in
    let rest_mapped : IsMappedRange (c.args.at + done) (length (take (length bytes - done) (drop done bytes))) = subst (λ (n : ℕ). IsMappedRange (c.args.at + done) n) (let p : length c.args.from.now - done ≡ length (take (length bytes - done) (drop done bytes)) = omega (arith, old_long) in p) (mapped-rest c.args.at (length c.args.from.now) done c.requires.mapped (omega (arith, old_long))) in
    record {
      within = omega (arith, step.2);
      usable = c.in_ok-size.ensures.usable;
      kept = c.in_ok-size.ensures.kept ∙ c.loop-done.invariant.kept;
      causes = causes-then (P.counts c.args.self.now) (P.counts c.loop-done.self) (P.counts c.write_next.new.self) None c.loop-done.invariant.causes c.in_ok-size.ensures.causes;
      calm = told-then (P.told c.args.self.now) (P.told c.loop-done.self) (P.told c.write_next.new.self) (λ a m. P.ready a → P.positive a → P.ready m × P.positive m) (λ m n. P.ready m → P.positive m → P.ready n × P.positive n) (λ a n. P.ready a → P.positive a → P.ready n × P.positive n)
          (λ a m n so_far here now pos. let i = so_far now pos in here i.0 i.1) c.loop-done.invariant.calm
          (told-valid (P.told c.loop-done.self) (P.told c.write_next.new.self) P.valid (WriteNext P.one P.refused P.unit P.most (c.args.at + done) (take (length bytes - done) (drop done bytes)) (Ok size)) (λ m n. P.ready m → P.positive m → P.ready n × P.positive n) (laws.tells_valid c.loop-done.self c.loop-done.invariant.usable)
          (λ m n ok here. write-calm P.unit P.most c.in_ok-size.ensures.sizes P.view P.valid P.ready P.positive P.ran P.reached P.one P.refused laws.one_reaches (c.args.at + done) size (take (length bytes - done) (drop done bytes)) m n ok rest_mapped here) c.in_ok-size.ensures.told);
      turns = λ state told now pos.
          let m = told-next (P.told c.args.self.now) (P.told c.loop-done.self) (λ a b. P.ready a → P.positive a → P.ready b × P.positive b) state told c.loop-done.invariant.calm in
          let both = m.holds now pos in
          let h = c.in_ok-size.ensures.turns m.state m.is both.0 both.1 in
          let cost : write_step P.cost P.unit P.most (c.args.at + done) (length (take (length bytes - done) (drop done bytes))) ≡ write_step P.cost P.unit P.most (c.args.at + done) (length bytes - done) = ap (λ (n : ℕ). write_step P.cost P.unit P.most (c.args.at + done) n) old_long in
          let i = c.loop-done.invariant.turns state told now pos in
          let s = turns-step (write_step P.cost P.unit P.most) P.unit P.most c.in_ok-size.ensures.sizes (c.args.at + done) (length bytes - done) (omega arith) in
          let k_is : step_size P.unit P.most (c.args.at + done) (length bytes - done) ≡ size = ap (λ (n : ℕ). step_size P.unit P.most (c.args.at + done) n) (sym old_long) ∙ sym step.0 in
          let rest : write_turns P.cost P.unit P.most (c.args.at + done + step_size P.unit P.most (c.args.at + done) (length bytes - done)) (length bytes - done - step_size P.unit P.most (c.args.at + done) (length bytes - done)) ≡ write_turns P.cost P.unit P.most (c.args.at + done + size) (length bytes - done - size) =
          ap (λ (k : ℕ). write_turns P.cost P.unit P.most (c.args.at + done + k) (length bytes - done - k)) k_is in
          let e1 : write_turns P.cost P.unit P.most (c.args.at + done + size) (length bytes - done - size) ≡ write_turns P.cost P.unit P.most (c.args.at + (done + size)) (length bytes - (done + size)) =
          ap (λ (n : ℕ). write_turns P.cost P.unit P.most n (length bytes - done - size)) (let p : c.args.at + done + size ≡ c.args.at + (done + size) = omega arith in p)
          ∙ ap (λ (n : ℕ). write_turns P.cost P.unit P.most (c.args.at + (done + size)) n) (let p : length bytes - done - size ≡ length bytes - (done + size) = omega arith in p) in
          let e2 : write_turns P.cost P.unit P.most c.args.at (length bytes) ≡ write_turns P.cost P.unit P.most c.args.at (length bytes) = ap (λ (n : ℕ). write_turns P.cost P.unit P.most c.args.at n) (let p : length bytes ≡ length bytes = omega arith in p) in
          omega (arith, h, i, s, cost, rest, e1, e2);
      takes = λ turns is.
          let h = exact-at P.exact (λ (turns : ℕ → ℕ). PortTakes (write_step turns P.unit P.most (c.args.at + done) (length (take (length bytes - done) (drop done bytes)))) (P.counts c.loop-done.self) (P.counts c.write_next.new.self) None) turns is c.in_ok-size.ensures.takes in
          let on = taken-on (write_step turns P.unit P.most) P.unit P.most c.in_ok-size.ensures.sizes c.args.at (length bytes) done size (length (take (length bytes - done) (drop done bytes))) (P.counts c.args.self.now).left (P.counts c.loop-done.self).left (P.counts c.write_next.new.self).left less old_long step.0 step.2
          (c.loop-done.invariant.takes turns is) (h.made refl) in
          on;
      steady = steady-then (P.counts c.args.self.now) (P.counts c.loop-done.self) (P.counts c.write_next.new.self) None (P.steady c.args.self.now) (P.steady c.loop-done.self) (P.steady c.write_next.new.self) c.loop-done.invariant.steady c.in_ok-size.ensures.steady;
      told = told-then (P.told c.args.self.now) (P.told c.loop-done.self) (P.told c.write_next.new.self)
          (WriteSoFar P.one P.refused P.unit P.most c.args.at bytes done) (WriteNext P.one P.refused P.unit P.most (c.args.at + done) (drop done bytes) (Ok size)) (WriteSoFar P.one P.refused P.unit P.most c.args.at bytes (done + size))
          (λ a m n so_far here. write-on P.one P.refused P.unit P.most c.in_ok-size.ensures.sizes c.args.at done size bytes a m n size_is so_far here)
          c.loop-done.invariant.told
          (subst (λ (l : List ℕ). OnTold (P.told c.loop-done.self) (P.told c.write_next.new.self) (WriteNext P.one P.refused P.unit P.most (c.args.at + done) l (Ok size))) (take_rest bytes done) c.in_ok-size.ensures.told);
      empty = λ none. absurd (omega arith);
    }

pub returns-clause-told : goal.returns-clause-told
returns-clause-told g c =
    let P = g.P.ChunkPort in
    let bytes : List ℕ = c.args.from.now in
    let done : ℕ = c.loop-done.done in
    told-as (P.told c.args.self.now) (P.told c.loop-done.self) (WriteSoFar P.one P.refused P.unit P.most c.args.at bytes done) (Writes P.one P.refused P.unit P.most c.args.at bytes (Ok tt))
    (λ a m so_far. write-end P.one P.refused P.unit P.most c.args.at done bytes a m c.loop-done-test.false so_far) c.loop-done.invariant.told

pub returns-in_err-size-clause-turns : goal.returns-in_err-size-clause-turns
returns-in_err-size-clause-turns g c state told now pos =
    let P = g.P.ChunkPort in
    let bytes : List ℕ = c.args.from.now in
    let done : ℕ = c.loop-done.done in
    let same : length c.args.from.now ≡ length bytes = refl in
    let old_long : length (take (length bytes - done) (drop done bytes)) ≡ length bytes - done = ap (λ (l : List ℕ). length l) (take_rest bytes done) ∙ length-drop done bytes in
    let m = told-next (P.told c.args.self.now) (P.told c.loop-done.self) (λ a b. P.ready a → P.positive a → P.ready b × P.positive b) state told c.loop-done.invariant.calm in
    let both = m.holds now pos in
    let h = c.in_err-size.ensures.turns m.state m.is both.0 both.1 in
    let cost : write_step P.cost P.unit P.most (c.args.at + done) (length (take (length bytes - done) (drop done bytes))) ≡ write_step P.cost P.unit P.most (c.args.at + done) (length bytes - done) = ap (λ (n : ℕ). write_step P.cost P.unit P.most (c.args.at + done) n) old_long in
    let i = c.loop-done.invariant.turns state told now pos in
    let less : done < length bytes = c.loop-done-test.true in
    let s = turns-step (write_step P.cost P.unit P.most) P.unit P.most c.in_err-size.ensures.sizes (c.args.at + done) (length bytes - done) (omega arith) in
    let all : write_turns P.cost P.unit P.most c.args.at (length c.args.from.now) ≡ write_turns P.cost P.unit P.most c.args.at (length bytes) = ap (λ (n : ℕ). write_turns P.cost P.unit P.most c.args.at n) same in
    omega (arith, h, i, s, cost, all)

pub returns-clause-turns : goal.returns-clause-turns
returns-clause-turns g c state told now pos =
    let P = g.P.ChunkPort in
    let bytes : List ℕ = c.args.from.now in
    let same : length c.args.from.now ≡ length bytes = refl in
    let all : write_turns P.cost P.unit P.most c.args.at (length c.args.from.now) ≡ write_turns P.cost P.unit P.most c.args.at (length bytes) = ap (λ (n : ℕ). write_turns P.cost P.unit P.most c.args.at n) same in
    omega (arith, c.loop-done.invariant.turns state told now pos, all)

pub returns-in_err-size-clause-takes : goal.returns-in_err-size-clause-takes
returns-in_err-size-clause-takes g c =
    let P = g.P.ChunkPort in
    let bytes : List ℕ = c.args.from.now in
    let done : ℕ = c.loop-done.done in
    let stop : PortStop = c.in_err-size.field-0.0 in
    let same : length c.args.from.now ≡ length bytes = refl in
    let old_long : length (take (length bytes - done) (drop done bytes)) ≡ length bytes - done = ap (λ (l : List ℕ). length l) (take_rest bytes done) ∙ length-drop done bytes in
    let less : done < length bytes = c.loop-done-test.true in
    let failed = err_from_is_err_and c.from_residual.result c.from_residual.ensures.1 in
    subst (λ (r : Result Unit PortStop). IfExact P.exact (λ (turns : ℕ → ℕ). PortTakes (write_turns turns P.unit P.most c.args.at (length c.args.from.now)) (P.counts c.args.self.now) (P.counts c.write_next.new.self) (result_err r))) (sym (failed.1 ∙ ap Err failed.2))
    (subst (λ (n : ℕ). IfExact P.exact (λ (turns : ℕ → ℕ). PortTakes (write_turns turns P.unit P.most c.args.at (n)) (P.counts c.args.self.now) (P.counts c.write_next.new.self) (Some stop))) (sym same)
    (exact-by P.exact (λ (turns : ℕ → ℕ). PortTakes (write_turns turns P.unit P.most c.args.at (length bytes)) (P.counts c.args.self.now) (P.counts c.write_next.new.self) (Some stop))
    (λ turns is. taken-off (write_step turns P.unit P.most) P.unit P.most c.in_err-size.ensures.sizes c.args.at (length bytes) done (length (take (length bytes - done) (drop done bytes))) (P.counts c.args.self.now) (P.counts c.loop-done.self) (P.counts c.write_next.new.self) stop less old_long (c.loop-done.invariant.takes turns is)
    (exact-at P.exact (λ (turns : ℕ → ℕ). PortTakes (write_step turns P.unit P.most (c.args.at + done) (length (take (length bytes - done) (drop done bytes)))) (P.counts c.loop-done.self) (P.counts c.write_next.new.self) (Some stop)) turns is c.in_err-size.ensures.takes))))

pub returns-clause-takes : goal.returns-clause-takes
returns-clause-takes g c =
    let P = g.P.ChunkPort in
    let bytes : List ℕ = c.args.from.now in
    let done : ℕ = c.loop-done.done in
    let same : length c.args.from.now ≡ length bytes = refl in
    subst (λ (n : ℕ). IfExact P.exact (λ (turns : ℕ → ℕ). PortTakes (write_turns turns P.unit P.most c.args.at (n)) (P.counts c.args.self.now) (P.counts c.loop-done.self) None)) (sym same)
    (exact-by P.exact (λ (turns : ℕ → ℕ). PortTakes (write_turns turns P.unit P.most c.args.at (length bytes)) (P.counts c.args.self.now) (P.counts c.loop-done.self) None)
    (λ turns is. taken-end (write_step turns P.unit P.most) P.unit P.most c.args.at (length bytes) done (P.counts c.args.self.now) (P.counts c.loop-done.self) c.loop-done-test.false (c.loop-done.invariant.takes turns is)))
