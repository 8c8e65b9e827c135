use Rattle.std.proofs.Common.{◌≡◌, ap, refl, rules, subst, sym}
use Rattle.target_box.specs.Lined.{lined}
use Rattle.target_box.specs.Turn.{IsUsable, TargetState}
use Rattle.target_box.specs.declared.target.Link.TheVariants.{Direct}
use Rattle.tether_session.proofs.ToldLines.{line-moved, alone-over, same-line}
use Rattle.tether_session.proofs.turns.give.Goals as goal

pub returns-clause-usable : goal.returns-clause-usable
returns-clause-usable g c =
    let same : c.target-1.given.0 ≡ c.give_over-line.result.target.now = search rules in
    subst (λ (t : TargetState). IsUsable Direct t) (sym same) c.give_over-line.ensures.usable

pub returns-clause-played : goal.returns-clause-played
returns-clause-played g c = λ tree left held.
    let same : c.target-1.given.0 ≡ c.give_over-line.result.target.now = search rules in
    let trace_same : c.trace-1.given.0 ≡ c.give_over-line.result.trace.now = search rules in
    line-moved (same-line (sym same) (ap g.R.Sink.held (sym trace_same)))
    (alone-over (λ l. lined l.target.now (g.R.Sink.held l.trace.now)) c.give_over-line.ensures.played
    (record {
      left_is = λ x. refl;
      within = λ x usable. usable.within;
      reads = λ x x' at count r d. d.told;
      writes = λ x x' at bytes r d. d.told;
    }) tree left held)
