use Rattle.std.proofs.Common.{◌≡◌, ◌≤◌, ◌+◌, ◌-◌, length, refl, sym, subst, arith, rules}
use Rattle.chunk_memory.proofs.DirectTurns.{one_each, write_turns_met}
use Rattle.chunk_memory.specs.Turns.{write_turns, doublewords_met, open_ends}
use Rattle.target_box.specs.Turn.{TargetState}
use Rattle.direct_ranges.proofs.write_range.Goals as goal

pub returns-clause-turns : goal.returns-clause-turns
returns-clause-turns g c = λ pos.
    let old : TargetState = c.args.target.now in
    let new : TargetState = c.write_over-line.result.target.now in
    let cost : old.limit - old.turns ≤ new.limit - new.turns + write_turns one_each 8 1024 c.args.at (length c.args.from.now) = c.write_over-line.ensures.turns _ refl tt pos in
    let met : old.limit - old.turns ≤ new.limit - new.turns + doublewords_met c.args.at (length c.args.from.now) + open_ends c.args.at (length c.args.from.now) = omega (arith, cost, write_turns_met c.args.at (length c.args.from.now)) in
    let same : c.target-1.given.0 ≡ new = search rules in
    subst (λ (t : TargetState). old.limit - old.turns ≤ t.limit - t.turns + doublewords_met c.args.at (length c.args.from.now) + open_ends c.args.at (length c.args.from.now)) (sym same) met
