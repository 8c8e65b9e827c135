use Rattle.std.proofs.Common.{◌≢◌, ◌<◌, length, get_or-set_other, get_or-set_same, length-set, below_more, arith, sym, ◌∙◌}
use Rattle.std.proofs.lemmas.List.{ext_get_or}
use Rattle.kernel_sim.proofs.steps.registers.Goals as goal

pub loop-n-preserved : goal.loop-n-preserved
loop-n-preserved c = (
  length-set c.loop-n.registers c.loop-n.n c.read_reg.result ∙ c.loop-n.invariant.0,
  below_more _ _
      (λ k h. let ne : k ≢ c.loop-n.n = omega arith in get_or-set_other c.loop-n.registers c.loop-n.n k c.read_reg.result 0 ne ∙ c.loop-n.invariant.1 k h)
      (let count = c.loop-n.invariant.0 in let lt : c.loop-n.n < length c.loop-n.registers = omega arith in get_or-set_same c.loop-n.registers c.loop-n.n c.read_reg.result 0 lt ∙ c.read_reg.ensures),
)

pub returns : goal.returns
returns c = ext_get_or 0 _ _ (c.loop-n.invariant.0 ∙ sym c.requires.registers_fit.count) (λ i l. c.loop-n.invariant.1 i (let count = c.loop-n.invariant.0 in omega arith))
