use Rattle.std.proofs.Common.{subst, sym}
use Rattle.guest_memory.specs.Bus.{BusState, IsBus}
use Rattle.guest_memory.proofs.AreaLemmas.{IsBus-with_beat}
use Rattle.kernel_sim.proofs.tests.target.Target.write.Goals as goal

-- src/tests/target.rt
pub invariant_of-self : goal.invariant_of-self
invariant_of-self c =
    let bus = c.host_write-self-inside.ensures.bus in
    let bytes = IsBus-with_beat _ c.args.at c.args.value c.ranges.value.fits c.self.invariant.2 in
    (c.host_write-self-inside.ensures.holds, c.self.invariant.1, subst (λ (b : BusState). IsBus b) (sym bus) bytes)
