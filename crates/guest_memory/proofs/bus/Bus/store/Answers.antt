use Rattle.std.proofs.Common.{◌∙◌}
use Rattle.guest_memory.proofs.bus.Bus.store.Goals as goal

pub invariant_of-self : goal.invariant_of-self
invariant_of-self c = (c.store.ensures.length ∙ c.self.invariant.0, c.self.invariant.1)
