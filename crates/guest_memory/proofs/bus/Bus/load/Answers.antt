use Rattle.guest_memory.proofs.BusLemmas.{bus_of-is}
use Rattle.guest_memory.proofs.bus.Bus.load.Goals as goal

pub returns-clause-whole : goal.returns-clause-whole
returns-clause-whole c = rw (← c.self.view_is) (bus_of-is c.self.inside.ram c.self.inside.start c.self.invariant.0 c.load.ensures.bytes c.self.invariant.1)
