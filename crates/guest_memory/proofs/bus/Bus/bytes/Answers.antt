use Rattle.guest_memory.proofs.BusLemmas.{bus_bytes-lent}
use Rattle.guest_memory.proofs.bus.Bus.bytes.Goals as goal

pub returns-clause-value : goal.returns-clause-value
returns-clause-value c = rw (← c.self.view_is) (bus_bytes-lent c.self.inside.ram c.self.inside.start c.args.at c.args.n c.place_of.result c.bytes.result.now c.self.invariant.0 c.requires c.place_of.ensures c.bytes.ensures)
