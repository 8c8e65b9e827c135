use Rattle.std.proofs.Common.{lit<}
use Rattle.guest_memory.proofs.BusLemmas.{reset_of}
use Rattle.guest_memory.proofs.bus.Bus.new.Goals as goal

pub invariant_of-result : goal.invariant_of-result
invariant_of-result c = (c.in_ok-ram.ensures.length, lit< tt)

pub returns : goal.returns
returns c = reset_of c.in_ok-ram.ram c.in_ok-ram.ensures.bytes
