use Rattle.chunk_memory.proofs.BusRanges.{bus_writes_user}
use Rattle.chunk_memory.proofs.laws.bus_writes_user.Goals as goal

pub returns : goal.returns
returns c = bus_writes_user
