use Rattle.chunk_memory.proofs.BusRanges.{bus_reads_user}
use Rattle.chunk_memory.proofs.laws.bus_reads_user.Goals as goal

pub returns : goal.returns
returns c = bus_reads_user
