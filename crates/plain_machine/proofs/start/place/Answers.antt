use Rattle.std.proofs.Common.{◌<◌, length, take, refl, arith}
use Rattle.std.proofs.Math.Seq.{take-length}
use Rattle.fe_base.specs.MemoryMap.{kernel_start}
use Rattle.guest_memory.proofs.AreaLemmas.{with_bus_bytes-user}
use Rattle.plain_machine.proofs.start.place.Goals as goal

pub returns : goal.returns
returns c =
    let low : c.args.at < kernel_start = omega arith in
    rw (with_bus_bytes-user c.args.bus.now c.args.at (take (length c.args.bytes.now) c.copy_from_slice.new.self) low, c.copy_from_slice.ensures.after, take-length c.args.bytes.now) refl
