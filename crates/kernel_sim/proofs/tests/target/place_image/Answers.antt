use Rattle.std.proofs.Common.{◌≤◌, length, take, arith}
use Rattle.std.proofs.Math.Seq.{take-length}
use Rattle.fe_base.specs.MemoryMap.{kernel_start}
use Rattle.guest_memory.proofs.AreaLemmas.{with_bus_bytes-kernel}
use Rattle.kernel_sim.proofs.LoadLaws.{image_loads}
use Rattle.kernel_sim.proofs.tests.target.place_image.Goals as goal

-- src/tests/target.rt
pub returns : goal.returns
returns c =
    let high : kernel_start ≤ kernel_start = omega arith in
    let placed = take (length c.args.image.now) c.copy_from_slice.new.self in
    let written = with_bus_bytes-kernel c.args.bus.now kernel_start placed high in
    rw (written, c.copy_from_slice.ensures.after, take-length c.args.image.now)
    (image_loads c.args.image.now _ c.requires.insns c.requires.length)
