use Rattle.std.proofs.Common.{refl}
use Rattle.guest_memory.proofs.BusLemmas.{bus_bytes-lent, length-lent, with_bus_bytes-lent}
use Rattle.guest_memory.proofs.bus.Bus.bytes_mut.Goals as goal

pub returns : goal.returns
returns c =
    let ram = c.self.inside.ram in
    let start = c.self.inside.start in
    let lent = c.bytes_mut.result.now in
    let long = c.self.invariant.0 in
    let here = c.place_of-place.ensures in
    let same = c.bytes_mut.ensures.value in (
      (refl, λ ws. rw (← c.self.view_is) (with_bus_bytes-lent ram start c.args.at c.args.n c.place_of-place.result long c.requires here ws)),
      record {
        writes_back = tt;
        value = rw (← c.self.view_is) (bus_bytes-lent ram start c.args.at c.args.n c.place_of-place.result lent long c.requires here same);
        length = length-lent ram c.args.at c.args.n c.place_of-place.result lent long c.requires here same;
      },
    )
