use Rattle.chunk_memory.proofs.AreaRanges.{area_ranges}
use Rattle.chunk_memory.proofs.laws.areas_keep_ranges.Goals as goal

pub returns : goal.returns
returns g c =
    let A = g.A.SeenArea in
    area_ranges A.ran A.touched A.start A.size A.has c.requires
