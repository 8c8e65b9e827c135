use Rattle.std.proofs.Common.{◌∙◌, Some, length, sym, ap, arith}
use Rattle.std.specs.Prelude.{slice_get}
use Rattle.elf_loader.proofs.Table.{length-headers_from, slice_get-headers_from}
use Rattle.elf_loader.proofs.header.Headers.get.Goals as goal

pub header_at-requires : goal.header_at-requires
header_at-requires c =
    let count = sym (length-headers_from c.self.inside.file.now c.self.inside.place c.self.inside.count)
    ∙ ap length c.self.view_is in
    omega (arith, c.self.invariant, c.requires, count)

pub returns : goal.returns
returns c =
    let count = sym (length-headers_from c.self.inside.file.now c.self.inside.place c.self.inside.count)
    ∙ ap length c.self.view_is in
    ap (λ hs. slice_get hs c.args.i) (sym c.self.view_is)
    ∙ slice_get-headers_from c.self.inside.file.now c.self.inside.place c.self.inside.count c.args.i
    (omega (arith, c.requires, count))
    ∙ ap Some (sym c.header_at.ensures)
