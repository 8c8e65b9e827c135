use Rattle.std.proofs.Common.{◌∙◌, length, sym, ap}
use Rattle.elf_loader.proofs.Table.{length-headers_from}
use Rattle.elf_loader.proofs.header.Headers.len.Goals as goal

pub returns : goal.returns
returns c = sym (length-headers_from c.self.inside.file.now c.self.inside.place c.self.inside.count)
    ∙ ap length c.self.view_is
