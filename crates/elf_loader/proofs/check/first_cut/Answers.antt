use Rattle.std.proofs.Common.{◌≡◌, ◌∙◌, true, false, sym, arith}
use Rattle.std.proofs.lemmas.Grind.{common_steps}
use Rattle.elf_loader.specs.ProgramHeader.{is_cut}
use Rattle.elf_loader.proofs.Walks.{position-here, position-next}
use Rattle.elf_loader.proofs.check.first_cut.Goals as goal

pub loop-i-preserved : goal.loop-i-preserved
loop-i-preserved c =
    let fails : (is_cut c.args.file_length) c.get-header.result ≡ false = grind (arith, common_steps) in
    c.loop-i.invariant ∙ position-next (is_cut c.args.file_length) c.args.headers.now c.loop-i.i c.get-header.result
    c.get-header.ensures c.loop-i.i fails

pub returns-then-is_cut : goal.returns-then-is_cut
returns-then-is_cut c =
    let passes : is_cut c.args.file_length c.get-header.result ≡ true = grind (arith, common_steps) in
    sym (c.loop-i.invariant ∙ position-here (is_cut c.args.file_length) c.args.headers.now c.loop-i.i
    c.get-header.result c.get-header.ensures c.loop-i.i passes)
