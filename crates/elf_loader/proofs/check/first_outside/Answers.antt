use Rattle.std.proofs.Common.{◌≡◌, ◌∙◌, true, false, sym, arith}
use Rattle.std.proofs.lemmas.Grind.{common_steps}
use Rattle.elf_loader.specs.ProgramHeader.{is_outside}
use Rattle.elf_loader.proofs.Walks.{position-here, position-next}
use Rattle.elf_loader.proofs.check.first_outside.Goals as goal

pub loop-i-preserved : goal.loop-i-preserved
loop-i-preserved c =
    let fails : is_outside c.args.areas.now c.get-header.result ≡ false = grind (arith, common_steps) in
    c.loop-i.invariant ∙ position-next (is_outside c.args.areas.now) c.args.headers.now c.loop-i.i c.get-header.result
    c.get-header.ensures c.loop-i.i fails

pub returns-then-is_outside : goal.returns-then-is_outside
returns-then-is_outside c =
    let passes : is_outside c.args.areas.now c.get-header.result ≡ true = grind (arith, common_steps) in
    sym (c.loop-i.invariant ∙ position-here (is_outside c.args.areas.now) c.args.headers.now c.loop-i.i
    c.get-header.result c.get-header.ensures c.loop-i.i passes)
