use Rattle.std.proofs.Common.{◌≡◌, ◌∙◌, true, false, sym, arith}
use Rattle.std.proofs.lemmas.Grind.{common_steps}
use Rattle.elf_loader.specs.ProgramHeader.{is_dynamic}
use Rattle.elf_loader.proofs.Walks.{list_any-here, list_any-next}
use Rattle.elf_loader.proofs.check.any_dynamic.Goals as goal

pub loop-i-preserved : goal.loop-i-preserved
loop-i-preserved c =
    let fails : is_dynamic c.get-header.result ≡ false = grind (arith, common_steps) in
    c.loop-i.invariant ∙ list_any-next is_dynamic c.args.headers.now c.loop-i.i c.get-header.result c.get-header.ensures
    fails

pub returns-then-is_dynamic : goal.returns-then-is_dynamic
returns-then-is_dynamic c =
    let passes : is_dynamic c.get-header.result ≡ true = grind (arith, common_steps) in
    sym (c.loop-i.invariant ∙ list_any-here is_dynamic c.args.headers.now c.loop-i.i c.get-header.result
    c.get-header.ensures passes)
