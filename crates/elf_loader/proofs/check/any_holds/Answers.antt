use Rattle.std.proofs.Common.{◌≡◌, ◌∙◌, true, false, sym, arith}
use Rattle.std.proofs.lemmas.Grind.{common_steps}
use Rattle.elf_loader.specs.ProgramHeader.{segment_holds}
use Rattle.elf_loader.proofs.Walks.{list_any-here, list_any-next}
use Rattle.elf_loader.proofs.check.any_holds.Goals as goal

pub loop-i-preserved : goal.loop-i-preserved
loop-i-preserved c =
    let fails : (segment_holds c.args.address) c.get-header.result ≡ false = grind (arith, common_steps) in
    c.loop-i.invariant ∙ list_any-next (segment_holds c.args.address) c.args.headers.now c.loop-i.i c.get-header.result
    c.get-header.ensures fails

pub returns-then-holds : goal.returns-then-holds
returns-then-holds c =
    let passes : segment_holds c.args.address c.get-header.result ≡ true = grind (arith, common_steps) in
    sym (c.loop-i.invariant ∙ list_any-here (segment_holds c.args.address) c.args.headers.now c.loop-i.i
    c.get-header.result c.get-header.ensures passes)
