use Rattle.std.proofs.Common.{◌≡◌, ◌∙◌, true, false, sym, arith}
use Rattle.std.proofs.lemmas.Grind.{common_steps}
use Rattle.elf_loader.specs.ProgramHeader.{segments_meet}
use Rattle.elf_loader.proofs.Walks.{position-here, position-next}
use Rattle.elf_loader.proofs.check.first_that_meets.Goals as goal

pub loop-j-preserved : goal.loop-j-preserved
loop-j-preserved c =
    let fails : (segments_meet c.args.header.now) c.get-other.result ≡ false = grind (arith, common_steps) in
    c.loop-j.invariant ∙ position-next (segments_meet c.args.header.now) c.args.headers.now c.loop-j.j
    c.get-other.result c.get-other.ensures c.loop-j.j fails

pub returns-then-meets : goal.returns-then-meets
returns-then-meets c =
    let passes : segments_meet c.args.header.now c.get-other.result ≡ true = grind (arith, common_steps) in
    sym (c.loop-j.invariant ∙ position-here (segments_meet c.args.header.now) c.args.headers.now c.loop-j.j
    c.get-other.result c.get-other.ensures c.loop-j.j passes)
