use Rattle.std.proofs.Common.{◌≡◌, ◌∙◌, ◌+◌, drop, Some, None, sym, rules, arith}
use Rattle.std.specs.List.{position_from}
use Rattle.std.proofs.lemmas.Grind.{common_steps}
use Rattle.elf_loader.specs.ProgramHeader.{segments_meet}
use Rattle.elf_loader.proofs.Meetings.{meeting-here, meeting-next}
use Rattle.elf_loader.proofs.check.first_meeting.Goals as goal

pub returns-in-Some : goal.returns-in-Some
returns-in-Some c =
    let found : position_from (segments_meet c.get-header.result) (c.loop-i.i + 1)
    (drop (c.loop-i.i + 1) c.args.headers.now) ≡ Some c.in-Some.j =
    first_of (search rules, grind (arith, common_steps)) in
    sym (c.loop-i.invariant ∙ meeting-here c.args.headers.now c.loop-i.i c.get-header.result c.get-header.ensures
    c.in-Some.j found)

pub loop-i-preserved : goal.loop-i-preserved
loop-i-preserved c =
    let none : position_from (segments_meet c.get-header.result) (c.loop-i.i + 1)
    (drop (c.loop-i.i + 1) c.args.headers.now) ≡ None =
    first_of (search rules, grind (arith, common_steps)) in
    c.loop-i.invariant ∙ meeting-next c.args.headers.now c.loop-i.i c.get-header.result c.get-header.ensures none
