use Rattle.std.proofs.Common.{◌≡◌, sym, ap, refl, rules}
use Rattle.plain_machine.specs.Asks.{part_cuts}
use Rattle.plain_machine.specs.Programs.{part_of}
use Rattle.plain_machine.specs.Stands.{Spares, Tells}
use Rattle.host_text.specs.World.{Contents}
use Rattle.plain_machine.proofs.Joins.{world-none}
use Rattle.plain_machine.proofs.Reached.{lone-exit, lone-result, posts-need, reaches-exit, reaches-result, served-is, on-any, moved-spares}
use Rattle.plain_machine.proofs.calls.call.Goals as goal

pub returns-in_err-value-in-Posts-clause-spared : goal.returns-in_err-value-in-Posts-clause-spared
returns-in_err-value-in-Posts-clause-spared g c =
    let h : (contents : Contents) → Tells contents (g.I.Source.left c.args.input.now) (g.C.Sink.held c.args.console.now) (g.F.Folder.tree c.args.folder.now)
    → Spares (part_cuts (part_of c.args.process.now)) c.args.host.now.given.root contents (g.I.Source.left c.serve.new.input) (g.C.Sink.held c.serve.new.console) (g.F.Folder.tree c.serve.new.folder) =
    λ contents told. moved-spares (c.in_err-value-in-Posts.ensures.spared contents told) (part_cuts (part_of c.args.process.now)) c.args.host.now.given.root (ap part_cuts c.in-Posts.ensures.part) refl in
    on-any _ _ h

pub returns-in-Exit-clause-call : goal.returns-in-Exit-clause-call
returns-in-Exit-clause-call g c = λ contents told.
    reaches-exit c.args.host.now c.serve.new.host c.args.process.now c.in-Posts.request contents c.process.inside.cpu.user c.serve.new.self.user c.in_ok-value-in-Posts.field-0 c.in-Exit.status
    (c.in_ok-value-in-Posts.ensures.row contents told) (sym c.in-Posts.ensures.part) (search rules) c.in-Exit.is

pub returns-in-Gives-clause-in_world : goal.returns-in-Gives-clause-in_world
returns-in-Gives-clause-in_world g c = world-none g.F.Folder g.I.Source g.C.Sink _ _

pub returns-in-Breaks-clause-in_world : goal.returns-in-Breaks-clause-in_world
returns-in-Breaks-clause-in_world g c = world-none g.F.Folder g.I.Source g.C.Sink _ _

pub returns-in-Result-clause-call : goal.returns-in-Result-clause-call
returns-in-Result-clause-call g c = λ contents told.
    reaches-result c.args.host.now c.serve.new.host c.args.process.now _ c.in-Posts.request contents c.process.inside.cpu.user c.serve.new.self.user c.in_ok-value-in-Posts.field-0 c.in-Result.value
    (c.in_ok-value-in-Posts.ensures.row contents told) (sym c.in-Posts.ensures.part) (search rules) c.in-Result.is
    (served-is c.args.process.now c.process.inside.cpu c.serve.new.self c.answer-in-Result.new.self c.process.inside.program_break c.process.inside.first_break c.in-Result.value (search rules) c.serve.ensures.stays c.answer-in-Result.ensures)

pub returns-in-Exit-clause-lone : goal.returns-in-Exit-clause-lone
returns-in-Exit-clause-lone g c = λ none contents.
    let user : c.args.process.now.state.user ≡ c.process.inside.cpu.user = search rules in
    let need = posts-need c.args.host.now.numbers c.args.process.now c.in-Posts.request c.process.inside.cpu.user (sym c.in-Posts.ensures.part) user none in
    lone-exit c.args.host.now c.serve.new.host c.args.process.now c.in-Posts.request contents c.process.inside.cpu.user c.serve.new.self.user c.in_ok-value-in-Posts.field-0 c.in-Exit.status
    (c.in_ok-value-in-Posts.ensures.lone need contents) (sym c.in-Posts.ensures.part) user c.in-Exit.is

pub returns-in-Result-clause-lone : goal.returns-in-Result-clause-lone
returns-in-Result-clause-lone g c = λ none contents.
    let user : c.args.process.now.state.user ≡ c.process.inside.cpu.user = search rules in
    let need = posts-need c.args.host.now.numbers c.args.process.now c.in-Posts.request c.process.inside.cpu.user (sym c.in-Posts.ensures.part) user none in
    lone-result c.args.host.now c.serve.new.host c.args.process.now _ c.in-Posts.request contents c.process.inside.cpu.user c.serve.new.self.user c.in_ok-value-in-Posts.field-0 c.in-Result.value
    (c.in_ok-value-in-Posts.ensures.lone need contents) (sym c.in-Posts.ensures.part) user c.in-Result.is
    (served-is c.args.process.now c.process.inside.cpu c.serve.new.self c.answer-in-Result.new.self c.process.inside.program_break c.process.inside.first_break c.in-Result.value (search rules) c.serve.ensures.stays c.answer-in-Result.ensures)
