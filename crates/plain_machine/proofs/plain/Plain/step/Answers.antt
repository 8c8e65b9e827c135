use Rattle.std.proofs.Common.{rules}
use Rattle.host_text.specs.World.{Contents}
use Rattle.plain_machine.specs.Asks.{step_cuts}
use Rattle.plain_machine.specs.Stands.{Spares, Tells}
use Rattle.plain_machine.proofs.Reached.{on-any, moved-spares}
use Rattle.plain_machine.proofs.Joins.{world-none}
use Rattle.plain_machine.proofs.plain.Plain.step.Goals as goal

pub returns-in-Some-clause-in_world : goal.returns-in-Some-clause-in_world
returns-in-Some-clause-in_world g c = world-none g.F.Folder g.I.Source g.C.Sink _ _

pub returns-in_err-step-clause-spared : goal.returns-in_err-step-clause-spared
returns-in_err-step-clause-spared g c =
    let h : (contents : Contents) → Tells contents (g.I.Source.left c.args.input.now) (g.C.Sink.held c.args.console.now) (g.F.Folder.tree c.args.folder.now)
    → Spares (step_cuts c.args.self.now.machine) c.args.self.now.given.root contents (g.I.Source.left c.step.new.input) (g.C.Sink.held c.step.new.console) (g.F.Folder.tree c.step.new.folder) =
    λ contents told. moved-spares (c.in_err-step.ensures.spared contents told) (step_cuts c.args.self.now.machine) c.args.self.now.given.root (search rules) (search rules) in
    on-any _ _ h
