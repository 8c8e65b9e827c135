use Rattle.std.proofs.Common.{◌≡◌, ◌∙◌, Some, sym, refl, rules}
use Rattle.std.specs.Result.{result_err}
use Rattle.host_text.specs.World.{Contents}
use Rattle.plain_machine.specs.Asks.{step_cuts}
use Rattle.plain_machine.specs.Stands.{Spares, Tells}
use Rattle.plain_machine.specs.declared.plain.PlainFault.TheVariants.{FileFault, ConsoleFault}
use Rattle.plain_machine.proofs.Joins.{world-none}
use Rattle.plain_machine.proofs.Reached.{on-any, moved-spares, world-same, put-called}
use Rattle.plain_machine.proofs.machine.Machine.step.Goals as goal

pub returns-in_err-status-in-Called-clause-spared : goal.returns-in_err-status-in-Called-clause-spared
returns-in_err-status-in-Called-clause-spared g c =
    let h : (contents : Contents) → Tells contents (g.I.Source.left c.args.input.now) (g.C.Sink.held c.args.console.now) (g.F.Folder.tree c.args.folder.now)
    → Spares (step_cuts c.args.self.now) c.args.host.now.given.root contents (g.I.Source.left c.call.new.input) (g.C.Sink.held c.call.new.console) (g.F.Folder.tree c.call.new.folder) =
    λ contents told. moved-spares (c.in_err-status-in-Called.ensures.spared contents told) (step_cuts c.args.self.now) c.args.host.now.given.root (search rules) refl in
    on-any _ _ h

pub returns-in_err-map_err-in-Some-first-clause-in_world : goal.returns-in_err-map_err-in-Some-first-clause-in_world
returns-in_err-map_err-in-Some-first-clause-in_world g c =
    let is : result_err c.from_residual-in_err-map_err-in-Some-first.result ≡ Some ConsoleFault = search rules in
    world-same g.F.Folder g.I.Source g.C.Sink _ _ _ _ _ _ _ (λ e. let clash : Some ConsoleFault ≡ Some FileFault = sym is ∙ e in cc)

pub returns-in-Moved-clause-in_world : goal.returns-in-Moved-clause-in_world
returns-in-Moved-clause-in_world g c = world-none g.F.Folder g.I.Source g.C.Sink _ _

pub returns-in-Trapped-clause-in_world : goal.returns-in-Trapped-clause-in_world
returns-in-Trapped-clause-in_world g c = world-none g.F.Folder g.I.Source g.C.Sink _ _

pub returns-in_ok-map_err-in-Some-first-clause-called : goal.returns-in_ok-map_err-in-Some-first-clause-called
returns-in_ok-map_err-in-Some-first-clause-called g c = put-called g.F.Folder g.I.Source g.C.Sink _ _ _ _ _ _ c.put_byte.ensures.put (search rules)

pub returns-in_ok-map_err-in-Some-first-clause-in_world : goal.returns-in_ok-map_err-in-Some-first-clause-in_world
returns-in_ok-map_err-in-Some-first-clause-in_world g c = world-same g.F.Folder g.I.Source g.C.Sink _ _ _ _ _ _ _ (λ e. cc)

pub returns-in-None-clause-in_world : goal.returns-in-None-clause-in_world
returns-in-None-clause-in_world g c = world-none g.F.Folder g.I.Source g.C.Sink _ _

pub returns-in-Ended-clause-in_world : goal.returns-in-Ended-clause-in_world
returns-in-Ended-clause-in_world g c = world-none g.F.Folder g.I.Source g.C.Sink _ _
