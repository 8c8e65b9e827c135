use Rattle.std.proofs.Common.{◌≡◌, ap, sym, ◌∙◌}
use Rattle.rv_hart.specs.HartStep.{System, over, hart_step}
use Rattle.rv_hart.proofs.LinedLaws.{lined_step_quiet}
use Rattle.rv_hart.proofs.WalkLaws.{hart_after-one}
use Rattle.rv_hart.proofs.hart.Hart.step.Goals as goal

pub returns-clause-step : goal.returns-clause-step
returns-clause-step c =
    let first : System = over c.args.bus.now c.args.self.now in
    let made : over c.run_steps.new.bus c.run_steps.new.self ≡ hart_step first = sym c.run_steps.ensures.steps ∙ hart_after-one first in
    ap (λ (s : System). record { system = s; lines = c.args.lines.now }) made ∙ sym (lined_step_quiet (record { system = first; lines = c.args.lines.now }) c.requires)

pub returns-clause-quiet : goal.returns-clause-quiet
returns-clause-quiet c = sym c.run_steps.ensures.steps ∙ hart_after-one (over c.args.bus.now c.args.self.now)
