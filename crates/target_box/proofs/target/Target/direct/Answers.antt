use Rattle.std.proofs.Common.{rules, subst}
use Rattle.rv_hart.specs.HartStep.{HartState, IsHart}
use Rattle.target_box.specs.TargetLaws.{reset_usable}
use Rattle.target_box.proofs.target.Target.direct.Goals as goal

pub returns-clause-usable : goal.returns-clause-usable
returns-clause-usable c =
    reset_usable _ c.args.pauses c.args.limit (search rules) c.within_limits.ensures
    (subst (λ (h : HartState). IsHart h) c.reset.ensures.value c.reset.ensures.range)
