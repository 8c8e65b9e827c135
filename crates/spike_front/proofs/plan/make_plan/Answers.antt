use Rattle.std.proofs.Common.{◌∙◌, ap, sym, subst, Ok, Result}
use Rattle.spike_front.specs.Plans.{IsPlan, planned_command}
use Rattle.spike_front.specs.declared.words.Command.{Command}
use Rattle.spike_front.specs.declared.words.WordFault.{WordFault}
use Rattle.spike_front.proofs.Plans.{ok_as}
use Rattle.spike_front.proofs.plan.make_plan.Goals as goal

pub returns-in-Ok-Plain-clause-told : goal.returns-in-Ok-Plain-clause-told
returns-in-Ok-Plain-clause-told g c = ok_as c.plan_run.result _ _ c.plan_run.ensures.told (λ plan is t formed told.
    let made = is t formed told in
    let read = rw c.in-Ok-Plain.is at c.in-Ok-Plain.field-0-is in
    let asked = ap Ok (sym read) ∙ sym c.in-Ok-Plain.is ∙ c.requires.asked in
    (subst (λ (r : Result Command WordFault). IsPlan plan (planned_command r c.args.words.now t)) asked made.0, made.1))

pub returns-in-Ok-Asm-clause-told : goal.returns-in-Ok-Asm-clause-told
returns-in-Ok-Asm-clause-told g c = ok_as c.plan_asm.result _ _ c.plan_asm.ensures.told (λ plan is t formed told.
    let made = is t formed told in
    let read = rw c.in-Ok-Asm.is at c.in-Ok-Asm.field-0-is in
    let asked = ap Ok (sym read) ∙ sym c.in-Ok-Asm.is ∙ c.requires.asked in
    (subst (λ (r : Result Command WordFault). IsPlan plan (planned_command r c.args.words.now t)) asked made.0, made.1))
