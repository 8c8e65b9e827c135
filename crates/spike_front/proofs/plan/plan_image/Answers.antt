use Rattle.std.proofs.Common.{◌∙◌, Err, drop, ap}
use Rattle.spike_front.specs.Plans.{named_folder, planned_image}
use Rattle.spike_front.proofs.plan.plan_image.Goals as goal

pub returns-in-Err-Bad-clause-told : goal.returns-in-Err-Bad-clause-told
returns-in-Err-Bad-clause-told g c = λ t told.
    let bad = c.in-Err-Bad.is ∙ ap Err c.in-Err-Bad.field-0-is in
    let under = named_folder c.args.under c.args.words.now t in
    let known = ap (planned_image c.args.limit under (drop c.args.file c.args.words.now) c.args.bytes.now) ((c.read_elf.ensures.bad c.in-Err-Bad.fault).0 bad) in
    rw c.in-Err-Bad.field-0-is known
