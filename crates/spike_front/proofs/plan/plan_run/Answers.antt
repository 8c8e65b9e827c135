use Rattle.std.proofs.Common.{None, ap, drop, sym, subst}
use Rattle.spike_front.specs.Plans.{IsPlan, named_folder, planned_file}
use Rattle.spike_front.proofs.Plans.{large_file, named_at, ok_as, run_of_file}
use Rattle.spike_front.proofs.plan.plan_run.Goals as goal

pub returns-in-Missing-clause-told : goal.returns-in-Missing-clause-told
returns-in-Missing-clause-told g c = λ t formed told.
    let read = c.in_ok-find_named.ensures.told t formed told in
    let stands = rw c.in-Missing.is at read.0 in
    (ap (planned_file c.args.limit (named_folder c.args.under c.args.words.now t) (drop c.args.file c.args.words.now)) (named_at c.args.file c.args.words.now _ t None c.word.ensures stands), read.1)

pub returns-in-TooLarge-clause-told : goal.returns-in-TooLarge-clause-told
returns-in-TooLarge-clause-told g c = λ t formed told.
    let read = c.in_ok-find_named.ensures.told t formed told in
    let stands = rw c.in-TooLarge.is at read.0 in
    (large_file c.args.limit c.args.file c.args.under c.args.words.now t stands.0 (named_at c.args.file c.args.words.now _ t _ c.word.ensures stands.1) stands.2, read.1)

pub returns-in-Bytes-clause-told : goal.returns-in-Bytes-clause-told
returns-in-Bytes-clause-told g c = ok_as c.plan_image.result _ _ c.plan_image.ensures.told (λ plan is t formed told.
    let read = c.in_ok-find_named.ensures.told t formed told in
    let stands = rw c.in-Bytes.is at read.0 in
    let here = run_of_file c.args.limit c.args.file c.args.under c.args.words.now t _ (named_at c.args.file c.args.words.now _ t _ c.word.ensures stands.0) in
    (subst (IsPlan plan) (sym here) (rw c.deref.ensures.value at is t read.1), c.plan_image.ensures.tree t read.1))

pub returns-in-Bytes-clause-files : goal.returns-in-Bytes-clause-files
returns-in-Bytes-clause-files g c = λ t told.
    let found = c.in_ok-find_named.ensures.files t told in
    (found.0, c.plan_image.ensures.tree found.0 found.1, found.2)
