use Rattle.std.proofs.Common.{None, ap, sym, subst}
use Rattle.spike_front.specs.Plans.{IsPlan, planned_source}
use Rattle.spike_front.proofs.Plans.{large_source, named_at, ok_as, source_of_file}
use Rattle.spike_front.proofs.plan.plan_asm.Goals as goal

pub returns-in-Missing-clause-told : goal.returns-in-Missing-clause-told
returns-in-Missing-clause-told g c = λ t formed told.
    let read = c.in_ok-find_named.ensures.told t formed told in
    let stands = rw c.in-Missing.is at read.0 in
    (ap planned_source (named_at c.args.file c.args.words.now _ t None c.word.ensures stands), read.1)

pub returns-in-TooLarge-clause-told : goal.returns-in-TooLarge-clause-told
returns-in-TooLarge-clause-told g c = λ t formed told.
    let read = c.in_ok-find_named.ensures.told t formed told in
    let stands = rw c.in-TooLarge.is at read.0 in
    (large_source _ stands.0 (named_at c.args.file c.args.words.now _ t _ c.word.ensures stands.1) stands.2, read.1)

pub returns-in-Bytes-clause-told : goal.returns-in-Bytes-clause-told
returns-in-Bytes-clause-told g c = ok_as c.plan_text.result _ _ c.plan_text.ensures.told (λ plan is t formed told.
    let read = c.in_ok-find_named.ensures.told t formed told in
    let stands = rw c.in-Bytes.is at read.0 in
    let here = source_of_file _ _ (named_at c.args.file c.args.words.now _ t _ c.word.ensures stands.0) stands.1 in
    (subst (IsPlan plan) (sym here) (rw c.deref.ensures.value at is), read.1))
