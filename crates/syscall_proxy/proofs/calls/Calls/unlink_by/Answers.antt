use Rattle.std.proofs.Common.{◌≡◌, ◌<◌, ℕ, ◌-◌, ◌^◌, Bool, true, false, ◌==◌, ◌||◌, not, nat_lt, nat_le, List, []}
use Rattle.std.proofs.Common.{length, arith, rules, refl, ap, sym, ◌∙◌, ne_eqb, Ok, Err}
use Rattle.std.proofs.lemmas.Bool.{eq-eqb, eqb-true, eqb-false}
use Rattle.std.proofs.lemmas.Bool.Decides.{nat_tests}
use Rattle.fe_base.specs.Limits.{guest_file_limit, guest_path_limit}
use Rattle.host_text.specs.Laws.{on-true, on-false}
use Rattle.host_text.specs.Played.{ended, has_read, read_stopped, has_written, write_stopped, has_taken, take_stopped}
use Rattle.host_text.specs.Played.{has_put, put_stopped, has_asked, ask_stopped, noted}
use Rattle.syscall_proxy.specs.declared.answers.CallAnswer.TheVariants.{Result as Value}
use Rattle.syscall_proxy.proofs.Leaves.{kept-as, done-by, residual}
use Rattle.syscall_proxy.proofs.calls.Calls.unlink_by.Goals as goal

pub returns-in-UnderFile-clause-played : goal.returns-in-UnderFile-clause-played
returns-in-UnderFile-clause-played g c =
    λ waiting. rw c.in-UnderFile.is (done-by c.refuse.ensures.value c.refuse.ensures.acted c.refuse.ensures.numbers)

pub returns-in-NoParent-clause-played : goal.returns-in-NoParent-clause-played
returns-in-NoParent-clause-played g c =
    λ waiting. rw c.in-NoParent.is
    (done-by c.refuse-in-NoParent.ensures.value c.refuse-in-NoParent.ensures.acted c.refuse-in-NoParent.ensures.numbers)

pub returns-in-Free-clause-played : goal.returns-in-Free-clause-played
returns-in-Free-clause-played g c =
    λ waiting. rw c.in-Free.is (done-by c.refuse-in-Free.ensures.value c.refuse-in-Free.ensures.acted
    c.refuse-in-Free.ensures.numbers)

pub returns-else-dir-clause-played : goal.returns-else-dir-clause-played
returns-else-dir-clause-played g c =
    λ waiting. rw (c.in-Directory.is, c.if-dir.false)
    (done-by c.refuse-in-Directory.ensures.value c.refuse-in-Directory.ensures.acted
    c.refuse-in-Directory.ensures.numbers)

pub returns-then-dir-2-clause-played : goal.returns-then-dir-2-clause-played
returns-then-dir-2-clause-played g c =
    λ waiting. rw (c.in-File.is, c.if-dir-2.true)
    (done-by c.refuse-then-dir-2.ensures.value c.refuse-then-dir-2.ensures.acted c.refuse-then-dir-2.ensures.numbers)

pub returns-in_err-remove-in-File-clause-played : goal.returns-in_err-remove-in-File-clause-played
returns-in_err-remove-in-File-clause-played g c =
    λ waiting. rw (c.in-File.is, c.if-dir-2.false)
    (ask_stopped c.in_err-remove-in-File.ensures.err.1
    (residual _ _ c.from_residual.ensures ∙ ap Err c.in_err-remove-in-File.ensures.err.2) refl)

pub returns-in_ok-remove-in-File-clause-played : goal.returns-in_ok-remove-in-File-clause-played
returns-in_ok-remove-in-File-clause-played g c =
    λ waiting. rw (c.in-File.is, c.if-dir-2.false)
    (has_asked c.in_ok-remove-in-File.ensures.ok
    (done-by c.done.ensures.value c.done.ensures.acted c.done.ensures.numbers))
