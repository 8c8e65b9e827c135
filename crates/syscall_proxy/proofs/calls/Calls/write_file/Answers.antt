use Rattle.std.proofs.Common.{◌≡◌, ◌<◌, ℕ, ◌-◌, ◌^◌, Bool, true, false, ◌==◌, not, nat_lt, nat_le, arith, rules, refl}
use Rattle.std.proofs.Common.{ap, sym, ◌∙◌, ne_eqb, Ok, Err}
use Rattle.std.proofs.lemmas.Bool.{eq-eqb}
use Rattle.std.proofs.lemmas.Bool.Decides.{nat_tests}
use Rattle.host_text.specs.Played.{ended, has_read, read_stopped, has_written, write_stopped, has_taken, take_stopped}
use Rattle.host_text.specs.Played.{has_put, put_stopped, has_asked, ask_stopped, noted}
use Rattle.host_text.specs.Laws.{on-true, on-false}
use Rattle.fe_base.specs.Limits.{guest_file_limit}
use Rattle.syscall_proxy.specs.declared.answers.CallAnswer.TheVariants.{Result as Value}
use Rattle.syscall_proxy.proofs.Leaves.{kept-as, done-by, residual}
use Rattle.syscall_proxy.proofs.calls.Calls.write_file.Goals as goal

pub returns-then-not-file-clause-played : goal.returns-then-not-file-clause-played
returns-then-not-file-clause-played g c =
    λ waiting. rw c.if-not-file.true (done-by c.refuse.ensures.value c.refuse.ensures.acted c.refuse.ensures.numbers)

pub returns-then-count-eq0-clause-played : goal.returns-then-count-eq0-clause-played
returns-then-count-eq0-clause-played g c =
    λ waiting. rw (c.if-not-file.false, eq-eqb _ _ c.if-count-eq0.true)
    (done-by c.done.ensures.value c.done.ensures.acted c.done.ensures.numbers)

pub returns-in_err-size-clause-played : goal.returns-in_err-size-clause-played
returns-in_err-size-clause-played g c =
    λ waiting. rw (c.if-not-file.false, ne_eqb _ _ c.if-count-eq0.false, c.if-file.true)
    (ask_stopped c.in_err-size.ensures.err.1
    (residual _ _ c.from_residual.ensures ∙ ap Err c.in_err-size.ensures.err.2) refl)

pub returns-then-file-clause-played : goal.returns-then-file-clause-played
returns-then-file-clause-played g c =
    λ waiting. rw (c.if-not-file.false, ne_eqb _ _ c.if-count-eq0.false)
    (on-true _ c.if-file.true (has_asked c.in_ok-size.ensures.ok (c.write_place.ensures.played waiting)))

pub returns-clause-played : goal.returns-clause-played
returns-clause-played g c = λ waiting. rw (c.if-not-file.false, ne_eqb _ _ c.if-count-eq0.false)
    (on-false _ c.if-file.false (c.write_place-2.ensures.played waiting))
