use Rattle.std.proofs.Common.{◌≡◌, ◌<◌, ℕ, ◌-◌, ◌^◌, Bool, true, false, ◌==◌, not, nat_lt, nat_le, arith, rules, refl}
use Rattle.std.proofs.Common.{ap, sym, ◌∙◌, ne_eqb, Ok, Err}
use Rattle.std.proofs.lemmas.Bool.{eq-eqb}
use Rattle.std.proofs.lemmas.Bool.Decides.{nat_tests}
use Rattle.host_text.specs.Played.{ended, has_read, read_stopped, has_written, write_stopped, has_taken, take_stopped}
use Rattle.host_text.specs.Played.{has_put, put_stopped, has_asked, ask_stopped, noted}
use Rattle.fe_base.specs.Limits.{guest_file_limit}
use Rattle.syscall_proxy.specs.declared.answers.CallAnswer.TheVariants.{Result as Value}
use Rattle.syscall_proxy.proofs.Leaves.{kept-as, done-by, residual}
use Rattle.syscall_proxy.proofs.calls.Calls.write_console.Goals as goal

pub returns-then-count-eq0-clause-played : goal.returns-then-count-eq0-clause-played
returns-then-count-eq0-clause-played g c =
    λ waiting. rw (eq-eqb _ _ c.if-count-eq0.true)
    (done-by c.done.ensures.value c.done.ensures.acted c.done.ensures.numbers)

pub returns-in_err-read-clause-played : goal.returns-in_err-read-clause-played
returns-in_err-read-clause-played g c =
    λ waiting. rw (ne_eqb _ _ c.if-count-eq0.false)
    (read_stopped c.in_err-read.ensures.err.1
    (residual _ _ c.from_residual.ensures ∙ ap Err c.in_err-read.ensures.err.2) refl)

pub returns-in_err-put-clause-played : goal.returns-in_err-put-clause-played
returns-in_err-put-clause-played g c =
    λ waiting. rw (ne_eqb _ _ c.if-count-eq0.false)
    (has_read c.in_ok-read.ensures.ok
    (put_stopped c.in_err-put.ensures.err.1
    (residual _ _ c.from_residual-in_err-put.ensures ∙ ap Err c.in_err-put.ensures.err.2) refl))

pub returns-clause-played : goal.returns-clause-played
returns-clause-played g c = λ waiting. rw (ne_eqb _ _ c.if-count-eq0.false)
    (has_read c.in_ok-read.ensures.ok
    (has_put c.in_ok-put.ensures.ok (done-by c.done-2.ensures.value c.done-2.ensures.acted c.done-2.ensures.numbers)))
