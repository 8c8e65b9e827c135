use Rattle.std.proofs.Common.{◌≡◌, ◌<◌, ℕ, ◌-◌, ◌^◌, Bool, true, false, ◌==◌, not, nat_lt, nat_le, arith, rules, refl}
use Rattle.std.proofs.Common.{ap, sym, ◌∙◌, ne_eqb, Ok, Err}
use Rattle.std.proofs.lemmas.Bool.{eq-eqb}
use Rattle.std.proofs.lemmas.Bool.Decides.{nat_tests}
use Rattle.fe_base.specs.Limits.{guest_file_limit, guest_path_limit}
use Rattle.host_text.specs.Laws.{on-true, on-false}
use Rattle.host_text.specs.Played.{ended, has_read, read_stopped, has_written, write_stopped, has_taken, take_stopped}
use Rattle.host_text.specs.Played.{has_put, put_stopped, has_asked, ask_stopped, noted}
use Rattle.syscall_proxy.specs.declared.answers.CallAnswer.TheVariants.{Result as Value}
use Rattle.syscall_proxy.proofs.Leaves.{kept-as, done-by, residual}
use Rattle.syscall_proxy.proofs.calls.Calls.create_file.Goals as goal

pub returns-then-not-creates-clause-played : goal.returns-then-not-creates-clause-played
returns-then-not-creates-clause-played g c =
    λ waiting. on-false _ (sym c.creates.ensures ∙ c.if-not-creates.true)
    (done-by c.refuse.ensures.value c.refuse.ensures.acted c.refuse.ensures.numbers)

pub returns-in_err-number-clause-played : goal.returns-in_err-number-clause-played
returns-in_err-number-clause-played g c =
    λ waiting. on-true _ (sym c.creates.ensures ∙ c.if-not-creates.false)
    (ask_stopped c.in_err-number.ensures.err.1
    (residual _ _ c.from_residual.ensures ∙ ap Err c.in_err-number.ensures.err.2) refl)

pub returns-clause-played : goal.returns-clause-played
returns-clause-played g c = λ waiting. on-true _ (sym c.creates.ensures ∙ c.if-not-creates.false)
    (has_asked c.in_ok-number.ensures.ok
    (noted (kept-as waiting c.opened.ensures.numbers c.opened.ensures.acted)
    (ended (ap Ok c.opened.ensures.value) refl)))
