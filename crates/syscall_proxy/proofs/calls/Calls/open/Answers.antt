use Rattle.std.proofs.Common.{◌≡◌, ◌<◌, ℕ, ◌-◌, ◌^◌, Bool, true, false, ◌==◌, not, nat_lt, nat_le, arith, rules, refl}
use Rattle.std.proofs.Common.{ap, sym, ◌∙◌, ne_eqb, Ok, Err}
use Rattle.std.proofs.lemmas.Bool.{eq-eqb}
use Rattle.std.proofs.lemmas.Bool.Decides.{nat_tests}
use Rattle.fe_base.specs.Limits.{guest_file_limit, guest_path_limit}
use Rattle.host_text.specs.Laws.{on-true, on-false}
use Rattle.host_text.specs.Played.{ended, has_read, read_stopped, has_written, write_stopped, has_taken, take_stopped}
use Rattle.host_text.specs.Played.{has_put, put_stopped, has_asked, ask_stopped, noted}
use Rattle.syscall_proxy.specs.declared.answers.CallAnswer.TheVariants.{Result as Value}
use Rattle.syscall_proxy.proofs.Leaves.{kept-as, done-by, residual}
use Rattle.syscall_proxy.proofs.calls.Calls.open.Goals as goal

pub returns-then-is_invalid-clause-played : goal.returns-then-is_invalid-clause-played
returns-then-is_invalid-clause-played g c =
    λ waiting. on-true _ (sym c.is_invalid.ensures ∙ c.if-is_invalid.true)
    (done-by c.refuse.ensures.value c.refuse.ensures.acted c.refuse.ensures.numbers)

pub returns-in-None-clause-played : goal.returns-in-None-clause-played
returns-in-None-clause-played g c =
    λ waiting. on-false _ (sym c.is_invalid.ensures ∙ c.if-is_invalid.false)
    (rw (sym c.first_free.ensures ∙ c.in-None.is)
    (done-by c.refuse-in-None.ensures.value c.refuse-in-None.ensures.acted c.refuse-in-None.ensures.numbers))

pub returns-in_err-kind-in-Some-clause-played : goal.returns-in_err-kind-in-Some-clause-played
returns-in_err-kind-in-Some-clause-played g c =
    λ waiting. on-false _ (sym c.is_invalid.ensures ∙ c.if-is_invalid.false)
    (rw (sym c.first_free.ensures ∙ c.in-Some.is)
    (ask_stopped c.in_err-kind-in-Some.ensures.err.1
    (residual _ _ c.from_residual.ensures ∙ ap Err c.in_err-kind-in-Some.ensures.err.2) refl))

pub returns-in_ok-kind-in-Some-clause-played : goal.returns-in_ok-kind-in-Some-clause-played
returns-in_ok-kind-in-Some-clause-played g c =
    λ waiting. on-false _ (sym c.is_invalid.ensures ∙ c.if-is_invalid.false)
    (rw (sym c.first_free.ensures ∙ c.in-Some.is)
    (has_asked c.in_ok-kind-in-Some.ensures.ok (c.open_kind.ensures.played waiting)))
