use Rattle.std.proofs.Common.{◌≡◌, ◌<◌, ℕ, ◌-◌, ◌^◌, Bool, true, false, ◌==◌, not, nat_lt, nat_le, arith, rules, refl}
use Rattle.std.proofs.Common.{ap, sym, ◌∙◌, ne_eqb, Ok, Err}
use Rattle.std.proofs.lemmas.Bool.{eq-eqb}
use Rattle.std.proofs.lemmas.Bool.Decides.{nat_tests}
use Rattle.host_text.specs.Played.{ended, has_read, read_stopped, has_written, write_stopped, has_taken, take_stopped}
use Rattle.host_text.specs.Played.{has_put, put_stopped, has_asked, ask_stopped, noted}
use Rattle.fe_base.specs.Limits.{guest_file_limit}
use Rattle.syscall_proxy.specs.declared.answers.CallAnswer.TheVariants.{Result as Value}
use Rattle.syscall_proxy.proofs.Leaves.{kept-as, done-by, residual}
use Rattle.syscall_proxy.proofs.calls.Calls.close.Goals as goal

pub returns-in-Closed-clause-played : goal.returns-in-Closed-clause-played
returns-in-Closed-clause-played g c =
    λ waiting. rw (sym c.at.ensures ∙ c.in-Closed.is)
    (done-by c.refuse.ensures.value c.refuse.ensures.acted c.refuse.ensures.numbers)

pub returns-in-Input-clause-played : goal.returns-in-Input-clause-played
returns-in-Input-clause-played g c =
    λ waiting. rw (sym c.at.ensures ∙ c.in-Input.is)
    (noted (kept-as waiting c.free.ensures.numbers c.free.ensures.acted) (ended (ap Ok c.free.ensures.value) refl))

pub returns-in-Console-clause-played : goal.returns-in-Console-clause-played
returns-in-Console-clause-played g c =
    λ waiting. rw (sym c.at.ensures ∙ c.in-Console.is)
    (noted (kept-as waiting c.free-in-Console.ensures.numbers c.free-in-Console.ensures.acted)
    (ended (ap Ok c.free-in-Console.ensures.value) refl))

pub returns-in_err-release-in-File-clause-played : goal.returns-in_err-release-in-File-clause-played
returns-in_err-release-in-File-clause-played g c =
    λ waiting. rw (sym c.at.ensures ∙ c.in-File.is)
    (ask_stopped c.in_err-release-in-File.ensures.err.1
    (residual _ _ c.from_residual.ensures ∙ ap Err c.in_err-release-in-File.ensures.err.2) refl)

pub returns-in_ok-release-in-File-clause-played : goal.returns-in_ok-release-in-File-clause-played
returns-in_ok-release-in-File-clause-played g c =
    λ waiting. rw (sym c.at.ensures ∙ c.in-File.is)
    (has_asked c.in_ok-release-in-File.ensures.ok
    (noted (kept-as waiting c.free-in-File.ensures.numbers c.free-in-File.ensures.acted)
    (ended (ap Ok c.free-in-File.ensures.value) refl)))
