use Rattle.std.proofs.Common.{◌≡◌, ◌<◌, ℕ, ◌-◌, ◌^◌, Bool, true, false, ◌==◌, not, nat_lt, nat_le, arith, rules, refl}
use Rattle.std.proofs.Common.{ap, sym, ◌∙◌, ne_eqb, Ok, Err}
use Rattle.std.proofs.lemmas.Bool.{eq-eqb}
use Rattle.std.proofs.lemmas.Bool.Decides.{nat_tests}
use Rattle.host_text.specs.Played.{ended, has_read, read_stopped, has_written, write_stopped, has_taken, take_stopped}
use Rattle.host_text.specs.Played.{has_put, put_stopped, has_asked, ask_stopped, noted}
use Rattle.fe_base.specs.Limits.{guest_file_limit}
use Rattle.syscall_proxy.specs.declared.answers.CallAnswer.TheVariants.{Result as Value}
use Rattle.syscall_proxy.proofs.Leaves.{kept-as, done-by, residual}
use Rattle.syscall_proxy.proofs.calls.Calls.lseek.Goals as goal

pub returns-in-Closed-clause-played : goal.returns-in-Closed-clause-played
returns-in-Closed-clause-played g c =
    λ waiting. rw (sym c.at.ensures ∙ c.in-Closed.is)
    (done-by c.refuse.ensures.value c.refuse.ensures.acted c.refuse.ensures.numbers)

pub returns-in-Input-clause-played : goal.returns-in-Input-clause-played
returns-in-Input-clause-played g c =
    λ waiting. rw (sym c.at.ensures ∙ c.in-Input.is)
    (done-by c.refuse-in-Input.ensures.value c.refuse-in-Input.ensures.acted c.refuse-in-Input.ensures.numbers)

pub returns-in-Console-clause-played : goal.returns-in-Console-clause-played
returns-in-Console-clause-played g c =
    λ waiting. rw (sym c.at.ensures ∙ c.in-Console.is)
    (done-by c.refuse-in-Console.ensures.value c.refuse-in-Console.ensures.acted c.refuse-in-Console.ensures.numbers)
