use Rattle.std.proofs.Common.{◌≡◌, ◌<◌, ℕ, ◌-◌, ◌^◌, Bool, true, false, ◌==◌, not, nat_lt, nat_le, arith, rules, refl}
use Rattle.std.proofs.Common.{ap, sym, ◌∙◌, ne_eqb, Ok, Err}
use Rattle.std.proofs.lemmas.Bool.{eq-eqb}
use Rattle.std.proofs.lemmas.Bool.Decides.{nat_tests}
use Rattle.host_text.specs.Played.{ended, has_read, read_stopped, has_written, write_stopped, has_taken, take_stopped}
use Rattle.host_text.specs.Played.{has_put, put_stopped, has_asked, ask_stopped, noted}
use Rattle.fe_base.specs.Limits.{guest_file_limit}
use Rattle.syscall_proxy.specs.declared.answers.CallAnswer.TheVariants.{Result as Value}
use Rattle.syscall_proxy.proofs.Leaves.{kept-as, done-by, residual}
use Rattle.syscall_proxy.proofs.calls.Calls.seek.Goals as goal

pub returns-then-whence-gt2-clause-played : goal.returns-then-whence-gt2-clause-played
returns-then-whence-gt2-clause-played g c = λ waiting. let e : nat_lt 2 c.args.whence ≡ true =
    grind (arith, nat_tests) in rw (e) (done-by c.refuse.ensures.value c.refuse.ensures.acted c.refuse.ensures.numbers)

pub returns-in_err-size-clause-played : goal.returns-in_err-size-clause-played
returns-in_err-size-clause-played g c = λ waiting. let e : nat_lt 2 c.args.whence ≡ false =
    grind (arith, nat_tests) in rw (e, eq-eqb _ _ c.if-whence-eq2.true)
    (ask_stopped c.in_err-size.ensures.err.1
    (residual _ _ c.from_residual.ensures ∙ ap Err c.in_err-size.ensures.err.2) refl)

pub returns-then-whence-eq2-clause-played : goal.returns-then-whence-eq2-clause-played
returns-then-whence-eq2-clause-played g c = λ waiting. let e : nat_lt 2 c.args.whence ≡ false =
    grind (arith, nat_tests) in rw (e, eq-eqb _ _ c.if-whence-eq2.true)
    (has_asked c.in_ok-size.ensures.ok
    (noted (kept-as waiting c.sought.ensures.numbers c.sought.ensures.acted)
    (ended (ap Ok c.sought.ensures.value) refl)))

pub returns-then-whence-eq1-clause-played : goal.returns-then-whence-eq1-clause-played
returns-then-whence-eq1-clause-played g c = λ waiting. let e : nat_lt 2 c.args.whence ≡ false =
    grind (arith, nat_tests) in rw (e, ne_eqb _ _ c.if-whence-eq2.false, eq-eqb _ _ c.if-whence-eq1.true)
    (noted (kept-as waiting c.sought-then-whence-eq1.ensures.numbers c.sought-then-whence-eq1.ensures.acted)
    (ended (ap Ok c.sought-then-whence-eq1.ensures.value) refl))

pub returns-clause-played : goal.returns-clause-played
returns-clause-played g c = λ waiting. let e : nat_lt 2 c.args.whence ≡ false =
    grind (arith, nat_tests) in rw (e, ne_eqb _ _ c.if-whence-eq2.false, ne_eqb _ _ c.if-whence-eq1.false)
    (noted (kept-as waiting c.sought-2.ensures.numbers c.sought-2.ensures.acted)
    (ended (ap Ok c.sought-2.ensures.value) refl))
