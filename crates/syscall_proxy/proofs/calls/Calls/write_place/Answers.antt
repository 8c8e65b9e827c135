use Rattle.std.proofs.Common.{◌≡◌, ◌<◌, ℕ, ◌-◌, ◌^◌, Bool, true, false, ◌==◌, not, nat_lt, nat_le, arith, rules, refl}
use Rattle.std.proofs.Common.{ap, sym, ◌∙◌, ne_eqb, Ok, Err}
use Rattle.std.proofs.lemmas.Bool.{eq-eqb}
use Rattle.std.proofs.lemmas.Bool.Decides.{nat_tests}
use Rattle.host_text.specs.Played.{ended, has_read, read_stopped, has_written, write_stopped, has_taken, take_stopped}
use Rattle.host_text.specs.Played.{has_put, put_stopped, has_asked, ask_stopped, noted}
use Rattle.fe_base.specs.Limits.{guest_file_limit}
use Rattle.syscall_proxy.specs.declared.answers.CallAnswer.TheVariants.{Result as Value}
use Rattle.syscall_proxy.proofs.Leaves.{kept-as, done-by, residual}
use Rattle.syscall_proxy.proofs.calls.Calls.write_place.Goals as goal

pub returns-then-place-count-clause-played : goal.returns-then-place-count-clause-played
returns-then-place-count-clause-played g c =
    λ waiting. let e : nat_lt (guest_file_limit - c.args.count) c.args.place ≡ true =
    grind (arith, nat_tests) in rw e (done-by c.refuse.ensures.value c.refuse.ensures.acted c.refuse.ensures.numbers)

pub returns-in_err-read-clause-played : goal.returns-in_err-read-clause-played
returns-in_err-read-clause-played g c =
    λ waiting. let e : nat_lt (guest_file_limit - c.args.count) c.args.place ≡ false =
    grind (arith, nat_tests) in rw e
    (read_stopped c.in_err-read.ensures.err.1
    (residual _ _ c.from_residual.ensures ∙ ap Err c.in_err-read.ensures.err.2) refl)

pub returns-in_err-write_at-clause-played : goal.returns-in_err-write_at-clause-played
returns-in_err-write_at-clause-played g c =
    λ waiting. let e : nat_lt (guest_file_limit - c.args.count) c.args.place ≡ false =
    grind (arith, nat_tests) in rw e
    (has_read c.in_ok-read.ensures.ok
    (ask_stopped c.in_err-write_at.ensures.err.1
    (residual _ _ c.from_residual-in_err-write_at.ensures ∙ ap Err c.in_err-write_at.ensures.err.2) refl))

pub returns-clause-played : goal.returns-clause-played
returns-clause-played g c = λ waiting. let e : nat_lt (guest_file_limit - c.args.count) c.args.place ≡ false =
    grind (arith, nat_tests) in rw e
    (has_read c.in_ok-read.ensures.ok
    (has_asked c.in_ok-write_at.ensures.ok (noted (kept-as waiting c.place.ensures refl) (ended refl refl))))
