use Rattle.std.proofs.Common.{◌≡◌, ◌<◌, ℕ, ◌-◌, ◌^◌, Bool, true, false, ◌==◌, not, nat_lt, nat_le, arith, rules, refl}
use Rattle.std.proofs.Common.{ap, sym, ◌∙◌, ne_eqb, Ok, Err}
use Rattle.std.proofs.lemmas.Bool.{eq-eqb}
use Rattle.std.proofs.lemmas.Bool.Decides.{nat_tests}
use Rattle.fe_base.specs.Limits.{guest_file_limit, guest_path_limit}
use Rattle.host_text.specs.Laws.{on-true, on-false}
use Rattle.host_text.specs.Played.{ended, has_read, read_stopped, has_written, write_stopped, has_taken, take_stopped}
use Rattle.host_text.specs.Played.{has_put, put_stopped, has_asked, ask_stopped, noted}
use Rattle.syscall_proxy.specs.declared.answers.CallAnswer.TheVariants.{Result as Value}
use Rattle.syscall_proxy.proofs.Leaves.{kept-as, done-by, residual}
use Rattle.syscall_proxy.proofs.calls.Calls.pwrite_file.Goals as goal

pub returns-then-not-file-clause-played : goal.returns-then-not-file-clause-played
returns-then-not-file-clause-played g c =
    λ waiting. rw c.if-not-file.true (done-by c.refuse.ensures.value c.refuse.ensures.acted c.refuse.ensures.numbers)

pub returns-then-offset-clause-played : goal.returns-then-offset-clause-played
returns-then-offset-clause-played g c = λ waiting. let e : nat_le (2 ^ 63) c.args.offset ≡ true =
    grind (arith, nat_tests) in rw (c.if-not-file.false, e)
    (done-by c.refuse-then-offset.ensures.value c.refuse-then-offset.ensures.acted c.refuse-then-offset.ensures.numbers)

pub returns-then-count-eq0-clause-played : goal.returns-then-count-eq0-clause-played
returns-then-count-eq0-clause-played g c = λ waiting. let e : nat_le (2 ^ 63) c.args.offset ≡ false =
    grind (arith, nat_tests) in rw (c.if-not-file.false, e, eq-eqb _ _ c.if-count-eq0.true)
    (done-by c.done.ensures.value c.done.ensures.acted c.done.ensures.numbers)

pub returns-then-offset-count-clause-played : goal.returns-then-offset-count-clause-played
returns-then-offset-count-clause-played g c = λ waiting. let e : nat_le (2 ^ 63) c.args.offset ≡ false =
    grind (arith, nat_tests) in let b : nat_lt (guest_file_limit - c.args.count) c.args.offset ≡ true =
    grind (arith, nat_tests) in rw (c.if-not-file.false, e, ne_eqb _ _ c.if-count-eq0.false, b)
    (done-by c.refuse-then-offset-count.ensures.value c.refuse-then-offset-count.ensures.acted
    c.refuse-then-offset-count.ensures.numbers)

pub returns-in_err-read-clause-played : goal.returns-in_err-read-clause-played
returns-in_err-read-clause-played g c = λ waiting. let e : nat_le (2 ^ 63) c.args.offset ≡ false =
    grind (arith, nat_tests) in let b : nat_lt (guest_file_limit - c.args.count) c.args.offset ≡ false =
    grind (arith, nat_tests) in rw (c.if-not-file.false, e, ne_eqb _ _ c.if-count-eq0.false, b)
    (read_stopped c.in_err-read.ensures.err.1
    (residual _ _ c.from_residual.ensures ∙ ap Err c.in_err-read.ensures.err.2) refl)

pub returns-in_err-write_at-clause-played : goal.returns-in_err-write_at-clause-played
returns-in_err-write_at-clause-played g c = λ waiting. let e : nat_le (2 ^ 63) c.args.offset ≡ false =
    grind (arith, nat_tests) in let b : nat_lt (guest_file_limit - c.args.count) c.args.offset ≡ false =
    grind (arith, nat_tests) in rw (c.if-not-file.false, e, ne_eqb _ _ c.if-count-eq0.false, b)
    (has_read c.in_ok-read.ensures.ok
    (ask_stopped c.in_err-write_at.ensures.err.1
    (residual _ _ c.from_residual-in_err-write_at.ensures ∙ ap Err c.in_err-write_at.ensures.err.2) refl))

pub returns-clause-played : goal.returns-clause-played
returns-clause-played g c = λ waiting. let e : nat_le (2 ^ 63) c.args.offset ≡ false =
    grind (arith, nat_tests) in let b : nat_lt (guest_file_limit - c.args.count) c.args.offset ≡ false =
    grind (arith, nat_tests) in rw (c.if-not-file.false, e, ne_eqb _ _ c.if-count-eq0.false, b)
    (has_read c.in_ok-read.ensures.ok
    (has_asked c.in_ok-write_at.ensures.ok
    (done-by c.done-2.ensures.value c.done-2.ensures.acted c.done-2.ensures.numbers)))
