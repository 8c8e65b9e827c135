use Rattle.std.proofs.Common.{◌≡◌, ◌<◌, ℕ, ◌-◌, ◌^◌, Bool, true, false, ◌==◌, ◌||◌, not, nat_lt, nat_le, List, []}
use Rattle.std.proofs.Common.{length, arith, rules, refl, ap, sym, ◌∙◌, ne_eqb, Ok, Err}
use Rattle.std.proofs.lemmas.Bool.{eq-eqb, eqb-true, eqb-false}
use Rattle.std.proofs.lemmas.Bool.Decides.{nat_tests}
use Rattle.fe_base.specs.Limits.{guest_file_limit, guest_path_limit}
use Rattle.host_text.specs.Laws.{on-true, on-false}
use Rattle.host_text.specs.Played.{ended, has_read, read_stopped, has_written, write_stopped, has_taken, take_stopped}
use Rattle.host_text.specs.Played.{has_put, put_stopped, has_asked, ask_stopped, noted}
use Rattle.syscall_proxy.specs.declared.answers.CallAnswer.TheVariants.{Result as Value}
use Rattle.syscall_proxy.proofs.Leaves.{kept-as, done-by, residual}
use Rattle.syscall_proxy.proofs.calls.Calls.truncate_file.Goals as goal

pub returns-then-not-file-clause-played : goal.returns-then-not-file-clause-played
returns-then-not-file-clause-played g c =
    λ waiting. rw c.if-not-file.true (done-by c.refuse.ensures.value c.refuse.ensures.acted c.refuse.ensures.numbers)

pub returns-then-size-clause-played : goal.returns-then-size-clause-played
returns-then-size-clause-played g c = λ waiting. let e : nat_le (2 ^ 63) c.args.size ≡ true =
    grind (arith, nat_tests) in rw (c.if-not-file.false, e)
    (done-by c.refuse-then-size.ensures.value c.refuse-then-size.ensures.acted c.refuse-then-size.ensures.numbers)

pub returns-then-size-gt-GUEST_FILE_LIMIT-clause-played : goal.returns-then-size-gt-GUEST_FILE_LIMIT-clause-played
returns-then-size-gt-GUEST_FILE_LIMIT-clause-played g c = λ waiting. let e : nat_le (2 ^ 63) c.args.size ≡ false =
    grind (arith, nat_tests) in let b : nat_lt guest_file_limit c.args.size ≡ true =
    grind (arith, nat_tests) in rw (c.if-not-file.false, e, b)
    (done-by c.refuse-then-size-gt-GUEST_FILE_LIMIT.ensures.value c.refuse-then-size-gt-GUEST_FILE_LIMIT.ensures.acted
    c.refuse-then-size-gt-GUEST_FILE_LIMIT.ensures.numbers)

pub returns-in_err-set_size-clause-played : goal.returns-in_err-set_size-clause-played
returns-in_err-set_size-clause-played g c = λ waiting. let e : nat_le (2 ^ 63) c.args.size ≡ false =
    grind (arith, nat_tests) in let b : nat_lt guest_file_limit c.args.size ≡ false =
    grind (arith, nat_tests) in rw (c.if-not-file.false, e, b)
    (ask_stopped c.in_err-set_size.ensures.err.1
    (residual _ _ c.from_residual.ensures ∙ ap Err c.in_err-set_size.ensures.err.2) refl)

pub returns-clause-played : goal.returns-clause-played
returns-clause-played g c = λ waiting. let e : nat_le (2 ^ 63) c.args.size ≡ false =
    grind (arith, nat_tests) in let b : nat_lt guest_file_limit c.args.size ≡ false =
    grind (arith, nat_tests) in rw (c.if-not-file.false, e, b)
    (has_asked c.in_ok-set_size.ensures.ok (done-by c.done.ensures.value c.done.ensures.acted c.done.ensures.numbers))
