use Rattle.std.proofs.Common.{◌≡◌, ◌<◌, ℕ, ◌-◌, ◌^◌, Bool, true, false, ◌==◌, ◌||◌, not, nat_lt, nat_le, List, []}
use Rattle.std.proofs.Common.{length, arith, rules, refl, ap, sym, ◌∙◌, ne_eqb, Ok, Err}
use Rattle.std.proofs.lemmas.Bool.{eq-eqb, eqb-true, eqb-false}
use Rattle.std.proofs.lemmas.Bool.Decides.{nat_tests}
use Rattle.fe_base.specs.Limits.{guest_file_limit, guest_path_limit}
use Rattle.host_text.specs.Laws.{on-true, on-false}
use Rattle.host_text.specs.Played.{ended, has_read, read_stopped, has_written, write_stopped, has_taken, take_stopped}
use Rattle.host_text.specs.Played.{has_put, put_stopped, has_asked, ask_stopped, noted}
use Rattle.syscall_proxy.specs.declared.answers.CallAnswer.TheVariants.{Result as Value}
use Rattle.syscall_proxy.proofs.Leaves.{kept-as, done-by, residual}
use Rattle.syscall_proxy.proofs.calls.Calls.path_call.Goals as goal
use Rattle.syscall_proxy.specs.PathRows.{named_row}
use Rattle.syscall_proxy.specs.PathRules.{guest_path}
use Rattle.syscall_proxy.proofs.Leaves.{named-by, unnamed-by}

pub returns-then-is_no_path-clause-played : goal.returns-then-is_no_path-clause-played
returns-then-is_no_path-clause-played g c =
    λ waiting. on-true _ (sym c.is_no_path.ensures ∙ c.if-is_no_path.true)
    (done-by c.refuse.ensures.value c.refuse.ensures.acted c.refuse.ensures.numbers)

pub returns-in_err-read-clause-played : goal.returns-in_err-read-clause-played
returns-in_err-read-clause-played g c =
    λ waiting. on-false _ (sym c.is_no_path.ensures ∙ c.if-is_no_path.false)
    (read_stopped c.in_err-read.ensures.err.1
    (residual _ _ c.from_residual.ensures ∙ ap Err c.in_err-read.ensures.err.2) refl)

pub returns-in-Ok-clause-played : goal.returns-in-Ok-clause-played
returns-in-Ok-clause-played g c =
    λ waiting. on-false _ (sym c.is_no_path.ensures ∙ c.if-is_no_path.false)
    (has_read c.in_ok-read.ensures.ok
    (named-by (named_row c.args.call c.args.self.now.numbers c.args.setting.now.root)
    (ap (guest_path c.args.dirfd) (sym c.as_slice.ensures) ∙ sym c.guest_path.ensures.path ∙ c.in-Ok.is)
    (c.named_path.ensures.played waiting)))

pub returns-in-Err-clause-played : goal.returns-in-Err-clause-played
returns-in-Err-clause-played g c =
    λ waiting. on-false _ (sym c.is_no_path.ensures ∙ c.if-is_no_path.false)
    (has_read c.in_ok-read.ensures.ok
    (unnamed-by (named_row c.args.call c.args.self.now.numbers c.args.setting.now.root)
    (ap (guest_path c.args.dirfd) (sym c.as_slice.ensures) ∙ sym c.guest_path.ensures.path ∙ c.in-Err.is)
    (done-by c.refuse-in-Err.ensures.value c.refuse-in-Err.ensures.acted c.refuse-in-Err.ensures.numbers)))
