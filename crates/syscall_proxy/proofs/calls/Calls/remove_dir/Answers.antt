use Rattle.std.proofs.Common.{◌≡◌, ◌<◌, ℕ, ◌-◌, ◌^◌, Bool, true, false, ◌==◌, ◌||◌, not, nat_lt, nat_le, List, []}
use Rattle.std.proofs.Common.{length, arith, rules, refl, ap, sym, ◌∙◌, ne_eqb, Ok, Err}
use Rattle.std.proofs.lemmas.Bool.{eq-eqb, eqb-true, eqb-false}
use Rattle.std.proofs.lemmas.Bool.Decides.{nat_tests}
use Rattle.fe_base.specs.Limits.{guest_file_limit, guest_path_limit}
use Rattle.host_text.specs.Laws.{on-true, on-false}
use Rattle.host_text.specs.Played.{ended, has_read, read_stopped, has_written, write_stopped, has_taken, take_stopped}
use Rattle.host_text.specs.Played.{has_put, put_stopped, has_asked, ask_stopped, noted}
use Rattle.syscall_proxy.specs.declared.answers.CallAnswer.TheVariants.{Result as Value}
use Rattle.syscall_proxy.proofs.Leaves.{kept-as, done-by, residual}
use Rattle.syscall_proxy.proofs.calls.Calls.remove_dir.Goals as goal
use Rattle.std.proofs.lemmas.List.{nil_from_length}
use Rattle.folder_tree.specs.Paths.{parts_of, path_text}
use Rattle.syscall_proxy.proofs.Leaves.{some-parts, no-parts, dir-gone, dir-stays}

pub returns-then-is_empty-clause-played : goal.returns-then-is_empty-clause-played
returns-then-is_empty-clause-played g c = λ waiting. let none : c.text.result.now ≡ [] =
    nil_from_length c.text.result.now
    (eqb-true (length c.text.result.now) 0
    (sym c.is_empty.ensures ∙ c.if-is_empty.true)) in no-parts c.args.path.now c.args.place.now
    (sym c.text.ensures.parts ∙ ap parts_of none)
    (done-by c.refuse.ensures.value c.refuse.ensures.acted c.refuse.ensures.numbers)

pub returns-in_err-gone-clause-played : goal.returns-in_err-gone-clause-played
returns-in_err-gone-clause-played g c = λ waiting. let some : c.args.path.now ≡ [] → ⊥ =
    λ h. eqb-false (length c.text.result.now) 0 (sym c.is_empty.ensures ∙ c.if-is_empty.false)
    (ap length (c.text.ensures.text ∙ ap path_text h)) in some-parts c.args.path.now c.args.place.now some
    (ask_stopped c.in_err-gone.ensures.err.1
    (residual _ _ c.from_residual.ensures ∙ ap Err c.in_err-gone.ensures.err.2) refl)

pub returns-then-gone-clause-played : goal.returns-then-gone-clause-played
returns-then-gone-clause-played g c = λ waiting. let some : c.args.path.now ≡ [] → ⊥ =
    λ h. eqb-false (length c.text.result.now) 0 (sym c.is_empty.ensures ∙ c.if-is_empty.false)
    (ap length (c.text.ensures.text ∙ ap path_text h)) in some-parts c.args.path.now c.args.place.now some
    (has_asked c.in_ok-gone.ensures.ok
    (dir-gone c.in_ok-gone.gone c.if-gone.true
    (done-by c.done.ensures.value c.done.ensures.acted c.done.ensures.numbers)))

pub returns-clause-played : goal.returns-clause-played
returns-clause-played g c = λ waiting. let some : c.args.path.now ≡ [] → ⊥ =
    λ h. eqb-false (length c.text.result.now) 0 (sym c.is_empty.ensures ∙ c.if-is_empty.false)
    (ap length (c.text.ensures.text ∙ ap path_text h)) in some-parts c.args.path.now c.args.place.now some
    (has_asked c.in_ok-gone.ensures.ok
    (dir-stays c.in_ok-gone.gone c.if-gone.false
    (done-by c.refuse-2.ensures.value c.refuse-2.ensures.acted c.refuse-2.ensures.numbers)))
