use Rattle.std.proofs.Common.{◌≡◌, ◌<◌, ℕ, ◌-◌, ◌^◌, Bool, true, false, ◌==◌, ◌||◌, not, nat_lt, nat_le, List, []}
use Rattle.std.proofs.Common.{length, arith, rules, refl, ap, sym, ◌∙◌, ne_eqb, Ok, Err}
use Rattle.std.proofs.lemmas.Bool.{eq-eqb, eqb-true, eqb-false}
use Rattle.std.proofs.lemmas.Bool.Decides.{nat_tests}
use Rattle.fe_base.specs.Limits.{guest_file_limit, guest_path_limit}
use Rattle.host_text.specs.Laws.{on-true, on-false}
use Rattle.host_text.specs.Played.{ended, has_read, read_stopped, has_written, write_stopped, has_taken, take_stopped}
use Rattle.host_text.specs.Played.{has_put, put_stopped, has_asked, ask_stopped, noted}
use Rattle.syscall_proxy.specs.declared.answers.CallAnswer.TheVariants.{Result as Value}
use Rattle.syscall_proxy.proofs.Leaves.{kept-as, done-by, residual}
use Rattle.syscall_proxy.proofs.calls.Calls.main_vars.Goals as goal
use Rattle.fe_base.specs.WordLists.{main_vars_length}

pub returns-then-main_vars_len-limit-clause-played : goal.returns-then-main_vars_len-limit-clause-played
returns-then-main_vars_len-limit-clause-played g c =
    λ waiting. let e : nat_lt c.args.limit (main_vars_length c.args.setting.now.args) ≡ true =
    grind (arith, nat_tests) in rw e (done-by c.refuse.ensures.value c.refuse.ensures.acted c.refuse.ensures.numbers)
