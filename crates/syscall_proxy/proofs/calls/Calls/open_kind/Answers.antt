use Rattle.std.proofs.Common.{◌≡◌, ◌<◌, ℕ, ◌-◌, ◌^◌, Bool, true, false, ◌==◌, not, nat_lt, nat_le, arith, rules, refl}
use Rattle.std.proofs.Common.{ap, sym, ◌∙◌, ne_eqb, Ok, Err}
use Rattle.std.proofs.lemmas.Bool.{eq-eqb}
use Rattle.std.proofs.lemmas.Bool.Decides.{nat_tests}
use Rattle.fe_base.specs.Limits.{guest_file_limit, guest_path_limit}
use Rattle.host_text.specs.Laws.{on-true, on-false}
use Rattle.host_text.specs.Played.{ended, has_read, read_stopped, has_written, write_stopped, has_taken, take_stopped}
use Rattle.host_text.specs.Played.{has_put, put_stopped, has_asked, ask_stopped, noted}
use Rattle.syscall_proxy.specs.declared.answers.CallAnswer.TheVariants.{Result as Value}
use Rattle.syscall_proxy.proofs.Leaves.{kept-as, done-by, residual}
use Rattle.syscall_proxy.proofs.calls.Calls.open_kind.Goals as goal

pub returns-in-UnderFile-clause-played : goal.returns-in-UnderFile-clause-played
returns-in-UnderFile-clause-played g c =
    λ waiting. rw c.in-UnderFile.is (done-by c.refuse.ensures.value c.refuse.ensures.acted c.refuse.ensures.numbers)

pub returns-in-NoParent-clause-played : goal.returns-in-NoParent-clause-played
returns-in-NoParent-clause-played g c =
    λ waiting. rw c.in-NoParent.is
    (done-by c.refuse-in-NoParent.ensures.value c.refuse-in-NoParent.ensures.acted c.refuse-in-NoParent.ensures.numbers)

pub returns-in-Directory-clause-played : goal.returns-in-Directory-clause-played
returns-in-Directory-clause-played g c =
    λ waiting. rw c.in-Directory.is
    (done-by c.open_directory.ensures.value c.open_directory.ensures.acted c.open_directory.ensures.numbers)
