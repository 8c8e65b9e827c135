use Rattle.std.proofs.Common.{◌≡◌, ◌++◌, rules, refl, ap, sym, ◌∙◌, Ok}
use Rattle.host_text.specs.Played.{ended, noted}
use Rattle.syscall_proxy.specs.OpenFlags.{has}
use Rattle.syscall_proxy.specs.PathRows.{at_path, open_path, unlink_path}
use Rattle.syscall_proxy.specs.Rows.{low, word}
use Rattle.syscall_proxy.proofs.Leaves.{kept-as, done-by, row-same}
use Rattle.syscall_proxy.proofs.calls.Calls.dispatch.Goals as goal

pub returns-in-Exit-clause-played : goal.returns-in-Exit-clause-played
returns-in-Exit-clause-played g c =
    λ waiting. rw (sym c.service_for.ensures ∙ c.in-Exit.is)
    (noted (kept-as waiting c.exit.ensures.numbers c.exit.ensures.acted) (ended (ap Ok c.exit.ensures.value) refl))

pub returns-in-Unknown-clause-played : goal.returns-in-Unknown-clause-played
returns-in-Unknown-clause-played g c =
    λ waiting. rw (sym c.service_for.ensures ∙ c.in-Unknown.is)
    (done-by c.refuse.ensures.value c.refuse.ensures.acted c.refuse.ensures.numbers)

pub returns-in-MakeDir-clause-played : goal.returns-in-MakeDir-clause-played
returns-in-MakeDir-clause-played g c =
    λ waiting. rw (sym c.service_for.ensures ∙ c.in-MakeDir.is) (c.path.ensures.played waiting)

pub returns-in-Access-clause-played : goal.returns-in-Access-clause-played
returns-in-Access-clause-played g c =
    λ waiting. rw (sym c.service_for.ensures ∙ c.in-Access.is) (c.path-in-Access.ensures.played waiting)

pub returns-in-Unlink-clause-played : goal.returns-in-Unlink-clause-played
returns-in-Unlink-clause-played g c = λ waiting.
    rw (sym c.service_for.ensures ∙ c.in-Unlink.is)
    (row-same (ap (λ dir. at_path (low (word c.args.request.now 1)) (word c.args.request.now 2)
    (word c.args.request.now 3) (λ path. unlink_path dir path (c.args.setting.now.root ++ path)))
    (c.asks_for_directory-dir.ensures ∙ ap (λ flags. has flags 0x200) c.low_half.ensures))
    (c.path-in-Unlink.ensures.played waiting))

pub returns-in-OpenAt-clause-played : goal.returns-in-OpenAt-clause-played
returns-in-OpenAt-clause-played g c = λ waiting.
    rw (sym c.service_for.ensures ∙ c.in-OpenAt.is)
    (row-same (ap (λ flags. at_path (low (word c.args.request.now 1)) (word c.args.request.now 2)
    (word c.args.request.now 3) (λ path. open_path c.args.self.now.numbers
    (c.args.setting.now.root ++ path) flags)) c.low_half-in-OpenAt.ensures)
    (c.path-in-OpenAt.ensures.played waiting))
