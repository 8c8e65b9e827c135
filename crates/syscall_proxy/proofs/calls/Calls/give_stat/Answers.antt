use Rattle.std.proofs.Common.{ap, ◌∙◌}
use Rattle.syscall_proxy.specs.RecordRows.{give_record}
use Rattle.syscall_proxy.proofs.Leaves.{row-same}
use Rattle.syscall_proxy.proofs.calls.Calls.give_stat.Goals as goal

pub returns-clause-played : goal.returns-clause-played
returns-clause-played g c = λ waiting. row-same
    (ap (give_record c.args.buffer) (c.hold.ensures ∙ c.stat_record-record.ensures))
    (c.give_record.ensures.played waiting)
