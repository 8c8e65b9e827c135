use Rattle.std.proofs.Common.{rules}
use Rattle.fe_base.specs.DebugModule.{DmiAsk}
use Rattle.fe_base.specs.SampleModule.{turn_keeps, noted_raises}
use Rattle.fe_base.proofs.module_tests.BenchWireDmiWire.access.Goals as goal

pub returns-clause-usable : goal.returns-clause-usable
returns-clause-usable c =
    let ask : DmiAsk = record { op = c.args.op; address = c.args.address; value = c.args.value } in
    rw c.access-reply.ensures.after (rw c.step.ensures (turn_keeps c.args.self.now.bench ask c.ranges.value.fits c.requires))

pub returns-clause-raised : goal.returns-clause-raised
returns-clause-raised c error =
    rw c.note.ensures.counts
    (noted_raises c.args.op c.args.address c.access-reply.result c.args.self.now.raised (search rules) c.note.ensures.fit error)
