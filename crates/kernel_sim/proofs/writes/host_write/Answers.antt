use Rattle.rv_hart.specs.HartStep.{over}
use Rattle.kernel_sim.proofs.RowLaws.{holds-known}
use Rattle.kernel_sim.proofs.HostLaws.{host_written}
use Rattle.kernel_sim.proofs.writes.host_write.Goals as goal

pub returns-clause-holds : goal.returns-clause-holds
returns-clause-holds c = holds-known _ _ (host_written c.args.phase _ (over c.args.bus.now c.args.hart.now) c.args.at c.args.value _ c.ranges.value.fits c.requires.bytes c.requires.allowed c.requires.holds.known c.write_beat.ensures.after c.phase_written.ensures)
