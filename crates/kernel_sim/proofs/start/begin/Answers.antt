use Rattle.std.specs.Prelude.{refl}
use Rattle.rv_hart.specs.HartStep.{over}
use Rattle.kernel_sim.proofs.RowLaws.{holds-known}
use Rattle.kernel_sim.proofs.BeginLaws.{begun}
use Rattle.kernel_sim.proofs.start.begin.Goals as goal

pub returns-clause-holds : goal.returns-clause-holds
returns-clause-holds c = holds-known _ _ (begun _ (over c.args.bus.now c.args.hart.now) c.requires.begun c.requires.bytes c.requires.loaded refl c.dword.ensures c.dword-2.ensures c.request_of.ensures)
