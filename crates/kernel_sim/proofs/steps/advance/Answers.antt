use Rattle.rv_hart.specs.HartStep.{over}
use Rattle.kernel_sim.proofs.AdvanceLaws.{made}
use Rattle.kernel_sim.proofs.StepsLeft.{made_progress}
use Rattle.kernel_sim.proofs.steps.advance.Goals as goal

pub returns-clause-holds : goal.returns-clause-holds
returns-clause-holds c = (made c.args.phase _ (over c.args.bus.now c.args.hart.now) (over c.step.new.bus c.step.new.self) c.requires.holds (record { hart_fits = c.requires.hart_range; bus_fits = c.requires.bytes }) c.step.ensures.quiet c.phase_after.ensures).0

pub returns-clause-order : goal.returns-clause-order
returns-clause-order c = (made c.args.phase _ (over c.args.bus.now c.args.hart.now) (over c.step.new.bus c.step.new.self) c.requires.holds (record { hart_fits = c.requires.hart_range; bus_fits = c.requires.bytes }) c.step.ensures.quiet c.phase_after.ensures).1.order

pub returns-clause-user : goal.returns-clause-user
returns-clause-user c = (made c.args.phase _ (over c.args.bus.now c.args.hart.now) (over c.step.new.bus c.step.new.self) c.requires.holds (record { hart_fits = c.requires.hart_range; bus_fits = c.requires.bytes }) c.step.ensures.quiet c.phase_after.ensures).1.user

pub returns-clause-text : goal.returns-clause-text
returns-clause-text c = (made c.args.phase _ (over c.args.bus.now c.args.hart.now) (over c.step.new.bus c.step.new.self) c.requires.holds (record { hart_fits = c.requires.hart_range; bus_fits = c.requires.bytes }) c.step.ensures.quiet c.phase_after.ensures).1.text

pub returns-clause-scanned : goal.returns-clause-scanned
returns-clause-scanned c = (made c.args.phase _ (over c.args.bus.now c.args.hart.now) (over c.step.new.bus c.step.new.self) c.requires.holds (record { hart_fits = c.requires.hart_range; bus_fits = c.requires.bytes }) c.step.ensures.quiet c.phase_after.ensures).1.scanned

pub returns-clause-trap : goal.returns-clause-trap
returns-clause-trap c = (made c.args.phase _ (over c.args.bus.now c.args.hart.now) (over c.step.new.bus c.step.new.self) c.requires.holds (record { hart_fits = c.requires.hart_range; bus_fits = c.requires.bytes }) c.step.ensures.quiet c.phase_after.ensures).1.trap

pub returns-clause-posted : goal.returns-clause-posted
returns-clause-posted c = (made c.args.phase _ (over c.args.bus.now c.args.hart.now) (over c.step.new.bus c.step.new.self) c.requires.holds (record { hart_fits = c.requires.hart_range; bus_fits = c.requires.bytes }) c.step.ensures.quiet c.phase_after.ensures).1.posted

pub returns-clause-stores : goal.returns-clause-stores
returns-clause-stores c = (made c.args.phase _ (over c.args.bus.now c.args.hart.now) (over c.step.new.bus c.step.new.self) c.requires.holds (record { hart_fits = c.requires.hart_range; bus_fits = c.requires.bytes }) c.step.ensures.quiet c.phase_after.ensures).1.stores

pub returns-clause-mailbox : goal.returns-clause-mailbox
returns-clause-mailbox c = (made c.args.phase _ (over c.args.bus.now c.args.hart.now) (over c.step.new.bus c.step.new.self) c.requires.holds (record { hart_fits = c.requires.hart_range; bus_fits = c.requires.bytes }) c.step.ensures.quiet c.phase_after.ensures).1.mailbox

pub returns-clause-waits : goal.returns-clause-waits
returns-clause-waits c = (made c.args.phase _ (over c.args.bus.now c.args.hart.now) (over c.step.new.bus c.step.new.self) c.requires.holds (record { hart_fits = c.requires.hart_range; bus_fits = c.requires.bytes }) c.step.ensures.quiet c.phase_after.ensures).1.waits

pub returns-clause-user_bytes : goal.returns-clause-user_bytes
returns-clause-user_bytes c = (made c.args.phase _ (over c.args.bus.now c.args.hart.now) (over c.step.new.bus c.step.new.self) c.requires.holds (record { hart_fits = c.requires.hart_range; bus_fits = c.requires.bytes }) c.step.ensures.quiet c.phase_after.ensures).1.user_bytes

pub returns-clause-boot_block : goal.returns-clause-boot_block
returns-clause-boot_block c = (made c.args.phase _ (over c.args.bus.now c.args.hart.now) (over c.step.new.bus c.step.new.self) c.requires.holds (record { hart_fits = c.requires.hart_range; bus_fits = c.requires.bytes }) c.step.ensures.quiet c.phase_after.ensures).1.boot_block

pub returns-clause-code : goal.returns-clause-code
returns-clause-code c = (made c.args.phase _ (over c.args.bus.now c.args.hart.now) (over c.step.new.bus c.step.new.self) c.requires.holds (record { hart_fits = c.requires.hart_range; bus_fits = c.requires.bytes }) c.step.ensures.quiet c.phase_after.ensures).1.code

pub returns-clause-counted : goal.returns-clause-counted
returns-clause-counted c = (made c.args.phase _ (over c.args.bus.now c.args.hart.now) (over c.step.new.bus c.step.new.self) c.requires.holds (record { hart_fits = c.requires.hart_range; bus_fits = c.requires.bytes }) c.step.ensures.quiet c.phase_after.ensures).1.counted

pub returns-clause-progress : goal.returns-clause-progress
returns-clause-progress c = made_progress c.args.phase _ (over c.args.bus.now c.args.hart.now) (over c.step.new.bus c.step.new.self) c.requires.holds (record { hart_fits = c.requires.hart_range; bus_fits = c.requires.bytes }) c.step.ensures.quiet c.phase_after.ensures
