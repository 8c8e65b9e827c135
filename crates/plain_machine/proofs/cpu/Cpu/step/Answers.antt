use Rattle.plain_machine.proofs.Walks.{step-of_walk, stays-of_walk}
use Rattle.plain_machine.proofs.cpu.Cpu.step.Goals as goal

pub returns-clause-step : goal.returns-clause-step
returns-clause-step c = step-of_walk c.args.self.now c.walk.new.self c.walk.result.0 c.walk.result.1 c.walk.ensures.after c.walk.ensures.each c.walk.ensures.moved c.walk.ensures.stopped

pub returns-clause-stays : goal.returns-clause-stays
returns-clause-stays c = stays-of_walk c.args.self.now c.walk.new.self c.walk.result.0 c.walk.result.1 c.walk.ensures.after c.walk.ensures.stopped
