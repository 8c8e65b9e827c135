use Rattle.elf_loader.proofs.UserArea.{begin_inside, bytes_end_inside}
use Rattle.plain_machine.proofs.start.first_bus.Goals as goal

pub load-requires-clause-low : goal.load-requires-clause-low
load-requires-clause-low c = begin_inside c.args.segments.now c.requires.fit

pub load-requires-clause-high : goal.load-requires-clause-high
load-requires-clause-high c = bytes_end_inside c.args.segments.now c.requires.fit
