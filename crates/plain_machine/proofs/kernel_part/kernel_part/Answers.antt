use Rattle.std.proofs.Common.{◌∙◌, sym, ap, rules}
use Rattle.plain_machine.specs.Machines.{part_in, part_or_scan}
use Rattle.plain_machine.proofs.Parts.{inside-of, kernel-some, kernel-none}
use Rattle.plain_machine.proofs.kernel_part.kernel_part.Goals as goal

pub returns-in-Some-clause-inside : goal.returns-in-Some-clause-inside
returns-in-Some-clause-inside c = λ request e given.
    inside-of request given _ e c.args.process.now.state.registers c.args.process.now.state.user c.args.process.now.program_break c.args.process.now.first_break
    (kernel-some c.args.process.now.state.registers c.args.process.now.state.user c.args.process.now.program_break c.args.process.now.first_break _ (ap part_or_scan (sym c.in-Some.is) ∙ c.first_part.ensures.part))
    c.first_part.ensures.address

pub returns-in-None-clause-inside : goal.returns-in-None-clause-inside
returns-in-None-clause-inside c = λ request e given.
    inside-of request given _ e c.args.process.now.state.registers c.args.process.now.state.user c.args.process.now.program_break c.args.process.now.first_break
    (kernel-none c.args.process.now.state.registers c.args.process.now.state.user c.args.process.now.program_break c.args.process.now.first_break (part_in c.path_part.result) (ap part_or_scan (sym c.in-None.is) ∙ c.first_part.ensures.part) (search rules))
    c.first_part.ensures.address
