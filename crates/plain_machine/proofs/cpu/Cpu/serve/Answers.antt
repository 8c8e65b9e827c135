use Rattle.plain_machine.proofs.cpu.Cpu.serve.Goals as goal

pub returns-clause-row : goal.returns-clause-row
returns-clause-row g c = rw (← c.self.view_is) c.call_on.ensures.row

pub returns-clause-lone : goal.returns-clause-lone
returns-clause-lone g c = rw (← c.self.view_is) c.call_on.ensures.lone
