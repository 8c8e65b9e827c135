use Rattle.htif_mailbox.proofs.PlaceLaws.{give-mapped}
use Rattle.htif_mailbox.proofs.mailbox.Mailbox.give.Goals as goal

pub returns-clause-mapped : goal.returns-clause-mapped
returns-clause-mapped g c = λ doubleword e. give-mapped g.P.ChunkPort c.self.inside.fromhost doubleword c.self.invariant.1 c.give.ensures.played e
