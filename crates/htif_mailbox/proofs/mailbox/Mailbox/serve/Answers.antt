use Rattle.std.proofs.Common.{◌≡◌, ℕ, subst, sym}
use Rattle.htif_mailbox.proofs.PlaceLaws.{serve-place}
use Rattle.htif_mailbox.specs.Places.{IsOfRequest}
use Rattle.htif_mailbox.proofs.mailbox.Mailbox.serve.Goals as goal

pub returns-clause-unmapped : goal.returns-clause-unmapped
returns-clause-unmapped g c = λ doubleword e.
    let same : c.args.self.now.tohost ≡ c.self.inside.tohost = cc in
    subst (λ (n : ℕ). IsOfRequest g.P.ChunkPort n c.args.mem.now doubleword) (sym same)
    (serve-place g.P.ChunkPort g.F.Folder g.I.Source g.C.Sink _ c.self.inside.tohost doubleword c.self.invariant.0 c.serve.ensures.played e)
