use Rattle.std.proofs.Common.{◌≡◌, ◌∙◌, [], ap, refl}
use Rattle.host_text.specs.Causes.{played-later}
use Rattle.host_text.specs.Outside.{acts}
use Rattle.plain_machine.proofs.host_calls.call_over.Goals as goal

pub returns-clause-kept : goal.returns-clause-kept
returns-clause-kept g c =
    ap g.P.ChunkPort.kept c.into_port.ensures
    ∙ (played-later (acts g.P.ChunkPort g.F.Folder g.I.Source g.C.Sink) (λ x x'. g.P.ChunkPort.kept x' ≡ g.P.ChunkPort.kept x) (λ x x'. Unit {0}) (λ x x'. Unit {0}) (λ x x'. Unit {0})
    (λ x. refl) (λ x. tt) (λ x. tt) (λ x. tt) (λ x y z a b. b ∙ a) (λ x y z a b. tt) (λ x y z a b. tt) (λ x y z a b. tt)
    (λ x y at count r d. d.kept) (λ x y at bytes r d. d.kept) (λ q x y r d. tt) (λ x y count r d. tt) (λ x y bytes r d. tt) (c.call.ensures.played [])).port
    ∙ ap g.P.ChunkPort.kept c.over-memory.ensures
