use Rattle.std.proofs.Common.{◌≡◌, Bool, true, false, Ok, Err, ap, refl, ◌∙◌}
use Rattle.chunk_memory.specs.declared.stops.MemStop.TheVariants.{Unmapped}
use Rattle.host_text.specs.Played.{ended}
use Rattle.host_text.specs.Text.{Done}
use Rattle.syscall_proxy.proofs.Leaves.{residual}
use Rattle.htif_mailbox.proofs.TurnLemmas.{gave-then, give-stopped, turn-over, turn-refused}
use Rattle.htif_mailbox.specs.Mailboxes.{MailState}
use Rattle.htif_mailbox.specs.Turns.{gave}
use Rattle.htif_mailbox.specs.declared.answers.MailFault.TheVariants.{Port}
use Rattle.htif_mailbox.specs.declared.answers.Turned.TheVariants.{Answered, Exited, Idle, Served}
use Rattle.htif_mailbox.proofs.mailbox.Mailbox.turn.Goals as goal

pub returns-in_err-served-clause-played : goal.returns-in_err-served-clause-played
returns-in_err-served-clause-played g c = turn-refused g.P.ChunkPort g.F.Folder g.I.Source g.C.Sink c.args.self.now.given c.args.self.now.tohost c.args.self.now.fromhost c.in_err-served.field-0.0
    (residual _ c.in_err-served.field-0.0 c.from_residual.ensures) c.in_err-served.was c.serve.ensures.played

pub returns-in_err-give-in-Served-clause-played : goal.returns-in_err-give-in-Served-clause-played
returns-in_err-give-in-Served-clause-played g c = turn-over g.P.ChunkPort g.F.Folder g.I.Source g.C.Sink c.args.self.now.given c.args.self.now.tohost c.args.self.now.fromhost Served (c.in_ok-served.was ∙ ap Ok c.in-Served.is) c.serve.ensures.played
    (give-stopped g.P.ChunkPort g.F.Folder g.I.Source g.C.Sink c.serve.new.folder c.serve.new.input c.serve.new.console c.args.self.now.fromhost (λ (given : Bool). Done Served) c.in_err-give-in-Served.field-0.0 (ap (λ (m : MailState). m.fromhost) c.serve.ensures.same)
    (residual _ (Port c.in_err-give-in-Served.field-0.0) c.from_residual-in_err-give-in-Served.ensures) c.in_err-give-in-Served.was c.give.ensures.played)

pub returns-in_err-given-in-Idle-clause-played : goal.returns-in_err-given-in-Idle-clause-played
returns-in_err-given-in-Idle-clause-played g c = turn-over g.P.ChunkPort g.F.Folder g.I.Source g.C.Sink c.args.self.now.given c.args.self.now.tohost c.args.self.now.fromhost Idle (c.in_ok-served.was ∙ ap Ok c.in-Idle.is) c.serve.ensures.played
    (give-stopped g.P.ChunkPort g.F.Folder g.I.Source g.C.Sink c.serve.new.folder c.serve.new.input c.serve.new.console c.args.self.now.fromhost (λ (given : Bool). Done (gave given)) c.in_err-given-in-Idle.field-0.0 (ap (λ (m : MailState). m.fromhost) c.serve.ensures.same)
    (residual _ (Port c.in_err-given-in-Idle.field-0.0) c.from_residual-in_err-given-in-Idle.ensures) c.in_err-given-in-Idle.was c.give-in-Idle.ensures.played)

pub returns-in-Exited-clause-played : goal.returns-in-Exited-clause-played
returns-in-Exited-clause-played g c = turn-over g.P.ChunkPort g.F.Folder g.I.Source g.C.Sink c.args.self.now.given c.args.self.now.tohost c.args.self.now.fromhost (Exited c.in-Exited.status) (c.in_ok-served.was ∙ ap Ok c.in-Exited.is) c.serve.ensures.played
    (ended refl refl)

pub returns-in-Answered-clause-played : goal.returns-in-Answered-clause-played
returns-in-Answered-clause-played g c = turn-over g.P.ChunkPort g.F.Folder g.I.Source g.C.Sink c.args.self.now.given c.args.self.now.tohost c.args.self.now.fromhost Answered (c.in_ok-served.was ∙ ap Ok c.in-Answered.is) c.serve.ensures.played
    (ended refl refl)

pub returns-in_ok-give-in-Served-clause-played : goal.returns-in_ok-give-in-Served-clause-played
returns-in_ok-give-in-Served-clause-played g c = turn-over g.P.ChunkPort g.F.Folder g.I.Source g.C.Sink c.args.self.now.given c.args.self.now.tohost c.args.self.now.fromhost Served (c.in_ok-served.was ∙ ap Ok c.in-Served.is) c.serve.ensures.played
    (gave-then g.P.ChunkPort g.F.Folder g.I.Source g.C.Sink c.serve.new.folder c.serve.new.input c.serve.new.console c.args.self.now.fromhost (λ (given : Bool). Done Served) c.in_ok-give-in-Served.field-0 (ap (λ (m : MailState). m.fromhost) c.serve.ensures.same)
    c.in_ok-give-in-Served.was c.give.ensures.played (ended refl refl))

pub returns-then-given-clause-played : goal.returns-then-given-clause-played
returns-then-given-clause-played g c = turn-over g.P.ChunkPort g.F.Folder g.I.Source g.C.Sink c.args.self.now.given c.args.self.now.tohost c.args.self.now.fromhost Idle (c.in_ok-served.was ∙ ap Ok c.in-Idle.is) c.serve.ensures.played
    (gave-then g.P.ChunkPort g.F.Folder g.I.Source g.C.Sink c.serve.new.folder c.serve.new.input c.serve.new.console c.args.self.now.fromhost (λ (given : Bool). Done (gave given)) true (ap (λ (m : MailState). m.fromhost) c.serve.ensures.same)
    (c.in_ok-given-in-Idle.was ∙ ap Ok c.if-given.true) c.give-in-Idle.ensures.played (ended refl refl))

pub returns-else-given-clause-played : goal.returns-else-given-clause-played
returns-else-given-clause-played g c = turn-over g.P.ChunkPort g.F.Folder g.I.Source g.C.Sink c.args.self.now.given c.args.self.now.tohost c.args.self.now.fromhost Idle (c.in_ok-served.was ∙ ap Ok c.in-Idle.is) c.serve.ensures.played
    (gave-then g.P.ChunkPort g.F.Folder g.I.Source g.C.Sink c.serve.new.folder c.serve.new.input c.serve.new.console c.args.self.now.fromhost (λ (given : Bool). Done (gave given)) false (ap (λ (m : MailState). m.fromhost) c.serve.ensures.same)
    (c.in_ok-given-in-Idle.was ∙ ap Ok c.if-given.false) c.give-in-Idle.ensures.played (ended refl refl))

pub returns-in_err-served-clause-unmapped : goal.returns-in_err-served-clause-unmapped
returns-in_err-served-clause-unmapped g c = λ doubleword e.
    let fault-is : c.in_err-served.field-0.0 ≡ Port (Unmapped doubleword) = cc (residual _ c.in_err-served.field-0.0 c.from_residual.ensures) in
    c.serve.ensures.unmapped doubleword (c.in_err-served.was ∙ ap Err fault-is)

pub returns-in_err-give-in-Served-clause-unmapped : goal.returns-in_err-give-in-Served-clause-unmapped
returns-in_err-give-in-Served-clause-unmapped g c = λ doubleword e.
    let why-is : c.in_err-give-in-Served.field-0.0 ≡ Unmapped doubleword = cc (residual _ (Port c.in_err-give-in-Served.field-0.0) c.from_residual-in_err-give-in-Served.ensures) in
    absurd (c.give.ensures.mapped doubleword (c.in_err-give-in-Served.was ∙ ap Err why-is))

pub returns-in_err-given-in-Idle-clause-unmapped : goal.returns-in_err-given-in-Idle-clause-unmapped
returns-in_err-given-in-Idle-clause-unmapped g c = λ doubleword e.
    let why-is : c.in_err-given-in-Idle.field-0.0 ≡ Unmapped doubleword = cc (residual _ (Port c.in_err-given-in-Idle.field-0.0) c.from_residual-in_err-given-in-Idle.ensures) in
    absurd (c.give-in-Idle.ensures.mapped doubleword (c.in_err-given-in-Idle.was ∙ ap Err why-is))
