use Rattle.std.proofs.Common.{Ok, refl, ap, ◌∙◌}
use Rattle.host_text.specs.Laws.{then-ok, then-err}
use Rattle.host_text.specs.Outside.{acts}
use Rattle.host_text.specs.Played.{ended, has_read, read_stopped, looked}
use Rattle.syscall_proxy.proofs.Leaves.{residual}
use Rattle.syscall_proxy.specs.declared.answers.CallAnswer.TheVariants.{Exit, Result as Value}
use Rattle.htif_mailbox.proofs.AloneLaws.{alone-beside}
use Rattle.htif_mailbox.proofs.Leaves.{row-from, row-to}
use Rattle.htif_mailbox.specs.Turns.{finish}
use Rattle.htif_mailbox.specs.declared.answers.MailFault.TheVariants.{Call, Port}
use Rattle.htif_mailbox.proofs.handler.Handler.call.Goals as goal

pub returns-in_err-bytes-clause-played : goal.returns-in_err-bytes-clause-played
returns-in_err-bytes-clause-played g c = read_stopped c.in_err-bytes.ensures.err (residual _ (Port c.in_err-bytes.field-0.0) c.from_residual.ensures) refl

pub returns-in-Err-clause-played : goal.returns-in-Err-clause-played
returns-in-Err-clause-played g c = has_read c.in_ok-bytes.ensures.ok (looked (row-to c.call-answer.new.self.numbers c.args.self.now.waiting.items c.acted-self.ensures
    (then-err (acts g.P.ChunkPort g.F.Folder g.I.Source g.C.Sink) Call (finish c.args.place) c.in-Err.fault c.in-Err.is
    (row-from c.args.self.now.host.given c.args.self.now.host.numbers c.args.self.now.waiting.items c.request_of.ensures c.requires.rests (c.call-answer.ensures.played c.args.self.now.waiting.items)))))

pub returns-in-Ok-Exit-clause-played : goal.returns-in-Ok-Exit-clause-played
returns-in-Ok-Exit-clause-played g c = has_read c.in_ok-bytes.ensures.ok (looked (row-to c.call-answer.new.self.numbers c.args.self.now.waiting.items c.acted-self.ensures
    (then-ok (acts g.P.ChunkPort g.F.Folder g.I.Source g.C.Sink) Call (finish c.args.place) (Exit c.in-Ok-Exit.status) (c.in-Ok-Exit.is ∙ ap Ok (rw c.in-Ok-Exit.is at c.in-Ok-Exit.field-0-is))
    (row-from c.args.self.now.host.given c.args.self.now.host.numbers c.args.self.now.waiting.items c.request_of.ensures c.requires.rests (c.call-answer.ensures.played c.args.self.now.waiting.items))
    (ended refl refl))))

pub returns-in-Ok-Result-clause-played : goal.returns-in-Ok-Result-clause-played
returns-in-Ok-Result-clause-played g c = has_read c.in_ok-bytes.ensures.ok (looked
    (then-ok (acts g.P.ChunkPort g.F.Folder g.I.Source g.C.Sink) Call (finish c.args.place) (Value c.in-Ok-Result.value) (c.in-Ok-Result.is ∙ ap Ok (rw c.in-Ok-Result.is at c.in-Ok-Result.field-0-is))
    (row-to c.call-answer.new.self.numbers c.args.self.now.waiting.items c.acted-self.ensures
    (row-from c.args.self.now.host.given c.args.self.now.host.numbers c.args.self.now.waiting.items c.request_of.ensures c.requires.rests (c.call-answer.ensures.played c.args.self.now.waiting.items)))
    (alone-beside g.P.ChunkPort g.F.Folder g.I.Source g.C.Sink c.call-answer.new.folder c.call-answer.new.input c.call-answer.new.console c.finish.ensures.played)))
