use Rattle.std.proofs.Common.{ℕ, List, ap, refl}
use Rattle.host_text.specs.Played.{ended, has_written, write_stopped, noted}
use Rattle.syscall_proxy.proofs.Leaves.{residual}
use Rattle.syscall_proxy.specs.Kept.{kept}
use Rattle.htif_mailbox.specs.declared.answers.MailFault.TheVariants.{Port}
use Rattle.htif_mailbox.proofs.handler.Handler.finish.Goals as goal

pub returns-in_err-write_word-clause-played : goal.returns-in_err-write_word-clause-played
returns-in_err-write_word-clause-played g c = write_stopped c.in_err-write_word.ensures.err (residual _ (Port c.in_err-write_word.field-0.0) c.from_residual.ensures) refl

pub returns-clause-played : goal.returns-clause-played
returns-clause-played g c = has_written c.in_ok-write_word.ensures.ok (noted (ap (λ (w : List ℕ). kept c.args.self.now.host.numbers c.args.self.now.acted w) c.push.ensures.items) (ended refl refl))
