use Rattle.std.proofs.Common.{◌≡◌, Bool, true, false, refl, rules, ne_eqb}
use Rattle.std.proofs.lemmas.Bool.{eq-eqb}
use Rattle.host_text.specs.Laws.{on-true, on-false}
use Rattle.host_text.specs.Played.{ended, read_stopped, has_written, write_stopped, noted, looked}
use Rattle.syscall_proxy.proofs.Leaves.{residual}
use Rattle.htif_mailbox.proofs.Leaves.{full, not-full, no-room, some-room, word-read}
use Rattle.htif_mailbox.specs.Turns.{word_text}
use Rattle.htif_mailbox.specs.declared.answers.MailFault.TheVariants.{Port}
use Rattle.htif_mailbox.proofs.handler.Handler.serve.Goals as goal

pub returns-then-is_full-clause-played : goal.returns-then-is_full-clause-played
returns-then-is_full-clause-played g c = noted refl (looked (no-room c.args.self.now.host.given c.args.tohost (full _ c.if-is_full.ensures.value) (ended refl refl)))

pub returns-in_err-word-clause-played : goal.returns-in_err-word-clause-played
returns-in_err-word-clause-played g c = noted refl (looked (some-room c.args.self.now.host.given c.args.tohost (not-full _ c.if-is_full.ensures.value c.if-is_full.ensures.fits)
    (read_stopped c.in_err-word.ensures.err (residual _ (Port c.in_err-word.field-0.0) c.from_residual.ensures) refl)))

pub returns-then-word-eq0-clause-played : goal.returns-then-word-eq0-clause-played
returns-then-word-eq0-clause-played g c = noted refl (looked (some-room c.args.self.now.host.given c.args.tohost (not-full _ c.if-is_full.ensures.value c.if-is_full.ensures.fits)
    (word-read c.in_ok-word.word (word_text c.args.self.now.host.given c.args.tohost) (search rules) c.in_ok-word.ensures.ok (on-true _ (eq-eqb _ _ c.if-word-eq0.true) (ended refl refl)))))

pub returns-in_err-write_word-clause-played : goal.returns-in_err-write_word-clause-played
returns-in_err-write_word-clause-played g c = noted refl (looked (some-room c.args.self.now.host.given c.args.tohost (not-full _ c.if-is_full.ensures.value c.if-is_full.ensures.fits)
    (word-read c.in_ok-word.word (word_text c.args.self.now.host.given c.args.tohost) (search rules) c.in_ok-word.ensures.ok (on-false _ (ne_eqb _ _ c.if-word-eq0.false)
    (write_stopped c.in_err-write_word.ensures.err (residual _ (Port c.in_err-write_word.field-0.0) c.from_residual-in_err-write_word.ensures) refl)))))

pub returns-clause-played : goal.returns-clause-played
returns-clause-played g c = noted refl (looked (some-room c.args.self.now.host.given c.args.tohost (not-full _ c.if-is_full.ensures.value c.if-is_full.ensures.fits)
    (word-read c.in_ok-word.word (word_text c.args.self.now.host.given c.args.tohost) (search rules) c.in_ok-word.ensures.ok (on-false _ (ne_eqb _ _ c.if-word-eq0.false)
    (has_written c.in_ok-write_word.ensures.ok c.carry_out.ensures.played)))))
