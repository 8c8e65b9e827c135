use Rattle.std.proofs.Common.{◌≡◌, ℕ, List, true, false, ap, refl, rules, sym, ◌∙◌, ne_eqb}
use Rattle.std.specs.List.{slice_get}
use Rattle.std.proofs.lemmas.Bool.{eq-eqb}
use Rattle.host_text.specs.Laws.{on-true, on-false}
use Rattle.host_text.specs.Played.{ended, read_stopped, has_written, write_stopped, noted, looked}
use Rattle.syscall_proxy.proofs.Leaves.{residual}
use Rattle.syscall_proxy.specs.Kept.{kept}
use Rattle.htif_mailbox.proofs.Leaves.{none-first, some-first, word-read}
use Rattle.htif_mailbox.specs.Turns.{answer_text}
use Rattle.htif_mailbox.proofs.handler.Handler.give.Goals as goal

pub returns-in_default-clause-played : goal.returns-in_default-clause-played
returns-in_default-clause-played g c = looked (none-first c.args.fromhost c.args.self.now.waiting.items (sym (c.copied.ensures ∙ c.first.ensures.value ∙ ap (λ (xs : List ℕ). slice_get xs 0) c.deref.ensures.0) ∙ c.in_default.is)
    (ended refl refl))

pub returns-in_err-read_word-clause-played : goal.returns-in_err-read_word-clause-played
returns-in_err-read_word-clause-played g c = looked (some-first c.args.fromhost c.in-Some.answer c.args.self.now.waiting.items (sym (c.copied.ensures ∙ c.first.ensures.value ∙ ap (λ (xs : List ℕ). slice_get xs 0) c.deref.ensures.0) ∙ c.in-Some.is)
    (read_stopped c.in_err-read_word.ensures.err (residual _ c.in_err-read_word.field-0.0 c.from_residual.ensures) refl))

pub returns-then-branch-ne0-clause-played : goal.returns-then-branch-ne0-clause-played
returns-then-branch-ne0-clause-played g c = looked (some-first c.args.fromhost c.in-Some.answer c.args.self.now.waiting.items (sym (c.copied.ensures ∙ c.first.ensures.value ∙ ap (λ (xs : List ℕ). slice_get xs 0) c.deref.ensures.0) ∙ c.in-Some.is)
    (word-read c.in_ok-read_word.field-0 (answer_text c.args.fromhost c.in-Some.answer) (search rules) c.in_ok-read_word.ensures.ok
    (on-false _ (ne_eqb _ _ c.if-branch-ne0.true) (ended refl refl))))

pub returns-in_err-write_word-clause-played : goal.returns-in_err-write_word-clause-played
returns-in_err-write_word-clause-played g c = looked (some-first c.args.fromhost c.in-Some.answer c.args.self.now.waiting.items (sym (c.copied.ensures ∙ c.first.ensures.value ∙ ap (λ (xs : List ℕ). slice_get xs 0) c.deref.ensures.0) ∙ c.in-Some.is)
    (word-read c.in_ok-read_word.field-0 (answer_text c.args.fromhost c.in-Some.answer) (search rules) c.in_ok-read_word.ensures.ok
    (on-true _ (eq-eqb _ _ c.if-branch-ne0.false) (write_stopped c.in_err-write_word.ensures.err (residual _ c.in_err-write_word.field-0.0 c.from_residual-in_err-write_word.ensures) refl))))

pub returns-clause-played : goal.returns-clause-played
returns-clause-played g c = looked (some-first c.args.fromhost c.in-Some.answer c.args.self.now.waiting.items (sym (c.copied.ensures ∙ c.first.ensures.value ∙ ap (λ (xs : List ℕ). slice_get xs 0) c.deref.ensures.0) ∙ c.in-Some.is)
    (word-read c.in_ok-read_word.field-0 (answer_text c.args.fromhost c.in-Some.answer) (search rules) c.in_ok-read_word.ensures.ok
    (on-true _ (eq-eqb _ _ c.if-branch-ne0.false) (has_written c.in_ok-write_word.ensures.ok
    (noted (ap (λ (w : List ℕ). kept c.args.self.now.host.numbers c.args.self.now.acted w) c.remove.ensures.items) (ended refl refl))))))
