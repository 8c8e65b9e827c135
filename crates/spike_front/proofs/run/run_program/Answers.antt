use Rattle.std.proofs.Common.{◌≡◌, ◌↔◌, inr, inl, ℕ, max, None, refl, ap, sym, subst, ◌∙◌, arith}
use Rattle.syscall_proxy.specs.Kept.{Setting}
use Rattle.plain_machine.specs.Asks.{asks_folder, asks_input, puts_of}
use Rattle.plain_machine.specs.Direct.{status_of}
use Rattle.plain_machine.specs.Stands.{PlainState, end_fault, made}
use Rattle.plain_machine.specs.Starts.{direct_start, setting_of}
use Rattle.plain_machine.specs.declared.plain.PlainEnd.TheVariants.{StepsSpent as EndSpent}
use Rattle.spike_front.specs.declared.answer.Answer.TheVariants.{OutOfMemory}
use Rattle.spike_front.specs.Answers.{IsRunAnswer}
use Rattle.spike_front.specs.Runs.{case_of}
use Rattle.spike_front.proofs.Stages.{run_answer}
use Rattle.spike_front.proofs.Endings.{asks_there, begun, console_back, file_back, input_back, made_all, memory_back, never_asked, never_put, plain_run, room_for, spent_back, stopped_run, stopped_timely, tried_same}
use Rattle.spike_front.proofs.run.run_program.Goals as goal

-- where there was no memory for the start

pub returns-in_default-clause-ran : goal.returns-in_default-clause-ran
returns-in_default-clause-ran g c = λ contents told.
    stopped_run (case_of c.args.image c.args.args.now c.args.root contents c.args.limit) OutOfMemory c.requires.some refl told.input_told told.console_told (contents.tree, told.tree_told, refl) (inl told.tree_told)

pub returns-in_default-clause-timely : goal.returns-in_default-clause-timely
returns-in_default-clause-timely g c = λ contents told. stopped_timely (case_of c.args.image c.args.args.now c.args.root contents c.args.limit) OutOfMemory refl

pub returns-in_default-clause-answers : goal.returns-in_default-clause-answers
returns-in_default-clause-answers g c = inr (inl refl)

pub returns-in_default-clause-causes : goal.returns-in_default-clause-causes
returns-in_default-clause-causes g c = record {
  file = record { later = omega arith; rose = λ h. cc };
  memory = record { later = omega arith; rose = λ h. absurd (omega (arith, h.1)) };
  input = record { later = omega arith; rose = λ h. cc };
  console = record { later = omega arith; rose = λ h. cc };
}

-- where it ran

pub returns-clause-answers : goal.returns-clause-answers
returns-clause-answers g c = subst IsRunAnswer (sym c.answer_of.ensures) (run_answer c.args.limit c.run-end.result)

pub returns-clause-ran : goal.returns-clause-ran
returns-clause-ran g c = λ contents told.
    let d = case_of c.args.image c.args.args.now c.args.root contents c.args.limit in
    let first = c.in-Ok.plain in
    let last = c.run-end.new.self in
    let given : first.given ≡ setting_of d.start = ap (λ (p : PlainState). p.given) c.in-Ok.ensures.first in
    let none : first.steps ≡ 0 = ap (λ (p : PlainState). p.steps) c.in-Ok.ensures.first in
    let most : max c.args.limit first.steps ≡ c.args.limit = omega (arith, none) in
    plain_run d first last c.run-end.result c.steps.result given none c.steps.ensures (c.run-end.ensures.ran _ (begun d first c.in-Ok.ensures.first told)) c.answer_of.result c.answer_of.ensures
    (subst (λ (n : ℕ). (c.run-end.result ≡ EndSpent) ↔ ((status_of last.machine ≡ None) × (last.steps ≡ n))) most c.run-end.ensures.spent)
    (omega (arith, c.run-end.ensures.within, none))
    c.run-end.ensures.input_asked
    c.run-end.ensures.console_asked

pub returns-clause-timely : goal.returns-clause-timely
returns-clause-timely g c = λ contents told.
    let d = case_of c.args.image c.args.args.now c.args.root contents c.args.limit in
    let first = c.in-Ok.plain in
    let last = c.run-end.new.self in
    let given : first.given ≡ setting_of d.start = ap (λ (p : PlainState). p.given) c.in-Ok.ensures.first in
    let none : first.steps ≡ 0 = ap (λ (p : PlainState). p.steps) c.in-Ok.ensures.first in
    let asked = asks_there d first last c.run-end.result c.steps.result given none c.steps.ensures (c.run-end.ensures.ran _ (begun d first c.in-Ok.ensures.first told)) in
    record {
      input_asked = λ h. sym (ap asks_input asked) ∙ c.run-end.ensures.input_asked (input_back c.args.limit c.run-end.result (sym c.answer_of.ensures ∙ h));
      console_asked = λ h puts. c.run-end.ensures.console_asked (console_back c.args.limit c.run-end.result (sym c.answer_of.ensures ∙ h)) (ap puts_of asked ∙ puts);
      file_asked = λ h low. sym (ap asks_folder asked) ∙ c.run-end.ensures.file_asked (file_back c.args.limit c.run-end.result (sym c.answer_of.ensures ∙ h));
      memory_asked = λ h low. sym (ap asks_folder asked) ∙ c.run-end.ensures.memory_asked (memory_back c.args.limit c.run-end.result (sym c.answer_of.ensures ∙ h));
    }

pub returns-clause-unasked : goal.returns-clause-unasked
returns-clause-unasked g c = λ contents told.
    let d = case_of c.args.image c.args.args.now c.args.root contents c.args.limit in
    let first = c.in-Ok.plain in
    let last = c.run-end.new.self in
    let given : first.given ≡ setting_of d.start = ap (λ (p : PlainState). p.given) c.in-Ok.ensures.first in
    let none : first.steps ≡ 0 = ap (λ (p : PlainState). p.steps) c.in-Ok.ensures.first in
    let all : made first last ≡ c.steps.result = made_all first last c.steps.result none c.steps.ensures in
    let tries = tried_same c.args.limit c.run-end.result c.answer_of.result (made first last) c.steps.result c.answer_of.ensures all in
    let at = begun d first c.in-Ok.ensures.first told in
    record {
      input = λ never. c.run-end.ensures.input_untouched _ at (never_asked asks_input first.given (setting_of d.start) _ _ (direct_start d.start) given tries never);
      console = λ never. c.run-end.ensures.console_untouched _ at (never_put first.given (setting_of d.start) _ _ (direct_start d.start) given tries never);
    }

pub returns-clause-suits : goal.returns-clause-suits
returns-clause-suits g c = λ contents told steady room h.
    let d = case_of c.args.image c.args.args.now c.args.root contents c.args.limit in
    let first = c.in-Ok.plain in
    let last = c.run-end.new.self in
    let given : first.given ≡ setting_of d.start = ap (λ (p : PlainState). p.given) c.in-Ok.ensures.first in
    let none : first.steps ≡ 0 = ap (λ (p : PlainState). p.steps) c.in-Ok.ensures.first in
    let all : made first last ≡ c.steps.result = made_all first last c.steps.result none c.steps.ensures in
    c.run-end.ensures.suits steady _ (begun d first c.in-Ok.ensures.first told)
    (room_for _ first.given (setting_of d.start) (made first last) c.steps.result (direct_start d.start) given all room)
    (console_back c.args.limit c.run-end.result (sym c.answer_of.ensures ∙ h))

pub returns-clause-causes : goal.returns-clause-causes
returns-clause-causes g c =
    let called = c.run-end.ensures.called in
    let end = c.run-end.result in
    record {
      file = record { later = called.folder_count; rose = λ h. called.file_fault (ap end_fault (file_back c.args.limit end (sym c.answer_of.ensures ∙ h))) };
      memory = record { later = called.short_count; rose = λ h. called.out_of_memory (ap end_fault (memory_back c.args.limit end (sym c.answer_of.ensures ∙ h.0))) };
      input = record { later = called.input_count; rose = λ h. called.input_fault (ap end_fault (input_back c.args.limit end (sym c.answer_of.ensures ∙ h))) };
      console = record { later = called.console_count; rose = λ h. called.console_fault (ap end_fault (console_back c.args.limit end (sym c.answer_of.ensures ∙ h))) };
    }

pub returns-clause-input_steady : goal.returns-clause-input_steady
returns-clause-input_steady g c = λ steady h. c.run-end.ensures.called.input_calm steady (ap end_fault (input_back c.args.limit c.run-end.result (sym c.answer_of.ensures ∙ h)))

pub returns-clause-file_steady : goal.returns-clause-file_steady
returns-clause-file_steady g c = λ t formed told steady h.
    let world = c.in-Ok.ensures.world t formed in
    c.run-end.ensures.in_world.folder_calm t told world steady (ap end_fault (file_back c.args.limit c.run-end.result (sym c.answer_of.ensures ∙ h)))

pub returns-clause-formed : goal.returns-clause-formed
returns-clause-formed g c = λ t formed told.
    let world = c.in-Ok.ensures.world t formed in
    let now = c.run-end.ensures.in_world.world t told world in
    (now.0, now.1, now.2.tree)

pub returns-clause-spent : goal.returns-clause-spent
returns-clause-spent g c = λ n h.
    let first = c.in-Ok.plain in
    let none : first.steps ≡ 0 = ap (λ (p : PlainState). p.steps) c.in-Ok.ensures.first in
    let both = spent_back c.args.limit c.run-end.result n (sym c.answer_of.ensures ∙ h) in
    let there = c.run-end.ensures.spent.0 both.0 in
    (both.1, omega (arith, none, both.1, there.1, c.steps.ensures))

pub returns-clause-within : goal.returns-clause-within
returns-clause-within g c =
    let none : c.in-Ok.plain.steps ≡ 0 = ap (λ (p : PlainState). p.steps) c.in-Ok.ensures.first in
    omega (arith, none, c.run-end.ensures.within, c.steps.ensures)
