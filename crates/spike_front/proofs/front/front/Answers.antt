use Rattle.std.proofs.Common.{inl, inr, sym, subst, None, Some}
use Rattle.spike_front.specs.Plans.{MayAnswer, words_refusal}
use Rattle.spike_front.specs.Words.{command_of, first_count}
use Rattle.spike_front.specs.declared.answer.Answer.TheVariants.{ConsoleFault, Done, FileFault, InputFault}
use Rattle.spike_front.proofs.Stages.{early_said, refusal_said, reported_at, rose_said, said_as, said_of, stop_said, words_said}
use Rattle.spike_front.proofs.PlanFacts.{asked_is_listing, refused_names_none, some_is}
use Rattle.spike_front.proofs.front.front.Goals as goal

pub returns-clause-words : goal.returns-clause-words
returns-clause-words g c = λ refused. words_said _ _ _ c.put_report.ensures.said c.command-ending.ensures.words refused

pub returns-clause-other_words : goal.returns-clause-other_words
returns-clause-other_words g c = λ a known.
    let told = c.command-ending.ensures.other_words a known in
    (said_as a _ _ told.0 c.put_report.ensures.said, reported_at c.put_report.result c.command-ending.result.steps (first_count (command_of c.args.words.now)) _ _ told.3 c.put_report.ensures.reported)

pub returns-clause-other_words_untouched : goal.returns-clause-other_words_untouched
returns-clause-other_words_untouched g c = λ some.
    let answer = some_is (words_refusal c.args.words.now) some in
    let told = c.command-ending.ensures.other_words answer.0 answer.1 in
    (told.1, told.2, c.command-ending.ensures.untouched (refused_names_none (command_of c.args.words.now) some))

pub returns-clause-refusal : goal.returns-clause-refusal
returns-clause-refusal g c = λ t formed told refused.
    refusal_said _ _ _ c.put_report.ensures.said refused (c.command-ending.ensures.refusal t formed told)

pub returns-clause-refused : goal.returns-clause-refused
returns-clause-refused g c = λ t a plans.
    let known = c.command-ending.ensures.refused t a plans in (
      c.command-ending.result.answer,
      known.0,
      c.put_report.ensures.said,
      reported_at c.put_report.result c.command-ending.result.steps (first_count (command_of c.args.words.now)) _ _ known.1 c.put_report.ensures.reported,
      c.command-ending.ensures.file_cause,
      λ steady h. c.command-ending.ensures.steady t plans.formed plans.tree_told steady h,
      known.5,
    )

pub returns-clause-refused_untouched : goal.returns-clause-refused_untouched
returns-clause-refused_untouched g c = λ t a plans.
    let known = c.command-ending.ensures.refused t a plans in
    (known.2, known.3, known.4)

pub returns-clause-answers : goal.returns-clause-answers
returns-clause-answers g c =
    elim c.put_report.ensures.said [
      | inl same ↦ inl (subst (MayAnswer (command_of c.args.words.now)) (sym same) c.command-ending.ensures.answers)
      | inr fault ↦ inr fault
    ]

pub returns-clause-refusal_untouched : goal.returns-clause-refusal_untouched
returns-clause-refusal_untouched g c = λ refusal.
    early_said _ _ c.put_report.ensures.said refusal (λ is. let known = c.command-ending.ensures.early is in (known.0, known.1))

pub returns-clause-listing_untouched : goal.returns-clause-listing_untouched
returns-clause-listing_untouched g c = λ listing. (c.command-ending.ensures.listing listing).1

pub returns-clause-opens : goal.returns-clause-opens
returns-clause-opens g c = λ t formed told which.
    elim which [
      | inl refusal ↦ early_said _ _ c.put_report.ensures.said refusal (λ is. c.command-ending.ensures.opens t formed told (inl is))
      | inr listing ↦ c.command-ending.ensures.opens t formed told (inr listing)
    ]

pub returns-clause-too_long : goal.returns-clause-too_long
returns-clause-too_long g c = λ n h. said_of _ _ _ (λ no. cc) c.put_report.ensures.said h (c.command-ending.ensures.too_long n)

pub returns-clause-spent : goal.returns-clause-spent
returns-clause-spent g c = λ n h. said_of _ _ _ (λ no. cc) c.put_report.ensures.said h (λ is. (c.command-ending.ensures.spent n is).0)

pub returns-clause-done : goal.returns-clause-done
returns-clause-done g c = λ h.
    said_of _ _ Done (λ no. cc) c.put_report.ensures.said h (λ is.
    let known = c.command-ending.ensures.done is in
    (known.0, (c.put_report.ensures.done is).1, known.1))

pub returns-clause-not_done : goal.returns-clause-not_done
returns-clause-not_done g c = λ listing other. c.command-ending.ensures.not_done listing (λ is. other (c.put_report.ensures.done is).0)

pub returns-clause-one_put : goal.returns-clause-one_put
returns-clause-one_put g c = λ listing which.
    elim which [
      | inl is ↦ said_of _ _ Done (λ no. cc) c.put_report.ensures.said is (λ e. c.command-ending.ensures.one_put listing (inl e))
      | inr is ↦ said_of _ _ ConsoleFault (λ no. cc) c.put_report.ensures.said is (λ e. c.command-ending.ensures.one_put listing (inr e))
    ]

pub returns-clause-no_put : goal.returns-clause-no_put
returns-clause-no_put g c = λ listing which.
    elim which [
      | inl refusal ↦ early_said _ _ c.put_report.ensures.said refusal (λ is. (c.command-ending.ensures.early is).1)
      | inr stop ↦ stop_said _ _ c.put_report.ensures.said stop (λ is. c.command-ending.ensures.no_put listing is)
    ]

pub returns-clause-one_line : goal.returns-clause-one_line
returns-clause-one_line g c = λ other. c.put_report.ensures.one_line (λ is. other (c.put_report.ensures.done is).0)

pub returns-clause-listing_steady : goal.returns-clause-listing_steady
returns-clause-listing_steady g c = λ listing t told steady h.
    said_of _ _ FileFault (λ no. cc) c.put_report.ensures.said h (λ is. c.command-ending.ensures.listing_steady listing t told steady is)

pub returns-clause-reported : goal.returns-clause-reported
returns-clause-reported g c = (
  c.command-ending.result.steps,
  c.put_report.ensures.reported,
  λ early. early_said _ _ c.put_report.ensures.said early (λ is. (c.command-ending.ensures.early is).2),
  λ listing. (c.command-ending.ensures.listing listing).0,
  c.command-ending.ensures.counted,
  λ n h. said_of _ _ _ (λ no. cc) c.put_report.ensures.said h (λ is. (c.command-ending.ensures.spent n is).1),
)

pub returns-clause-listed : goal.returns-clause-listed
returns-clause-listed g c = λ listing asks.
    let known = c.command-ending.ensures in
    let is_listing = asked_is_listing c.args.words.now listing _ asks in
    let left = known.listed listing asks in (
      c.command-ending.result.answer,
      left.0,
      c.put_report.ensures.said,
      λ is. (c.put_report.ensures.done is).0,
      reported_at c.put_report.result c.command-ending.result.steps None _ _ (known.listing is_listing).0 c.put_report.ensures.reported,
      known.console_cause,
      known.file_cause,
      left.1,
      known.listing_steady is_listing,
      known.listed_files is_listing,
    )

pub returns-clause-ran : goal.returns-clause-ran
returns-clause-ran g c = λ d asks.
    let ending = c.command-ending.result in
    let known = c.command-ending.ensures in
    let run = known.ran d asks in
    record {
      answer = ending.answer;
      steps = run.0;
      ran = run.2;
      said = c.put_report.ensures.said;
      reported = reported_at c.put_report.result ending.steps (Some run.0) _ _ run.1 c.put_report.ensures.reported;
      timely = run.3;
      causes = run.4;
      calm = record {
        folder = λ steady h. known.steady d.start.contents.tree asks.formed asks.told.tree_told steady h;
        input = λ steady h. known.input_steady steady h;
        console = run.5;
      };
      unasked = run.6;
    }

pub returns-clause-file_cause : goal.returns-clause-file_cause
returns-clause-file_cause g c = rose_said _ _ FileFault (λ no. cc) c.put_report.ensures.said c.command-ending.ensures.file_cause

pub returns-clause-console_cause : goal.returns-clause-console_cause
returns-clause-console_cause g c = rose_said _ _ ConsoleFault (λ no. cc) c.put_report.ensures.said c.command-ending.ensures.console_cause

pub returns-clause-input_cause : goal.returns-clause-input_cause
returns-clause-input_cause g c = rose_said _ _ InputFault (λ no. cc) c.put_report.ensures.said c.command-ending.ensures.input_cause
