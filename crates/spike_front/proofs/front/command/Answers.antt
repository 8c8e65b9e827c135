use Rattle.std.proofs.Common.{◌≡◌, ◌≤◌, ◌⊎◌, ℕ, refl, ap, sym, subst, ◌∙◌, inl, inr, Some, rules, arith}
use Rattle.plain_machine.specs.Stands.{Tells}
use Rattle.spike_front.specs.Answers.{stage_of, Yields}
use Rattle.spike_front.specs.Plans.{HasLimit, IsListing, MayAnswer, MayPut, planned_command, refusal_of}
use Rattle.spike_front.specs.Runs.{ConsoleSuits, IsTimely, RunCase}
use Rattle.spike_front.specs.Words.{first_count}
use Rattle.spike_front.specs.declared.answer.Answer.TheVariants.{Done, FileFault, OutOfMemory}
use Rattle.spike_front.proofs.Stages.{refusal_puts_none, run_not_refusal, stop_puts_none}
use Rattle.spike_front.proofs.TreeFacts.{formed_still}
use Rattle.spike_front.proofs.PlanFacts.{fault_read, kernel_plan, sound_as, limit_counts, limit_not_listing, listing_counts, listing_may, listing_not_run, one_limit, put_is_listing, refusal_may, refused_too_long, refused_words, run_counts, run_has_limit, run_may, same_refusal, some_steps, stop_may}
use Rattle.spike_front.proofs.Listed.{listed_put, listed_stopped, plan_asked, put_may, text_lists}
use Rattle.spike_front.proofs.Endings.{case_same, rose_from, run_as, stopped_run, stopped_timely, unasked_as}
use Rattle.spike_front.proofs.front.command.Goals as goal

-- where the words are refused, or their file

pub returns-in-Ok-Refuse-clause-words : goal.returns-in-Ok-Refuse-clause-words
returns-in-Ok-Refuse-clause-words g c = λ refused.
    ap refusal_of (sym c.read_command-asked.ensures.value) ∙ refused_words c.read_command-asked.result c.args.words.now c.in-Ok-Refuse.answer (rw c.in-Ok-Refuse.field-0-is at c.in-Ok-Refuse.ensures.kind) refused

pub returns-in-Ok-Refuse-clause-other_words : goal.returns-in-Ok-Refuse-clause-other_words
returns-in-Ok-Refuse-clause-other_words g c = λ a known.
    let fault = fault_read c.read_command-asked.result a (ap refusal_of c.read_command-asked.ensures.value ∙ known) in
    let planned = c.make_plan.ensures.refused fault.0 fault.1 in
    let is = c.in-Ok-Refuse.is in
    let made = c.in-Ok-Refuse.field-0-is in
    let gives = fault.2 in
    (cc, refl, refl, c.first_count.ensures ∙ ap first_count c.read_command-asked.ensures.value)

pub returns-in-Ok-Refuse-clause-refused : goal.returns-in-Ok-Refuse-clause-refused
returns-in-Ok-Refuse-clause-refused g c = λ t a plans.
    let plan = c.in-Ok-Refuse.ensures.told t plans.formed plans.tree_told in
    let refused = rw c.in-Ok-Refuse.field-0-is at plan.0 in
    (inl (same_refusal c.in-Ok-Refuse.answer a (sym refused ∙ plans.planned)), c.first_count.ensures ∙ ap first_count c.read_command-asked.ensures.value, refl, refl, c.make_plan.ensures.files t plans.tree_told, λ going. plan.1)

pub returns-in-Ok-Refuse-clause-listed : goal.returns-in-Ok-Refuse-clause-listed
returns-in-Ok-Refuse-clause-listed g c = λ listing asks.
    let plan = plan_asked c.args.words.now listing (g.F.Folder.tree c.args.folder.now) c.in-Ok-Refuse.field-0
    (λ kernel. kernel_plan c.read_command-asked.result c.args.words.now _ (c.read_command-asked.ensures.value ∙ kernel) c.in-Ok-Refuse.ensures.kind)
    (λ t formed told. (c.in-Ok-Refuse.ensures.told t formed told).0) asks in
    let refused = rw c.in-Ok-Refuse.field-0-is at plan in
    absurd cc

pub returns-in-Ok-Refuse-clause-listing : goal.returns-in-Ok-Refuse-clause-listing
returns-in-Ok-Refuse-clause-listing g c = λ listing.
    (c.first_count.ensures ∙ listing_counts c.read_command-asked.result (subst IsListing (sym c.read_command-asked.ensures.value) listing), refl)

pub returns-in-Ok-Refuse-clause-ran : goal.returns-in-Ok-Refuse-clause-ran
returns-in-Ok-Refuse-clause-ran g c = λ d asks.
    let plan = c.in-Ok-Refuse.ensures.told d.start.contents.tree asks.formed asks.told.tree_told in
    let refused = rw c.in-Ok-Refuse.field-0-is at plan.0 in
    let planned = asks.planned in
    absurd cc

pub returns-in-Ok-Refuse-clause-too_long : goal.returns-in-Ok-Refuse-clause-too_long
returns-in-Ok-Refuse-clause-too_long g c = λ n long.
    refused_too_long c.read_command-asked.result c.args.words.now c.in-Ok-Refuse.answer n (sym c.read_command-asked.ensures.value) (rw c.in-Ok-Refuse.field-0-is at c.in-Ok-Refuse.ensures.kind) long

pub returns-in-Ok-Refuse-clause-answers : goal.returns-in-Ok-Refuse-clause-answers
returns-in-Ok-Refuse-clause-answers g c =
    subst (λ read. MayAnswer read c.in-Ok-Refuse.answer) c.read_command-asked.ensures.value (refusal_may c.read_command-asked.result c.args.words.now c.in-Ok-Refuse.answer (rw c.in-Ok-Refuse.field-0-is at c.in-Ok-Refuse.ensures.kind))

pub returns-in-Ok-Refuse-clause-counted : goal.returns-in-Ok-Refuse-clause-counted
returns-in-Ok-Refuse-clause-counted g c = λ limit has.
    (0, c.first_count.ensures ∙ limit_counts c.read_command-asked.result c.args.words.now limit (sym c.read_command-asked.ensures.value) has, omega arith)

pub returns-in-Ok-Refuse-clause-one_put : goal.returns-in-Ok-Refuse-clause-one_put
returns-in-Ok-Refuse-clause-one_put g c = λ listing which.
    refusal_puts_none c.in-Ok-Refuse.answer (rw c.in-Ok-Refuse.field-0-is at c.in-Ok-Refuse.ensures.fits) which

pub returns-in-Ok-Refuse-clause-at_most_one_put : goal.returns-in-Ok-Refuse-clause-at_most_one_put
returns-in-Ok-Refuse-clause-at_most_one_put g c = λ listing. inl refl

-- where a text is put

pub returns-in-Ok-Put-clause-one_put : goal.returns-in-Ok-Put-clause-one_put
returns-in-Ok-Put-clause-one_put g c = λ listing which. c.put_listing.ensures.one_put

pub returns-in-Ok-Put-clause-no_put : goal.returns-in-Ok-Put-clause-no_put
returns-in-Ok-Put-clause-no_put g c = λ listing stop. stop_puts_none c.put_listing.result c.put_listing.ensures.answers stop

pub returns-in-Ok-Put-clause-at_most_one_put : goal.returns-in-Ok-Put-clause-at_most_one_put
returns-in-Ok-Put-clause-at_most_one_put g c = λ listing. inr c.put_listing.ensures.one_put

pub returns-in-Ok-Put-clause-listed : goal.returns-in-Ok-Put-clause-listed
returns-in-Ok-Put-clause-listed g c = λ listing asks.
    let plan = plan_asked c.args.words.now listing (g.F.Folder.tree c.args.folder.now) c.in-Ok-Put.field-0
    (λ kernel. kernel_plan c.read_command-asked.result c.args.words.now _ (c.read_command-asked.ensures.value ∙ kernel) c.in-Ok-Put.ensures.kind)
    (λ t formed told. (c.in-Ok-Put.ensures.told t formed told).0) asks in
    let lists = text_lists listing c.in-Ok-Put.text (rw c.in-Ok-Put.field-0-is at plan) in (
      listed_put listing c.in-Ok-Put.text c.put_listing.result lists c.put_listing.ensures.answers c.put_listing.ensures.done c.put_listing.ensures.kept,
      λ steady room h. c.put_listing.ensures.steady steady (room c.in-Ok-Put.text lists) h,
    )

pub returns-in-Ok-Put-clause-done : goal.returns-in-Ok-Put-clause-done
returns-in-Ok-Put-clause-done g c = λ done.
    let asked = c.read_command-asked.result in
    let text = c.in-Ok-Put.text in
    let kind = rw c.in-Ok-Put.field-0-is at c.in-Ok-Put.ensures.kind in
    let may = subst (λ read. MayPut read text) c.read_command-asked.ensures.value (put_may asked c.args.words.now text kind) in
    (subst IsListing c.read_command-asked.ensures.value (put_is_listing asked c.args.words.now text kind), λ held told. (text, may, c.put_listing.ensures.done done held told))

pub returns-in-Ok-Put-clause-answers : goal.returns-in-Ok-Put-clause-answers
returns-in-Ok-Put-clause-answers g c =
    let answer = c.put_listing.result in
    let is : (answer ≡ Done) ⊎ Yields answer = elim c.put_listing.ensures.answers [ inl done ↦ inl done | inr fault ↦ inr (inr (inl (ap stage_of fault))) ] in
    subst (λ read. MayAnswer read answer) c.read_command-asked.ensures.value (listing_may c.read_command-asked.result c.args.words.now c.in-Ok-Put.text answer (rw c.in-Ok-Put.field-0-is at c.in-Ok-Put.ensures.kind) is)

pub returns-in-Ok-Put-clause-counted : goal.returns-in-Ok-Put-clause-counted
returns-in-Ok-Put-clause-counted g c = λ limit has.
    let listing = put_is_listing c.read_command-asked.result c.args.words.now c.in-Ok-Put.text (rw c.in-Ok-Put.field-0-is at c.in-Ok-Put.ensures.kind) in
    absurd (limit_not_listing c.read_command-asked.result c.args.words.now limit (sym c.read_command-asked.ensures.value) has listing)

pub returns-in-Ok-Put-clause-ran : goal.returns-in-Ok-Put-clause-ran
returns-in-Ok-Put-clause-ran g c = λ d asks.
    let plan = c.in-Ok-Put.ensures.told d.start.contents.tree asks.formed asks.told.tree_told in
    let made = rw c.in-Ok-Put.field-0-is at plan.0 in
    let here = made.1 in
    let planned = asks.planned in
    absurd cc

pub returns-in-Ok-Put-clause-refused : goal.returns-in-Ok-Put-clause-refused
returns-in-Ok-Put-clause-refused g c = λ t a plans.
    let plan = c.in-Ok-Put.ensures.told t plans.formed plans.tree_told in
    let made = rw c.in-Ok-Put.field-0-is at plan.0 in
    let here = made.1 in
    let planned = plans.planned in
    absurd cc

-- where a program runs

pub returns-in-Ok-Run-clause-words : goal.returns-in-Ok-Run-clause-words
returns-in-Ok-Run-clause-words g c = λ refused. absurd (run_not_refusal c.run_program-end.result.answer c.run_program-end.ensures.answers (inl refused))

pub returns-in-Ok-Run-clause-other_words : goal.returns-in-Ok-Run-clause-other_words
returns-in-Ok-Run-clause-other_words g c = λ a known.
    let fault = fault_read c.read_command-asked.result a (ap refusal_of c.read_command-asked.ensures.value ∙ known) in
    let planned = c.make_plan.ensures.refused fault.0 fault.1 in
    let is = c.in-Ok-Run.is in
    let made = c.in-Ok-Run.field-0-is in
    absurd cc

pub returns-in-Ok-Run-clause-refusal : goal.returns-in-Ok-Run-clause-refusal
returns-in-Ok-Run-clause-refusal g c = λ t formed told refused. absurd (run_not_refusal c.run_program-end.result.answer c.run_program-end.ensures.answers refused)

pub returns-in-Ok-Run-clause-refused : goal.returns-in-Ok-Run-clause-refused
returns-in-Ok-Run-clause-refused g c = λ t a plans.
    let plan = c.in-Ok-Run.ensures.told t plans.formed plans.tree_told in
    let made = rw c.in-Ok-Run.field-0-is at plan.0 in
    let planned = plans.planned in
    absurd cc

pub returns-in-Ok-Run-clause-listed : goal.returns-in-Ok-Run-clause-listed
returns-in-Ok-Run-clause-listed g c = λ listing asks.
    let plan = plan_asked c.args.words.now listing (g.F.Folder.tree c.args.folder.now) c.in-Ok-Run.field-0
    (λ kernel. kernel_plan c.read_command-asked.result c.args.words.now _ (c.read_command-asked.ensures.value ∙ kernel) c.in-Ok-Run.ensures.kind)
    (λ t formed told. (c.in-Ok-Run.ensures.told t formed told).0) asks in
    let made = rw c.in-Ok-Run.field-0-is at plan in
    absurd cc

pub returns-in-Ok-Run-clause-listing : goal.returns-in-Ok-Run-clause-listing
returns-in-Ok-Run-clause-listing g c = λ listing.
    absurd (listing_not_run c.read_command-asked.result c.args.words.now c.in-Ok-Run.image c.in-Ok-Run.args c.in-Ok-Run.root c.in-Ok-Run.limit (subst IsListing (sym c.read_command-asked.ensures.value) listing) (rw c.in-Ok-Run.field-0-is at c.in-Ok-Run.ensures.kind))

pub returns-in-Ok-Run-clause-not_done : goal.returns-in-Ok-Run-clause-not_done
returns-in-Ok-Run-clause-not_done g c = λ listing.
    absurd (listing_not_run c.read_command-asked.result c.args.words.now c.in-Ok-Run.image c.in-Ok-Run.args c.in-Ok-Run.root c.in-Ok-Run.limit (subst IsListing (sym c.read_command-asked.ensures.value) listing) (rw c.in-Ok-Run.field-0-is at c.in-Ok-Run.ensures.kind))

pub returns-in-Ok-Run-clause-one_put : goal.returns-in-Ok-Run-clause-one_put
returns-in-Ok-Run-clause-one_put g c = λ listing.
    absurd (listing_not_run c.read_command-asked.result c.args.words.now c.in-Ok-Run.image c.in-Ok-Run.args c.in-Ok-Run.root c.in-Ok-Run.limit (subst IsListing (sym c.read_command-asked.ensures.value) listing) (rw c.in-Ok-Run.field-0-is at c.in-Ok-Run.ensures.kind))

pub returns-in-Ok-Run-clause-no_put : goal.returns-in-Ok-Run-clause-no_put
returns-in-Ok-Run-clause-no_put g c = λ listing.
    absurd (listing_not_run c.read_command-asked.result c.args.words.now c.in-Ok-Run.image c.in-Ok-Run.args c.in-Ok-Run.root c.in-Ok-Run.limit (subst IsListing (sym c.read_command-asked.ensures.value) listing) (rw c.in-Ok-Run.field-0-is at c.in-Ok-Run.ensures.kind))

pub returns-in-Ok-Run-clause-at_most_one_put : goal.returns-in-Ok-Run-clause-at_most_one_put
returns-in-Ok-Run-clause-at_most_one_put g c = λ listing.
    absurd (listing_not_run c.read_command-asked.result c.args.words.now c.in-Ok-Run.image c.in-Ok-Run.args c.in-Ok-Run.root c.in-Ok-Run.limit (subst IsListing (sym c.read_command-asked.ensures.value) listing) (rw c.in-Ok-Run.field-0-is at c.in-Ok-Run.ensures.kind))

pub returns-in-Ok-Run-clause-answers : goal.returns-in-Ok-Run-clause-answers
returns-in-Ok-Run-clause-answers g c =
    let answer = c.run_program-end.result.answer in
    let kind = rw c.in-Ok-Run.field-0-is at c.in-Ok-Run.ensures.kind in
    subst (λ read. MayAnswer read answer) c.read_command-asked.ensures.value (run_may c.read_command-asked.result c.args.words.now c.in-Ok-Run.image c.in-Ok-Run.args c.in-Ok-Run.root c.in-Ok-Run.limit answer kind c.run_program-end.ensures.answers)

pub returns-in-Ok-Run-clause-counted : goal.returns-in-Ok-Run-clause-counted
returns-in-Ok-Run-clause-counted g c = λ limit has.
    let words = c.args.words.now in
    let made = run_has_limit c.read_command-asked.result words c.in-Ok-Run.image c.in-Ok-Run.args c.in-Ok-Run.root c.in-Ok-Run.limit (sym c.read_command-asked.ensures.value) (rw c.in-Ok-Run.field-0-is at c.in-Ok-Run.ensures.kind) in
    (c.run_program-end.result.steps, refl, subst (λ (n : ℕ). c.run_program-end.result.steps ≤ n) (one_limit words _ limit made has) c.run_program-end.ensures.within)

pub returns-in-Ok-Run-clause-ran : goal.returns-in-Ok-Run-clause-ran
returns-in-Ok-Run-clause-ran g c = λ d asks.
    let plan = c.in-Ok-Run.ensures.told d.start.contents.tree asks.formed asks.told.tree_told in
    let read : Tells d.start.contents (g.I.Source.left c.args.input.now) (g.C.Sink.held c.args.console.now) (g.F.Folder.tree c.make_plan.new.folder) =
    record { input_told = asks.told.input_told; console_told = asks.told.console_told; tree_told = plan.1 } in
    let made = rw c.in-Ok-Run.field-0-is at plan.0 in
    let same = case_same d c.in-Ok-Run.image c.in-Ok-Run.args c.in-Ok-Run.root c.in-Ok-Run.limit (sym made ∙ asks.planned) in
    let known = c.run_program-end.ensures in
    let answer = c.run_program-end.result.answer in
    let steps = c.run_program-end.result.steps in
    let unasked = unasked_as _ d answer steps same (known.unasked d.start.contents read) in (
      steps,
      refl,
      run_as _ d answer steps same (known.ran d.start.contents read),
      subst (λ (e : RunCase). IsTimely e answer steps) same (known.timely d.start.contents read),
      record {
        file = record { later = omega (arith, c.make_plan.ensures.cause.later, known.causes.file.later); rose = λ h. rose_from _ _ _ c.make_plan.ensures.cause.later (known.causes.file.rose h) };
        memory = record { later = omega (arith, c.make_plan.ensures.short, known.causes.memory.later); rose = λ h. rose_from _ _ _ c.make_plan.ensures.short (known.causes.memory.rose h) };
        input = known.causes.input;
        console = known.causes.console;
      },
      subst (λ (e : RunCase). ConsoleSuits g.F.Folder g.I.Source g.C.Sink e c.args.console.now steps answer) same (known.suits d.start.contents read),
      record { input = unasked.input; console = unasked.console },
    )

pub returns-in-Ok-Run-clause-spent : goal.returns-in-Ok-Run-clause-spent
returns-in-Ok-Run-clause-spent g c = λ n h.
    let both = c.run_program-end.ensures.spent n h in
    let limit = run_has_limit c.read_command-asked.result c.args.words.now c.in-Ok-Run.image c.in-Ok-Run.args c.in-Ok-Run.root c.in-Ok-Run.limit (sym c.read_command-asked.ensures.value) (rw c.in-Ok-Run.field-0-is at c.in-Ok-Run.ensures.kind) in
    (subst (HasLimit c.args.words.now) (sym both.0) limit, ap Some both.1)

pub returns-in-Ok-Run-clause-formed : goal.returns-in-Ok-Run-clause-formed
returns-in-Ok-Run-clause-formed g c = λ t formed told. c.run_program-end.ensures.formed t formed (c.in-Ok-Run.ensures.told t formed told).1

-- where the work stops before

pub returns-in-Err-FileFault-clause-one_put : goal.returns-in-Err-FileFault-clause-one_put
returns-in-Err-FileFault-clause-one_put g c = λ listing which. stop_puts_none FileFault which refl

pub returns-in-Err-FileFault-clause-at_most_one_put : goal.returns-in-Err-FileFault-clause-at_most_one_put
returns-in-Err-FileFault-clause-at_most_one_put g c = λ listing. inl refl

pub returns-in-Err-OutOfMemory-clause-one_put : goal.returns-in-Err-OutOfMemory-clause-one_put
returns-in-Err-OutOfMemory-clause-one_put g c = λ listing which. stop_puts_none OutOfMemory which refl

pub returns-in-Err-OutOfMemory-clause-at_most_one_put : goal.returns-in-Err-OutOfMemory-clause-at_most_one_put
returns-in-Err-OutOfMemory-clause-at_most_one_put g c = λ listing. inl refl

pub returns-in-Err-FileFault-clause-refused : goal.returns-in-Err-FileFault-clause-refused
returns-in-Err-FileFault-clause-refused g c = λ t a plans.
    (inr refl, c.first_count-in-Err-FileFault.ensures ∙ ap first_count c.read_command-asked.ensures.value, refl, refl, c.make_plan.ensures.files t plans.tree_told, λ going. absurd (going refl))

pub returns-in-Err-OutOfMemory-clause-refused : goal.returns-in-Err-OutOfMemory-clause-refused
returns-in-Err-OutOfMemory-clause-refused g c = λ t a plans.
    (inr refl, c.first_count-in-Err-OutOfMemory.ensures ∙ ap first_count c.read_command-asked.ensures.value, refl, refl, c.make_plan.ensures.files t plans.tree_told, λ going. absurd (going refl))

pub returns-in-Err-FileFault-clause-listed : goal.returns-in-Err-FileFault-clause-listed
returns-in-Err-FileFault-clause-listed g c = λ listing asks. (listed_stopped listing FileFault _ refl, λ steady room h. cc)

pub returns-in-Err-OutOfMemory-clause-listed : goal.returns-in-Err-OutOfMemory-clause-listed
returns-in-Err-OutOfMemory-clause-listed g c = λ listing asks. (listed_stopped listing OutOfMemory _ refl, λ steady room h. cc)

pub returns-in-Err-FileFault-clause-listing : goal.returns-in-Err-FileFault-clause-listing
returns-in-Err-FileFault-clause-listing g c = λ listing.
    (c.first_count-in-Err-FileFault.ensures ∙ listing_counts c.read_command-asked.result (subst IsListing (sym c.read_command-asked.ensures.value) listing), refl)

pub returns-in-Err-OutOfMemory-clause-listing : goal.returns-in-Err-OutOfMemory-clause-listing
returns-in-Err-OutOfMemory-clause-listing g c = λ listing.
    (c.first_count-in-Err-OutOfMemory.ensures ∙ listing_counts c.read_command-asked.result (subst IsListing (sym c.read_command-asked.ensures.value) listing), refl)

pub returns-in-Err-FileFault-clause-ran : goal.returns-in-Err-FileFault-clause-ran
returns-in-Err-FileFault-clause-ran g c = λ d asks.
    let t = d.start.contents.tree in
    let planned = ap (λ r. planned_command r c.args.words.now t) c.read_command-asked.ensures.value ∙ asks.planned in
    let some = some_steps c.read_command-asked.result _ d.limit c.args.words.now d.start.args t d.start.image d.start.root (sound_as c.read_command-asked.result _ c.read_command-asked.ensures.sound) planned in (
      0,
      c.first_count-in-Err-FileFault.ensures ∙ run_counts c.read_command-asked.result c.args.words.now t d.start.image d.start.args d.start.root d.limit planned,
      stopped_run d FileFault some refl asks.told.input_told asks.told.console_told (c.make_plan.ensures.files t asks.told.tree_told) (c.make_plan.ensures.opens t asks.formed asks.told.tree_told),
      stopped_timely d FileFault refl,
      record {
        file = record { later = c.make_plan.ensures.cause.later; rose = λ h. c.make_plan.ensures.cause.rose (search rules) };
        memory = record { later = c.make_plan.ensures.short; rose = λ h. absurd (omega (arith, h.1)) };
        input = record { later = omega arith; rose = λ h. cc };
        console = record { later = omega arith; rose = λ h. cc };
      },
      λ steady room h. cc,
      record { input = λ never. refl; console = λ never. refl },
    )

pub returns-in-Err-OutOfMemory-clause-ran : goal.returns-in-Err-OutOfMemory-clause-ran
returns-in-Err-OutOfMemory-clause-ran g c = λ d asks.
    let t = d.start.contents.tree in
    let planned = ap (λ r. planned_command r c.args.words.now t) c.read_command-asked.ensures.value ∙ asks.planned in
    let some = some_steps c.read_command-asked.result _ d.limit c.args.words.now d.start.args t d.start.image d.start.root (sound_as c.read_command-asked.result _ c.read_command-asked.ensures.sound) planned in (
      0,
      c.first_count-in-Err-OutOfMemory.ensures ∙ run_counts c.read_command-asked.result c.args.words.now t d.start.image d.start.args d.start.root d.limit planned,
      stopped_run d OutOfMemory some refl asks.told.input_told asks.told.console_told (c.make_plan.ensures.files t asks.told.tree_told) (c.make_plan.ensures.opens t asks.formed asks.told.tree_told),
      stopped_timely d OutOfMemory refl,
      record {
        file = record { later = c.make_plan.ensures.cause.later; rose = λ h. cc };
        memory = record { later = c.make_plan.ensures.short; rose = λ h. absurd (omega (arith, h.1)) };
        input = record { later = omega arith; rose = λ h. cc };
        console = record { later = omega arith; rose = λ h. cc };
      },
      λ steady room h. cc,
      record { input = λ never. refl; console = λ never. refl },
    )

pub returns-in-Err-FileFault-clause-counted : goal.returns-in-Err-FileFault-clause-counted
returns-in-Err-FileFault-clause-counted g c = λ limit has.
    (0, c.first_count-in-Err-FileFault.ensures ∙ limit_counts c.read_command-asked.result c.args.words.now limit (sym c.read_command-asked.ensures.value) has, omega arith)

pub returns-in-Err-OutOfMemory-clause-counted : goal.returns-in-Err-OutOfMemory-clause-counted
returns-in-Err-OutOfMemory-clause-counted g c = λ limit has.
    (0, c.first_count-in-Err-OutOfMemory.ensures ∙ limit_counts c.read_command-asked.result c.args.words.now limit (sym c.read_command-asked.ensures.value) has, omega arith)

pub returns-in-Err-FileFault-clause-answers : goal.returns-in-Err-FileFault-clause-answers
returns-in-Err-FileFault-clause-answers g c =
    subst (λ read. MayAnswer read FileFault) c.read_command-asked.ensures.value (stop_may c.read_command-asked.result FileFault (λ fault read. let planned = c.make_plan.ensures.refused fault read in let is = c.in-Err-FileFault.is in cc) refl)

pub returns-in-Err-OutOfMemory-clause-answers : goal.returns-in-Err-OutOfMemory-clause-answers
returns-in-Err-OutOfMemory-clause-answers g c =
    subst (λ read. MayAnswer read OutOfMemory) c.read_command-asked.ensures.value (stop_may c.read_command-asked.result OutOfMemory (λ fault read. let planned = c.make_plan.ensures.refused fault read in let is = c.in-Err-OutOfMemory.is in cc) refl)

pub returns-in-Ok-Refuse-clause-listed_files : goal.returns-in-Ok-Refuse-clause-listed_files
returns-in-Ok-Refuse-clause-listed_files g c = λ listing t formed told. (c.make_plan.ensures.files t told, λ going. (c.in-Ok-Refuse.ensures.told t formed told).1)

pub returns-in-Ok-Refuse-clause-formed : goal.returns-in-Ok-Refuse-clause-formed
returns-in-Ok-Refuse-clause-formed g c = λ t formed told. formed_still t _ formed (c.make_plan.ensures.opens t formed told)

pub returns-in-Ok-Put-clause-listed_files : goal.returns-in-Ok-Put-clause-listed_files
returns-in-Ok-Put-clause-listed_files g c = λ listing t formed told. (c.make_plan.ensures.files t told, λ going. (c.in-Ok-Put.ensures.told t formed told).1)

pub returns-in-Ok-Put-clause-formed : goal.returns-in-Ok-Put-clause-formed
returns-in-Ok-Put-clause-formed g c = λ t formed told. formed_still t _ formed (c.make_plan.ensures.opens t formed told)

pub returns-in-Err-FileFault-clause-listed_files : goal.returns-in-Err-FileFault-clause-listed_files
returns-in-Err-FileFault-clause-listed_files g c = λ listing t formed told. (c.make_plan.ensures.files t told, λ going. absurd (going refl))

pub returns-in-Err-FileFault-clause-formed : goal.returns-in-Err-FileFault-clause-formed
returns-in-Err-FileFault-clause-formed g c = λ t formed told. formed_still t _ formed (c.make_plan.ensures.opens t formed told)

pub returns-in-Err-OutOfMemory-clause-listed_files : goal.returns-in-Err-OutOfMemory-clause-listed_files
returns-in-Err-OutOfMemory-clause-listed_files g c = λ listing t formed told. (c.make_plan.ensures.files t told, λ going. absurd (going refl))

pub returns-in-Err-OutOfMemory-clause-formed : goal.returns-in-Err-OutOfMemory-clause-formed
returns-in-Err-OutOfMemory-clause-formed g c = λ t formed told. formed_still t _ formed (c.make_plan.ensures.opens t formed told)
