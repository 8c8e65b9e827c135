use Rattle.std.proofs.Common.{◌≡◌, ◌≤◌, ◌<◌, ◌+◌, ◌-◌, ◌∙◌, [], None, Some, false, ap, sym, subst, refl, arith, rules}
use Rattle.std.specs.Result.{result_err}
use Rattle.plain_machine.specs.Asks.{asks_folder, asks_input, needs_outside, puts_of}
use Rattle.plain_machine.specs.Direct.{DirectState, status_of}
use Rattle.plain_machine.specs.Outsides.{Called, InWorld, outside}
use Rattle.plain_machine.specs.Stands.{PlainState, IsAt, LoneRan, asks, direct_of, end_fault, made}
use Rattle.plain_machine.proofs.Consoles.{puts-suit}
use Rattle.plain_machine.proofs.Joins.{called-none, called-then, world-none, world-then, asks-here, asks-neither}
use Rattle.plain_machine.proofs.Runs.{StandsAt, StandsAt-begin, StandsAt-walk, StandsAt-next, StandsLone-begin, StandsLone-next, StandsLone-ran, StandsLone-walk, ran-to, ran-fault, exits-some, exits-none}
use Rattle.plain_machine.proofs.plain.Plain.run.Goals as goal

pub steps-init : goal.steps-init
steps-init g c = record {
  stands = λ first at. StandsAt-begin _ first at;
  given = refl;
  later = omega arith;
  within = omega arith;
  called = called-none g.F.Folder g.I.Source g.C.Sink _;
  in_world = world-none g.F.Folder g.I.Source g.C.Sink _ _;
  lone = λ contents never. (StandsLone-begin _ contents, refl, refl);
  folder_untouched = λ first at never. refl;
  input_untouched = λ first at never. refl;
  console_untouched = λ first at never. refl;
}

pub steps-smaller : goal.steps-smaller
steps-smaller g c =
    let runs : status_of c.walk.new.self.machine ≡ None = c.walk.ensures.status ∙ (search rules) in
    let more : c.step.new.self.steps ≡ c.walk.new.self.steps + 1 = search rules in
    let low : c.steps.self.steps < c.args.limit = search rules in
    omega (arith, more, low, c.walk.ensures.later, c.walk.ensures.within)

pub steps-preserved : goal.steps-preserved
steps-preserved g c =
    let runs : status_of c.walk.new.self.machine ≡ None = c.walk.ensures.status ∙ (search rules) in
    let more : c.step.new.self.steps ≡ c.walk.new.self.steps + 1 = search rules in
    let low : c.steps.self.steps < c.args.limit = search rules in
    let later : c.args.self.now.steps ≤ c.walk.new.self.steps = omega (arith, c.walk.ensures.later, c.steps.invariant.later) in
    let given : c.walk.new.self.given ≡ c.args.self.now.given = c.walk.ensures.given ∙ c.steps.invariant.given in
    let fine : result_err c.step.result ≡ None = search rules in
    let walked : (first : DirectState) → IsAt first c.args.self.now (g.I.Source.left c.args.input.now) (g.C.Sink.held c.args.console.now) (g.F.Folder.tree c.args.folder.now)
    → StandsAt c.args.self.now first c.walk.new.self (g.I.Source.left c.steps.input) (g.C.Sink.held c.steps.console) (g.F.Folder.tree c.steps.folder) =
    λ first at. StandsAt-walk _ first c.steps.self c.walk.new.self c.steps.invariant.later c.walk.ensures.later c.steps.invariant.given (λ k. c.walk.ensures.after k) (λ k. c.walk.ensures.each k) (c.steps.invariant.stands first at) in
    let next : made c.args.self.now c.step.new.self ≡ made c.args.self.now c.walk.new.self + 1 = omega (arith, more, later) in
    record {
      stands = λ first at. StandsAt-next _ first c.walk.new.self _ later more given runs c.in_default.ensures.step (walked first at);
      given = c.step.ensures.given ∙ given;
      later = omega (arith, more, later);
      within = omega (arith, more, low, c.walk.ensures.later, c.walk.ensures.within);
      called = called-then g.F.Folder g.I.Source g.C.Sink _ (outside c.steps.folder c.steps.input c.steps.console) _ None c.steps.invariant.called
          (subst (λ z. Called g.F.Folder g.I.Source g.C.Sink (outside c.steps.folder c.steps.input c.steps.console) (outside c.step.new.folder c.step.new.input c.step.new.console) z) fine c.step.ensures.called);
      in_world = world-then g.F.Folder g.I.Source g.C.Sink _ c.walk.new.self.numbers _ _ (outside c.steps.folder c.steps.input c.steps.console) _ None
          (subst (λ n. InWorld g.F.Folder g.I.Source g.C.Sink c.args.self.now.numbers n (outside c.args.folder.now c.args.input.now c.args.console.now) (outside c.steps.folder c.steps.input c.steps.console) None) (sym c.walk.ensures.numbers) c.steps.invariant.in_world)
          (subst (λ z. InWorld g.F.Folder g.I.Source g.C.Sink c.walk.new.self.numbers c.step.new.self.numbers (outside c.steps.folder c.steps.input c.steps.console) (outside c.step.new.folder c.step.new.input c.step.new.console) z) fine c.step.ensures.in_world);
      lone = λ contents never.
          let first = direct_of c.args.self.now contents in
          let before = c.steps.invariant.lone contents (λ n low. never n (omega (arith, low, next, c.walk.ensures.later))) in
          let here = StandsLone-walk _ first c.steps.self c.walk.new.self c.steps.invariant.later c.walk.ensures.later c.steps.invariant.given (λ k. c.walk.ensures.after k) (λ k. c.walk.ensures.each k) before.0 in
          let none = asks-here (λ x. needs_outside x ≡ false) _ first c.walk.new.self here.stands (never (made c.args.self.now c.walk.new.self) (omega (arith, next))) in
          let neither = asks-neither (asks c.walk.new.self) none in
          (StandsLone-next _ first c.walk.new.self _ later more given runs (λ k. c.in_default.ensures.lone none k) here, c.step.ensures.asking.folder_untouched neither.0 ∙ before.1, c.step.ensures.asking.input_untouched neither.1 ∙ before.2);
      folder_untouched = λ first at never.
          c.step.ensures.asking.folder_untouched (asks-here (λ x. asks_folder x ≡ false) _ first c.walk.new.self (walked first at) (never (made c.args.self.now c.walk.new.self) (omega (arith, next))))
          ∙ c.steps.invariant.folder_untouched first at (λ n before. never n (omega (arith, before, next, c.walk.ensures.later)));
      input_untouched = λ first at never.
          c.step.ensures.asking.input_untouched (asks-here (λ x. asks_input x ≡ false) _ first c.walk.new.self (walked first at) (never (made c.args.self.now c.walk.new.self) (omega (arith, next))))
          ∙ c.steps.invariant.input_untouched first at (λ n before. never n (omega (arith, before, next, c.walk.ensures.later)));
      console_untouched = λ first at never.
          c.step.ensures.asking.console_untouched (asks-here (λ x. puts_of x ≡ []) _ first c.walk.new.self (walked first at) (never (made c.args.self.now c.walk.new.self) (omega (arith, next))))
          ∙ c.steps.invariant.console_untouched first at (λ n before. never n (omega (arith, before, next, c.walk.ensures.later)));
    }

pub returns-in-Err-clause-ran : goal.returns-in-Err-clause-ran
returns-in-Err-clause-ran g c = λ first at.
    let runs : status_of c.walk.new.self.machine ≡ None = c.walk.ensures.status ∙ (search rules) in
    ran-fault _ first c.walk.new.self _ _ c.in-Err.ensures.kept (c.walk.ensures.given ∙ c.steps.invariant.given) runs c.in-Err.ensures.spared (StandsAt-walk _ first c.steps.self c.walk.new.self c.steps.invariant.later c.walk.ensures.later c.steps.invariant.given (λ k. c.walk.ensures.after k) (λ k. c.walk.ensures.each k) (c.steps.invariant.stands first at))

pub returns-in-Err-clause-lone : goal.returns-in-Err-clause-lone
returns-in-Err-clause-lone g c = λ contents never.
    let same : c.step.new.self.steps ≡ c.walk.new.self.steps = ap (λ (p : PlainState). p.steps) c.in-Err.ensures.kept in
    let first = direct_of c.args.self.now contents in
    let before = c.steps.invariant.lone contents (λ n low. never n (omega (arith, low, same, c.walk.ensures.later))) in
    let here = StandsLone-walk _ first c.steps.self c.walk.new.self c.steps.invariant.later c.walk.ensures.later c.steps.invariant.given (λ k. c.walk.ensures.after k) (λ k. c.walk.ensures.each k) before.0 in
    let none = asks-here (λ x. needs_outside x ≡ false) _ first c.walk.new.self here.stands (never (made c.args.self.now c.walk.new.self) (omega (arith, same))) in
    let neither = asks-neither (asks c.walk.new.self) none in
    let ran = StandsLone-ran _ first c.walk.new.self here in (
      subst (λ (p : PlainState). LoneRan first c.args.self.now p) (sym c.in-Err.ensures.kept) ran,
      c.step.ensures.asking.folder_untouched neither.0 ∙ before.1,
      c.step.ensures.asking.input_untouched neither.1 ∙ before.2,
    )

pub returns-in-Err-clause-in_world : goal.returns-in-Err-clause-in_world
returns-in-Err-clause-in_world g c =
    world-then g.F.Folder g.I.Source g.C.Sink _ c.walk.new.self.numbers _ _ (outside c.steps.folder c.steps.input c.steps.console) _ _
    (subst (λ n. InWorld g.F.Folder g.I.Source g.C.Sink c.args.self.now.numbers n (outside c.args.folder.now c.args.input.now c.args.console.now) (outside c.steps.folder c.steps.input c.steps.console) None) (sym c.walk.ensures.numbers) c.steps.invariant.in_world)
    (subst (λ z. InWorld g.F.Folder g.I.Source g.C.Sink c.walk.new.self.numbers c.step.new.self.numbers (outside c.steps.folder c.steps.input c.steps.console) (outside c.step.new.folder c.step.new.input c.step.new.console) z) (ap result_err c.in-Err.is) c.step.ensures.in_world)

pub returns-in-Err-clause-folder_untouched : goal.returns-in-Err-clause-folder_untouched
returns-in-Err-clause-folder_untouched g c = λ first at never.
    let same : c.step.new.self.steps ≡ c.walk.new.self.steps = ap (λ (p : PlainState). p.steps) c.in-Err.ensures.kept in
    c.step.ensures.asking.folder_untouched (asks-here (λ x. asks_folder x ≡ false) _ first c.walk.new.self (StandsAt-walk _ first c.steps.self c.walk.new.self c.steps.invariant.later c.walk.ensures.later c.steps.invariant.given (λ k. c.walk.ensures.after k) (λ k. c.walk.ensures.each k) (c.steps.invariant.stands first at)) (never (made c.args.self.now c.walk.new.self) (omega (arith, same))))
    ∙ c.steps.invariant.folder_untouched first at (λ n before. never n (omega (arith, before, same, c.walk.ensures.later)))

pub returns-in-Err-clause-input_untouched : goal.returns-in-Err-clause-input_untouched
returns-in-Err-clause-input_untouched g c = λ first at never.
    let same : c.step.new.self.steps ≡ c.walk.new.self.steps = ap (λ (p : PlainState). p.steps) c.in-Err.ensures.kept in
    c.step.ensures.asking.input_untouched (asks-here (λ x. asks_input x ≡ false) _ first c.walk.new.self (StandsAt-walk _ first c.steps.self c.walk.new.self c.steps.invariant.later c.walk.ensures.later c.steps.invariant.given (λ k. c.walk.ensures.after k) (λ k. c.walk.ensures.each k) (c.steps.invariant.stands first at)) (never (made c.args.self.now c.walk.new.self) (omega (arith, same))))
    ∙ c.steps.invariant.input_untouched first at (λ n before. never n (omega (arith, before, same, c.walk.ensures.later)))

pub returns-in-Err-clause-console_untouched : goal.returns-in-Err-clause-console_untouched
returns-in-Err-clause-console_untouched g c = λ first at never.
    let same : c.step.new.self.steps ≡ c.walk.new.self.steps = ap (λ (p : PlainState). p.steps) c.in-Err.ensures.kept in
    c.step.ensures.asking.console_untouched (asks-here (λ x. puts_of x ≡ []) _ first c.walk.new.self (StandsAt-walk _ first c.steps.self c.walk.new.self c.steps.invariant.later c.walk.ensures.later c.steps.invariant.given (λ k. c.walk.ensures.after k) (λ k. c.walk.ensures.each k) (c.steps.invariant.stands first at)) (never (made c.args.self.now c.walk.new.self) (omega (arith, same))))
    ∙ c.steps.invariant.console_untouched first at (λ n before. never n (omega (arith, before, same, c.walk.ensures.later)))

pub returns-in-Err-clause-suits : goal.returns-in-Err-clause-suits
returns-in-Err-clause-suits g c = λ steady first at suffices is.
    let same : c.step.new.self.steps ≡ c.walk.new.self.steps = ap (λ (p : PlainState). p.steps) c.in-Err.ensures.kept in
    let next : made c.args.self.now c.step.new.self + 1 ≡ made c.args.self.now c.walk.new.self + 1 = omega (arith, same) in
    let walked = StandsAt-walk _ first c.steps.self c.walk.new.self c.steps.invariant.later c.walk.ensures.later c.steps.invariant.given (λ k. c.walk.ensures.after k) (λ k. c.walk.ensures.each k) (c.steps.invariant.stands first at) in
    let suit = puts-suit c.args.self.now.given first (made c.args.self.now c.walk.new.self) _ c.walk.new.self (g.C.Sink.room c.steps.console) (g.C.Sink.held c.args.console.now) (g.C.Sink.room c.args.console.now) next walked.at c.steps.invariant.called.console_capacity suffices in
    c.step.ensures.asking.console_suits (c.steps.invariant.called.console_steady steady (λ e. cc)).1 suit (ap result_err c.in-Err.is ∙ ap end_fault is)

pub returns-in-Some-clause-ran : goal.returns-in-Some-clause-ran
returns-in-Some-clause-ran g c = λ first at.
    let is : status_of c.steps.self.machine ≡ Some c.in-Some.status = search rules in
    ran-to _ first _ _ refl (exits-some c.steps.self.machine c.in-Some.status is) (c.steps.invariant.stands first at)

pub returns-in-None-clause-ran : goal.returns-in-None-clause-ran
returns-in-None-clause-ran g c = λ first at.
    let is : status_of c.steps.self.machine ≡ None = search rules in
    ran-to _ first _ _ refl (exits-none c.steps.self.machine is) (c.steps.invariant.stands first at)

pub returns-in-Some-clause-folder_untouched : goal.returns-in-Some-clause-folder_untouched
returns-in-Some-clause-folder_untouched g c = c.steps.invariant.folder_untouched

pub returns-in-Some-clause-input_untouched : goal.returns-in-Some-clause-input_untouched
returns-in-Some-clause-input_untouched g c = c.steps.invariant.input_untouched

pub returns-in-Some-clause-console_untouched : goal.returns-in-Some-clause-console_untouched
returns-in-Some-clause-console_untouched g c = c.steps.invariant.console_untouched

pub returns-in-None-clause-folder_untouched : goal.returns-in-None-clause-folder_untouched
returns-in-None-clause-folder_untouched g c = c.steps.invariant.folder_untouched

pub returns-in-None-clause-input_untouched : goal.returns-in-None-clause-input_untouched
returns-in-None-clause-input_untouched g c = c.steps.invariant.input_untouched

pub returns-in-None-clause-console_untouched : goal.returns-in-None-clause-console_untouched
returns-in-None-clause-console_untouched g c = c.steps.invariant.console_untouched

pub returns-in-Some-clause-lone : goal.returns-in-Some-clause-lone
returns-in-Some-clause-lone g c = λ contents never.
    let h = c.steps.invariant.lone contents never in (StandsLone-ran _ _ _ h.0, h.1, h.2)

pub returns-in-None-clause-lone : goal.returns-in-None-clause-lone
returns-in-None-clause-lone g c = λ contents never.
    let h = c.steps.invariant.lone contents never in (StandsLone-ran _ _ _ h.0, h.1, h.2)
