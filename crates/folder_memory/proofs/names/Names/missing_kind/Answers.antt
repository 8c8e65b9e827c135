use Rattle.std.proofs.Common.{◌≡◌, None, ap, sym, ◌∙◌}
use Rattle.folder_tree.specs.Paths.{parts_of}
use Rattle.folder_tree.specs.WalkLaws.{kind_under, standing}
use Rattle.folder_memory.specs.Names.{names_tree}
use Rattle.folder_memory.proofs.StandingLemmas.{found-kind, none_standing, step_further, step_up}
use Rattle.folder_memory.proofs.names.Names.missing_kind.Goals as goal

pub loop-stood-init : goal.loop-stood-init
loop-stood-init c = record {
  utf8 = c.text_above-above.utf8;
  path = c.text_above-above.ensures.path;
  same = step_up (names_tree c.args.self.now) (parts_of c.args.text.now) (parts_of c.text_above-above.result.now)
      c.text_above-above.ensures.last c.requires.missing;
}

pub returns-in-Some : goal.returns-in-Some
returns-in-Some c =
    c.kind_below.ensures
    ∙ ap (kind_under c.loop-stood.kind) (found-kind (names_tree c.args.self.now) (parts_of c.loop-stood.above.now)
    c.standing.result c.in-Some.stood c.requires.well c.standing.ensures c.in-Some.is)
    ∙ sym c.loop-stood.invariant.same

pub loop-stood-preserved : goal.loop-stood-preserved
loop-stood-preserved c =
    let none : standing (names_tree c.args.self.now) (parts_of c.loop-stood.above.now) ≡ None =
    none_standing c.standing.result (standing (names_tree c.args.self.now) (parts_of c.loop-stood.above.now))
    c.standing.ensures c.in_default.is in
    record {
      utf8 = c.text_above-above-in-loop-stood.utf8;
      path = c.text_above-above-in-loop-stood.ensures.path;
      same = step_further (names_tree c.args.self.now) _ c.loop-stood.kind (parts_of c.loop-stood.above.now)
          (parts_of c.text_above-above-in-loop-stood.result.now)
          c.text_above-above-in-loop-stood.ensures.last none c.loop-stood.invariant.same;
    }
