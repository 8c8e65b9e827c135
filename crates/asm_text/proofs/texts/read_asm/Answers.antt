use Rattle.std.proofs.Common.{ℕ, List, Option, Bor, sym, ap, ◌∙◌, arith}
use Rattle.std.specs.Option.{option_copied}
use Rattle.asm_text.specs.Texts.{text_items, with_front}
use Rattle.asm_text.proofs.FaultLines.{text-faultless, text-first}
use Rattle.asm_text.proofs.TextWalk.{ended, paired, refused, rest_items, rest_size, rest_size-shorter, turn}
use Rattle.asm_text.proofs.ReadText.{text-printable, text-size}
use Rattle.asm_text.proofs.texts.read_asm.Goals as goal

pub returns-in-Err-clause-read : goal.returns-in-Err-clause-read
unfolding text_items
returns-in-Err-clause-read c =
    refused c.loop-rest.found.items c.loop-rest.found.lines c.put.new.found.items c.put.new.found.lines c.loop-rest.line
    c.in-Some.behind.now c.cut.result.0.now c.in-Err.fault _ c.cut.ensures.before c.in-Err.ensures
    (ap (λ (r : Option (Bor (List ℕ))). with_front c.loop-rest.found.items c.loop-rest.found.lines
    (rest_items c.loop-rest.line (option_copied r))) (sym c.in-Some.is) ∙ c.loop-rest.invariant.same)

pub returns-in-Err-clause-order : goal.returns-in-Err-clause-order
unfolding text_items
returns-in-Err-clause-order c =
    text-first c.args.text.now c.in-Err.fault
    (refused c.loop-rest.found.items c.loop-rest.found.lines c.put.new.found.items c.put.new.found.lines
    c.loop-rest.line
    c.in-Some.behind.now c.cut.result.0.now c.in-Err.fault _ c.cut.ensures.before c.in-Err.ensures
    (ap (λ (r : Option (Bor (List ℕ))). with_front c.loop-rest.found.items c.loop-rest.found.lines
    (rest_items c.loop-rest.line (option_copied r))) (sym c.in-Some.is) ∙ c.loop-rest.invariant.same))

pub loop-rest-preserved : goal.loop-rest-preserved
loop-rest-preserved c = record {
  same = turn c.loop-rest.found.items c.loop-rest.found.lines c.put.new.found.items c.put.new.found.lines
      c.loop-rest.line c.in-Some.behind.now c.cut.result.0.now
      (option_copied c.cut.result.1) _ c.cut.ensures.before c.cut.ensures.behind c.in_default-put.ensures
      (ap (λ (r : Option (Bor (List ℕ))). with_front c.loop-rest.found.items c.loop-rest.found.lines
      (rest_items c.loop-rest.line (option_copied r))) (sym c.in-Some.is) ∙ c.loop-rest.invariant.same);
  size =
      let shorter = rest_size-shorter c.cut.result.1 _ c.cut.ensures.shorter in
      let is_some = ap (λ (r : Option (Bor (List ℕ))). rest_size (option_copied r)) c.in-Some.is in
      omega (arith, c.loop-rest.invariant.size, is_some, shorter);
}

pub returns-clause-read : goal.returns-clause-read
unfolding text_items
returns-clause-read c = ended c.loop-rest.found.items c.loop-rest.found.lines c.loop-rest.line c.loop-rest.rest _
    c.in_default.is c.loop-rest.invariant.same

pub returns-clause-order : goal.returns-clause-order
unfolding text_items
returns-clause-order c =
    text-faultless c.args.text.now _ _
    (ended c.loop-rest.found.items c.loop-rest.found.lines c.loop-rest.line c.loop-rest.rest _ c.in_default.is
    c.loop-rest.invariant.same)

pub returns-clause-paired : goal.returns-clause-paired
unfolding text_items
returns-clause-paired c =
    paired c.args.text.now _ _
    (ended c.loop-rest.found.items c.loop-rest.found.lines c.loop-rest.line c.loop-rest.rest _ c.in_default.is
    c.loop-rest.invariant.same)

pub returns-clause-printable : goal.returns-clause-printable
unfolding text_items
returns-clause-printable c =
    text-printable c.args.text.now _ _
    (ended c.loop-rest.found.items c.loop-rest.found.lines c.loop-rest.line c.loop-rest.rest _ c.in_default.is
    c.loop-rest.invariant.same)

pub returns-clause-size : goal.returns-clause-size
unfolding text_items
returns-clause-size c =
    text-size c.args.text.now _ _
    (ended c.loop-rest.found.items c.loop-rest.found.lines c.loop-rest.line c.loop-rest.rest _ c.in_default.is
    c.loop-rest.invariant.same)
