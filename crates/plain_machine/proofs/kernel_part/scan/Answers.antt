use Rattle.std.proofs.Common.{◌≤◌, ◌∙◌, false, ap, refl, arith, Some}
use Rattle.std.proofs.lemmas.Bool.{ne_eqb}
use Rattle.plain_machine.specs.KernelPart.{greatest_path}
use Rattle.plain_machine.proofs.Parts.{leaves-at, ends-at, on-at, long-at}
use Rattle.plain_machine.proofs.kernel_part.scan.Goals as goal

pub returns-in-None : goal.returns-in-None
returns-in-None c =
    leaves-at c.args.cpu.now.user c.args.path c.loop-from.from greatest_path _ c.loop-from-test.true refl c.loop-from.invariant.rest c.byte.result c.byte.ensures.outside c.byte.ensures.inside c.in-None.is

pub returns-in-Some-eq0 : goal.returns-in-Some-eq0
returns-in-Some-eq0 c =
    ends-at c.args.cpu.now.user c.args.path c.loop-from.from greatest_path _ c.loop-from-test.true refl c.loop-from.invariant.rest c.byte.result c.byte.ensures.outside c.byte.ensures.inside
    (c.in-Some-eq0.is ∙ ap Some c.in-Some-eq0.field-0-test)

pub loop-from-preserved : goal.loop-from-preserved
loop-from-preserved c = record {
  within = omega (arith, c.loop-from-test.true);
  rest = on-at c.args.cpu.now.user c.args.path c.loop-from.from greatest_path _ c.loop-from-test.true refl c.loop-from.invariant.rest c.byte.result c.byte.ensures.outside c.byte.ensures.inside
      c.in-Some.field-0 c.in-Some.is (ne_eqb c.in-Some.field-0 0 c.in-Some.field-0-test.1);
}

pub returns : goal.returns
returns c =
    let past : greatest_path ≤ c.loop-from.from = omega (arith, c.loop-from-test.false) in
    long-at c.args.cpu.now.user c.args.path c.loop-from.from greatest_path past c.loop-from.invariant.rest
