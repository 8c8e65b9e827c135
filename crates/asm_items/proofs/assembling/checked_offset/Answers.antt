use Rattle.std.proofs.Common.{ℤ, Some, ap, refl, arith}
use Rattle.std.proofs.lemmas.Int.{ints}
use Rattle.asm_items.specs.ItemMeaning.{offset}
use Rattle.asm_items.proofs.Offsets.{is_within_high, is_within_true}
use Rattle.asm_items.proofs.assembling.checked_offset.Goals as goal

pub returns-then-offset-from-2-clause-value : goal.returns-then-offset-from-2-clause-value
returns-then-offset-from-2-clause-value c =
    rw (is_within_high c.args.least c.args.greatest (offset c.args.here.base c.args.here.place c.args.target)
    (omega (arith, ints))) refl

pub returns-clause-value : goal.returns-clause-value
returns-clause-value c =
    rw (is_within_true c.args.least c.args.greatest (offset c.args.here.base c.args.here.place c.args.target)
    (omega (arith, ints)) (omega (arith, ints)))
    (ap (λ (z : ℤ). Some z) (omega (arith, ints)))
