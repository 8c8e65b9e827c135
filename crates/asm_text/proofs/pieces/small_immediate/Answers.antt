use Rattle.std.proofs.Common.{ℤ, Result, Ok, ap, ◌∙◌, arith}
use Rattle.std.proofs.lemmas.Int.{ints}
use Rattle.asm_text.specs.declared.fault.TextKind.{TextKind}
use Rattle.asm_text.proofs.pieces.small_immediate.Goals as goal

abbrev ok : ℤ → Result ℤ TextKind
ok z = Ok z

pub returns-in-Ok : goal.returns-in-Ok
returns-in-Ok c = ap (λ (z : ℤ). ok z) (omega (arith, ints, c.in-Ok.ensures.bounds.0, c.in-Ok.ensures.bounds.1))
    ∙ c.in-Ok.ensures.value
