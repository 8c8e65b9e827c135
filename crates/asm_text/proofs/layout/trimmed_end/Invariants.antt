use Rattle.std.proofs.Common.{◌≡◌, length}
use Rattle.asm_text.specs.Layout.{without_end}
use Rattle.asm_text.proofs.layout.trimmed_end.Given as goal

abbrev pub invariant-loop-rest : goal.invariant-loop-rest
invariant-loop-rest l = without_end l.text ≡ without_end l.rest

abbrev pub decreases-loop-rest : goal.decreases-loop-rest
decreases-loop-rest l = length l.rest
