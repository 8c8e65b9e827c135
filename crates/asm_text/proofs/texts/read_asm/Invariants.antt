use Rattle.std.proofs.Common.{◌≡◌, ◌+◌, ◌≤◌, length}
use Rattle.std.specs.Option.{option_copied}
use Rattle.asm_text.specs.Layout.{lines_of}
use Rattle.asm_text.specs.Texts.{lines_from, with_front}
use Rattle.asm_text.proofs.TextWalk.{rest_items, rest_size}
use Rattle.asm_text.proofs.texts.read_asm.Given as goal

abbrev pub invariant-loop-rest : goal.invariant-loop-rest
invariant-loop-rest l = record {
  same : with_front l.found.items l.found.lines (rest_items l.line (option_copied l.rest)) ≡ lines_from 1
      (lines_of l.text);
  size : l.line + rest_size (option_copied l.rest) ≤ length l.text + 2;
}

abbrev pub decreases-loop-rest : goal.decreases-loop-rest
decreases-loop-rest l = rest_size (option_copied l.rest)
