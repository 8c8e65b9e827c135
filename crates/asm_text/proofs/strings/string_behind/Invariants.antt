use Rattle.std.proofs.Common.{◌≡◌, false, drop}
use Rattle.asm_text.specs.Pieces.{short, string_rest, with_front}
use Rattle.asm_text.proofs.strings.string_behind.Given as goal

abbrev pub invariant-loop-i : goal.invariant-loop-i
invariant-loop-i l = short (string_rest false l.rest) ≡ short
    (with_front l.held.items (string_rest l.after_backslash (drop l.i l.rest)))
