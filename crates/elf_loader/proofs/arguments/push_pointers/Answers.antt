use Rattle.std.proofs.Common.{arith}
use Rattle.elf_loader.proofs.Texts.{strings_length-drop, pointers_preserved}
use Rattle.elf_loader.proofs.arguments.push_pointers.Goals as goal

pub overflow_add-at-in-loop-i : goal.overflow_add-at-in-loop-i
overflow_add-at-in-loop-i c =
    omega (arith, strings_length-drop c.args.args.now c.loop-i.i c.word.result.now c.word.ensures, c.loop-i.invariant.1)

pub loop-i-preserved : goal.loop-i-preserved
loop-i-preserved c = (
  pointers_preserved c.args.args.now c.loop-i.i c.loop-i.at c.word.result.now _ _ _ c.word.ensures
      (c.in_ok-push_dword.ensures) c.loop-i.invariant.0,
  omega (arith, strings_length-drop c.args.args.now c.loop-i.i c.word.result.now c.word.ensures, c.loop-i.invariant.1),
)
