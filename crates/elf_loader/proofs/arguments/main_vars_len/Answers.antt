use Rattle.std.proofs.Common.{◌≡◌, ◌∙◌, sym, arith}
use Rattle.std.proofs.lemmas.Grind.{common_steps}
use Rattle.fe_base.specs.WordLists.{main_vars_length}
use Rattle.elf_loader.proofs.Texts.{strings_length-drop, length-main_vars_text}
use Rattle.elf_loader.proofs.arguments.main_vars_len.Goals as goal

pub overflow_add-length-in-loop-i-2 : goal.overflow_add-length-in-loop-i-2
overflow_add-length-in-loop-i-2 c =
    omega (
      arith,
      strings_length-drop c.args.args.now c.loop-i.i c.word.result.now c.word.ensures,
      c.loop-i.invariant,
      c.len.ensures.fits,
    )

pub loop-i-preserved : goal.loop-i-preserved
loop-i-preserved c = omega (arith, strings_length-drop c.args.args.now c.loop-i.i c.word.result.now c.word.ensures)

pub returns-clause-text : goal.returns-clause-text
returns-clause-text c =
    let counted : c.loop-i.length ≡ main_vars_length c.args.args.now = grind (arith, common_steps) in
    λ base. counted ∙ sym (length-main_vars_text c.args.args.now base)
