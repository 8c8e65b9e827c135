use Rattle.std.proofs.Common.{◌≡◌, ◌∙◌, ap, length, arith}
use Rattle.std.proofs.lemmas.Grind.{common_steps}
use Rattle.elf_loader.specs.MainVars.{main_vars_text}
use Rattle.elf_loader.proofs.Texts.{length-main_vars_text}
use Rattle.elf_loader.proofs.arguments.main_vars.Goals as goal

pub returns-clause-len : goal.returns-clause-len
returns-clause-len c =
    let text : c.push_texts.new.bytes ≡ main_vars_text c.args.args.now c.args.base = grind (arith, common_steps) in
    ap length text ∙ length-main_vars_text c.args.args.now c.args.base
