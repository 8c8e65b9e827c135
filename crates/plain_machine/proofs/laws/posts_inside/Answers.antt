use Rattle.std.proofs.Common.{refl}
use Rattle.plain_machine.proofs.Parts.{posts-inside}
use Rattle.plain_machine.proofs.laws.posts_inside.Goals as goal

pub returns : goal.returns
returns c = λ registers user program_break first_break words fits e given. posts-inside registers user program_break first_break _ refl fits words e given
