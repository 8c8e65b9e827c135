use Rattle.std.proofs.Common.{◌≤◌, length, ap, rules, arith}
use Rattle.std.proofs.lemmas.Grind.{common_steps}
use Rattle.folder_tree.specs.Paths.{path_text}
use Rattle.folder_tree.proofs.PathLemmas.{parts_of-short}
use Rattle.folder_tree.proofs.path.read_path.Goals as goal

pub returns-clause-bound : goal.returns-clause-bound
returns-clause-bound c =
    let small : length c.in-Some.name.now ≤ 4095 = first_of (search rules, grind (arith, common_steps)) in
    omega (arith, ap (λ parts. length (path_text parts)) c.gather.ensures, parts_of-short c.in-Some.name.now, small)
