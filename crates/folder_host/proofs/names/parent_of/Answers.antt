use Rattle.std.proofs.Common.{◌≡◌, false, take, sym, subst, List, ℕ, rules, arith}
use Rattle.std.proofs.lemmas.Str.Pattern.{rfind_char}
use Rattle.folder_tree.specs.Paths.{leads_out}
use Rattle.folder_host.proofs.NameLemmas.{inside_front}
use Rattle.folder_host.proofs.names.parent_of.Goals as goal

pub returns-in-Some : goal.returns-in-Some
returns-in-Some c =
    let found = rw c.in-Some.is at (rfind_char 47 c.args.name.now c.rfind.result c.rfind.ensures.cases (omega arith)) in
    let same : c.range.result.now ≡ take c.in-Some.end c.args.name.now = first_of (search rules, grind arith) in
    subst (λ (name : List ℕ). leads_out name ≡ false) (sym same)
    (inside_front c.args.name.now c.in-Some.end found.0 found.1 c.requires)
