use Rattle.std.proofs.Common.{◌≡◌, take, subst, arith, List, ℕ, rules, sym}
use Rattle.std.proofs.lemmas.Str.Pattern.{rfind_char}
use Rattle.folder_tree.specs.Paths.{parts_of}
use Rattle.folder_memory.specs.Names.{IsLast, IsPathText}
use Rattle.folder_memory.proofs.StandingLemmas.{IsAbove-found, IsAbove-none}
use Rattle.folder_memory.proofs.names.text_above.Goals as goal

pub returns-in-Some-clause-path : goal.returns-in-Some-clause-path
returns-in-Some-clause-path c =
    let above = IsAbove-found c.args.text.now c.rfind.result c.in-Some.end
    (rfind_char 47 c.args.text.now c.rfind.result c.rfind.ensures.cases (omega arith)) c.in-Some.is
    c.requires.path in
    let same : c.range.result.now ≡ take c.in-Some.end c.args.text.now = first_of (search rules, grind arith) in
    subst IsPathText (sym same) above.path

pub returns-in-Some-clause-last : goal.returns-in-Some-clause-last
returns-in-Some-clause-last c =
    let above = IsAbove-found c.args.text.now c.rfind.result c.in-Some.end
    (rfind_char 47 c.args.text.now c.rfind.result c.rfind.ensures.cases (omega arith)) c.in-Some.is
    c.requires.path in
    let same : c.range.result.now ≡ take c.in-Some.end c.args.text.now = first_of (search rules, grind arith) in
    let P : List ℕ → Type 0 = λ t. IsLast (parts_of c.args.text.now) (parts_of t) in subst P (sym same) above.last

pub returns-in-None-clause-last : goal.returns-in-None-clause-last
returns-in-None-clause-last c =
    (IsAbove-none c.args.text.now c.rfind.result (rfind_char 47 c.args.text.now c.rfind.result c.rfind.ensures.cases
    (omega arith)) c.in-None.is c.requires.path c.requires.parts).last
