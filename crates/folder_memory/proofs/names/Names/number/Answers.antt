use Rattle.std.proofs.Common.{◌≡◌, None, ◌∙◌, rules}
use Rattle.folder_memory.specs.Names.{names_tree}
use Rattle.folder_memory.proofs.StandingLemmas.{found-number, none-number}
use Rattle.folder_memory.proofs.names.Names.number.Goals as goal

pub returns-in_err-stood : goal.returns-in_err-stood
returns-in_err-stood c =
    let none : c.from_residual.result ≡ None = search rules in
    none ∙ none-number (names_tree c.args.self.now) c.as_str.result.now c.args.path.now c.standing.result c.requires
    c.as_str.ensures.parts c.standing.ensures (search rules)

pub returns : goal.returns
returns c =
    c.number.ensures
    ∙ found-number (names_tree c.args.self.now) c.as_str.result.now c.args.path.now c.standing.result
    c.in_ok-stood.stood c.requires c.as_str.ensures.parts c.standing.ensures c.in_ok-stood.was
