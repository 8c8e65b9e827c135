use Rattle.std.proofs.Common.{◌≡◌, ◌∙◌, inl, inr, rules}
use borrow.Author.Tests.{lt-ltb}
use Rattle.folder_tree.specs.Tree.{kind_of}
use Rattle.folder_tree.specs.TreeOps.{kind_row, open_row, release_row}
use Rattle.folder_tree.specs.Laws.{kind_told, open_told, open_row-suits, release_row-suits, file_of-number}
use Rattle.folder_tree.specs.declared.folder.PathKind.TheVariants.{File}
use Rattle.spike_front.proofs.TreeFacts.{refused_told, suits_told, same_files, opened_files, is_open, released_files, released_told, found_of}
use Rattle.spike_front.proofs.file.find_file.Goals as goal

pub returns-in_err-kind-clause-files : goal.returns-in_err-kind-clause-files
returns-in_err-kind-clause-files g c = λ t told. same_files t _ (refused_told t _ (kind_row c.args.path.now) _ (c.in_err-kind.ensures.tree t told))

pub returns-then-ne-clause-files : goal.returns-then-ne-clause-files
returns-then-ne-clause-files g c = λ t told. same_files t _ (kind_told t _ _ _ (c.in_ok-kind.ensures.tree t told)).1

pub returns-in_err-number-clause-files : goal.returns-in_err-number-clause-files
returns-in_err-number-clause-files g c = λ t told.
    let kind = kind_told t _ _ _ (c.in_ok-kind.ensures.tree t told) in
    same_files t _ (refused_told t _ (open_row c.args.path.now) _ (c.in_err-number.ensures.tree t kind.1))

pub returns-in_err-found-clause-files : goal.returns-in_err-found-clause-files
returns-in_err-found-clause-files g c = λ t told.
    let kind = kind_told t _ _ _ (c.in_ok-kind.ensures.tree t told) in
    let opening = open_told t _ _ _ (c.in_ok-number.ensures.tree t kind.1) in
    opened_files t _ _ (c.in_err-found.ensures.tree _ opening.1)

pub returns-in_err-release-clause-files : goal.returns-in_err-release-clause-files
returns-in_err-release-clause-files g c = λ t told.
    let kind = kind_told t _ _ _ (c.in_ok-kind.ensures.tree t told) in
    let opening = open_told t _ _ _ (c.in_ok-number.ensures.tree t kind.1) in
    let read = c.in_ok-found.ensures.tree _ opening.1 in
    opened_files t _ _ (refused_told _ _ (release_row c.in_ok-number.number) _ (c.in_err-release.ensures.tree _ read))

pub returns-clause-files : goal.returns-clause-files
returns-clause-files g c = λ t told.
    let kind = kind_told t _ _ _ (c.in_ok-kind.ensures.tree t told) in
    let opening = open_told t _ _ _ (c.in_ok-number.ensures.tree t kind.1) in
    let read = c.in_ok-found.ensures.tree _ opening.1 in
    released_files t _ _ _ opening.0 (c.in_ok-release.ensures.tree _ read)

pub returns-clause-told : goal.returns-clause-told
returns-clause-told g c = λ t formed told.
    let kind = kind_told t _ _ _ (c.in_ok-kind.ensures.tree t told) in
    let opening = open_told t _ _ _ (c.in_ok-number.ensures.tree t kind.1) in
    let read = c.in_ok-found.ensures.tree _ opening.1 in (
      found_of c.args.limit _ _ _ (file_of-number t _ _ opening.0) (c.in_ok-found.ensures.told _ opening.1),
      released_told t _ _ _ formed opening.0 (c.in_ok-release.ensures.tree _ read),
    )

pub returns-in_err-found-clause-steady : goal.returns-in_err-found-clause-steady
returns-in_err-found-clause-steady g c = λ t told steady.
    let kind = kind_told t _ _ _ (c.in_ok-kind.ensures.tree t told) in
    let is_file : kind_of t c.args.path.now ≡ File = kind.0 ∙ search rules in
    let kept = c.in_ok-kind.ensures.steady steady (suits_told t _ (kind_row c.args.path.now) told (search rules)) in
    let opening = open_told t _ _ _ (c.in_ok-number.ensures.tree t kind.1) in
    let still = c.in_ok-number.ensures.steady kept.steady (suits_told t _ (open_row c.args.path.now) kind.1 (open_row-suits t c.args.path.now is_file)) in
    let last = c.in_err-found.ensures.steady _ opening.1 still.steady (lt-ltb _ _ (is_open t _)) in
    search rules

pub returns-in_err-release-clause-steady : goal.returns-in_err-release-clause-steady
returns-in_err-release-clause-steady g c = λ t told steady.
    let kind = kind_told t _ _ _ (c.in_ok-kind.ensures.tree t told) in
    let is_file : kind_of t c.args.path.now ≡ File = kind.0 ∙ search rules in
    let kept = c.in_ok-kind.ensures.steady steady (suits_told t _ (kind_row c.args.path.now) told (search rules)) in
    let opening = open_told t _ _ _ (c.in_ok-number.ensures.tree t kind.1) in
    let still = c.in_ok-number.ensures.steady kept.steady (suits_told t _ (open_row c.args.path.now) kind.1 (open_row-suits t c.args.path.now is_file)) in
    let read = c.in_ok-found.ensures.tree _ opening.1 in
    let on = c.in_ok-found.ensures.steady _ opening.1 still.steady (lt-ltb _ _ (is_open t _)) in
    let last = c.in_err-release.ensures.steady on.1 (suits_told _ _ (release_row _) read (release_row-suits _ _ (is_open t _))) in
    search rules

pub returns-in_err-kind-clause-opens : goal.returns-in_err-kind-clause-opens
returns-in_err-kind-clause-opens g c = λ t formed told. inl (refused_told t _ (kind_row c.args.path.now) _ (c.in_err-kind.ensures.tree t told))

pub returns-then-ne-clause-opens : goal.returns-then-ne-clause-opens
returns-then-ne-clause-opens g c = λ t formed told. inl (kind_told t _ _ _ (c.in_ok-kind.ensures.tree t told)).1

pub returns-in_err-number-clause-opens : goal.returns-in_err-number-clause-opens
returns-in_err-number-clause-opens g c = λ t formed told.
    let kind = kind_told t _ _ _ (c.in_ok-kind.ensures.tree t told) in
    inl (refused_told t _ (open_row c.args.path.now) _ (c.in_err-number.ensures.tree t kind.1))

pub returns-in_err-found-clause-opens : goal.returns-in_err-found-clause-opens
returns-in_err-found-clause-opens g c = λ t formed told.
    let kind = kind_told t _ _ _ (c.in_ok-kind.ensures.tree t told) in
    let opening = open_told t _ _ _ (c.in_ok-number.ensures.tree t kind.1) in
    inr (c.args.path.now, c.in_ok-number.number, opening.0, c.in_err-found.ensures.tree _ opening.1)

pub returns-in_err-release-clause-opens : goal.returns-in_err-release-clause-opens
returns-in_err-release-clause-opens g c = λ t formed told.
    let kind = kind_told t _ _ _ (c.in_ok-kind.ensures.tree t told) in
    let opening = open_told t _ _ _ (c.in_ok-number.ensures.tree t kind.1) in
    let read = c.in_ok-found.ensures.tree _ opening.1 in
    inr (c.args.path.now, c.in_ok-number.number, opening.0, refused_told _ _ (release_row c.in_ok-number.number) _ (c.in_err-release.ensures.tree _ read))

pub returns-clause-opens : goal.returns-clause-opens
returns-clause-opens g c = λ t formed told.
    let kind = kind_told t _ _ _ (c.in_ok-kind.ensures.tree t told) in
    let opening = open_told t _ _ _ (c.in_ok-number.ensures.tree t kind.1) in
    let read = c.in_ok-found.ensures.tree _ opening.1 in
    inl (released_told t _ _ _ formed opening.0 (c.in_ok-release.ensures.tree _ read))
