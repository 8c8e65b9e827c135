use Rattle.std.proofs.Common.{◌∙◌, ap, sym, subst, Option, List, ℕ}
use Rattle.folder_tree.specs.Paths.{path_of}
use Rattle.spike_front.specs.FoundFiles.{IsFound, file_at}
use Rattle.spike_front.proofs.Plans.{ok_as}
use Rattle.spike_front.proofs.file.find_named.Goals as goal

pub returns-clause-told : goal.returns-clause-told
returns-clause-told g c = ok_as c.find_file.result _ _ c.find_file.ensures.told (λ found is t formed told.
    let read = is t formed told in
    let named = ap path_of (sym c.as_bytes.ensures.value) ∙ sym c.read_path.ensures.value ∙ c.in-Ok.is in
    (subst (λ (file : Option (List ℕ)). IsFound c.args.limit file found) (sym (ap (λ r. file_at r t) named)) read.0, read.1))
