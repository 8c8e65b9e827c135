use Rattle.std.proofs.Common.{◌≡◌, ◌∙◌, ℕ, List, None, ap, sym, bytes_eq, rules}
use Rattle.std.proofs.lemmas.Map.Text.{btree_map_updates_str}
use Rattle.asm_items.specs.ItemMeaning.{is_label}
use Rattle.asm_items.specs.LabelMap.{look_up}
use Rattle.asm_items.proofs.FirstLabels.{first_put}
use Rattle.asm_items.proofs.labels.Labels.note.Goals as goal

pub returns-in_ok-insert : goal.returns-in_ok-insert
returns-in_ok-insert c = λ name.
    let free : look_up c.args.self.now c.as_slice-name.result.now ≡ None = search rules in
    let put = btree_map_updates_str c.as_slice-name.result.now c.args.self.now.spots c.insert.new.self _
    c.in_ok-insert.ensures.updates name in
    let first = first_put (look_up c.args.self.now) c.as_slice-name.result.now name c.args.spot free in
    let labelled : is_label name c.args.item.now ≡ bytes_eq c.as_slice-name.result.now name =
    ap (is_label name) c.in-Label.is ∙ ap (λ (bytes : List ℕ). bytes_eq bytes name)
    (sym c.as_slice-name.ensures.value) in
    rw labelled (put ∙ first)
