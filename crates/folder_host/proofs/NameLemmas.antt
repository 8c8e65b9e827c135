-- The name before a slash leads out no more than the whole.
use Rattle.std.proofs.Common.{◌≡◌, ℕ, zero, suc, ◌<◌, ◌==◌, ◌||◌, Bool, true, false, List, [], ◌∷◌, ◌++◌, length}
use Rattle.std.proofs.Common.{get_or}
use Rattle.std.proofs.Common.{take, drop, refl, ap, sym, ◌∙◌, arith}
use Rattle.std.specs.List.{list_any, onto_first}
use Rattle.std.proofs.Math.Seq.{take-nil}
use Rattle.std.proofs.lemmas.List.Folds.{list_any-append}
use Rattle.std.proofs.lemmas.List.Splits.{slice_split-cons_yes, slice_split-cons_no}
use Rattle.folder_tree.specs.Paths.{climbs, is_absolute, is_parent, leads_out, pieces_of}
use Rattle.folder_tree.proofs.PathLemmas.{some_pieces}

onto_first-append : (byte : ℕ) (first second : List (List ℕ)) → (first ≡ [] → ⊥)
    → onto_first byte (first ++ second) ≡ onto_first byte first ++ second
onto_first-append byte [] second some = absurd (some refl)
onto_first-append byte (piece ∷ pieces) second some = refl

-- a slash cuts the pieces of a text
cut_pieces : (text : List ℕ) (end : ℕ) → end < length text → get_or text end 0 ≡ 47
    → pieces_of text ≡ pieces_of (take end text) ++ pieces_of (drop (suc end) text)
cut_pieces [] end within is = absurd (omega arith)
cut_pieces (byte ∷ text) zero within is = slice_split-cons_yes (λ b. b == 47) byte text (ap (λ (b : ℕ). b == 47) is)
cut_pieces (byte ∷ text) (suc end) within is =
    let behind : List (List ℕ) = pieces_of (drop (suc end) text) in
    let rest : pieces_of text ≡ pieces_of (take end text) ++ behind = cut_pieces text end (omega arith) is in
    elim (byte == 47)
    as (λ b. (byte == 47) ≡ b → pieces_of (byte ∷ text) ≡ pieces_of (byte ∷ take end text) ++ behind) [
      | true ↦ λ slash. slice_split-cons_yes (λ b. b == 47) byte text slash ∙ ap (λ ps. [] ∷ ps) rest
          ∙ ap (λ ps. ps ++ behind) (sym (slice_split-cons_yes (λ b. b == 47) byte (take end text) slash))
      | false ↦ λ other. slice_split-cons_no (λ b. b == 47) byte text other ∙ ap (onto_first byte) rest
          ∙ onto_first-append byte (pieces_of (take end text)) behind (some_pieces (take end text))
          ∙ ap (λ ps. ps ++ behind) (sym (slice_split-cons_no (λ b. b == 47) byte (take end text) other))
    ] refl

neither : (a b : Bool) → (a || b) ≡ false → (a ≡ false) × (b ≡ false)
neither true b h = cc
neither false b h = (refl, h)

relative_front : (text : List ℕ) (end : ℕ) → is_absolute text ≡ false → is_absolute (take end text) ≡ false
relative_front [] end relative = ap is_absolute (take-nil {A = ℕ} end)
relative_front (byte ∷ text) zero relative = refl
relative_front (byte ∷ text) (suc end) relative = relative

pub inside_front : (text : List ℕ) (end : ℕ) → end < length text → get_or text end 0 ≡ 47 → leads_out text ≡ false
    → leads_out (take end text) ≡ false
inside_front text end within is inside =
    let whole = neither (is_absolute text) (climbs text) inside in
    let parts = list_any-append is_parent (pieces_of (take end text)) (pieces_of (drop (suc end) text)) in
    let cut = sym (ap (list_any is_parent) (cut_pieces text end within is) ∙ parts) ∙ whole.1 in
    let front = neither (climbs (take end text)) (climbs (drop (suc end) text)) cut in
    ap (λ b. b || climbs (take end text)) (relative_front text end whole.0) ∙ front.0
