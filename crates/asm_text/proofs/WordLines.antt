-- Lines of a mnemonic alone, and lines of a label.
use Rattle.std.proofs.Common.{◌≡◌, ℕ, Bool, true, false, ◌||◌, ◌==◌, cond, List, [], ◌∷◌, ◌++◌, Option, Some, None}
use Rattle.std.proofs.Common.{Result, Ok, refl, ap, ◌∙◌, arith}
use Rattle.std.proofs.lemmas.Bool.Decides.{nat_tests}
use Rattle.std.specs.List.{list_all, list_any}
use Rattle.asm_items.specs.Names.{is_name}
use Rattle.asm_items.specs.declared.item.Item.{Item}
use Rattle.asm_items.specs.declared.item.Item.TheVariants as item
use Rattle.asm_text.specs.declared.layout.At.TheVariants.{Outside}
use Rattle.asm_text.specs.declared.fault.TextKind.{TextKind}
use Rattle.asm_table.specs.declared.mnemonics.Op.{Op}
use Rattle.asm_table.specs.Cuts.{behind}
use Rattle.asm_text.specs.Layout.{bare, drop_while, is_blank, without_comment, without_end}
use Rattle.asm_text.specs.Pieces.{◌>>=◌, name}
use Rattle.asm_text.specs.Reading.{bare_item, is_high, item_named, item_of, labelled, line_item, some_item, worded}
use Rattle.asm_table.specs.Table.{op_of}
use Rattle.asm_text.proofs.Cleanly.{and_first, and_second, before-all, behind-none, differs}
use Rattle.asm_text.proofs.Forms.{is_clean}
use Rattle.asm_text.proofs.LineLemmas.{all-append, clean-end, clean-not-blank, clean-plain, finish, is_plain, kept-end}
use Rattle.asm_text.proofs.LineLemmas.{plain-comment, plain-end, plain-low}
use Rattle.asm_text.proofs.Written.{last-is, name-piece, without-it}

-- a line of a mnemonic alone
pub word-item : (n : ℕ) (ns : List ℕ) (op : Op) (item : Item) → list_all is_clean (n ∷ ns) ≡ true →
    op_of (n ∷ ns) ≡ Some op →
    item_of op None ≡ Ok item → line_item (32 ∷ 32 ∷ 32 ∷ 32 ∷ n ∷ ns) ≡ Ok (Some item)
unfolding line_item bare
word-item n ns op item clean is_op is_item =
    let plain : list_all is_plain (n ∷ ns) ≡ true = clean-plain (n ∷ ns) clean in
    let skipped : drop_while is_blank (n ∷ ns) ≡ n ∷ ns =
    rw (clean-not-blank n (and_first (is_clean n) (list_all is_clean ns) clean)) refl in
    let is_bare : bare (32 ∷ 32 ∷ 32 ∷ 32 ∷ n ∷ ns) ≡ n ∷ ns =
    ap (λ (xs : List ℕ). without_end (drop_while is_blank xs)) (plain-comment (32 ∷ 32 ∷ 32 ∷ 32 ∷ n ∷ ns) plain)
    ∙ ap without_end skipped ∙ clean-end n ns clean in
    let is_worded : worded (n ∷ ns) ≡ Ok item =
    ap (λ (w : List ℕ). item_named w (op_of w) (behind 32 (n ∷ ns))) (before-all is_clean 32 (n ∷ ns) refl clean)
    ∙ ap (λ (b : Option (List ℕ)). item_named (n ∷ ns) (op_of (n ∷ ns)) b) (behind-none is_clean 32 (n ∷ ns) refl clean)
    ∙ ap (λ (found : Option Op). item_named (n ∷ ns) found None) is_op
    ∙ is_item in
    let is_bare_item : bare_item (n ∷ ns) ≡ Ok (Some item) =
    ap (λ (b : Bool). cond b (labelled (n ∷ ns)) (some_item (worded (n ∷ ns)))) (plain-end n ns plain)
    ∙ ap some_item is_worded in
    ap (λ (w : List ℕ). finish (list_any is_high (32 ∷ 32 ∷ 32 ∷ 32 ∷ n ∷ ns)) (bare_item w)) is_bare
    ∙ ap (λ (found : Result (Option Item) TextKind). finish (list_any is_high (32 ∷ 32 ∷ 32 ∷ 32 ∷ n ∷ ns)) found)
    is_bare_item
    ∙ ap (λ (high : Bool). finish high (Ok (Some item))) (plain-low (32 ∷ 32 ∷ 32 ∷ 32 ∷ n ∷ ns) plain)

-- a byte of a label's line
is_label_byte : ℕ → Bool
is_label_byte byte = is_clean byte || byte == 58

hash : is_label_byte 35 ≡ false
unfolding is_label_byte
hash = refl

quote : is_label_byte 34 ≡ false
unfolding is_label_byte
quote = refl

abbrev to_label : Result (List ℕ) TextKind → Result (Option Item) TextKind
to_label found = do
  x ← found
  Ok (Some (item.Label x))

clean-label : (bytes : List ℕ) → list_all is_clean bytes ≡ true → list_all is_label_byte bytes ≡ true
unfolding is_label_byte
clean-label [] h = refl
clean-label (byte ∷ bytes) h =
    rw (and_first (is_clean byte) (list_all is_clean bytes) h)
    (clean-label bytes (and_second (is_clean byte) (list_all is_clean bytes) h))

label-comment : (line : List ℕ) → list_all is_label_byte line ≡ true → without_comment Outside line ≡ line
label-comment [] h = refl
label-comment (byte ∷ line) h =
    let passes = and_first (is_label_byte byte) (list_all is_label_byte line) h in
    rw (differs is_label_byte 35 byte hash passes, differs is_label_byte 34 byte quote passes)
    (ap (λ (xs : List ℕ). byte ∷ xs)
    (label-comment line (and_second (is_label_byte byte) (list_all is_label_byte line) h)))

label-high : (byte : ℕ) → is_label_byte byte ≡ true → is_high byte ≡ false
unfolding is_label_byte
label-high byte h = grind (arith, nat_tests)

label-low : (line : List ℕ) → list_all is_label_byte line ≡ true → list_any is_high line ≡ false
label-low [] h = refl
label-low (byte ∷ line) h =
    rw (label-high byte (and_first (is_label_byte byte) (list_all is_label_byte line) h))
    (label-low line (and_second (is_label_byte byte) (list_all is_label_byte line) h))

-- a line of a label
label-item : (n : ℕ) (ns : List ℕ) → is_name (n ∷ ns) ≡ true →
    line_item (n ∷ ns ++ 58 ∷ []) ≡ Ok (Some (item.Label (n ∷ ns)))
unfolding line_item bare is_label_byte
label-item n ns h =
    let s = name-piece (n ∷ ns) h in
    let clean : list_all is_clean (n ∷ ns) ≡ true = s.piece.clean in
    let all : list_all is_label_byte (n ∷ ns ++ 58 ∷ []) ≡ true =
    all-append is_label_byte (n ∷ ns) (58 ∷ []) (clean-label (n ∷ ns) clean) refl in
    let skipped : drop_while is_blank (n ∷ ns ++ 58 ∷ []) ≡ n ∷ ns ++ 58 ∷ [] =
    rw (clean-not-blank n (and_first (is_clean n) (list_all is_clean ns) clean)) refl in
    let is_bare : bare (n ∷ ns ++ 58 ∷ []) ≡ n ∷ ns ++ 58 ∷ [] =
    ap (λ (xs : List ℕ). without_end (drop_while is_blank xs)) (label-comment (n ∷ ns ++ 58 ∷ []) all)
    ∙ ap without_end skipped ∙ kept-end (n ∷ ns) 58 [] refl in
    let is_labelled : labelled (n ∷ ns ++ 58 ∷ []) ≡ Ok (Some (item.Label (n ∷ ns))) =
    ap (λ (w : List ℕ). to_label (name w)) (without-it (n ∷ ns) 58) ∙ ap to_label s.reads in
    let is_bare_item : bare_item (n ∷ ns ++ 58 ∷ []) ≡ Ok (Some (item.Label (n ∷ ns))) =
    ap (λ (b : Bool). cond b (labelled (n ∷ ns ++ 58 ∷ [])) (some_item (worded (n ∷ ns ++ 58 ∷ []))))
    (last-is (n ∷ ns) 58)
    ∙ is_labelled in
    ap (λ (w : List ℕ). finish (list_any is_high (n ∷ ns ++ 58 ∷ [])) (bare_item w)) is_bare
    ∙ ap (λ (found : Result (Option Item) TextKind). finish (list_any is_high (n ∷ ns ++ 58 ∷ [])) found) is_bare_item
    ∙ ap (λ (high : Bool). finish high (Ok (Some (item.Label (n ∷ ns))))) (label-low (n ∷ ns ++ 58 ∷ []) all)

pub label-back : (bytes : List ℕ) → is_name bytes ≡ true → line_item (bytes ++ 58 ∷ []) ≡ Ok (Some (item.Label bytes))
label-back [] h = absurd (omega (arith, (name-piece [] h).piece.there))
label-back (n ∷ ns) h = label-item n ns h
