-- A line of a text between quotes.
use Rattle.std.proofs.Common.{◌≡◌, ℕ, ◌≤◌, inl, inr, Bool, true, false, ◌||◌, ◌==◌, cond, List, [], ◌∷◌}
use Rattle.std.proofs.Common.{◌++◌, length, Option, Some, Result, Ok, refl, sym, ap, ◌∙◌, subst, append_assoc}
use Rattle.std.proofs.Common.{arith}
use Rattle.std.proofs.lemmas.Bool.{cases_eq}
use Rattle.std.proofs.lemmas.Bool.Decides.{nat_tests}
use Rattle.std.proofs.lemmas.Grind.{common_steps}
use Rattle.std.specs.List.{flat_map, list_all, list_any}
use Rattle.asm_items.specs.declared.item.Item.{Item}
use Rattle.asm_items.specs.declared.item.Item.TheVariants as item
use Rattle.asm_text.specs.declared.layout.At.TheVariants.{Outside, Inside}
use Rattle.asm_text.specs.declared.fault.TextKind.{TextKind}
use Rattle.asm_text.specs.declared.fault.TextKind.TheVariants.{BadLine}
use Rattle.asm_text.specs.declared.strings.Step.{Step}
use Rattle.asm_text.specs.declared.strings.Step.TheVariants.{Add}
use Rattle.asm_table.specs.declared.mnemonics.Op.{Op}
use Rattle.asm_table.specs.declared.mnemonics.Op.TheVariants as op
use Rattle.asm_table.specs.Cuts.{behind}
use Rattle.asm_text.specs.Layout.{bare, drop_while, ends_with, is_blank, without_comment, without_end}
use Rattle.asm_text.specs.Pieces.{◌>>=◌, is_printable, or_fault, short, string_rest, string_step, text}
use Rattle.asm_text.specs.Pieces.{with_front}
use Rattle.asm_items.specs.Printable.{is_text_byte}
use Rattle.asm_text.specs.Printing.{escaped, words}
use Rattle.asm_text.specs.Reading.{bare_item, is_high, item_named, item_of, labelled, line_item, some_item, worded}
use Rattle.asm_table.specs.Table.{op_of}
use Rattle.asm_text.proofs.Back.{is_line_byte, IsLine, plain-line}
use Rattle.asm_text.proofs.Cleanly.{and_first, and_second, before-stop, behind-stop, differs}
use Rattle.asm_text.proofs.Forms.{is_clean}
use Rattle.asm_text.proofs.LineLemmas.{all-append, clean-not-blank, clean-plain, finish, is_plain, kept-end}
use Rattle.asm_text.proofs.RoundTrip.{first-of-word, name-word}
use Rattle.asm_text.proofs.StringLemmas.{stepped}

record IsOther (byte : ℕ) : Type 0 where
  no_line : (byte == 10) ≡ false
  no_quote : (byte == 34) ≡ false
  no_backslash : (byte == 92) ≡ false

other : (byte : ℕ) → (byte ≡ 10 → ⊥) → (byte ≡ 34 → ⊥) → (byte ≡ 92 → ⊥) → IsOther byte
other byte a b c = record {
  no_line = grind (arith, nat_tests);
  no_quote = grind (arith, nat_tests);
  no_backslash =
      grind (arith, nat_tests);
}

-- a fact of a written byte holds if it holds of the three that are escaped and of each other one
by_byte : (P : ℕ → Type 0) → P 10 → P 34 → P 92 → ((byte : ℕ) → IsOther byte → P byte) → (byte : ℕ) → P byte
by_byte P a b c rest byte = elim (cases_eq byte 10) [
  | inl e ↦ subst P (sym e) a
  | inr n ↦ elim (cases_eq byte 34) [
    | inl e ↦ subst P (sym e) b
    | inr m ↦ elim (cases_eq byte 92) [ inl e ↦ subst P (sym e) c | inr k ↦ rest byte (other byte n m k) ]
  ]
]

escaped-other : (byte : ℕ) → IsOther byte → escaped byte ≡ byte ∷ []
escaped-other byte o = rw (o.no_line, o.no_quote, o.no_backslash) refl

-- a written byte has no comment
comment-byte : (byte : ℕ) → (rest : List ℕ) →
    without_comment Inside (escaped byte ++ rest) ≡ escaped byte ++ without_comment Inside rest
comment-byte = by_byte (λ byte. (rest : List ℕ) →
    without_comment Inside (escaped byte ++ rest) ≡ escaped byte ++ without_comment Inside rest)
    (λ rest. refl) (λ rest. refl) (λ rest. refl)
    (λ byte o rest. rw (escaped-other byte o) (rw (o.no_quote, o.no_backslash) refl))

comment-text : (bytes : List ℕ) →
    without_comment Inside (flat_map escaped bytes ++ 34 ∷ []) ≡ flat_map escaped bytes ++ 34 ∷ []
comment-text [] = refl
comment-text (byte ∷ bytes) =
    ap (λ (xs : List ℕ). without_comment Inside xs) (append_assoc (escaped byte) (flat_map escaped bytes) (34 ∷ []))
    ∙ comment-byte byte (flat_map escaped bytes ++ 34 ∷ [])
    ∙ ap (λ (xs : List ℕ). escaped byte ++ xs) (comment-text bytes)
    ∙ sym (append_assoc (escaped byte) (flat_map escaped bytes) (34 ∷ []))

-- a written byte is read as it
or-right : (a b : Bool) → (a || b) ≡ true → b ≡ false → a ≡ true
or-right true b h k = refl
or-right false b h k = sym k ∙ h

step-other : (byte : ℕ) → IsOther byte → is_printable byte ≡ true → string_step false byte ≡ Add byte
step-other byte o h = rw (o.no_quote, o.no_backslash, h) refl

read-byte : (byte : ℕ) → is_text_byte byte ≡ true → (rest : List ℕ) →
    string_rest false (escaped byte ++ rest) ≡ with_front (byte ∷ []) (string_rest false rest)
read-byte = by_byte (λ byte. is_text_byte byte ≡ true → (rest : List ℕ) →
    string_rest false (escaped byte ++ rest) ≡ with_front (byte ∷ []) (string_rest false rest))
    (λ h rest. refl) (λ h rest. refl) (λ h rest. refl)
    (λ byte o h rest.
    ap (λ (xs : List ℕ). string_rest false (xs ++ rest)) (escaped-other byte o)
    ∙ ap (λ (step : Step). stepped step rest)
    (step-other byte o (or-right (is_printable byte) (byte == 10) h o.no_line)))

read-text : (bytes : List ℕ) → list_all is_text_byte bytes ≡ true →
    string_rest false (flat_map escaped bytes ++ 34 ∷ []) ≡ Some bytes
read-text [] h = refl
read-text (byte ∷ bytes) h =
    ap (λ (xs : List ℕ). string_rest false xs) (append_assoc (escaped byte) (flat_map escaped bytes) (34 ∷ []))
    ∙ read-byte byte (and_first (is_text_byte byte) (list_all is_text_byte bytes) h) (flat_map escaped bytes ++ 34 ∷ [])
    ∙ ap (λ (o : Option (List ℕ)). with_front (byte ∷ []) o)
    (read-text bytes (and_second (is_text_byte byte) (list_all is_text_byte bytes) h))

-- and is printable
printable-byte : (byte : ℕ) → is_text_byte byte ≡ true → list_all is_line_byte (escaped byte) ≡ true
printable-byte = by_byte (λ byte. is_text_byte byte ≡ true → list_all is_line_byte (escaped byte) ≡ true)
    (λ h. refl) (λ h. refl) (λ h. refl)
    (λ byte o h. rw (escaped-other byte o) (rw (or-right (is_printable byte) (byte == 10) h o.no_line) refl))

printable-text : (bytes : List ℕ) → list_all is_text_byte bytes ≡ true →
    list_all is_line_byte (flat_map escaped bytes) ≡ true
printable-text [] h = refl
printable-text (byte ∷ bytes) h =
    all-append is_line_byte (escaped byte) (flat_map escaped bytes)
    (printable-byte byte (and_first (is_text_byte byte) (list_all is_text_byte bytes) h))
    (printable-text bytes (and_second (is_text_byte byte) (list_all is_text_byte bytes) h))

-- the part of a line before a string has no comment
comment-front : (front rest : List ℕ) → list_all is_plain front ≡ true →
    without_comment Outside (front ++ rest) ≡ front ++ without_comment Outside rest
comment-front [] rest h = refl
comment-front (byte ∷ front) rest h =
    let passes = and_first (is_plain byte) (list_all is_plain front) h in
    rw (differs is_plain 35 byte refl passes, differs is_plain 34 byte refl passes)
    (ap (λ (xs : List ℕ). byte ∷ xs)
    (comment-front front rest (and_second (is_plain byte) (list_all is_plain front) h)))

low-byte : (byte : ℕ) → is_line_byte byte ≡ true → is_high byte ≡ false
low-byte byte h = grind (arith, nat_tests)

low-line : (line : List ℕ) → list_all is_line_byte line ≡ true → list_any is_high line ≡ false
low-line [] h = refl
low-line (byte ∷ line) h =
    rw (low-byte byte (and_first (is_line_byte byte) (list_all is_line_byte line) h))
    (low-line line (and_second (is_line_byte byte) (list_all is_line_byte line) h))

no-colon : (bytes : List ℕ) → ends_with 58 (bytes ++ 34 ∷ []) ≡ false
no-colon bytes = grind (arith, nat_tests, common_steps)

is-short : (bytes : List ℕ) → length bytes ≤ 1024 → short (Some bytes) ≡ Some bytes
is-short bytes h = grind (arith, nat_tests)

-- a quote, the bytes and a quote
abbrev quoted : List ℕ → List ℕ
quoted bytes = 34 ∷ (flat_map escaped bytes ++ 34 ∷ [])

text-read : (bytes : List ℕ) → length bytes ≤ 1024 → list_all is_text_byte bytes ≡ true → text (quoted bytes) ≡ Ok bytes
text-read bytes fits h =
    ap (λ (o : Option (List ℕ)). or_fault (short o) (quoted bytes) BadLine) (read-text bytes h)
    ∙ ap (λ (o : Option (List ℕ)). or_fault o (quoted bytes) BadLine) (is-short bytes fits)

abbrev to_ascii : Result (List ℕ) TextKind → Result Item TextKind
to_ascii found = do
  x ← found
  Ok (item.Ascii x)

text-line : (n : ℕ) (ns bytes : List ℕ) → list_all is_clean (n ∷ ns) ≡ true → op_of (n ∷ ns) ≡ Some op.Ascii →
    length bytes ≤ 1024 →
    list_all is_text_byte bytes ≡ true → IsLine (words (n ∷ ns) (quoted bytes ∷ [])) (item.Ascii bytes)
unfolding line_item bare item_of
text-line n ns bytes clean named fits h =
    let tail : List ℕ = 32 ∷ 34 ∷ (flat_map escaped bytes ++ 34 ∷ []) in
    let all : list_all is_line_byte (n ∷ ns ++ (32 ∷ quoted bytes)) ≡ true =
    all-append is_line_byte (n ∷ ns) (32 ∷ quoted bytes) (plain-line (n ∷ ns) (clean-plain (n ∷ ns) clean))
    (all-append is_line_byte (flat_map escaped bytes) (34 ∷ []) (printable-text bytes h) refl) in
    let uncommented : without_comment Outside
    (32 ∷ 32 ∷ 32 ∷ 32 ∷ (n ∷ ns ++ (32 ∷ quoted bytes))) ≡ 32 ∷ 32 ∷ 32 ∷ 32 ∷ (n ∷ ns ++ (32 ∷ quoted bytes)) =
    comment-front (32 ∷ 32 ∷ 32 ∷ 32 ∷ n ∷ ns) (32 ∷ quoted bytes) (clean-plain (n ∷ ns) clean)
    ∙ ap (λ (xs : List ℕ). 32 ∷ 32 ∷ 32 ∷ 32 ∷ (n ∷ ns ++ (32 ∷ 34 ∷ xs))) (comment-text bytes) in
    let skipped : drop_while is_blank (n ∷ ns ++ (32 ∷ quoted bytes)) ≡ n ∷ ns ++ (32 ∷ quoted bytes) =
    rw (clean-not-blank n (and_first (is_clean n) (list_all is_clean ns) clean)) refl in
    let joined : n ∷ ns ++ (32 ∷ quoted bytes) ≡ (n ∷ ns ++ (32 ∷ 34 ∷ flat_map escaped bytes)) ++ 34 ∷ [] =
    sym (append_assoc (n ∷ ns) (32 ∷ 34 ∷ flat_map escaped bytes) (34 ∷ [])) in
    let ended : without_end (n ∷ ns ++ (32 ∷ quoted bytes)) ≡ n ∷ ns ++ (32 ∷ quoted bytes) =
    ap without_end joined ∙ kept-end (n ∷ ns ++ (32 ∷ 34 ∷ flat_map escaped bytes)) 34 [] refl ∙ sym joined in
    let is_bare : bare (32 ∷ 32 ∷ 32 ∷ 32 ∷ (n ∷ ns ++ (32 ∷ quoted bytes))) ≡ n ∷ ns ++ (32 ∷ quoted bytes) =
    ap (λ (xs : List ℕ). without_end (drop_while is_blank xs)) uncommented ∙ ap without_end skipped ∙ ended in
    let no_label : ends_with 58 (n ∷ ns ++ (32 ∷ quoted bytes)) ≡ false =
    ap (λ (xs : List ℕ). ends_with 58 xs) joined ∙ no-colon (n ∷ ns ++ (32 ∷ 34 ∷ flat_map escaped bytes)) in
    let is_worded : worded (n ∷ ns ++ (32 ∷ quoted bytes)) ≡ Ok (item.Ascii bytes) =
    ap (λ (w : List ℕ). item_named w (op_of w) (behind 32 (n ∷ ns ++ (32 ∷ quoted bytes))))
    (before-stop is_clean 32 (n ∷ ns) (quoted bytes) refl clean)
    ∙ ap (λ (b : Option (List ℕ)). item_named (n ∷ ns) (op_of (n ∷ ns)) b)
    (behind-stop is_clean 32 (n ∷ ns) (quoted bytes) refl clean)
    ∙ ap (λ (found : Option Op). item_named (n ∷ ns) found (Some (quoted bytes))) named
    ∙ ap (λ (r : Result (List ℕ) TextKind). to_ascii r) (text-read bytes fits h) in
    let is_bare_item : bare_item (n ∷ ns ++ (32 ∷ quoted bytes)) ≡ Ok (Some (item.Ascii bytes)) =
    ap (λ (b : Bool). cond b (labelled (n ∷ ns ++ (32 ∷ quoted bytes)))
    (some_item (worded (n ∷ ns ++ (32 ∷ quoted bytes))))) no_label
    ∙ ap some_item is_worded in
    record {
      back = ap (λ (w : List ℕ). finish (list_any is_high (32 ∷ 32 ∷ 32 ∷ 32 ∷ (n ∷ ns ++ (32 ∷ quoted bytes))))
          (bare_item w)) is_bare
          ∙ ap (λ (found : Result (Option Item) TextKind). finish
          (list_any is_high (32 ∷ 32 ∷ 32 ∷ 32 ∷ (n ∷ ns ++ (32 ∷ quoted bytes)))) found) is_bare_item
          ∙ ap (λ (high : Bool). finish high (Ok (Some (item.Ascii bytes))))
          (low-line (32 ∷ 32 ∷ 32 ∷ 32 ∷ (n ∷ ns ++ (32 ∷ quoted bytes))) all);
      plain = all;
    }

pub text-back : (bytes line name : List ℕ) → length bytes ≤ 1024 → list_all is_text_byte bytes ≡ true →
    op_of name ≡ Some op.Ascii →
    line ≡ words name (quoted bytes ∷ []) → IsLine line (item.Ascii bytes)
text-back bytes line name fits h named is_line =
    let parts = first-of-word name (name-word name op.Ascii named) in
    let named_parts : op_of (parts.0 ∷ parts.1) ≡ Some op.Ascii =
    subst (λ (w : List ℕ). op_of w ≡ Some op.Ascii) parts.2 named in
    let same : line ≡ words (parts.0 ∷ parts.1) (quoted bytes ∷ []) = is_line
    ∙ ap (λ (w : List ℕ). words w (quoted bytes ∷ [])) parts.2 in
    subst (λ (w : List ℕ). IsLine w (item.Ascii bytes)) (sym same)
    (text-line parts.0 parts.1 bytes (name-word (parts.0 ∷ parts.1) op.Ascii named_parts) named_parts fits h)
