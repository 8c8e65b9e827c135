-- A line of words is read as its mnemonic and operands.
use Rattle.std.proofs.Common.{◌≡◌, ℕ, ◌-◌, ◌<◌, Bool, true, false, ◌||◌, ◌==◌, cond, List, [], ◌∷◌, ◌++◌, length}
use Rattle.std.proofs.Common.{get_or, Option, Some, None, Result, Ok, Err, refl, ap, ◌∙◌, zero, suc, arith}
use Rattle.std.proofs.lemmas.Bool.Decides.{nat_tests}
use Rattle.std.specs.List.{list_all, list_any}
use Rattle.asm_items.specs.declared.item.Item.{Item}
use Rattle.asm_text.specs.declared.layout.At.TheVariants.{Outside}
use Rattle.asm_text.specs.declared.fault.TextKind.{TextKind}
use Rattle.asm_text.specs.declared.fault.TextKind.TheVariants.{BadLine}
use Rattle.asm_table.specs.declared.mnemonics.Op.{Op}
use Rattle.asm_table.specs.Cuts.{behind}
use Rattle.asm_text.specs.Layout.{bare, before_rest, drop_while, ends_with, is_blank, without_comment, without_end}
use Rattle.asm_text.specs.Pieces.{◌>>=◌, is_empty}
use Rattle.asm_text.specs.Reading.{bare_item, is_high, item_of, item_named, labelled, line_item, some_item, worded}
use Rattle.asm_table.specs.Table.{op_of}
use Rattle.asm_text.proofs.Cleanly.{and_first, and_second, before-stop, behind-stop, differs}
use Rattle.asm_text.proofs.Forms.{is_clean, no-space}

-- a byte of a line without strings
abbrev pub is_plain : ℕ → Bool
is_plain byte = is_clean byte || byte == 32 || byte == 44

-- a plain line has no comment
pub plain-comment : (line : List ℕ) → list_all is_plain line ≡ true → without_comment Outside line ≡ line
plain-comment [] h = refl
plain-comment (byte ∷ line) h =
    let passes = and_first (is_plain byte) (list_all is_plain line) h in
    rw (differs is_plain 35 byte refl passes, differs is_plain 34 byte refl passes)
    (ap (λ (xs : List ℕ). byte ∷ xs) (plain-comment line (and_second (is_plain byte) (list_all is_plain line) h)))

-- nor a byte above 0x7F
plain-high : (byte : ℕ) → is_plain byte ≡ true → is_high byte ≡ false
plain-high byte h = grind (arith, nat_tests)

pub plain-low : (line : List ℕ) → list_all is_plain line ≡ true → list_any is_high line ≡ false
plain-low [] h = refl
plain-low (byte ∷ line) h =
    rw (plain-high byte (and_first (is_plain byte) (list_all is_plain line) h))
    (plain-low line (and_second (is_plain byte) (list_all is_plain line) h))

-- nor a colon at its end
at-each : (test : ℕ → Bool) (xs : List ℕ) (k : ℕ) → list_all test xs ≡ true → k < length xs →
    test (get_or xs k 0) ≡ true
at-each test [] k h below = absurd (omega arith)
at-each test (x ∷ xs) zero h below = and_first (test x) (list_all test xs) h
at-each test (x ∷ xs) (suc k) h below = at-each test xs k (and_second (test x) (list_all test xs) h) (omega arith)

pub plain-end : (byte : ℕ) (line : List ℕ) → list_all is_plain (byte ∷ line) ≡ true → ends_with 58 (byte ∷ line) ≡ false
plain-end byte line h =
    let last = at-each is_plain (byte ∷ line) (length (byte ∷ line) - 1) h (omega arith) in
    let no = differs is_plain 58 (get_or (byte ∷ line) (length (byte ∷ line) - 1) 0) refl last in
    grind (arith, nat_tests)

-- a line that ends with a clean byte keeps its end
pub clean-not-blank : (byte : ℕ) → is_clean byte ≡ true → is_blank byte ≡ false
clean-not-blank byte h = grind (arith, nat_tests)

pub clean-end : (byte : ℕ) (bytes : List ℕ) → list_all is_clean (byte ∷ bytes) ≡ true →
    without_end (byte ∷ bytes) ≡ byte ∷ bytes
clean-end byte [] h = rw (clean-not-blank byte (and_first (is_clean byte) true h)) refl
clean-end byte (next ∷ bytes) h =
    ap (λ (xs : List ℕ). before_rest byte xs)
    (clean-end next bytes (and_second (is_clean byte) (list_all is_clean (next ∷ bytes)) h))

pub kept-end : (front : List ℕ) (byte : ℕ) (bytes : List ℕ) → without_end (byte ∷ bytes) ≡ byte ∷ bytes →
    without_end (front ++ byte ∷ bytes) ≡ front ++ byte ∷ bytes
kept-end [] byte bytes h = h
kept-end (first ∷ []) byte bytes h = ap (λ (xs : List ℕ). before_rest first xs) h
kept-end (first ∷ next ∷ front) byte bytes h =
    ap (λ (xs : List ℕ). before_rest first xs) (kept-end (next ∷ front) byte bytes h)

pub clean-plain : (bytes : List ℕ) → list_all is_clean bytes ≡ true → list_all is_plain bytes ≡ true
clean-plain [] h = refl
clean-plain (byte ∷ bytes) h =
    rw (and_first (is_clean byte) (list_all is_clean bytes) h)
    (clean-plain bytes (and_second (is_clean byte) (list_all is_clean bytes) h))

pub all-append : (test : ℕ → Bool) (xs ys : List ℕ) → list_all test xs ≡ true → list_all test ys ≡ true →
    list_all test (xs ++ ys) ≡ true
all-append test [] ys h k = k
all-append test (x ∷ xs) ys h k =
    rw (and_first (test x) (list_all test xs) h) (all-append test xs ys (and_second (test x) (list_all test xs) h) k)

abbrev pub finish : Bool → Result (Option Item) TextKind → Result (Option Item) TextKind
finish high found = do
  x ← found
  cond high (Err BadLine) (Ok x)

-- a line of a mnemonic and operands is the item that its operands make
pub words-item : (n : ℕ) (ns : List ℕ) (o : ℕ) (ops : List ℕ) (op : Op) (item : Item) →
    list_all is_clean (n ∷ ns) ≡ true →
    is_clean o ≡ true → list_all is_plain (o ∷ ops) ≡ true → without_end (o ∷ ops) ≡ o ∷ ops →
    op_of (n ∷ ns) ≡ Some op →
    item_of op (Some (o ∷ ops)) ≡ Ok item →
    line_item (32 ∷ 32 ∷ 32 ∷ 32 ∷ (n ∷ ns ++ (32 ∷ o ∷ ops))) ≡ Ok (Some item)
unfolding line_item bare
words-item n ns o ops op item name_clean o_clean ops_plain ops_end is_op is_item =
    let rest : List ℕ = n ∷ ns ++ (32 ∷ o ∷ ops) in
    let rest_plain : list_all is_plain (n ∷ ns ++ (32 ∷ o ∷ ops)) ≡ true =
    all-append is_plain (n ∷ ns) (32 ∷ o ∷ ops) (clean-plain (n ∷ ns) name_clean) ops_plain in
    let n_clean : is_clean n ≡ true = and_first (is_clean n) (list_all is_clean ns) name_clean in
    let uncommented : without_comment Outside (32 ∷ 32 ∷ 32 ∷ 32 ∷ (n ∷ ns ++ (32 ∷ o ∷ ops))) ≡ 32 ∷ 32 ∷ 32 ∷ 32 ∷
    (n ∷ ns ++ (32 ∷ o ∷ ops)) =
    plain-comment (32 ∷ 32 ∷ 32 ∷ 32 ∷ (n ∷ ns ++ (32 ∷ o ∷ ops))) rest_plain in
    let ended : without_end (n ∷ ns ++ (32 ∷ o ∷ ops)) ≡ n ∷ ns ++ (32 ∷ o ∷ ops) =
    kept-end (n ∷ ns) 32 (o ∷ ops) (ap (λ (xs : List ℕ). before_rest 32 xs) ops_end) in
    let no_label = plain-end n (ns ++ (32 ∷ o ∷ ops)) rest_plain in
    let front = before-stop is_clean 32 (n ∷ ns) (o ∷ ops) refl name_clean in
    let back = behind-stop is_clean 32 (n ∷ ns) (o ∷ ops) refl name_clean in
    let low = plain-low (32 ∷ 32 ∷ 32 ∷ 32 ∷ (n ∷ ns ++ (32 ∷ o ∷ ops))) rest_plain in
    let skipped : drop_while is_blank (n ∷ ns ++ (32 ∷ o ∷ ops)) ≡ n ∷ ns ++ (32 ∷ o ∷ ops) =
    rw (clean-not-blank n n_clean) refl in
    let is_bare : bare (32 ∷ 32 ∷ 32 ∷ 32 ∷ (n ∷ ns ++ (32 ∷ o ∷ ops))) ≡ n ∷ ns ++ (32 ∷ o ∷ ops) =
    ap (λ (xs : List ℕ). without_end (drop_while is_blank xs)) uncommented ∙ ap without_end skipped ∙ ended in
    let is_worded : worded (n ∷ ns ++ (32 ∷ o ∷ ops)) ≡ Ok item =
    ap (λ (w : List ℕ). item_named w (op_of w) (behind 32 (n ∷ ns ++ (32 ∷ o ∷ ops)))) front
    ∙ ap (λ (b : Option (List ℕ)). item_named (n ∷ ns) (op_of (n ∷ ns)) b) back
    ∙ ap (λ (found : Option Op). item_named (n ∷ ns) found (Some (o ∷ ops))) is_op
    ∙ ap (λ (xs : List ℕ). item_of op (cond (is_empty xs) None (Some xs))) (no-space o ops o_clean)
    ∙ is_item in
    let is_bare_item : bare_item (n ∷ ns ++ (32 ∷ o ∷ ops)) ≡ Ok (Some item) =
    ap (λ (b : Bool). cond b (labelled (n ∷ ns ++ (32 ∷ o ∷ ops))) (some_item (worded (n ∷ ns ++ (32 ∷ o ∷ ops)))))
    no_label
    ∙ ap some_item is_worded in
    ap (λ (w : List ℕ). finish (list_any is_high (32 ∷ 32 ∷ 32 ∷ 32 ∷ (n ∷ ns ++ (32 ∷ o ∷ ops)))) (bare_item w))
    is_bare
    ∙ ap (λ (found : Result (Option Item) TextKind). finish
    (list_any is_high (32 ∷ 32 ∷ 32 ∷ 32 ∷ (n ∷ ns ++ (32 ∷ o ∷ ops)))) found) is_bare_item
    ∙ ap (λ (high : Bool). finish high (Ok (Some item))) low
