-- What is printed is read back: lines of one, two and three operands.
use Rattle.std.proofs.Common.{◌≡◌, ℕ, ◌<◌, Bool, true, List, [], ◌∷◌, ◌++◌, length, Some, Result, Ok, refl, sym, ap}
use Rattle.std.proofs.Common.{◌∙◌, subst, arith}
use Rattle.std.proofs.lemmas.Bool.Decides.{nat_tests}
use Rattle.std.specs.List.{list_all}
use Rattle.asm_text.specs.Pieces.{is_printable}
use Rattle.asm_items.specs.declared.item.Item.{Item}
use Rattle.asm_text.specs.declared.fault.TextKind.{TextKind}
use Rattle.asm_table.specs.declared.mnemonics.Op.{Op}
use Rattle.asm_text.specs.Layout.{without_end}
use Rattle.asm_text.specs.Printing.{HasWords}
use Rattle.asm_text.specs.Reading.{item_of, last, line_item, three, two}
use Rattle.asm_table.specs.Table.{op_of}
use Rattle.asm_text.proofs.Forms.{is_clean, last-spelled, three-spelled, two-spelled}
use Rattle.asm_text.proofs.Cleanly.{and_first, and_second}
use Rattle.asm_text.proofs.LineLemmas.{all-append, clean-end, clean-plain, is_plain, kept-end, words-item}
use Rattle.asm_text.proofs.RoundTrip.{first-of-word, name-word, two-plain}

-- a written operand
pub record IsPiece (bytes : List ℕ) : Type 0 where
  pub clean : list_all is_clean bytes ≡ true
  pub there : 0 < length bytes

-- a written operand and what it is read as
pub record SpellsAs {X : Type 0} (read : List ℕ → Result X TextKind) (x : X) (bytes : List ℕ) : Type 0 where
  pub reads : read bytes ≡ Ok x
  pub piece : IsPiece bytes

-- a byte of a written line
abbrev pub is_line_byte : ℕ → Bool
is_line_byte byte = is_printable byte

plain-printable : (byte : ℕ) → is_plain byte ≡ true → is_printable byte ≡ true
plain-printable byte h = grind (arith, nat_tests)

-- a line that is read as an item, on one line
pub record IsLine (line : List ℕ) (it : Item) : Type 0 where
  pub back : line_item line ≡ Ok (Some it)
  pub plain : list_all is_line_byte line ≡ true

pub plain-line : (bytes : List ℕ) → list_all is_plain bytes ≡ true → list_all is_line_byte bytes ≡ true
plain-line [] h = refl
plain-line (byte ∷ bytes) h =
    rw (plain-printable byte (and_first (is_plain byte) (list_all is_plain bytes) h))
    (plain-line bytes (and_second (is_plain byte) (list_all is_plain bytes) h))

none-there : {X : Type 0} → 0 < length {A = ℕ} [] → X
none-there h = absurd (omega (arith, h))

-- a line whose operands make an item, whatever name its mnemonic has
named-line : (of_op : Op) (item : Item) (o : ℕ) (ops line : List ℕ) → is_clean o ≡ true →
    list_all is_plain (o ∷ ops) ≡ true →
    without_end (o ∷ ops) ≡ o ∷ ops → item_of of_op (Some (o ∷ ops)) ≡ Ok item →
    (name : List ℕ) → op_of name ≡ Some of_op → line ≡ 32 ∷ 32 ∷ 32 ∷ 32 ∷ (name ++ (32 ∷ o ∷ ops)) →
    IsLine line item
named-line of_op item o ops line clean plain ended made name named is_line =
    let parts = first-of-word name (name-word name of_op named) in
    let named_parts : op_of (parts.0 ∷ parts.1) ≡ Some of_op =
    subst (λ (w : List ℕ). op_of w ≡ Some of_op) parts.2 named in
    let word : list_all is_clean (parts.0 ∷ parts.1) ≡ true = name-word (parts.0 ∷ parts.1) of_op named_parts in
    let same : line ≡ 32 ∷ 32 ∷ 32 ∷ 32 ∷ ((parts.0 ∷ parts.1) ++ (32 ∷ o ∷ ops)) =
    is_line ∙ ap (λ (w : List ℕ). 32 ∷ 32 ∷ 32 ∷ 32 ∷ (w ++ (32 ∷ o ∷ ops))) parts.2 in
    let all : list_all is_plain ((parts.0 ∷ parts.1) ++ (32 ∷ o ∷ ops)) ≡ true =
    all-append is_plain (parts.0 ∷ parts.1) (32 ∷ o ∷ ops) (clean-plain (parts.0 ∷ parts.1) word) plain in
    record {
      back = ap line_item same ∙ words-item parts.0 parts.1 o ops of_op item word clean plain ended named_parts made;
      plain = subst (λ (w : List ℕ). list_all is_line_byte w ≡ true) (sym same)
          (plain-line ((parts.0 ∷ parts.1) ++ (32 ∷ o ∷ ops)) all);
    }

pub one-back : (of_op : Op) (item : Item) (p line : List ℕ) → IsPiece p → item_of of_op (Some p) ≡ Ok item →
    HasWords of_op (p ∷ []) line → IsLine line item
one-back of_op item [] line hp made printed = none-there hp.there
one-back of_op item (a ∷ xs) line hp made printed =
    named-line of_op item a xs line (and_first (is_clean a) (list_all is_clean xs) hp.clean)
    (clean-plain (a ∷ xs) hp.clean)
    (clean-end a xs hp.clean) made printed.0 printed.1 printed.2

pub two-back : (of_op : Op) (item : Item) (p q line : List ℕ) → IsPiece p → IsPiece q →
    item_of of_op (Some (p ++ (44 ∷ 32 ∷ q))) ≡ Ok item → HasWords of_op (p ∷ q ∷ []) line → IsLine line item
two-back of_op item [] q line hp hq made printed = none-there hp.there
two-back of_op item (a ∷ xs) [] line hp hq made printed = none-there hq.there
two-back of_op item (a ∷ xs) (b ∷ ys) line hp hq made printed =
    named-line of_op item a (xs ++ (44 ∷ 32 ∷ b ∷ ys)) line (and_first (is_clean a) (list_all is_clean xs) hp.clean)
    (two-plain b ys (a ∷ xs) (clean-plain (a ∷ xs) hp.clean) hq.clean)
    (kept-end (a ∷ xs) 44 (32 ∷ b ∷ ys) (kept-end (44 ∷ 32 ∷ []) b ys (clean-end b ys hq.clean)))
    made printed.0 printed.1 printed.2

pub three-back : (of_op : Op) (item : Item) (p q r line : List ℕ) → IsPiece p → IsPiece q → IsPiece r →
    item_of of_op (Some (p ++ (44 ∷ 32 ∷ (q ++ (44 ∷ 32 ∷ r))))) ≡ Ok item → HasWords of_op (p ∷ q ∷ r ∷ []) line →
    IsLine line item
three-back of_op item [] q r line hp hq hr made printed = none-there hp.there
three-back of_op item (a ∷ xs) [] r line hp hq hr made printed = none-there hq.there
three-back of_op item (a ∷ xs) (b ∷ ys) [] line hp hq hr made printed = none-there hr.there
three-back of_op item (a ∷ xs) (b ∷ ys) (c ∷ zs) line hp hq hr made printed =
    let inner : list_all is_plain (b ∷ ys ++ (44 ∷ 32 ∷ c ∷ zs)) ≡ true =
    two-plain c zs (b ∷ ys) (clean-plain (b ∷ ys) hq.clean) hr.clean in
    let middle : without_end (b ∷ ys ++ (44 ∷ 32 ∷ c ∷ zs)) ≡ b ∷ ys ++ (44 ∷ 32 ∷ c ∷ zs) =
    kept-end (b ∷ ys) 44 (32 ∷ c ∷ zs) (kept-end (44 ∷ 32 ∷ []) c zs (clean-end c zs hr.clean)) in
    named-line of_op item a (xs ++ (44 ∷ 32 ∷ b ∷ ys ++ (44 ∷ 32 ∷ c ∷ zs))) line
    (and_first (is_clean a) (list_all is_clean xs) hp.clean)
    (all-append is_plain (a ∷ xs) (44 ∷ 32 ∷ b ∷ ys ++ (44 ∷ 32 ∷ c ∷ zs)) (clean-plain (a ∷ xs) hp.clean) inner)
    (kept-end (a ∷ xs) 44 (32 ∷ b ∷ ys ++ (44 ∷ 32 ∷ c ∷ zs))
    (kept-end (44 ∷ 32 ∷ []) b (ys ++ (44 ∷ 32 ∷ c ∷ zs)) middle))
    made printed.0 printed.1 printed.2

pub last-read : {X : Type 0} (read : List ℕ → Result X TextKind) (x : X) (p : List ℕ) → SpellsAs read x p →
    last read (Some p) ≡ Ok x
last-read read x [] s = none-there s.piece.there
last-read read x (a ∷ xs) s = last-spelled read x a xs (record { reads = s.reads; clean = s.piece.clean })

pub two-read : {X Y : Type 0} (read_x : List ℕ → Result X TextKind) (read_y : List ℕ → Result Y TextKind) (x : X)
    (y : Y)
    (p q : List ℕ) → SpellsAs read_x x p → SpellsAs read_y y q →
    two read_x read_y (Some (p ++ (44 ∷ 32 ∷ q))) ≡ Ok (x, y)
two-read read_x read_y x y [] q s t = none-there s.piece.there
two-read read_x read_y x y (a ∷ xs) [] s t = none-there t.piece.there
two-read read_x read_y x y (a ∷ xs) (b ∷ ys) s t =
    two-spelled read_x read_y x y a b xs ys (record { reads = s.reads; clean = s.piece.clean })
    (record { reads = t.reads; clean = t.piece.clean })

pub three-read : {X Y Z : Type 0} (read_x : List ℕ → Result X TextKind) (read_y : List ℕ → Result Y TextKind)
    (read_z : List ℕ → Result Z TextKind)
    (x : X) (y : Y) (z : Z) (p q r : List ℕ) → SpellsAs read_x x p → SpellsAs read_y y q → SpellsAs read_z z r →
    three read_x read_y read_z (Some (p ++ (44 ∷ 32 ∷ (q ++ (44 ∷ 32 ∷ r))))) ≡ Ok (x, y, z)
three-read read_x read_y read_z x y z [] q r s t u = none-there s.piece.there
three-read read_x read_y read_z x y z (a ∷ xs) [] r s t u = none-there t.piece.there
three-read read_x read_y read_z x y z (a ∷ xs) (b ∷ ys) [] s t u = none-there u.piece.there
three-read read_x read_y read_z x y z (a ∷ xs) (b ∷ ys) (c ∷ zs) s t u =
    three-spelled read_x read_y read_z x y z a b c xs ys zs (record { reads = s.reads; clean = s.piece.clean })
    (record { reads = t.reads; clean = t.piece.clean }) (record { reads = u.reads; clean = u.piece.clean })
