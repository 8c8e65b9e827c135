-- Operands are read as the values that they were written for, form by form.
use Rattle.std.proofs.Common.{◌≡◌, ℕ, Bool, true, ◌||◌, ◌==◌, List, ◌∷◌, ◌++◌, Some, None, Result, Ok, refl, ap, ◌∙◌}
use Rattle.std.specs.List.{list_all}
use Rattle.asm_items.specs.Names.{is_name_byte}
use Rattle.asm_table.specs.Cuts.{before, behind}
use Rattle.asm_text.specs.Layout.{drop_while}
use Rattle.asm_text.specs.Reading.{is_space, last, more_of, one, three, two}
use Rattle.asm_text.specs.declared.fault.TextKind.{TextKind}
use Rattle.asm_text.proofs.Cleanly.{and_first, before-all, before-stop, behind-none, behind-stop, differs}

-- a byte of a written operand that is no string
abbrev pub is_clean : ℕ → Bool
is_clean byte = is_name_byte byte || byte == 45 || byte == 46 || byte == 40 || byte == 41

-- a written operand, and what it is read as
pub record Spells {X : Type 0} (read : List ℕ → Result X TextKind) (x : X) (first : ℕ) (bytes : List ℕ) : Type 0 where
  pub reads : read (first ∷ bytes) ≡ Ok x
  pub clean : list_all is_clean (first ∷ bytes) ≡ true

pub no-space : (first : ℕ) (bytes : List ℕ) → is_clean first ≡ true →
    drop_while is_space (first ∷ bytes) ≡ first ∷ bytes
no-space first bytes h = rw (differs is_clean 32 first refl h) refl

-- an operand with another behind it
pub one-spelled : {X : Type 0} (read : List ℕ → Result X TextKind) (x : X) (first : ℕ) (bytes : List ℕ) (next : ℕ)
    (rest : List ℕ) →
    Spells read x first bytes → is_clean next ≡ true →
    one read (Some (first ∷ bytes ++ (44 ∷ 32 ∷ next ∷ rest))) ≡ Ok (x, Some (next ∷ rest))
one-spelled {X} read x first bytes next rest s clean =
    let front : before 44 (first ∷ bytes ++ (44 ∷ 32 ∷ next ∷ rest)) ≡ first ∷ bytes =
    before-stop is_clean 44 (first ∷ bytes) (32 ∷ next ∷ rest) refl s.clean in
    let back : more_of (behind 44 (first ∷ bytes ++ (44 ∷ 32 ∷ next ∷ rest))) ≡ Some (next ∷ rest) =
    ap more_of (behind-stop is_clean 44 (first ∷ bytes) (32 ∷ next ∷ rest) refl s.clean)
    ∙ ap (λ (xs : List ℕ). Some xs) (no-space next rest clean) in
    rw (front, back, s.reads) refl

-- the last operand of a line
pub last-spelled : {X : Type 0} (read : List ℕ → Result X TextKind) (x : X) (first : ℕ) (bytes : List ℕ) →
    Spells read x first bytes → last read (Some (first ∷ bytes)) ≡ Ok x
last-spelled {X} read x first bytes s =
    let front : before 44 (first ∷ bytes) ≡ first ∷ bytes = before-all is_clean 44 (first ∷ bytes) refl s.clean in
    let back : behind 44 (first ∷ bytes) ≡ None = behind-none is_clean 44 (first ∷ bytes) refl s.clean in
    rw (front, back, s.reads) refl

head-clean : {X : Type 0} {read : List ℕ → Result X TextKind} {x : X} {first : ℕ} {bytes : List ℕ} →
    Spells read x first bytes → is_clean first ≡ true
head-clean {first = first} {bytes = bytes} s = and_first (is_clean first) (list_all is_clean bytes) s.clean

-- two operands
pub two-spelled : {X Y : Type 0} (read_x : List ℕ → Result X TextKind) (read_y : List ℕ → Result Y TextKind) (x : X)
    (y : Y)
    (a b : ℕ) (xs ys : List ℕ) → Spells read_x x a xs → Spells read_y y b ys →
    two read_x read_y (Some (a ∷ xs ++ (44 ∷ 32 ∷ b ∷ ys))) ≡ Ok (x, y)
two-spelled {X} {Y} read_x read_y x y a b xs ys sx sy =
    rw (one-spelled read_x x a xs b ys sx (head-clean sy), last-spelled read_y y b ys sy) refl

-- three operands
pub three-spelled : {X Y Z : Type 0} (read_x : List ℕ → Result X TextKind) (read_y : List ℕ → Result Y TextKind)
    (read_z : List ℕ → Result Z TextKind)
    (x : X) (y : Y) (z : Z) (a b c : ℕ) (xs ys zs : List ℕ) → Spells read_x x a xs → Spells read_y y b ys →
    Spells read_z z c zs →
    three read_x read_y read_z (Some (a ∷ xs ++ (44 ∷ 32 ∷ b ∷ ys ++ (44 ∷ 32 ∷ c ∷ zs)))) ≡ Ok (x, y, z)
three-spelled {X} {Y} {Z} read_x read_y read_z x y z a b c xs ys zs sx sy sz =
    rw (
      one-spelled read_x x a xs b (ys ++ (44 ∷ 32 ∷ c ∷ zs)) sx (head-clean sy),
      one-spelled read_y y b ys c zs sy
          (head-clean sz),
      last-spelled read_z z c zs sz,
    ) refl
