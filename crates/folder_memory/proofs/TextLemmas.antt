-- The text of a path, and that of the path above it.
use Rattle.std.proofs.Common.{◌≡◌, ◌<◌, ◌+◌, ◌==◌, ◌&&◌, ℕ, Bool, true, false, cond, not, List, [], ◌∷◌, ◌++◌, length}
use Rattle.std.proofs.Common.{take, drop, refl, ap, sym, ◌∙◌, arith, length-append, take-append-drop, inl, inr, Bor}
use Rattle.std.proofs.Common.{Option, Some, None, MatchOption}
use Rattle.std.specs.List.{All, onto_first}
use Rattle.std.specs.Str.{bytes_eq}
use Rattle.std.specs.Bool.{Decides}
use Rattle.std.proofs.lemmas.Slice.Eq.{bytes_eq-Decides}
use Rattle.std.proofs.Math.Seq.{take-append_seam}
use Rattle.std.specs.Cmp.Lexicographic.{slice_cmp}
use Rattle.std.specs.Ordering.{nat_cmp, eq_by_cmp}
use Rattle.std.proofs.lemmas.Bool.{cases_Bool, eqb-true, eq-eqb}
use Rattle.std.proofs.lemmas.List.{append_cancel_right}
use Rattle.std.proofs.lemmas.List.Elements.{filter-append}
use Rattle.std.proofs.lemmas.List.Splits.{slice_split-cons_yes, slice_split-cons_no, slice_split_none}
use Rattle.folder_tree.specs.Paths.{Parts, is_skipped, parts_of, path_text, pieces_of}
use Rattle.folder_tree.specs.TreeOps.{is_below}
use Rattle.folder_tree.specs.RemoveDirLaws.{below-longer}
use Rattle.folder_tree.proofs.PathLemmas.{kept, parts_of-short, path_text-more, some_pieces}
use Rattle.folder_memory.specs.Names.{IsLast, IsPathText, stands_below, starts_below}
use Rattle.folder_memory.proofs.NameLemmas.{equal_tests, text-IsPathText, text-same}

-- ---- a text with a slash in it

first-append : (byte : ℕ) (pieces more : List (List ℕ)) → (pieces ≡ [] → ⊥)
    → onto_first byte (pieces ++ more) ≡ onto_first byte pieces ++ more
first-append byte [] more some = absurd (some refl)
first-append byte (piece ∷ pieces) more some = refl

pieces_of-append : (text more : List ℕ) → pieces_of (text ++ 47 ∷ more) ≡ pieces_of text ++ pieces_of more
pieces_of-append [] more = slice_split-cons_yes (λ b. b == 47) 47 more refl
pieces_of-append (byte ∷ text) more =
    elim (byte == 47) as (λ b. (byte == 47) ≡ b → pieces_of ((byte ∷ text) ++ 47 ∷ more) ≡ pieces_of (byte ∷ text)
    ++ pieces_of more) [
      | true ↦ λ is. slice_split-cons_yes (λ b. b == 47) byte (text ++ 47 ∷ more) is
          ∙ ap (λ ps. [] ∷ ps) (pieces_of-append text more)
          ∙ ap (λ ps. ps ++ pieces_of more) (sym (slice_split-cons_yes (λ b. b == 47) byte text is))
      | false ↦ λ is. slice_split-cons_no (λ b. b == 47) byte (text ++ 47 ∷ more) is
          ∙ ap (onto_first byte) (pieces_of-append text more)
          ∙ first-append byte (pieces_of text) (pieces_of more) (some_pieces text)
          ∙ ap (λ ps. ps ++ pieces_of more) (sym (slice_split-cons_no (λ b. b == 47) byte text is))
    ] refl

pub parts_of-append : (text more : List ℕ) → parts_of (text ++ 47 ∷ more) ≡ parts_of text ++ parts_of more
parts_of-append text more =
    ap kept (pieces_of-append text more) ∙ filter-append (λ piece. not (is_skipped piece)) (pieces_of text)
    (pieces_of more)

-- ---- the text above

-- the path of a text is one part longer than that of another, shorter one
pub record IsAbove (text above : List ℕ) : Type 0 where
  pub path : IsPathText above
  pub last : IsLast (parts_of text) (parts_of above)
  pub shorter : length above < length text

kept-skipped : (piece : List ℕ) (b : Bool) → is_skipped piece ≡ b → b ≡ true → kept (piece ∷ []) ≡ []
kept-skipped piece b is skipped = ap (λ b. cond (not b) (piece ∷ []) []) (is ∙ skipped)

kept-part : (piece : List ℕ) (b : Bool) → is_skipped piece ≡ b → b ≡ false → kept (piece ∷ []) ≡ piece ∷ []
kept-part piece b is part = ap (λ b. cond (not b) (piece ∷ []) []) (is ∙ part)

append-nothing : (parts : Parts) → parts ++ [] ≡ parts
append-nothing [] = refl
append-nothing (part ∷ parts) = ap (λ ps. part ∷ ps) (append-nothing parts)

longer : (front back : List ℕ) → length (front ++ 47 ∷ back) ≡ length front + length back + 1
longer front back = omega (arith, length-append front (47 ∷ back))

-- the text in front of the last slash of a path's text is a path's
front-path : (front back : List ℕ) (parts : Parts) → front ++ 47 ∷ back ≡ path_text (parts ++ back ∷ [])
    → path_text parts ≡ front
front-path front back [] is =
    absurd (let e : length (front ++ 47 ∷ back) ≡ length back = ap length is in omega (arith, longer front back, e))
front-path front back (part ∷ parts) is =
    append_cancel_right (path_text (part ∷ parts)) front (47 ∷ back) (sym (path_text-more part parts back []) ∙ sym is)

-- a slash, with no slash behind it
pub IsAbove-slash : (text front back : List ℕ) → text ≡ front ++ 47 ∷ back → All (λ byte. (byte == 47) ≡ false) back
    → IsPathText text → IsAbove text front
IsAbove-slash text front back is plain path =
    let one : parts_of back ≡ kept (back ∷ []) = ap kept (slice_split_none (λ b. b == 47) back plain) in
    let all : parts_of text ≡ parts_of front ++ kept (back ∷ []) =
    ap parts_of is ∙ parts_of-append front back ∙ ap (λ ps. parts_of front ++ ps) one in
    elim (cases_Bool (is_skipped back)) as (λ _. IsAbove text front) [
      | inl skipped ↦ absurd (
          let same : parts_of text ≡ parts_of front =
          all ∙ ap (λ ps. parts_of front ++ ps) (kept-skipped back (is_skipped back) refl skipped)
          ∙ append-nothing (parts_of front) in
          let size : length (path_text (parts_of text)) ≡ length text = ap length path in
          let short : length (path_text (parts_of text)) ≡ length (path_text (parts_of front)) =
          ap (λ ps. length (path_text ps)) same in
          omega (arith, size, short, parts_of-short front, ap length is, longer front back))
      | inr part ↦
          let parts : parts_of text ≡ parts_of front ++ back ∷ [] =
          all ∙ ap (λ ps. parts_of front ++ ps) (kept-part back (is_skipped back) refl part) in
          record {
            path = front-path front back (parts_of front) (sym is ∙ sym path ∙ ap path_text parts);
            last = record { part = back; parts = parts };
            shorter = omega (arith, ap length is, longer front back);
          }
    ]

nothing-path : IsPathText []
nothing-path = refl

some_text : (text : List ℕ) → (text ≡ [] → ⊥) → 0 < length text
some_text [] some = absurd (some refl)
some_text (byte ∷ text) some = omega arith

-- no slash
pub IsAbove-whole : (text : List ℕ) → All (λ byte. (byte == 47) ≡ false) text → IsPathText text
    → (parts_of text ≡ [] → ⊥) → IsAbove text []
IsAbove-whole text plain path some =
    let one : parts_of text ≡ kept (text ∷ []) = ap kept (slice_split_none (λ b. b == 47) text plain) in
    elim (cases_Bool (is_skipped text)) as (λ _. IsAbove text []) [
      | inl skipped ↦ absurd (some (one ∙ kept-skipped text (is_skipped text) refl skipped))
      | inr part ↦ record {
        path = nothing-path;
        last = record { part = text; parts = one ∙ kept-part text (is_skipped text) refl part };
        shorter = some_text text (λ e. some (ap parts_of e));
      }
    ]

-- ---- a text below another

behind : (text name : List ℕ) → stands_below text name ≡ true → (rest : List ℕ) × (name ≡ text ++ 47 ∷ rest)
behind [] [] e = absurd (let none : ⊥ = cc in none)
behind [] (byte ∷ name) e = (name, ap (λ b. b ∷ name) (eqb-true byte 47 e))
behind (byte ∷ text) [] e = absurd (let none : ⊥ = cc in none)
behind (byte ∷ text) (other ∷ name) e =
    let parts = both (other == byte) (stands_below text name) e in
    let rest = behind text name parts.1 in
    (rest.0, ap (λ b. b ∷ name) (eqb-true other byte parts.0) ∙ ap (λ t. byte ∷ t) rest.1)
  where
    both : (a b : Bool) → (a && b) ≡ true → (a ≡ true) × (b ≡ true)
    both true b e = (refl, e)
    both false b e = absurd (let none : ⊥ = cc in none)

same_byte : (byte : ℕ) (b : Bool) → b ≡ true → ((byte == byte) && b) ≡ true
same_byte byte b is = ap (λ a. a && b) (eq-eqb byte byte refl) ∙ is

stands : (text rest : List ℕ) → stands_below text (text ++ 47 ∷ rest) ≡ true
stands [] rest = refl
stands (byte ∷ text) rest = same_byte byte (stands_below text (text ++ 47 ∷ rest)) (stands text rest)

-- what stands behind a text begins with a slash
pub stands_below-behind : (text rest : List ℕ) → stands_below text (text ++ rest) ≡ starts_below rest
stands_below-behind [] rest = refl
stands_below-behind (byte ∷ text) rest =
    ap (λ a. a && stands_below text (text ++ rest)) (eq-eqb byte byte refl) ∙ stands_below-behind text rest

-- a name that does not begin with a text is not below it
pub stands_below-other : (text name : List ℕ) → (take (length text) name ≡ text → ⊥) → stands_below text name ≡ false
stands_below-other text name other =
    elim (cases_Bool (stands_below text name)) as (λ _. stands_below text name ≡ false) [
      | inl is ↦ absurd (let rest = behind text name is in
          other (ap (take (length text)) rest.1 ∙ take-append_seam text (47 ∷ rest.0)))
      | inr is ↦ is
    ]

part_same : (a b : List ℕ) → eq_by_cmp (slice_cmp nat_cmp) a b ≡ true → a ≡ b
part_same a b e = text-same a b e

below-is : (path name : Parts) → is_below path name ≡ true
    → (part : List ℕ) × (parts : Parts) × (name ≡ path ++ part ∷ parts)
below-is [] [] e = absurd (let none : ⊥ = cc in none)
below-is [] (part ∷ parts) e = (part, parts, refl)
below-is (p ∷ path) [] e = absurd (let none : ⊥ = cc in none)
below-is (p ∷ path) (q ∷ name) e =
    let both = two (eq_by_cmp (slice_cmp nat_cmp) p q) (is_below path name) e in
    let rest = below-is path name both.1 in
    (rest.0, rest.1, ap (λ x. x ∷ name) (sym (part_same p q both.0)) ∙ ap (λ ps. p ∷ ps) rest.2)
  where
    two : (a b : Bool) → (a && b) ≡ true → (a ≡ true) × (b ≡ true)
    two true b e = (refl, e)
    two false b e = absurd (let none : ⊥ = cc in none)

no_more : (parts : Parts) (rest text name : List ℕ) → path_text parts ≡ text → text ++ 47 ∷ rest ≡ name
    → path_text parts ≡ name → ⊥
no_more parts rest text name is more same =
    omega (arith, ap length (is ∙ refl), ap length more, ap length same, longer text rest)

above-some : (path rest : Parts) (text name behind' : List ℕ) → path_text path ≡ text → name ≡ text ++ 47 ∷ behind'
    → path_text (path ++ rest) ≡ name → is_below path (path ++ rest) ≡ true
above-some path [] text name behind' is more same =
    absurd (no_more path behind' text name is (sym more) (ap path_text (sym (append-nothing path)) ∙ same))
above-some path (part ∷ rest) text name behind' is more same = below-longer path part rest

-- a name is below a path that is not the root where its text goes on behind the path's by a slash
pub stands_below-is_below : (text name : List ℕ) → IsPathText text → IsPathText name → (parts_of text ≡ [] → ⊥)
    → stands_below text name ≡ is_below (parts_of text) (parts_of name)
stands_below-is_below text name path name_path some =
    equal_tests (stands_below text name) (is_below (parts_of text) (parts_of name))
    (λ e.
    let rest = behind text name e in
    let all : parts_of name ≡ parts_of text ++ parts_of rest.0 = ap parts_of rest.1 ∙ parts_of-append text rest.0 in
    ap (is_below (parts_of text)) all ∙ above-some (parts_of text) (parts_of rest.0) text name rest.0 path rest.1
    (ap path_text (sym all) ∙ name_path))
    (λ e.
    let rest = below-is (parts_of text) (parts_of name) e in
    let all : name ≡ text ++ 47 ∷ path_text (rest.0 ∷ rest.1) =
    sym name_path ∙ ap path_text rest.2 ∙ more (parts_of text) rest.0 rest.1 some
    ∙ ap (λ t. t ++ 47 ∷ path_text (rest.0 ∷ rest.1)) path in
    ap (stands_below text) all ∙ stands text (path_text (rest.0 ∷ rest.1)))
  where
    more : (parts : Parts) (part : List ℕ) (rest : Parts) → (parts ≡ [] → ⊥)
        → path_text (parts ++ part ∷ rest) ≡ path_text parts ++ 47 ∷ path_text (part ∷ rest)
    more [] part rest some = absurd (some refl)
    more (p ∷ parts) part rest some = path_text-more p parts part rest

-- ---- what `strip_prefix` answers

equal_bytes : (b : Bool) (xs ys : List ℕ) → Decides b (xs ≡ ys) → b ≡ true → xs ≡ ys
equal_bytes b xs ys decides e = decides.0 e

unequal_bytes : (b : Bool) (xs ys : List ℕ) → Decides b (xs ≡ ys) → b ≡ false → xs ≡ ys → ⊥
unequal_bytes b xs ys decides e same = let both : true ≡ false = sym (decides.1 same) ∙ e in let none : ⊥ = cc in none

abbrev pub Stripped : List ℕ → List ℕ → Option (Bor (List ℕ)) → Type 0
Stripped text name r =
    MatchOption r (bytes_eq (take (length text) name) text ≡ false)
    (λ x. (bytes_eq (take (length text) name) text ≡ true) × (x.now ≡ drop (length text) name)
    × (length x.now + length text ≡ length name))

pub below-some : (text name : List ℕ) (r : Option (Bor (List ℕ))) (rest : Bor (List ℕ)) → Stripped text name r
    → r ≡ Some rest → starts_below rest.now ≡ stands_below text name
below-some text name r rest stripped is =
    let (front, back, size) = rw is at stripped in
    let whole : text ++ drop (length text) name ≡ name =
    ap (λ t. t ++ drop (length text) name) (sym (equal_bytes (bytes_eq (take (length text) name) text)
    (take (length text) name) text (bytes_eq-Decides (take (length text) name) text) front))
    ∙ take-append-drop (length text) name in
    ap starts_below back ∙ sym (stands_below-behind text (drop (length text) name)) ∙ ap (stands_below text) whole

pub below-none : (text name : List ℕ) (r : Option (Bor (List ℕ))) → Stripped text name r → r ≡ None
    → false ≡ stands_below text name
below-none text name r stripped is =
    let other = rw is at stripped in
    sym (stands_below-other text name (unequal_bytes (bytes_eq (take (length text) name) text) (take (length text) name)
    text (bytes_eq-Decides (take (length text) name) text) other))

-- the same for a path that is not the root
pub filled-law : (text : List ℕ) (path : Parts) → text ≡ path_text path → parts_of text ≡ path → (path ≡ [] → ⊥)
    → (name : List ℕ) → IsPathText name
    → stands_below text name ≡ is_below path (parts_of name)
filled-law text path is parts some name name_path =
    stands_below-is_below text name (text-IsPathText text path is parts) name_path (λ e. some (sym parts ∙ e))
    ∙ ap (λ p. is_below p (parts_of name)) parts
