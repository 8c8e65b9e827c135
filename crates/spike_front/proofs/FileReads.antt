-- What reads of a file give, one behind another.
use Rattle.std.proofs.Common.{◌≡◌, ◌≤◌, ◌<◌, ◌+◌, ◌++◌, ℕ, Bool, true, false, List, length, take, drop, ap, sym, ◌∙◌, arith, length-take, length-drop, Option, Some, None, Ok, nat_lt, if◌then◌else◌}
use Rattle.std.proofs.lemmas.List.{drop-take, take-append-drop, take-append-le, take-take}
use Rattle.std.proofs.Math.Seq.{take-append-add}
use Rattle.folder_tree.specs.Tree.{Tree, opens_of, bytes_of}
use Rattle.folder_tree.specs.TreeOps.{After, read_row}
use Rattle.folder_tree.specs.Answers.{AnsweredBy}

if_some : {A : Type 0} (b : Bool) (row r : A) → (if b then Some row else None) ≡ Some r → row ≡ r
if_some true row r e = cc
if_some false row r e = cc

-- what a read that was answered gave
pub read_told : (t : Tree) (number at count : ℕ) (after : Option Tree) (read : List ℕ) → AnsweredBy t after (read_row number at count t) (Ok read)
    → (read ≡ take count (drop at (bytes_of t number))) × (after ≡ Some t)
read_told t number at count after read (now, e, told) =
    let same : record { answer = take count (drop at (bytes_of t number)); tree = t } ≡ record { answer = read; tree = now } = if_some (nat_lt 0 (opens_of t number)) _ _ e in
    (sym (ap (λ (a : After (List ℕ)). a.answer) same), told ∙ ap Some (sym (ap (λ (a : After (List ℕ)). a.tree) same)))

take-more : (count n : ℕ) (file : List ℕ) → take (count + n) file ≡ take count file ++ take n (drop count file)
take-more count n file =
    sym (take-append-drop count (take (count + n) file))
    ∙ ap (λ xs. xs ++ drop count (take (count + n) file)) (take-take count (count + n) file (omega arith))
    ∙ ap (λ xs. take count file ++ xs) (drop-take count n file)

-- a read puts bytes of the file behind those that have come
pub read_on : (count asked n : ℕ) (file old read behind : List ℕ) → 0 < asked → count + asked ≤ length file → length old ≡ length file → length read ≡ asked → n ≤ length read
    → take count old ≡ take count file
    → take n read ≡ take asked (drop count file)
    → (count < count + n) × (take (count + n) (take count old ++ (read ++ behind)) ≡ take (count + n) file)
read_on count asked n file old read behind some inside same full low came gives =
    let all : n ≡ asked = omega (arith, length-take n read, length-take asked (drop count file), length-drop count file, ap length gives) in
    let place : length (take count old) ≡ count = omega (arith, length-take count old) in (
      omega arith,
      ap (λ k. take (k + n) (take count old ++ (read ++ behind))) (sym place)
          ∙ take-append-add (take count old) (read ++ behind) n
          ∙ ap (λ xs. xs ++ take n (read ++ behind)) came
          ∙ ap (λ xs. take count file ++ xs) (take-append-le n read behind low ∙ gives ∙ ap (λ k. take k (drop count file)) (sym all))
          ∙ sym (take-more count n file),
    )
