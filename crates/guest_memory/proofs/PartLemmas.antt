-- A list with others in the place of a part of it, and what stands in front of such a place and behind it.
use Rattle.std.proofs.Common.{◌≡◌, ℕ, ◌+◌, suc, ◌≤◌, List, [], ◌∷◌, ◌++◌, length, take, drop, append_assoc, length-take, length-drop, length-append, take-append-drop, refl, sym, ap, ◌∙◌, arith}
use Rattle.std.proofs.lemmas.List.{take-append-le, drop-append-le, drop-drop, take_at, drop_at, length-take-le}
use Rattle.byteorder.specs.Endian.{little_bytes}
use Rattle.byteorder.specs.Numbers.{length-bytes_low_first}
use Rattle.guest_memory.specs.Memory.{with_part}
use Rattle.guest_memory.specs.Memory.{store}

pub length-with_part : (xs : List ℕ) (at : ℕ) (ws : List ℕ) → at + length ws ≤ length xs → length (with_part xs at ws) ≡ length xs
length-with_part xs at ws inside =
    omega (arith, length-append (take at xs) (ws ++ drop (at + length ws) xs), length-append ws (drop (at + length ws) xs), length-take at xs, length-drop (at + length ws) xs)

-- a store is such a list
pub store-is : (memory : List ℕ) (at width value : ℕ) → store memory at width value ≡ with_part memory at (little_bytes width value)
unfolding store
store-is memory at width value =
    ap (λ (n : ℕ). take at memory ++ (little_bytes width value ++ drop (at + n) memory)) (sym (length-bytes_low_first 0 width value))

take_behind : (xs ys : List ℕ) (n : ℕ) → take (length xs + n) (xs ++ ys) ≡ xs ++ take n ys
take_behind [] ys n = ap (λ (k : ℕ). take k ys) (omega arith)
take_behind (x ∷ xs) ys n = let e : length (x ∷ xs) + n ≡ suc (length xs + n) = omega arith in rw e (ap (λ (l : List ℕ). x ∷ l) (take_behind xs ys n))

in_front : (xs ys : List ℕ) (at : ℕ) (ws : List ℕ) → at + length ws ≤ length xs → with_part (xs ++ ys) at ws ≡ with_part xs at ws ++ ys
in_front xs ys at ws inside =
    ap (λ (l : List ℕ). l ++ (ws ++ drop (at + length ws) (xs ++ ys))) (take-append-le at xs ys (omega arith))
    ∙ ap (λ (l : List ℕ). take at xs ++ (ws ++ l)) (drop-append-le (at + length ws) xs ys inside)
    ∙ ap (λ (l : List ℕ). take at xs ++ l) (sym (append_assoc ws (drop (at + length ws) xs) ys))
    ∙ sym (append_assoc (take at xs) (ws ++ drop (at + length ws) xs) ys)

behind : (xs ys : List ℕ) (at : ℕ) (ws : List ℕ) → with_part (xs ++ ys) (length xs + at) ws ≡ xs ++ with_part ys at ws
behind xs ys at ws =
    let e : length xs + at + length ws ≡ length xs + (at + length ws) = omega arith in
    ap (λ (l : List ℕ). l ++ (ws ++ drop (length xs + at + length ws) (xs ++ ys))) (take_behind xs ys at)
    ∙ ap (λ (n : ℕ). (xs ++ take at ys) ++ (ws ++ drop n (xs ++ ys))) e
    ∙ ap (λ (l : List ℕ). (xs ++ take at ys) ++ (ws ++ l)) (sym (drop-drop (at + length ws) (length xs) (xs ++ ys)) ∙ ap (λ (l : List ℕ). drop (at + length ws) l) (drop_at xs ys (length xs) refl))
    ∙ append_assoc xs (take at ys) (ws ++ drop (at + length ws) ys)

module _ (all : List ℕ) (size : ℕ) (long : size ≤ length all) where
  abbrev front : List ℕ
  front = take size all

  abbrev rest : List ℕ
  rest = drop size all

  front_length : length front ≡ size
  front_length = length-take-le size all long

  pub take-part : (at : ℕ) (ws : List ℕ) → at + length ws ≤ size → take size (with_part all at ws) ≡ with_part front at ws
  take-part at ws inside =
      let room : at + length ws ≤ length front = omega (arith, front_length) in
      ap (λ (l : List ℕ). take size (with_part l at ws)) (sym (take-append-drop size all)) ∙ ap (λ (l : List ℕ). take size l) (in_front front rest at ws room)
      ∙ take_at (with_part front at ws) rest size (length-with_part front at ws room ∙ front_length)

  pub drop-part : (at : ℕ) (ws : List ℕ) → at + length ws ≤ size → drop size (with_part all at ws) ≡ rest
  drop-part at ws inside =
      let room : at + length ws ≤ length front = omega (arith, front_length) in
      ap (λ (l : List ℕ). drop size (with_part l at ws)) (sym (take-append-drop size all)) ∙ ap (λ (l : List ℕ). drop size l) (in_front front rest at ws room)
      ∙ drop_at (with_part front at ws) rest size (length-with_part front at ws room ∙ front_length)

  shifted : (at : ℕ) (ws : List ℕ) → with_part all (size + at) ws ≡ front ++ with_part rest at ws
  shifted at ws =
      ap (λ (l : List ℕ). with_part l (size + at) ws) (sym (take-append-drop size all)) ∙ ap (λ (n : ℕ). with_part (front ++ rest) (n + at) ws) (sym front_length)
      ∙ behind front rest at ws

  pub take-part_behind : (at : ℕ) (ws : List ℕ) → take size (with_part all (size + at) ws) ≡ front
  take-part_behind at ws = ap (λ (l : List ℕ). take size l) (shifted at ws) ∙ take_at front (with_part rest at ws) size front_length

  pub drop-part_behind : (at : ℕ) (ws : List ℕ) → drop size (with_part all (size + at) ws) ≡ with_part rest at ws
  drop-part_behind at ws = ap (λ (l : List ℕ). drop size l) (shifted at ws) ∙ drop_at front (with_part rest at ws) size front_length
