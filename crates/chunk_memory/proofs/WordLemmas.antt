-- Bytes as doublewords.
use Rattle.std.proofs.Common.{◌≡◌, ℕ, zero, suc, ◌+◌, ◌-◌, ◌*◌, ◌^◌, ◌<◌, ◌≤◌, List, [], ◌∷◌, ◌++◌, length, take, drop, get_or, length-take, length-drop, take-append-drop, refl, sym, ap, subst, ◌∙◌, arith, inl, inr}
use Rattle.std.specs.Int.{to_le_bytes, from_le_bytes, bytes_low_first, byte_at, w32, w64}
use Rattle.std.proofs.lemmas.Grind.{common_steps}
use Rattle.std.proofs.lemmas.Bool.{cases_lt}
use Rattle.std.proofs.lemmas.List.{length-take-le, get_or-take, get_or-drop, get_or_past, nil_from_length}
use Rattle.std.proofs.lemmas.Nat.{le_bytes_8}
use Rattle.byteorder.specs.Endian.{little_number}
use Rattle.byteorder.specs.Numbers.{little_from-take}
use Rattle.guest_memory.specs.Memory.{with_part}
use Rattle.chunk_memory.specs.BeatChunks.{bytes_of, AreDoublewords}

abbrev pub words : ℕ → List ℕ → List ℕ
words zero bytes = []
words (suc count) bytes = from_le_bytes w64 (take 8 bytes) ∷ words count (drop 8 bytes)

abbrev pub AreSmall : List ℕ → Type 0
AreSmall bytes = (k : ℕ) → get_or bytes k 0 < 256

pub small-drop : (n : ℕ) (bytes : List ℕ) → AreSmall bytes → AreSmall (drop n bytes)
small-drop n bytes small k = subst (λ (x : ℕ). x < 256) (sym (get_or-drop n bytes k 0)) (small (n + k))

first-small : (bytes : List ℕ) → AreSmall bytes → (k : ℕ) → k < 8 → get_or (take 8 bytes) k 0 < 256
first-small bytes small k less = subst (λ (x : ℕ). x < 256) (sym (get_or-take 8 bytes k 0 less)) (small k)

first-past : (bytes : List ℕ) → AreSmall bytes → (k : ℕ) → get_or (take 8 bytes) k 0 < 256
first-past bytes small k = elim (cases_lt k 8) [ inl less ↦ first-small bytes small k less | inr past ↦ grind (arith, length-take 8 bytes, get_or_past (take 8 bytes) k 0) ]

pub number-of : (l : List ℕ) → little_number 8 l ≡ from_le_bytes w64 l
number-of l = omega arith

word-fits : (l : List ℕ) → ((k : ℕ) → k < 8 → get_or l k 0 < 256) → little_number 8 l < 2 ^ 64
word-fits l small = omega (arith, small 0 (omega arith), small 1 (omega arith), small 2 (omega arith), small 3 (omega arith), small 4 (omega arith), small 5 (omega arith), small 6 (omega arith), small 7 (omega arith))

pub words-fit : (count : ℕ) (bytes : List ℕ) → AreSmall bytes → AreDoublewords (words count bytes)
words-fit zero bytes small = tt
words-fit (suc count) bytes small =
    let here : little_number 8 (take 8 bytes) < 2 ^ 64 = word-fits (take 8 bytes) (first-small bytes small) in
    (subst (λ (n : ℕ). n < 2 ^ 64) (number-of (take 8 bytes)) here, words-fit count (drop 8 bytes) (small-drop 8 bytes small))

pub words-bytes : (count : ℕ) (bytes : List ℕ) → AreSmall bytes → length bytes ≡ 8 * count → bytes ≡ bytes_of (words count bytes)
words-bytes zero bytes small long = nil_from_length bytes (omega arith)
words-bytes (suc count) bytes small long =
    let eight : length (take 8 bytes) ≡ 8 = length-take-le 8 bytes (omega arith) in
    let word : to_le_bytes w64 (from_le_bytes w64 (take 8 bytes)) ≡ take 8 bytes = le_bytes_8 (take 8 bytes) (from_le_bytes w64 (take 8 bytes)) eight (first-past bytes small) refl in
    let rest = words-bytes count (drop 8 bytes) (small-drop 8 bytes small) (omega (arith, length-drop 8 bytes)) in
    sym (take-append-drop 8 bytes) ∙ ap (λ (l : List ℕ). l ++ drop 8 bytes) (sym word) ∙ ap (λ (l : List ℕ). to_le_bytes w64 (from_le_bytes w64 (take 8 bytes)) ++ l) rest

pub length-words : (count : ℕ) (bytes : List ℕ) → length (words count bytes) ≡ count
length-words zero bytes = refl
length-words (suc count) bytes = ap (λ (n : ℕ). suc n) (length-words count (drop 8 bytes))

-- the first number of some bytes
pub first-number : (bytes : List ℕ) → AreSmall bytes → 8 ≤ length bytes → (little_number 8 bytes < 2 ^ 64) × (to_le_bytes w64 (little_number 8 bytes) ≡ take 8 bytes)
first-number bytes small some =
    let eight : length (take 8 bytes) ≡ 8 = length-take-le 8 bytes some in
    let same : little_number 8 bytes ≡ little_number 8 (take 8 bytes) = sym (little_from-take 0 8 8 bytes (omega arith)) in
    let word : to_le_bytes w64 (from_le_bytes w64 (take 8 bytes)) ≡ take 8 bytes = le_bytes_8 (take 8 bytes) (from_le_bytes w64 (take 8 bytes)) eight (first-past bytes small) refl in
    let fits : little_number 8 (take 8 bytes) < 2 ^ 64 = word-fits (take 8 bytes) (first-small bytes small) in
    (subst (λ (n : ℕ). n < 2 ^ 64) (sym same) fits, ap (λ (n : ℕ). to_le_bytes w64 n) (same ∙ number-of (take 8 bytes)) ∙ word)

-- ---- lists of bytes
pub small-append : (xs ys : List ℕ) → AreSmall xs → AreSmall ys → AreSmall (xs ++ ys)
small-append xs ys front back place =
    let here = front place in
    let there = back (place - length xs) in
    grind (arith, common_steps)

pub small-take : (n : ℕ) (xs : List ℕ) → AreSmall xs → AreSmall (take n xs)
small-take n xs all place = let here = all place in grind (arith, common_steps)

byte-small : (i n : ℕ) → byte_at i n < 256
byte-small zero n = omega arith
byte-small (suc i) n = omega arith

low-small : (i n value : ℕ) → AreSmall (bytes_low_first i n value)
low-small i zero value place = grind (arith, common_steps)
low-small i (suc n) value zero = byte-small i value
low-small i (suc n) value (suc place) = low-small (suc i) n value place

-- the bytes of a doubleword
pub word-small : (value : ℕ) → AreSmall (to_le_bytes w64 value)
word-small value = low-small 0 8 value

pub part-small : (memory part : List ℕ) (place : ℕ) → AreSmall memory → AreSmall part → AreSmall (with_part memory place part)
part-small memory part place all small =
    small-append (take place memory) (part ++ drop (place + length part) memory) (small-take place memory all)
    (small-append part (drop (place + length part) memory) small (small-drop (place + length part) memory all))

-- the same of words of 4 bytes
word-fits-4 : (l : List ℕ) → ((k : ℕ) → k < 4 → get_or l k 0 < 256) → little_number 4 l < 2 ^ 32
word-fits-4 l small = omega (arith, small 0 (omega arith), small 1 (omega arith), small 2 (omega arith), small 3 (omega arith))

number-of-4 : (l : List ℕ) → little_number 4 l ≡ from_le_bytes w32 l
number-of-4 l = omega arith

pub half-fits : (l : List ℕ) → AreSmall l → from_le_bytes w32 l < 2 ^ 32
half-fits l small = subst (λ (n : ℕ). n < 2 ^ 32) (number-of-4 l) (word-fits-4 l (λ k less. small k))

pub word-is-fit : (l : List ℕ) → AreSmall l → from_le_bytes w64 l < 2 ^ 64
word-is-fit l small = subst (λ (n : ℕ). n < 2 ^ 64) (number-of l) (word-fits l (λ k less. small k))
