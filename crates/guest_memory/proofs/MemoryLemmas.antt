-- Loads and stores of a list of bytes: the two laws, lengths, and lists that are joined.
use Rattle.std.proofs.Common.{◌≡◌, ℕ, ◌+◌, ◌-◌, ◌^◌, ◌%◌, ◌≤◌, List, ◌++◌, length, take, drop, length-take, length-drop, length-append, take-append-drop, sym, ap, ◌∙◌, arith, ◌⊎◌, inl, inr}
use Rattle.std.proofs.lemmas.List.{take-append-le, drop-append-le, drop-drop, drop_at, take-take, drop-take, length-replicate, take-replicate, drop-replicate}
use Rattle.byteorder.specs.Endian.{little_number, little_bytes}
use Rattle.byteorder.specs.Numbers.{little_from-take, little_from-bytes, length-bytes_low_first}
use Rattle.guest_memory.specs.Memory.{zeros, load, store}
use Rattle.guest_memory.specs.MemoryLaws.{StoresLeave, LoadsGive}

-- a load reads no byte past its range
pub load-take : (memory : List ℕ) (place width : ℕ) → load memory place width ≡ little_number width (take width (drop place memory))
unfolding load
load-take memory place width = sym (little_from-take 0 width width (drop place memory) (omega arith))

same_part : (xs ys : List ℕ) (place other width : ℕ) → take width (drop place xs) ≡ take width (drop other ys) → load xs place width ≡ load ys other width
same_part xs ys place other width e = load-take xs place width ∙ ap (λ (l : List ℕ). little_number width l) e ∙ sym (load-take ys other width)

module _ (memory : List ℕ) (at width value : ℕ) (inside : at + width ≤ length memory) where
  abbrev part : List ℕ
  part = little_bytes width value

  abbrev after : List ℕ
  after = drop (at + width) memory

  abbrev whole : List ℕ
  whole = take at memory ++ (part ++ after)

  front_length : length (take at memory) ≡ at
  front_length = omega (arith, length-take at memory)

  part_length : length part ≡ width
  part_length = length-bytes_low_first 0 width value

  whole_length : length whole ≡ length memory
  whole_length = omega (arith, length-append (take at memory) (part ++ after), length-append part after, front_length, part_length, length-drop (at + width) memory)

  from_here : drop at whole ≡ part ++ after
  from_here = drop_at (take at memory) (part ++ after) at front_length

  before : (from size : ℕ) → from + size ≤ at → take size (drop from whole) ≡ take size (drop from memory)
  before from size low =
      ap (λ (l : List ℕ). take size l) (drop-append-le from (take at memory) (part ++ after) (omega (arith, front_length)))
      ∙ take-append-le size (drop from (take at memory)) (part ++ after) (omega (arith, front_length, length-drop from (take at memory)))
      ∙ sym (take-append-le size (drop from (take at memory)) (drop at memory) (omega (arith, front_length, length-drop from (take at memory))))
      ∙ ap (λ (l : List ℕ). take size l) (sym (drop-append-le from (take at memory) (drop at memory) (omega (arith, front_length))))
      ∙ ap (λ (l : List ℕ). take size (drop from l)) (take-append-drop at memory)

  beyond : (from : ℕ) → at + width ≤ from → drop from whole ≡ drop from memory
  beyond from high =
      let k = from - (at + width) in
      let e : from ≡ at + width + k = omega arith in
      ap (λ (j : ℕ). drop j whole) e ∙ sym (drop-drop k (at + width) whole)
      ∙ ap (λ (l : List ℕ). drop k l) (sym (drop-drop width at whole) ∙ ap (λ (l : List ℕ). drop width l) from_here ∙ drop_at part after width part_length)
      ∙ drop-drop k (at + width) memory ∙ ap (λ (j : ℕ). drop j memory) (sym e)

  apart : (from size : ℕ) → (from + size ≤ at) ⊎ (at + width ≤ from) → take size (drop from whole) ≡ take size (drop from memory)
  apart from size (inl low) = before from size low
  apart from size (inr high) = ap (λ (l : List ℕ). take size l) (beyond from high)

-- a store leaves the length
pub length-store : (memory : List ℕ) (at width value : ℕ) → at + width ≤ length memory → length (store memory at width value) ≡ length memory
unfolding store
length-store memory at width value inside = whole_length memory at width value inside

pub stores_leave : StoresLeave
unfolding store
stores_leave memory at width value from size inside clear =
    same_part (whole memory at width value inside) memory from from size (apart memory at width value inside from size clear)

pub loads_give : LoadsGive
unfolding load store
loads_give memory at width value inside =
    ap (λ (l : List ℕ). little_number width l) (from_here memory at width value inside) ∙ little_from-bytes width 0 value (after memory at width value inside) ∙ ap (λ (n : ℕ). n % 256 ^ width) (omega arith)

-- a part of a list in front: a range inside it, and a load of one
pub part-front : (memory : List ℕ) (size place width : ℕ) → place + width ≤ size → take width (drop place (take size memory)) ≡ take width (drop place memory)
part-front memory size place width inside =
    let e : size ≡ place + (size - place) = omega arith in
    ap (λ (n : ℕ). take width (drop place (take n memory))) e ∙ ap (λ (l : List ℕ). take width l) (drop-take place (size - place) memory) ∙ take-take width (size - place) (drop place memory) (omega arith)

pub load-front : (memory : List ℕ) (size place width : ℕ) → place + width ≤ size → load (take size memory) place width ≡ load memory place width
load-front memory size place width inside = same_part (take size memory) memory place place width (part-front memory size place width inside)

-- the rest of a list
pub load-rest : (memory : List ℕ) (size place width : ℕ) → load (drop size memory) place width ≡ load memory (size + place) width
unfolding load
load-rest memory size place width = ap (λ (l : List ℕ). little_number width l) (drop-drop place size memory)

pub length-zeros : (size : ℕ) → length (zeros size) ≡ size
unfolding zeros
length-zeros size = length-replicate size 0

pub take-zeros : (m n : ℕ) → m ≤ n → take m (zeros n) ≡ zeros m
unfolding zeros
take-zeros m n less = take-replicate m n 0 less

pub drop-zeros : (m n : ℕ) → drop m (zeros n) ≡ zeros (n - m)
unfolding zeros
drop-zeros m n = drop-replicate m n 0

pub ruleset lengths = (length-store, length-zeros)
