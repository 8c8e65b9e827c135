-- A range over a port of doublewords takes a transaction for each doubleword that it meets, and a write one more for each
-- end that does not fill its doubleword.
use Rattle.std.proofs.Common.{◌≡◌, ℕ, zero, suc, ◌+◌, ◌-◌, ◌*◌, ◌/◌, ◌%◌, ◌<◌, ◌≤◌, min, Bool, true, false, refl, sym, ap, ◌∙◌, arith, inl, inr}
use Rattle.std.proofs.lemmas.Bool.{cases_lt}
use Rattle.chunk_memory.proofs.SizeLemmas.{StepFits, step-fits, step_size-part, step_size-whole, chunk_size-part, chunk_size-whole, whole-is, part-is}
use Rattle.chunk_memory.proofs.TurnLemmas.{turns-step, write_step-part, write_step-whole}
use Rattle.chunk_memory.specs.BeatLaws.{direct_sizes}
use Rattle.chunk_memory.specs.Transactions.{begins_in_part, step_size}
use Rattle.chunk_memory.specs.Turns.{range_turns, read_step, read_turns, write_step, write_turns, doublewords_met, open_ends}

-- a doubleword is one transaction
abbrev pub one_each : ℕ → ℕ
one_each count = count / 8

rest-none : (step : ℕ → ℕ → ℕ) (at count : ℕ) → count ≡ 0 → range_turns step 8 1024 count at count ≡ 0
rest-none step at zero e = refl
rest-none step at (suc count) e = absurd (omega arith)

units : (count : ℕ) → min (count / 8 * 8) 1024 % 8 ≡ 0
units count = omega arith

-- ---- reads
part-met : (at count size rest : ℕ) → 0 < size → size ≡ min count (8 - at % 8) → (count - size ≡ 0 → rest ≡ 0) → (0 < count - size → rest ≤ doublewords_met (at + size) (count - size)) → 1 + rest ≤ doublewords_met at count
part-met at count size rest some is none more = elim (cases_lt size count) [
  | inl less ↦ omega (arith, more (omega arith))
  | inr past ↦ omega (arith, none (omega arith))
]

whole-met : (at count size rest : ℕ) → at % 8 ≡ 0 → 0 < size → size ≤ count → size % 8 ≡ 0 → (count - size ≡ 0 → rest ≡ 0) → (0 < count - size → rest ≤ doublewords_met (at + size) (count - size)) → size / 8 + rest ≤ doublewords_met at count
whole-met at count size rest even some within whole none more = elim (cases_lt size count) [
  | inl less ↦ omega (arith, more (omega arith))
  | inr past ↦ omega (arith, none (omega arith))
]

read-by : (at count rest : ℕ) → StepFits 8 1024 at count → (count - step_size 8 1024 at count ≡ 0 → rest ≡ 0)
    → (0 < count - step_size 8 1024 at count → rest ≤ doublewords_met (at + step_size 8 1024 at count) (count - step_size 8 1024 at count))
    → (b : Bool) → begins_in_part 8 at count ≡ b → read_step one_each 8 1024 at count + rest ≤ doublewords_met at count
read-by at count rest fits none more true part =
    let one : read_step one_each 8 1024 at count ≡ 1 = ap one_each (chunk_size-part 8 1024 at count part) in
    omega (arith, one, part-met at count (step_size 8 1024 at count) rest fits.some (step_size-part 8 1024 at count part) none more)
read-by at count rest fits none more false whole =
    let size = step_size-whole 8 1024 at count whole in
    let same : read_step one_each 8 1024 at count ≡ step_size 8 1024 at count / 8 = ap one_each (chunk_size-whole 8 1024 at count whole ∙ sym size) in
    let even : step_size 8 1024 at count % 8 ≡ 0 = ap (λ (n : ℕ). n % 8) size ∙ units count in
    omega (arith, same, whole-met at count (step_size 8 1024 at count) rest (whole-is 8 at count whole).0 fits.some fits.within even none more)

direct-read-turns : (fuel at count : ℕ) → count ≤ fuel → 0 < count → read_turns one_each 8 1024 at count ≤ doublewords_met at count
direct-read-turns zero at count less some = absurd (omega arith)
direct-read-turns (suc fuel) at count less some =
    let k : ℕ = step_size 8 1024 at count in
    let fits = step-fits 8 1024 at count direct_sizes some in
    let rest : ℕ = read_turns one_each 8 1024 (at + k) (count - k) in
    let all = turns-step (read_step one_each 8 1024) 8 1024 direct_sizes at count some in
    let first = read-by at count rest fits (rest-none (read_step one_each 8 1024) (at + k) (count - k))
    (λ left. direct-read-turns fuel (at + k) (count - k) (omega (arith, fits.some)) left) (begins_in_part 8 at count) refl in
    omega (arith, all, first)

-- ---- writes
part-open : (at count size rest : ℕ) → 0 < size → size ≡ min count (8 - at % 8) → (at % 8 ≡ 0 → count < 8) → (count - size ≡ 0 → rest ≡ 0)
    → (0 < count - size → rest ≤ doublewords_met (at + size) (count - size) + open_ends (at + size) (count - size)) → 2 + rest ≤ doublewords_met at count + open_ends at count
part-open at count size rest some is part none more = elim (cases_lt size count) [
  | inl less ↦ elim (cases_lt 0 (at % 8)) [
    | inl uneven ↦ omega (arith, more (omega arith))
    | inr even ↦ let few : count < 8 = part (omega arith) in absurd (omega arith)
  ]
  | inr past ↦ elim (cases_lt 0 (at % 8)) [
    | inl uneven ↦ omega (arith, none (omega arith))
    | inr even ↦ let few : count < 8 = part (omega arith) in omega (arith, none (omega arith))
  ]
]

whole-open : (at count size rest : ℕ) → at % 8 ≡ 0 → 0 < size → size ≤ count → size % 8 ≡ 0 → (count - size ≡ 0 → rest ≡ 0)
    → (0 < count - size → rest ≤ doublewords_met (at + size) (count - size) + open_ends (at + size) (count - size)) → size / 8 + rest ≤ doublewords_met at count + open_ends at count
whole-open at count size rest even some within whole none more = elim (cases_lt size count) [
  | inl less ↦ omega (arith, more (omega arith))
  | inr past ↦ omega (arith, none (omega arith))
]

write-by : (at count rest : ℕ) → StepFits 8 1024 at count → (count - step_size 8 1024 at count ≡ 0 → rest ≡ 0)
    → (0 < count - step_size 8 1024 at count → rest ≤ doublewords_met (at + step_size 8 1024 at count) (count - step_size 8 1024 at count) + open_ends (at + step_size 8 1024 at count) (count - step_size 8 1024 at count))
    → (b : Bool) → begins_in_part 8 at count ≡ b → write_step one_each 8 1024 at count + rest ≤ doublewords_met at count + open_ends at count
write-by at count rest fits none more true part =
    let two : write_step one_each 8 1024 at count ≡ 2 = write_step-part one_each 8 1024 at count part in
    omega (arith, two, part-open at count (step_size 8 1024 at count) rest fits.some (step_size-part 8 1024 at count part) (part-is 8 at count part) none more)
write-by at count rest fits none more false whole =
    let size = step_size-whole 8 1024 at count whole in
    let same : write_step one_each 8 1024 at count ≡ step_size 8 1024 at count / 8 = write_step-whole one_each 8 1024 at count whole ∙ ap one_each (chunk_size-whole 8 1024 at count whole ∙ sym size) in
    let even : step_size 8 1024 at count % 8 ≡ 0 = ap (λ (n : ℕ). n % 8) size ∙ units count in
    omega (arith, same, whole-open at count (step_size 8 1024 at count) rest (whole-is 8 at count whole).0 fits.some fits.within even none more)

direct-write-turns : (fuel at count : ℕ) → count ≤ fuel → 0 < count → write_turns one_each 8 1024 at count ≤ doublewords_met at count + open_ends at count
direct-write-turns zero at count less some = absurd (omega arith)
direct-write-turns (suc fuel) at count less some =
    let k : ℕ = step_size 8 1024 at count in
    let fits = step-fits 8 1024 at count direct_sizes some in
    let rest : ℕ = write_turns one_each 8 1024 (at + k) (count - k) in
    let all = turns-step (write_step one_each 8 1024) 8 1024 direct_sizes at count some in
    let first = write-by at count rest fits (rest-none (write_step one_each 8 1024) (at + k) (count - k))
    (λ left. direct-write-turns fuel (at + k) (count - k) (omega (arith, fits.some)) left) (begins_in_part 8 at count) refl in
    omega (arith, all, first)

-- ---- any range
pub read_turns_met : (at count : ℕ) → read_turns one_each 8 1024 at count ≤ doublewords_met at count
read_turns_met at zero = omega arith
read_turns_met at (suc count) = direct-read-turns (suc count) at (suc count) (omega arith) (omega arith)

pub write_turns_met : (at count : ℕ) → write_turns one_each 8 1024 at count ≤ doublewords_met at count + open_ends at count
write_turns_met at zero = omega arith
write_turns_met at (suc count) = direct-write-turns (suc count) at (suc count) (omega arith) (omega arith)
