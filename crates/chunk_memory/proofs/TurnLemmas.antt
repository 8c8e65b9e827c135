-- How many transactions a range takes at most, step by step.
use Rattle.std.proofs.Common.{◌≡◌, ℕ, zero, suc, ◌+◌, ◌-◌, ◌<◌, ◌≤◌, true, false, refl, ap, arith}
use Rattle.chunk_memory.proofs.SizeLemmas.{step-fits}
use Rattle.chunk_memory.specs.Ports.{ArePortSizes}
use Rattle.chunk_memory.specs.Transactions.{begins_in_part, chunk_size, step_size}
use Rattle.chunk_memory.specs.Turns.{range_turns, write_step}

module _ (step : ℕ → ℕ → ℕ) (unit most : ℕ) (sizes : ArePortSizes unit most) where
  same-turns : (f g at count : ℕ) → count ≤ f → count ≤ g → range_turns step unit most f at count ≡ range_turns step unit most g at count
  same-turns f g at zero less few = none f g
    where
      none : (f g : ℕ) → range_turns step unit most f at zero ≡ range_turns step unit most g at zero
      none zero zero = refl
      none zero (suc g) = refl
      none (suc f) zero = refl
      none (suc f) (suc g) = refl
  same-turns zero g at (suc count) less few = absurd (omega arith)
  same-turns (suc f) zero at (suc count) less few = absurd (omega arith)
  same-turns (suc f) (suc g) at (suc count) less few =
      let fits = step-fits unit most at (suc count) sizes (omega arith) in
      ap (λ (n : ℕ). step at (suc count) + n) (same-turns f g (at + step_size unit most at (suc count)) (suc count - step_size unit most at (suc count)) (omega (arith, fits.some)) (omega (arith, fits.some)))

  -- the first step, and the rest
  pub turns-step : (at count : ℕ) → 0 < count → range_turns step unit most count at count ≡ step at count + range_turns step unit most (count - step_size unit most at count) (at + step_size unit most at count) (count - step_size unit most at count)
  turns-step at zero some = absurd (omega arith)
  turns-step at (suc count) some =
      let fits = step-fits unit most at (suc count) sizes some in
      ap (λ (n : ℕ). step at (suc count) + n) (same-turns count (suc count - step_size unit most at (suc count)) (at + step_size unit most at (suc count)) (suc count - step_size unit most at (suc count)) (omega (arith, fits.some)) (omega arith))

pub write_step-whole : (cost : ℕ → ℕ) (unit most at count : ℕ) → begins_in_part unit at count ≡ false → write_step cost unit most at count ≡ cost (chunk_size unit most at count)
write_step-whole cost unit most at count whole = rw whole refl

pub write_step-part : (cost : ℕ → ℕ) (unit most at count : ℕ) → begins_in_part unit at count ≡ true → write_step cost unit most at count ≡ cost unit + cost unit
write_step-part cost unit most at count part = rw part refl
