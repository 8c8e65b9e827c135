-- What holds of each number of the host's table, and of every other, holds of each number.
use Rattle.std.proofs.Common.{◌≡◌, ℕ, Bool, true, false, refl, sym, subst}
use Rattle.std.specs.Prelude.{◌==◌}
use Rattle.std.proofs.lemmas.Bool.{eqb-true}

-- a number that stands in no row of the table
pub record InNoRow (n : ℕ) : Type 0 where
  pub not_34 : (n == 34) ≡ false
  pub not_35 : (n == 35) ≡ false
  pub not_46 : (n == 46) ≡ false
  pub not_48 : (n == 48) ≡ false
  pub not_56 : (n == 56) ≡ false
  pub not_57 : (n == 57) ≡ false
  pub not_62 : (n == 62) ≡ false
  pub not_63 : (n == 63) ≡ false
  pub not_64 : (n == 64) ≡ false
  pub not_67 : (n == 67) ≡ false
  pub not_68 : (n == 68) ≡ false
  pub not_80 : (n == 80) ≡ false
  pub not_93 : (n == 93) ≡ false
  pub not_94 : (n == 94) ≡ false
  pub not_2011 : (n == 2011) ≡ false

module _ (Q : ℕ → Type 0) where
  -- a number, or another one
  test : (number literal : ℕ) → Q literal → ((number == literal) ≡ false → Q number) → Q number
  test number literal here other = go (number == literal) refl
    where
      go : (t : Bool) → (number == literal) ≡ t → Q number
      go true e = subst Q (sym (eqb-true number literal e)) here
      go false e = other e

  pub each-number : Q 34 → Q 35 → Q 46 → Q 48 → Q 56 → Q 57 → Q 62 → Q 63 → Q 64 → Q 67 → Q 68 → Q 80 → Q 93 → Q 94 → Q 2011 → ((n : ℕ) → InNoRow n → Q n) → (n : ℕ) → Q n
  each-number q34 q35 q46 q48 q56 q57 q62 q63 q64 q67 q68 q80 q93 q94 q2011 others n =
      test n 34 q34 (λ a. test n 35 q35 (λ b. test n 46 q46 (λ c. test n 48 q48 (λ d. test n 56 q56 (λ e.
      test n 57 q57 (λ f. test n 62 q62 (λ g. test n 63 q63 (λ h. test n 64 q64 (λ i. test n 67 q67 (λ j.
      test n 68 q68 (λ k. test n 80 q80 (λ l. test n 93 q93 (λ m. test n 94 q94 (λ o. test n 2011 q2011 (λ p.
      others n (record {
        not_34 = a;
        not_35 = b;
        not_46 = c;
        not_48 = d;
        not_56 = e;
        not_57 = f;
        not_62 = g;
        not_63 = h;
        not_64 = i;
        not_67 = j;
        not_68 = k;
        not_80 = l;
        not_93 = m;
        not_94 = o;
        not_2011 = p;
      }))))))))))))))))
