-- Cutting texts whose bytes pass a test that the byte at which they are cut does not.
use Rattle.std.proofs.Common.{◌≡◌, ℕ, Bool, true, false, ◌&&◌, ◌==◌, List, [], ◌∷◌, ◌++◌, Some, None, refl, sym, ap}
use Rattle.std.proofs.Common.{◌∙◌, arith}
use Rattle.std.proofs.lemmas.Bool.{false≢true}
use Rattle.std.proofs.lemmas.Bool.Decides.{nat_tests}
use Rattle.std.specs.List.{list_all}
use Rattle.asm_table.specs.Cuts.{before, behind}

pub and_first : (a b : Bool) → (a && b) ≡ true → a ≡ true
and_first true b h = refl
and_first false b h = h

pub and_second : (a b : Bool) → (a && b) ≡ true → b ≡ true
and_second true b h = h
and_second false b h = absurd (false≢true h)

same-byte : (n : ℕ) → (n == n) ≡ true
same-byte n = grind (arith, nat_tests)

other-byte : (a b : ℕ) → (a ≡ b → ⊥) → (a == b) ≡ false
other-byte a b h = grind (arith, nat_tests)

-- a byte that passes the test is not the one that does not
pub differs : (test : ℕ → Bool) (stop byte : ℕ) → test stop ≡ false → test byte ≡ true → (byte == stop) ≡ false
differs test stop byte fails passes =
    other-byte byte stop (λ e. false≢true (sym fails ∙ ap test (sym e) ∙ passes))

pub before-stop : (test : ℕ → Bool) (stop : ℕ) (bytes rest : List ℕ) → test stop ≡ false → list_all test bytes ≡ true →
    before stop (bytes ++ stop ∷ rest) ≡ bytes
before-stop test stop [] rest fails all = rw (same-byte stop) refl
before-stop test stop (byte ∷ bytes) rest fails all =
    rw (differs test stop byte fails (and_first (test byte) (list_all test bytes) all))
    (ap (λ (xs : List ℕ). byte ∷ xs)
    (before-stop test stop bytes rest fails (and_second (test byte) (list_all test bytes) all)))

pub behind-stop : (test : ℕ → Bool) (stop : ℕ) (bytes rest : List ℕ) → test stop ≡ false → list_all test bytes ≡ true →
    behind stop (bytes ++ stop ∷ rest) ≡ Some rest
behind-stop test stop [] rest fails all = rw (same-byte stop) refl
behind-stop test stop (byte ∷ bytes) rest fails all =
    rw (differs test stop byte fails (and_first (test byte) (list_all test bytes) all))
    (behind-stop test stop bytes rest fails (and_second (test byte) (list_all test bytes) all))

pub before-all : (test : ℕ → Bool) (stop : ℕ) (bytes : List ℕ) → test stop ≡ false → list_all test bytes ≡ true →
    before stop bytes ≡ bytes
before-all test stop [] fails all = refl
before-all test stop (byte ∷ bytes) fails all =
    rw (differs test stop byte fails (and_first (test byte) (list_all test bytes) all))
    (ap (λ (xs : List ℕ). byte ∷ xs)
    (before-all test stop bytes fails (and_second (test byte) (list_all test bytes) all)))

pub behind-none : (test : ℕ → Bool) (stop : ℕ) (bytes : List ℕ) → test stop ≡ false → list_all test bytes ≡ true →
    behind stop bytes ≡ None
behind-none test stop [] fails all = refl
behind-none test stop (byte ∷ bytes) fails all =
    rw (differs test stop byte fails (and_first (test byte) (list_all test bytes) all))
    (behind-none test stop bytes fails (and_second (test byte) (list_all test bytes) all))
