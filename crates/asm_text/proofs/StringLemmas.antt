-- What a string holds, byte by byte.
use Rattle.std.proofs.Common.{◌≡◌, ℕ, ◌<◌, true, false, cond, List, [], ◌∷◌, ◌++◌, length, Option, Some, None, refl, ap}
use Rattle.std.proofs.Common.{append_assoc, length-append, arith}
use Rattle.std.proofs.lemmas.Bool.Decides.{nat_tests}
use Rattle.asm_text.specs.Pieces.{is_empty, short, string_rest, with_front}
use Rattle.asm_text.specs.declared.strings.Step.{Step}
use Rattle.asm_text.specs.declared.strings.Step.TheVariants.{Add, Backslash, End, Bad}

-- one byte more before the rest
pub with_front_one : (front : List ℕ) (byte : ℕ) (rest : Option (List ℕ)) →
    with_front (front ++ byte ∷ []) rest ≡ with_front front (with_front (byte ∷ []) rest)
with_front_one front byte None = refl
with_front_one front byte (Some rest) = ap (λ (bytes : List ℕ). Some bytes) (append_assoc front (byte ∷ []) rest)

long : (bytes : List ℕ) → 1024 < length bytes → short (Some bytes) ≡ None
long bytes h = grind (arith, nat_tests)

-- what begins with 1,024 bytes and one more is too long
pub short_full : (front : List ℕ) (byte : ℕ) (rest : Option (List ℕ)) → length front ≡ 1024 →
    short (with_front front (with_front (byte ∷ []) rest)) ≡ None
short_full front byte None full = refl
short_full front byte (Some rest) full =
    long (front ++ (byte ∷ rest)) (omega (arith, length-append front (byte ∷ rest)))

-- what a string holds after a step
abbrev pub stepped : Step → List ℕ → Option (List ℕ)
stepped step bytes = elim step [
  | Add added ↦ with_front (added ∷ []) (string_rest false bytes)
  | Backslash ↦ string_rest true bytes
  | End ↦ cond (is_empty bytes) (Some []) None
  | Bad ↦ None
]
