-- The end of a text that is trimmed.
use Rattle.std.proofs.Common.{◌≡◌, ℕ, ◌-◌, ◌≤◌, Bool, true, false, List, [], ◌∷◌, ◌++◌, length, take, get_or, refl, sym}
use Rattle.std.proofs.Common.{ap, ◌∙◌, arith}
use Rattle.std.proofs.lemmas.Grind.{common_steps}
use Rattle.asm_text.specs.Layout.{is_blank, before_rest, without_end}

-- a blank at the end is dropped
pub without_end-blank : (bytes : List ℕ) (byte : ℕ) → is_blank byte ≡ true →
    without_end (bytes ++ byte ∷ []) ≡ without_end bytes
without_end-blank [] byte h = rw h refl
without_end-blank (first ∷ bytes) byte h =
    ap (λ (rest : List ℕ). before_rest first rest) (without_end-blank bytes byte h)

-- any other byte is kept
pub without_end-other : (bytes : List ℕ) (byte : ℕ) → is_blank byte ≡ false →
    without_end (bytes ++ byte ∷ []) ≡ bytes ++ byte ∷ []
without_end-other [] byte h = rw h refl
without_end-other (first ∷ []) byte h =
    ap (λ (rest : List ℕ). before_rest first rest) (without_end-other [] byte h)
without_end-other (first ∷ next ∷ bytes) byte h =
    ap (λ (rest : List ℕ). before_rest first rest) (without_end-other (next ∷ bytes) byte h)

parts : (bytes : List ℕ) → 1 ≤ length bytes →
    bytes ≡ take (length bytes - 1) bytes ++ get_or bytes (length bytes - 1) 0 ∷ []
parts bytes h = grind (arith, common_steps)

pub without_end-one : (bytes text : List ℕ) (blank : Bool) → 1 ≤ length bytes → without_end text ≡ without_end bytes →
    blank ≡ is_blank (get_or bytes (length bytes - 1) 0) → blank ≡ true →
    without_end text ≡ without_end (take (length bytes - 1) bytes)
without_end-one bytes text blank h same is true_is =
    same ∙ ap without_end (parts bytes h)
    ∙ without_end-blank (take (length bytes - 1) bytes) (get_or bytes (length bytes - 1) 0) (sym is ∙ true_is)

pub without_end-none : (bytes text : List ℕ) (blank : Bool) → 1 ≤ length bytes → without_end text ≡ without_end bytes →
    blank ≡ is_blank (get_or bytes (length bytes - 1) 0) → blank ≡ false →
    bytes ≡ without_end text
without_end-none bytes text blank h same is false_is =
    sym (same ∙ ap without_end (parts bytes h)
    ∙ without_end-other (take (length bytes - 1) bytes) (get_or bytes (length bytes - 1) 0) (sym is ∙ false_is)
    ∙ sym (parts bytes h))
