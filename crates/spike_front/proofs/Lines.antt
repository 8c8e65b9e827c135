-- The lines of words, from one word to the next.
use Rattle.std.proofs.Common.{◌≡◌, ◌∙◌, ◌<◌, ◌≤◌, ◌+◌, ◌-◌, ◌++◌, ℕ, List, [], ◌∷◌, length, drop, get_or, refl, ap, sym, add-one, append_assoc, append-nil, arith, drop-cons, length-drop}
use Rattle.fe_base.specs.Digits.{hexadecimal}
use Rattle.spike_front.specs.Listings.{word_lines, word_of}

drop-one : (bytes : List ℕ) (at : ℕ) → at < length bytes → drop at bytes ≡ get_or bytes at 0 ∷ drop (at + 1) bytes
drop-one bytes at low = rw add-one (drop-cons bytes at 0 low)

-- the four bytes from a place on, and those behind them
drop-four : (bytes : List ℕ) (at : ℕ) → at + 4 ≤ length bytes
    → drop at bytes ≡ get_or bytes at 0 ∷ get_or bytes (at + 1) 0 ∷ get_or bytes (at + 2) 0 ∷ get_or bytes (at + 3) 0 ∷ drop (at + 4) bytes
drop-four bytes at low =
    let two : at + 1 + 1 ≡ at + 2 = omega arith in
    let three : at + 2 + 1 ≡ at + 3 = omega arith in
    let four : at + 3 + 1 ≡ at + 4 = omega arith in
    let first : drop at bytes ≡ get_or bytes at 0 ∷ drop (at + 1) bytes = drop-one bytes at (omega arith) in
    let second : drop (at + 1) bytes ≡ get_or bytes (at + 1) 0 ∷ drop (at + 2) bytes = drop-one bytes (at + 1) (omega arith) ∙ ap (λ n. get_or bytes (at + 1) 0 ∷ drop n bytes) two in
    let third : drop (at + 2) bytes ≡ get_or bytes (at + 2) 0 ∷ drop (at + 3) bytes = drop-one bytes (at + 2) (omega arith) ∙ ap (λ n. get_or bytes (at + 2) 0 ∷ drop n bytes) three in
    let fourth : drop (at + 3) bytes ≡ get_or bytes (at + 3) 0 ∷ drop (at + 4) bytes = drop-one bytes (at + 3) (omega arith) ∙ ap (λ n. get_or bytes (at + 3) 0 ∷ drop n bytes) four in
    cc

-- one word more
pub line_step : (bytes whole text new : List ℕ) (at word : ℕ) → at + 4 ≤ length bytes
    → word ≡ word_of (get_or bytes at 0) (get_or bytes (at + 1) 0) (get_or bytes (at + 2) 0) (get_or bytes (at + 3) 0)
    → new ≡ text ++ (hexadecimal 8 word ++ 10 ∷ [])
    → whole ≡ text ++ word_lines (drop at bytes) → whole ≡ new ++ word_lines (drop (at + 4) bytes)
line_step bytes whole text new at word low is grown known =
    let line : List ℕ = hexadecimal 8 word ++ 10 ∷ [] in
    let rest : List ℕ = word_lines (drop (at + 4) bytes) in
    let here : word_lines (drop at bytes) ≡ hexadecimal 8 word ++ 10 ∷ rest =
    ap word_lines (drop-four bytes at low) ∙ ap (λ (w : ℕ). hexadecimal 8 w ++ 10 ∷ rest) (sym is) in
    known ∙ ap (λ (xs : List ℕ). text ++ xs) (here ∙ sym (append_assoc (hexadecimal 8 word) (10 ∷ []) rest))
    ∙ sym (append_assoc text line rest) ∙ ap (λ (xs : List ℕ). xs ++ rest) (sym grown)

short_lines : (bytes : List ℕ) → length bytes < 4 → word_lines bytes ≡ []
short_lines (a ∷ b ∷ c ∷ d ∷ bytes) low = absurd (omega (arith, low))
short_lines (a ∷ b ∷ c ∷ []) low = refl
short_lines (a ∷ b ∷ []) low = refl
short_lines (a ∷ []) low = refl
short_lines [] low = refl

-- behind the last word
pub lines_end : (bytes whole text : List ℕ) (at : ℕ) → length bytes - at < 4 → whole ≡ text ++ word_lines (drop at bytes) → text ≡ whole
lines_end bytes whole text at low known =
    sym (known ∙ ap (λ (xs : List ℕ). text ++ xs) (short_lines (drop at bytes) (omega (arith, length-drop at bytes))) ∙ append-nil text)
