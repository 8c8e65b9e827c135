-- What byteorder reads is the list of doublewords.
use Rattle.std.proofs.Common.{◌≡◌, ℕ, zero, suc, ◌*◌, List, [], ◌∷◌, length, drop, sym, ap, ◌∙◌, arith}
use Rattle.std.proofs.lemmas.List.{drop-drop, nil_from_length}
use Rattle.byteorder.specs.Endian.{IsRead, little_number}
use Rattle.syscall_proxy.specs.Request.{doublewords}

-- the places of the words behind the first
pub next-place : (k : ℕ) (bytes : List ℕ) → drop (8 * k) (drop 8 bytes) ≡ drop (8 * (suc k)) bytes
next-place k bytes = drop-drop (8 * k) 8 bytes ∙ ap (λ n. drop n bytes) (omega arith)

-- no word is not one and more
no-word : (n : ℕ) → 0 ≡ suc n → ⊥
no-word n e = omega (arith, e)

pub read-all : (n : ℕ) (bytes words : List ℕ) → length words ≡ n → IsRead little_number 8 bytes words → words
    ≡ doublewords n bytes
read-all zero bytes words len read = nil_from_length words len
read-all (suc n) bytes [] len read = absurd (no-word n len)
read-all (suc n) bytes (word ∷ words) len read =
    let first : word ≡ little_number 8 bytes = read 0 (omega arith) in
    let rest : words ≡ doublewords n (drop 8 bytes) =
    read-all n (drop 8 bytes) words (omega (arith, len))
    (λ k small. read (suc k) (omega (arith, small)) ∙ ap (little_number 8) (sym (next-place k bytes))) in
    ap (λ x. x ∷ words) first ∙ ap (λ xs. little_number 8 bytes ∷ xs) rest
