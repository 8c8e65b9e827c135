-- The pointers of main vars, which go on modulo 2^64.
use Rattle.std.proofs.Common.{◌≡◌, ℕ, zero, suc, ◌+◌, ◌*◌, ◌-◌, ◌<◌, ◌≤◌, ◌/◌, ◌%◌, ◌^◌, List, [], ◌∷◌, ◌++◌, length}
use Rattle.std.proofs.Common.{drop, Some, refl, ap, sym, subst, ◌∙◌, arith, append_assoc, length-append}
use Rattle.std.specs.Prelude.{slice_get}
use Rattle.elf_loader.proofs.Texts.{drop-got, pointers_preserved}
use Rattle.elf_loader.specs.MainVars.{dword, pointers, texts_with_nuls}

same_list : {x y : ℕ} {xs ys : List ℕ} → x ≡ y → xs ≡ ys → x ∷ xs ≡ y ∷ ys
same_list {x} {y} {xs} {ys} e f = ap (λ z. z ∷ xs) e ∙ ap (λ zs. y ∷ zs) f

-- numbers with the same low 64 bits have the same 8 bytes
pub dword-same : (m n : ℕ) → m % 2 ^ 64 ≡ n % 2 ^ 64 → dword m ≡ dword n
dword-same m n same =
    let a : m % 256 ≡ n % 256 = omega (arith, same) in
    let b : m / 256 ^ 1 % 256 ≡ n / 256 ^ 1 % 256 = omega (arith, same) in
    let c : m / 256 ^ 2 % 256 ≡ n / 256 ^ 2 % 256 = omega (arith, same) in
    let d : m / 256 ^ 3 % 256 ≡ n / 256 ^ 3 % 256 = omega (arith, same) in
    let e : m / 256 ^ 4 % 256 ≡ n / 256 ^ 4 % 256 = omega (arith, same) in
    let f : m / 256 ^ 5 % 256 ≡ n / 256 ^ 5 % 256 = omega (arith, same) in
    let g : m / 256 ^ 6 % 256 ≡ n / 256 ^ 6 % 256 = omega (arith, same) in
    let h : m / 256 ^ 7 % 256 ≡ n / 256 ^ 7 % 256 = omega (arith, same) in
    same_list a (same_list b (same_list c (same_list d (same_list e (same_list f (same_list g (same_list h refl)))))))

-- pointers go on modulo 2^64
pub pointers-same : (m n : ℕ) (args : List (List ℕ)) → m % 2 ^ 64 ≡ n % 2 ^ 64 → pointers m args ≡ pointers n args
pointers-same m n [] same = refl
pointers-same m n (text ∷ texts) same =
    let next : (m + (length text + 1)) % 2 ^ 64 ≡ (n + (length text + 1)) % 2 ^ 64 = omega (arith, same) in
    ap (λ bytes. bytes ++ pointers (m + (length text + 1)) texts) (dword-same m n same)
    ∙ ap (λ bytes. dword n ++ bytes) (pointers-same (m + (length text + 1)) (n + (length text + 1)) texts next)

-- one pointer more
pub pointers_wrapped : (args : List (List ℕ)) (i at wrapped : ℕ) (text old new all : List ℕ) → slice_get args i
    ≡ Some text → wrapped ≡ (at + (length text + 1)) % 2 ^ 64
    → new ≡ old ++ dword at → old ++ pointers at (drop i args) ≡ all → new ++ pointers wrapped (drop (i + 1) args) ≡ all
pointers_wrapped args i at wrapped text old new all h w e inv =
    let same : wrapped % 2 ^ 64 ≡ (at + (length text + 1)) % 2 ^ 64 = omega (arith, w) in
    ap (λ bytes. new ++ bytes) (pointers-same wrapped (at + (length text + 1)) (drop (i + 1) args) same)
    ∙ pointers_preserved args i at text old new all h e inv

-- ---- how long they are

pub dword-room : (new old : List ℕ) (n : ℕ) → new ≡ old ++ dword n → length new ≡ length old + 8
dword-room new old n e = ap length e ∙ length-append old (dword n)

length-pointers : (at : ℕ) (args : List (List ℕ)) → length (pointers at args) ≡ 8 * length args
length-pointers at [] = refl
length-pointers at (text ∷ texts) = let rest = length-pointers (at + (length text + 1)) texts in omega (arith, rest)

pub pointers-room : (new old : List ℕ) (at : ℕ) (args : List (List ℕ)) → new ≡ old ++ pointers at args → length new
    ≡ length old + 8 * length args
pointers-room new old at args e =
    ap length e ∙ length-append old (pointers at args) ∙ ap (λ n. length old + n) (length-pointers at args)

-- ---- all of them

pub vars-joined : (held behind first second whole : List ℕ) (at place : ℕ) (args : List (List ℕ)) → held
    ≡ dword (length args) → behind ≡ held ++ pointers at args → at % 2 ^ 64 ≡ place % 2 ^ 64
    → first ≡ behind ++ dword 0 → second ≡ first ++ dword 0 → whole ≡ second ++ texts_with_nuls args → whole
    ≡ (((dword (length args) ++ pointers place args) ++ dword 0) ++ dword 0) ++ texts_with_nuls args
vars-joined held behind first second whole at place args a b same c d e =
    let n = dword (length args) in
    let zero_word = dword 0 in
    let texts = texts_with_nuls args in
    let front : behind ≡ n ++ pointers place args =
    b ∙ ap (λ x. x ++ pointers at args) a ∙ ap (λ x. n ++ x) (pointers-same at place args same) in
    let one : first ≡ (n ++ pointers place args) ++ zero_word = c ∙ ap (λ x. x ++ zero_word) front in
    let two : second ≡ ((n ++ pointers place args) ++ zero_word) ++ zero_word = d ∙ ap (λ x. x ++ zero_word) one in
    e ∙ ap (λ x. x ++ texts) two

-- ---- a copy of texts

pub one_copied : (texts : List (List ℕ)) (i : ℕ) (text : List ℕ) (old new : List (List ℕ)) → slice_get texts i
    ≡ Some text → new ≡ old ++ text ∷ [] → old ++ drop i texts ≡ texts → new ++ drop (i + 1) texts ≡ texts
one_copied texts i text old new h e inv =
    ap (λ front. front ++ drop (i + 1) texts) e ∙ append_assoc old (text ∷ []) (drop (i + 1) texts)
    ∙ ap (λ rest. old ++ rest) (sym (drop-got texts i text h)) ∙ inv
