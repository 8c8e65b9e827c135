-- The pointers and the texts of arguments, one argument after the other.
use Rattle.std.proofs.Common.{◌≡◌, ℕ, zero, suc, ◌+◌, ◌*◌, List, [], ◌∷◌, ◌++◌, length, drop, Some, refl, ap, sym, ◌∙◌}
use Rattle.std.proofs.Common.{add-one, arith, append_assoc, length-append}
use Rattle.std.specs.Prelude.{slice_get}
use Rattle.fe_base.specs.WordLists.{strings_length, main_vars_length}
use Rattle.elf_loader.specs.MainVars.{dword, pointers, texts_with_nuls, main_vars_text}

drop-got_suc : {X : Type 0} (xs : List X) (i : ℕ) (x : X) → slice_get xs i ≡ Some x → drop i xs ≡ x ∷ drop (suc i) xs
drop-got_suc [] i x h = cc
drop-got_suc (y ∷ ys) zero x h = let e : y ≡ x = cc in rw e
drop-got_suc (y ∷ ys) (suc i) x h = drop-got_suc ys i x h

pub drop-got : {X : Type 0} (xs : List X) (i : ℕ) (x : X) → slice_get xs i ≡ Some x → drop i xs ≡ x ∷ drop (i + 1) xs
drop-got xs i x h = rw add-one (drop-got_suc xs i x h)

pub strings_length-drop : (args : List (List ℕ)) (i : ℕ) (text : List ℕ) → slice_get args i ≡ Some text
    → strings_length (drop i args) ≡ length text + 1 + strings_length (drop (i + 1) args)
strings_length-drop args i text h = ap strings_length (drop-got args i text h)

pub texts_preserved : (args : List (List ℕ)) (i : ℕ) (text old new all : List ℕ) → slice_get args i ≡ Some text
    → new ≡ (old ++ text) ++ 0 ∷ [] → old ++ texts_with_nuls (drop i args) ≡ all
    → new ++ texts_with_nuls (drop (i + 1) args) ≡ all
texts_preserved args i text old new all h e inv =
    rw e (simp append_assoc (sym (simp append_assoc at (ap (λ x. old ++ texts_with_nuls x) (drop-got args i text h)))
    ∙ inv))

pub pointers_preserved : (args : List (List ℕ)) (i at : ℕ) (text old new all : List ℕ) → slice_get args i ≡ Some text
    → new ≡ old ++ dword at → old ++ pointers at (drop i args) ≡ all
    → new ++ pointers (at + (length text + 1)) (drop (i + 1) args) ≡ all
pointers_preserved args i at text old new all h e inv =
    rw e (append_assoc old (dword at) (pointers (at + (length text + 1)) (drop (i + 1) args))
    ∙ sym (ap (λ x. old ++ pointers at x) (drop-got args i text h)) ∙ inv)

length-pointers : (at : ℕ) (args : List (List ℕ)) → length (pointers at args) ≡ 8 * length args
length-pointers at [] = refl
length-pointers at (text ∷ texts) = let rest = length-pointers (at + (length text + 1)) texts in omega arith

length-texts_with_nuls : (args : List (List ℕ)) → length (texts_with_nuls args) ≡ strings_length args
length-texts_with_nuls [] = refl
length-texts_with_nuls (text ∷ texts) = simp length-append (omega (arith, length-texts_with_nuls texts))

pub length-main_vars_text : (args : List (List ℕ)) (base : ℕ)
    → length (main_vars_text args base) ≡ main_vars_length args
length-main_vars_text args base =
    simp length-append (omega (arith, length-pointers (base + 8 * (length args + 3)) args, length-texts_with_nuls args))
