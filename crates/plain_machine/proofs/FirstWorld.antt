-- The open numbers that a program starts with hold no file.
use Rattle.std.proofs.Common.{◌≡◌, ℕ, List, refl, sym, subst, arith}
use Rattle.folder_tree.specs.Tree.{Tree, IsWellFormed}
use Rattle.host_text.specs.World.{first_numbers}
use Rattle.host_text.specs.declared.open_numbers.Open.{Open}
use Rattle.syscall_proxy.specs.Worlds.{IsWorldOf, held}

none-held : (number : ℕ) → held first_numbers number ≡ 0
none-held number = refl

-- so they stand over every tree that is well formed
pub is_world : (numbers : List Open) → numbers ≡ first_numbers → (t : Tree) → IsWellFormed t → IsWorldOf numbers t
is_world numbers e t formed =
    let here : IsWorldOf first_numbers t = record { size = refl; tree = formed; opens = λ number. let none = none-held number in omega (arith, none) } in
    subst (λ n. IsWorldOf n t) (sym e) here
