-- The worlds that calls are made in.
use Rattle.std.specs.Prelude.{◌≡◌, ◌≤◌, ◌<◌, ◌+◌, ◌^◌, ◌==◌, ℕ, Bool, if◌then◌else◌, List, [], ◌∷◌, length}
use Rattle.fe_base.specs.Limits.{open_numbers}
use Rattle.folder_tree.specs.Tree.{Tree, opens_of, IsWellFormed}
use Rattle.host_text.specs.World.{World}
use Rattle.host_text.specs.declared.open_numbers.Open.{Open}
use Rattle.host_text.specs.declared.open_numbers.Open.TheVariants.{Closed, Input, Console, File}
use Rattle.syscall_proxy.specs.Kept.{Kept}
use Rattle.syscall_proxy.specs.declared.answers.CallAnswer.{CallAnswer}
use Rattle.syscall_proxy.specs.declared.answers.CallAnswer.TheVariants.{Result as Value, Exit}

-- how often one open number holds the file of this number
abbrev pub holds : Open → ℕ → ℕ
holds Closed number = 0
holds Input number = 0
holds Console number = 0
holds (File file) number = if file.number == number then 1 else 0

-- how many open numbers hold it
abbrev pub held : List Open → ℕ → ℕ
held [] number = 0
held (stands ∷ more) number = holds stands number + held more number

-- the open numbers and the tree are those of a world: there are 64, the tree is well formed, and in it each file has at
-- least as many opens as open numbers hold it
pub record IsWorldOf (numbers : List Open) (t : Tree) : Type 0 where
  pub size : length numbers ≡ open_numbers
  pub tree : IsWellFormed t
  pub opens : (number : ℕ) → held numbers number ≤ opens_of t number

-- a world
abbrev pub IsWorld : World → Type 0
IsWorld w = IsWorldOf w.numbers w.contents.tree

-- a result is a doubleword, and a status a byte
abbrev pub IsSmall : CallAnswer → Type 0
IsSmall (Value value) = value < 2 ^ 64
IsSmall (Exit status) = status < 256

-- a call ends well: with such an answer, in a world
abbrev pub EndsWell : CallAnswer → Tree → Kept → Type 0
EndsWell answer t k = IsSmall answer × IsWorldOf k.numbers t
