-- What a program finds outside of itself.
use Rattle.std.specs.Prelude.{ℕ, List, ◌∷◌, replicate}
use Rattle.folder_tree.specs.Tree.{Tree}
use Rattle.host_text.specs.declared.open_numbers.Open.{Open}
use Rattle.host_text.specs.declared.open_numbers.Open.TheVariants.{Closed, Input, Console}

-- what the objects of the outside tell: the input that is left, the bytes on the console, and the tree of files
pub record Contents : Type 0 where
  pub input : List ℕ
  pub console : List ℕ
  pub tree : Tree

-- a world: these contents, and what stands at each open number
pub record World : Type 0 where
  pub contents : Contents
  pub numbers : List Open

-- the open numbers that a program starts with: 0 is the input, 1 and 2 are the console, and nothing stands at the 61
-- others
abbrev pub first_numbers : List Open
first_numbers = Input ∷ Console ∷ Console ∷ replicate 61 Closed
