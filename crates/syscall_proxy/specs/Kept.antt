-- What a host keeps: the open numbers, whether its last call acted, and the answers that wait in its mailbox.
use Rattle.std.specs.Prelude.{◌≡◌, ℕ, Bool, true, false, List, get_or, slice_set}
use Rattle.folder_tree.specs.Paths.{Parts}
use Rattle.host_text.specs.declared.open_numbers.Open.{Open}
use Rattle.host_text.specs.declared.open_numbers.Open.TheVariants.{Closed}

pub record Kept : Type 0 where
  pub numbers : List Open
  pub acted : Bool
  pub waiting : List ℕ

-- these are kept
abbrev pub kept : List Open → Bool → List ℕ → Kept
kept numbers acted waiting = record { numbers = numbers; acted = acted; waiting = waiting }

-- what stands at a number
abbrev pub open_at : List Open → ℕ → Open
open_at numbers fd = get_or numbers fd Closed

-- the call acted
abbrev pub acts : Kept → Kept
acts k = record k { acted = true }

-- no call acted yet
abbrev pub rests : Kept → Kept
rests k = record k { acted = false }

-- the call acted, and this stands at a number
abbrev pub opens : ℕ → Open → Kept → Kept
opens fd stands k = record k { acted = true; numbers = slice_set k.numbers fd stands }

-- what a host was made with: the program's arguments, and the path under which the program's paths stand
pub record Setting : Type 0 where
  pub args : List (List ℕ)
  pub root : Parts

-- a host, as its callers see it
pub record HostState : Type 0 where
  pub given : Setting
  pub numbers : List Open
  pub acted : Bool
