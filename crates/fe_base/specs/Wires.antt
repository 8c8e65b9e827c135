-- What a call of any wire does to what the wire tells, to its counts, and to its being steady.
use Rattle.std.specs.Prelude.{◌≡◌, ◌≤◌, ◌+◌, ℕ, List, ⊤, Option, Result, Some, None, Ok, Err}
use Rattle.fe_base.specs.Outside.{Rose}
use Rattle.fe_base.specs.declared.wires.WireStop.{WireStop}
use Rattle.fe_base.specs.declared.wires.WireStop.TheVariants.{Spent, Failed}

-- where an object tells its state, that state and the next one stand in a relation; one that tells nothing tells
-- nothing afterwards
abbrev pub OnTold : {S : Type 0} → Option S → Option S → (S → S → Type 0) → Type 0
OnTold (Some before) (Some after) does = does before after
OnTold (Some before) None does = ⊥
OnTold None (Some after) does = ⊥
OnTold None None does = ⊤

-- what is told, if anything, passes a test
abbrev pub IfTold : {S : Type 0} → Option S → (S → Type 0) → Type 0
IfTold (Some state) holds = holds state
IfTold None holds = ⊤

-- what a call does to the told state: one that is answered is `next` of the state and of what is asked, with that
-- reply; one that fails is `lost` of them; one that is spent leaves the state
abbrev pub Asked : {S Q R T : Type 0} → (S → Q → S × R) → (S → Q → S × R) → Q → (T → R) → Result T WireStop → S → S
    → Type 0
Asked next lost ask reply (Ok value) before after = next before ask ≡ (after, reply value)
Asked next lost ask reply (Err Failed) before after = after ≡ (lost before ask).0
Asked next lost ask reply (Err Spent) before after = after ≡ before

-- each call makes a transaction and lowers what is left by one, also one that fails; it is spent exactly where none is
-- left
abbrev pub Lowers : {T : Type 0} → ℕ → ℕ → Result T WireStop → Type 0
Lowers before after (Ok value) = before ≡ after + 1
Lowers before after (Err Failed) = before ≡ after + 1
Lowers before after (Err Spent) = (before ≡ 0) × (after ≡ 0)

-- the count of faults never falls; it has risen where the call failed, and stays where it is spent
abbrev pub FailsBy : {T : Type 0} → ℕ → ℕ → Result T WireStop → Type 0
FailsBy before after (Ok value) = before ≤ after
FailsBy before after (Err Failed) = (before ≤ after) × Rose before after
FailsBy before after (Err Spent) = after ≡ before

-- the call did not fail
abbrev pub IsUnfailed : {T : Type 0} → Result T WireStop → Type 0
IsUnfailed (Ok value) = ⊤
IsUnfailed (Err Failed) = ⊥
IsUnfailed (Err Spent) = ⊤

-- a call on a steady wire does not fail, raises no count, and leaves the wire steady
pub record StaysUnfailed {T : Type 0} (before now : ℕ) (result : Result T WireStop) (after : Type 0) : Type 0 where
  pub unfailed : IsUnfailed result
  pub same : now ≡ before
  pub steady : after

-- what no call changes: the names of what the wire was lent, and the capacity of a sink beneath it
pub record Kept : Type 0 where
  pub lent : List ℕ
  pub capacity : Option ℕ
