-- What a port owes of the accesses that its chunks make.
use Rattle.std.specs.Prelude.{◌≡◌, ℕ, List, [], ◌∷◌, ◌++◌, length}
use Rattle.fe_base.specs.Access.{Access}
use Rattle.chunk_memory.specs.Ports.{IsChunk}
use Rattle.chunk_memory.specs.Spelling.{SpellsChunk, StepsFirst}
use Rattle.chunk_memory.specs.Transactions.{Chunk, ReadChunk, WriteChunk}
use Rattle.chunk_memory.specs.declared.stops.PortStop.{PortStop}
use Rattle.chunk_memory.specs.declared.stops.PortStop.TheVariants.{Spent, WireFault, CmdErr}

-- accesses were made, one after the other, with any number of steps before, between and behind them
abbrev pub Reached : {V : Type 0} → (V → ℕ → V → Type 0) → (V → Access → V → Type 0) → V → List Access → V → Type 0
Reached ran touched before [] after = (steps : ℕ) × ran before steps after
Reached {V} ran touched before (access ∷ more) after =
    (steps : ℕ) × (between : V) × (next : V) × ran before steps between × touched between access next
    × Reached ran touched next more after

-- a chunk may be asked of a port
abbrev pub IsAsked : ℕ → ℕ → Chunk → Type 0
IsAsked unit most (ReadChunk place bytes) = IsChunk unit most place (length bytes)
IsAsked unit most (WriteChunk place bytes) = IsChunk unit most place (length bytes)

-- the same is asked: of two chunks to be read the bytes may differ
abbrev pub AsksSame : Chunk → Chunk → Type 0
AsksSame (ReadChunk place bytes) (ReadChunk other others) = (other ≡ place) × (length others ≡ length bytes)
AsksSame (WriteChunk place bytes) (WriteChunk other others) = (other ≡ place) × (others ≡ bytes)
AsksSame (ReadChunk place bytes) (WriteChunk other others) = ⊥
AsksSame (WriteChunk place bytes) (ReadChunk other others) = ⊥

-- a refusal that a told and ready port gives
abbrev pub IsNoCommand : PortStop → Type 0
IsNoCommand Spent = Unit {0}
IsNoCommand WireFault = Unit {0}
IsNoCommand (CmdErr number) = ⊥

-- a chunk that was made: from view to view by its accesses, behind a step of the hart where every pause is positive
pub record ChunkReached {S V : Type 0} (unit : ℕ) (view : S → V) (valid ready positive : S → Type 0)
    (ran : V → ℕ → V → Type 0) (reached : V → List Access → V → Type 0) (chunk : Chunk) (before after : S)
    : Type 0 where
  pub accesses : List Access
  pub spell : SpellsChunk unit chunk accesses
  pub path : reached (view before) accesses (view after)
  pub behind_a_step : positive before → StepsFirst ran reached (view before) accesses (view after)
  pub still_valid : valid after
  pub still_ready : ready after
  pub still_positive : positive before → positive after

-- a chunk that was refused: from view to view by the first ones of the accesses of a chunk that asks the same
pub record ChunkBegun {S V : Type 0} (unit : ℕ) (view : S → V) (stands : S → V → Type 0)
    (reached : V → List Access → V → Type 0) (chunk : Chunk) (stop : PortStop) (before after : S) : Type 0 where
  pub no_command : IsNoCommand stop
  pub same : Chunk
  pub asks : AsksSame chunk same
  pub accesses : List Access
  pub more : List Access
  pub spell : SpellsChunk unit same (accesses ++ more)
  pub last : V
  pub path : reached (view before) accesses last
  pub stands_so : stands after last

-- what a port owes of each chunk that is made
abbrev pub OneReaches : {S V : Type 0} → ℕ → ℕ → (S → V) → (S → Type 0) → (S → Type 0) → (S → Type 0)
    → (V → ℕ → V → Type 0) → (V → List Access → V → Type 0) → (S → Chunk → S → Type 0) → Type 0
OneReaches {S} unit most view valid ready positive ran reached one =
    (before after : S) (chunk : Chunk) → valid before → ready before → IsAsked unit most chunk → one before chunk after
    → ChunkReached unit view valid ready positive ran reached chunk before after

-- what a port owes of each chunk that is refused
abbrev pub RefusedReaches : {S V : Type 0} → ℕ → ℕ → (S → V) → (S → V → Type 0) → (S → Type 0) → (S → Type 0)
    → (V → List Access → V → Type 0) → (S → Chunk → PortStop → S → Type 0) → Type 0
RefusedReaches {S} unit most view stands valid ready reached refused =
    (before after : S) (chunk : Chunk) (stop : PortStop) → valid before → ready before → IsAsked unit most chunk
    → refused before chunk stop after
    → ChunkBegun unit view stands reached chunk stop before after
