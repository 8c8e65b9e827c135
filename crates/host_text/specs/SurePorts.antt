-- Ports that tell their state and refuse no chunk: over them a range is refused only where it is not mapped, and so none
-- of the user area.
use Rattle.std.specs.Prelude.{◌≡◌, ◌≤◌, ◌<◌, ◌+◌, ◌%◌, ◌&&◌, ◌||◌, nat_le, ℕ, Bool, true, false, List, length, Option}
use Rattle.std.specs.Prelude.{Some}
use Rattle.std.specs.Prelude.{None, Result, Err, refl}
use Rattle.std.specs.Result.{result_err}
use Rattle.std.proofs.Common.{sym, subst, ap, arith}
use Rattle.std.proofs.lemmas.Bool.{le-leb}
use Rattle.chunk_memory.specs.Ports.{Maps}
use Rattle.chunk_memory.specs.Ranges.{IsFirstUnmapped}
use Rattle.chunk_memory.specs.Transactions.{Chunk, ReadsRange, WritesRange}
use Rattle.chunk_memory.specs.declared.port.ChunkPort as port
use Rattle.chunk_memory.specs.declared.stops.MemStop.{MemStop}
use Rattle.chunk_memory.specs.declared.stops.MemStop.TheVariants.{Unmapped, Spent, WireFault, CmdErr}
use Rattle.chunk_memory.specs.declared.stops.PortStop.{PortStop}
use Rattle.fe_base.specs.MemoryMap.{user_start, user_end, kernel_start, kernel_end, start_word, is_mapped, is_within}
use Rattle.fe_base.specs.Wires.{OnTold}
use Rattle.host_text.specs.Outside.{HasRead, HasWritten}

-- the port tells its state, and refuses no chunk
pub record NeverRefuses {P : Type 0} (d : port.Ghosts P) : Type 0 where
  pub tells : (x : P) → (state : d.State) × (d.told x ≡ Some state)
  pub never : (before : d.State) (chunk : Chunk) (stop : PortStop) (after : d.State)
      → d.refused before chunk stop after → ⊥

-- the refusal says that a doubleword is not mapped
abbrev pub IsUnmapped : MemStop → Type 0
IsUnmapped why = (doubleword : ℕ) × (why ≡ Unmapped doubleword)

-- ---- the user area is mapped

either-mapped : (b c d e : Bool) → b ≡ true → c ≡ true → (((b && c) || d) || e) ≡ true
either-mapped true true d e p q = refl
either-mapped true false d e p q = let no : ⊥ = cc in absurd no
either-mapped false c d e p q = let no : ⊥ = cc in absurd no

user-mapped : (at : ℕ) → user_start ≤ at → at + 1 ≤ user_end → is_mapped at ≡ true
user-mapped at low high =
    either-mapped (nat_le user_start at) (nat_le (at + 1) user_end) (is_within kernel_start kernel_end at 1)
    (is_within start_word (start_word + 8) at 1) (le-leb user_start at low) (le-leb (at + 1) user_end high)

user-whole : (at count doubleword : ℕ) → user_start ≤ at → at + count ≤ user_end → IsFirstUnmapped at count doubleword
    → ⊥
user-whole at count doubleword low high first =
    let even = first.meets.aligned in
    let above = first.meets.above in
    let below = first.meets.below in
    let start : user_start ≤ doubleword = omega (arith, low, even, above) in
    let end : doubleword + 1 ≤ user_end = omega (arith, high, below) in
    let mapped = user-mapped doubleword start end in
    let unmapped = first.unmapped in
    let no : ⊥ = cc in
    no

module _ {P : Type 0} (d : port.Ghosts P) (sure : NeverRefuses d) where
  -- what is done between two states that are told
  on-states : (does : d.State → d.State → Type 0) (x x' : P) → OnTold (d.told x) (d.told x') does
      → (before after : d.State)
      × does before after
  on-states does x x' h =
      let one = sure.tells x in
      let other = sure.tells x' in
      let P1 : Option d.State → Type 0 = λ o. OnTold o (d.told x') does in
      let P2 : Option d.State → Type 0 = λ o. OnTold (Some one.0) o does in
      (one.0, other.0, subst P2 other.1 (subst P1 one.1 h))

  -- a read that is refused is not mapped
  pub reads-unmapped : (x x' : P) (at count : ℕ) (why : MemStop) → HasRead d x x' at count (Err why) → IsUnmapped why
  reads-unmapped x x' at count (Unmapped doubleword) h = (doubleword, refl)
  reads-unmapped x x' at count Spent h =
      let k = on-states (ReadsRange d.one d.refused d.unit d.most at count (Err Spent)) x x' h.told in
      absurd (sure.never _ _ _ _ k.2.made.cut)
  reads-unmapped x x' at count WireFault h =
      let k = on-states (ReadsRange d.one d.refused d.unit d.most at count (Err WireFault)) x x' h.told in
      absurd (sure.never _ _ _ _ k.2.made.cut)
  reads-unmapped x x' at count (CmdErr number) h =
      let k = on-states (ReadsRange d.one d.refused d.unit d.most at count (Err (CmdErr number))) x x' h.told in
      absurd (sure.never _ _ _ _ k.2.made.cut)

  -- so is a write
  pub writes-unmapped : (x x' : P) (at : ℕ) (bytes : List ℕ) (why : MemStop) → HasWritten d x x' at bytes (Err why)
      → IsUnmapped why
  writes-unmapped x x' at bytes (Unmapped doubleword) h = (doubleword, refl)
  writes-unmapped x x' at bytes Spent h =
      let k = on-states (WritesRange d.one d.refused d.unit d.most at bytes (Err Spent)) x x' h.told in
      absurd (sure.never _ _ _ _ k.2.made.cut)
  writes-unmapped x x' at bytes WireFault h =
      let k = on-states (WritesRange d.one d.refused d.unit d.most at bytes (Err WireFault)) x x' h.told in
      absurd (sure.never _ _ _ _ k.2.made.cut)
  writes-unmapped x x' at bytes (CmdErr number) h =
      let k = on-states (WritesRange d.one d.refused d.unit d.most at bytes (Err (CmdErr number))) x x' h.told in
      absurd (sure.never _ _ _ _ k.2.made.cut)

  -- a range of the user area is read
  pub never-reads : (x x' : P) (at count : ℕ) (why : MemStop) → user_start ≤ at → at + count ≤ user_end
      → HasRead d x x' at count (Err why) → ⊥
  never-reads x x' at count why low high h =
      let u = reads-unmapped x x' at count why h in
      user-whole at count u.0 low high ((h.maps u.0).0 (ap Some u.1))

  -- and written
  pub never-writes : (x x' : P) (at : ℕ) (bytes : List ℕ) (why : MemStop) → user_start ≤ at
      → at + length bytes ≤ user_end → HasWritten d x x' at bytes (Err why) → ⊥
  never-writes x x' at bytes why low high h =
      let u = writes-unmapped x x' at bytes why h in
      user-whole at (length bytes) u.0 low high ((h.maps u.0).0 (ap Some u.1))
