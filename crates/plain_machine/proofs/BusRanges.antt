-- Ranges of the user area over a port to a bus.
use Rattle.std.proofs.Common.{◌≡◌, ◌≤◌, ◌<◌, ◌-◌, ℕ, true, false, List, length, take, drop, Result, Ok, Err, refl, sym, ap, subst, ◌∙◌, arith}
use Rattle.std.specs.Result.{result_err}
use Rattle.std.proofs.lemmas.Bool.{false≢true}
use Rattle.std.proofs.lemmas.Bool.Decides.{nat_tests}
use Rattle.fe_base.specs.MemoryMap.{user_start, user_end, is_mapped}
use Rattle.guest_memory.specs.Bus.{BusState, IsBus, user_size}
use Rattle.guest_memory.specs.Memory.{with_part}
use Rattle.chunk_memory.proofs.BusRanges.{bus_reads_user}
use Rattle.chunk_memory.proofs.RamBytes.{Has, area-written}
use Rattle.chunk_memory.proofs.RamLemmas.{user_area}
use Rattle.chunk_memory.specs.BeatChunks.{DirectOne}
use Rattle.chunk_memory.specs.Ports.{Maps}
use Rattle.chunk_memory.specs.RamTurns.{ram_turn, ram_ran, ram_touched}
use Rattle.chunk_memory.specs.Ranges.{IsFirstUnmapped}
use Rattle.chunk_memory.specs.Reached.{Reached}
use Rattle.chunk_memory.specs.Spelling.{ReadSpelled, WriteSpelled}
use Rattle.chunk_memory.specs.Transactions.{ReadsRange, WritesRange}
use Rattle.chunk_memory.specs.declared.stops.MemStop.{MemStop}
use Rattle.chunk_memory.specs.declared.stops.MemStop.TheVariants.{Unmapped, Spent, WireFault, CmdErr}
use Rattle.syscall_proxy.specs.RowShapes.{InUserArea}

-- what the read of a range says over a port to a bus
pub record ReadOn (a b : BusState) (at count : ℕ) (r : Result (List ℕ) MemStop) : Type 0 where
  pub maps : Maps at count (result_err r)
  pub told : ReadsRange (DirectOne ram_turn) (λ before chunk stop after. ⊥) 8 1024 at count r a b
  pub spelled : ReadSpelled (λ (s : BusState). s) (λ s v. s ≡ v) (λ _. Unit {0}) (λ _. ⊥) ram_ran (Reached ram_ran ram_touched) 8 at count r a b

-- what the write of a range says
pub record WrittenOn (a b : BusState) (at : ℕ) (bytes : List ℕ) (r : Result Unit MemStop) : Type 0 where
  pub maps : Maps at (length bytes) (result_err r)
  pub told : WritesRange (DirectOne ram_turn) (λ before chunk stop after. ⊥) 8 1024 at bytes r a b
  pub spelled : WriteSpelled (λ (s : BusState). s) (λ s v. s ≡ v) (λ _. Unit {0}) (λ _. ⊥) ram_ran (Reached ram_ran ram_touched) 8 at bytes r a b

user-mapped : (place : ℕ) → user_start ≤ place → place < user_end → is_mapped place ≡ true
user-mapped place low high = grind (arith, nat_tests)

-- the user area is mapped
no-hole : (at count place : ℕ) → InUserArea at count → IsFirstUnmapped at count place → ⊥
no-hole at count place inside first =
    let m = first.meets in
    let even = m.aligned in
    let above = m.above in
    let below = m.below in
    let from = inside.0 in
    let to = inside.1 in
    false≢true (sym first.unmapped ∙ user-mapped place (omega (arith, even, above, from)) (omega (arith, below, to)))

-- a read of the user area gives its bytes, and leaves the bus
pub got : (a b : BusState) (at count : ℕ) (bytes : List ℕ) → IsBus a → InUserArea at count → ReadOn a b at count (Ok bytes)
    → (b ≡ a) × (bytes ≡ take count (drop (at - user_start) a.user))
got a b at count bytes fits inside d = bus_reads_user at count bytes a b fits inside.0 inside.1 d.spelled

-- it is never refused
pub no-read : (a b : BusState) (at count : ℕ) (why : MemStop) → InUserArea at count → ReadOn a b at count (Err why) → ⊥
no-read a b at count (Unmapped place) inside d = no-hole at count place inside ((d.maps place).0 refl)
no-read a b at count Spent inside d = d.told.made.cut
no-read a b at count WireFault inside d = d.told.made.cut
no-read a b at count (CmdErr number) inside d = d.told.made.cut

user-order : user_start ≤ user_end
user-order = omega arith

user-has : (bus : BusState) → IsBus bus → Has user_start user_end refl refl user-order user_area bus bus.user bus
unfolding user_area user_size
user-has bus fits = record { is = refl; long = fits.user_length; small = fits.user_bytes }

-- a write to the user area puts its bytes there, and leaves a bus
pub written : (a b : BusState) (at : ℕ) (bytes : List ℕ) → IsBus a → InUserArea at (length bytes) → WrittenOn a b at bytes (Ok tt)
    → IsBus b × (b.user ≡ with_part a.user (at - user_start) bytes)
unfolding user_area user_size
written a b at bytes fits inside d =
    let h = area-written user_start user_end refl refl user-order user_area a at bytes a.user a b (user-has a fits) inside.0 inside.1 d.spelled in
    let now : BusState = record a { user = with_part a.user (at - user_start) bytes } in
    let same : b ≡ now = h.is in
    let whole : IsBus now = record { user_length = h.long; kernel_length = fits.kernel_length; user_bytes = h.small; kernel_bytes = fits.kernel_bytes; start_bits = fits.start_bits } in
    (subst IsBus (sym same) whole, ap (λ (s : BusState). s.user) same)

-- it is never refused
pub no-write : (a b : BusState) (at : ℕ) (bytes : List ℕ) (why : MemStop) → InUserArea at (length bytes) → WrittenOn a b at bytes (Err why) → ⊥
no-write a b at bytes (Unmapped place) inside d = no-hole at (length bytes) place inside ((d.maps place).0 refl)
no-write a b at bytes Spent inside d = d.told.made.cut
no-write a b at bytes WireFault inside d = d.told.made.cut
no-write a b at bytes (CmdErr number) inside d = d.told.made.cut
