-- Loading: until 1 is written to the start word the hart is held, and memory holds what was written.
use Rattle.std.specs.Prelude.{◌≡◌, ◌≤◌, ◌⊎◌, ◌+◌, ⊤, ℕ, List, [], ◌∷◌, length, Result, Err}
use Rattle.std.specs.Int.{to_le_bytes, w64}
use Rattle.chunk_memory.specs.declared.stops.MemStop.{MemStop}
use Rattle.fe_base.specs.MemoryMap.{user_start, user_end, kernel_start, kernel_end, start_word}
use Rattle.guest_memory.specs.Bus.{BusState, IsBus, with_bus_bytes}
use Rattle.host_text.specs.Played.{Played}
use Rattle.host_text.specs.Text.{Write}
use Rattle.htif_mailbox.specs.Turns.{Mail}
use Rattle.htif_mailbox.specs.declared.answers.MailFault.{MailFault}
use Rattle.htif_mailbox.specs.declared.answers.MailFault.TheVariants.{Port}
use Rattle.htif_mailbox.specs.declared.answers.Turned.{Turned}
use Rattle.rv_hart.specs.HartStep.{System, over, reset_hart}
use Rattle.target_box.specs.Turn.{ran}
use Rattle.tether_base.specs.Serving.{Here, GiveLeaves}
use Rattle.tether_base.specs.Texts.{Range, load_text}
use Rattle.tether_base.specs.ToldActs.{seen_acts}

-- a range stands whole in the user area, or in the kernel area
abbrev pub IsInside : Range → Type 0
IsInside range =
    ((user_start ≤ range.at) × (range.at + length range.bytes ≤ user_end))
    ⊎ ((kernel_start ≤ range.at) × (range.at + length range.bytes ≤ kernel_end))

-- each of them does
abbrev pub AreInside : List Range → Type 0
AreInside [] = ⊤
AreInside (range ∷ more) = IsInside range × AreInside more

-- a bus with these ranges in it, one after the other
abbrev pub loaded_bus : List Range → BusState → BusState
loaded_bus [] bus = bus
loaded_bus (range ∷ more) bus = loaded_bus more (with_bus_bytes bus range.at range.bytes)

-- the hart is as reset leaves it, held, over this bus, whose start word is 0
pub record IsHeldOver (bus : BusState) (sys : System) : Type 0 where
  pub is : sys ≡ over bus reset_hart
  pub fits : IsBus bus
  pub unstarted : bus.start ≡ 0

-- What loading comes to: the ranges stand in memory, all else is as it was, and what comes behind was done from there;
-- or the port refused while the hart was held.
pub data Loading (ranges : List Range) (next : Mail) (bus : BusState) (before : Here) (r : Result Turned MailFault)
    (now : Here) : Type 0 where
  was_loaded : (mid : Here) → IsHeldOver (loaded_bus ranges bus) mid.port → GiveLeaves before before.kept mid
      → Played seen_acts next mid r now → Loading ranges next bus before r now
  not_loaded : (why : MemStop) (left : BusState) → r ≡ Err (Port why) → IsHeldOver left now.port
      → GiveLeaves before before.kept now → Loading ranges next bus before r now

-- What the write of the start word comes to: behind it the hart begins, and what comes behind was done; or the port
-- refused, before the hart began or behind.
pub data Starting (next : Mail) (bus : BusState) (before : Here) (r : Result Turned MailFault) (now : Here)
    : Type 0 where
  has_begun : (mid : System) (steps : ℕ) (after : Here) → mid ≡ over (record bus { start = 1 }) reset_hart
      → ran mid steps after.port → GiveLeaves before before.kept after → Played seen_acts next after r now
      → Starting next bus before r now
  not_begun : (why : MemStop) → r ≡ Err (Port why) → IsHeldOver bus now.port → GiveLeaves before before.kept now
      → Starting next bus before r now
  begun_and_cut : (why : MemStop) (mid : System) (steps : ℕ) → r ≡ Err (Port why)
      → mid ≡ over (record bus { start = 1 }) reset_hart → ran mid steps now.port → GiveLeaves before before.kept now
      → Starting next bus before r now

-- ---- the laws
-- Ranges that are written while the hart is held stand in memory, and nothing else changes.
abbrev pub LoadsHold : Type 0
LoadsHold =
    (ranges : List Range) (next : Mail) (bus : BusState) (before now : Here) (r : Result Turned MailFault)
    → AreInside ranges → IsHeldOver bus before.port → Played seen_acts (load_text ranges next) before r now
    → Loading ranges next bus before r now

-- Behind the write of 1 to the start word the hart is held no more, over the same memory.
abbrev pub StartsHart : Type 0
StartsHart =
    (next : Mail) (bus : BusState) (before now : Here) (r : Result Turned MailFault) → IsHeldOver bus before.port
    → Played seen_acts (Write start_word (to_le_bytes w64 1) Port next) before r now → Starting next bus before r now
