-- The memory of a target by itself, as what beats are made on: there is no hart beside it.
use Rattle.std.specs.Prelude.{◌≡◌, ℕ, Some, unwrap_or}
use Rattle.fe_base.specs.Access.{Access, Loaded, Stored, StoredLow, StoredHigh}
use Rattle.fe_base.specs.Beats.{Beat, ReadBeat, WriteBeat}
use Rattle.guest_memory.specs.Bus.{BusState, beat, with_beat}

-- a beat on a bus, and its reply
abbrev pub ram_turn : BusState → Beat → BusState × ℕ
ram_turn bus (ReadBeat at) = (bus, unwrap_or (beat bus at) 0)
ram_turn bus (WriteBeat at value) = (with_beat bus at value, 0)

-- steps of no hart
abbrev pub ram_ran : BusState → ℕ → BusState → Type 0
ram_ran before steps after = after ≡ before

-- what an access does to a bus, which moves whole doublewords alone
abbrev pub ram_touched : BusState → Access → BusState → Type 0
ram_touched before (Loaded at value) after = (after ≡ before) × (beat before at ≡ Some value)
ram_touched before (Stored at value) after = after ≡ with_beat before at value
ram_touched before (StoredLow at value) after = ⊥
ram_touched before (StoredHigh at value) after = ⊥
