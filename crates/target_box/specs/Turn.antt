-- A target and its turns: some hart steps, and then the effect of one transaction.
use Rattle.std.specs.Prelude.{◌≡◌, ◌≤◌, ◌+◌, ◌-◌, ◌*◌, ◌%◌, ◌^◌, ℕ, Some, unwrap_or}
use Rattle.fe_base.specs.Access.{Access, Loaded, Stored, StoredLow, StoredHigh}
use Rattle.fe_base.specs.Beats.{Beat, ReadBeat, WriteBeat}
use Rattle.fe_base.specs.Limits.{pause_limit}
use Rattle.fe_base.specs.PausePlan.{PausePlan, IsPausePlan, pause_at}
use Rattle.guest_memory.specs.Bus.{IsBus, reset_bus, beat, with_beat}
use Rattle.rv_hart.specs.HartStep.{System, IsHart, IsUnhalted, over, reset_hart}
use Rattle.rv_hart.specs.Walks.{hart_after}
use Rattle.target_box.specs.declared.target.Link.{Link}

-- a hart over its bus, the pauses, how many transactions were made and may be made, and the link by which they come
pub record TargetState : Type 0 where
  pub system : System
  pub pauses : PausePlan
  pub turns : ℕ
  pub limit : ℕ
  pub link : Link

-- a hart and a bus at reset
abbrev pub reset_system : System
reset_system = over reset_bus reset_hart

-- a target at reset, to which no transaction was made
abbrev pub reset_target : PausePlan → ℕ → Link → TargetState
reset_target pauses limit link =
    record { system = reset_system; pauses = pauses; turns = 0; limit = limit; link = link }

-- the effect of a beat: a write replaces its doubleword
abbrev pub beat_done : Beat → System → System
beat_done (ReadBeat at) system = system
beat_done (WriteBeat at value) system = over (with_beat system.bus at value) system.hart

-- the reply to a beat: the doubleword that is read, and 0 to a write
abbrev pub beat_reply : Beat → System → ℕ
beat_reply (ReadBeat at) system = unwrap_or (beat system.bus at) 0
beat_reply (WriteBeat at value) system = 0

-- the system behind the hart steps of the next transaction
abbrev pub paused : TargetState → System
paused target = hart_after (pause_at target.pauses target.turns) target.system

-- the next turn: its hart steps, and then the beat
abbrev pub next_turn : TargetState → Beat → TargetState × ℕ
next_turn target ask =
    (record target { system = beat_done ask (paused target); turns = target.turns + 1 }, beat_reply ask (paused target))

-- a target of a link: its hart is not halted, its numbers fit, and each turn counted at most a pause of user steps
pub record IsTarget (link : Link) (target : TargetState) : Type 0 where
  pub link_is : target.link ≡ link
  pub unhalted : IsUnhalted target.system.hart.run
  pub hart_fits : IsHart target.system.hart
  pub bus_fits : IsBus target.system.bus
  pub plan : IsPausePlan target.pauses
  pub few_user_steps : target.system.hart.user_steps ≤ pause_limit * target.turns

-- a target of a link to which no more transactions were made than may be
pub record IsUsable (link : Link) (target : TargetState) : Type 0 where
  pub target_is : IsTarget link target
  pub within : target.turns ≤ target.limit

-- ---- what is seen of a target
-- so many hart steps were made; none of them is one of a halted hart, which stays as it is, since no hart of a usable target
-- is halted
abbrev pub ran : System → ℕ → System → Type 0
ran before count after = after ≡ hart_after count before

-- one access was made
abbrev pub touched : System → Access → System → Type 0
touched before (Loaded at value) after = (after ≡ before) × (beat before.bus at ≡ Some value)
touched before (Stored at value) after = after ≡ over (with_beat before.bus at value) before.hart
touched before (StoredLow at value) after =
    (old : ℕ) × (beat before.bus at ≡ Some old)
    × (after ≡ over (with_beat before.bus at (old - old % 2 ^ 32 + value)) before.hart)
touched before (StoredHigh at value) after =
    (old : ℕ) × (beat before.bus at ≡ Some old)
    × (after ≡ over (with_beat before.bus at (old % 2 ^ 32 + value * 2 ^ 32)) before.hart)
