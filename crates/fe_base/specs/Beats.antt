-- Beats: turns of a target that read or write one doubleword.
use Rattle.std.specs.Prelude.{ℕ, ◌<◌, ◌^◌, IsTrue}
use Rattle.fe_base.specs.Access.{Access, Loaded, Stored}
use Rattle.fe_base.specs.MemoryMap.{is_beat}

-- what is asked of a wire that moves doublewords
pub data Beat : Type 0 where
  ReadBeat : (at : ℕ) → Beat
  WriteBeat : (at value : ℕ) → Beat

-- it may be asked: the doubleword is mapped, and a value fits it
abbrev pub IsBeat : Beat → Type 0
IsBeat (ReadBeat at) = IsTrue (is_beat at)
IsBeat (WriteBeat at value) = IsTrue (is_beat at) × (value < 2 ^ 64)

-- the access that a beat makes, by its reply; the reply to a write is 0
abbrev pub beat_access : Beat → ℕ → Access
beat_access (ReadBeat at) reply = Loaded at reply
beat_access (WriteBeat at value) reply = Stored at value

-- a turn of a beat: some hart steps, at least one where every pause is positive, and then its access
pub record BeatTurned {S V : Type 0} (valid positive : S → Type 0) (view : S → V) (ran : V → ℕ → V → Type 0)
    (touched : V → Access → V → Type 0) (before : S) (ask : Beat) (reply : ℕ) (after : S) : Type 0 where
  pub steps : ℕ
  pub between : V
  pub pause : ran (view before) steps between
  pub access : touched between (beat_access ask reply) (view after)
  pub reply_fits : reply < 2 ^ 64
  pub still_valid : valid after
  pub some_step : positive before → 0 < steps
  pub still_positive : positive before → positive after

-- what a wire's `next` and `lost` owe: each is a turn of what was asked
abbrev pub BeatLaw : {S V : Type 0} → (S → Type 0) → (S → Type 0) → (S → V) → (V → ℕ → V → Type 0) →
    (V → Access → V → Type 0) → (S → Beat → S × ℕ) → Type 0
BeatLaw {S} valid positive view ran touched act =
    (s : S) (ask : Beat) → valid s → IsBeat ask →
    BeatTurned valid positive view ran touched s ask (act s ask).1 (act s ask).0
