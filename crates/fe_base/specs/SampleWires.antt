-- Small wires over which the tests speak, with their laws. Nothing but the tests cites them.
use Rattle.std.proofs.Common.{◌≡◌, ℕ, ◌+◌, ◌-◌, ◌%◌, ◌<◌, ◌^◌, ◌==◌, Bool, if◌then◌else◌, Option, Some, None, refl}
use Rattle.std.proofs.Common.{arith}
use Rattle.fe_base.specs.Access.{Access, Loaded, Stored, StoredLow, StoredHigh}
use Rattle.fe_base.specs.Beats.{Beat, ReadBeat, WriteBeat, BeatLaw}
use Rattle.fe_base.specs.Transfers.{Transfers, WordAsk, WordStep, Quiet, Loads, Stores, WordDone, WordLaw, word_step}
use Rattle.fe_base.specs.Transfers.{Owed, joined, nothing_owed}
use Rattle.fe_base.specs.MemoryMap.{is_beat}

-- one doubleword: a read gives it, a write replaces it
abbrev pub one_turn : ℕ → Beat → ℕ × ℕ
one_turn s (ReadBeat at) = (s, s)
one_turn s (WriteBeat at value) = (value, 0)

-- what an access does to it
abbrev pub one_touched : ℕ → Access → ℕ → Type 0
one_touched v (Loaded at value) w = (w ≡ v) × (value ≡ v)
one_touched v (Stored at value) w = w ≡ value
one_touched v (StoredLow at value) w = ⊥
one_touched v (StoredHigh at value) w = ⊥

-- steps leave it
abbrev pub one_ran : ℕ → ℕ → ℕ → Type 0
one_ran v n w = w ≡ v

-- reads and writes of it are turns
pub one-turns : BeatLaw (λ (s : ℕ). s < 2 ^ 64) (λ _. Unit {0}) (λ s. s) one_ran one_touched one_turn
one-turns s (ReadBeat at) ok here =
    record {
      steps = 1;
      between = s;
      pause = refl;
      access = (refl, refl);
      reply_fits = ok;
      still_valid = ok;
      some_step = λ _. omega arith;
      still_positive = λ h. h;
    }
one-turns s (WriteBeat at value) ok here =
    record {
      steps = 1;
      between = s;
      pause = refl;
      access = refl;
      reply_fits = omega arith;
      still_valid = here.1;
      some_step = λ _. omega arith;
      still_positive = λ h. h;
    }

-- the same doubleword behind the word link, with its transfers
abbrev pub one_stored : Access → ℕ → ℕ
one_stored (Loaded at value) v = v
one_stored (Stored at value) v = value
one_stored (StoredLow at value) v = v - v % 2 ^ 32 + value
one_stored (StoredHigh at value) v = joined (v % 2 ^ 32) value

-- a word's step
abbrev pub one_worded : WordStep → ℕ → (Transfers × ℕ) × Option ℕ
one_worded (Quiet reply after) v = ((after, v), reply)
one_worded (Loads at reply after) v = ((after (v % 2 ^ 64), v), Some (reply (v % 2 ^ 64)))
one_worded (Stores access after) v = ((after, one_stored access v), None)

-- a word
abbrev pub one_word : Transfers × ℕ → WordAsk → (Transfers × ℕ) × Option ℕ
one_word s ask = one_worded (word_step s.0 ask) s.1

-- the words that are owed, by whether there are any and how many more than one
abbrev pub owed_from : Bool → ℕ → ℕ → Option ℕ → Owed
owed_from owes more at high = if owes then record { count = more + 1; at = at; high = high } else nothing_owed

-- the doubleword behind a data word at an address, the last one of its transfer or not, before which so many came, and
-- this one last
abbrev pub data_stored : ℕ → ℕ → ℕ → ℕ → Bool → ℕ → ℕ
data_stored at before low word last v =
    if at % 8 == 4
    then (if is_beat (at - 4)
    then one_stored (if before == 0 then StoredHigh (at - 4) word else Stored (at - 4) (joined low word)) v
    else v)
    else (if last then (if is_beat at then one_stored (StoredLow at word) v else v) else v)

-- what an access does to it, behind the word link
abbrev pub one_reached : ℕ → Access → ℕ → Type 0
one_reached v (Loaded at value) w = w ≡ v
one_reached v (Stored at value) w = w ≡ one_stored (Stored at value) v
one_reached v (StoredLow at value) w = w ≡ one_stored (StoredLow at value) v
one_reached v (StoredHigh at value) w = w ≡ one_stored (StoredHigh at value) v

one-done : (step : WordStep) (v : ℕ) → WordDone one_reached step v (one_worded step v).1 (one_worded step v).0.0
    (one_worded step v).0.1
one-done (Quiet reply after) v = (refl, refl, refl)
one-done (Loads at reply after) v = (v % 2 ^ 64, omega arith, refl, refl, refl)
one-done (Stores (Loaded at value) after) v = (refl, refl, refl)
one-done (Stores (Stored at value) after) v = (refl, refl, refl)
one-done (Stores (StoredLow at value) after) v = (refl, refl, refl)
one-done (Stores (StoredHigh at value) after) v = (refl, refl, refl)

-- words are turns
pub one-words : WordLaw (λ (s : Transfers × ℕ). Unit {0}) (λ _. Unit {0}) (λ s. s.1)
    (λ s. s.0) one_ran one_reached one_word
one-words s ask ok here =
    record {
      steps = 1;
      between = s.1;
      pause = refl;
      done = one-done (word_step s.0 ask) s.1;
      still_valid = tt;
      some_step = λ _. omega arith;
      still_positive = λ h. h;
    }
