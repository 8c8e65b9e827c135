-- Doublewords of the bus.
use Rattle.std.proofs.Common.{◌≡◌, ◌<◌, ◌^◌, ◌+◌, ℕ, Bool, true, false, Some, List, drop, refl, arith}
use Rattle.std.proofs.lemmas.Bool.{false≢true}
use Rattle.std.proofs.lemmas.Grind.{common_steps}
use Rattle.std.specs.Prelude.{IsTrue, unwrap_or, ◌==◌, if◌then◌else◌, nat_lt}
use Rattle.core.specs.Bool.{then_some}
use Rattle.byteorder.specs.Numbers.{little_from-lt}
use Rattle.fe_base.specs.MemoryMap.{is_beat, start_word, kernel_start}
use Rattle.guest_memory.specs.Bus.{BusState, IsBus, offset, beat, bus_load}
use Rattle.guest_memory.specs.Memory.{load, AreBytes}

-- there is a doubleword where a beat may go
pub beat-some : (bus : BusState) (at : ℕ) → IsTrue (is_beat at) → beat bus at ≡ Some (unwrap_or (beat bus at) 0)
unfolding beat
beat-some bus at here = go (is_beat at) (if at == start_word then bus.start else bus_load bus at 8) here
  where
    go : (b : Bool) (value : ℕ) → IsTrue b → then_some b value ≡ Some (unwrap_or (then_some b value) 0)
    go true value here = refl
    go false value here = absurd (false≢true here)

load-fits : (m : List ℕ) (place : ℕ) → AreBytes m → load m place 8 < 2 ^ 64
unfolding load
load-fits m place all = little_from-lt 0 8 (drop place m) (λ k. let here = all (place + k) in grind (arith, common_steps))

area-fits : (b : Bool) (bus : BusState) (place : ℕ) → IsBus bus → load (if b then bus.user else bus.kernel) place 8 < 2 ^ 64
area-fits true bus place fits = load-fits bus.user place fits.user_bytes
area-fits false bus place fits = load-fits bus.kernel place fits.kernel_bytes

bus_load-fits : (bus : BusState) (at : ℕ) → IsBus bus → bus_load bus at 8 < 2 ^ 64
unfolding bus_load
bus_load-fits bus at fits = area-fits (nat_lt at kernel_start) bus (offset at) fits

-- a doubleword has 64 bits
pub beat-fits : (bus : BusState) (at : ℕ) → IsBus bus → unwrap_or (beat bus at) 0 < 2 ^ 64
unfolding beat
beat-fits bus at fits = go (is_beat at) (at == start_word)
  where
    value : (b : Bool) → (if b then bus.start else bus_load bus at 8) < 2 ^ 64
    value true = fits.start_bits
    value false = bus_load-fits bus at fits

    go : (b c : Bool) → unwrap_or (then_some b (if c then bus.start else bus_load bus at 8)) 0 < 2 ^ 64
    go true c = value c
    go false c = omega arith
