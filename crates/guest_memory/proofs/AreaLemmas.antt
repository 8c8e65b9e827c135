-- The bus for a caller that knows the area of its address, and that the bus keeps its sizes and its bytes.
use Rattle.std.proofs.Common.{◌≡◌, ℕ, suc, zero, ◌+◌, ◌-◌, ◌^◌, ◌≤◌, ◌<◌, Bool, true, false, List, ◌++◌, length, take, drop, refl, sym, subst, ◌∙◌, arith, ◌⊎◌, inl, inr, ◌≢◌, lit<}
use Rattle.std.proofs.lemmas.Bool.{cases_lt, eqb-true}
use Rattle.std.proofs.lemmas.Bool.Decides.{nat_tests}
use Rattle.std.proofs.lemmas.Grind.{common_steps}
use Rattle.std.specs.Int.{bytes_low_first, byte_at}
use Rattle.std.specs.Prelude.{IsTrue, nat_lt, ◌==◌}
use Rattle.fe_base.specs.MemoryMap.{user_start, user_end, start_word, kernel_start, kernel_end}
use Rattle.guest_memory.proofs.BusLemmas.{user_range, kernel_range, user_size-is, kernel_size-is, with_beat-start, with_beat-ram, with_beat-none}
use Rattle.guest_memory.proofs.MemoryLemmas.{length-store, length-zeros}
use Rattle.guest_memory.specs.Bus.{user_size, kernel_size, BusState, IsBus, reset_bus, is_ram, is_beat, with_beat, bus_load, bus_store, bus_bytes, with_bus_bytes}
use Rattle.guest_memory.specs.Memory.{zeros, load, store, with_part, AreBytes}

is_low : (at : ℕ) → at < kernel_start → nat_lt at kernel_start ≡ true
is_low at low = grind (arith, nat_tests)

is_high : (at : ℕ) → kernel_start ≤ at → nat_lt at kernel_start ≡ false
is_high at high = grind (arith, nat_tests)

-- the user area
pub is_ram-user : (at n : ℕ) → user_start ≤ at → at + n ≤ user_end → IsTrue (is_ram at n)
is_ram-user at n low high = grind (arith, nat_tests)

pub bus_load-user : (bus : BusState) (at width : ℕ) → at < kernel_start → bus_load bus at width ≡ load bus.user (at - user_start) width
unfolding bus_load
bus_load-user bus at width low = rw (is_low at low) refl

pub bus_store-user : (bus : BusState) (at width value : ℕ) → at < kernel_start → bus_store bus at width value ≡ (record bus { user = store bus.user (at - user_start) width value })
unfolding bus_store
bus_store-user bus at width value low = rw (is_low at low) refl

pub bus_bytes-user : (bus : BusState) (at n : ℕ) → at < kernel_start → bus_bytes bus at n ≡ take n (drop (at - user_start) bus.user)
unfolding bus_bytes
bus_bytes-user bus at n low = rw (is_low at low) refl

pub with_bus_bytes-user : (bus : BusState) (at : ℕ) (bytes : List ℕ) → at < kernel_start → with_bus_bytes bus at bytes ≡ (record bus { user = with_part bus.user (at - user_start) bytes })
unfolding with_bus_bytes
with_bus_bytes-user bus at bytes low = rw (is_low at low) refl

-- the kernel area
pub is_ram-kernel : (at n : ℕ) → kernel_start ≤ at → at + n ≤ kernel_end → IsTrue (is_ram at n)
is_ram-kernel at n low high = grind (arith, nat_tests)

pub bus_load-kernel : (bus : BusState) (at width : ℕ) → kernel_start ≤ at → bus_load bus at width ≡ load bus.kernel (at - kernel_start) width
unfolding bus_load
bus_load-kernel bus at width high = rw (is_high at high) refl

pub bus_store-kernel : (bus : BusState) (at width value : ℕ) → kernel_start ≤ at → bus_store bus at width value ≡ (record bus { kernel = store bus.kernel (at - kernel_start) width value })
unfolding bus_store
bus_store-kernel bus at width value high = rw (is_high at high) refl

pub bus_bytes-kernel : (bus : BusState) (at n : ℕ) → kernel_start ≤ at → bus_bytes bus at n ≡ take n (drop (at - kernel_start) bus.kernel)
unfolding bus_bytes
bus_bytes-kernel bus at n high = rw (is_high at high) refl

pub with_bus_bytes-kernel : (bus : BusState) (at : ℕ) (bytes : List ℕ) → kernel_start ≤ at → with_bus_bytes bus at bytes ≡ (record bus { kernel = with_part bus.kernel (at - kernel_start) bytes })
unfolding with_bus_bytes
with_bus_bytes-kernel bus at bytes high = rw (is_high at high) refl

pub ruleset by_area = (is_ram-user, is_ram-kernel, bus_load-user, bus_store-user, bus_bytes-user, with_bus_bytes-user, bus_load-kernel, bus_store-kernel, bus_bytes-kernel, with_bus_bytes-kernel)

-- lists of bytes
AreBytes-append : (xs ys : List ℕ) → AreBytes xs → AreBytes ys → AreBytes (xs ++ ys)
AreBytes-append xs ys front back place =
    let here = front place in
    let there = back (place - length xs) in
    grind (arith, common_steps)

AreBytes-take : (n : ℕ) (xs : List ℕ) → AreBytes xs → AreBytes (take n xs)
AreBytes-take n xs all place = let here = all place in grind (arith, common_steps)

AreBytes-drop : (n : ℕ) (xs : List ℕ) → AreBytes xs → AreBytes (drop n xs)
AreBytes-drop n xs all place = let here = all (n + place) in grind (arith, common_steps)

byte_at-lt : (i n : ℕ) → byte_at i n < 256
byte_at-lt zero n = omega arith
byte_at-lt (suc i) n = omega arith

AreBytes-low_first : (i n value : ℕ) → AreBytes (bytes_low_first i n value)
AreBytes-low_first i zero value place = grind (arith, common_steps)
AreBytes-low_first i (suc n) value zero = byte_at-lt i value
AreBytes-low_first i (suc n) value (suc place) = AreBytes-low_first (suc i) n value place

-- a memory stays one of bytes
pub AreBytes-store : (memory : List ℕ) (at width value : ℕ) → AreBytes memory → AreBytes (store memory at width value)
unfolding store
AreBytes-store memory at width value all =
    AreBytes-append (take at memory) (bytes_low_first 0 width value ++ drop (at + width) memory) (AreBytes-take at memory all)
    (AreBytes-append (bytes_low_first 0 width value) (drop (at + width) memory) (AreBytes-low_first 0 width value) (AreBytes-drop (at + width) memory all))

-- a bus stays one
store_by : (bus : BusState) (at width value : ℕ) → IsTrue (is_ram at width) → IsBus bus → (at < kernel_start) ⊎ (kernel_start ≤ at) → IsBus (bus_store bus at width value)
store_by bus at width value inside whole (inl low) =
    let range = user_range at width inside low in
    let room : at - user_start + width ≤ length bus.user = omega (arith, range, whole.user_length, user_size-is) in
    subst IsBus (sym (bus_store-user bus at width value low)) (record {
      user_length = length-store bus.user (at - user_start) width value room ∙ whole.user_length;
      kernel_length = whole.kernel_length;
      user_bytes = AreBytes-store bus.user (at - user_start) width value whole.user_bytes;
      kernel_bytes = whole.kernel_bytes;
      start_bits = whole.start_bits;
    })
store_by bus at width value inside whole (inr high) =
    let range = kernel_range at width inside high in
    let room : at - kernel_start + width ≤ length bus.kernel = omega (arith, range, whole.kernel_length, kernel_size-is) in
    subst IsBus (sym (bus_store-kernel bus at width value high)) (record {
      user_length = whole.user_length;
      kernel_length = length-store bus.kernel (at - kernel_start) width value room ∙ whole.kernel_length;
      user_bytes = whole.user_bytes;
      kernel_bytes = AreBytes-store bus.kernel (at - kernel_start) width value whole.kernel_bytes;
      start_bits = whole.start_bits;
    })

pub IsBus-bus_store : (bus : BusState) (at width value : ℕ) → IsTrue (is_ram at width) → IsBus bus → IsBus (bus_store bus at width value)
IsBus-bus_store bus at width value inside whole = store_by bus at width value inside whole (cases_lt at kernel_start)

-- the bus at reset is one
AreBytes-zeros : (size : ℕ) → AreBytes (zeros size)
unfolding zeros
AreBytes-zeros zero place = grind (arith, common_steps)
AreBytes-zeros (suc size) zero = omega arith
AreBytes-zeros (suc size) (suc place) = AreBytes-zeros size place

pub IsBus-reset : IsBus reset_bus
IsBus-reset = record {
  user_length = length-zeros user_size;
  kernel_length = length-zeros kernel_size;
  user_bytes = AreBytes-zeros user_size;
  kernel_bytes = AreBytes-zeros kernel_size;
  start_bits = lit< tt;
}

is_ram-beat : (at : ℕ) → at ≢ start_word → is_beat at ≡ true → IsTrue (is_ram at 8)
is_ram-beat at other here = grind (arith, nat_tests)

module _ (bus : BusState) (at value : ℕ) (small : value < 2 ^ 64) (whole : IsBus bus) where
  start_by : (b : Bool) → (at == start_word) ≡ b → is_beat at ≡ true → IsBus (with_beat bus at value)
  start_by true same here = subst IsBus (sym (with_beat-start bus at value (eqb-true at start_word same))) (record {
    user_length = whole.user_length;
    kernel_length = whole.kernel_length;
    user_bytes = whole.user_bytes;
    kernel_bytes = whole.kernel_bytes;
    start_bits = small;
  })
  start_by false other here =
      let apart : at ≢ start_word = grind (arith, nat_tests) in
      subst IsBus (sym (with_beat-ram bus at value apart here)) (IsBus-bus_store bus at 8 value (is_ram-beat at apart here) whole)

  beat_by : (b : Bool) → is_beat at ≡ b → IsBus (with_beat bus at value)
  beat_by true here = start_by (at == start_word) refl here
  beat_by false none = subst IsBus (sym (with_beat-none bus at value none)) whole

pub IsBus-with_beat : (bus : BusState) (at value : ℕ) → value < 2 ^ 64 → IsBus bus → IsBus (with_beat bus at value)
IsBus-with_beat bus at value small whole = beat_by bus at value small whole (is_beat at) refl
