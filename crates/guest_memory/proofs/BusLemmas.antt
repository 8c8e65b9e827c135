-- The two areas of the bus as one block of bytes.
use Rattle.std.proofs.Common.{◌≡◌, ℕ, ◌+◌, ◌-◌, ◌^◌, ◌%◌, ◌≤◌, ◌<◌, ◌≢◌, Bool, true, false, cond, List, length, take, drop, length-take, length-drop, refl, sym, ap, subst, ◌∙◌, arith}
use Rattle.std.proofs.lemmas.Bool.{ltb-true}
use Rattle.std.proofs.lemmas.Bool.Decides.{nat_tests}
use Rattle.std.proofs.lemmas.List.{length-take-le, drop-drop}
use Rattle.std.proofs.lemmas.Grind.{common_steps}
use Rattle.std.specs.Prelude.{IsTrue, nat_lt, ◌==◌, if◌then◌else◌, Some, None}
use Rattle.byteorder.specs.Endian.{little_bytes}
use Rattle.byteorder.specs.Numbers.{length-bytes_low_first}
use Rattle.fe_base.specs.MemoryMap.{user_start, user_end, start_word, kernel_start, kernel_end}
use Rattle.guest_memory.proofs.MemoryLemmas.{length-store, take-zeros, drop-zeros, load-front, load-rest, part-front}
use Rattle.guest_memory.proofs.PartLemmas.{store-is, take-part, drop-part, take-part_behind, drop-part_behind}
use Rattle.guest_memory.specs.Bus.{user_size, kernel_size, BusState, IsBus, is_ram, area, offset, with_area, bus_load, bus_store, bus_bytes, with_bus_bytes, reset_bus, is_beat, beat, with_beat}
use Rattle.guest_memory.specs.Memory.{with_part}
use Rattle.guest_memory.specs.Memory.{zeros, load, store, AreBytes}

pub user_size-is : user_size ≡ 0x1000000
unfolding user_size
user_size-is = refl

pub kernel_size-is : kernel_size ≡ 0x10000
unfolding kernel_size
kernel_size-is = refl

-- where a range in RAM stands, by its address
pub user_range : (at n : ℕ) → IsTrue (is_ram at n) → at < kernel_start → (user_start ≤ at) × (at + n ≤ user_end)
user_range at n inside low = grind (arith, nat_tests)

pub kernel_range : (at n : ℕ) → IsTrue (is_ram at n) → kernel_start ≤ at → at + n ≤ kernel_end
kernel_range at n inside high = grind (arith, nat_tests)

pub is_ram-less : (at m n : ℕ) → m ≤ n → IsTrue (is_ram at n) → IsTrue (is_ram at m)
is_ram-less at m n less inside = grind (arith, nat_tests)

-- where the byte of an address in RAM stands in the block, the user area first
abbrev pub block_place : ℕ → ℕ
block_place at = if nat_lt at kernel_start then at - user_start else 0x1000000 + (at - kernel_start)

-- the bus over a block
abbrev pub bus_of : List ℕ → ℕ → BusState
bus_of ram start = record { user = take user_size ram; kernel = drop user_size ram; start = start }

pub block_place-le : (at n : ℕ) → IsTrue (is_ram at n) → block_place at + n ≤ 0x1010000
block_place-le at n inside = grind (arith, nat_tests)

module _ (ram : List ℕ) (long : length ram ≡ 0x1010000) where
  size_fits : user_size ≤ length ram
  size_fits = omega (arith, user_size-is)

  load_by : (b : Bool) (at width : ℕ) → nat_lt at kernel_start ≡ b → IsTrue (is_ram at width)
      → load (cond b (take user_size ram) (drop user_size ram)) (cond b (at - user_start) (at - kernel_start)) width ≡ load ram (cond b (at - user_start) (0x1000000 + (at - kernel_start))) width
  load_by true at width low inside =
      let range = user_range at width inside (ltb-true at kernel_start low) in
      load-front ram user_size (at - user_start) width (omega (arith, range, user_size-is))
  load_by false at width high inside =
      load-rest ram user_size (at - kernel_start) width ∙ ap (λ (n : ℕ). load ram (n + (at - kernel_start)) width) user_size-is

  bytes_by : (b : Bool) (at n : ℕ) → nat_lt at kernel_start ≡ b → IsTrue (is_ram at n)
      → take n (drop (cond b (at - user_start) (at - kernel_start)) (cond b (take user_size ram) (drop user_size ram))) ≡ take n (drop (cond b (at - user_start) (0x1000000 + (at - kernel_start))) ram)
  bytes_by true at n low inside =
      let range = user_range at n inside (ltb-true at kernel_start low) in
      part-front ram user_size (at - user_start) n (omega (arith, range, user_size-is))
  bytes_by false at n high inside =
      ap (λ (l : List ℕ). take n l) (drop-drop (at - kernel_start) user_size ram ∙ ap (λ (k : ℕ). drop (k + (at - kernel_start)) ram) user_size-is)

  put_by : (b : Bool) (start at : ℕ) (ws : List ℕ) → nat_lt at kernel_start ≡ b → IsTrue (is_ram at (length ws))
      → bus_of (with_part ram (cond b (at - user_start) (0x1000000 + (at - kernel_start))) ws) start
      ≡ (let bytes : List ℕ = with_part (cond b (take user_size ram) (drop user_size ram)) (cond b (at - user_start) (at - kernel_start)) ws in cond b (record (bus_of ram start) { user = bytes }) (record (bus_of ram start) { kernel = bytes }))
  put_by true start at ws low inside =
      let range = user_range at (length ws) inside (ltb-true at kernel_start low) in
      let room : at - user_start + length ws ≤ user_size = omega (arith, range, user_size-is) in
      let front = take-part ram user_size size_fits (at - user_start) ws room in
      let rest = drop-part ram user_size size_fits (at - user_start) ws room in
      rw (front, rest) refl
  put_by false start at ws high inside =
      let here : 0x1000000 + (at - kernel_start) ≡ user_size + (at - kernel_start) = omega (arith, user_size-is) in
      let front = ap (λ (k : ℕ). take user_size (with_part ram k ws)) here ∙ take-part_behind ram user_size size_fits (at - kernel_start) ws in
      let rest = ap (λ (k : ℕ). drop user_size (with_part ram k ws)) here ∙ drop-part_behind ram user_size size_fits (at - kernel_start) ws in
      rw (front, rest) refl

-- what is done to the bus, done to its block
pub bus_load-of : (ram : List ℕ) (start at width : ℕ) → length ram ≡ 0x1010000 → IsTrue (is_ram at width) → bus_load (bus_of ram start) at width ≡ load ram (block_place at) width
unfolding bus_load
bus_load-of ram start at width long inside = load_by ram long (nat_lt at kernel_start) at width refl inside

pub bus_bytes-of : (ram : List ℕ) (start at n : ℕ) → length ram ≡ 0x1010000 → IsTrue (is_ram at n) → bus_bytes (bus_of ram start) at n ≡ take n (drop (block_place at) ram)
unfolding bus_bytes
bus_bytes-of ram start at n long inside = bytes_by ram long (nat_lt at kernel_start) at n refl inside

-- a range of the block that was lent
pub bus_bytes-lent : (ram : List ℕ) (start at n place : ℕ) (lent : List ℕ) → length ram ≡ 0x1010000 → IsTrue (is_ram at n) → place ≡ block_place at
    → lent ≡ take (place + n - place) (drop place ram) → lent ≡ bus_bytes (bus_of ram start) at n
bus_bytes-lent ram start at n place lent long inside here same =
    same ∙ ap (λ (k : ℕ). take k (drop place ram)) (omega arith) ∙ ap (λ (k : ℕ). take n (drop k ram)) here ∙ sym (bus_bytes-of ram start at n long inside)

pub length-lent : (ram : List ℕ) (at n place : ℕ) (lent : List ℕ) → length ram ≡ 0x1010000 → IsTrue (is_ram at n) → place ≡ block_place at
    → lent ≡ take (place + n - place) (drop place ram) → length lent ≡ n
length-lent ram at n place lent long inside here same =
    let room = block_place-le at n inside in
    ap (λ (l : List ℕ). length l) same ∙ length-take-le (place + n - place) (drop place ram) (omega (arith, room, length-drop place ram)) ∙ omega arith

pub with_bus_bytes-of : (ram : List ℕ) (start at : ℕ) (ws : List ℕ) → length ram ≡ 0x1010000 → IsTrue (is_ram at (length ws)) → with_bus_bytes (bus_of ram start) at ws ≡ bus_of (with_part ram (block_place at) ws) start
unfolding with_bus_bytes
with_bus_bytes-of ram start at ws long inside = sym (put_by ram long (nat_lt at kernel_start) start at ws refl inside)

pub with_bus_bytes-lent : (ram : List ℕ) (start at n place : ℕ) → length ram ≡ 0x1010000 → IsTrue (is_ram at n) → place ≡ block_place at
    → (ws : List ℕ) → bus_of (with_part ram place (take n ws)) start ≡ with_bus_bytes (bus_of ram start) at (take n ws)
with_bus_bytes-lent ram start at n place long inside here ws =
    let less : length (take n ws) ≤ n = omega (arith, length-take n ws) in
    ap (λ (k : ℕ). bus_of (with_part ram k (take n ws)) start) here ∙ sym (with_bus_bytes-of ram start at (take n ws) long (is_ram-less at (length (take n ws)) n less inside))

pub bus_store-of : (ram : List ℕ) (start at width value : ℕ) → length ram ≡ 0x1010000 → IsTrue (is_ram at width) → bus_store (bus_of ram start) at width value ≡ bus_of (store ram (block_place at) width value) start
unfolding bus_store
bus_store-of ram start at width value long inside =
    let bits = little_bytes width value in
    let inner : IsTrue (is_ram at (length bits)) = subst (λ (n : ℕ). IsTrue (is_ram at n)) (sym (length-bytes_low_first 0 width value)) inside in
    ap (λ (l : List ℕ). with_area (bus_of ram start) at l) (store-is (area (bus_of ram start) at) (offset at) width value)
    ∙ sym (put_by ram long (nat_lt at kernel_start) start at bits refl inner)
    ∙ ap (λ (l : List ℕ). bus_of l start) (sym (store-is ram (block_place at) width value))

-- the bus over a block of its size
pub bus_of-is : (ram : List ℕ) (start : ℕ) → length ram ≡ 0x1010000 → AreBytes ram → start < 2 ^ 64 → IsBus (bus_of ram start)
bus_of-is ram start long bytes small = record {
  user_length = length-take-le user_size ram (omega (arith, user_size-is));
  kernel_length = omega (arith, length-drop user_size ram, user_size-is, kernel_size-is);
  user_bytes = λ place. grind (arith, common_steps, bytes place);
  kernel_bytes = λ place. grind (arith, common_steps, bytes (user_size + place));
  start_bits = small;
}

pub reset_of : (ram : List ℕ) → ram ≡ zeros 0x1010000 → bus_of ram 0 ≡ reset_bus
reset_of ram zero =
    let user : take user_size ram ≡ zeros user_size = ap (λ (l : List ℕ). take user_size l) zero ∙ take-zeros user_size 0x1010000 (omega (arith, user_size-is)) in
    let kernel : drop user_size ram ≡ zeros kernel_size = ap (λ (l : List ℕ). drop user_size l) zero ∙ drop-zeros user_size 0x1010000 ∙ ap zeros (omega (arith, user_size-is, kernel_size-is)) in
    rw (user, kernel) refl

-- the tests of a beat, by its address
pub is_beat-start : is_beat start_word ≡ true
is_beat-start = refl

pub is_beat-ram : (at : ℕ) → at % 8 ≡ 0 → IsTrue (is_ram at 8) → is_beat at ≡ true
is_beat-ram at aligned inside = grind (arith, nat_tests)

pub is_beat-uneven : (at : ℕ) → at ≢ start_word → at % 8 ≢ 0 → is_beat at ≡ false
is_beat-uneven at other uneven = grind (arith, nat_tests)

pub is_beat-unmapped : (at : ℕ) → at ≢ start_word → is_ram at 8 ≡ false → is_beat at ≡ false
is_beat-unmapped at other unmapped = grind (arith, nat_tests)

-- the doubleword there, and the bus with another
pub beat-start : (bus : BusState) (at : ℕ) → at ≡ start_word → beat bus at ≡ Some bus.start
unfolding beat
beat-start bus at here = rw here refl

pub beat-ram : (bus : BusState) (at : ℕ) → at ≢ start_word → is_beat at ≡ true → beat bus at ≡ Some (bus_load bus at 8)
unfolding beat
beat-ram bus at other here =
    let plain : (at == start_word) ≡ false = grind (arith, nat_tests) in
    rw (here, plain) refl

pub beat-none : (bus : BusState) (at : ℕ) → is_beat at ≡ false → beat bus at ≡ None
unfolding beat
beat-none bus at not = rw not refl

pub with_beat-start : (bus : BusState) (at value : ℕ) → at ≡ start_word → with_beat bus at value ≡ (record bus { start = value })
unfolding with_beat
with_beat-start bus at value here = rw here refl

pub with_beat-ram : (bus : BusState) (at value : ℕ) → at ≢ start_word → is_beat at ≡ true → with_beat bus at value ≡ bus_store bus at 8 value
unfolding with_beat
with_beat-ram bus at value other here =
    let plain : (at == start_word) ≡ false = grind (arith, nat_tests) in
    rw (here, plain) refl

pub with_beat-none : (bus : BusState) (at value : ℕ) → is_beat at ≡ false → with_beat bus at value ≡ bus
unfolding with_beat
with_beat-none bus at value not = rw not refl

pub ruleset steps = (nat_tests, block_place-le, bus_load-of, bus_store-of, length-store)

pub ruleset beats = (nat_tests, is_beat-start, is_beat-ram, is_beat-uneven, is_beat-unmapped, beat-start, beat-ram, beat-none, with_beat-start, with_beat-ram, with_beat-none)
