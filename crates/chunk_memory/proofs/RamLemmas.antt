-- Slices of a bus as beats, one for each doubleword.
use Rattle.std.proofs.Common.{◌≡◌, ◌≢◌, ℕ, zero, suc, ◌+◌, ◌-◌, ◌*◌, ◌/◌, ◌%◌, ◌^◌, ◌<◌, ◌≤◌, true, false, List, [], ◌∷◌, ◌++◌, length, take, drop, length-append, length-take, length-drop, take-append-drop, append_assoc, append-nil, refl, sym, ap, subst, ◌∙◌, arith, inl, inr}
use Rattle.std.specs.Int.{to_le_bytes, from_le_bytes, w64}
use Rattle.std.specs.Prelude.{IsTrue, Option, Some, unwrap_or}
use Rattle.std.proofs.lemmas.Bool.{cases_lt, false≢true}
use Rattle.std.proofs.lemmas.Bool.Decides.{nat_tests}
use Rattle.std.proofs.lemmas.List.{length-take-le, take-take, drop-take, drop-drop, take_at, take_all, nil_from_length}
use Rattle.std.proofs.Math.Seq.{drop-append-add}
use Rattle.byteorder.specs.Endian.{little_number, little_bytes}
use Rattle.fe_base.specs.MemoryMap.{user_start, user_end, start_word, kernel_start, kernel_end, is_ram, is_mapped}
use Rattle.guest_memory.proofs.AreaLemmas.{is_ram-user, is_ram-kernel, bus_load-user, bus_load-kernel, bus_store-user, bus_store-kernel, bus_bytes-user, bus_bytes-kernel, with_bus_bytes-user, with_bus_bytes-kernel}
use Rattle.guest_memory.proofs.BusLemmas.{is_beat-ram, beat-ram, with_beat-ram}
use Rattle.guest_memory.proofs.MemoryLemmas.{load-take}
use Rattle.guest_memory.proofs.PartLemmas.{store-is, length-with_part}
use Rattle.guest_memory.specs.Bus.{BusState, beat, with_beat, bus_bytes, with_bus_bytes}
use Rattle.guest_memory.specs.Memory.{load, store, with_part}
use Rattle.chunk_memory.proofs.WordLemmas.{words, AreSmall, number-of, words-fit, words-bytes, length-words, first-number}
use Rattle.chunk_memory.specs.BeatLaws.{eight-of}
use Rattle.chunk_memory.specs.BeatChunks.{bytes_of, BeatsRead, BeatsWritten, ReadByBeats, WrittenByBeats}
use Rattle.chunk_memory.specs.Ports.{IsChunk}
use Rattle.chunk_memory.specs.RamTurns.{ram_turn}
use Rattle.chunk_memory.specs.Ranges.{IsMappedRange}

-- ---- one part of a list behind another
pub part-joins : (area front rest : List ℕ) (p : ℕ) → p + length front ≤ length area → with_part (with_part area p front) (p + length front) rest ≡ with_part area p (front ++ rest)
part-joins area front rest p room =
    let f : ℕ = length front in
    let r : ℕ = length rest in
    let lead : List ℕ = take p area ++ front in
    let behind : List ℕ = drop (p + f) area in
    let whole : with_part area p front ≡ lead ++ behind = sym (append_assoc (take p area) front behind) in
    let size : length lead ≡ p + f = length-append (take p area) front ∙ ap (λ (n : ℕ). n + f) (length-take-le p area (omega arith)) in
    let first : take (p + f) (lead ++ behind) ≡ lead = take_at lead behind (p + f) size in
    let last : drop (p + f + r) (lead ++ behind) ≡ drop r behind = ap (λ (n : ℕ). drop (n + r) (lead ++ behind)) (sym size) ∙ drop-append-add lead behind r in
    let sum : p + f + r ≡ p + length (front ++ rest) = omega (arith, length-append front rest) in
    let far : drop r behind ≡ drop (p + length (front ++ rest)) area = drop-drop r (p + f) area ∙ ap (λ (n : ℕ). drop n area) sum in
    ap (λ (l : List ℕ). with_part l (p + f) rest) whole ∙ ap (λ (l : List ℕ). l ++ (rest ++ drop (p + f + r) (lead ++ behind))) first ∙ ap (λ (l : List ℕ). lead ++ (rest ++ l)) (last ∙ far)
    ∙ append_assoc (take p area) front (rest ++ drop (p + length (front ++ rest)) area) ∙ ap (λ (l : List ℕ). take p area ++ l) (sym (append_assoc front rest (drop (p + length (front ++ rest)) area)))

pub none-is : (area : List ℕ) (p : ℕ) → area ≡ with_part area p []
none-is area p =
    let none : p ≡ p + 0 = omega arith in
    sym (take-append-drop p area) ∙ ap (λ (n : ℕ). take p area ++ drop n area) none

-- ---- an area of the bus
pub record Area (start end : ℕ) : Type 0 where
  pub bytes : BusState → List ℕ
  pub put : BusState → List ℕ → BusState
  pub put_bytes : (bus : BusState) (l : List ℕ) → bytes (put bus l) ≡ l
  pub put_put : (bus : BusState) (l k : List ℕ) → put (put bus l) k ≡ put bus k
  pub put_same : (bus : BusState) → put bus (bytes bus) ≡ bus
  pub loads : (bus : BusState) (at : ℕ) → at % 8 ≡ 0 → start ≤ at → at + 8 ≤ end → beat bus at ≡ Some (load (bytes bus) (at - start) 8)
  pub stores : (bus : BusState) (at value : ℕ) → at % 8 ≡ 0 → start ≤ at → at + 8 ≤ end → with_beat bus at value ≡ put bus (store (bytes bus) (at - start) 8 value)

unfoldable pub user_area : Area user_start user_end
user_area = record {
  bytes = λ bus. bus.user;
  put = λ bus l. record bus { user = l };
  put_bytes = λ bus l. refl;
  put_put = λ bus l k. refl;
  put_same = λ bus. refl;
  loads = λ bus at even low high. let other : at ≢ start_word = λ e. omega arith in
      beat-ram bus at other (is_beat-ram at even (is_ram-user at 8 low high)) ∙ ap (λ (n : ℕ). Some n) (bus_load-user bus at 8 (omega arith));
  stores = λ bus at value even low high. let other : at ≢ start_word = λ e. omega arith in
      with_beat-ram bus at value other (is_beat-ram at even (is_ram-user at 8 low high)) ∙ bus_store-user bus at 8 value (omega arith);
}

unfoldable pub kernel_area : Area kernel_start kernel_end
kernel_area = record {
  bytes = λ bus. bus.kernel;
  put = λ bus l. record bus { kernel = l };
  put_bytes = λ bus l. refl;
  put_put = λ bus l k. refl;
  put_same = λ bus. refl;
  loads = λ bus at even low high. let other : at ≢ start_word = λ e. omega arith in
      beat-ram bus at other (is_beat-ram at even (is_ram-kernel at 8 low high)) ∙ ap (λ (n : ℕ). Some n) (bus_load-kernel bus at 8 (omega arith));
  stores = λ bus at value even low high. let other : at ≢ start_word = λ e. omega arith in
      with_beat-ram bus at value other (is_beat-ram at even (is_ram-kernel at 8 low high)) ∙ bus_store-kernel bus at 8 value (omega arith);
}

module _ (start end : ℕ) (even : start % 8 ≡ 0) (a : Area start end) where
  -- a slice that is read
  pub area-reads : (count at : ℕ) (bus : BusState) (bytes : List ℕ) → at % 8 ≡ 0 → start ≤ at → at + 8 * count ≤ end → bytes ≡ take (8 * count) (drop (at - start) (a.bytes bus)) → BeatsRead ram_turn bus at (words count bytes) bus
  area-reads zero at bus bytes aligned low high are = refl
  area-reads (suc count) at bus bytes aligned low high are =
      let area : List ℕ = a.bytes bus in
      let p : ℕ = at - start in
      let split : 8 * suc count ≡ 8 + 8 * count = omega arith in
      let whole : bytes ≡ take (8 + 8 * count) (drop p area) = are ∙ ap (λ (n : ℕ). take n (drop p area)) split in
      let first : take 8 bytes ≡ take 8 (drop p area) = ap (λ (l : List ℕ). take 8 l) whole ∙ take-take 8 (8 + 8 * count) (drop p area) (omega arith) in
      let value : load area p 8 ≡ from_le_bytes w64 (take 8 bytes) = load-take area p 8 ∙ number-of (take 8 (drop p area)) ∙ ap (λ (l : List ℕ). from_le_bytes w64 l) (sym first) in
      let here : unwrap_or (beat bus at) 0 ≡ from_le_bytes w64 (take 8 bytes) = ap (λ (o : Option ℕ). unwrap_or o 0) (a.loads bus at aligned low (omega arith)) ∙ value in
      let next : p + 8 ≡ at + 8 - start = omega arith in
      let rest : drop 8 bytes ≡ take (8 * count) (drop (at + 8 - start) area) =
      ap (λ (l : List ℕ). drop 8 l) whole ∙ drop-take 8 (8 * count) (drop p area) ∙ ap (λ (l : List ℕ). take (8 * count) l) (drop-drop 8 p area) ∙ ap (λ (n : ℕ). take (8 * count) (drop n area)) next in
      (bus, ap (λ (n : ℕ). (bus, n)) here, area-reads count (at + 8) bus (drop 8 bytes) (omega arith) (omega arith) (omega arith) rest)

  -- a slice that is written
  pub area-writes : (values : List ℕ) (at : ℕ) (bus : BusState) → at % 8 ≡ 0 → start ≤ at → at + 8 * length values ≤ end → at - start + 8 * length values ≤ length (a.bytes bus)
      → BeatsWritten ram_turn bus at values (a.put bus (with_part (a.bytes bus) (at - start) (bytes_of values)))
  area-writes [] at bus aligned low high room = ap (λ (l : List ℕ). a.put bus l) (sym (none-is (a.bytes bus) (at - start))) ∙ a.put_same bus
  area-writes (value ∷ more) at bus aligned low high room =
      let area : List ℕ = a.bytes bus in
      let p : ℕ = at - start in
      let word : List ℕ = to_le_bytes w64 value in
      let now : List ℕ = with_part area p word in
      let stored : with_beat bus at value ≡ a.put bus now = a.stores bus at value aligned low (omega arith) ∙ ap (λ (l : List ℕ). a.put bus l) (store-is area p 8 value) in
      let between : BusState = a.put bus now in
      let is : a.bytes between ≡ now = a.put_bytes bus now in
      let long : length now ≡ length area = length-with_part area p word (omega (arith, eight-of value)) in
      let next : p + length word ≡ at + 8 - start = omega (arith, eight-of value) in
      let rest = area-writes more (at + 8) between (omega arith) (omega arith) (omega arith) (omega (arith, long, ap (λ (l : List ℕ). length l) is)) in
      let joined : with_part (a.bytes between) (at + 8 - start) (bytes_of more) ≡ with_part area p (word ++ bytes_of more) =
      ap (λ (l : List ℕ). with_part l (at + 8 - start) (bytes_of more)) is ∙ ap (λ (n : ℕ). with_part now n (bytes_of more)) (sym next) ∙ part-joins area word (bytes_of more) p (omega (arith, eight-of value)) in
      let last : a.put between (with_part (a.bytes between) (at + 8 - start) (bytes_of more)) ≡ a.put bus (with_part area p (word ++ bytes_of more)) =
      a.put_put bus now (with_part (a.bytes between) (at + 8 - start) (bytes_of more)) ∙ ap (λ (l : List ℕ). a.put bus l) joined in
      (between, ap (λ (s : BusState). (s, 0)) stored, subst (λ (s : BusState). BeatsWritten ram_turn between (at + 8) more s) last rest)

-- ---- chunks of the bus
mapped-user : (at : ℕ) → is_mapped at ≡ true → at < user_end → user_start ≤ at
mapped-user at mapped low = grind (arith, nat_tests)

mapped-start : (at : ℕ) → is_mapped at ≡ true → user_end ≤ at → at < kernel_start → (start_word ≤ at) × (at < start_word + 8)
mapped-start at mapped low high = (grind (arith, nat_tests), grind (arith, nat_tests))

mapped-kernel : (at : ℕ) → is_mapped at ≡ true → kernel_start ≤ at → at < kernel_end
mapped-kernel at mapped high = grind (arith, nat_tests)

-- a mapped range ends where its area does
ends-at : (at count end : ℕ) → IsMappedRange at count → end % 8 ≡ 0 → at < end → is_mapped end ≡ false → at + count ≤ end
ends-at at count end mapped even less unmapped = elim (cases_lt end (at + count)) [
  | inl past ↦ absurd (false≢true (sym unmapped ∙ mapped end (record { some = omega arith; aligned = even; above = omega arith; below = past })))
  | inr within ↦ within
]

-- where a chunk stands
pub data ChunkPlace (at count : ℕ) : Type 0 where
  in_start : at ≡ start_word → count ≡ 8 → ChunkPlace at count
  in_user : user_start ≤ at → at + count ≤ user_end → ChunkPlace at count
  in_kernel : kernel_start ≤ at → at + count ≤ kernel_end → ChunkPlace at count

pub chunk-place : (most at count : ℕ) → IsChunk 8 most at count → ChunkPlace at count
chunk-place most at count chunk =
    let here : is_mapped at ≡ true = chunk.mapped at (record { some = chunk.some; aligned = chunk.aligned; above = omega arith; below = omega (arith, chunk.some) }) in
    elim (cases_lt at user_end) [
      | inl low ↦ in_user (mapped-user at here low) (ends-at at count user_end chunk.mapped refl low refl)
      | inr past ↦ elim (cases_lt at kernel_start) [
        | inl low ↦
            let is = mapped-start at here past low in
            let end = ends-at at count (start_word + 8) chunk.mapped refl is.1 refl in
            in_start (omega (arith, chunk.aligned)) (omega (arith, chunk.aligned, chunk.whole, chunk.some))
        | inr high ↦ in_kernel high (ends-at at count kernel_end chunk.mapped refl (mapped-kernel at here high) refl)
      ]
    ]

place-ram : (at count : ℕ) → at ≢ start_word → ChunkPlace at count → IsTrue (is_ram at count)
place-ram at count other (in_start e f) = absurd (other e)
place-ram at count other (in_user low high) = is_ram-user at count low high
place-ram at count other (in_kernel low high) = is_ram-kernel at count low high

-- a chunk but the start word stands whole in one area of RAM
pub chunk-ram : (most at count : ℕ) → IsChunk 8 most at count → at ≢ start_word → IsTrue (is_ram at count)
chunk-ram most at count chunk other = place-ram at count other (chunk-place most at count chunk)

pub start-count : (most at count : ℕ) → IsChunk 8 most at count → at ≡ start_word → count ≡ 8
start-count most at count chunk here = go (chunk-place most at count chunk)
  where
    go : ChunkPlace at count → count ≡ 8
    go (in_start e f) = f
    go (in_user low high) = absurd (omega arith)
    go (in_kernel low high) = absurd (omega arith)

-- a slice that is read
reads-at : (at count : ℕ) (bus : BusState) (bytes : List ℕ) → at % 8 ≡ 0 → at ≢ start_word → bytes ≡ bus_bytes bus at (8 * count) → ChunkPlace at (8 * count) → BeatsRead ram_turn bus at (words count bytes) bus
unfolding user_area kernel_area
reads-at at count bus bytes even other are (in_start e f) = absurd (other e)
reads-at at count bus bytes even other are (in_user low high) = area-reads user_start user_end refl user_area count at bus bytes even low high (are ∙ bus_bytes-user bus at (8 * count) (low-user at count high))
  where
    low-user : (at count : ℕ) → at + 8 * count ≤ user_end → at < kernel_start
    low-user at count high = omega arith
reads-at at count bus bytes even other are (in_kernel low high) = area-reads kernel_start kernel_end refl kernel_area count at bus bytes even low high (are ∙ bus_bytes-kernel bus at (8 * count) low)

pub ram-read : (most at : ℕ) (bus : BusState) (bytes : List ℕ) → IsChunk 8 most at (length bytes) → at ≢ start_word → bytes ≡ bus_bytes bus at (length bytes) → AreSmall bytes → ReadByBeats ram_turn at bytes bus bus
ram-read most at bus bytes chunk other are small =
    let count : ℕ = length bytes / 8 in
    let long : length bytes ≡ 8 * count = omega (arith, chunk.whole) in
    record {
      values = words count bytes;
      fit = words-fit count bytes small;
      bytes_are = words-bytes count bytes small long;
      made = reads-at at count bus bytes chunk.aligned other (are ∙ ap (λ (n : ℕ). bus_bytes bus at n) long) (subst (λ (n : ℕ). ChunkPlace at n) long (chunk-place most at (length bytes) chunk));
    }

-- a slice that is written
writes-at : (at : ℕ) (bus : BusState) (values : List ℕ) → at % 8 ≡ 0 → at ≢ start_word → 0 < length values → length (bus_bytes bus at (8 * length values)) ≡ 8 * length values → ChunkPlace at (8 * length values)
    → BeatsWritten ram_turn bus at values (with_bus_bytes bus at (bytes_of values))
unfolding user_area kernel_area
writes-at at bus values even other some long (in_start e f) = absurd (other e)
writes-at at bus values even other some long (in_user low high) =
    let below : at < kernel_start = omega arith in
    let part : length (take (8 * length values) (drop (at - user_start) bus.user)) ≡ 8 * length values = sym (ap (λ (l : List ℕ). length l) (bus_bytes-user bus at (8 * length values) below)) ∙ long in
    let room : at - user_start + 8 * length values ≤ length bus.user = omega (arith, length-take (8 * length values) (drop (at - user_start) bus.user), length-drop (at - user_start) bus.user) in
    subst (λ (s : BusState). BeatsWritten ram_turn bus at values s) (sym (with_bus_bytes-user bus at (bytes_of values) below)) (area-writes user_start user_end refl user_area values at bus even low high room)
writes-at at bus values even other some long (in_kernel low high) =
    let part : length (take (8 * length values) (drop (at - kernel_start) bus.kernel)) ≡ 8 * length values = sym (ap (λ (l : List ℕ). length l) (bus_bytes-kernel bus at (8 * length values) low)) ∙ long in
    let room : at - kernel_start + 8 * length values ≤ length bus.kernel = omega (arith, length-take (8 * length values) (drop (at - kernel_start) bus.kernel), length-drop (at - kernel_start) bus.kernel) in
    subst (λ (s : BusState). BeatsWritten ram_turn bus at values s) (sym (with_bus_bytes-kernel bus at (bytes_of values) low)) (area-writes kernel_start kernel_end refl kernel_area values at bus even low high room)

pub ram-write : (most at : ℕ) (bus : BusState) (bytes : List ℕ) → IsChunk 8 most at (length bytes) → at ≢ start_word → length (bus_bytes bus at (length bytes)) ≡ length bytes → AreSmall bytes → WrittenByBeats ram_turn at bytes bus (with_bus_bytes bus at bytes)
ram-write most at bus bytes chunk other room small =
    let count : ℕ = length bytes / 8 in
    let long : length bytes ≡ 8 * count = omega (arith, chunk.whole) in
    let values : List ℕ = words count bytes in
    let are : bytes ≡ bytes_of values = words-bytes count bytes small long in
    let size : length bytes ≡ 8 * length values = omega (arith, length-words count bytes) in
    let made = writes-at at bus values chunk.aligned other (omega (arith, length-words count bytes, chunk.some)) (subst (λ (n : ℕ). length (bus_bytes bus at n) ≡ n) size room)
    (subst (λ (n : ℕ). ChunkPlace at n) size (chunk-place most at (length bytes) chunk)) in
    record { values = values; fit = words-fit count bytes small; bytes_are = are; made = subst (λ (l : List ℕ). BeatsWritten ram_turn bus at values (with_bus_bytes bus at l)) (sym are) made }

-- ---- the start word
pub start-read : (at v : ℕ) (bus : BusState) (into new : List ℕ) → at ≡ start_word → IsChunk 8 1024 at (length into) → v ≡ unwrap_or (beat bus at) 0 → v < 2 ^ 64 → new ≡ little_bytes 8 v ++ drop 8 into → ReadByBeats ram_turn at new bus bus
start-read at v bus into new here chunk is small new_is =
    let count = start-count 1024 at (length into) chunk here in
    record {
      values = v ∷ [];
      fit = (small, tt);
      bytes_are = new_is ∙ ap (λ (l : List ℕ). to_le_bytes w64 v ++ l) (nil_from_length (drop 8 into) (omega (arith, length-drop 8 into)));
      made = (bus, ap (λ (n : ℕ). (bus, n)) (sym is), refl);
    }

pub start-write : (at v : ℕ) (bus new : BusState) (from : List ℕ) → at ≡ start_word → IsChunk 8 1024 at (length from) → v ≡ little_number 8 from → AreSmall from → new ≡ with_beat bus at v → WrittenByBeats ram_turn at from bus new
start-write at v bus new from here chunk is small new_is =
    let count = start-count 1024 at (length from) chunk here in
    let first = first-number from small (omega arith) in
    let word : to_le_bytes w64 v ≡ from = ap (λ (n : ℕ). to_le_bytes w64 n) is ∙ first.1 ∙ take_all 8 from (omega arith) in
    let made : WrittenByBeats ram_turn at from bus (with_beat bus at v) = record {
      values = v ∷ [];
      fit = (subst (λ (n : ℕ). n < 2 ^ 64) (sym is) first.0, tt);
      bytes_are = sym word ∙ sym (append-nil (to_le_bytes w64 v));
      made = (with_beat bus at v, refl, refl);
    } in
    subst (λ (s : BusState). WrittenByBeats ram_turn at from bus s) (sym new_is) made
