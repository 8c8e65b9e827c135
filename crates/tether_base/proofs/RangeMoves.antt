-- The read and the write of a range as moves, and what follows: each leads to one answer and one state.
use Rattle.std.proofs.Common.{◌≡◌, ◌≤◌, ◌<◌, ◌+◌, ◌-◌, ◌*◌, ◌/◌, ◌%◌, ℕ, zero, suc, Bool, true, false, List, [], ◌∷◌}
use Rattle.std.proofs.Common.{◌++◌, append_assoc, length, take, drop, length-drop, take-append-drop, refl, sym, ap}
use Rattle.std.proofs.Common.{subst, ◌∙◌, arith}
use Rattle.std.specs.Int.{to_le_bytes, from_le_bytes, w64}
use Rattle.std.proofs.lemmas.List.{length-take-le, take_at, drop_at}
use Rattle.std.proofs.lemmas.Nat.{from_le_bytes-to_le_bytes_8}
use Rattle.chunk_memory.proofs.SizeLemmas.{chunk_size-part, chunk_size-whole, step-fits}
use Rattle.chunk_memory.proofs.WordLemmas.{words}
use Rattle.chunk_memory.proofs.WriteSpelled.{put-size}
use Rattle.chunk_memory.specs.BeatChunks.{bytes_of, AreDoublewords, DirectOne, DirectRefused}
use Rattle.chunk_memory.specs.BeatLaws.{direct_sizes, eight-of, length-bytes_of}
use Rattle.chunk_memory.specs.Transactions.{Chunk, ReadChunk, WriteChunk, begins_in_part, chunk_size, step_size}
use Rattle.chunk_memory.specs.Transactions.{ReadStep}
use Rattle.chunk_memory.specs.Transactions.{WholeStep, PartStep, ReadChunks, WriteChunks, Made, WasRead, WasReadUntil}
use Rattle.chunk_memory.specs.Transactions.{WasWritten, WasWrittenUntil}
use Rattle.chunk_memory.specs.declared.stops.PortStop.TheVariants.{Spent}
use Rattle.guest_memory.specs.Memory.{with_part}
use Rattle.target_box.specs.Lined.{Lined, next_line, lost_line}
use Rattle.tether_base.proofs.Moves.{Moves, Gives, end_of, Stops, read_then, write_then, read-ends, read-goes-on}
use Rattle.tether_base.proofs.Moves.{read-stops, write-ends, write-goes-on, write-stops, end-limit, stop-limit}
use Rattle.tether_base.proofs.Moves.{stop-before, stop-once}
use Rattle.tether_base.specs.ToldActs.{AtLimit}

-- ---- doublewords and their bytes
words-of : (values : List ℕ) → AreDoublewords values → words (length values) (bytes_of values) ≡ values
words-of [] fit = refl
words-of (value ∷ more) fit =
    let word : List ℕ = to_le_bytes w64 value in
    let first : from_le_bytes w64 (take 8 (word ++ bytes_of more)) ≡ value =
    ap (λ (l : List ℕ). from_le_bytes w64 l) (take_at word (bytes_of more) 8 (eight-of value))
    ∙ from_le_bytes-to_le_bytes_8 value fit.0 in
    let rest : words (length more) (drop 8 (word ++ bytes_of more)) ≡ more =
    ap (λ (l : List ℕ). words (length more) l) (drop_at word (bytes_of more) 8 (eight-of value))
    ∙ words-of more fit.1 in
    ap (λ (n : ℕ). n ∷ words (length more) (drop 8 (word ++ bytes_of more))) first ∙ ap (λ (l : List ℕ). value ∷ l) rest

eighth : (c n : ℕ) → c ≡ 8 * n → c / 8 ≡ n
eighth c n same = omega (arith, same)

below-eighth : (c n : ℕ) → c % 8 ≡ 0 → 8 * n < c → n < c / 8
below-eighth c n whole less = omega (arith, whole, less)

-- fuel for what is left behind a step
fewer : (count size fuel : ℕ) → 0 < size → suc count ≤ suc fuel → suc count - size ≤ fuel
fewer count size fuel some less = omega (arith, some, less)

drop-fewer : (bytes : List ℕ) (size fuel : ℕ) → 0 < size → length bytes ≤ suc fuel → length (drop size bytes) ≤ fuel
drop-fewer bytes size fuel some less = omega (arith, some, less, length-drop size bytes)

-- a chunk has whole doublewords
chunk-multiple : (at count : ℕ) → chunk_size 8 1024 at count % 8 ≡ 0
chunk-multiple at count = go (begins_in_part 8 at count) refl
  where
    go : (b : Bool) → begins_in_part 8 at count ≡ b → chunk_size 8 1024 at count % 8 ≡ 0
    go true part = omega (arith, chunk_size-part 8 1024 at count part)
    go false whole = omega (arith, chunk_size-whole 8 1024 at count whole)

-- bytes of so many doublewords are these doublewords
words-in : (bytes values : List ℕ) (size : ℕ) → AreDoublewords values → bytes ≡ bytes_of values → length bytes ≡ size
    → words (size / 8) bytes ≡ values
words-in bytes values size fit are long =
    let count : size / 8 ≡ length values =
    eighth size (length values) (sym long ∙ ap (λ (l : List ℕ). length l) are ∙ length-bytes_of values) in
    ap (λ (n : ℕ). words n bytes) count ∙ ap (λ (l : List ℕ). words (length values) l) are ∙ words-of values fit

-- ---- steps of a range
-- how many doublewords the first chunk has
chunk-count : (at count : ℕ) (bytes values got : List ℕ) (place : ℕ) → length bytes ≡ count
    → ReadStep 8 1024 at bytes place got → got ≡ bytes_of values
    → chunk_size 8 1024 at count / 8 ≡ length values
chunk-count at count bytes values got place long step are =
    eighth (chunk_size 8 1024 at count) (length values)
    (ap (λ (n : ℕ). chunk_size 8 1024 at n) (sym long) ∙ sym step.size
    ∙ ap (λ (l : List ℕ). length l) are ∙ length-bytes_of values)

-- the bytes of the first chunk, and the rest
front-and-rest : (at count : ℕ) (bytes values got : List ℕ) (place : ℕ) → length bytes ≡ count
    → ReadStep 8 1024 at bytes place got → got ≡ bytes_of values
    → take (step_size 8 1024 at count) (drop (at % 8) (bytes_of values)) ++ drop (step_size 8 1024 at count) bytes
    ≡ bytes
front-and-rest at count bytes values got place long step are =
    let size : ℕ = step_size 8 1024 at count in
    let front : take size bytes ≡ take size (drop (at % 8) got) =
    subst (λ (n : ℕ). take (step_size 8 1024 at n) bytes ≡ take (step_size 8 1024 at n) (drop (at % 8) got)) long
    step.bytes_are in
    ap (λ (l : List ℕ). l ++ drop size bytes)
    (ap (λ (l : List ℕ). take size (drop (at % 8) l)) (sym are) ∙ sym front)
    ∙ take-append-drop size bytes

-- the doublewords of a chunk of whole ones
whole-words : (at : ℕ) (bytes put values : List ℕ) (place : ℕ) → WholeStep 8 1024 at bytes place put
    → AreDoublewords values → put ≡ bytes_of values
    → words (step_size 8 1024 at (length bytes) / 8) (take (step_size 8 1024 at (length bytes)) bytes) ≡ values
whole-words at bytes put values place step fit are =
    let size : ℕ = step_size 8 1024 at (length bytes) in
    let fits = step-fits 8 1024 at (length bytes) direct_sizes step.some in
    words-in (take size bytes) values size fit (sym step.bytes_are ∙ are) (length-take-le size bytes fits.within)

-- the doubleword of a chunk that is one
one-word : (put values : List ℕ) → length put ≡ 8 → AreDoublewords values → put ≡ bytes_of values
    → words 1 put ≡ values
one-word put values long fit are = words-in put values 8 fit are long

-- a doubleword that was read is one value
one-value : (old values : List ℕ) → length old ≡ 8 → old ≡ bytes_of values → length values ≡ 1
one-value old values long are =
    omega (arith, long, ap (λ (l : List ℕ). length l) are, length-bytes_of values)

-- fuel for what is left
left-fuel : (fuel at : ℕ) (bytes : List ℕ) → 0 < length bytes → length bytes ≤ suc fuel
    → length (drop (step_size 8 1024 at (length bytes)) bytes) ≤ fuel
left-fuel fuel at bytes some less =
    drop-fewer bytes (step_size 8 1024 at (length bytes)) fuel
    (step-fits 8 1024 at (length bytes) direct_sizes some).some less

no-some : {T : Type 0} → (bytes : List ℕ) → 0 < length bytes → length bytes ≤ 0 → T
no-some bytes some none = absurd (omega (arith, some, none))

-- ---- a range that is read
module _ {R : Type 0} where
  abbrev pub read_range : ℕ → ℕ → ℕ → (List ℕ → Moves R) → Moves R
  read_range zero at count k = k []
  read_range (suc fuel) at zero k = k []
  read_range (suc fuel) at (suc count) k =
      read_then (chunk_size 8 1024 at (suc count) / 8) (at - at % 8)
      (λ values. read_range fuel (at + step_size 8 1024 at (suc count)) (suc count - step_size 8 1024 at (suc count))
      (λ rest. k (take (step_size 8 1024 at (suc count)) (drop (at % 8) (bytes_of values)) ++ rest)))

  -- behind the first chunk
  abbrev read_rest : ℕ → ℕ → ℕ → (List ℕ → Moves R) → List ℕ → Moves R
  read_rest fuel at count k values =
      read_range fuel (at + step_size 8 1024 at count) (count - step_size 8 1024 at count)
      (λ rest. k (take (step_size 8 1024 at count) (drop (at % 8) (bytes_of values)) ++ rest))

  ends-read : (k : List ℕ → Moves R) (chunks : List Chunk) (fuel at count : ℕ) (bytes : List ℕ) (a b : Lined)
      → length bytes ≡ count → count ≤ fuel → ReadChunks 8 1024 at bytes chunks
      → Made (DirectOne next_line) a chunks b → end_of (read_range fuel at count k) a ≡ end_of (k bytes) b
  ends-read k [] zero at count bytes a b long less are made =
      ap (λ (l : List ℕ). end_of (k l) a) (sym are) ∙ ap (λ (l : Lined). end_of (k bytes) l) (sym made)
  ends-read k [] (suc fuel) at zero bytes a b long less are made =
      ap (λ (l : List ℕ). end_of (k l) a) (sym are) ∙ ap (λ (l : Lined). end_of (k bytes) l) (sym made)
  ends-read k [] (suc fuel) at (suc count) bytes a b long less are made =
      let none : length bytes ≡ 0 = ap (λ (l : List ℕ). length l) are in absurd (omega (arith, none, long))
  ends-read k (WriteChunk place put ∷ chunks) fuel at count bytes a b long less are made = absurd are
  ends-read k (ReadChunk place got ∷ chunks) zero at count bytes a b long less are made =
      absurd (omega (arith, are.0.some, long, less))
  ends-read k (ReadChunk place got ∷ chunks) (suc fuel) at zero bytes a b long less are made =
      absurd (omega (arith, are.0.some, long))
  ends-read k (ReadChunk place got ∷ chunks) (suc fuel) at (suc count) bytes a b long less are made =
      let size : ℕ = step_size 8 1024 at (suc count) in
      let fits = step-fits 8 1024 at (suc count) direct_sizes (omega arith) in
      let one = made.1 in
      let K : List ℕ → Moves R = read_rest fuel at (suc count) k in
      let count_is = chunk-count at (suc count) bytes one.values got place long are.0 one.bytes_are in
      let tail : ReadChunks 8 1024 (at + size) (drop size bytes) chunks =
      subst (λ (n : ℕ). ReadChunks 8 1024 (at + step_size 8 1024 at n) (drop (step_size 8 1024 at n) bytes) chunks) long
      are.1 in
      let rest = ends-read (λ l. k (take size (drop (at % 8) (bytes_of one.values)) ++ l)) chunks fuel (at + size)
      (suc count - size) (drop size bytes) made.0 b (length-drop size bytes ∙ ap (λ (n : ℕ). n - size) long)
      (fewer count size fuel fits.some less) tail made.2 in
      ap (λ (n : ℕ). end_of (read_then n (at - at % 8) K) a) count_is
      ∙ ap (λ (n : ℕ). end_of (read_then (length one.values) n K) a) (sym are.0.place_is)
      ∙ read-ends one.values place K a made.0 one.made
      ∙ rest
      ∙ ap (λ (l : List ℕ). end_of (k l) b)
      (front-and-rest at (suc count) bytes one.values got place long are.0 one.bytes_are)

  stops-read : (k : List ℕ → Moves R) (done : List Chunk) (last : Chunk) (more : List Chunk) (fuel at count : ℕ)
      (bytes : List ℕ) (a m b : Lined) → length bytes ≡ count → count ≤ fuel
      → ReadChunks 8 1024 at bytes (done ++ last ∷ more) → Made (DirectOne next_line) a done m
      → DirectRefused next_line lost_line m last Spent b → Stops (read_range fuel at count k) a b
  stops-read k [] (WriteChunk place put) more fuel at count bytes a m b long less are made cut = absurd are
  stops-read k [] (ReadChunk place got) more zero at count bytes a m b long less are made cut =
      absurd (omega (arith, are.0.some, long, less))
  stops-read k [] (ReadChunk place got) more (suc fuel) at zero bytes a m b long less are made cut =
      absurd (omega (arith, are.0.some, long))
  stops-read k [] (ReadChunk place got) more (suc fuel) at (suc count) bytes a m b long less are made cut =
      let K : List ℕ → Moves R = read_rest fuel at (suc count) k in
      let long_so : length got ≡ chunk_size 8 1024 at (suc count) =
      are.0.size ∙ ap (λ (n : ℕ). chunk_size 8 1024 at n) long in
      let some : 8 * length cut.values < chunk_size 8 1024 at (suc count) =
      subst (λ (n : ℕ). 8 * length cut.values < n) long_so cut.some_left in
      let whole : chunk_size 8 1024 at (suc count) % 8 ≡ 0 = chunk-multiple at (suc count) in
      let less_so : length cut.values < chunk_size 8 1024 at (suc count) / 8 =
      below-eighth (chunk_size 8 1024 at (suc count)) (length cut.values) whole some in
      let stop = read-stops cut.values (chunk_size 8 1024 at (suc count) / 8) place K m cut.between less_so cut.made in
      subst (λ (n : ℕ). Stops (read_then (chunk_size 8 1024 at (suc count) / 8) n K) a b) are.0.place_is
      (subst (λ (l : Lined). Stops (read_then (chunk_size 8 1024 at (suc count) / 8) place K) l b) made
      (subst (λ (l : Lined). Stops (read_then (chunk_size 8 1024 at (suc count) / 8) place K) m l) (sym cut.stopped)
      stop))
  stops-read k (WriteChunk place put ∷ done) last more fuel at count bytes a m b long less are made cut = absurd are
  stops-read k (ReadChunk place got ∷ done) last more zero at count bytes a m b long less are made cut =
      absurd (omega (arith, are.0.some, long, less))
  stops-read k (ReadChunk place got ∷ done) last more (suc fuel) at zero bytes a m b long less are made cut =
      absurd (omega (arith, are.0.some, long))
  stops-read k (ReadChunk place got ∷ done) last more (suc fuel) at (suc count) bytes a m b long less are made cut =
      let size : ℕ = step_size 8 1024 at (suc count) in
      let fits = step-fits 8 1024 at (suc count) direct_sizes (omega arith) in
      let one = made.1 in
      let K : List ℕ → Moves R = read_rest fuel at (suc count) k in
      let count_is = chunk-count at (suc count) bytes one.values got place long are.0 one.bytes_are in
      let tail : ReadChunks 8 1024 (at + size) (drop size bytes) (done ++ last ∷ more) =
      subst (λ (n : ℕ). ReadChunks 8 1024 (at + step_size 8 1024 at n) (drop (step_size 8 1024 at n) bytes)
      (done ++ last ∷ more)) long are.1 in
      let rest = stops-read (λ l. k (take size (drop (at % 8) (bytes_of one.values)) ++ l)) done last more fuel
      (at + size) (suc count - size) (drop size bytes) made.0 m b
      (length-drop size bytes ∙ ap (λ (n : ℕ). n - size) long) (fewer count size fuel fits.some less) tail made.2 cut in
      let all = read-goes-on one.values place K a made.0 b one.made rest in
      subst (λ (n : ℕ). Stops (read_then n (at - at % 8) K) a b) (sym count_is)
      (subst (λ (n : ℕ). Stops (read_then (length one.values) n K) a b) are.0.place_is all)

-- ---- a range that is written
-- the first one or two chunks, and then these
abbrev pub write_first : {R : Type 0} → Bool → ℕ → ℕ → List ℕ → Moves R → Moves R
write_first true size at bytes rest =
    read_then 1 (at - at % 8)
    (λ old. write_then (words 1 (with_part (bytes_of old) (at % 8) (take size bytes))) (at - at % 8) rest)
write_first false size at bytes rest = write_then (words (size / 8) (take size bytes)) at rest

module _ {R : Type 0} where
  abbrev pub write_range : ℕ → ℕ → List ℕ → Moves R → Moves R
  write_range zero at bytes k = k
  write_range (suc fuel) at [] k = k
  write_range (suc fuel) at (byte ∷ more) k =
      write_first (begins_in_part 8 at (length (byte ∷ more))) (step_size 8 1024 at (length (byte ∷ more))) at
      (byte ∷ more)
      (write_range fuel (at + step_size 8 1024 at (length (byte ∷ more)))
      (drop (step_size 8 1024 at (length (byte ∷ more))) (byte ∷ more)) k)

  -- a first chunk of whole doublewords, as moves
  whole-ends : (at : ℕ) (bytes put : List ℕ) (place : ℕ) (rest : Moves R) (a m : Lined)
      → WholeStep 8 1024 at bytes place put → DirectOne next_line a (WriteChunk place put) m
      → end_of (write_first (begins_in_part 8 at (length bytes)) (step_size 8 1024 at (length bytes)) at bytes rest) a
      ≡ end_of rest m
  whole-ends at bytes put place rest a m step one =
      let size : ℕ = step_size 8 1024 at (length bytes) in
      ap (λ (b : Bool). end_of (write_first b size at bytes rest) a) step.whole
      ∙ ap (λ (l : List ℕ). end_of (write_then l at rest) a)
      (whole-words at bytes put one.values place step one.fit one.bytes_are)
      ∙ ap (λ (n : ℕ). end_of (write_then one.values n rest) a) (sym step.place_is)
      ∙ write-ends one.values place rest a m one.made

  whole-goes-on : (at : ℕ) (bytes put : List ℕ) (place : ℕ) (rest : Moves R) (a m b : Lined)
      → WholeStep 8 1024 at bytes place put → DirectOne next_line a (WriteChunk place put) m → Stops rest m b
      → Stops (write_first (begins_in_part 8 at (length bytes)) (step_size 8 1024 at (length bytes)) at bytes rest) a b
  whole-goes-on at bytes put place rest a m b step one s =
      let size : ℕ = step_size 8 1024 at (length bytes) in
      let all = write-goes-on one.values place rest a m b one.made s in
      subst (λ (c : Bool). Stops (write_first c size at bytes rest) a b) (sym step.whole)
      (subst (λ (l : List ℕ). Stops (write_then l at rest) a b)
      (sym (whole-words at bytes put one.values place step one.fit one.bytes_are))
      (subst (λ (n : ℕ). Stops (write_then one.values n rest) a b) step.place_is all))

  -- a first doubleword that is not whole
  part-ends : (at : ℕ) (bytes old put : List ℕ) (read_place place : ℕ) (rest : Moves R) (a m n : Lined)
      → PartStep 8 1024 at bytes read_place old place put → DirectOne next_line a (ReadChunk read_place old) m
      → DirectOne next_line m (WriteChunk place put) n
      → end_of (write_first (begins_in_part 8 at (length bytes)) (step_size 8 1024 at (length bytes)) at bytes rest) a
      ≡ end_of rest n
  part-ends at bytes old put read_place place rest a m n step read write =
      let size : ℕ = step_size 8 1024 at (length bytes) in
      let K : List ℕ → Moves R =
      λ l. write_then (words 1 (with_part (bytes_of l) (at % 8) (take size bytes))) (at - at % 8) rest in
      let put_is : with_part (bytes_of read.values) (at % 8) (take size bytes) ≡ put =
      ap (λ (l : List ℕ). with_part l (at % 8) (take size bytes)) (sym read.bytes_are) ∙ sym step.bytes_are in
      let long : length put ≡ 8 = put-size 8 1024 direct_sizes at bytes read_place old place put step in
      let word : words 1 put ≡ write.values = one-word put write.values long write.fit write.bytes_are in
      ap (λ (b : Bool). end_of (write_first b size at bytes rest) a) step.part
      ∙ ap (λ (i : ℕ). end_of (read_then i (at - at % 8) K) a)
      (sym (one-value old read.values step.size read.bytes_are))
      ∙ ap (λ (i : ℕ). end_of (read_then (length read.values) i K) a) (sym step.read_place_is)
      ∙ read-ends read.values read_place K a m read.made
      ∙ ap (λ (l : List ℕ). end_of (write_then (words 1 l) (at - at % 8) rest) m) put_is
      ∙ ap (λ (l : List ℕ). end_of (write_then l (at - at % 8) rest) m) word
      ∙ ap (λ (i : ℕ). end_of (write_then write.values i rest) m) (sym step.place_is)
      ∙ write-ends write.values place rest m n write.made

  -- it was read, and then the moves behind that stopped
  part-read : (at : ℕ) (bytes old put : List ℕ) (read_place place : ℕ) (rest : Moves R) (a m b : Lined)
      → PartStep 8 1024 at bytes read_place old place put → DirectOne next_line a (ReadChunk read_place old) m
      → Stops (write_then (words 1 put) place rest) m b
      → Stops (write_first (begins_in_part 8 at (length bytes)) (step_size 8 1024 at (length bytes)) at bytes rest) a b
  part-read at bytes old put read_place place rest a m b step read s =
      let size : ℕ = step_size 8 1024 at (length bytes) in
      let K : List ℕ → Moves R =
      λ l. write_then (words 1 (with_part (bytes_of l) (at % 8) (take size bytes))) (at - at % 8) rest in
      let put_is : with_part (bytes_of read.values) (at % 8) (take size bytes) ≡ put =
      ap (λ (l : List ℕ). with_part l (at % 8) (take size bytes)) (sym read.bytes_are) ∙ sym step.bytes_are in
      let behind : Stops (K read.values) m b =
      subst (λ (l : List ℕ). Stops (write_then (words 1 l) (at - at % 8) rest) m b) (sym put_is)
      (subst (λ (i : ℕ). Stops (write_then (words 1 put) i rest) m b) step.place_is s) in
      let all = read-goes-on read.values read_place K a m b read.made behind in
      subst (λ (c : Bool). Stops (write_first c size at bytes rest) a b) (sym step.part)
      (subst (λ (i : ℕ). Stops (read_then i (at - at % 8) K) a b)
      (one-value old read.values step.size read.bytes_are)
      (subst (λ (i : ℕ). Stops (read_then (length read.values) i K) a b) step.read_place_is all))

  part-goes-on : (at : ℕ) (bytes old put : List ℕ) (read_place place : ℕ) (rest : Moves R) (a m n b : Lined)
      → PartStep 8 1024 at bytes read_place old place put → DirectOne next_line a (ReadChunk read_place old) m
      → DirectOne next_line m (WriteChunk place put) n → Stops rest n b
      → Stops (write_first (begins_in_part 8 at (length bytes)) (step_size 8 1024 at (length bytes)) at bytes rest) a b
  part-goes-on at bytes old put read_place place rest a m n b step read write s =
      let long : length put ≡ 8 = put-size 8 1024 direct_sizes at bytes read_place old place put step in
      let word : words 1 put ≡ write.values = one-word put write.values long write.fit write.bytes_are in
      part-read at bytes old put read_place place rest a m b step read
      (subst (λ (l : List ℕ). Stops (write_then l place rest) m b) (sym word)
      (write-goes-on write.values place rest m n b write.made s))

  ends-write : (k : Moves R) (chunks : List Chunk) (fuel at : ℕ) (bytes : List ℕ) (a b : Lined)
      → length bytes ≤ fuel → WriteChunks 8 1024 at bytes chunks → Made (DirectOne next_line) a chunks b
      → end_of (write_range fuel at bytes k) a ≡ end_of k b
  ends-write k [] zero at bytes a b less are made = ap (λ (l : Lined). end_of k l) (sym made)
  ends-write k [] (suc fuel) at [] a b less are made = ap (λ (l : Lined). end_of k l) (sym made)
  ends-write k [] (suc fuel) at (byte ∷ more) a b less are made = let no : ⊥ = cc in absurd no
  ends-write k (WriteChunk place put ∷ chunks) zero at bytes a b less are made =
      no-some bytes are.0.some less
  ends-write k (WriteChunk place put ∷ chunks) (suc fuel) at [] a b less are made =
      no-some [] are.0.some (omega arith)
  ends-write k (WriteChunk place put ∷ chunks) (suc fuel) at (byte ∷ more) a b less are made =
      let bytes : List ℕ = byte ∷ more in
      let size : ℕ = step_size 8 1024 at (length bytes) in
      let rest : Moves R = write_range fuel (at + size) (drop size bytes) k in
      whole-ends at bytes put place rest a made.0 are.0 made.1
      ∙ ends-write k chunks fuel (at + size) (drop size bytes) made.0 b (left-fuel fuel at bytes are.0.some less) are.1
      made.2
  ends-write k (ReadChunk read_place old ∷ []) fuel at bytes a b less are made = absurd are
  ends-write k (ReadChunk read_place old ∷ ReadChunk place put ∷ chunks) fuel at bytes a b less are made = absurd are
  ends-write k (ReadChunk read_place old ∷ WriteChunk place put ∷ chunks) zero at bytes a b less are made =
      no-some bytes are.0.some less
  ends-write k (ReadChunk read_place old ∷ WriteChunk place put ∷ chunks) (suc fuel) at [] a b less are made =
      no-some [] are.0.some (omega arith)
  ends-write k (ReadChunk read_place old ∷ WriteChunk place put ∷ chunks) (suc fuel) at (byte ∷ more) a b less are
      made =
      let bytes : List ℕ = byte ∷ more in
      let size : ℕ = step_size 8 1024 at (length bytes) in
      let rest : Moves R = write_range fuel (at + size) (drop size bytes) k in
      part-ends at bytes old put read_place place rest a made.0 made.2.0 are.0 made.1 made.2.1
      ∙ ends-write k chunks fuel (at + size) (drop size bytes) made.2.0 b (left-fuel fuel at bytes are.0.some less)
      are.1 made.2.2

  -- the first ones of a whole chunk's doublewords were written
  whole-stops : (at : ℕ) (bytes put : List ℕ) (place : ℕ) (rest : Moves R) (a b : Lined)
      → WholeStep 8 1024 at bytes place put → DirectRefused next_line lost_line a (WriteChunk place put) Spent b
      → Stops (write_first (begins_in_part 8 at (length bytes)) (step_size 8 1024 at (length bytes)) at bytes rest) a b
  whole-stops at bytes put place rest a b step cut =
      let size : ℕ = step_size 8 1024 at (length bytes) in
      let all : List ℕ = cut.values ++ cut.value ∷ cut.more in
      let stop = write-stops cut.values cut.more cut.value place rest a cut.between cut.made in
      let here : Stops (write_then all place rest) a b =
      subst (λ (l : Lined). Stops (write_then all place rest) a l) (sym cut.stopped) stop in
      subst (λ (c : Bool). Stops (write_first c size at bytes rest) a b) (sym step.whole)
      (subst (λ (l : List ℕ). Stops (write_then l at rest) a b)
      (sym (whole-words at bytes put all place step cut.fit cut.bytes_are))
      (subst (λ (n : ℕ). Stops (write_then all n rest) a b) step.place_is here))

  -- nothing of a doubleword that is not whole was read
  part-unread : (at : ℕ) (bytes old put : List ℕ) (read_place place : ℕ) (rest : Moves R) (a b : Lined)
      → PartStep 8 1024 at bytes read_place old place put
      → DirectRefused next_line lost_line a (ReadChunk read_place old) Spent b
      → Stops (write_first (begins_in_part 8 at (length bytes)) (step_size 8 1024 at (length bytes)) at bytes rest) a b
  part-unread at bytes old put read_place place rest a b step cut =
      let size : ℕ = step_size 8 1024 at (length bytes) in
      let K : List ℕ → Moves R =
      λ l. write_then (words 1 (with_part (bytes_of l) (at % 8) (take size bytes))) (at - at % 8) rest in
      let few : length cut.values < 1 = omega (arith, cut.some_left, step.size) in
      let stop = read-stops cut.values 1 read_place K a cut.between few cut.made in
      subst (λ (c : Bool). Stops (write_first c size at bytes rest) a b) (sym step.part)
      (subst (λ (i : ℕ). Stops (read_then 1 i K) a b) step.read_place_is
      (subst (λ (l : Lined). Stops (read_then 1 read_place K) a l) (sym cut.stopped) stop))

  -- it was read, and not written
  part-unwritten : (at : ℕ) (bytes old put : List ℕ) (read_place place : ℕ) (rest : Moves R) (a m b : Lined)
      → PartStep 8 1024 at bytes read_place old place put → DirectOne next_line a (ReadChunk read_place old) m
      → DirectRefused next_line lost_line m (WriteChunk place put) Spent b
      → Stops (write_first (begins_in_part 8 at (length bytes)) (step_size 8 1024 at (length bytes)) at bytes rest) a b
  part-unwritten at bytes old put read_place place rest a m b step read cut =
      let all : List ℕ = cut.values ++ cut.value ∷ cut.more in
      let long : length put ≡ 8 = put-size 8 1024 direct_sizes at bytes read_place old place put step in
      let word : words 1 put ≡ all = one-word put all long cut.fit cut.bytes_are in
      let stop = write-stops cut.values cut.more cut.value place rest m cut.between cut.made in
      part-read at bytes old put read_place place rest a m b step read
      (subst (λ (l : List ℕ). Stops (write_then l place rest) m b) (sym word)
      (subst (λ (l : Lined). Stops (write_then all place rest) m l) (sym cut.stopped) stop))

  stops-write : (k : Moves R) (done : List Chunk) (last : Chunk) (more : List Chunk) (fuel at : ℕ) (bytes : List ℕ)
      (a m b : Lined) → length bytes ≤ fuel → WriteChunks 8 1024 at bytes (done ++ last ∷ more)
      → Made (DirectOne next_line) a done m → DirectRefused next_line lost_line m last Spent b
      → Stops (write_range fuel at bytes k) a b
  stops-write k [] (WriteChunk place put) more zero at bytes a m b less are made cut = no-some bytes are.0.some less
  stops-write k [] (WriteChunk place put) more (suc fuel) at [] a m b less are made cut =
      no-some [] are.0.some (omega arith)
  stops-write k [] (WriteChunk place put) more (suc fuel) at (byte ∷ rest) a m b less are made cut =
      let bytes : List ℕ = byte ∷ rest in
      let size : ℕ = step_size 8 1024 at (length bytes) in
      let cut_here = subst (λ (l : Lined). DirectRefused next_line lost_line l (WriteChunk place put) Spent b) made cut
      in
      whole-stops at bytes put place (write_range fuel (at + size) (drop size bytes) k) a b are.0 cut_here
  stops-write k [] (ReadChunk read_place old) [] fuel at bytes a m b less are made cut = absurd are
  stops-write k [] (ReadChunk read_place old) (ReadChunk place put ∷ more) fuel at bytes a m b less are made cut =
      absurd are
  stops-write k [] (ReadChunk read_place old) (WriteChunk place put ∷ more) zero at bytes a m b less are made cut =
      no-some bytes are.0.some less
  stops-write k [] (ReadChunk read_place old) (WriteChunk place put ∷ more) (suc fuel) at [] a m b less are made cut =
      no-some [] are.0.some (omega arith)
  stops-write k [] (ReadChunk read_place old) (WriteChunk place put ∷ more) (suc fuel) at (byte ∷ rest) a m b less are
      made cut =
      let bytes : List ℕ = byte ∷ rest in
      let size : ℕ = step_size 8 1024 at (length bytes) in
      let cut_here =
      subst (λ (l : Lined). DirectRefused next_line lost_line l (ReadChunk read_place old) Spent b) made cut in
      part-unread at bytes old put read_place place (write_range fuel (at + size) (drop size bytes) k) a b are.0
      cut_here
  stops-write k (WriteChunk place put ∷ done) last more zero at bytes a m b less are made cut =
      no-some bytes are.0.some less
  stops-write k (WriteChunk place put ∷ done) last more (suc fuel) at [] a m b less are made cut =
      no-some [] are.0.some (omega arith)
  stops-write k (WriteChunk place put ∷ done) last more (suc fuel) at (byte ∷ rest) a m b less are made cut =
      let bytes : List ℕ = byte ∷ rest in
      let size : ℕ = step_size 8 1024 at (length bytes) in
      whole-goes-on at bytes put place (write_range fuel (at + size) (drop size bytes) k) a made.0 b are.0 made.1
      (stops-write k done last more fuel (at + size) (drop size bytes) made.0 m b
      (left-fuel fuel at bytes are.0.some less) are.1 made.2 cut)
  stops-write k (ReadChunk read_place old ∷ []) (ReadChunk place put) more fuel at bytes a m b less are made cut =
      absurd are
  stops-write k (ReadChunk read_place old ∷ []) (WriteChunk place put) more zero at bytes a m b less are made cut =
      no-some bytes are.0.some less
  stops-write k (ReadChunk read_place old ∷ []) (WriteChunk place put) more (suc fuel) at [] a m b less are made cut =
      no-some [] are.0.some (omega arith)
  stops-write k (ReadChunk read_place old ∷ []) (WriteChunk place put) more (suc fuel) at (byte ∷ rest) a m b less are
      made cut =
      let bytes : List ℕ = byte ∷ rest in
      let size : ℕ = step_size 8 1024 at (length bytes) in
      let cut_here =
      subst (λ (l : Lined). DirectRefused next_line lost_line l (WriteChunk place put) Spent b) made.2 cut in
      part-unwritten at bytes old put read_place place (write_range fuel (at + size) (drop size bytes) k) a made.0 b
      are.0 made.1 cut_here
  stops-write k (ReadChunk read_place old ∷ ReadChunk place put ∷ done) last more fuel at bytes a m b less are made
      cut =
      absurd are
  stops-write k (ReadChunk read_place old ∷ WriteChunk place put ∷ done) last more zero at bytes a m b less are made
      cut =
      no-some bytes are.0.some less
  stops-write k (ReadChunk read_place old ∷ WriteChunk place put ∷ done) last more (suc fuel) at [] a m b less are made
      cut =
      no-some [] are.0.some (omega arith)
  stops-write k (ReadChunk read_place old ∷ WriteChunk place put ∷ done) last more (suc fuel) at (byte ∷ rest) a m b
      less are made cut =
      let bytes : List ℕ = byte ∷ rest in
      let size : ℕ = step_size 8 1024 at (length bytes) in
      part-goes-on at bytes old put read_place place (write_range fuel (at + size) (drop size bytes) k) a made.0
      made.2.0 b are.0 made.1 made.2.1
      (stops-write k done last more fuel (at + size) (drop size bytes) made.2.0 m b
      (left-fuel fuel at bytes are.0.some less) are.1 made.2.2 cut)

-- ---- what a range comes to
abbrev Read : ℕ → ℕ → List ℕ → Lined → Lined → Type 0
Read at count bytes a b = WasRead (DirectOne next_line) (DirectRefused next_line lost_line) 8 1024 at count bytes a b

abbrev ReadUntil : ℕ → ℕ → Lined → Lined → Type 0
ReadUntil at count a b =
    WasReadUntil (DirectOne next_line) (DirectRefused next_line lost_line) 8 1024 at count Spent a b

abbrev Written : ℕ → List ℕ → Lined → Lined → Type 0
Written at bytes a b = WasWritten (DirectOne next_line) (DirectRefused next_line lost_line) 8 1024 at bytes a b

abbrev WrittenUntil : ℕ → List ℕ → Lined → Lined → Type 0
WrittenUntil at bytes a b =
    WasWrittenUntil (DirectOne next_line) (DirectRefused next_line lost_line) 8 1024 at bytes Spent a b

-- all moves were made, within the limit, and the next of them was not, at the limit: that cannot be
never-both : {R : Type 0} (p : Moves R) (a b other : Lined) → (end_of p a).1 ≡ b → b.target.turns ≤ b.target.limit
    → Stops p a other → AtLimit other → ⊥
never-both p a b other end within stop full =
    let last : (end_of p a).1.target.turns ≡ b.target.turns = ap (λ (l : Lined). l.target.turns) end in
    let limit : (end_of p a).1.target.limit ≡ b.target.limit = ap (λ (l : Lined). l.target.limit) end in
    omega (arith, last, limit, within, full, stop-before p a other stop, stop-limit p a other stop, end-limit p a)

-- at the limit is one state
one-limit : {R : Type 0} (p : Moves R) (a b other : Lined) → Stops p a b → Stops p a other → AtLimit b → AtLimit other
    → b ≡ other
one-limit p a b other s t full full' =
    stop-once p a b other s t (omega (arith, full, full', stop-limit p a b s, stop-limit p a other t))

read_moves : ℕ → ℕ → Moves (List ℕ)
read_moves at count = read_range count at count Gives

read-end : (at count : ℕ) (bytes : List ℕ) (a b : Lined) → Read at count bytes a b
    → end_of (read_moves at count) a ≡ (bytes, b)
unfolding read_moves
read-end at count bytes a b w =
    ends-read Gives w.chunks count at count bytes a b w.size (omega arith) w.are_its w.made

read-stop : (at count : ℕ) (a b : Lined) → ReadUntil at count a b → Stops (read_moves at count) a b
unfolding read_moves
read-stop at count a b w =
    let cut = w.made in
    let chunks : w.chunks ++ w.more ≡ cut.done ++ cut.last ∷ w.more =
    ap (λ (l : List Chunk). l ++ w.more) cut.all ∙ append_assoc cut.done (cut.last ∷ []) w.more in
    stops-read Gives cut.done cut.last w.more count at count w.bytes a cut.between b w.size (omega arith)
    (subst (λ (l : List Chunk). ReadChunks 8 1024 at w.bytes l) chunks w.are_its) cut.made cut.cut

write_moves : ℕ → List ℕ → Moves Unit
write_moves at bytes = write_range (length bytes) at bytes (Gives tt)

write-end : (at : ℕ) (bytes : List ℕ) (a b : Lined) → Written at bytes a b
    → end_of (write_moves at bytes) a ≡ (tt, b)
unfolding write_moves
write-end at bytes a b w = ends-write (Gives tt) w.chunks (length bytes) at bytes a b (omega arith) w.are_its w.made

write-stop : (at : ℕ) (bytes : List ℕ) (a b : Lined) → WrittenUntil at bytes a b → Stops (write_moves at bytes) a b
unfolding write_moves
write-stop at bytes a b w =
    let cut = w.made in
    let chunks : w.chunks ++ w.more ≡ cut.done ++ cut.last ∷ w.more =
    ap (λ (l : List Chunk). l ++ w.more) cut.all ∙ append_assoc cut.done (cut.last ∷ []) w.more in
    stops-write (Gives tt) cut.done cut.last w.more (length bytes) at bytes a cut.between b (omega arith)
    (subst (λ (l : List Chunk). WriteChunks 8 1024 at bytes l) chunks w.are_its) cut.made cut.cut

-- what was read once is read again
pub read-once : (at count : ℕ) (bytes other : List ℕ) (a b b' : Lined) → Read at count bytes a b
    → Read at count other a b' → (bytes ≡ other) × (b ≡ b')
read-once at count bytes other a b b' one two =
    let same : (bytes, b) ≡ (other, b') = sym (read-end at count bytes a b one) ∙ read-end at count other a b' two in
    (ap (λ (p : List ℕ × Lined). p.0) same, ap (λ (p : List ℕ × Lined). p.1) same)

pub read-or-spent : (at count : ℕ) (bytes : List ℕ) (a b other : Lined) → Read at count bytes a b
    → b.target.turns ≤ b.target.limit → ReadUntil at count a other → AtLimit other → ⊥
read-or-spent at count bytes a b other one within two full =
    never-both (read_moves at count) a b other
    (ap (λ (p : List ℕ × Lined). p.1) (read-end at count bytes a b one)) within (read-stop at count a other two) full

pub read-spent-once : (at count : ℕ) (a b other : Lined) → ReadUntil at count a b → ReadUntil at count a other
    → AtLimit b → AtLimit other → b ≡ other
read-spent-once at count a b other one two full full' =
    one-limit (read_moves at count) a b other (read-stop at count a b one) (read-stop at count a other two) full full'

-- so of what was written
pub write-once : (at : ℕ) (bytes : List ℕ) (a b b' : Lined) → Written at bytes a b → Written at bytes a b' → b ≡ b'
write-once at bytes a b b' one two =
    ap (λ (p : Unit × Lined). p.1) (sym (write-end at bytes a b one) ∙ write-end at bytes a b' two)

pub write-or-spent : (at : ℕ) (bytes : List ℕ) (a b other : Lined) → Written at bytes a b
    → b.target.turns ≤ b.target.limit → WrittenUntil at bytes a other → AtLimit other → ⊥
write-or-spent at bytes a b other one within two full =
    never-both (write_moves at bytes) a b other (ap (λ (p : Unit × Lined). p.1) (write-end at bytes a b one)) within
    (write-stop at bytes a other two) full

pub write-spent-once : (at : ℕ) (bytes : List ℕ) (a b other : Lined) → WrittenUntil at bytes a b
    → WrittenUntil at bytes a other → AtLimit b → AtLimit other → b ≡ other
write-spent-once at bytes a b other one two full full' =
    one-limit (write_moves at bytes) a b other (write-stop at bytes a b one) (write-stop at bytes a other two) full
    full'
