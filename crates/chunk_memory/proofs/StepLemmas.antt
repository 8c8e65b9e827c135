-- A range's chunks from its first step and those of the rest.
use Rattle.std.proofs.Common.{◌≡◌, ℕ, zero, suc, ◌+◌, ◌-◌, ◌%◌, ◌<◌, ◌≤◌, Bool, true, false, List, [], ◌∷◌, ◌++◌, length, take, drop, replicate, length-append, length-take, length-drop, append_assoc, append-nil, refl, sym, ap, subst, ◌∙◌, arith}
use Rattle.std.specs.Prelude.{Result, Ok, Err}
use Rattle.std.proofs.Math.Seq.{take-add}
use Rattle.std.proofs.lemmas.List.{length-take-le, length-replicate, take_at, drop_at, take_all, drop-drop, take-append-le, nil_from_length}
use borrow.Rule.Slice.PartMut.{put_mid}
use Rattle.guest_memory.specs.Memory.{with_part}
use Rattle.chunk_memory.proofs.SizeLemmas.{StepFits, step-fits}
use Rattle.chunk_memory.specs.Ports.{ArePortSizes}
use Rattle.chunk_memory.specs.Steps.{WriteStep, ReadNext, WriteNext}
use Rattle.chunk_memory.specs.Transactions.{Chunk, ReadChunk, WriteChunk, begins_in_part, chunk_size, step_size, ReadStep, ReadChunks, WriteChunks, Made, Cut, Reads, Writes}
use Rattle.chunk_memory.specs.declared.stops.PortStop.{PortStop}

-- bytes behind others, where they were read
abbrev pub behind : {E : Type 0} → List ℕ → Result (List ℕ) E → Result (List ℕ) E
behind front (Ok rest) = Ok (front ++ rest)
behind front (Err stop) = Err stop

pub behind-behind : {E : Type 0} (front middle : List ℕ) (result : Result (List ℕ) E) → behind front (behind middle result) ≡ behind (front ++ middle) result
behind-behind front middle (Ok rest) = ap (λ (l : List ℕ). Ok l) (sym (append_assoc front middle rest))
behind-behind front middle (Err stop) = refl

-- a part of a list that was written anew
pub put-size : (xs ys : List ℕ) (a : ℕ) → a ≤ length xs → length ys ≡ length xs - a → length (put_mid a (length xs - a) xs ys) ≡ length xs
put-size xs ys a less size =
    omega (arith, length-append (take a xs) (ys ++ drop (length xs - a) (drop a xs)), length-append ys (drop (length xs - a) (drop a xs)), length-take a xs, length-drop (length xs - a) (drop a xs), length-drop a xs)

pub put-take : (xs ys : List ℕ) (a k : ℕ) → a ≤ length xs → k ≤ length ys → take (a + k) (put_mid a (length xs - a) xs ys) ≡ take a xs ++ take k ys
put-take xs ys a k less within =
    let after : List ℕ = drop (length xs - a) (drop a xs) in
    let front : length (take a xs) ≡ a = length-take-le a xs less in
    take-add a k (take a xs ++ (ys ++ after))
    ∙ ap (λ (l : List ℕ). l ++ take k (drop a (take a xs ++ (ys ++ after)))) (take_at (take a xs) (ys ++ after) a front)
    ∙ ap (λ (l : List ℕ). take a xs ++ take k l) (drop_at (take a xs) (ys ++ after) a front)
    ∙ ap (λ (l : List ℕ). take a xs ++ l) (take-append-le k ys after within)

module _ (unit most : ℕ) where
  -- a step's bytes in front of the rest
  pub read-step : (at count size : ℕ) (front rest got : List ℕ) (place : ℕ) → 0 < count → size ≡ step_size unit most at count → length front ≡ size → length rest ≡ count - size → size ≤ count
      → place ≡ at - at % unit → length got ≡ chunk_size unit most at count → front ≡ take size (drop (at % unit) got) → ReadStep unit most at (front ++ rest) place got
  read-step at count size front rest got place some size_is front_size rest_size within place_is got_size front_is =
      let all : length (front ++ rest) ≡ count = omega (arith, length-append front rest) in
      let step : step_size unit most at (length (front ++ rest)) ≡ size = ap (λ (n : ℕ). step_size unit most at n) all ∙ sym size_is in
      let taken : take size (front ++ rest) ≡ take size (drop (at % unit) got) = take_at front rest size front_size ∙ front_is in
      record {
        some = omega arith;
        place_is = place_is;
        size = got_size ∙ ap (λ (n : ℕ). chunk_size unit most at n) (sym all);
        bytes_are = subst (λ (n : ℕ). take n (front ++ rest) ≡ take n (drop (at % unit) got)) (sym step) taken;
      }

  pub read-first : (at count size : ℕ) (front rest got : List ℕ) (place : ℕ) (chunks : List Chunk) → 0 < count → size ≡ step_size unit most at count → length front ≡ size → length rest ≡ count - size → size ≤ count
      → place ≡ at - at % unit → length got ≡ chunk_size unit most at count → front ≡ take size (drop (at % unit) got)
      → ReadChunks unit most (at + size) rest chunks → ReadChunks unit most at (front ++ rest) (ReadChunk place got ∷ chunks)
  read-first at count size front rest got place chunks some size_is front_size rest_size within place_is got_size front_is more =
      let all : length (front ++ rest) ≡ count = omega (arith, length-append front rest) in
      let step : step_size unit most at (length (front ++ rest)) ≡ size = ap (λ (n : ℕ). step_size unit most at n) all ∙ sym size_is in
      let left : ReadChunks unit most (at + size) (drop size (front ++ rest)) chunks = subst (λ (l : List ℕ). ReadChunks unit most (at + size) l chunks) (sym (drop_at front rest size front_size)) more in (
        read-step at count size front rest got place some size_is front_size rest_size within place_is got_size front_is,
        subst (λ (n : ℕ). ReadChunks unit most (at + n) (drop n (front ++ rest)) chunks) (sym step) left,
      )

  -- each range has chunks that read it, of bytes that may be any
  pub record SomeRead (at count : ℕ) : Type 0 where
    pub bytes : List ℕ
    pub size : length bytes ≡ count
    pub chunks : List Chunk
    pub are_its : ReadChunks unit most at bytes chunks

  front-size : (at count : ℕ) (got : List ℕ) → StepFits unit most at count → length got ≡ chunk_size unit most at count → length (take (step_size unit most at count) (drop (at % unit) got)) ≡ step_size unit most at count
  front-size at count got fits size = length-take-le (step_size unit most at count) (drop (at % unit) got) (omega (arith, length-drop (at % unit) got, fits.inside))

  pub read-behind : (at count : ℕ) (got : List ℕ) → ArePortSizes unit most → 0 < count → length got ≡ chunk_size unit most at count → (rest : SomeRead (at + step_size unit most at count) (count - step_size unit most at count))
      → ReadChunks unit most at (take (step_size unit most at count) (drop (at % unit) got) ++ rest.bytes) (ReadChunk (at - at % unit) got ∷ rest.chunks)
  read-behind at count got sizes some size rest =
      let fits = step-fits unit most at count sizes some in
      read-first at count (step_size unit most at count) (take (step_size unit most at count) (drop (at % unit) got)) rest.bytes got (at - at % unit) rest.chunks
      some refl (front-size at count got fits size) rest.size fits.within refl size refl rest.are_its

  pub some-read : (fuel at count : ℕ) → ArePortSizes unit most → count ≤ fuel → SomeRead at count
  some-read fuel at zero sizes less = record { bytes = []; size = refl; chunks = []; are_its = refl }
  some-read zero at (suc count) sizes less = absurd (omega arith)
  some-read (suc fuel) at (suc count) sizes less =
      let some : 0 < suc count = omega arith in
      let fits = step-fits unit most at (suc count) sizes some in
      let rest = some-read fuel (at + step_size unit most at (suc count)) (suc count - step_size unit most at (suc count)) sizes (omega (arith, fits.some)) in
      let got : List ℕ = replicate (chunk_size unit most at (suc count)) 0 in
      let long : length got ≡ chunk_size unit most at (suc count) = length-replicate (chunk_size unit most at (suc count)) 0 in
      let front : List ℕ = take (step_size unit most at (suc count)) (drop (at % unit) got) in
      record {
        bytes = front ++ rest.bytes;
        size = omega (arith, length-append front rest.bytes, front-size at (suc count) got fits long, rest.size, fits.within);
        chunks = ReadChunk (at - at % unit) got ∷ rest.chunks;
        are_its = read-behind at (suc count) got sizes some long rest;
      }

  -- a write's first step in front of the chunks of the rest
  pub write-first : (at : ℕ) (bytes : List ℕ) (step chunks : List Chunk) → WriteStep unit most at bytes step
      → WriteChunks unit most (at + step_size unit most at (length bytes)) (drop (step_size unit most at (length bytes)) bytes) chunks → WriteChunks unit most at bytes (step ++ chunks)
  write-first at bytes [] chunks first more = absurd first
  write-first at bytes (WriteChunk place put ∷ []) chunks first more = (first, more)
  write-first at bytes (WriteChunk place put ∷ other ∷ others) chunks first more = absurd first
  write-first at bytes (ReadChunk read_place old ∷ []) chunks first more = absurd first
  write-first at bytes (ReadChunk read_place old ∷ ReadChunk place put ∷ others) chunks first more = absurd first
  write-first at bytes (ReadChunk read_place old ∷ WriteChunk place put ∷ []) chunks first more = (first, more)
  write-first at bytes (ReadChunk read_place old ∷ WriteChunk place put ∷ other ∷ others) chunks first more = absurd first

  -- each range has chunks that write it
  pub record SomeWrite (at : ℕ) (bytes : List ℕ) : Type 0 where
    pub chunks : List Chunk
    pub are_its : WriteChunks unit most at bytes chunks

  -- the chunks that write a part of a unit, whatever is read
  pub part-step : (at : ℕ) (bytes old : List ℕ) → 0 < length bytes → begins_in_part unit at (length bytes) ≡ true → length old ≡ unit
      → WriteStep unit most at bytes (ReadChunk (at - at % unit) old ∷ WriteChunk (at - at % unit) (with_part old (at % unit) (take (step_size unit most at (length bytes)) bytes)) ∷ [])
  part-step at bytes old some part size = record { some = some; part = part; read_place_is = refl; size = size; place_is = refl; bytes_are = refl }

  pub whole-step : (at : ℕ) (bytes put : List ℕ) → 0 < length bytes → begins_in_part unit at (length bytes) ≡ false → put ≡ take (step_size unit most at (length bytes)) bytes
      → WriteStep unit most at bytes (WriteChunk at put ∷ [])
  whole-step at bytes put some whole are = record { some = some; whole = whole; place_is = refl; bytes_are = are }

  pub record SomeStep (at : ℕ) (bytes : List ℕ) : Type 0 where
    pub step : List Chunk
    pub first : WriteStep unit most at bytes step

  some-step : (at : ℕ) (bytes : List ℕ) → 0 < length bytes → (b : Bool) → begins_in_part unit at (length bytes) ≡ b → SomeStep at bytes
  some-step at bytes some true part =
      record {
        step = ReadChunk (at - at % unit) (replicate unit 0) ∷ WriteChunk (at - at % unit) (with_part (replicate unit 0) (at % unit) (take (step_size unit most at (length bytes)) bytes)) ∷ [];
        first = part-step at bytes (replicate unit 0) some part (length-replicate unit 0);
      }
  some-step at bytes some false whole =
      record { step = WriteChunk at (take (step_size unit most at (length bytes)) bytes) ∷ []; first = whole-step at bytes (take (step_size unit most at (length bytes)) bytes) some whole refl }

  pub some-write : (fuel at : ℕ) (bytes : List ℕ) → ArePortSizes unit most → length bytes ≤ fuel → SomeWrite at bytes
  some-write fuel at [] sizes less = record { chunks = []; are_its = refl }
  some-write zero at (byte ∷ more) sizes less = absurd (omega arith)
  some-write (suc fuel) at (byte ∷ more) sizes less =
      let bytes : List ℕ = byte ∷ more in
      let some : 0 < length bytes = omega arith in
      let fits = step-fits unit most at (length bytes) sizes some in
      let size : ℕ = step_size unit most at (length bytes) in
      let rest = some-write fuel (at + size) (drop size bytes) sizes (omega (arith, length-drop size bytes, fits.some)) in
      let here = some-step at bytes some (begins_in_part unit at (length bytes)) refl in
      record { chunks = here.step ++ rest.chunks; are_its = write-first at bytes here.step rest.chunks here.first rest.are_its }

module _ {S : Type 0} (one : S → Chunk → S → Type 0) (refused : S → Chunk → PortStop → S → Type 0) where
  pub made-joins : (xs ys : List Chunk) (a m b : S) → Made one a xs m → Made one m ys b → Made one a (xs ++ ys) b
  made-joins [] ys a m b first second = subst (λ (s : S). Made one s ys b) first second
  made-joins (x ∷ xs) ys a m b first second = (first.0, first.1, made-joins xs ys first.0 m b first.2 second)

  pub cut-behind : (xs ys : List Chunk) (stop : PortStop) (a m b : S) → Made one a xs m → Cut one refused m ys stop b → Cut one refused a (xs ++ ys) stop b
  cut-behind xs ys stop a m b first second = record {
    done = xs ++ second.done;
    last = second.last;
    between = second.between;
    all = ap (λ (l : List Chunk). xs ++ l) second.all ∙ sym (append_assoc xs second.done (second.last ∷ []));
    made = made-joins xs second.done a m second.between first second.made;
    cut = second.cut;
  }

  pub cut-first : (chunk : Chunk) (stop : PortStop) (a b : S) → refused a chunk stop b → Cut one refused a (chunk ∷ []) stop b
  cut-first chunk stop a b cut = record { done = []; last = chunk; between = a; all = refl; made = refl; cut = cut }

  module _ (unit most : ℕ) (sizes : ArePortSizes unit most) where
    -- the rest of a read, behind its first step
    pub reads-more : (at count size : ℕ) (front got : List ℕ) (result : Result (List ℕ) PortStop) (a m b : S) → 0 < count → size ≡ step_size unit most at count → length front ≡ size → length got ≡ chunk_size unit most at count
        → front ≡ take size (drop (at % unit) got) → one a (ReadChunk (at - at % unit) got) m
        → Reads one refused unit most (at + size) (count - size) result m b → Reads one refused unit most at count (behind front result) a b
    reads-more at count size front got (Ok rest) a m b some size_is front_size got_size front_is here w =
        let fits = step-fits unit most at count sizes some in
        record {
          size = omega (arith, length-append front rest, w.size, fits.within);
          chunks = ReadChunk (at - at % unit) got ∷ w.chunks;
          are_its = read-first unit most at count size front rest got (at - at % unit) w.chunks some size_is front_size w.size (omega (arith, fits.within)) refl got_size front_is w.are_its;
          made = (m, here, w.made);
        }
    reads-more at count size front got (Err stop) a m b some size_is front_size got_size front_is here w =
        let fits = step-fits unit most at count sizes some in
        record {
          bytes = front ++ w.bytes;
          size = omega (arith, length-append front w.bytes, w.size, fits.within);
          chunks = ReadChunk (at - at % unit) got ∷ w.chunks;
          more = w.more;
          are_its = read-first unit most at count size front w.bytes got (at - at % unit) (w.chunks ++ w.more) some size_is front_size w.size (omega (arith, fits.within)) refl got_size front_is w.are_its;
          made = cut-behind (ReadChunk (at - at % unit) got ∷ []) w.chunks stop a m b (m, here, refl) w.made;
        }

    -- a read that was refused at its first step
    pub reads-stop : (at count : ℕ) (got : List ℕ) (stop : PortStop) (a b : S) → 0 < count → length got ≡ chunk_size unit most at count → refused a (ReadChunk (at - at % unit) got) stop b
        → Reads one refused unit most at count (Err stop) a b
    reads-stop at count got stop a b some got_size cut =
        let fits = step-fits unit most at count sizes some in
        let size : ℕ = step_size unit most at count in
        let rest = some-read unit most (count - size) (at + size) (count - size) sizes (omega arith) in
        let front : List ℕ = take size (drop (at % unit) got) in
        record {
          bytes = front ++ rest.bytes;
          size = omega (arith, length-append front rest.bytes, front-size unit most at count got fits got_size, rest.size, fits.within);
          chunks = ReadChunk (at - at % unit) got ∷ [];
          more = rest.chunks;
          are_its = read-behind unit most at count got sizes some got_size rest;
          made = cut-first (ReadChunk (at - at % unit) got) stop a b cut;
        }

    -- a read of no bytes
    pub reads-none : (at count : ℕ) (a : S) → count ≡ 0 → Reads one refused unit most at count (Ok []) a a
    reads-none at count a none = record { size = sym none; chunks = []; are_its = refl; made = refl }

    -- the rest of a write, behind its first step
    pub writes-more : (at size : ℕ) (bytes : List ℕ) (step : List Chunk) (result : Result Unit PortStop) (a m b : S) → size ≡ step_size unit most at (length bytes) → WriteStep unit most at bytes step → Made one a step m
        → Writes one refused unit most (at + size) (drop size bytes) result m b → Writes one refused unit most at bytes result a b
    writes-more at size bytes step (Ok done) a m b size_is first made w =
        let rest = subst (λ (n : ℕ). WriteChunks unit most (at + n) (drop n bytes) w.chunks) size_is w.are_its in
        record { chunks = step ++ w.chunks; are_its = write-first unit most at bytes step w.chunks first rest; made = made-joins step w.chunks a m b made w.made }
    writes-more at size bytes step (Err stop) a m b size_is first made w =
        let rest = subst (λ (n : ℕ). WriteChunks unit most (at + n) (drop n bytes) (w.chunks ++ w.more)) size_is w.are_its in
        record {
          chunks = step ++ w.chunks;
          more = w.more;
          are_its = subst (λ (l : List Chunk). WriteChunks unit most at bytes l) (sym (append_assoc step w.chunks w.more)) (write-first unit most at bytes step (w.chunks ++ w.more) first rest);
          made = cut-behind step w.chunks stop a m b made w.made;
        }

    -- a write that was refused in its first step
    pub writes-stop : (at : ℕ) (bytes : List ℕ) (chunks more : List Chunk) (stop : PortStop) (a b : S) → WriteStep unit most at bytes (chunks ++ more) → Cut one refused a chunks stop b → Writes one refused unit most at bytes (Err stop) a b
    writes-stop at bytes chunks more stop a b first cut =
        let size : ℕ = step_size unit most at (length bytes) in
        let rest = some-write unit most (length (drop size bytes)) (at + size) (drop size bytes) sizes (omega arith) in
        record {
          chunks = chunks;
          more = more ++ rest.chunks;
          are_its = subst (λ (l : List Chunk). WriteChunks unit most at bytes l) (append_assoc chunks more rest.chunks) (write-first unit most at bytes (chunks ++ more) rest.chunks first rest.are_its);
          made = cut;
        }

    -- a write of no bytes
    pub writes-none : (at : ℕ) (bytes : List ℕ) (a : S) → length bytes ≡ 0 → Writes one refused unit most at bytes (Ok tt) a a
    writes-none at bytes a none = record { chunks = []; are_its = nil_from_length bytes none; made = refl }

  module _ (unit most : ℕ) where
    -- what the rest of a read does, the whole read does, behind the bytes that were read
    abbrev pub ReadSoFar : ℕ → ℕ → List ℕ → ℕ → S → S → Type 0
    ReadSoFar at count bytes done a m = (result : Result (List ℕ) PortStop) (b : S)
        → Reads one refused unit most (at + done) (count - done) result m b → Reads one refused unit most at count (behind (take done bytes) result) a b

    -- what the rest of a write does, the whole write does
    abbrev pub WriteSoFar : ℕ → List ℕ → ℕ → S → S → Type 0
    WriteSoFar at bytes done a m = (result : Result Unit PortStop) (b : S)
        → Writes one refused unit most (at + done) (drop done bytes) result m b → Writes one refused unit most at bytes result a b

    module _ (sizes : ArePortSizes unit most) where
      -- one step more of a read
      pub read-next : (at count size : ℕ) (next : List ℕ) (result : Result (List ℕ) PortStop) (a m b : S) → 0 < count → length next ≡ count → size ≡ step_size unit most at (length next)
          → ReadNext one refused unit most at next (Ok size) a m → Reads one refused unit most (at + size) (count - size) result m b → Reads one refused unit most at count (behind (take size next) result) a b
      read-next at count size next result a m b some long size_is here rest =
          let got : List ℕ = here.0 in
          let step = here.1 in
          let is : size ≡ step_size unit most at count = size_is ∙ ap (λ (n : ℕ). step_size unit most at n) long in
          let fits = step-fits unit most at count sizes some in
          let front : take size next ≡ take size (drop (at % unit) got) = subst (λ (n : ℕ). take n next ≡ take n (drop (at % unit) got)) (sym size_is) step.bytes_are in
          reads-more unit most sizes at count size (take size next) got result a m b some is (length-take-le size next (omega (arith, fits.within)))
          (step.size ∙ ap (λ (n : ℕ). chunk_size unit most at n) long) front here.2 rest

      pub read-on : (at done size : ℕ) (bytes next : List ℕ) (a m n : S) → done < length bytes → length next ≡ length bytes - done → size ≡ step_size unit most (at + done) (length next)
          → ReadSoFar at (length bytes) bytes done a m → ReadNext one refused unit most (at + done) next (Ok size) m n
          → ReadSoFar at (length (put_mid done (length bytes - done) bytes next)) (put_mid done (length bytes - done) bytes next) (done + size) a n
      read-on at done size bytes next a m n less long size_is so_far here result b rest =
          let new : List ℕ = put_mid done (length bytes - done) bytes next in
          let same : length new ≡ length bytes = put-size bytes next done (omega arith) long in
          let is : size ≡ step_size unit most (at + done) (length bytes - done) = size_is ∙ ap (λ (k : ℕ). step_size unit most (at + done) k) long in
          let fits = step-fits unit most (at + done) (length bytes - done) sizes (omega arith) in
          let place : at + (done + size) ≡ at + done + size = omega arith in
          let left : length new - (done + size) ≡ length bytes - done - size = omega arith in
          let there : Reads one refused unit most (at + done + size) (length bytes - done - size) result n b =
          subst (λ (k : ℕ). Reads one refused unit most (at + done + size) k result n b) left (subst (λ (k : ℕ). Reads one refused unit most k (length new - (done + size)) result n b) place rest) in
          let one_more = read-next (at + done) (length bytes - done) size next result m n b (omega arith) long size_is here there in
          let all = so_far (behind (take size next) result) b one_more in
          let taken : take done bytes ++ take size next ≡ take (done + size) new = sym (put-take bytes next done size (omega arith) (omega (arith, fits.within))) in
          let joined : behind (take done bytes) (behind (take size next) result) ≡ behind (take (done + size) new) result =
          behind-behind (take done bytes) (take size next) result ∙ ap (λ (l : List ℕ). behind l result) taken in
          subst (λ (k : ℕ). Reads one refused unit most at k (behind (take (done + size) new) result) a b) (sym same)
          (subst (λ (r : Result (List ℕ) PortStop). Reads one refused unit most at (length bytes) r a b) joined all)

      -- a step of a read was refused
      pub read-off : (at count done : ℕ) (bytes next : List ℕ) (stop : PortStop) (a m n : S) → count ≡ length bytes → done < length bytes → length next ≡ length bytes - done
          → ReadSoFar at (length bytes) bytes done a m → ReadNext one refused unit most (at + done) next (Err stop) m n → Reads one refused unit most at count (Err stop) a n
      read-off at count done bytes next stop a m n count_is less long so_far here =
          let size : length here.0 ≡ chunk_size unit most (at + done) (length bytes - done) = here.1 ∙ ap (λ (k : ℕ). chunk_size unit most (at + done) k) long in
          let all = so_far (Err stop) n (reads-stop unit most sizes (at + done) (length bytes - done) here.0 stop m n (omega arith) size here.2) in
          subst (λ (k : ℕ). Reads one refused unit most at k (Err stop) a n) (sym count_is) all

      -- one step more of a write
      pub write-on : (at done size : ℕ) (bytes : List ℕ) (a m n : S) → size ≡ step_size unit most (at + done) (length (drop done bytes))
          → WriteSoFar at bytes done a m → WriteNext one refused unit most (at + done) (drop done bytes) (Ok size) m n → WriteSoFar at bytes (done + size) a n
      write-on at done size bytes a m n size_is so_far here result b rest =
          let place : at + (done + size) ≡ at + done + size = omega arith in
          let there : Writes one refused unit most (at + done + size) (drop size (drop done bytes)) result n b =
          subst (λ (l : List ℕ). Writes one refused unit most (at + done + size) l result n b) (sym (drop-drop size done bytes)) (subst (λ (k : ℕ). Writes one refused unit most k (drop (done + size) bytes) result n b) place rest) in
          so_far result b (writes-more unit most sizes (at + done) size (drop done bytes) here.0 result m n b size_is here.1 here.2 there)

      -- a step of a write was refused
      pub write-off : (at done : ℕ) (bytes : List ℕ) (stop : PortStop) (a m n : S)
          → WriteSoFar at bytes done a m → WriteNext one refused unit most (at + done) (drop done bytes) (Err stop) m n → Writes one refused unit most at bytes (Err stop) a n
      write-off at done bytes stop a m n so_far here = so_far (Err stop) n (writes-stop unit most sizes (at + done) (drop done bytes) here.0 here.1 stop m n here.2 here.3)

    -- all is read
    pub read-end : (at count done : ℕ) (bytes : List ℕ) (a m : S) → count ≡ length bytes → length bytes ≤ done → ReadSoFar at (length bytes) bytes done a m → Reads one refused unit most at count (Ok bytes) a m
    read-end at count done bytes a m count_is past so_far =
        let none : Reads one refused unit most (at + done) (length bytes - done) (Ok []) m m = record { size = omega arith; chunks = []; are_its = refl; made = refl } in
        let whole : take done bytes ++ [] ≡ bytes = append-nil (take done bytes) ∙ take_all done bytes past in
        subst (λ (k : ℕ). Reads one refused unit most at k (Ok bytes) a m) (sym count_is)
        (subst (λ (l : List ℕ). Reads one refused unit most at (length bytes) (Ok l) a m) whole (so_far (Ok []) m none))

    -- all is written
    pub write-end : (at done : ℕ) (bytes : List ℕ) (a m : S) → length bytes ≤ done → WriteSoFar at bytes done a m → Writes one refused unit most at bytes (Ok tt) a m
    write-end at done bytes a m past so_far =
        let none : drop done bytes ≡ [] = nil_from_length (drop done bytes) (omega (arith, length-drop done bytes)) in
        so_far (Ok tt) m (record { chunks = []; are_its = none; made = refl })
