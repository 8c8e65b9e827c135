-- The accesses of a read, from those of its chunks.
use Rattle.std.proofs.Common.{◌≡◌, ℕ, zero, suc, ◌+◌, ◌-◌, ◌*◌, ◌/◌, ◌%◌, ◌<◌, ◌≤◌, min, Bool, true, false, List, [], ◌∷◌, ◌++◌, length, take, drop, length-append, length-drop, append_assoc, refl, sym, ap, subst, ◌∙◌, arith, inl, inr}
use Rattle.std.specs.Int.{to_le_bytes, w64}
use Rattle.std.proofs.lemmas.List.{length-take-le, take_at, drop_at}
use Rattle.fe_base.specs.Access.{Access, Loaded}
use Rattle.chunk_memory.proofs.PieceLemmas.{eight-unit, none-read, part-ends, unit-loaded, step-joins}
use Rattle.chunk_memory.proofs.SizeLemmas.{by_unit, step-fits, step_size-whole, chunk_size-part, chunk_size-whole, whole-is, is-whole, unit-bounds, chunk-part, chunk-whole, mapped-rest}
use Rattle.chunk_memory.proofs.StepLemmas.{read-step}
use Rattle.chunk_memory.specs.BeatLaws.{eight-of}
use Rattle.chunk_memory.specs.Ports.{IsChunk, ArePortSizes}
use Rattle.chunk_memory.specs.Ranges.{IsMappedRange}
use Rattle.chunk_memory.specs.Reached.{OneReaches, RefusedReaches, IsNoCommand, AsksSame}
use Rattle.chunk_memory.proofs.ReachLemmas.{steps-then}
use Rattle.chunk_memory.specs.Spelling.{IsPiece, SpellsRead, SpellsChunk, IsOneAccess, StepsFirst}
use Rattle.chunk_memory.specs.Transactions.{Chunk, ReadChunk, WriteChunk, begins_in_part, chunk_size, step_size, ReadStep, ReadChunks, Made}
use Rattle.chunk_memory.specs.declared.stops.PortStop.{PortStop}

pub eight_sizes : ArePortSizes 8 8
eight_sizes = record { unit_is = inr refl; whole = refl; some = omega arith }

-- ---- the first chunk may be asked for
step-asked-by : (unit most at : ℕ) (bytes : List ℕ) (place : ℕ) (got : List ℕ) → ArePortSizes unit most → IsMappedRange at (length bytes) → ReadStep unit most at bytes place got → (b : Bool) → begins_in_part unit at (length bytes) ≡ b
    → IsChunk unit most place (length got)
step-asked-by unit most at bytes place got sizes mapped step true part =
    let long : length got ≡ unit = step.size ∙ chunk_size-part unit most at (length bytes) part in
    subst (λ (n : ℕ). IsChunk unit most n (length got)) (sym step.place_is) (subst (λ (n : ℕ). IsChunk unit most (at - at % unit) n) (sym long) (chunk-part unit most at (length bytes) sizes mapped step.some))
step-asked-by unit most at bytes place got sizes mapped step false whole =
    let even = (whole-is unit at (length bytes) whole).0 in
    let here : at ≡ place = (let e : at ≡ at - at % unit = omega arith in e) ∙ sym step.place_is in
    subst (λ (n : ℕ). IsChunk unit most n (length got)) here
    (chunk-whole unit most at (length bytes) (length got) sizes mapped step.some whole (step.size ∙ chunk_size-whole unit most at (length bytes) whole))

pub step-asked : (unit most at : ℕ) (bytes : List ℕ) (place : ℕ) (got : List ℕ) → ArePortSizes unit most → IsMappedRange at (length bytes) → ReadStep unit most at bytes place got → IsChunk unit most place (length got)
step-asked unit most at bytes place got sizes mapped step = step-asked-by unit most at bytes place got sizes mapped step (begins_in_part unit at (length bytes)) refl

-- ---- 8 bytes at a multiple of 8
eight-size-4 : (most : ℕ) → most % 8 ≡ 0 → 0 < most → min (8 / 4 * 4) most ≡ 8
eight-size-4 most whole some = omega arith

eight-size-8 : (most : ℕ) → most % 8 ≡ 0 → 0 < most → min (8 / 8 * 8) most ≡ 8
eight-size-8 most whole some = omega arith

-- the first step of such a range has all of it
pub record EightStep (unit most at : ℕ) : Type 0 where
  pub even : at % unit ≡ 0
  pub whole : begins_in_part unit at 8 ≡ false
  pub size : step_size unit most at 8 ≡ 8
  pub chunk : chunk_size unit most at 8 ≡ 8

pub eight-step : (unit most at : ℕ) → ArePortSizes unit most → at % 8 ≡ 0 → EightStep unit most at
eight-step unit most at sizes even =
    let bounds = unit-bounds unit most sizes in
    let aligned : at % unit ≡ 0 = eight-unit unit most at sizes even in
    let whole : begins_in_part unit at 8 ≡ false = is-whole unit at 8 aligned bounds.1 in
    let eight : min (8 / unit * unit) most ≡ 8 = by_unit (λ u. min (8 / u * u) most ≡ 8) unit most sizes (eight-size-4 most sizes.whole sizes.some) (eight-size-8 most sizes.whole sizes.some) in
    record { even = aligned; whole = whole; size = step_size-whole unit most at 8 whole ∙ eight; chunk = chunk_size-whole unit most at 8 whole ∙ eight }

pub step-one : (unit most at : ℕ) (bytes : List ℕ) (place : ℕ) (got : List ℕ) (xs ys : List Access) → ArePortSizes unit most → ReadStep unit most at bytes place got
    → SpellsRead 8 place got xs → SpellsRead unit (at + step_size unit most at (length bytes)) (drop (step_size unit most at (length bytes)) bytes) ys → IsOneAccess at (length bytes) (xs ++ ys)
step-one unit most at bytes place got xs ys sizes step first more even count =
    let eight = eight-step unit most at sizes even in
    let long : length got ≡ 8 = step.size ∙ ap (λ (n : ℕ). chunk_size unit most at n) count ∙ eight.chunk in
    let place_is : place % 8 ≡ 0 = (let e : at - at % unit ≡ at = omega (arith, eight.even) in ap (λ (n : ℕ). n % 8) (step.place_is ∙ e) ∙ even) in
    let load = unit-loaded 8 8 place got xs eight_sizes place_is long first in
    let size : step_size unit most at (length bytes) ≡ 8 = ap (λ (n : ℕ). step_size unit most at n) count ∙ eight.size in
    let none : ys ≡ [] = none-read unit (at + step_size unit most at (length bytes)) (drop (step_size unit most at (length bytes)) bytes) ys (omega (arith, length-drop (step_size unit most at (length bytes)) bytes)) more in
    ap (λ (l : List Access). length (l ++ ys)) load.is ∙ ap (λ (l : List Access). length (Loaded load.place load.value ∷ l)) none

module _ (unit most : ℕ) (sizes : ArePortSizes unit most) where
  -- ---- each range is read by some accesses
  pub record SomeAccesses (at count : ℕ) : Type 0 where
    pub bytes : List ℕ
    pub size : length bytes ≡ count
    pub accesses : List Access
    pub spell : SpellsRead unit at bytes accesses

  eight-piece : (at count size : ℕ) → size ≡ min count (8 - at % 8) → 0 < size → IsPiece unit at count size
  eight-piece at count size is some =
      let p = part-ends 8 8 at count size eight_sizes is some in
      record { some = p.some; within = p.within; inside = p.inside; ends = elim p.ends [ inl all ↦ inl all | inr end ↦ inr (eight-unit unit most (at + size) sizes end) ] }

  pub some-accesses : (fuel at count : ℕ) → count ≤ fuel → SomeAccesses at count
  some-accesses fuel at zero less = record { bytes = []; size = refl; accesses = []; spell = refl }
  some-accesses zero at (suc count) less = absurd (omega arith)
  some-accesses (suc fuel) at (suc count) less =
      let size : ℕ = min (suc count) (8 - at % 8) in
      let some : 0 < size = omega arith in
      let rest = some-accesses fuel (at + size) (suc count - size) (omega arith) in
      let word : List ℕ = to_le_bytes w64 0 in
      let front : List ℕ = take size (drop (at % 8) word) in
      let long : length front ≡ size = length-take-le size (drop (at % 8) word) (omega (arith, length-drop (at % 8) word, eight-of 0)) in
      let all : length (front ++ rest.bytes) ≡ suc count = omega (arith, length-append front rest.bytes, rest.size) in
      record {
        bytes = front ++ rest.bytes;
        size = all;
        accesses = Loaded (at - at % 8) 0 ∷ rest.accesses;
        spell = (
          record {
            size = size;
            piece = subst (λ (n : ℕ). IsPiece unit at n size) (sym all) (eight-piece at (suc count) size refl some);
            place_is = refl;
            fits = omega arith;
            bytes_are = take_at front rest.bytes size long;
          },
          subst (λ (l : List ℕ). SpellsRead unit (at + size) l rest.accesses) (sym (drop_at front rest.bytes size long)) rest.spell,
        );
      }

  -- ---- a step in front of other accesses
  pub record FrontJoined (at count : ℕ) (bytes : List ℕ) (accesses : List Access) : Type 0 where
    pub size : length bytes ≡ count
    pub spell : SpellsRead unit at bytes accesses
    pub is_one : IsOneAccess at count accesses

  pub front-joins : (at count : ℕ) (front rest got : List ℕ) (place : ℕ) (xs ys : List Access) → 0 < count → length front ≡ step_size unit most at count → length rest ≡ count - step_size unit most at count → place ≡ at - at % unit
      → length got ≡ chunk_size unit most at count → length got % unit ≡ 0 → front ≡ take (step_size unit most at count) (drop (at % unit) got) → SpellsRead 8 place got xs → SpellsRead unit (at + step_size unit most at count) rest ys → FrontJoined at count (front ++ rest) (xs ++ ys)
  front-joins at count front rest got place xs ys some front_size rest_size place_is got_size units front_is first more =
      let k : ℕ = step_size unit most at count in
      let fits = step-fits unit most at count sizes some in
      let bytes : List ℕ = front ++ rest in
      let all : length bytes ≡ count = omega (arith, length-append front rest, fits.within) in
      let same : step_size unit most at (length bytes) ≡ k = ap (λ (n : ℕ). step_size unit most at n) all in
      let step = read-step unit most at count k front rest got place some refl front_size rest_size fits.within place_is got_size front_is in
      let left : SpellsRead unit (at + step_size unit most at (length bytes)) (drop (step_size unit most at (length bytes)) bytes) ys =
      subst (λ (n : ℕ). SpellsRead unit (at + n) (drop n bytes) ys) (sym same) (subst (λ (l : List ℕ). SpellsRead unit (at + k) l ys) (sym (drop_at front rest k front_size)) more) in
      record {
        size = all;
        spell = step-joins unit most at bytes place got xs ys sizes step units first left;
        is_one = subst (λ (n : ℕ). IsOneAccess at n (xs ++ ys)) all (step-one unit most at bytes place got xs ys sizes step first left);
      }

  module _ {S V : Type 0} (view : S → V) (stands : S → V → Type 0) (valid ready positive : S → Type 0) (ran : V → ℕ → V → Type 0) (reached : V → List Access → V → Type 0) (one : S → Chunk → S → Type 0) (refused : S → Chunk → PortStop → S → Type 0)
      (reached_none : (v : V) → reached v [] v) (reached_then : (u v w : V) (xs ys : List Access) → reached u xs v → reached v ys w → reached u (xs ++ ys) w)
      (one_reaches : OneReaches unit most view valid ready positive ran reached one) (refused_reaches : RefusedReaches unit most view stands valid ready reached refused) where
    -- the chunks of a read were made
    pub record ReadMade (at : ℕ) (bytes : List ℕ) (a b : S) : Type 0 where
      pub accesses : List Access
      pub spell : SpellsRead unit at bytes accesses
      pub is_one : IsOneAccess at (length bytes) accesses
      pub path : reached (view a) accesses (view b)
      pub behind_a_step : positive a → 0 < length bytes → StepsFirst ran reached (view a) accesses (view b)
      pub still_valid : valid b
      pub still_ready : ready b
      pub still_positive : positive a → positive b

    left-mapped : (at : ℕ) (bytes : List ℕ) (k : ℕ) → k ≤ length bytes → IsMappedRange at (length bytes) → IsMappedRange (at + k) (length (drop k bytes))
    left-mapped at bytes k within mapped = subst (λ (n : ℕ). IsMappedRange (at + k) n) (sym (length-drop k bytes)) (mapped-rest at (length bytes) k mapped within)

    pub read-made : (chunks : List Chunk) (at : ℕ) (bytes : List ℕ) (a b : S) → valid a → ready a → IsMappedRange at (length bytes) → ReadChunks unit most at bytes chunks → Made one a chunks b → ReadMade at bytes a b
    read-made [] at bytes a b ok now mapped are made =
        let here : ReadMade at bytes a a = record {
          accesses = [];
          spell = are;
          is_one = λ even count. absurd (let none : length bytes ≡ 0 = ap (λ (l : List ℕ). length l) are in omega arith);
          path = reached_none (view a);
          behind_a_step = λ pos some. absurd (let none : length bytes ≡ 0 = ap (λ (l : List ℕ). length l) are in omega arith);
          still_valid = ok;
          still_ready = now;
          still_positive = λ p. p;
        } in
        subst (λ (s : S). ReadMade at bytes a s) (sym made) here
    read-made (ReadChunk place got ∷ chunks) at bytes a b ok now mapped are made =
        let step = are.0 in
        let k : ℕ = step_size unit most at (length bytes) in
        let fits = step-fits unit most at (length bytes) sizes step.some in
        let asked = step-asked unit most at bytes place got sizes mapped step in
        let reach = one_reaches a made.0 (ReadChunk place got) ok now asked made.1 in
        let rest = read-made chunks (at + k) (drop k bytes) made.0 b reach.still_valid reach.still_ready (left-mapped at bytes k fits.within mapped) are.1 made.2 in
        record {
          accesses = reach.accesses ++ rest.accesses;
          spell = step-joins unit most at bytes place got reach.accesses rest.accesses sizes step asked.whole reach.spell rest.spell;
          is_one = step-one unit most at bytes place got reach.accesses rest.accesses sizes step reach.spell rest.spell;
          path = reached_then (view a) (view made.0) (view b) reach.accesses rest.accesses reach.path rest.path;
          behind_a_step = λ pos some. steps-then ran reached reached_then (view a) (view made.0) (view b) reach.accesses rest.accesses (reach.behind_a_step pos) rest.path;
          still_valid = rest.still_valid;
          still_ready = rest.still_ready;
          still_positive = λ p. rest.still_positive (reach.still_positive p);
        }
    read-made (WriteChunk place put ∷ chunks) at bytes a b ok now mapped are made = absurd are

    -- some of the chunks of a read were made, and the next one was refused
    pub record ReadBegun (at count : ℕ) (stop : PortStop) (a b : S) : Type 0 where
      pub no_command : IsNoCommand stop
      pub bytes : List ℕ
      pub size : length bytes ≡ count
      pub accesses : List Access
      pub more : List Access
      pub spell : SpellsRead unit at bytes (accesses ++ more)
      pub is_one : IsOneAccess at count (accesses ++ more)
      pub last : V
      pub path : reached (view a) accesses last
      pub stands_so : stands b last

    refused-first : (at count : ℕ) (stop : PortStop) (place : ℕ) (got : List ℕ) (a b : S) → 0 < count → place ≡ at - at % unit → length got ≡ chunk_size unit most at count → length got % unit ≡ 0
        → (same : Chunk) → AsksSame (ReadChunk place got) same → (xs ys : List Access) → SpellsChunk unit same (xs ++ ys) → IsNoCommand stop → (last : V) → reached (view a) xs last → stands b last → ReadBegun at count stop a b
    refused-first at count stop place got a b some place_is got_size units (ReadChunk other others) asks xs ys spell none last path stands_so =
        let k : ℕ = step_size unit most at count in
        let fits = step-fits unit most at count sizes some in
        let rest = some-accesses (count - k) (at + k) (count - k) (omega arith) in
        let front : List ℕ = take k (drop (at % unit) others) in
        let size : length others ≡ chunk_size unit most at count = asks.1 ∙ got_size in
        let front_size : length front ≡ k = length-take-le k (drop (at % unit) others) (omega (arith, length-drop (at % unit) others, fits.inside)) in
        let joined = front-joins at count front rest.bytes others other (xs ++ ys) rest.accesses some front_size rest.size (asks.0 ∙ place_is) size (ap (λ (n : ℕ). n % unit) asks.1 ∙ units) refl spell rest.spell in
        let all : (xs ++ ys) ++ rest.accesses ≡ xs ++ (ys ++ rest.accesses) = append_assoc xs ys rest.accesses in
        record {
          no_command = none;
          bytes = front ++ rest.bytes;
          size = joined.size;
          accesses = xs;
          more = ys ++ rest.accesses;
          spell = subst (λ (l : List Access). SpellsRead unit at (front ++ rest.bytes) l) all joined.spell;
          is_one = subst (λ (l : List Access). IsOneAccess at count l) all joined.is_one;
          last = last;
          path = path;
          stands_so = stands_so;
        }
    refused-first at count stop place got a b some place_is got_size units (WriteChunk other others) asks xs ys spell none last path stands_so = absurd asks

    pub read-begun : (done : List Chunk) (last : Chunk) (more : List Chunk) (at : ℕ) (bytes : List ℕ) (stop : PortStop) (a m b : S) → valid a → ready a → IsMappedRange at (length bytes) → ReadChunks unit most at bytes (done ++ last ∷ more)
        → Made one a done m → refused m last stop b → ReadBegun at (length bytes) stop a b
    read-begun [] (ReadChunk place got) more at bytes stop a m b ok now mapped are made cut =
        let step = are.0 in
        let asked = step-asked unit most at bytes place got sizes mapped step in
        let begun = refused_reaches a b (ReadChunk place got) stop ok now asked (subst (λ (s : S). refused s (ReadChunk place got) stop b) made cut) in
        refused-first at (length bytes) stop place got a b step.some step.place_is step.size asked.whole begun.same begun.asks begun.accesses begun.more begun.spell begun.no_command begun.last begun.path begun.stands_so
    read-begun [] (WriteChunk place put) more at bytes stop a m b ok now mapped are made cut = absurd are
    read-begun (ReadChunk place got ∷ done) last more at bytes stop a m b ok now mapped are made cut =
        let step = are.0 in
        let count : ℕ = length bytes in
        let k : ℕ = step_size unit most at count in
        let fits = step-fits unit most at count sizes step.some in
        let asked = step-asked unit most at bytes place got sizes mapped step in
        let reach = one_reaches a made.0 (ReadChunk place got) ok now asked made.1 in
        let rest = read-begun done last more (at + k) (drop k bytes) stop made.0 m b reach.still_valid reach.still_ready (left-mapped at bytes k fits.within mapped) are.1 made.2 cut in
        let front : List ℕ = take k bytes in
        let joined = front-joins at count front rest.bytes got place reach.accesses (rest.accesses ++ rest.more) step.some (length-take-le k bytes fits.within) (rest.size ∙ length-drop k bytes) step.place_is step.size asked.whole step.bytes_are reach.spell rest.spell in
        let all : reach.accesses ++ (rest.accesses ++ rest.more) ≡ (reach.accesses ++ rest.accesses) ++ rest.more = sym (append_assoc reach.accesses rest.accesses rest.more) in
        record {
          no_command = rest.no_command;
          bytes = front ++ rest.bytes;
          size = joined.size;
          accesses = reach.accesses ++ rest.accesses;
          more = rest.more;
          spell = subst (λ (l : List Access). SpellsRead unit at (front ++ rest.bytes) l) all joined.spell;
          is_one = subst (λ (l : List Access). IsOneAccess at count l) all joined.is_one;
          last = rest.last;
          path = reached_then (view a) (view made.0) rest.last reach.accesses rest.accesses reach.path rest.path;
          stands_so = rest.stands_so;
        }
    read-begun (WriteChunk place put ∷ done) last more at bytes stop a m b ok now mapped are made cut = absurd are
