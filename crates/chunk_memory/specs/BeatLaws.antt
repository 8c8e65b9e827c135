-- Chunks by beats as accesses.
use Rattle.std.proofs.Common.{◌≡◌, true, ℕ, zero, suc, ◌+◌, ◌-◌, ◌*◌, ◌/◌, ◌%◌, ◌^◌, ◌<◌, ◌≤◌, List, [], ◌∷◌, ◌++◌}
use Rattle.std.proofs.Common.{length, take, drop, replicate, length-append, append_assoc, refl, sym, ap, subst, ◌∙◌}
use Rattle.std.proofs.Common.{arith, inr}
use Rattle.std.specs.Int.{to_le_bytes, w64}
use Rattle.std.specs.Prelude.{IsTrue, Bool, ◌==◌, ◌&&◌}
use Rattle.std.proofs.lemmas.Bool.Decides.{nat_tests}
use Rattle.std.proofs.lemmas.List.{length-replicate, take_at, drop_at, take_all}
use Rattle.fe_base.specs.Access.{Access, Loaded, Stored}
use Rattle.fe_base.specs.Beats.{Beat, ReadBeat, WriteBeat, IsBeat, beat_access, BeatLaw}
use Rattle.fe_base.specs.MemoryMap.{is_mapped, is_beat}
use Rattle.chunk_memory.specs.BeatChunks.{bytes_of, AreDoublewords, BeatsRead, BeatsWritten, DirectOne, DirectRefused}
use Rattle.chunk_memory.specs.Ports.{ArePortSizes}
use Rattle.chunk_memory.specs.Ranges.{IsMappedRange}
use Rattle.chunk_memory.specs.Reached.{Reached, ChunkBegun, OneReaches, RefusedReaches, IsNoCommand}
use Rattle.chunk_memory.specs.Spelling.{StepsFirst, IsPiece, LoadsPiece, StoresPiece, SpellsRead, SpellsWrite}
use Rattle.chunk_memory.specs.Transactions.{ReadChunk, WriteChunk}
use Rattle.chunk_memory.specs.declared.stops.PortStop.{PortStop}
use Rattle.chunk_memory.specs.declared.stops.PortStop.TheVariants.{Spent, WireFault, CmdErr}

-- a port by beats has units of 8 bytes
pub direct_sizes : ArePortSizes 8 1024
direct_sizes = record { unit_is = inr refl; whole = refl; some = omega arith }

-- ---- doublewords and their bytes
pub eight-of : (value : ℕ) → length (to_le_bytes w64 value) ≡ 8
eight-of value = refl

pub length-bytes_of : (values : List ℕ) → length (bytes_of values) ≡ 8 * length values
length-bytes_of [] = refl
length-bytes_of (value ∷ more) =
    omega (arith, length-append (to_le_bytes w64 value) (bytes_of more), eight-of value, length-bytes_of more)

pub bytes_of-append : (xs ys : List ℕ) → bytes_of (xs ++ ys) ≡ bytes_of xs ++ bytes_of ys
bytes_of-append [] ys = refl
bytes_of-append (x ∷ xs) ys = ap (λ (l : List ℕ). to_le_bytes w64 x ++ l) (bytes_of-append xs ys)
    ∙ sym (append_assoc (to_le_bytes w64 x) (bytes_of xs) (bytes_of ys))

pub fit-append : (xs ys : List ℕ) → AreDoublewords xs → AreDoublewords ys → AreDoublewords (xs ++ ys)
fit-append [] ys first second = second
fit-append (x ∷ xs) ys first second = (first.0, fit-append xs ys first.1 second)

pub fit-front : (xs ys : List ℕ) → AreDoublewords (xs ++ ys) → AreDoublewords xs
fit-front [] ys fit = tt
fit-front (x ∷ xs) ys fit = (fit.0, fit-front xs ys fit.1)

pub fit-at : (xs : List ℕ) (x : ℕ) (ys : List ℕ) → AreDoublewords (xs ++ x ∷ ys) → x < 2 ^ 64
fit-at [] x ys fit = fit.0
fit-at (y ∷ xs) x ys fit = fit-at xs x ys fit.1

fit-zeros : (n : ℕ) → AreDoublewords (replicate n 0)
fit-zeros zero = tt
fit-zeros (suc n) = (omega arith, fit-zeros n)

-- ---- the accesses of beats
abbrev pub loads : ℕ → List ℕ → List Access
loads at [] = []
loads at (value ∷ more) = Loaded at value ∷ loads (at + 8) more

abbrev pub stores : ℕ → List ℕ → List Access
stores at [] = []
stores at (value ∷ more) = Stored at value ∷ stores (at + 8) more

pub loads-append : (at : ℕ) (xs ys : List ℕ) → loads at (xs ++ ys) ≡ loads at xs ++ loads (at + 8 * length xs) ys
loads-append at [] ys = let e : at ≡ at + 8 * 0 = omega arith in ap (λ (n : ℕ). loads n ys) e
loads-append at (x ∷ xs) ys =
    let e : at + 8 + 8 * length xs ≡ at + 8 * suc (length xs) = omega arith in
    ap (λ (l : List Access). Loaded at x ∷ l)
    (loads-append (at + 8) xs ys ∙ ap (λ (n : ℕ). loads (at + 8) xs ++ loads n ys) e)

pub stores-append : (at : ℕ) (xs ys : List ℕ) → stores at (xs ++ ys) ≡ stores at xs ++ stores (at + 8 * length xs) ys
stores-append at [] ys = let e : at ≡ at + 8 * 0 = omega arith in ap (λ (n : ℕ). stores n ys) e
stores-append at (x ∷ xs) ys =
    let e : at + 8 + 8 * length xs ≡ at + 8 * suc (length xs) = omega arith in
    ap (λ (l : List Access). Stored at x ∷ l)
    (stores-append (at + 8) xs ys ∙ ap (λ (n : ℕ). stores (at + 8) xs ++ stores n ys) e)

whole-piece : (at more : ℕ) → at % 8 ≡ 0 → IsPiece 8 at (8 + more) 8
whole-piece at more even = record {
  some = omega arith;
  within = omega arith;
  inside = omega arith;
  ends = inr (omega arith);
}

load-piece : (at value : ℕ) (word rest : List ℕ) → word ≡ to_le_bytes w64 value → length word ≡ 8 → at % 8 ≡ 0
    → value < 2 ^ 64 → LoadsPiece 8 at (word ++ rest) at value
load-piece at value word rest is eight even small =
    let long : 8 + length rest ≡ length (word ++ rest) = omega (arith, length-append word rest) in
    record {
      size = 8;
      piece = subst (λ (n : ℕ). IsPiece 8 at n 8) long (whole-piece at (length rest) even);
      place_is = omega arith;
      fits = small;
      bytes_are = take_at word rest 8 eight
          ∙ sym (ap (λ (n : ℕ). take 8 (drop n word)) even ∙ take_all 8 word (omega arith))
          ∙ ap (λ (l : List ℕ). take 8 (drop (at % 8) l)) is;
    }

pub loads-spell : (at : ℕ) (values : List ℕ) → at % 8 ≡ 0 → AreDoublewords values
    → SpellsRead 8 at (bytes_of values) (loads at values)
unfolding load-piece
loads-spell at [] even fit = refl
loads-spell at (value ∷ more) even fit = (
  load-piece at value (to_le_bytes w64 value) (bytes_of more) refl (eight-of value) even fit.0,
  subst (λ (l : List ℕ). SpellsRead 8 (at + 8) l (loads (at + 8) more))
      (sym (drop_at (to_le_bytes w64 value) (bytes_of more) 8 (eight-of value)))
      (loads-spell (at + 8) more (omega arith) fit.1),
)

store-piece : (at value : ℕ) (rest : List ℕ) → at % 8 ≡ 0 → value < 2 ^ 64
    → StoresPiece 8 8 at (to_le_bytes w64 value ++ rest) (Stored at value)
store-piece at value rest even small =
    let word : List ℕ = to_le_bytes w64 value in
    let long : 8 + length rest ≡ length (word ++ rest) = omega (arith, length-append word rest, eight-of value) in
    record {
      piece = subst (λ (n : ℕ). IsPiece 8 at n 8) long (whole-piece at (length rest) even);
      from_unit = even;
      whole = refl;
      place_is = omega arith;
      here = refl;
      fits = small;
      bytes_are = sym (take_at word rest 8 (eight-of value));
    }

pub stores-spell : (at : ℕ) (values : List ℕ) → at % 8 ≡ 0 → AreDoublewords values
    → SpellsWrite 8 8 at (bytes_of values) (stores at values)
stores-spell at [] even fit = refl
stores-spell at (value ∷ more) even fit = (
  store-piece at value (bytes_of more) even fit.0,
  subst (λ (l : List ℕ). SpellsWrite 8 8 (at + 8) l (stores (at + 8) more))
      (sym (drop_at (to_le_bytes w64 value) (bytes_of more) 8 (eight-of value)))
      (stores-spell (at + 8) more (omega arith) fit.1),
)

length-loads : (at : ℕ) (values : List ℕ) → length (loads at values) ≡ length values
length-loads at [] = refl
length-loads at (value ∷ more) = ap suc (length-loads (at + 8) more)

length-stores : (at : ℕ) (values : List ℕ) → length (stores at values) ≡ length values
length-stores at [] = refl
length-stores at (value ∷ more) = ap suc (length-stores (at + 8) more)

-- ---- a mapped doubleword may be asked for
-- a part of a mapped range is mapped
pub mapped-behind : (at count done : ℕ) → IsMappedRange at count → done ≤ count
    → IsMappedRange (at + done) (count - done)
mapped-behind at count done mapped less doubleword meets =
    mapped doubleword (record {
      some = omega (arith, meets.some);
      aligned = meets.aligned;
      above = omega (arith, meets.above);
      below = omega (arith, meets.below);
    })

both-true : (at : ℕ) (b : Bool) → at % 8 ≡ 0 → b ≡ true → IsTrue (at % 8 == 0 && b)
both-true at b even mapped = grind (arith, nat_tests)

pub is-beat : (at count : ℕ) → at % 8 ≡ 0 → 8 ≤ count → IsMappedRange at count → IsTrue (is_beat at)
is-beat at count even some mapped =
    let here : is_mapped at ≡ true =
    mapped at (record { some = omega arith; aligned = even; above = omega arith; below = omega arith }) in
    both-true at (is_mapped at) even here

-- ---- accesses one after the other
module _ {V : Type 0} (ran : V → ℕ → V → Type 0) (touched : V → Access → V → Type 0) (ran_none : (v : V) → ran v 0 v)
    (ran_more : (a b c : V) (m n : ℕ) → ran a m b → ran b n c → ran a (m + n) c) where
  pub steps-first : (u v w : V) (n : ℕ) (ys : List Access) → ran u n v → Reached ran touched v ys w
      → Reached ran touched u ys w
  steps-first u v w n [] first r = (n + r.0, ran_more u v w n r.0 first r.1)
  steps-first u v w n (y ∷ ys) first r = (n + r.0, r.1, r.2, ran_more u v r.1 n r.0 first r.3, r.4, r.5)

  pub reached-then : (u v w : V) (xs ys : List Access) → Reached ran touched u xs v → Reached ran touched v ys w
      → Reached ran touched u (xs ++ ys) w
  reached-then u v w [] ys r s = steps-first u v w r.0 ys r.1 s
  reached-then u v w (x ∷ xs) ys r s = (r.0, r.1, r.2, r.3, r.4, reached-then r.2 v w xs ys r.5 s)

  pub reached-cut : (u w : V) (xs ys : List Access) → Reached ran touched u (xs ++ ys) w → (v : V)
      × Reached ran touched u xs v × Reached ran touched v ys w
  reached-cut u w [] ys r = (u, (0, ran_none u), r)
  reached-cut u w (x ∷ xs) ys r = let rest =
      reached-cut r.2 w xs ys r.5 in (rest.0, (r.0, r.1, r.2, r.3, r.4, rest.1), rest.2)

  pub ran-reaches : (u v : V) (n : ℕ) → ran u n v → Reached ran touched u [] v
  ran-reaches u v n r = (n, r)

  pub reached-none : (v : V) → Reached ran touched v [] v
  reached-none v = (0, ran_none v)

  module _ {S : Type 0} (view : S → V) (valid positive : S → Type 0) (next : S → Beat → S × ℕ) where
    -- a beat that was answered is some steps, at least one where every pause is positive, and its access
    pub record TurnMade (before : S) (ask : Beat) (reply : ℕ) (after : S) : Type 0 where
      pub steps : ℕ
      pub between : V
      pub pause : ran (view before) steps between
      pub access : touched between (beat_access ask reply) (view after)
      pub still_valid : valid after
      pub some_step : positive before → 0 < steps
      pub still_positive : positive before → positive after

    abbrev pub TurnsMake : Type 0
    TurnsMake = (before after : S) (ask : Beat) (reply : ℕ) → valid before → IsBeat ask → next before ask
        ≡ (after, reply) → TurnMade before ask reply after

    pub turns-make : BeatLaw valid positive view ran touched next → TurnsMake
    turns-make law before after ask reply ok asked e =
        let t = law before ask ok asked in
        let here : TurnMade before ask (next before ask).1 (next before ask).0 =
        record {
          steps = t.steps;
          between = t.between;
          pause = t.pause;
          access = t.access;
          still_valid = t.still_valid;
          some_step = t.some_step;
          still_positive = t.still_positive;
        } in
        subst (λ (p : S × ℕ). TurnMade before ask p.1 p.0) e here

    -- beats lead from view to view by their accesses, behind a step where every pause is positive
    pub record BeatsReach (before : S) (accesses : List Access) (after : S) : Type 0 where
      pub path : Reached ran touched (view before) accesses (view after)
      pub behind_a_step : positive before → 0 < length accesses
          → StepsFirst ran (Reached ran touched) (view before) accesses (view after)
      pub still_valid : valid after
      pub still_positive : positive before → positive after

    no-beats : (before after : S) → after ≡ before → valid before → BeatsReach before [] after
    no-beats before after same ok =
        let here : BeatsReach before [] before =
        record {
          path = reached-none (view before);
          behind_a_step = λ p some. absurd (omega arith);
          still_valid = ok;
          still_positive = λ p. p;
        } in
        subst (λ (s : S). BeatsReach before [] s) (sym same) here

    beat-first : (before between after : S) (ask : Beat) (reply : ℕ) (more : List Access)
        → TurnMade before ask reply between → BeatsReach between more after
        → BeatsReach before (beat_access ask reply ∷ more) after
    beat-first before between after ask reply more turn rest = record {
      path = (turn.steps, turn.between, view between, turn.pause, turn.access, rest.path);
      behind_a_step = λ p some. record {
        steps = turn.steps;
        some = turn.some_step p;
        first = turn.between;
        ran_so = turn.pause;
        path = (0, turn.between, view between, ran_none turn.between, turn.access, rest.path);
      };
      still_valid = rest.still_valid;
      still_positive = λ p. rest.still_positive (turn.still_positive p);
    }

    module _ (make : TurnsMake) where
      pub beats-read : (at : ℕ) (values : List ℕ) (before after : S) → valid before → at % 8 ≡ 0
          → IsMappedRange at (8 * length values) → BeatsRead next before at values after
          → BeatsReach before (loads at values) after
      beats-read at [] before after ok even mapped made = no-beats before after made ok
      beats-read at (value ∷ more) before after ok even mapped made =
          let here = is-beat at (8 * suc (length more)) even (omega arith) mapped in
          let turn = make before made.0 (ReadBeat at) value ok here made.1 in
          let left : 8 * suc (length more) - 8 ≡ 8 * length more = omega arith in
          let rest : IsMappedRange (at + 8) (8 * length more) =
          subst (λ (n : ℕ). IsMappedRange (at + 8) n) left
          (mapped-behind at (8 * suc (length more)) 8 mapped (omega arith)) in
          beat-first before made.0 after (ReadBeat at) value (loads (at + 8) more) turn
          (beats-read (at + 8) more made.0 after turn.still_valid (omega arith) rest made.2)

      pub beats-written : (at : ℕ) (values : List ℕ) (before after : S) → valid before → at % 8 ≡ 0
          → IsMappedRange at (8 * length values) → AreDoublewords values → BeatsWritten next before at values after
          → BeatsReach before (stores at values) after
      beats-written at [] before after ok even mapped fit made = no-beats before after made ok
      beats-written at (value ∷ more) before after ok even mapped fit made =
          let here = is-beat at (8 * suc (length more)) even (omega arith) mapped in
          let turn = make before made.0 (WriteBeat at value) 0 ok (here, fit.0) made.1 in
          let left : 8 * suc (length more) - 8 ≡ 8 * length more = omega arith in
          let rest : IsMappedRange (at + 8) (8 * length more) =
          subst (λ (n : ℕ). IsMappedRange (at + 8) n) left
          (mapped-behind at (8 * suc (length more)) 8 mapped (omega arith)) in
          beat-first before made.0 after (WriteBeat at value) 0 (stores (at + 8) more) turn
          (beats-written (at + 8) more made.0 after turn.still_valid (omega arith) rest fit.1 made.2)

      -- a chunk that was made
      pub direct-one : OneReaches 8 1024 view valid (λ _. Unit {0}) positive ran (Reached ran touched) (DirectOne next)
      direct-one before after (ReadChunk at bytes) ok ready asked one =
          let count : length bytes ≡ 8 * length one.values =
          ap (λ (l : List ℕ). length l) one.bytes_are ∙ length-bytes_of one.values in
          let reach = beats-read at one.values before after ok asked.aligned
          (subst (λ (n : ℕ). IsMappedRange at n) count asked.mapped) one.made in
          record {
            accesses = loads at one.values;
            spell = subst (λ (l : List ℕ). SpellsRead 8 at l (loads at one.values)) (sym one.bytes_are)
                (loads-spell at one.values asked.aligned one.fit);
            path = reach.path;
            behind_a_step = λ p. reach.behind_a_step p (omega (arith, asked.some, count, length-loads at one.values));
            still_valid = reach.still_valid;
            still_ready = tt;
            still_positive = reach.still_positive;
          }
      direct-one before after (WriteChunk at bytes) ok ready asked one =
          let count : length bytes ≡ 8 * length one.values =
          ap (λ (l : List ℕ). length l) one.bytes_are ∙ length-bytes_of one.values in
          let reach = beats-written at one.values before after ok asked.aligned
          (subst (λ (n : ℕ). IsMappedRange at n) count asked.mapped) one.fit one.made in
          record {
            accesses = stores at one.values;
            spell = subst (λ (l : List ℕ). SpellsWrite 8 8 at l (stores at one.values)) (sym one.bytes_are)
                (stores-spell at one.values asked.aligned one.fit);
            path = reach.path;
            behind_a_step = λ p. reach.behind_a_step p (omega (arith, asked.some, count, length-stores at one.values));
            still_valid = reach.still_valid;
            still_ready = tt;
            still_positive = reach.still_positive;
          }

      -- a beat whose reply was lost, behind beats that were answered
      module _ (lost : S → Beat → S × ℕ) (loses : BeatLaw valid positive view ran touched lost) where
        -- the accesses that were made of a chunk that was refused
        pub record BeatsCut (before : S) (accesses : List Access) (after : S) : Type 0 where
          pub last : V
          pub path : Reached ran touched (view before) accesses last
          pub stands_so : view after ≡ last

        cut-spent : (before between after : S) (accesses : List Access) → BeatsReach before accesses between → after
            ≡ between → BeatsCut before accesses after
        cut-spent before between after accesses reach same =
            record { last = view between; path = reach.path; stands_so = ap view same }

        cut-lost : (before between after : S) (accesses : List Access) (ask : Beat)
            → BeatsReach before accesses between → IsBeat ask → after ≡ (lost between ask).0
            → BeatsCut before (accesses ++ beat_access ask (lost between ask).1 ∷ []) after
        cut-lost before between after accesses ask reach asked same =
            let t = loses between ask reach.still_valid asked in
            let one : Reached ran touched (view between) (beat_access ask (lost between ask).1 ∷ [])
            (view (lost between ask).0) = (
              t.steps,
              t.between,
              view (lost between ask).0,
              t.pause,
              t.access,
              (0, ran_none (view (lost between ask).0)),
            ) in
            record {
              last = view (lost between ask).0;
              path = reached-then (view before) (view between) (view (lost between ask).0) accesses
                  (beat_access ask (lost between ask).1 ∷ []) reach.path one;
              stands_so = ap view same;
            }

        -- the accesses of a chunk to be read, some of which were made
        begun-read : (at : ℕ) (bytes : List ℕ) (stop : PortStop) (before after : S) (made more : List ℕ)
            (none : IsNoCommand stop) → at % 8 ≡ 0 → AreDoublewords (made ++ more) → 8 * length (made ++ more)
            ≡ length bytes
            → BeatsCut before (loads at made) after
            → ChunkBegun 8 view (λ s v. view s ≡ v) (Reached ran touched) (ReadChunk at bytes) stop before after
        begun-read at bytes stop before after made more none even fit long cut = record {
          no_command = none;
          same = ReadChunk at (bytes_of (made ++ more));
          asks = (refl, length-bytes_of (made ++ more) ∙ long);
          accesses = loads at made;
          more = loads (at + 8 * length made) more;
          spell = subst (λ (l : List Access). SpellsRead 8 at (bytes_of (made ++ more)) l) (loads-append at made more)
              (loads-spell at (made ++ more) even fit);
          last = cut.last;
          path = cut.path;
          stands_so = cut.stands_so;
        }

        begun-write : (at : ℕ) (bytes : List ℕ) (stop : PortStop) (before after : S) (made more : List ℕ)
            (none : IsNoCommand stop) → at % 8 ≡ 0 → AreDoublewords (made ++ more) → bytes ≡ bytes_of (made ++ more)
            → BeatsCut before (stores at made) after
            → ChunkBegun 8 view (λ s v. view s ≡ v) (Reached ran touched) (WriteChunk at bytes) stop before after
        begun-write at bytes stop before after made more none even fit are cut = record {
          no_command = none;
          same = WriteChunk at bytes;
          asks = (refl, refl);
          accesses = stores at made;
          more = stores (at + 8 * length made) more;
          spell = subst (λ (l : List Access). SpellsWrite 8 8 at bytes l) (stores-append at made more)
              (subst (λ (l : List ℕ). SpellsWrite 8 8 at l (stores at (made ++ more))) (sym are)
              (stores-spell at (made ++ more) even fit));
          last = cut.last;
          path = cut.path;
          stands_so = cut.stands_so;
        }

        -- the beats that were made before one was refused were of mapped doublewords, and so is that one
        made-mapped : (at count made : ℕ) → IsMappedRange at count → 8 * made ≤ count → IsMappedRange at (8 * made)
        made-mapped at count made mapped less doubleword meets =
            mapped doubleword (record {
              some = omega (arith, meets.some);
              aligned = meets.aligned;
              above = meets.above;
              below = omega (arith, meets.below);
            })

        next-beat : (at count made : ℕ) → at % 8 ≡ 0 → IsMappedRange at count → 8 * made + 8 ≤ count
            → IsTrue (is_beat (at + 8 * made))
        next-beat at count made even mapped less =
            is-beat (at + 8 * made) (count - 8 * made) (omega arith) (omega arith)
            (mapped-behind at count (8 * made) mapped (omega arith))

        room : (count made : ℕ) → count % 8 ≡ 0 → 8 * made < count → 8 * made + 8 ≤ count
        room count made whole less = omega arith

        -- a chunk that was refused
        pub direct-refused : RefusedReaches 8 1024 view (λ s v. view s ≡ v) valid (λ _. Unit {0}) (Reached ran touched)
            (DirectRefused next lost)
        direct-refused before after (ReadChunk at bytes) Spent ok ready asked cut =
            let count : ℕ = length bytes in
            let n : ℕ = length cut.values in
            let fits : 8 * n + 8 ≤ count = room count n asked.whole cut.some_left in
            let reach = beats-read at cut.values before cut.between ok asked.aligned
            (made-mapped at count n asked.mapped (omega arith)) cut.made in
            let zeros : List ℕ = replicate (count / 8 - n) 0 in
            let long : 8 * length (cut.values ++ zeros) ≡ count =
            omega (
              arith,
              length-append cut.values zeros,
              length-replicate {A = ℕ} (count / 8 - n) 0,
              asked.whole,
            ) in
            begun-read at bytes Spent before after cut.values zeros tt asked.aligned
            (fit-append cut.values zeros cut.fit (fit-zeros (count / 8 - n))) long
            (cut-spent before cut.between after (loads at cut.values) reach cut.stopped)
        direct-refused before after (ReadChunk at bytes) WireFault ok ready asked cut =
            let count : ℕ = length bytes in
            let n : ℕ = length cut.values in
            let fits : 8 * n + 8 ≤ count = room count n asked.whole cut.some_left in
            let reach = beats-read at cut.values before cut.between ok asked.aligned
            (made-mapped at count n asked.mapped (omega arith)) cut.made in
            let ask : Beat = ReadBeat (at + 8 * n) in
            let here = next-beat at count n asked.aligned asked.mapped fits in
            let reply : ℕ = (lost cut.between ask).1 in
            let small : reply < 2 ^ 64 = (loses cut.between ask reach.still_valid here).reply_fits in
            let made : List ℕ = cut.values ++ reply ∷ [] in
            let zeros : List ℕ = replicate (count / 8 - n - 1) 0 in
            let one : length made ≡ n + 1 = length-append cut.values (reply ∷ []) in
            let long : 8 * length (made ++ zeros) ≡ count =
            omega (arith, length-append made zeros, length-replicate {A = ℕ} (count / 8 - n - 1) 0, asked.whole) in
            let lost_cut = cut-lost before cut.between after (loads at cut.values) ask reach here cut.stopped in
            begun-read at bytes WireFault before after made zeros tt asked.aligned
            (fit-append made zeros (fit-append cut.values (reply ∷ []) cut.fit (small, tt))
            (fit-zeros (count / 8 - n - 1))) long
            (subst (λ (l : List Access). BeatsCut before l after)
            (sym (loads-append at cut.values (reply ∷ []))) lost_cut)
        direct-refused before after (ReadChunk at bytes) (CmdErr number) ok ready asked cut = absurd cut.stopped
        direct-refused before after (WriteChunk at bytes) Spent ok ready asked cut =
            let count : ℕ = length bytes in
            let n : ℕ = length cut.values in
            let long : count ≡ 8 * (n + suc (length cut.more)) =
            ap (λ (l : List ℕ). length l) cut.bytes_are ∙ length-bytes_of (cut.values ++ cut.value ∷ cut.more)
            ∙ ap (λ (k : ℕ). 8 * k) (length-append cut.values (cut.value ∷ cut.more)) in
            let reach = beats-written at cut.values before cut.between ok asked.aligned
            (made-mapped at count n asked.mapped (omega arith))
            (fit-front cut.values (cut.value ∷ cut.more) cut.fit) cut.made in
            begun-write at bytes Spent before after cut.values
            (cut.value ∷ cut.more) tt asked.aligned cut.fit cut.bytes_are
            (cut-spent before cut.between after (stores at cut.values) reach cut.stopped)
        direct-refused before after (WriteChunk at bytes) WireFault ok ready asked cut =
            let count : ℕ = length bytes in
            let n : ℕ = length cut.values in
            let long : count ≡ 8 * (n + suc (length cut.more)) =
            ap (λ (l : List ℕ). length l) cut.bytes_are ∙ length-bytes_of (cut.values ++ cut.value ∷ cut.more)
            ∙ ap (λ (k : ℕ). 8 * k) (length-append cut.values (cut.value ∷ cut.more)) in
            let reach = beats-written at cut.values before cut.between ok asked.aligned
            (made-mapped at count n asked.mapped (omega arith))
            (fit-front cut.values (cut.value ∷ cut.more) cut.fit) cut.made in
            let ask : Beat = WriteBeat (at + 8 * n) cut.value in
            let here = next-beat at count n asked.aligned asked.mapped (omega arith) in
            let small : cut.value < 2 ^ 64 = fit-at cut.values cut.value cut.more cut.fit in
            let lost_cut = cut-lost before cut.between after (stores at cut.values) ask reach
            (here, small) cut.stopped in
            let joined : cut.values ++ cut.value ∷ cut.more ≡ (cut.values ++ cut.value ∷ []) ++ cut.more =
            sym (append_assoc cut.values (cut.value ∷ []) cut.more) in
            begun-write at bytes WireFault before after (cut.values ++ cut.value ∷ []) cut.more tt asked.aligned
            (subst AreDoublewords joined cut.fit) (cut.bytes_are ∙ ap bytes_of joined)
            (subst (λ (l : List Access). BeatsCut before l after)
            (sym (stores-append at cut.values (cut.value ∷ []))) lost_cut)
        direct-refused before after (WriteChunk at bytes) (CmdErr number) ok ready asked cut = absurd cut.stopped
