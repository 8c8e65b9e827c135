-- A range that is moved over a line is moved over what is seen of its target.
use Rattle.std.proofs.Common.{◌≡◌, ◌≤◌, ◌+◌, ℕ, List, [], ◌++◌, length, Some, None, refl, sym, ap, subst, ◌∙◌, arith}
use Rattle.std.specs.Prelude.{Result, Ok, Err}
use Rattle.std.specs.Result.{result_err}
use Rattle.chunk_memory.proofs.RangeSpelled.{read-spelled, read-refused-spelled, write-spelled, write-refused-spelled}
use Rattle.chunk_memory.proofs.WordLemmas.{AreSmall}
use Rattle.chunk_memory.specs.BeatChunks.{DirectOne, DirectRefused}
use Rattle.chunk_memory.specs.BeatLaws.{direct_sizes, direct-one, direct-refused, turns-make, reached-none}
use Rattle.chunk_memory.specs.BeatLaws.{reached-then}
use Rattle.chunk_memory.specs.Ports.{Maps}
use Rattle.chunk_memory.specs.Reached.{Reached, OneReaches, RefusedReaches}
use Rattle.chunk_memory.specs.Spelling.{ReadUntil, WriteUntil}
use Rattle.chunk_memory.specs.Transactions.{ReadsRange, WritesRange}
use Rattle.chunk_memory.specs.declared.stops.MemStop.{MemStop}
use Rattle.chunk_memory.specs.declared.stops.MemStop.TheVariants.{Unmapped, Spent, WireFault, CmdErr}
use Rattle.chunk_memory.specs.declared.stops.PortStop.TheVariants.{Spent as PortSpent, WireFault as PortFault}
use Rattle.chunk_memory.specs.declared.stops.PortStop.TheVariants.{CmdErr as PortError}
use Rattle.direct_ranges.proofs.LineLemmas.{ranges_are_lines, mapped-unless}
use Rattle.direct_ranges.specs.RangeLines.{RangeLined}
use Rattle.fe_base.specs.Access.{Access}
use Rattle.host_text.specs.Ports.{played-over, moved}
use Rattle.host_text.specs.Played.{Played}
use Rattle.rv_hart.specs.HartStep.{System}
use Rattle.target_box.proofs.JoinProofs.{lines_join}
use Rattle.target_box.specs.Lined.{Lined, seen, next_line, lost_line, IsDirectLine, IsPositiveLine}
use Rattle.target_box.specs.StepLaws.{steps-none, steps-more}
use Rattle.target_box.specs.TargetLaws.{next-turns, lost-turns}
use Rattle.target_box.specs.Turn.{IsTarget, ran, touched}
use Rattle.target_box.specs.TurnLaws.{TurnsKept}
use Rattle.target_box.specs.declared.target.Link.TheVariants.{Direct}
use Rattle.tether_base.specs.Seen.{seen_at, GoesOn, LinesAreSeen}
use Rattle.tether_base.specs.ToldActs.{LineRead, LineWritten, SeenRead, SeenWritten, line_acts, seen_acts}

-- ---- what is seen
abbrev Stands : Lined → System → Type 0
Stands line sys = seen line ≡ sys

abbrev Ready : Lined → Type 0
Ready line = Unit {0}

one_reaches : OneReaches 8 1024 seen IsDirectLine Ready IsPositiveLine ran (Reached ran touched) (DirectOne next_line)
one_reaches = direct-one ran touched steps-none steps-more seen IsDirectLine IsPositiveLine next_line
    (turns-make ran touched steps-none steps-more seen IsDirectLine IsPositiveLine next_line next-turns)

refused_reaches : RefusedReaches 8 1024 seen Stands IsDirectLine Ready (Reached ran touched)
    (DirectRefused next_line lost_line)
refused_reaches = direct-refused ran touched steps-none steps-more seen IsDirectLine IsPositiveLine next_line
    (turns-make ran touched steps-none steps-more seen IsDirectLine IsPositiveLine next_line next-turns) lost_line
    lost-turns

none_reached : (v : System) → Reached ran touched v [] v
none_reached = reached-none ran touched steps-none steps-more

then_reached : (u v w : System) (xs ys : List Access) → Reached ran touched u xs v
    → Reached ran touched v ys w → Reached ran touched u (xs ++ ys) w
then_reached = reached-then ran touched steps-none steps-more

-- ---- ranges
module _ (a b : Lined) (valid : IsDirectLine a) where
  read-part-seen : (at count : ℕ) → ReadUntil seen Stands Ready IsPositiveLine ran (Reached ran touched) 8 at count a b
      → SeenRead (seen a) at count (Err Spent) (seen b)
  read-part-seen at count w = record {
    bytes = w.bytes;
    size = w.size;
    accesses = w.accesses;
    more = w.more;
    spell = w.spell;
    is_one = w.is_one;
    last = w.last;
    path = w.path;
    stands_so = w.stands_so;
  }

  read-seen : (at count : ℕ) (r : Result (List ℕ) MemStop) → Maps at count (result_err r)
      → ReadsRange (DirectOne next_line) (DirectRefused next_line lost_line) 8 1024 at count r a b
      → SeenRead (seen a) at count r (seen b)
  read-seen at count (Ok bytes) maps was =
      let w = read-spelled 8 1024 direct_sizes seen Stands IsDirectLine Ready IsPositiveLine ran (Reached ran touched)
      (DirectOne next_line) (DirectRefused next_line lost_line) none_reached then_reached one_reaches refused_reaches
      at count bytes a b valid tt (mapped-unless at count None maps (λ doubleword e. cc)) was in
      record {
        size = w.size;
        accesses = w.accesses;
        spell = w.spell;
        is_one = w.is_one;
        path = w.path;
        behind_a_step = λ no some. absurd no;
        still = tt;
      }
  read-seen at count (Err (Unmapped place)) maps was = ap seen was
  read-seen at count (Err Spent) maps was =
      read-part-seen at count (read-refused-spelled 8 1024 direct_sizes seen Stands IsDirectLine Ready IsPositiveLine
      ran (Reached ran touched) (DirectOne next_line) (DirectRefused next_line lost_line) none_reached then_reached
      one_reaches refused_reaches at count PortSpent a b valid tt
      (mapped-unless at count (Some Spent) maps (λ doubleword e. cc)) was)
  read-seen at count (Err WireFault) maps was =
      read-part-seen at count (read-refused-spelled 8 1024 direct_sizes seen Stands IsDirectLine Ready IsPositiveLine
      ran (Reached ran touched) (DirectOne next_line) (DirectRefused next_line lost_line) none_reached then_reached
      one_reaches refused_reaches at count PortFault a b valid tt
      (mapped-unless at count (Some WireFault) maps (λ doubleword e. cc)) was)
  read-seen at count (Err (CmdErr number)) maps was =
      read-refused-spelled 8 1024 direct_sizes seen Stands IsDirectLine Ready IsPositiveLine
      ran (Reached ran touched) (DirectOne next_line) (DirectRefused next_line lost_line) none_reached then_reached
      one_reaches refused_reaches at count (PortError number) a b valid tt
      (mapped-unless at count (Some (CmdErr number)) maps (λ doubleword e. cc)) was

  write-part-seen : (at : ℕ) (bytes : List ℕ)
      → WriteUntil seen Stands Ready IsPositiveLine ran (Reached ran touched) 8 at bytes a b
      → SeenWritten (seen a) at bytes (Err Spent) (seen b)
  write-part-seen at bytes w = record {
    accesses = w.accesses;
    more = w.more;
    spell = w.spell;
    is_one = w.is_one;
    last = w.last;
    path = w.path;
    stands_so = w.stands_so;
  }

  write-seen : (at : ℕ) (bytes : List ℕ) (r : Result Unit MemStop) → Maps at (length bytes) (result_err r)
      → AreSmall bytes
      → WritesRange (DirectOne next_line) (DirectRefused next_line lost_line) 8 1024 at bytes r a b
      → SeenWritten (seen a) at bytes r (seen b)
  write-seen at bytes (Ok done) maps small was =
      let w = write-spelled 8 1024 direct_sizes seen Stands IsDirectLine Ready IsPositiveLine ran (Reached ran touched)
      (DirectOne next_line) (DirectRefused next_line lost_line) none_reached then_reached one_reaches refused_reaches
      at bytes a b valid tt (mapped-unless at (length bytes) None maps (λ doubleword e. cc)) was in
      record {
        accesses = w.accesses;
        spell = w.spell;
        is_one = w.is_one;
        path = w.path;
        behind_a_step = λ no some. absurd no;
        still = tt;
      }
  write-seen at bytes (Err (Unmapped place)) maps small was = ap seen was
  write-seen at bytes (Err Spent) maps small was =
      let mapped = mapped-unless at (length bytes) (Some Spent) maps (λ doubleword e. cc) in
      write-part-seen at bytes (write-refused-spelled 8 1024 direct_sizes seen Stands IsDirectLine Ready IsPositiveLine
      ran (Reached ran touched) (DirectOne next_line) (DirectRefused next_line lost_line) none_reached then_reached
      one_reaches refused_reaches at bytes PortSpent a b small valid tt mapped was)
  write-seen at bytes (Err WireFault) maps small was =
      let mapped = mapped-unless at (length bytes) (Some WireFault) maps (λ doubleword e. cc) in
      write-part-seen at bytes (write-refused-spelled 8 1024 direct_sizes seen Stands IsDirectLine Ready IsPositiveLine
      ran (Reached ran touched) (DirectOne next_line) (DirectRefused next_line lost_line) none_reached then_reached
      one_reaches refused_reaches at bytes PortFault a b small valid tt mapped was)
  write-seen at bytes (Err (CmdErr number)) maps small was =
      let mapped = mapped-unless at (length bytes) (Some (CmdErr number)) maps (λ doubleword e. cc) in
      write-refused-spelled 8 1024 direct_sizes seen Stands IsDirectLine Ready IsPositiveLine
      ran (Reached ran touched) (DirectOne next_line) (DirectRefused next_line lost_line) none_reached then_reached
      one_reaches refused_reaches at bytes (PortError number) a b small valid tt mapped was

-- ---- the line goes on
goes-kept : (n : ℕ) (a b : Lined) → (a.target.turns ≤ a.target.limit → b.target.turns ≤ b.target.limit)
    → IsTarget Direct b.target × TurnsKept n a.target b.target → GoesOn a b
goes-kept n a b within k = record {
  valid = k.0;
  limit = k.1.limit;
  pauses = k.1.pauses;
  later = omega (arith, k.1.turns);
  within = within;
}

goes-same : (a b : Lined) → IsDirectLine a → b ≡ a → GoesOn a b
goes-same a b valid same =
    let here : GoesOn a a =
    record { valid = valid; limit = refl; pauses = refl; later = omega arith; within = λ less. less } in
    subst (λ (l : Lined). GoesOn a l) (sym same) here

goes-lined : {T : Type 0} (r : Result T MemStop) (a b : Lined) → IsDirectLine a
    → (a.target.turns ≤ a.target.limit → b.target.turns ≤ b.target.limit) → RangeLined r a b → GoesOn a b
goes-lined (Ok done) a b valid within lines =
    goes-kept lines.0 a b within (lines_join.keep lines.0 a b valid lines.1)
goes-lined (Err (Unmapped place)) a b valid within lines =
    goes-kept 0 a b within (lines_join.keep 0 a b valid lines)
goes-lined (Err Spent) a b valid within lines =
    goes-kept lines.0 a b within (lines_join.keep lines.0 a b valid lines.1)
goes-lined (Err WireFault) a b valid within lines =
    goes-kept (lines.0 + 1) a b within (lines_join.keep_lost lines.0 a b valid lines.1)
goes-lined (Err (CmdErr number)) a b valid within lines = absurd lines

goes-then : (a b c : Lined) → GoesOn a b → GoesOn b c → GoesOn a c
goes-then a b c one two = record {
  valid = two.valid;
  limit = two.limit ∙ one.limit;
  pauses = two.pauses ∙ one.pauses;
  later = omega (arith, one.later, two.later);
  within = λ less. two.within (one.within less);
}

-- what a move of a range leaves, and what is seen of it
module _ (start : Lined) where
  -- from this line on, and what is seen there
  abbrev Means : Lined → System → Type 0
  Means line sys = GoesOn start line × (sys ≡ seen line)

  on_read : (x x' : Lined) (y : System) (at count : ℕ) (r : Result (List ℕ) MemStop) → Means x y
      → LineRead x at count r x' → (y' : System) × Means x' y' × SeenRead y at count r y'
  on_read x x' y at count r m d =
      let goes = goes-lined r x x' m.0.valid d.keeps.within
      (ranges_are_lines.reads at count r x x' m.0.valid.link_is d.keeps.maps d.made) in
      let done = read-seen x x' m.0.valid at count r d.keeps.maps d.made in (
        seen x',
        (goes-then start x x' m.0 goes, refl),
        subst (λ (z : System). SeenRead z at count r (seen x')) (sym m.1) done,
      )

  on_write : (x x' : Lined) (y : System) (at : ℕ) (bytes : List ℕ) (r : Result Unit MemStop) → Means x y
      → LineWritten x at bytes r x' → (y' : System) × Means x' y' × SeenWritten y at bytes r y'
  on_write x x' y at bytes r m d =
      let goes = goes-lined r x x' m.0.valid d.keeps.within
      (ranges_are_lines.writes at bytes r x x' m.0.valid.link_is d.keeps.maps d.made) in
      let done = write-seen x x' m.0.valid at bytes r d.keeps.maps d.are_bytes d.made in (
        seen x',
        (goes-then start x x' m.0 goes, refl),
        subst (λ (z : System). SeenWritten z at bytes r (seen x')) (sym m.1) done,
      )

pub lines_are_seen : LinesAreSeen
lines_are_seen t s s' r valid p =
    let over = played-over line_acts (λ y at count q y'. SeenRead y at count q y')
    (λ y at bytes q y'. SeenWritten y at bytes q y') (Means s.port) (on_read s.port) (on_write s.port) (seen s.port)
    (goes-same s.port s.port valid refl, refl) p in (
      over.1.0,
      subst (λ (z : System). Played seen_acts t (seen_at s) r (moved z s')) over.1.1 over.2,
    )
