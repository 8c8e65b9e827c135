-- The lines of beats, of chunks and of ranges.
use Rattle.std.proofs.Common.{◌≡◌, ◌≤◌, ◌<◌, ◌+◌, ◌-◌, ◌*◌, ◌%◌, ℕ, zero, suc, Bool, true, false, List, [], ◌∷◌}
use Rattle.std.proofs.Common.{◌++◌, length, drop, length-drop, Option, Some, None, Result, Ok, Err}
use Rattle.std.proofs.Common.{refl, sym, ap, subst, ◌∙◌, arith}
use Rattle.std.specs.Prelude.{⊤}
use Rattle.std.specs.Result.{result_err}
use Rattle.fe_base.specs.Beats.{Beat, ReadBeat, WriteBeat, IsBeat}
use Rattle.fe_base.specs.MemoryMap.{is_mapped}
use Rattle.chunk_memory.proofs.ReadSpelled.{step-asked}
use Rattle.chunk_memory.proofs.SizeLemmas.{mapped-rest, step-fits}
use Rattle.chunk_memory.proofs.WriteSpelled.{whole-asked, part-asked, put-size}
use Rattle.chunk_memory.specs.BeatChunks.{AreDoublewords, BeatsRead, BeatsWritten, BeatStopped, DirectOne}
use Rattle.chunk_memory.specs.BeatChunks.{DirectRefused}
use Rattle.chunk_memory.specs.BeatLaws.{direct_sizes, is-beat, mapped-behind, length-bytes_of, fit-at, fit-front}
use Rattle.chunk_memory.specs.Ports.{Maps}
use Rattle.chunk_memory.specs.Ranges.{Meets, IsMappedRange, IsFirstUnmapped}
use Rattle.chunk_memory.specs.Reached.{IsAsked}
use Rattle.chunk_memory.specs.Transactions.{Chunk, ReadChunk, WriteChunk, ReadChunks, WriteChunks, Made, Cut}
use Rattle.chunk_memory.specs.Transactions.{WasReadUntil, WasWrittenUntil, step_size}
use Rattle.chunk_memory.specs.declared.stops.MemStop.{MemStop}
use Rattle.chunk_memory.specs.declared.stops.MemStop.TheVariants.{Unmapped, Spent, WireFault, CmdErr}
use Rattle.chunk_memory.specs.declared.stops.PortStop.{PortStop}
use Rattle.chunk_memory.specs.declared.stops.PortStop.TheVariants.{Spent as PortSpent, WireFault as PortFault}
use Rattle.chunk_memory.specs.declared.stops.PortStop.TheVariants.{CmdErr as PortError}
use Rattle.direct_ranges.specs.RangeLines.{SomeLines, SomeCutLines, RangeLined, RangesAreLines}
use Rattle.target_box.proofs.JoinProofs.{lines_join}
use Rattle.target_box.specs.Lined.{Lined, next_line, lost_line}
use Rattle.target_box.specs.TurnLaws.{AreLines}
use Rattle.target_box.specs.declared.target.Link.TheVariants.{Direct}

-- ---- lines of a line to a target of the direct link, which stays one
pub record Lines (before after : Lined) : Type 0 where
  pub lines : SomeLines before after
  pub direct : after.target.link ≡ Direct

no-lines : (before after : Lined) → before.target.link ≡ Direct → after ≡ before → Lines before after
no-lines before after direct same =
    let here : Lines before before = record { lines = (0, lines_join.none before); direct = direct } in
    subst (λ (l : Lined). Lines before l) (sym same) here

lines-then : (a b c : Lined) → Lines a b → Lines b c → Lines a c
lines-then a b c first second =
    record {
      lines = (
        first.lines.0 + second.lines.0,
        lines_join.joined first.lines.0 second.lines.0 a b c first.lines.1 second.lines.1,
      );
      direct = second.direct;
    }

cut-then : (a b c : Lined) → Lines a b → SomeCutLines b c → SomeCutLines a c
cut-then a b c first second = (
  first.lines.0 + second.0,
  lines_join.joined_lost first.lines.0 second.0 a b c first.lines.1 second.1,
)

one-line : (before after : Lined) (ask : Beat) (reply : ℕ) → before.target.link ≡ Direct → IsBeat ask
    → next_line before ask ≡ (after, reply) → Lines before after
one-line before after ask reply direct allowed same =
    let here : Lines before (next_line before ask).0 =
    record { lines = (1, lines_join.one before ask direct allowed); direct = direct } in
    subst (λ (r : Lined × ℕ). Lines before r.0) same here

one-lost : (before after : Lined) (ask : Beat) → before.target.link ≡ Direct → IsBeat ask → after
    ≡ (lost_line before ask).0 → SomeCutLines before after
one-lost before after ask direct allowed same =
    let here : SomeCutLines before (lost_line before ask).0 = (0, lines_join.one_lost before ask direct allowed) in
    subst (λ (l : Lined). SomeCutLines before l) (sym same) here

-- ---- beats
eight-fewer : (at count : ℕ) → IsMappedRange at (8 * suc count) → IsMappedRange (at + 8) (8 * count)
eight-fewer at count mapped =
    let left : 8 * suc count - 8 ≡ 8 * count = omega arith in
    subst (λ (n : ℕ). IsMappedRange (at + 8) n) left (mapped-behind at (8 * suc count) 8 mapped (omega arith))

beats-read : (at : ℕ) (values : List ℕ) (before after : Lined) → before.target.link ≡ Direct → at % 8 ≡ 0
    → IsMappedRange at (8 * length values)
    → BeatsRead next_line before at values after → Lines before after
beats-read at [] before after direct even mapped made = no-lines before after direct made
beats-read at (value ∷ more) before after direct even mapped made =
    let first = one-line before made.0 (ReadBeat at) value direct
    (is-beat at (8 * suc (length more)) even (omega arith) mapped) made.1 in
    lines-then before made.0 after first
    (beats-read (at + 8) more made.0 after first.direct (omega arith) (eight-fewer at (length more) mapped) made.2)

beats-written : (at : ℕ) (values : List ℕ) (before after : Lined) → before.target.link ≡ Direct → at % 8 ≡ 0
    → IsMappedRange at (8 * length values) → AreDoublewords values
    → BeatsWritten next_line before at values after → Lines before after
beats-written at [] before after direct even mapped fit made = no-lines before after direct made
beats-written at (value ∷ more) before after direct even mapped fit made =
    let first = one-line before made.0 (WriteBeat at value) 0 direct
    (is-beat at (8 * suc (length more)) even (omega arith) mapped, fit.0) made.1 in
    lines-then before made.0 after first
    (beats-written (at + 8) more made.0 after first.direct (omega arith)
    (eight-fewer at (length more) mapped) fit.1 made.2)

-- ---- chunks
-- the lines of what came to an end with a refusal
abbrev StoppedLines : PortStop → Lined → Lined → Type 0
StoppedLines PortSpent before after = SomeLines before after
StoppedLines PortFault before after = SomeCutLines before after
StoppedLines (PortError number) before after = ⊥

stopped-then : (stop : PortStop) (a b c : Lined) → Lines a b → StoppedLines stop b c → StoppedLines stop a c
stopped-then PortSpent a b c first second =
    (first.lines.0 + second.0, lines_join.joined first.lines.0 second.0 a b c first.lines.1 second.1)
stopped-then PortFault a b c first second = cut-then a b c first second
stopped-then (PortError number) a b c first second = second

beat-stopped : (stop : PortStop) (ask : Beat) (before after : Lined) → before.target.link ≡ Direct → IsBeat ask
    → BeatStopped next_line lost_line ask stop before after → StoppedLines stop before after
beat-stopped PortSpent ask before after direct allowed stopped = (no-lines before after direct stopped).lines
beat-stopped PortFault ask before after direct allowed stopped = one-lost before after ask direct allowed stopped
beat-stopped (PortError number) ask before after direct allowed stopped = stopped

front-mapped : (at count some : ℕ) → IsMappedRange at count → some ≤ count → IsMappedRange at some
front-mapped at count some mapped less doubleword meets =
    mapped doubleword (record {
      some = omega (arith, meets.some);
      aligned = meets.aligned;
      above = meets.above;
      below = omega (arith, meets.below);
    })

-- a doubleword behind some of a chunk's
next-beat : (at count done : ℕ) → at % 8 ≡ 0 → count % 8 ≡ 0 → IsMappedRange at count → 8 * done < count → (rest : ℕ)
    → rest ≡ count - 8 * done → IsMappedRange (at + 8 * done) rest
next-beat at count done even whole mapped less rest is =
    subst (λ (n : ℕ). IsMappedRange (at + 8 * done) n) (sym is) (mapped-behind at count (8 * done) mapped (omega arith))

one-chunk : (chunk : Chunk) (before after : Lined) → before.target.link ≡ Direct → IsAsked 8 1024 chunk
    → DirectOne next_line before chunk after → Lines before after
one-chunk (ReadChunk at bytes) before after direct asked one =
    let count : length bytes ≡ 8 * length one.values =
    ap (λ (l : List ℕ). length l) one.bytes_are ∙ length-bytes_of one.values in
    beats-read at one.values before after direct asked.aligned
    (subst (λ (n : ℕ). IsMappedRange at n) count asked.mapped) one.made
one-chunk (WriteChunk at bytes) before after direct asked one =
    let count : length bytes ≡ 8 * length one.values =
    ap (λ (l : List ℕ). length l) one.bytes_are ∙ length-bytes_of one.values in
    beats-written at one.values before after direct asked.aligned
    (subst (λ (n : ℕ). IsMappedRange at n) count asked.mapped) one.fit one.made

refused-chunk : (chunk : Chunk) (stop : PortStop) (before after : Lined) → before.target.link ≡ Direct
    → IsAsked 8 1024 chunk → DirectRefused next_line lost_line before chunk stop after
    → StoppedLines stop before after
refused-chunk (ReadChunk at bytes) stop before after direct asked cut =
    let done : ℕ = length cut.values in
    let first = beats-read at cut.values before cut.between direct asked.aligned
    (front-mapped at (length bytes) (8 * done) asked.mapped (omega (arith, cut.some_left))) cut.made in
    let rest : IsMappedRange (at + 8 * done) (length bytes - 8 * done) =
    mapped-behind at (length bytes) (8 * done) asked.mapped (omega (arith, cut.some_left)) in
    let here = is-beat (at + 8 * done) (length bytes - 8 * done) (omega (arith, asked.aligned))
    (omega (arith, asked.whole, cut.some_left)) rest in
    stopped-then stop before cut.between after first
    (beat-stopped stop (ReadBeat (at + 8 * done)) cut.between after first.direct here cut.stopped)
refused-chunk (WriteChunk at bytes) stop before after direct asked cut =
    let done : ℕ = length cut.values in
    let all : length bytes ≡ 8 * length (cut.values ++ cut.value ∷ cut.more) =
    ap (λ (l : List ℕ). length l) cut.bytes_are ∙ length-bytes_of (cut.values ++ cut.value ∷ cut.more) in
    let split = Rattle.std.proofs.Common.length-append cut.values (cut.value ∷ cut.more) in
    let some_left : 8 * done + 8 ≤ length bytes = omega (arith, all, split) in
    let first = beats-written at cut.values before cut.between direct asked.aligned
    (front-mapped at (length bytes) (8 * done) asked.mapped (omega (arith, some_left)))
    (fit-front cut.values (cut.value ∷ cut.more) cut.fit) cut.made in
    let rest : IsMappedRange (at + 8 * done) (length bytes - 8 * done) =
    mapped-behind at (length bytes) (8 * done) asked.mapped (omega (arith, some_left)) in
    let here = is-beat (at + 8 * done) (length bytes - 8 * done) (omega (arith, asked.aligned))
    (omega (arith, some_left)) rest in
    stopped-then stop before cut.between after first
    (beat-stopped stop (WriteBeat (at + 8 * done) cut.value) cut.between after first.direct
    (here, fit-at cut.values cut.value cut.more cut.fit) cut.stopped)

-- ---- lists of chunks
abbrev AreAsked : List Chunk → Type 0
AreAsked [] = ⊤
AreAsked (chunk ∷ more) = IsAsked 8 1024 chunk × AreAsked more

asked-front : (xs ys : List Chunk) → AreAsked (xs ++ ys) → AreAsked xs
asked-front [] ys asked = tt
asked-front (x ∷ xs) ys asked = (asked.0, asked-front xs ys asked.1)

rest-mapped : (at : ℕ) (bytes : List ℕ) → 0 < length bytes → IsMappedRange at (length bytes)
    → IsMappedRange (at + step_size 8 1024 at (length bytes)) (length (drop (step_size 8 1024 at (length bytes)) bytes))
rest-mapped at bytes some mapped =
    let size : ℕ = step_size 8 1024 at (length bytes) in
    let fits = step-fits 8 1024 at (length bytes) direct_sizes some in
    subst (λ (n : ℕ). IsMappedRange (at + size) n) (sym (length-drop size bytes))
    (mapped-rest at (length bytes) size mapped fits.within)

read-asked : (at : ℕ) (bytes : List ℕ) (chunks : List Chunk) → IsMappedRange at (length bytes)
    → ReadChunks 8 1024 at bytes chunks → AreAsked chunks
read-asked at bytes [] mapped are = tt
read-asked at bytes (ReadChunk place got ∷ more) mapped are = (
  step-asked 8 1024 at bytes place got direct_sizes mapped are.0,
  read-asked (at + step_size 8 1024 at (length bytes)) (drop (step_size 8 1024 at (length bytes)) bytes) more
      (rest-mapped at bytes are.0.some mapped) are.1,
)
read-asked at bytes (WriteChunk place put ∷ more) mapped are = absurd are

write-asked : (at : ℕ) (bytes : List ℕ) (chunks : List Chunk) → IsMappedRange at (length bytes)
    → WriteChunks 8 1024 at bytes chunks → AreAsked chunks
write-asked at bytes [] mapped are = tt
write-asked at bytes (WriteChunk place put ∷ more) mapped are = (
  whole-asked 8 1024 direct_sizes at bytes place put mapped are.0,
  write-asked (at + step_size 8 1024 at (length bytes)) (drop (step_size 8 1024 at (length bytes)) bytes) more
      (rest-mapped at bytes are.0.some mapped) are.1,
)
write-asked at bytes (ReadChunk read_place old ∷ []) mapped are = absurd are
write-asked at bytes (ReadChunk read_place old ∷ ReadChunk place put ∷ more) mapped are = absurd are
write-asked at bytes (ReadChunk read_place old ∷ WriteChunk place put ∷ more) mapped are =
    let size : ℕ = step_size 8 1024 at (length bytes) in
    let step = are.0 in
    let rest : AreAsked more =
    write-asked (at + size) (drop size bytes) more (rest-mapped at bytes step.some mapped) are.1 in
    let read : IsAsked 8 1024 (ReadChunk read_place old) =
    part-asked 8 1024 direct_sizes at (length bytes) read_place (length old) mapped step.some step.read_place_is step.size
    in
    let write : IsAsked 8 1024 (WriteChunk place put) =
    part-asked 8 1024 direct_sizes at (length bytes) place (length put) mapped step.some step.place_is
    (put-size 8 1024 direct_sizes at bytes read_place old place put step) in
    (read, (write, rest))

made-lines : (chunks : List Chunk) (before after : Lined) → before.target.link ≡ Direct → AreAsked chunks
    → Made (DirectOne next_line) before chunks after → Lines before after
made-lines [] before after direct asked made = no-lines before after direct made
made-lines (chunk ∷ more) before after direct asked made =
    let first = one-chunk chunk before made.0 direct asked.0 made.1 in
    lines-then before made.0 after first (made-lines more made.0 after first.direct asked.1 made.2)

last-asked : (xs : List Chunk) (last : Chunk) → AreAsked (xs ++ last ∷ []) → IsAsked 8 1024 last
last-asked [] last asked = asked.0
last-asked (x ∷ xs) last asked = last-asked xs last asked.1

cut-lines : (chunks : List Chunk) (stop : PortStop) (before after : Lined) → before.target.link ≡ Direct
    → AreAsked chunks
    → Cut (DirectOne next_line) (DirectRefused next_line lost_line) before chunks stop after
    → StoppedLines stop before after
cut-lines chunks stop before after direct asked cut =
    let here : AreAsked (cut.done ++ cut.last ∷ []) = subst AreAsked cut.all asked in
    let first = made-lines cut.done before cut.between direct (asked-front cut.done (cut.last ∷ []) here) cut.made in
    stopped-then stop before cut.between after first
    (refused-chunk cut.last stop cut.between after first.direct (last-asked cut.done cut.last here) cut.cut)

-- ---- ranges
-- a range of which no doubleword is the first that is not mapped is mapped
unless-first : (at count doubleword : ℕ) → ((other : ℕ) → IsFirstUnmapped at count other → ⊥)
    → Meets at count doubleword
    → ((lower : ℕ) → Meets at count lower → lower < doubleword → is_mapped lower ≡ true) → (b : Bool)
    → is_mapped doubleword ≡ b → is_mapped doubleword ≡ true
unless-first at count doubleword none meets first true same = same
unless-first at count doubleword none meets first false same =
    absurd (none doubleword (record { meets = meets; unmapped = same; first = first }))

below-mapped : (at count bound : ℕ) → ((other : ℕ) → IsFirstUnmapped at count other → ⊥) → (doubleword : ℕ)
    → Meets at count doubleword → doubleword < bound → is_mapped doubleword ≡ true
below-mapped at count zero none doubleword meets less = absurd (omega (arith, less))
below-mapped at count (suc bound) none doubleword meets less =
    unless-first at count doubleword none meets
    (λ lower here under. below-mapped at count bound none lower here (omega (arith, under, less)))
    (is_mapped doubleword) refl

all-mapped : (at count : ℕ) → ((doubleword : ℕ) → IsFirstUnmapped at count doubleword → ⊥) → IsMappedRange at count
all-mapped at count none doubleword meets = below-mapped at count (suc doubleword) none doubleword meets (omega arith)

-- an answer that is not Unmapped is that of a mapped range
pub mapped-unless : (at count : ℕ) (stop : Option MemStop) → Maps at count stop
    → ((doubleword : ℕ) → stop ≡ Some (Unmapped doubleword) → ⊥) → IsMappedRange at count
mapped-unless at count stop maps other =
    all-mapped at count (λ doubleword first. other doubleword ((maps doubleword).1 first))

read-until : (at count : ℕ) (stop : PortStop) (before after : Lined) → before.target.link ≡ Direct
    → IsMappedRange at count
    → WasReadUntil (DirectOne next_line) (DirectRefused next_line lost_line) 8 1024 at count stop before after
    → StoppedLines stop before after
read-until at count stop before after direct mapped was =
    let here : IsMappedRange at (length was.bytes) = subst (λ (n : ℕ). IsMappedRange at n) (sym was.size) mapped in
    cut-lines was.chunks stop before after direct
    (asked-front was.chunks was.more (read-asked at was.bytes (was.chunks ++ was.more) here was.are_its)) was.made

write-until : (at : ℕ) (bytes : List ℕ) (stop : PortStop) (before after : Lined) → before.target.link ≡ Direct
    → IsMappedRange at (length bytes)
    → WasWrittenUntil (DirectOne next_line) (DirectRefused next_line lost_line) 8 1024 at bytes stop before after
    → StoppedLines stop before after
write-until at bytes stop before after direct mapped was =
    cut-lines was.chunks stop before after direct
    (asked-front was.chunks was.more (write-asked at bytes (was.chunks ++ was.more) mapped was.are_its)) was.made

reads : (at count : ℕ) (result : Result (List ℕ) MemStop) (before after : Lined) → before.target.link ≡ Direct
    → Maps at count (result_err result)
    → Rattle.chunk_memory.specs.Transactions.ReadsRange (DirectOne next_line)
    (DirectRefused next_line lost_line) 8 1024 at count result before after → RangeLined result before after
reads at count (Ok bytes) before after direct maps was =
    let mapped = mapped-unless at count None maps (λ doubleword e. cc) in
    let here : IsMappedRange at (length bytes) = subst (λ (n : ℕ). IsMappedRange at n) (sym was.size) mapped in
    (made-lines was.chunks before after direct (read-asked at bytes was.chunks here was.are_its) was.made).lines
reads at count (Err (Unmapped place)) before after direct maps was =
    subst (λ (l : Lined). AreLines 0 before l) (sym was) (lines_join.none before)
reads at count (Err Spent) before after direct maps was =
    read-until at count PortSpent before after direct
    (mapped-unless at count (Some Spent) maps (λ doubleword e. cc)) was
reads at count (Err WireFault) before after direct maps was =
    read-until at count PortFault before after direct
    (mapped-unless at count (Some WireFault) maps (λ doubleword e. cc)) was
reads at count (Err (CmdErr number)) before after direct maps was =
    read-until at count (PortError number) before after direct
    (mapped-unless at count (Some (CmdErr number)) maps (λ doubleword e. cc)) was

writes : (at : ℕ) (bytes : List ℕ) (result : Result Unit MemStop) (before after : Lined) → before.target.link ≡ Direct
    → Maps at (length bytes) (result_err result)
    → Rattle.chunk_memory.specs.Transactions.WritesRange (DirectOne next_line)
    (DirectRefused next_line lost_line) 8 1024 at bytes result before after → RangeLined result before after
writes at bytes (Ok done) before after direct maps was =
    let mapped = mapped-unless at (length bytes) None maps (λ doubleword e. cc) in
    (made-lines was.chunks before after direct (write-asked at bytes was.chunks mapped was.are_its) was.made).lines
writes at bytes (Err (Unmapped place)) before after direct maps was =
    subst (λ (l : Lined). AreLines 0 before l) (sym was) (lines_join.none before)
writes at bytes (Err Spent) before after direct maps was =
    write-until at bytes PortSpent before after direct
    (mapped-unless at (length bytes) (Some Spent) maps (λ doubleword e. cc)) was
writes at bytes (Err WireFault) before after direct maps was =
    write-until at bytes PortFault before after direct
    (mapped-unless at (length bytes) (Some WireFault) maps (λ doubleword e. cc)) was
writes at bytes (Err (CmdErr number)) before after direct maps was =
    write-until at bytes (PortError number) before after direct
    (mapped-unless at (length bytes) (Some (CmdErr number)) maps (λ doubleword e. cc)) was

pub ranges_are_lines : RangesAreLines
ranges_are_lines = record { reads = reads; writes = writes }
