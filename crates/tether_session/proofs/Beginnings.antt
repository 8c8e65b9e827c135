-- Ranges that are written one after the other are their text.
use Rattle.std.proofs.Common.{◌≡◌, ◌<◌, ◌+◌, ℕ, zero, suc, List, [], ◌∷◌, ◌++◌, length, drop, refl}
use Rattle.std.proofs.Common.{sym, ap, subst, arith}
use Rattle.std.specs.Prelude.{Result, Ok, Err, map}
use Rattle.std.specs.Int.{to_le_bytes, w64}
use Rattle.chunk_memory.specs.declared.stops.MemStop.{MemStop}
use Rattle.elf_loader.specs.Segment.{Segment, segment_at}
use Rattle.elf_loader.specs.declared.image.Image.{Image}
use Rattle.fe_base.specs.MemoryMap.{boot, kernel_start, start_word}
use Rattle.host_text.specs.Played.{ended, has_written, write_stopped}
use Rattle.host_text.specs.Text.{Done, Write}
use Rattle.htif_mailbox.specs.Turns.{Mail}
use Rattle.htif_mailbox.specs.declared.answers.MailFault.TheVariants.{Port}
use Rattle.htif_mailbox.specs.declared.answers.Turned.TheVariants.{Idle}
use Rattle.target_box.specs.Lined.{Lined}
use Rattle.tether_base.specs.Texts.{Range, boot_block, load_text, loads_of, segment_range}
use Rattle.tether_base.specs.ToldActs.{LineWritten}
use Rattle.tether_run.specs.Sessions.{begin_text}
use Rattle.tether_session.specs.Begins.{Begins, Leads, Loads, Refuses}

-- nothing was written yet
pub leads-none : (all : Mail) (start : Lined) → Leads all start all start
leads-none all start s now r played = played

-- one range more
pub leads-on : (all rest : Mail) (place : ℕ) (bytes : List ℕ) (start line next : Lined)
    → Leads all start (Write place bytes Port rest) line → LineWritten line place bytes (Ok tt) next
    → Leads all start rest next
leads-on all rest place bytes start line next so_far one s now r played = so_far s now r (has_written one played)

-- a range was refused
pub leads-off : (all rest : Mail) (place : ℕ) (bytes : List ℕ) (why : MemStop) (start line next : Lined)
    → Leads all start (Write place bytes Port rest) line → LineWritten line place bytes (Err why) next
    → Refuses all start why next
leads-off all rest place bytes why start line next so_far one s =
    so_far s (record s { port = next }) (Err (Port why)) (write_stopped one refl refl)

-- the front of the list that is left
pub next-segment : (segments : List Segment) (i : ℕ) → i < length segments
    → drop i segments ≡ segment_at segments i ∷ drop (suc i) segments
next-segment [] i less = absurd (omega (arith, less))
next-segment (segment ∷ more) zero less = refl
next-segment (segment ∷ more) (suc i) less = next-segment more i (omega (arith, less))

-- some of the segments were written
abbrev pub Written : List Segment → ℕ → Lined → Lined → Type 0
Written segments i start line =
    (rest : Mail) → Leads (load_text (map segment_range segments) rest) start
    (load_text (map segment_range (drop i segments)) rest) line

pub segments-none : (segments : List Segment) (line : Lined) → Written segments 0 line line
segments-none [] line rest = leads-none (load_text [] rest) line
segments-none (segment ∷ more) line rest = leads-none (load_text (map segment_range (segment ∷ more)) rest) line

-- a range that was written is that of a segment
of-segment : (segment : Segment) (line next : Lined) (r : Result Unit MemStop) (place : ℕ) (bytes : List ℕ)
    → place ≡ segment.address → bytes ≡ segment.bytes → LineWritten line place bytes r next
    → LineWritten line segment.address segment.bytes r next
of-segment segment line next r place bytes place_is bytes_are one =
    subst (λ (n : ℕ). LineWritten line n segment.bytes r next) place_is
    (subst (λ (l : List ℕ). LineWritten line place l r next) bytes_are one)

-- the text of what is left begins with the next segment
next-text : (segments : List Segment) (i : ℕ) (start line : Lined) (rest : Mail) → i < length segments
    → Written segments i start line
    → Leads (load_text (map segment_range segments) rest) start
    (load_text (map segment_range (segment_at segments i ∷ drop (suc i) segments)) rest) line
next-text segments i start line rest less so_far =
    subst (λ (l : List Segment). Leads (load_text (map segment_range segments) rest) start
    (load_text (map segment_range l) rest) line) (next-segment segments i less) (so_far rest)

pub segments-on : (segments : List Segment) (i : ℕ) (start line next : Lined) (place : ℕ) (bytes : List ℕ)
    → i < length segments → place ≡ (segment_at segments i).address → bytes ≡ (segment_at segments i).bytes
    → Written segments i start line → LineWritten line place bytes (Ok tt) next → Written segments (i + 1) start next
segments-on segments i start line next place bytes less place_is bytes_are so_far one rest =
    let segment : Segment = segment_at segments i in
    let more : suc i ≡ i + 1 = omega arith in
    subst (λ (n : ℕ). Leads (load_text (map segment_range segments) rest) start
    (load_text (map segment_range (drop n segments)) rest) next) more
    (leads-on (load_text (map segment_range segments) rest) (load_text (map segment_range (drop (suc i) segments)) rest)
    segment.address segment.bytes start line next (next-text segments i start line rest less so_far)
    (of-segment segment line next (Ok tt) place bytes place_is bytes_are one))

pub segments-off : (segments : List Segment) (i : ℕ) (why : MemStop) (start line next : Lined) (place : ℕ)
    (bytes : List ℕ) → i < length segments → place ≡ (segment_at segments i).address
    → bytes ≡ (segment_at segments i).bytes → Written segments i start line
    → LineWritten line place bytes (Err why) next → Loads (map segment_range segments) start (Err why) next
segments-off segments i why start line next place bytes less place_is bytes_are so_far one rest =
    let segment : Segment = segment_at segments i in
    leads-off (load_text (map segment_range segments) rest) (load_text (map segment_range (drop (suc i) segments)) rest)
    segment.address segment.bytes why start line next (next-text segments i start line rest less so_far)
    (of-segment segment line next (Err why) place bytes place_is bytes_are one)

-- a refusal of the port is the answer
pub loads-as : (ranges : List Range) (start line : Lined) {r : Result Unit MemStop} (why : MemStop) → r ≡ Err why
    → Loads ranges start (Err why) line → Loads ranges start r line
loads-as ranges start line why is loads =
    subst (λ (r : Result Unit MemStop). Loads ranges start r line) (sym is) loads

pub begins-as : (ranges : List Range) (start line : Lined) {r : Result Unit MemStop} (why : MemStop) → r ≡ Err why
    → Refuses (begin_text ranges) start why line → Begins ranges start r line
begins-as ranges start line why is refuses =
    subst (λ (r : Result Unit MemStop). Begins ranges start r line) (sym is) refuses

drop-all : (segments : List Segment) (i : ℕ) → i ≡ length segments → drop i segments ≡ []
drop-all [] i is = cc
drop-all (segment ∷ more) zero is = absurd (omega (arith, is))
drop-all (segment ∷ more) (suc i) is = drop-all more i (omega (arith, is))

pub segments-end : (segments : List Segment) (i : ℕ) (start line : Lined) → i ≡ length segments
    → Written segments i start line → Loads (map segment_range segments) start (Ok tt) line
segments-end segments i start line is so_far rest =
    subst (λ (l : List Segment). Leads (load_text (map segment_range segments) rest) start
    (load_text (map segment_range l) rest) line) (drop-all segments i is) (so_far rest)

-- ---- all that is written before the first host turn
leads-then : (all middle rest : Mail) (start line next : Lined) → Leads all start middle line
    → Leads middle line rest next → Leads all start rest next
leads-then all middle rest start line next first second s now r played =
    first s now r (second s now r played)

refused-then : (all middle : Mail) (why : MemStop) (start line next : Lined) → Leads all start middle line
    → Refuses middle line why next → Refuses all start why next
refused-then all middle why start line next first second s =
    first s (record s { port = next }) (Err (Port why)) (second s)

-- ranges behind ranges
load-joined : (front back : List Range) (rest : Mail)
    → load_text (front ++ back) rest ≡ load_text front (load_text back rest)
load-joined [] back rest = refl
load-joined (range ∷ more) back rest = ap (λ (t : Mail). Write range.at range.bytes Port t) (load-joined more back rest)

-- the last two writes, and what comes behind
abbrev start_text : Mail
start_text = Write start_word (to_le_bytes w64 1) Port (Done Idle)

abbrev boot_text : Image → Mail
boot_text image = Write boot (boot_block image) Port start_text

abbrev segments_of : Image → List Range
segments_of image = map segment_range image.segments

-- a range that was written stands at this place and has these bytes
pub same-range : {r : Result Unit MemStop} (place other : ℕ) (bytes others : List ℕ) (line next : Lined)
    → place ≡ other → bytes ≡ others → LineWritten line place bytes r next → LineWritten line other others r next
same-range {r = r} place other bytes others line next place_is bytes_are one =
    subst (λ (n : ℕ). LineWritten line n others r next) place_is
    (subst (λ (l : List ℕ). LineWritten line place l r next) bytes_are one)

module _ (kernel : List ℕ) (image : Image) (start : Lined) (base : ℕ) (held : List ℕ) (base_is : base ≡ kernel_start)
    (held_is : held ≡ kernel) where
  abbrev all : Mail
  all = begin_text (loads_of kernel image)

  pub kernel-off : (why : MemStop) (line : Lined) → LineWritten start base held (Err why) line
      → Refuses all start why line
  kernel-off why line one =
      leads-off all (load_text (segments_of image ++ record { at = boot; bytes = boot_block image } ∷ []) start_text)
      kernel_start kernel why start start line (leads-none all start)
      (same-range base kernel_start held kernel start line base_is held_is one)

  kernel-on : (line : Lined) → LineWritten start base held (Ok tt) line
      → Leads all start (load_text (segments_of image) (boot_text image)) line
  kernel-on line one =
      subst (λ (t : Mail). Leads all start t line)
      (load-joined (segments_of image) (record { at = boot; bytes = boot_block image } ∷ []) start_text)
      (leads-on all (load_text (segments_of image ++ record { at = boot; bytes = boot_block image } ∷ []) start_text)
      kernel_start kernel start start line (leads-none all start)
      (same-range base kernel_start held kernel start line base_is held_is one))

  pub loads-off : (why : MemStop) (line next : Lined) → LineWritten start base held (Ok tt) line
      → Loads (segments_of image) line (Err why) next → Refuses all start why next
  loads-off why line next one loads =
      refused-then all (load_text (segments_of image) (boot_text image)) why start line next (kernel-on line one)
      (loads (boot_text image))

  loads-on : (line next : Lined) → LineWritten start base held (Ok tt) line
      → Loads (segments_of image) line (Ok tt) next → Leads all start (boot_text image) next
  loads-on line next one loads =
      leads-then all (load_text (segments_of image) (boot_text image)) (boot_text image) start line next
      (kernel-on line one) (loads (boot_text image))

  pub boot-off : (block : List ℕ) (why : MemStop) (line next last : Lined) → block ≡ boot_block image
      → LineWritten start base held (Ok tt) line → Loads (segments_of image) line (Ok tt) next
      → LineWritten next boot block (Err why) last → Refuses all start why last
  boot-off block why line next last block_is one loads two =
      leads-off all start_text boot (boot_block image) why start next last (loads-on line next one loads)
      (same-range boot boot block (boot_block image) next last refl block_is two)

  boot-on : (block : List ℕ) (line next last : Lined) → block ≡ boot_block image
      → LineWritten start base held (Ok tt) line → Loads (segments_of image) line (Ok tt) next
      → LineWritten next boot block (Ok tt) last → Leads all start start_text last
  boot-on block line next last block_is one loads two =
      leads-on all start_text boot (boot_block image) start next last (loads-on line next one loads)
      (same-range boot boot block (boot_block image) next last refl block_is two)

  pub begins : (block word : List ℕ) (line next last end : Lined) (r : Result Unit MemStop) → block ≡ boot_block image
      → word ≡ to_le_bytes w64 1 → LineWritten start base held (Ok tt) line
      → Loads (segments_of image) line (Ok tt) next → LineWritten next boot block (Ok tt) last
      → LineWritten last start_word word r end → Begins (loads_of kernel image) start r end
  begins block word line next last end (Ok tt) block_is word_is one loads two three = λ s.
      leads-on all (Done Idle) start_word (to_le_bytes w64 1) start last end
      (boot-on block line next last block_is one loads two)
      (same-range start_word start_word word (to_le_bytes w64 1) last end refl word_is three)
      s (record s { port = end }) (Ok Idle) (ended refl refl)
  begins block word line next last end (Err why) block_is word_is one loads two three =
      leads-off all (Done Idle) start_word (to_le_bytes w64 1) why start last end
      (boot-on block line next last block_is one loads two)
      (same-range start_word start_word word (to_le_bytes w64 1) last end refl word_is three)
