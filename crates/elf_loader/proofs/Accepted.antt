-- A file with no fault has none in any row, so its image may be run.
use Rattle.std.proofs.Common.{◌≡◌, ◌∙◌, ◌≤◌, ℕ, zero, suc, ◌+◌, Bool, true, false, ◌&&◌, ◌||◌, List, [], ◌∷◌, ◌++◌}
use Rattle.std.proofs.Common.{length, drop, Option, Some, None, map, filter, refl, ap, sym, subst, arith, length-take}
use Rattle.std.specs.Prelude.{All, AllPairs, not, option_map}
use Rattle.std.specs.Option.{option_or}
use Rattle.std.specs.List.{list_any, position_from}
use Rattle.std.proofs.lemmas.Bool.Decides.{nat_tests}
use Rattle.elf_loader.specs.Ranges.{is_in_range, ranges_meet}
use Rattle.elf_loader.specs.Rules.{Rules, is_inside}
use Rattle.elf_loader.specs.declared.area.Area.{Area}
use Rattle.elf_loader.specs.Segment.{Segment, holds, meets}
use Rattle.elf_loader.specs.ProgramHeader.{is_segment, is_dynamic, is_cut, is_outside, segments_meet, segment_holds}
use Rattle.elf_loader.specs.ProgramHeader.{segment_of_header}
use Rattle.elf_loader.specs.Faults.{first_fault, fault_when}
use Rattle.elf_loader.specs.ElfFile.{fault_by, identification_rows, file_header_rows, program_header_rows, entry_of}
use Rattle.elf_loader.specs.ElfFile.{headers_of, segments_of, image_of, first_meeting, IsFitSegment, IsFit}
use Rattle.elf_loader.specs.declared.header.ProgramHeader.{ProgramHeader}
use Rattle.elf_loader.specs.declared.fault.ElfFault.{ElfFault}
use Rattle.elf_loader.specs.declared.fault.ElfFault.TheVariants.{Dynamic, Segment as CutSegment, Outside, Overlap}
use Rattle.elf_loader.specs.declared.fault.ElfFault.TheVariants.{Entry}
use Rattle.elf_loader.proofs.Walks.{position-none}

-- the first fault of two lists of rows
pub first_fault-append : (xs ys : List (Option ElfFault))
    → first_fault (xs ++ ys) ≡ option_or (first_fault xs) (first_fault ys)
first_fault-append [] ys = refl
first_fault-append (None ∷ xs) ys = first_fault-append xs ys
first_fault-append (Some fault ∷ xs) ys = refl

or-assoc : {X : Type 0} (a b c : Option X) → option_or (option_or a b) c ≡ option_or a (option_or b c)
or-assoc None b c = refl
or-assoc (Some x) b c = refl

-- the last rows of a file under these rules
abbrev pub rows_of : Rules → List ℕ → List (Option ElfFault)
rows_of rules file = program_header_rows rules.areas (rules.may_enter (entry_of file)) (length file) (entry_of file)
    (headers_of file)

-- the rows of a file, in three parts
pub fault_of-parts : (rules : Rules) (file : List ℕ)
    → fault_by rules file ≡ option_or (first_fault (identification_rows file))
    (option_or (first_fault (file_header_rows file)) (first_fault (rows_of rules file)))
unfolding fault_by
fault_of-parts rules file =
    let parts = rows_of rules file in
    first_fault-append (identification_rows file ++ file_header_rows file) parts
    ∙ ap (λ o. option_or o (first_fault parts)) (first_fault-append (identification_rows file) (file_header_rows file))
    ∙ or-assoc (first_fault (identification_rows file)) (first_fault (file_header_rows file)) (first_fault parts)

-- a fault of the first part is that of the file
pub fault_of-identification : (rules : Rules) (file : List ℕ) (fault : ElfFault)
    → first_fault (identification_rows file) ≡ Some fault → fault_by rules file ≡ Some fault
fault_of-identification rules file fault here =
    fault_of-parts rules file ∙ ap (λ o. option_or o
    (option_or (first_fault (file_header_rows file)) (first_fault (rows_of rules file)))) here

-- where the first part has none, a fault of the second
pub fault_of-file_header : (rules : Rules) (file : List ℕ) (fault : ElfFault)
    → first_fault (identification_rows file) ≡ None
    → first_fault (file_header_rows file) ≡ Some fault → fault_by rules file ≡ Some fault
fault_of-file_header rules file fault before here =
    fault_of-parts rules file
    ∙ ap (λ o. option_or o (option_or (first_fault (file_header_rows file)) (first_fault (rows_of rules file)))) before
    ∙ ap (λ o. option_or o (first_fault (rows_of rules file))) here

-- where the first two parts have none, what the third has
pub fault_of-program_headers : (rules : Rules) (file : List ℕ) → first_fault (identification_rows file) ≡ None
    → first_fault (file_header_rows file) ≡ None
    → fault_by rules file ≡ first_fault (rows_of rules file)
fault_of-program_headers rules file before here =
    fault_of-parts rules file
    ∙ ap (λ o. option_or o (option_or (first_fault (file_header_rows file)) (first_fault (rows_of rules file)))) before
    ∙ ap (λ o. option_or o (first_fault (rows_of rules file))) here

or-none : {X : Type 0} (a b : Option X) → option_or a b ≡ None → (a ≡ None) × (b ≡ None)
or-none None b h = (refl, h)
or-none (Some x) b h = cc

map-none : {X Y : Type 0} (f : X → Y) (o : Option X) → option_map f o ≡ None → o ≡ None
map-none f None h = refl
map-none f (Some x) h = cc

when-none : (b : Bool) (fault : ElfFault) → fault_when b fault ≡ None → b ≡ false
when-none false fault h = refl
when-none true fault h = cc

five-none : (a b c d e : Option ElfFault) → first_fault (a ∷ b ∷ c ∷ d ∷ e ∷ []) ≡ None
    → (a ≡ None) × (b ≡ None) × (c ≡ None) × (d ≡ None) × (e ≡ None)
five-none None None None None None h = (refl, refl, refl, refl, refl)
five-none None None None None (Some fault) h = cc
five-none None None None (Some fault) e h = cc
five-none None None (Some fault) d e h = cc
five-none None (Some fault) c d e h = cc
five-none (Some fault) b c d e h = cc

either : (a b : Bool) → (not a || not b) ≡ false → (a ≡ true) × (b ≡ true)
either true true h = (refl, refl)
either true false h = cc
either false b h = cc

-- no row on the program headers holds
pub record IsSound (areas : List Area) (may_enter : Bool) (file_length entry : ℕ) (headers : List ProgramHeader)
    : Type 0 where
  pub not_cut : position_from (is_cut file_length) 0 headers ≡ None
  pub inside : position_from (is_outside areas) 0 headers ≡ None
  pub apart : first_meeting 0 headers ≡ None
  pub enters : may_enter ≡ true
  pub entered : list_any (segment_holds entry) headers ≡ true

abbrev overlap : ℕ × ℕ → ElfFault
overlap pair = Overlap pair.0 pair.1

sound : (areas : List Area) (may_enter : Bool) (file_length entry : ℕ) (headers : List ProgramHeader)
    → first_fault (program_header_rows areas may_enter file_length entry headers) ≡ None
    → IsSound areas may_enter file_length entry headers
unfolding program_header_rows
sound areas may_enter file_length entry headers h =
    let parts = five-none
    (fault_when (list_any is_dynamic headers) Dynamic)
    (option_map CutSegment (position_from (is_cut file_length) 0 headers))
    (option_map Outside (position_from (is_outside areas) 0 headers))
    (option_map overlap (first_meeting 0 headers))
    (fault_when (not may_enter || not (list_any (segment_holds entry) headers)) Entry) h in
    let entered = either may_enter (list_any (segment_holds entry) headers)
    (when-none (not may_enter || not (list_any (segment_holds entry) headers)) Entry parts.4) in
    record {
      not_cut = map-none CutSegment (position_from (is_cut file_length) 0 headers) parts.1;
      inside = map-none Outside (position_from (is_outside areas) 0 headers) parts.2;
      apart = map-none overlap (first_meeting 0 headers) parts.3;
      enters = entered.0;
      entered = entered.1;
    }

pub accepted : (rules : Rules) (file : List ℕ) → fault_by rules file ≡ None
    → IsSound rules.areas (rules.may_enter (entry_of file)) (length file) (entry_of file) (headers_of file)
accepted rules file h =
    let parts = or-none (first_fault (identification_rows file)) _ (sym (fault_of-parts rules file) ∙ h) in
    sound rules.areas (rules.may_enter (entry_of file)) (length file) (entry_of file) (headers_of file)
    (or-none (first_fault (file_header_rows file)) _ parts.1).1

All-cons : {X : Type 0} (P : X → Type 0) (x : X) (xs : List X) → P x → All P xs → All P (x ∷ xs)
All-cons P x xs p ps zero d h = p
All-cons P x xs p ps (suc k) d h = ps k d (omega arith)

AllPairs-cons : {X : Type 0} (R : X → X → Type 0) (x : X) (xs : List X) → All (R x) xs → AllPairs R xs
    → AllPairs R (x ∷ xs)
AllPairs-cons R x xs p ps zero zero d less h = absurd (omega arith)
AllPairs-cons R x xs p ps zero (suc j) d less h = p j d (omega arith)
AllPairs-cons R x xs p ps (suc i) zero d less h = absurd (omega arith)
AllPairs-cons R x xs p ps (suc i) (suc j) d less h = ps i j d (omega arith) (omega arith)

not_outside : (segment inside : Bool) → segment ≡ true → (segment && not inside) ≡ false → inside ≡ true
not_outside true true e h = refl
not_outside true false e h = cc
not_outside false inside e h = cc

one_fits : (areas : List Area) (file : List ℕ) (h : ProgramHeader) → is_segment h ≡ true
    → is_cut (length file) h ≡ false → is_outside areas h ≡ false
    → IsFitSegment areas (segment_of_header file h)
one_fits areas file h segment whole inside = record {
  not_empty = grind (arith, nat_tests);
  fits = let e = length-take h.file_size (drop h.offset file) in grind (arith, nat_tests);
  inside = not_outside (is_segment h) (is_inside areas h.address h.memory_size) segment inside;
}

and3 : (a b c : Bool) → a ≡ true → b ≡ true → (a && b && c) ≡ false → c ≡ false
and3 true true c p q h = h
and3 true false c p q h = cc
and3 false b c p q h = cc

one_apart : (file : List ℕ) (a b : ProgramHeader) → is_segment a ≡ true → is_segment b ≡ true
    → segments_meet a b ≡ false
    → meets (segment_of_header file a) (segment_of_header file b) ≡ false
one_apart file a b p q h =
    and3 (is_segment a) (is_segment b) (ranges_meet a.address a.memory_size b.address b.memory_size) p q h

-- the segments of headers
loaded : List ℕ → List ProgramHeader → List Segment
loaded file hs = map (segment_of_header file) (filter is_segment hs)

loaded-here : (file : List ℕ) (h : ProgramHeader) (hs : List ProgramHeader) → is_segment h ≡ true
    → loaded file (h ∷ hs) ≡ segment_of_header file h ∷ loaded file hs
unfolding loaded
loaded-here file h hs e = rw e

loaded-next : (file : List ℕ) (h : ProgramHeader) (hs : List ProgramHeader) → is_segment h ≡ false
    → loaded file (h ∷ hs) ≡ loaded file hs
unfolding loaded
loaded-next file h hs e = rw e

-- a fact of all segments, one header more
all_front : (P : Segment → Type 0) (file : List ℕ) (h : ProgramHeader) (hs : List ProgramHeader) (b : Bool)
    → is_segment h ≡ b
    → (is_segment h ≡ true → P (segment_of_header file h)) → All P (loaded file hs) → All P (loaded file (h ∷ hs))
all_front P file h hs true e here rest =
    subst (All P) (sym (loaded-here file h hs e)) (All-cons P (segment_of_header file h) (loaded file hs) (here e) rest)
all_front P file h hs false e here rest = subst (All P) (sym (loaded-next file h hs e)) rest

all_fit : (areas : List Area) (file : List ℕ) (k : ℕ) (hs : List ProgramHeader)
    → position_from (is_cut (length file)) k hs ≡ None
    → position_from (is_outside areas) k hs ≡ None → All (IsFitSegment areas) (loaded file hs)
unfolding loaded
all_fit areas file k [] whole inside = λ i d h. absurd (omega arith)
all_fit areas file k (h ∷ hs) whole inside =
    let front = position-none (is_cut (length file)) k h hs whole in
    let area = position-none (is_outside areas) k h hs inside in
    all_front (IsFitSegment areas) file h hs (is_segment h) refl
    (λ segment. one_fits areas file h segment front.0 area.0)
    (all_fit areas file (k + 1) hs front.1 area.1)

none_meets : (file : List ℕ) (a : ProgramHeader) → is_segment a ≡ true → (k : ℕ) (hs : List ProgramHeader)
    → position_from (segments_meet a) k hs ≡ None
    → All (λ b. meets (segment_of_header file a) b ≡ false) (loaded file hs)
unfolding loaded
none_meets file a e k [] none = λ i d h. absurd (omega arith)
none_meets file a e k (h ∷ hs) none =
    let front = position-none (segments_meet a) k h hs none in
    all_front (λ b. meets (segment_of_header file a) b ≡ false) file h hs (is_segment h) refl
    (λ segment. one_apart file a h e segment front.0) (none_meets file a e (k + 1) hs front.1)

pairs_front : (file : List ℕ) (h : ProgramHeader) (hs : List ProgramHeader) (b : Bool) → is_segment h ≡ b
    → (is_segment h ≡ true → All (λ b. meets (segment_of_header file h) b ≡ false) (loaded file hs))
    → AllPairs (λ a b. meets a b ≡ false) (loaded file hs) → AllPairs (λ a b. meets a b ≡ false) (loaded file (h ∷ hs))
pairs_front file h hs true e here rest =
    subst (AllPairs (λ a b. meets a b ≡ false)) (sym (loaded-here file h hs e))
    (AllPairs-cons (λ a b. meets a b ≡ false) (segment_of_header file h) (loaded file hs) (here e) rest)
pairs_front file h hs false e here rest =
    subst (AllPairs (λ a b. meets a b ≡ false)) (sym (loaded-next file h hs e)) rest

all_apart : (file : List ℕ) (k : ℕ) (hs : List ProgramHeader) → first_meeting k hs ≡ None
    → AllPairs (λ a b. meets a b ≡ false) (loaded file hs)
unfolding loaded
all_apart file k [] none = λ i j d less h. absurd (omega arith)
all_apart file k (h ∷ hs) none =
    let parts = or-none (option_map (λ (j : ℕ). (k, j)) (position_from (segments_meet h) (k + 1) hs))
    (first_meeting (k + 1) hs) none in
    pairs_front file h hs (is_segment h) refl
    (λ segment. none_meets file h segment (k + 1) hs
    (map-none (λ (j : ℕ). (k, j)) (position_from (segments_meet h) (k + 1) hs) parts.0))
    (all_apart file (k + 1) hs parts.1)

holds_front : (file : List ℕ) (entry : ℕ) (h : ProgramHeader) (hs : List ProgramHeader) (b : Bool) → is_segment h ≡ b
    → list_any (segment_holds entry) hs ≡ list_any (holds entry) (loaded file hs)
    → list_any (segment_holds entry) (h ∷ hs) ≡ list_any (holds entry) (loaded file (h ∷ hs))
holds_front file entry h hs true e rest =
    rw (loaded-here file h hs e) (rw e (ap (λ b. is_in_range entry h.address h.memory_size || b) rest))
holds_front file entry h hs false e rest = rw (loaded-next file h hs e) (rw e rest)

any_holds : (file : List ℕ) (entry : ℕ) (hs : List ProgramHeader)
    → list_any (segment_holds entry) hs ≡ list_any (holds entry) (loaded file hs)
unfolding loaded
any_holds file entry [] = refl
any_holds file entry (h ∷ hs) = holds_front file entry h hs (is_segment h) refl (any_holds file entry hs)

-- the segments of a file with no fault suit
pub segments_fit : (rules : Rules) (file : List ℕ) → fault_by rules file ≡ None
    → All (IsFitSegment rules.areas) (segments_of file)
unfolding loaded
segments_fit rules file h =
    let s = accepted rules file h in all_fit rules.areas file 0 (headers_of file) s.not_cut s.inside

-- the image of a file with no fault may be run
pub IsFit-image_of : (rules : Rules) (file : List ℕ) → fault_by rules file ≡ None → IsFit rules (image_of file)
unfolding loaded
IsFit-image_of rules file h = let s = accepted rules file h in record {
  segments = segments_fit rules file h;
  apart = all_apart file 0 (headers_of file) s.apart;
  enters = s.enters;
  entered = sym (any_holds file (entry_of file) (headers_of file)) ∙ s.entered;
  first_break = refl;
}

-- a segment that is not cut has its bytes in the file
pub bytes_inside : (n : ℕ) (h : ProgramHeader) → is_segment h ≡ true → is_cut n h ≡ false → h.offset + h.file_size ≤ n
bytes_inside n h segment whole = grind (arith, nat_tests)
