-- Which files are programs, which image such a file has, and which images may be run.
use Rattle.std.specs.Prelude.{◌≡◌, ◌≤◌, ◌<◌, ℕ, ◌+◌, ◌*◌, ◌==◌, ◌||◌, not, nat_lt, bit_and, Bool, true, false, List, []}
use Rattle.std.specs.Prelude.{◌∷◌, ◌++◌, take, length, slice_index, map, filter, All, AllPairs, Option, Some, None}
use Rattle.std.specs.Prelude.{option_map}
use Rattle.std.specs.List.{list_any, position_from}
use Rattle.std.specs.Option.{option_or}
use Rattle.std.specs.Str.{bytes_eq}
use Rattle.std.proofs.lemmas.Bool.{lt-ltb}
use Rattle.elf_loader.specs.Rules.{Rules, is_inside, user_rules}
use Rattle.fe_base.specs.Limits.{elf_file_limit}
use Rattle.elf_loader.specs.declared.area.Area.{Area}
use Rattle.elf_loader.specs.Segment.{Segment, holds, meets, first_break_of}
use Rattle.elf_loader.specs.ProgramHeader.{number_at, headers_from, is_dynamic, is_segment, is_cut, is_outside}
use Rattle.elf_loader.specs.ProgramHeader.{segments_meet, segment_holds, segment_of_header}
use Rattle.elf_loader.specs.Faults.{fault_when, first_fault}
use Rattle.elf_loader.specs.declared.header.ProgramHeader.{ProgramHeader}
use Rattle.elf_loader.specs.declared.image.Image.{Image}
use Rattle.elf_loader.specs.declared.fault.ElfFault.{ElfFault}
use Rattle.elf_loader.specs.declared.fault.ElfFault.TheVariants.{TooLarge, Short, Magic, Class, Order, Version, Kind}
use Rattle.elf_loader.specs.declared.fault.ElfFault.TheVariants.{Machine, Flags, HeaderSize, Headers, Dynamic}
use Rattle.elf_loader.specs.declared.fault.ElfFault.TheVariants.{Segment as CutSegment, Outside, Overlap, Entry}

-- what a segment of an image that may be run is: not empty, no longer in the file than in memory, and inside one of the
-- areas
pub record IsFitSegment (areas : List Area) (s : Segment) : Type 0 where
  pub not_empty : 0 < s.size
  pub fits : length s.bytes ≤ s.size
  pub inside : is_inside areas s.address s.size ≡ true

-- an image that may be run under these rules: its segments suit and none meet, a program may begin at the entry, which
-- is in one of them, and the break lies behind them
pub record IsFit (rules : Rules) (image : Image) : Type 0 where
  pub segments : All (IsFitSegment rules.areas) image.segments
  pub apart : AllPairs (λ a b. meets a b ≡ false) image.segments
  pub enters : rules.may_enter image.entry ≡ true
  pub entered : list_any (holds image.entry) image.segments ≡ true
  pub first_break : image.first_break ≡ first_break_of image.segments

-- e_entry (System V gABI, chapter 4, ELF Header)
abbrev pub entry_of : List ℕ → ℕ
entry_of file = number_at 8 24 file

-- e_phoff (System V gABI, chapter 4, ELF Header)
abbrev pub headers_place : List ℕ → ℕ
headers_place file = number_at 8 32 file

-- e_phnum (System V gABI, chapter 4, ELF Header)
abbrev pub headers_count : List ℕ → ℕ
headers_count file = number_at 2 56 file

-- the program headers, in the order of the file
abbrev pub headers_of : List ℕ → List ProgramHeader
headers_of file = headers_from file (headers_place file) (headers_count file)

-- the least i and then the least j above it whose segments meet, where the list's first header is number i
abbrev pub first_meeting : ℕ → List ProgramHeader → Option (ℕ × ℕ)
first_meeting i [] = None
first_meeting i (h ∷ hs) =
    option_or (option_map (λ j. (i, j)) (position_from (segments_meet h) (i + 1) hs)) (first_meeting (i + 1) hs)

-- what is wrong with the length and with e_ident: the magic number, ELFCLASS64, ELFDATA2LSB, EV_CURRENT (System V gABI,
-- chapter 4, ELF Identification)
unfoldable pub identification_rows : List ℕ → List (Option ElfFault)
identification_rows file =
    fault_when (nat_lt elf_file_limit (length file)) TooLarge
    ∷ fault_when (nat_lt (length file) 64) Short
    ∷ fault_when (not (bytes_eq (take 4 file) (0x7f ∷ 0x45 ∷ 0x4c ∷ 0x46 ∷ []))) Magic
    ∷ fault_when (not (slice_index file 4 == 2)) Class
    ∷ fault_when (not (slice_index file 5 == 1)) Order
    ∷ fault_when (not (slice_index file 6 == 1) || not (number_at 4 20 file == 1)) Version
    ∷ []

-- the bits of e_flags that ask for what is not there: RVC, the float ABI and RVE (RISC-V ELF psABI, File Header)
abbrev pub refused_flags : ℕ
refused_flags = 0xF

-- what is wrong with e_type (ET_EXEC), e_machine (EM_RISCV), e_flags, e_ehsize and e_phentsize, or where the headers
-- end (RISC-V ELF psABI, File Header)
unfoldable pub file_header_rows : List ℕ → List (Option ElfFault)
file_header_rows file =
    fault_when (not (number_at 2 16 file == 2)) Kind
    ∷ fault_when (not (number_at 2 18 file == 243)) Machine
    ∷ fault_when (not (bit_and (number_at 4 48 file) refused_flags == 0)) Flags
    ∷ fault_when (not (number_at 2 52 file == 64) || not (number_at 2 54 file == 56)) HeaderSize
    ∷ fault_when (nat_lt (length file) (headers_place file + 56 * headers_count file)) Headers
    ∷ []

-- what is wrong with the program headers and the entry of a file of this length, whose segments have to stand in these
-- areas, and which may begin at its entry or not
unfoldable pub program_header_rows : List Area → Bool → ℕ → ℕ → List ProgramHeader → List (Option ElfFault)
program_header_rows areas may_enter file_length entry headers =
    fault_when (list_any is_dynamic headers) Dynamic
    ∷ option_map CutSegment (position_from (is_cut file_length) 0 headers)
    ∷ option_map Outside (position_from (is_outside areas) 0 headers)
    ∷ option_map (λ pair. Overlap pair.0 pair.1) (first_meeting 0 headers)
    ∷ fault_when (not may_enter || not (list_any (segment_holds entry) headers)) Entry
    ∷ []

-- why a file is refused under these rules: of all the rows the first fault; a file with none is accepted
unfoldable pub fault_by : Rules → List ℕ → Option ElfFault
fault_by rules file =
    first_fault (
    identification_rows file
    ++ file_header_rows file
    ++ program_header_rows rules.areas (rules.may_enter (entry_of file)) (length file) (entry_of file) (headers_of file)
    )

-- why a file is no program that the kernel runs
abbrev pub fault_of : List ℕ → Option ElfFault
fault_of file = fault_by user_rules file

-- what an accepted file puts into memory, in the order of its headers
abbrev pub segments_of : List ℕ → List Segment
segments_of file = map (segment_of_header file) (filter is_segment (headers_of file))

-- the image of an accepted file
abbrev pub image_of : List ℕ → Image
image_of file = record {
  entry = entry_of file;
  segments = segments_of file;
  first_break = first_break_of (segments_of file);
}

-- a file of too many bytes is refused for that, whatever they are
pub fault_of-too_large : (file : List ℕ) → elf_file_limit < length file → fault_of file ≡ Some TooLarge
unfolding fault_by identification_rows
fault_of-too_large file h = rw (lt-ltb elf_file_limit (length file) h)
