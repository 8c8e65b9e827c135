-- The program headers of a file: their fields, and which of them are faulty or are loaded.
use Rattle.std.specs.Prelude.{ℕ, zero, suc, ◌+◌, ◌==◌, ◌&&◌, ◌||◌, not, nat_lt, Bool, List, [], ◌∷◌, drop, take}
use Rattle.byteorder.specs.Endian.{little_number}
use Rattle.elf_loader.specs.Ranges.{is_in_range, ranges_meet}
use Rattle.elf_loader.specs.Rules.{is_inside}
use Rattle.elf_loader.specs.declared.area.Area.{Area}
use Rattle.elf_loader.specs.Segment.{Segment}
use Rattle.elf_loader.specs.declared.header.ProgramHeader.{ProgramHeader}

-- the number of so many bytes, the lowest first, at a place of the file (System V gABI, chapter 4, Data Encoding)
unfoldable pub number_at : ℕ → ℕ → List ℕ → ℕ
number_at width place file = little_number width (drop place file)

-- p_type, p_offset, p_vaddr, p_filesz and p_memsz of the header at a place of the file (System V gABI, chapter 5,
-- Program Header)
unfoldable pub header_at : ℕ → List ℕ → ProgramHeader
header_at place file = record {
  kind = number_at 4 place file;
  offset = number_at 8 (place + 8) file;
  address = number_at 8 (place + 16) file;
  file_size = number_at 8 (place + 32) file;
  memory_size = number_at 8 (place + 40) file;
}

-- so many headers of 56 bytes, one after the other, from a place of the file on
abbrev pub headers_from : List ℕ → ℕ → ℕ → List ProgramHeader
headers_from file place zero = []
headers_from file place (suc count) = header_at place file ∷ headers_from file (place + 56) count

-- PT_DYNAMIC or PT_INTERP, which ask for a dynamic linker (System V gABI, chapter 5, Segment Types)
abbrev pub is_dynamic : ProgramHeader → Bool
is_dynamic h = h.kind == 2 || h.kind == 3

-- PT_LOAD (System V gABI, chapter 5, Segment Types)
abbrev pub is_loaded : ProgramHeader → Bool
is_loaded h = h.kind == 1

-- loaded, and some memory is taken
abbrev pub is_segment : ProgramHeader → Bool
is_segment h = is_loaded h && not (h.memory_size == 0)

-- loaded with more bytes than its memory takes, or with bytes behind the end of a file of this length
abbrev pub is_cut : ℕ → ProgramHeader → Bool
is_cut file_length h = is_loaded h && (nat_lt h.memory_size h.file_size || nat_lt file_length (h.offset + h.file_size))

-- a segment that lies in none of the areas
abbrev pub is_outside : List Area → ProgramHeader → Bool
is_outside areas h = is_segment h && not (is_inside areas h.address h.memory_size)

-- two segments with an address in both
abbrev pub segments_meet : ProgramHeader → ProgramHeader → Bool
segments_meet a b = is_segment a && is_segment b && ranges_meet a.address a.memory_size b.address b.memory_size

-- a segment with the address in it
abbrev pub segment_holds : ℕ → ProgramHeader → Bool
segment_holds at h = is_segment h && is_in_range at h.address h.memory_size

-- what a header puts into memory
abbrev pub segment_of_header : List ℕ → ProgramHeader → Segment
segment_of_header file h =
    record { address = h.address; size = h.memory_size; bytes = take h.file_size (drop h.offset file) }
