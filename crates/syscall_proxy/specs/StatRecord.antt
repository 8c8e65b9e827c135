-- The stat record (Linux, include/uapi/asm-generic/stat.h), 128 bytes, little endian.
use Rattle.std.specs.Prelude.{ℕ, List, [], ◌∷◌, ◌++◌}
use Rattle.std.specs.Int.{div_ceil}
use Rattle.byteorder.specs.Endian.{little_bytes}

-- a regular file that all may read and write (S_IFREG and 0666)
abbrev pub file_mode : ℕ
file_mode = 0x81b6

-- a character device that all may read and write (S_IFCHR and 0666)
abbrev pub device_mode : ℕ
device_mode = 0x21b6

-- a field of the record
pub record Field : Type 0 where
  pub size : ℕ
  pub value : ℕ

abbrev pub field : ℕ → ℕ → Field
field size value = record { size = size; value = value }

-- fields one behind another
abbrev pub fields_bytes : List Field → List ℕ
fields_bytes [] = []
fields_bytes (first ∷ rest) = little_bytes first.size first.value ++ fields_bytes rest

-- how many blocks of 512 bytes hold so many bytes
abbrev pub blocks_of : ℕ → ℕ
blocks_of size = div_ceil size 512

-- dev, ino; mode, nlink, uid, gid; rdev, a pad, size; blksize, a pad; blocks; three times, each with nanoseconds;
-- two unused
abbrev pub stat_record : ℕ → ℕ → List ℕ
stat_record mode size = fields_bytes
    (field 8 0 ∷ field 8 0
    ∷ field 4 mode ∷ field 4 1 ∷ field 4 0 ∷ field 4 0
    ∷ field 8 0 ∷ field 8 0 ∷ field 8 size
    ∷ field 4 4096 ∷ field 4 0
    ∷ field 8 (blocks_of size)
    ∷ field 8 0 ∷ field 8 0 ∷ field 8 0 ∷ field 8 0 ∷ field 8 0 ∷ field 8 0
    ∷ field 4 0 ∷ field 4 0 ∷ [])
