-- The flags of openat (Linux, include/uapi/asm-generic/fcntl.h): the low two bits are the access, 0 to read
-- (O_RDONLY), 1 to
-- write (O_WRONLY), 2 to do both (O_RDWR); 3 is none of them.
use Rattle.std.specs.Prelude.{ℕ, Bool, bit_and, not, ◌==◌, ◌&&◌, ◌||◌}

-- the flags have all of these bits
abbrev pub has : ℕ → ℕ → Bool
has flags bits = bit_and flags bits == bits

-- the file may be read
abbrev pub reads : ℕ → Bool
reads flags = not (has flags 1)

-- the file may be written
abbrev pub writes : ℕ → Bool
writes flags = has flags 1 || has flags 2

-- a name that is free becomes a file (O_CREAT)
abbrev pub creates : ℕ → Bool
creates flags = has flags 0x40

-- a name that is not free is refused (O_CREAT and O_EXCL)
abbrev pub wants_new : ℕ → Bool
wants_new flags = has flags 0xc0

-- each write goes to the end of the file (O_APPEND)
abbrev pub appends : ℕ → Bool
appends flags = has flags 0x400

-- the file loses its bytes (O_TRUNC) where it may be written
abbrev pub cuts : ℕ → Bool
cuts flags = has flags 0x200 && writes flags
