-- Physical memory protection, byte by byte (Privileged Architecture, 3.7).
use Rattle.std.specs.Prelude.{◌≡◌, ℕ, ◌+◌, ◌*◌, ◌%◌, ◌^◌, ◌<◌, ◌==◌, ◌&&◌, Bool, false, not, Option, Some, None}
use Rattle.std.specs.Prelude.{unwrap_or, if◌then◌else◌}
use Rattle.fe_base.specs.ByteRanges.{every_byte, some_byte, is_between}
use Rattle.rv_csr.specs.Fields.{bits, is_set, bit}
use Rattle.rv_csr.specs.declared.pmp.PmpEntry.{PmpEntry}
use Rattle.rv_csr.specs.declared.privilege.Access.{Access}
use Rattle.rv_csr.specs.declared.privilege.Access.TheVariants.{Read, Write, Execute}

-- the byte of pmpcfg0 that an entry reads as: R in bit 0, W in bit 1, X in bit 2, A in bits 4:3, which is 1 for TOR and
-- 0 for OFF, and L, which reads 0 (Privileged Architecture, 3.7.1)
abbrev pub configuration : PmpEntry → ℕ
configuration entry = bit entry.read + bit entry.write * 2 + bit entry.execute * 4 + bit entry.tor * 8

-- an entry with the configuration of a byte; W without R is reserved, and is dropped; A other than TOR is kept as OFF;
-- L is dropped (Privileged Architecture, 3.7.1)
abbrev pub configured : PmpEntry → ℕ → PmpEntry
configured entry byte = record entry {
  read = is_set byte 0;
  write = is_set byte 1 && is_set byte 0;
  execute = is_set byte 2;
  tor = bits byte 3 2 == 1;
}

-- the two entries, pmp0cfg with pmpaddr0 and pmp1cfg with pmpaddr1
pub record PmpState : Type 0 where
  pub entry0 : PmpEntry
  pub entry1 : PmpEntry

-- what an entry can hold: an end of 56 bits whose low two are 0, and no right to write without the right to read
pub record IsEntry (entry : PmpEntry) : Type 0 where
  pub end_fits : entry.end < 2 ^ 56
  pub end_aligned : entry.end % 4 ≡ 0
  pub write_reads : (entry.write && not entry.read) ≡ false

-- an entry that is OFF, without rights
abbrev pub no_entry : PmpEntry
no_entry = record { read = false; write = false; execute = false; tor = false; end = 0 }

-- an entry has the right that an access needs
abbrev pub has_right : PmpEntry → Access → Bool
has_right entry Read = entry.read
has_right entry Write = entry.write
has_right entry Execute = entry.execute

-- what an entry decides of an access of so many bytes, where it matches any of them: it has to match all, and to have
-- the right. A TOR entry matches from a first address up to its end, one that is OFF matches nothing (Privileged
-- Architecture, 3.7.1, Priority and Matching Logic)
unfoldable pub decision : PmpEntry → ℕ → Access → ℕ → ℕ → Option Bool
decision entry first access at width =
    if entry.tor && some_byte (is_between first entry.end) at width
    then Some (every_byte (is_between first entry.end) at width && has_right entry access)
    else None

-- the first of two entries that decides; where none does, the access fails. The first begins at 0, the second where the
-- first ends (Privileged Architecture, 3.7.1, Address Matching)
abbrev pub pmp_allows : PmpState → Access → ℕ → ℕ → Bool
pmp_allows pmp access at width =
    unwrap_or (decision pmp.entry0 0 access at width)
    (unwrap_or (decision pmp.entry1 pmp.entry0.end access at width) false)
