-- Where the code need not look for the entry that decides. It is no rule of the PMP.
use Rattle.std.specs.Prelude.{ℕ, ◌&&◌, Bool, not, nat_le}
use Rattle.fe_base.specs.MemoryMap.{user_start, user_end, is_within}
use Rattle.rv_csr.specs.Pmp.{has_right}
use Rattle.rv_csr.specs.declared.pmp.PmpEntry.{PmpEntry}
use Rattle.rv_csr.specs.declared.privilege.Access.{Access}

-- the second of two entries decides alone of the whole user area, and has the right that an access needs
abbrev pub opens_user_area : PmpEntry → PmpEntry → Access → Bool
opens_user_area entry0 entry1 access =
    not entry0.tor
    && (entry1.tor && (has_right entry1 access && (nat_le entry0.end user_start && nat_le user_end entry1.end)))

-- an access stands whole in the user area, which is open to accesses of its kind
abbrev pub is_open : PmpEntry → PmpEntry → Access → ℕ → ℕ → Bool
is_open entry0 entry1 access at width = is_within user_start user_end at width && opens_user_area entry0 entry1 access
