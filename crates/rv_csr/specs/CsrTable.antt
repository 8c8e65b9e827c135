-- The control and status registers: their numbers, what each keeps, and which accesses are illegal.
use Rattle.std.specs.Prelude.{◌≡◌, ℕ, ◌+◌, ◌*◌, ◌/◌, ◌%◌, ◌^◌, ◌<◌, ◌==◌, Bool, true, false, Option, Some, None}
use Rattle.std.specs.Prelude.{if◌then◌else◌}
use Rattle.rv_decode.specs.Alignment.{instruction_alignment}
use Rattle.rv_csr.specs.Fields.{bits, is_set, bit, aligned, instruction_aligned, mode_number, kept_mode}
use Rattle.rv_csr.specs.Pmp.{PmpState, IsEntry, configuration, configured, no_entry, pmp_allows}
use Rattle.rv_csr.specs.declared.privilege.Access.{Access}
use Rattle.rv_csr.specs.declared.privilege.Mode.{Mode}
use Rattle.rv_csr.specs.declared.privilege.Mode.TheVariants.{User, Machine}
use Rattle.rv_csr.specs.declared.table.Csr.{Csr}
use Rattle.rv_csr.specs.declared.table.Csr.TheVariants.{Mstatus, Misa, Mie, Mtvec, Mcounteren, Mscratch, Mepc, Mcause}
use Rattle.rv_csr.specs.declared.table.Csr.TheVariants.{Mtval, Mip, Pmpcfg0, Pmpaddr0, Pmpaddr1, Mhartid}

-- what the registers keep: of mstatus MIE, MPIE and MPP (Privileged Architecture, 3.1.6); mtvec, mscratch, mepc, mcause
-- and mtval (3.1.7, 3.1.13 to 3.1.16); and the entries of the PMP (3.7.1)
pub record CsrState : Type 0 where
  pub mstatus_mie : Bool
  pub mstatus_mpie : Bool
  pub mstatus_mpp : Mode
  pub mtvec : ℕ
  pub mscratch : ℕ
  pub mepc : ℕ
  pub mcause : ℕ
  pub mtval : ℕ
  pub pmp : PmpState

-- each number fits its register
pub record IsCsrs (csrs : CsrState) : Type 0 where
  pub mtvec_fits : csrs.mtvec < 2 ^ 64
  pub mtvec_aligned : csrs.mtvec % 4 ≡ 0
  pub mscratch_fits : csrs.mscratch < 2 ^ 64
  pub mepc_fits : csrs.mepc < 2 ^ 64
  pub mepc_aligned : csrs.mepc % instruction_alignment ≡ 0
  pub mcause_fits : csrs.mcause < 2 ^ 64
  pub mtval_fits : csrs.mtval < 2 ^ 64
  pub pmp0_fits : IsEntry csrs.pmp.entry0
  pub pmp1_fits : IsEntry csrs.pmp.entry1

-- the registers at reset
abbrev pub reset_csrs : CsrState
reset_csrs = record {
  mstatus_mie = false;
  mstatus_mpie = false;
  mstatus_mpp = User;
  mtvec = 0;
  mscratch = 0;
  mepc = 0;
  mcause = 0;
  mtval = 0;
  pmp = record { entry0 = no_entry; entry1 = no_entry };
}

-- the register of a number, of those that there are (Privileged Architecture, 2.2, machine-level CSR addresses)
unfoldable pub csr_of : ℕ → Option Csr
csr_of number =
    if number == 0x300 then Some Mstatus
    else if number == 0x301 then Some Misa
    else if number == 0x304 then Some Mie
    else if number == 0x305 then Some Mtvec
    else if number == 0x306 then Some Mcounteren
    else if number == 0x340 then Some Mscratch
    else if number == 0x341 then Some Mepc
    else if number == 0x342 then Some Mcause
    else if number == 0x343 then Some Mtval
    else if number == 0x344 then Some Mip
    else if number == 0x3a0 then Some Pmpcfg0
    else if number == 0x3b0 then Some Pmpaddr0
    else if number == 0x3b1 then Some Pmpaddr1
    else if number == 0xf14 then Some Mhartid
    else None

-- a number whose bits 11:10 are 3 is that of a register that is only read (Privileged Architecture, 2.1)
abbrev pub is_read_only : ℕ → Bool
is_read_only number = bits number 10 2 == 3

-- mstatus: MIE in bit 3, MPIE in bit 7, MPP in bits 12:11, UXL in bits 33:32, which reads 2; all else reads 0
-- (Privileged Architecture, 3.1.6)
abbrev pub mstatus_of : CsrState → ℕ
mstatus_of csrs =
    bit csrs.mstatus_mie * 2 ^ 3 + bit csrs.mstatus_mpie * 2 ^ 7 + mode_number csrs.mstatus_mpp * 2 ^ 11 + 2 * 2 ^ 32

-- what a register reads; misa has MXL 2 for 64 bits, and the letters I, M and U (Privileged Architecture, 3.1.1); mie,
-- mip, mcounteren and mhartid read 0
abbrev pub csr_value : Csr → CsrState → ℕ
csr_value Mstatus csrs = mstatus_of csrs
csr_value Misa csrs = 2 * 2 ^ 62 + 2 ^ 20 + 2 ^ 12 + 2 ^ 8
csr_value Mie csrs = 0
csr_value Mtvec csrs = csrs.mtvec
csr_value Mcounteren csrs = 0
csr_value Mscratch csrs = csrs.mscratch
csr_value Mepc csrs = csrs.mepc
csr_value Mcause csrs = csrs.mcause
csr_value Mtval csrs = csrs.mtval
csr_value Mip csrs = 0
csr_value Pmpcfg0 csrs = configuration csrs.pmp.entry0 + configuration csrs.pmp.entry1 * 2 ^ 8
csr_value Pmpaddr0 csrs = csrs.pmp.entry0.end / 4
csr_value Pmpaddr1 csrs = csrs.pmp.entry1.end / 4
csr_value Mhartid csrs = 0

-- what the registers are after a write of one: mstatus keeps MIE, MPIE and MPP, mtvec bits 63:2, mepc the bits that an
-- aligned address has, mscratch, mcause and mtval all bits, pmpcfg0 its two low bytes, and pmpaddr0 and pmpaddr1 bits
-- 53:0, which are bits 55:2 of the address at which their entry ends; a write of misa, mie, mip or mcounteren does
-- nothing, and mhartid is not written (Privileged Architecture, 3.1 and 3.7.1)
abbrev pub with_csr : Csr → ℕ → CsrState → CsrState
with_csr Mstatus value csrs =
    record csrs {
      mstatus_mie = is_set value 3;
      mstatus_mpie = is_set value 7;
      mstatus_mpp = kept_mode (bits value 11 2);
    }
with_csr Misa value csrs = csrs
with_csr Mie value csrs = csrs
with_csr Mtvec value csrs = record csrs { mtvec = aligned value }
with_csr Mcounteren value csrs = csrs
with_csr Mscratch value csrs = record csrs { mscratch = value }
with_csr Mepc value csrs = record csrs { mepc = instruction_aligned value }
with_csr Mcause value csrs = record csrs { mcause = value }
with_csr Mtval value csrs = record csrs { mtval = value }
with_csr Mip value csrs = csrs
with_csr Pmpcfg0 value csrs = record csrs {
  pmp = record {
    entry0 = configured csrs.pmp.entry0 (bits value 0 8);
    entry1 = configured csrs.pmp.entry1 (bits value 8 8);
  };
}
with_csr Pmpaddr0 value csrs =
    record csrs { pmp = record csrs.pmp { entry0 = record csrs.pmp.entry0 { end = 4 * (value % 2 ^ 54) } } }
with_csr Pmpaddr1 value csrs =
    record csrs { pmp = record csrs.pmp { entry1 = record csrs.pmp.entry1 { end = 4 * (value % 2 ^ 54) } } }
with_csr Mhartid value csrs = csrs

-- what a register reads, if there is one
abbrev pub value_of : Option Csr → CsrState → Option ℕ
value_of (Some csr) csrs = Some (csr_value csr csrs)
value_of None csrs = None

-- what the registers are after a write of one, if there is one
abbrev pub written : Option Csr → ℕ → CsrState → Option CsrState
written (Some csr) value csrs = Some (with_csr csr value csrs)
written None value csrs = None

-- what an access by number reads: every register is machine mode's, so user mode reads none (Privileged Architecture,
-- 2.1)
abbrev pub csr_read : ℕ → Mode → CsrState → Option ℕ
csr_read number User csrs = None
csr_read number Machine csrs = value_of (csr_of number) csrs

-- what a write by number leaves, where it is legal: in machine mode, of a register that there is and that is not only
-- read (Privileged Architecture, 2.1)
abbrev pub csr_write : ℕ → ℕ → Mode → CsrState → Option CsrState
csr_write number value User csrs = None
csr_write number value Machine csrs = if is_read_only number then None else written (csr_of number) value csrs

-- the PMP binds user mode alone, since no entry is locked (Privileged Architecture, 3.7.1, Locking and Privilege Mode)
unfoldable pub is_allowed : CsrState → ℕ → ℕ → Access → Mode → Bool
is_allowed csrs at width access User = pmp_allows csrs.pmp access at width
is_allowed csrs at width access Machine = true
