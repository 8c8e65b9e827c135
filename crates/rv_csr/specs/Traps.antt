-- What traps and MRET do to the registers (Privileged Architecture, 3.1.6.1, 3.1.14 to 3.1.16 and 3.3.2).
use Rattle.std.specs.Prelude.{ℕ, true, false}
use Rattle.rv_csr.specs.CsrTable.{CsrState}
use Rattle.rv_csr.specs.Fields.{instruction_aligned}
use Rattle.rv_csr.specs.declared.privilege.Mode.{Mode}
use Rattle.rv_csr.specs.declared.privilege.Mode.TheVariants.{User}

-- after a trap of this cause and value, taken at pc in a mode
abbrev pub after_trap : ℕ → ℕ → ℕ → Mode → CsrState → CsrState
after_trap cause value pc mode csrs = record csrs {
  mepc = instruction_aligned pc;
  mcause = cause;
  mtval = value;
  mstatus_mpie = csrs.mstatus_mie;
  mstatus_mie = false;
  mstatus_mpp = mode;
}

-- after MRET
abbrev pub after_return : CsrState → CsrState
after_return csrs = record csrs { mstatus_mie = csrs.mstatus_mpie; mstatus_mpie = true; mstatus_mpp = User }
