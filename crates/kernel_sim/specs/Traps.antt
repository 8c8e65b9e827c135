-- What the control and status registers of a trap hold, in which the program's call or trap stands while the kernel
-- handles it.
use Rattle.std.specs.Prelude.{◌≡◌, ◌≢◌, ◌⊎◌, ℕ}
use Rattle.rv_alu.specs.Causes.{cause_number}
use Rattle.rv_alu.specs.declared.causes.Cause.{Cause}
use Rattle.rv_csr.specs.CsrTable.{CsrState}
use Rattle.rv_hart.specs.HartStep.{System}
use Rattle.plain_machine.specs.UserStep.{call, trap, user_step}
use Rattle.kernel_sim.specs.UserMode.{user_of}
use Rattle.kernel_sim.specs.declared.phase.PhaseKind.{PhaseKind}
use Rattle.kernel_sim.specs.declared.phase.PhaseKind.TheVariants.{Leave, User, Save, Restore}

-- the user step is a call, and mcause tells it, or a trap of another cause, and mcause and mtval tell that
abbrev pub TrapTold : System → System → Type 0
TrapTold old new =
    ((user_step (user_of old) ≡ call) × (new.hart.csrs.mcause ≡ 8))
    ⊎ ((cause : Cause)
    × (value : ℕ)
    × (user_step (user_of old) ≡ trap cause value)
    × (new.hart.csrs.mcause ≡ cause_number cause)
    × (new.hart.csrs.mtval ≡ value)
    × (cause_number cause ≢ 8))

-- mcause and mtval stay
abbrev pub CauseKept : CsrState → CsrState → Type 0
CauseKept old new = (new.mcause ≡ old.mcause) × (new.mtval ≡ old.mtval)

-- by kind: a call or a trap of the program sets the three; else mcause and mtval stay, and so does mepc, but in Leave
-- and Restore, which write it
abbrev pub TrapAfter : PhaseKind → PhaseKind → System → System → Type 0
TrapAfter User Save old new = TrapTold old new × (new.hart.csrs.mepc ≡ old.hart.pc)
TrapAfter Leave now old new = CauseKept old.hart.csrs new.hart.csrs
TrapAfter Restore now old new = CauseKept old.hart.csrs new.hart.csrs
TrapAfter was now old new =
    CauseKept old.hart.csrs new.hart.csrs × (new.hart.csrs.mepc ≡ old.hart.csrs.mepc)
