-- A hart in user mode, behind the PMP as the kernel sets it, beside the user step of the direct machine.
use Rattle.std.specs.Prelude.{◌≡◌, ℕ, true, false, Option, Some, None, IsSomeAnd}
use Rattle.fe_base.specs.MemoryMap.{user_start, user_end}
use Rattle.rv_csr.specs.CsrTable.{CsrState, csr_write}
use Rattle.rv_csr.specs.Pmp.{PmpState}
use Rattle.rv_csr.specs.declared.privilege.Mode.TheVariants.{User, Machine}
use Rattle.rv_alu.specs.declared.causes.Cause.TheVariants.{UserCall}
use Rattle.rv_hart.specs.HartStep as hart
use Rattle.rv_hart.specs.HartStep.{System, SystemStep, over, instruction_step, after_step, counted_step, hart_step}
use Rattle.rv_hart.specs.declared.debug.Run.TheVariants.{Running}
use Rattle.plain_machine.specs.UserStep.{UserState as ProgramState, UserStep, next, call, trap, user_step}

-- an entry that is OFF and ends where the user area begins, and one from there to the user area's end, for loads,
-- stores and fetches
abbrev pub user_fence : PmpState
user_fence = record {
  entry0 = record { read = false; write = false; execute = false; tor = false; end = user_start };
  entry1 = record { read = true; write = true; execute = true; tor = true; end = user_end };
}

-- the PMP is as the kernel sets it
abbrev pub IsFenced : CsrState → Type 0
IsFenced csrs = csrs.pmp ≡ user_fence

-- what a legal write of a register in machine mode leaves, behind others
abbrev pub and_written : ℕ → ℕ → Option CsrState → Option CsrState
and_written number value (Some csrs) = csr_write number value Machine csrs
and_written number value None = None

-- writes of pmpaddr0, pmpaddr1 and pmpcfg0, as the kernel makes them, are legal and fence user mode in, whatever the
-- registers held
abbrev pub KernelFences : Type 0
KernelFences = (csrs : CsrState)
    → IsSomeAnd (and_written 0x3a0 0x0f00 (and_written 0x3b1 0x404000 (and_written 0x3b0 0x4000 (Some csrs)))) IsFenced

-- what a user program sees of a hart over its bus
abbrev pub user_of : System → ProgramState
user_of system = record { pc = system.hart.pc; registers = system.hart.registers; user = system.bus.user }

-- the system with what a user program sees of it
abbrev pub with_user : ProgramState → System → System
with_user state system =
    record {
      hart = record system.hart { pc = state.pc; registers = state.registers };
      bus = record system.bus { user = state.user };
    }

-- a user step on a hart over its bus: the system with its next state, or the trap of its call, or its trap
abbrev pub seen : UserStep → System → SystemStep
seen (next state) system = hart.next (with_user state system)
seen call system = hart.trap UserCall 0
seen (trap cause value) system = hart.trap cause value

-- an instruction of a hart in user mode, behind the PMP as the kernel sets it, is the user step
abbrev pub InstructionsAgree : Type 0
InstructionsAgree = (system : System) → system.hart.mode ≡ User → IsFenced system.hart.csrs
    → instruction_step system ≡ seen (user_step (user_of system)) system

-- the system after the user step of its program, and after the trap that the step may be
abbrev pub user_step_on : System → System
user_step_on system = after_step system (seen (user_step (user_of system)) system)

-- a step of a running hart in user mode, behind the PMP as the kernel sets it, is the user step, whose call or trap the
-- hart takes, and it is counted
abbrev pub UserStepsAgree : Type 0
UserStepsAgree = (system : System) → system.hart.run ≡ Running → system.hart.mode ≡ User → IsFenced system.hart.csrs
    → hart_step system ≡ user_step_on (over system.bus (counted_step User system.hart))
