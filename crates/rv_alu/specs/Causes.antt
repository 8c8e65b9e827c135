-- Why a machine takes a trap.
use Rattle.std.specs.Prelude.{ℕ}
use Rattle.rv_alu.specs.declared.causes.Cause.{Cause}
use Rattle.rv_alu.specs.declared.causes.Cause.TheVariants.{Misaligned, FetchAccess, Illegal, Breakpoint, LoadAccess}
use Rattle.rv_alu.specs.declared.causes.Cause.TheVariants.{StoreAccess, UserCall, MachineCall}

-- the number of a trap's cause (Privileged Architecture, 3.1.15, mcause)
abbrev pub cause_number : Cause → ℕ
cause_number Misaligned = 0
cause_number FetchAccess = 1
cause_number Illegal = 2
cause_number Breakpoint = 3
cause_number LoadAccess = 5
cause_number StoreAccess = 7
cause_number UserCall = 8
cause_number MachineCall = 11
