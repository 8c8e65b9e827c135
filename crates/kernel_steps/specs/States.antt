-- What is known of a hart and its bus at one place of a code in the kernel area.
use Rattle.std.specs.Prelude.{◌≡◌, ◌⊎◌, ℕ, ◌-◌, ◌*◌, ◌^◌, ◌<◌, ◌≤◌, Some, List, [], ◌∷◌, length, slice_get}
use Rattle.fe_base.specs.MemoryMap.{kernel_start, kernel_end, kernel_code_size}
use Rattle.rv_decode.specs.declared.instruction.Insn.{Insn}
use Rattle.rv_decode.specs.InsnTable.{insn_of}
use Rattle.rv_csr.specs.CsrTable.{CsrState}
use Rattle.rv_csr.specs.Pmp.{PmpState}
use Rattle.rv_csr.specs.declared.privilege.Mode.TheVariants.{User, Machine}
use Rattle.guest_memory.specs.Memory.{load}
use Rattle.guest_memory.specs.Bus.{BusState}
use Rattle.rv_hart.specs.HartStep.{System}
use Rattle.rv_hart.specs.declared.debug.Run.TheVariants.{Running}
use Rattle.kernel_steps.specs.Terms.{Term, Is, AllIs, CellsAre, Fact, FactsHold}

-- what is known of the control and status registers that a kernel uses; the PMP is known whole
pub record CsrTerms : Type 0 where
  pub scratch : Term
  pub epc : Term
  pub cause : Term
  pub tval : Term
  pub tvec : Term
  pub pmp : PmpState

-- what is known of a hart at one address: its registers, its control and status registers, the doublewords of the
-- kernel area behind the code, and comparisons
pub record State : Type 0 where
  pub at : ℕ
  pub regs : List Term
  pub csrs : CsrTerms
  pub cells : List Term
  pub facts : List Fact

-- the words at the start of the kernel area, before its data, decode to the code's instructions
pub record CodeIs (code : List Insn) (kernel : List ℕ) : Type 0 where
  pub short : 4 * length code ≤ kernel_code_size
  pub words : (k : ℕ) (insn : Insn) → slice_get code k ≡ Some insn → insn_of (load kernel (4 * k) 4) ≡ Some insn

-- the control and status registers are those of their terms, and MRET leads to user mode
pub record CsrsAre (env : ℕ → ℕ) (s : CsrTerms) (csrs : CsrState) : Type 0 where
  pub scratch : Is env s.scratch csrs.mscratch
  pub epc : Is env s.epc csrs.mepc
  pub cause : Is env s.cause csrs.mcause
  pub tval : Is env s.tval csrs.mtval
  pub tvec : Is env s.tvec csrs.mtvec
  pub mpp : csrs.mstatus_mpp ≡ User
  pub pmp : csrs.pmp ≡ s.pmp

-- the doublewords behind the code are those of their terms, the code stands before them, and the user area is this one
pub record MemoryIs (code : List Insn) (user : List ℕ) (env : ℕ → ℕ) (cells : List Term) (bus : BusState) : Type 0 where
  pub cells_are : CellsAre env cells bus.kernel kernel_code_size
  pub long : length bus.kernel ≡ kernel_end - kernel_start
  pub user_is : bus.user ≡ user
  pub code_is : CodeIs code bus.kernel

-- a running hart in machine mode, over its bus, is as the state says
pub record Describes (code : List Insn) (user : List ℕ) (env : ℕ → ℕ) (s : State) (sys : System) : Type 0 where
  pub run : sys.hart.run ≡ Running
  pub mode : sys.hart.mode ≡ Machine
  pub at : sys.hart.pc ≡ s.at
  pub regs : AllIs env s.regs sys.hart.registers
  pub csrs : CsrsAre env s.csrs sys.hart.csrs
  pub memory : MemoryIs code user env s.cells sys.bus
  pub facts : FactsHold env s.facts
  pub small : (n : ℕ) → env n < 2 ^ 64

-- a hart over its bus is as one of the states says
abbrev pub OneDescribes : List Insn → List ℕ → (ℕ → ℕ) → List State → System → Type 0
OneDescribes code user env [] sys = ⊥
OneDescribes code user env (s ∷ ss) sys = Describes code user env s sys ⊎ OneDescribes code user env ss sys
