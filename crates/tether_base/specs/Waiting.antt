-- While the host handles a request the kernel waits, and nothing but the host changes what it works on.
use Rattle.std.specs.Prelude.{◌≡◌, ◌≤◌, ◌<◌, ◌+◌, ◌-◌, ◌%◌, ◌^◌, ℕ, List}
use Rattle.fe_base.specs.MemoryMap.{user_start, user_end}
use Rattle.guest_memory.specs.Bus.{with_beat}
use Rattle.guest_memory.specs.Memory.{store}
use Rattle.kernel_sim.specs.Holds.{Holds}
use Rattle.kernel_sim.specs.declared.phase.Phase.{Phase}
use Rattle.kernel_sim.specs.declared.phase.PhaseKind.TheVariants.{Wait}
use Rattle.kernel_sim.specs.declared.phase.UserState.{UserState}
use Rattle.plain_machine.specs.Programs.{Process}
use Rattle.rv_hart.specs.HartStep.{System, over, hart_step}
use Rattle.rv_hart.specs.Laws.{IsSystem}

-- the program of a phase over these user bytes
abbrev pub process_of : UserState → List ℕ → Process
process_of u user = record {
  state = record { pc = u.pc; registers = u.regs; user = user };
  program_break = u.brk;
  first_break = u.first_break;
}

-- what stands while a call is handled: the word in TOHOST, the program's registers and break, REQUEST's doublewords,
-- and the count of user steps
pub record CallState : Type 0 where
  pub tohost : ℕ
  pub program : UserState
  pub request : List ℕ
  pub steps : ℕ

-- the kernel is in Wait with this call, FROMHOST holds 0, and the user area holds these bytes
pub record Waiting (c : CallState) (user : List ℕ) (sys : System) : Type 0 where
  pub phase : Phase
  pub holds : Holds phase sys
  pub kind : phase.kind ≡ Wait
  pub tohost_is : phase.tohost ≡ c.tohost
  pub unanswered : phase.fromhost ≡ 0
  pub program_is : phase.user ≡ c.program
  pub request_is : phase.request ≡ c.request
  pub user_is : sys.bus.user ≡ user
  pub steps_are : sys.hart.user_steps ≡ c.steps
  pub fits : IsSystem sys

-- a waiting hart stays so in each step
abbrev pub StaysWaiting : Type 0
StaysWaiting = (c : CallState) (user : List ℕ) (sys : System) → Waiting c user sys → Waiting c user (hart_step sys)

-- the host may write a doubleword of the user area, which leaves all else
abbrev pub TakesUserWrites : Type 0
TakesUserWrites =
    (c : CallState) (user : List ℕ) (sys : System) (at value : ℕ) → at % 8 ≡ 0 → user_start ≤ at → at + 8 ≤ user_end
    → value < 2 ^ 64 → Waiting c user sys
    → Waiting c (store user (at - user_start) 8 value) (over (with_beat sys.bus at value) sys.hart)
