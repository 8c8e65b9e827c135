-- The direct run: a machine with its world, one step of it, and so many steps.
use Rattle.std.specs.Prelude.{◌≡◌, ◌+◌, ◌==◌, ◌&&◌, if◌then◌else◌, ℕ, Bool, false, List, [], ◌∷◌, ◌++◌, Option, Some}
use Rattle.std.specs.Prelude.{None, refl}
use Rattle.std.proofs.Common.{zero, suc, add-one, ap}
use Rattle.host_text.specs.Runs.{Place, End}
use Rattle.host_text.specs.World.{World}
use Rattle.rv_alu.specs.Causes.{cause_number}
use Rattle.rv_alu.specs.declared.causes.Cause.{Cause}
use Rattle.rv_alu.specs.declared.causes.Cause.TheVariants.{Illegal}
use Rattle.syscall_proxy.specs.HostRow.{host_row, world_after}
use Rattle.syscall_proxy.specs.Kept.{Kept, Setting}
use Rattle.syscall_proxy.specs.declared.answers.CallAnswer.{CallAnswer}
use Rattle.syscall_proxy.specs.declared.answers.CallAnswer.TheVariants.{Result as Value, Exit}
use Rattle.plain_machine.specs.KernelPart.{Part, gives, breaks, posts, scans}
use Rattle.plain_machine.specs.Messages.{is_counter_access, counter_text, trap_text}
use Rattle.plain_machine.specs.Programs.{Process, replied, with_break, with_user, part_of}
use Rattle.plain_machine.specs.UserStep.{UserStep, next, call, trap, user_step, moves}

-- a machine runs a program; or it is dying, with the text that is left of its last words and its status; or it has
-- ended with a status
pub data Machine : Type 0 where
  running : Process → Machine
  dying : List ℕ → ℕ → Machine
  ended : ℕ → Machine

-- a machine with its world
pub record DirectState : Type 0 where
  pub machine : Machine
  pub world : World

-- this machine in this world
abbrev pub in_world : Machine → World → DirectState
in_world machine w = record { machine = machine; world = w }

-- what the host's answer leaves: the program goes on with the result, or has ended
abbrev pub after_answer : Process → CallAnswer → Place (List ℕ) Kept → DirectState
after_answer process (Value value) p = in_world (running (replied (with_user process p.memory) value)) (world_after p)
after_answer process (Exit status) p = in_world (ended status) (world_after p)

-- what the host's row leaves; one that is stuck, which none is in a world, leaves all as it was
abbrev pub after_host : Process → World → Option (End (List ℕ) Kept CallAnswer) → DirectState
after_host process w None = in_world (running process) w
after_host process w (Some end) = after_answer process end.answer end.place

-- what a call leaves: the kernel's answer, the break that it leaves, or what the host's row of its request leaves; a
-- path that is still to be scanned is none of a kernel part
abbrev pub after_part : Setting → Process → World → Part → DirectState
after_part given process w (gives answer) = in_world (running (replied process answer)) w
after_part given process w (breaks moved) = in_world (running (with_break process moved)) w
after_part given process w (posts request) = after_host process w (host_row given request w process.state.user)
after_part given process w scans = in_world (running process) w

-- what a trap leaves: the last words, with status 124 where an illegal instruction asks for a counter, else with 128
-- and the cause's number
abbrev pub after_trap : ℕ → Cause → ℕ → Machine
after_trap pc cause value =
    if cause_number cause == cause_number Illegal && is_counter_access value then dying (counter_text pc) 124
    else dying (trap_text (cause_number cause) pc value) (128 + cause_number cause)

-- what a user step leaves: its next state, what its call leaves, or what its trap leaves
abbrev pub after_step : Setting → Process → World → UserStep → DirectState
after_step given process w (next moved) = in_world (running (record process { state = moved })) w
after_step given process w call = after_part given process w (part_of process)
after_step given process w (trap cause value) = in_world (after_trap process.state.pc cause value) w

-- a world with one byte more on the console
abbrev pub with_byte : World → ℕ → World
with_byte w byte = record w { contents = record w.contents { console = w.contents.console ++ byte ∷ [] } }

-- one step of a machine over a world: a user step; one byte of the last words, or the end behind them; one that has
-- ended stays
abbrev pub machine_step : Setting → Machine → World → DirectState
machine_step given (running process) w = after_step given process w (user_step process.state)
machine_step given (dying [] status) w = in_world (ended status) w
machine_step given (dying (byte ∷ text) status) w = in_world (dying text status) (with_byte w byte)
machine_step given (ended status) w = in_world (ended status) w

-- the direct step of a program that was started with this setting
abbrev pub direct_step : Setting → DirectState → DirectState
direct_step given s = machine_step given s.machine s.world

-- the direct run: so many direct steps
unfoldable pub direct_after : Setting → ℕ → DirectState → DirectState
direct_after given zero s = s
direct_after given (suc n) s = direct_step given (direct_after given n s)

-- no step leaves the state
pub direct_after-zero : (given : Setting) (s : DirectState) → direct_after given 0 s ≡ s
unfolding direct_after
direct_after-zero given s = refl

-- one step more is the direct step of the state reached
pub direct_after-next : (given : Setting) (n : ℕ) (s : DirectState)
    → direct_after given (n + 1) s ≡ direct_step given (direct_after given n s)
unfolding direct_after
direct_after-next given n s = ap (λ k. direct_after given k s) (add-one n)

-- the machine's next direct step moves its program on and does nothing else
abbrev pub moves_on : Machine → Bool
moves_on (running process) = moves (user_step process.state)
moves_on (dying text status) = false
moves_on (ended status) = false

-- the status that a machine has ended with, if it has ended
abbrev pub status_of : Machine → Option ℕ
status_of (running process) = None
status_of (dying text status) = None
status_of (ended status) = Some status
