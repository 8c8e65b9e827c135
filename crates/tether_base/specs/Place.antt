-- The place of a session: at which step of the direct run console, input and files stand, and what agrees there.
use Rattle.std.specs.Prelude.{◌≡◌, ℕ, ◌+◌, ◌-◌, ◌==◌, if◌then◌else◌, Bool, true, false, List, Option}
use Rattle.folder_tree.specs.Tree.{Tree}
use Rattle.kernel_sim.specs.UserMode.{user_of}
use Rattle.plain_machine.specs.Direct.{DirectState, running, direct_after}
use Rattle.plain_machine.specs.Programs.{Process}
use Rattle.plain_machine.specs.Starts.{Configuration, state_after}
use Rattle.plain_machine.specs.Stands.{Leaves, RanOf}
use Rattle.rv_alu.specs.Causes.{cause_number}
use Rattle.rv_alu.specs.declared.causes.Cause.TheVariants.{UserCall}
use Rattle.rv_csr.specs.declared.privilege.Mode.{Mode}
use Rattle.rv_csr.specs.declared.privilege.Mode.TheVariants as mode
use Rattle.rv_hart.specs.HartStep.{HartState, System, IsUnhalted}
use Rattle.syscall_proxy.specs.Kept.{Setting}

-- what the host notes of the program: how many user steps were made when its last host call acted, and how many bytes
-- of its last words were put, one more once the exit behind them was handled
pub record Book : Type 0 where
  pub acted_at : ℕ
  pub said : ℕ

-- the last user step was a call: the hart is in machine mode, behind a trap of that cause
abbrev pub in_call : Mode → ℕ → Bool
in_call mode.User cause = false
in_call mode.Machine cause = cause == cause_number UserCall

-- the user steps and what was said, but for a call that has not acted: a host call acts behind its last call of the
-- outside, or where its result is decided, and one that the kernel answers itself at MRET
abbrev pub place_by : Bool → ℕ → Book → ℕ
place_by true steps book = (if book.acted_at == steps then steps else steps - 1) + book.said
place_by false steps book = steps + book.said

-- the place of a hart with what the host has noted
abbrev pub place : HartState → Book → ℕ
place hart book = place_by (in_call hart.mode hart.csrs.mcause) hart.user_steps book

-- what is noted of a host turn's part on tohost in which a command acted: the call, or a byte of the last words or the
-- exit behind them; before the first user step nothing is
abbrev pub noted_by : Bool → Bool → ℕ → Book → Book
noted_by false call steps book = book
noted_by true true steps book = record book { acted_at = steps }
noted_by true false steps book = if steps == 0 then book else record book { said = book.said + 1 }

-- the same by the hart that is seen behind that part
abbrev pub noted_in : Bool → HartState → Book → Book
noted_in acted hart book = noted_by acted (in_call hart.mode hart.csrs.mcause) hart.user_steps book

-- where the hart runs the program and is not halted, this direct state runs it too, with the same pc, registers and
-- user bytes
abbrev pub AgreesInUser : DirectState → System → Type 0
AgreesInUser state sys =
    IsUnhalted sys.hart.run → sys.hart.mode ≡ mode.User
    → (process : Process) × (state.machine ≡ running process) × (process.state ≡ user_of sys)

-- A session agrees with the direct run from a state: told input, console and files are those of the direct run after as
-- many steps as its place tells, and in user mode so are pc, registers and user bytes.
pub record Agrees (given : Setting) (first : DirectState) (sys : System) (book : Book) (input console : Option (List ℕ))
    (tree : Option Tree) : Type 0 where
  pub contents : Leaves (direct_after given (place sys.hart book) first).world.contents input console tree
  pub user : AgreesInUser (direct_after given (place sys.hart book) first) sys

-- What a session's run of a configuration is to say, whatever it answers: it is a run as every kind of run is, of as
-- many direct steps as its place tells, which has ended exactly where it answers so; and in user mode it agrees.
pub record SessionRan (c : Configuration) (exits : ℕ → Type 0) (sys : System) (book : Book)
    (input console : Option (List ℕ)) (tree : Option Tree) : Type 0 where
  pub ran : RanOf c (place sys.hart book) exits input console tree
  pub user : AgreesInUser (state_after (place sys.hart book) c) sys
