-- Laws of the definitions, for the proofs of the crates above. A reader need not believe them: each is proved.
use Rattle.std.specs.Prelude.{◌≡◌, ◌<◌, ◌^◌, ⊤, ℕ, Bool, true, false, List, slice_index}
use Rattle.rv_alu.specs.declared.causes.Cause.{Cause}
use Rattle.rv_alu.specs.declared.causes.Cause.TheVariants.{Misaligned, FetchAccess, Illegal, Breakpoint, LoadAccess}
use Rattle.rv_alu.specs.declared.causes.Cause.TheVariants.{StoreAccess, UserCall, MachineCall}
use Rattle.syscall_proxy.specs.Kept.{Setting}
use Rattle.plain_machine.specs.KernelPart.{posts, kernel_part}
use Rattle.plain_machine.specs.Rows.{IsInside}
use Rattle.plain_machine.specs.UserStep.{UserState, UserStep, next, call, trap, user_step}

-- the causes of a user program's traps: a call is a step of its own
abbrev pub is_user_cause : Cause → Bool
is_user_cause Misaligned = true
is_user_cause FetchAccess = true
is_user_cause Illegal = true
is_user_cause Breakpoint = true
is_user_cause LoadAccess = true
is_user_cause StoreAccess = true
is_user_cause UserCall = false
is_user_cause MachineCall = false

-- a step that traps does so by one of these causes
abbrev pub TrapsAsUser : UserStep → Type 0
TrapsAsUser (next moved) = ⊤
TrapsAsUser call = ⊤
TrapsAsUser (trap cause value) = is_user_cause cause ≡ true

-- a user step never traps by the cause of a call
abbrev pub UserStepsTrap : Type 0
UserStepsTrap = (state : UserState) → TrapsAsUser (user_step state)

-- what a call's kernel part posts names a range of the user area, if any; so the host's row stays inside it
abbrev pub PostsInside : Type 0
PostsInside =
    (registers user : List ℕ) (program_break first_break : ℕ) (words : List ℕ) → slice_index registers 11 < 2 ^ 64
    → kernel_part registers user program_break first_break ≡ posts words → (given : Setting) → IsInside given words
