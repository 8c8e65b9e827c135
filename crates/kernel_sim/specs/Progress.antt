-- How many steps the kernel has left at most in a call, in a message or at the start, and that each step lowers the
-- number, but where the kernel waits for its host, the program runs, or a next byte is begun.
use Rattle.std.specs.Prelude.{◌≡◌, ℕ, ◌+◌, ◌-◌, ◌≤◌, ◌<◌, ◌==◌, not, Bool, true, false, if◌then◌else◌, List}
use Rattle.std.specs.Prelude.{slice_index}
use Rattle.rv_hart.specs.HartStep.{HartState}
use Rattle.kernel_code.specs.Places.{pc_boot_test, pc_wait_test, pc_put_test, pc_closing_test, pc_idle}
use Rattle.kernel_code.specs.StepsLeft.{left_at, loads_word}
use Rattle.kernel_sim.specs.declared.phase.PhaseKind.{PhaseKind}
use Rattle.kernel_sim.specs.declared.phase.PhaseKind.TheVariants.{BootWait, User, Wait, Speak, Closing}
use Rattle.kernel_sim.specs.declared.phase.Phase.{Phase}

-- a host is waited for: for FROMHOST to be another than 0 behind a request, for TOHOST to be 0 in a message
abbrev pub waits_by : PhaseKind → ℕ → ℕ → Bool
waits_by BootWait tohost fromhost = fromhost == 0
waits_by Wait tohost fromhost = fromhost == 0
waits_by Speak tohost fromhost = not (tohost == 0)
waits_by Closing tohost fromhost = not (tohost == 0)
waits_by kind tohost fromhost = false

-- the same of a phase
abbrev pub is_waiting : Phase → Bool
is_waiting p = waits_by p.kind p.tohost p.fromhost

-- at the test of a word that was loaded, the register says that the wait goes on
abbrev pub goes_back : ℕ → List ℕ → Bool
goes_back pc registers =
    if pc == pc_boot_test then slice_index registers 1 == 0
    else if pc == pc_wait_test then slice_index registers 5 == 0
    else if pc == pc_put_test then not (slice_index registers 6 == 0)
    else if pc == pc_closing_test then not (slice_index registers 6 == 0)
    else false

-- the steps left at a place of the kernel: one fewer at the load of a word that has come, and two more at a test that
-- leads back to the load
abbrev pub left_here : Bool → ℕ → List ℕ → ℕ
left_here waiting pc registers =
    if loads_word pc then (if waiting then left_at pc else left_at pc - 1)
    else if goes_back pc registers then left_at pc + 2
    else left_at pc

-- none while the program runs
abbrev pub left_in : PhaseKind → ℕ → ℕ
left_in User left = 0
left_in kind left = left

-- the steps left in a phase
abbrev pub steps_left : HartState → Phase → ℕ
steps_left hart p = left_in p.kind (left_here (is_waiting p) hart.pc hart.registers)

-- a step lowers the number, or is one of the program, after which there are at most 400, or waits and does not raise
-- it, or begins a byte of a path, which adds at most 15, or one of a message, behind which there are at most 399, or is
-- made at the last place
pub data Progress (p : Phase) (old : HartState) (q : Phase) (new : HartState) : Type 0 where
  Lowers : steps_left new q < steps_left old p → Progress p old q new
  Runs : p.kind ≡ User → steps_left new q ≤ 400 → Progress p old q new
  Waits : is_waiting p ≡ true → steps_left new q ≤ steps_left old p → Progress p old q new
  Passes : q.scanned ≡ p.scanned + 1 → steps_left new q ≤ steps_left old p + 15 → Progress p old q new
  Puts : q.text.posted ≡ p.text.posted + 1 → steps_left new q ≤ 399 → Progress p old q new
  Ends : old.pc ≡ pc_idle → new.pc ≡ pc_idle → Progress p old q new
