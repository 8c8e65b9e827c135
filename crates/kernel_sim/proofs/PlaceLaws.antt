-- The kind of a phase by the place of the code.
use Rattle.std.proofs.Common.{◌≡◌, ◌≢◌, ℕ, ◌+◌, ◌*◌, ◌≤◌, ◌==◌, Bool, true, false, ◌&&◌, ◌||◌, List, get_or, refl, ap, sym, subst, ◌∙◌, arith, if◌then◌else◌}
use Rattle.std.specs.Prelude.{nat_le}
use Rattle.std.proofs.lemmas.Bool.{false≢true, eqb-true, ne_eqb}
use Rattle.std.proofs.lemmas.Bool.Decides.{nat_tests}
use Rattle.rv_hart.specs.HartStep.{System}
use Rattle.kernel_sim.specs.declared.phase.PhaseKind.{PhaseKind}
use Rattle.kernel_sim.specs.declared.phase.PhaseKind.TheVariants.{Boot, BootWait, BootTake, Leave, User, Save, Check, Scan, Fill, Wait, Take, Local, Restore, Speak, Closing}
use Rattle.kernel_sim.specs.declared.phase.Phase.{Phase}
use Rattle.kernel_steps.specs.Terms.{Lit, Var, Unknown}
use Rattle.kernel_steps.specs.States.{State}
use Rattle.kernel_steps.specs.Blocks.{Here, same, has_fact}
use Rattle.kernel_code.specs.Kernel.{kernel, blocks}
use Rattle.proxy_kernel.specs.KernelWords.{kernel_insns}
use Rattle.kernel_code.specs.Calls.{call_blocks}
use Rattle.kernel_code.specs.TrapWords.{trap_blocks}
use Rattle.kernel_code.specs.CounterWords.{counter_blocks}
use Rattle.kernel_code.specs.Shorthand.{cells_0, cells_1, cells_2, cells_3, cells_4, cells_5, cells_6, cells_7, cells_8, cells_9, csrs_0, csrs_1, csrs_2}
use Rattle.kernel_sim.specs.Phases.{kind_now, kind_of, kernel_kind}
use Rattle.kernel_sim.specs.Stages.{Stage, Saving, Checking, Starting, Scanning, Looked, Past, Full, Found, Filling, Waiting, Tested, Taking, NoCall, Outside, Long, Breaking, Restoring, Choosing, Saying, Said, Ending, Ended, stage_kind, stage_number, BootStage, Booting, BootWaiting, BootTested, BootTaking, Leaving, boot_kind, boot_number, InBoot, InKernel, Place}
use Rattle.kernel_steps.proofs.Rebase.{with_var}
use Rattle.kernel_steps.proofs.Tests.{blocks_all-at, starts_all}
use Rattle.kernel_sim.proofs.Gates.{kind_code, number_code, place_ok, places_right, fact}
use Rattle.kernel_code.specs.Numbers.{booting_blocks, boot_waiting_blocks, boot_taking_blocks, leaving_blocks, saving_blocks, checking_blocks, scanning_blocks, filling_blocks, waiting_blocks, taking_blocks, no_call_blocks, restoring_blocks, choosing_blocks, trap_words, counter_words, v_first_break, v_cause, passed_blocks, full_blocks, v_byte, path_gate, buffer_gate, no_call_gate, break_gate, request_gate}
use Rattle.kernel_code.specs.Places.{break_cell, first_break_cell}

-- ---- the kind by the place
pub kind_named : ℕ → PhaseKind
kind_named n = if n == booting_blocks then Boot else (if n == boot_waiting_blocks then BootWait else (if n == boot_taking_blocks then BootTake else (if n == leaving_blocks then Leave else (if n == 4 then User else (if n == saving_blocks then Save else (if n == checking_blocks then Check else (if n == scanning_blocks then Scan
    else (if n == filling_blocks then Fill else (if n == waiting_blocks then Wait else (if n == taking_blocks then Take else (if n == no_call_blocks then Local else (if n == restoring_blocks then Restore else (if n == choosing_blocks then Speak else Closing)))))))))))))

pub named : (k : PhaseKind) → kind_named (kind_code k) ≡ k
unfolding kind_named
named Boot = refl
named BootWait = refl
named BootTake = refl
named Leave = refl
named User = refl
named Save = refl
named Check = refl
named Scan = refl
named Fill = refl
named Wait = refl
named Take = refl
named Local = refl
named Restore = refl
named Speak = refl
named Closing = refl

pub code-same : (a b : PhaseKind) → kind_code a ≡ kind_code b → a ≡ b
code-same a b e = sym (named a) ∙ ap kind_named e ∙ named b

pub code-small : (k : PhaseKind) → (kind_code k == 99) ≡ false
code-small Boot = refl
code-small BootWait = refl
code-small BootTake = refl
code-small Leave = refl
code-small User = refl
code-small Save = refl
code-small Check = refl
code-small Scan = refl
code-small Fill = refl
code-small Wait = refl
code-small Take = refl
code-small Local = refl
code-small Restore = refl
code-small Speak = refl
code-small Closing = refl

pub high : (n : ℕ) → trap_words ≤ n → nat_le trap_words n ≡ true
high n l = grind (arith, nat_tests)

pub high-code : (n : ℕ) → trap_words ≤ n → number_code n ≡ 13
high-code n l = rw (high n l, number_code) refl

pub code-of : (st : Stage) → number_code (stage_number st) ≡ kind_code (stage_kind st)
code-of Saving = refl
code-of Checking = refl
code-of Starting = refl
code-of Scanning = refl
code-of Looked = refl
code-of Past = refl
code-of Full = refl
code-of Found = refl
code-of Filling = refl
code-of Waiting = refl
code-of Tested = refl
code-of Taking = refl
code-of NoCall = refl
code-of Outside = refl
code-of Long = refl
code-of Breaking = refl
code-of Restoring = refl
code-of Choosing = refl
code-of (Saying true t) = high-code (counter_words + 2 * t) (omega arith)
code-of (Saying false t) = high-code (trap_words + 2 * t) (omega arith)
code-of (Said true t) = high-code (counter_words + 2 * t + 1) (omega arith)
code-of (Said false t) = high-code (trap_words + 2 * t + 1) (omega arith)
code-of (Ending true) = refl
code-of (Ending false) = refl
code-of (Ended true) = refl
code-of (Ended false) = refl

pub kind-by-place : (user : List ℕ) (env : ℕ → ℕ) (st : Stage) (sys : System) → Here kernel user env blocks (stage_number st) sys → kind_now sys ≡ stage_kind st
kind-by-place user env st sys w = ap (λ m. kind_of m sys.hart.pc) w.describes.mode ∙ ap kernel_kind w.describes.at ∙ go (number_code (stage_number st) == 99) refl t
  where
    t : place_ok (stage_number st) w.state ≡ true
    t = subst (λ z. place_ok z w.state ≡ true) w.kind (blocks_all-at place_ok kernel blocks w.block w.state places_right w.among w.on)

    go : (b : Bool) → (number_code (stage_number st) == 99) ≡ b → ◌≡◌ {A = Bool} (elim b [ true ↦ true | false ↦ number_code (stage_number st) == kind_code (kernel_kind w.state.at) ]) true → kernel_kind w.state.at ≡ stage_kind st
    go true e q = absurd (false≢true (sym (code-small (stage_kind st)) ∙ subst (λ z. (z == 99) ≡ true) (code-of st) e))
    go false e q = code-same (kernel_kind w.state.at) (stage_kind st) (sym (eqb-true _ _ q) ∙ code-of st)

pub placed : (st : Stage) (p : Phase) (sys : System) → InKernel (stage_kind st) p sys → Place (stage_kind st) p sys
placed Saving p sys i = i
placed Checking p sys i = i
placed Starting p sys i = i
placed Scanning p sys i = i
placed Looked p sys i = i
placed Past p sys i = i
placed Full p sys i = i
placed Found p sys i = i
placed Filling p sys i = i
placed Waiting p sys i = i
placed Tested p sys i = i
placed Taking p sys i = i
placed NoCall p sys i = i
placed Outside p sys i = i
placed Long p sys i = i
placed Breaking p sys i = i
placed Restoring p sys i = i
placed Choosing p sys i = i
placed (Saying c t) p sys i = i
placed (Said c t) p sys i = i
placed (Ending c) p sys i = i
placed (Ended c) p sys i = i

-- ---- numbers that get a name
pub low-kept : (env : ℕ → ℕ) (k v n : ℕ) → n ≢ k → with_var env k v n ≡ env n
low-kept env k v n ne = rw (ne_eqb n k ne) refl

pub boot-code : (st : BootStage) → number_code (boot_number st) ≡ kind_code (boot_kind st)
boot-code Booting = refl
boot-code BootWaiting = refl
boot-code BootTested = refl
boot-code BootTaking = refl
boot-code Leaving = refl

pub boot-by-place : (user : List ℕ) (env : ℕ → ℕ) (st : BootStage) (sys : System) → Here kernel user env blocks (boot_number st) sys → kind_now sys ≡ boot_kind st
boot-by-place user env st sys w = ap (λ m. kind_of m sys.hart.pc) w.describes.mode ∙ ap kernel_kind w.describes.at ∙ go (number_code (boot_number st) == 99) refl t
  where
    t : place_ok (boot_number st) w.state ≡ true
    t = subst (λ z. place_ok z w.state ≡ true) w.kind (blocks_all-at place_ok kernel blocks w.block w.state places_right w.among w.on)

    go : (b : Bool) → (number_code (boot_number st) == 99) ≡ b → ◌≡◌ {A = Bool} (elim b [ true ↦ true | false ↦ number_code (boot_number st) == kind_code (kernel_kind w.state.at) ]) true → kernel_kind w.state.at ≡ boot_kind st
    go true e q = absurd (false≢true (sym (code-small (boot_kind st)) ∙ subst (λ z. (z == 99) ≡ true) (boot-code st) e))
    go false e q = code-same (kernel_kind w.state.at) (boot_kind st) (sym (eqb-true _ _ q) ∙ boot-code st)

pub boot-placed : (st : BootStage) (p : Phase) (sys : System) → InBoot (boot_kind st) p sys → Place (boot_kind st) p sys
boot-placed Booting p sys i = i
boot-placed BootWaiting p sys i = i
boot-placed BootTested p sys i = i
boot-placed BootTaking p sys i = i
boot-placed Leaving p sys i = i

-- what the wait of the start knows of the break
abbrev pub starts_boot : ℕ → State → Bool
starts_boot k s = elim (k == boot_waiting_blocks) [ true ↦ same (get_or s.cells break_cell Unknown) (Var v_first_break) && same (get_or s.cells first_break_cell Unknown) (Var v_first_break) | false ↦ true ]

pub boot_right : starts_all starts_boot blocks ≡ true
unfolding kernel kernel_insns blocks call_blocks trap_blocks counter_blocks cells_0 cells_1 cells_2 cells_3 cells_4 cells_5 cells_6 cells_7 cells_8 cells_9 csrs_0 csrs_1 csrs_2
boot_right = refl

-- what the message's blocks know at their start
abbrev pub starts_speak : ℕ → State → Bool
starts_speak k s = elim (k == choosing_blocks) [ true ↦ has_fact (fact false (Var v_cause) (Lit 8) false) s.facts | false ↦ elim (k == passed_blocks || k == full_blocks) [ true ↦ has_fact (fact false (Var v_byte) (Lit 0) false) s.facts | false ↦ true ] ]

pub speak_right : starts_all starts_speak blocks ≡ true
unfolding kernel kernel_insns blocks call_blocks trap_blocks counter_blocks cells_0 cells_1 cells_2 cells_3 cells_4 cells_5 cells_6 cells_7 cells_8 cells_9 csrs_0 csrs_1 csrs_2
speak_right = refl

-- the calls are behind the test of the cause
abbrev pub is_called : ℕ → Bool
is_called k = k == path_gate || k == buffer_gate || k == no_call_gate || k == break_gate || k == request_gate

abbrev pub starts_call : ℕ → State → Bool
starts_call k s = elim (is_called k) [ true ↦ has_fact (fact false (Var v_cause) (Lit 8) true) s.facts | false ↦ true ]

pub call_right : starts_all starts_call blocks ≡ true
unfolding kernel kernel_insns blocks call_blocks trap_blocks counter_blocks cells_0 cells_1 cells_2 cells_3 cells_4 cells_5 cells_6 cells_7 cells_8 cells_9 csrs_0 csrs_1 csrs_2
call_right = refl
