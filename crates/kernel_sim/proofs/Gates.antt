-- The places where the law of the phases changes: tests of what is known there, and what the next stage begins with.
use Rattle.std.proofs.Common.{◌+◌, ◌≡◌, ℕ, zero, suc, ◌-◌, ◌/◌, ◌%◌, ◌==◌, nat_lt, Bool, true, false, ◌&&◌, ◌||◌, inl, inr, List, [], ◌∷◌, set, get_or, refl, sym, subst}
use Rattle.std.proofs.lemmas.Bool.{false≢true, eqb-true}
use Rattle.std.specs.Prelude.{nat_le, not}
use Rattle.rv_alu.specs.declared.arithmetic.AluOp.TheVariants as op
use Rattle.rv_csr.specs.CsrTable.{csr_of}
use Rattle.rv_hart.specs.HartStep.{System}
use Rattle.kernel_sim.specs.UserMode.{user_fence}
use Rattle.kernel_sim.specs.declared.phase.PhaseKind.{PhaseKind}
use Rattle.kernel_sim.specs.declared.phase.PhaseKind.TheVariants.{Boot, BootWait, BootTake, Leave, User, Save, Check, Scan, Fill, Wait, Take, Local, Restore, Speak, Closing}
use Rattle.kernel_steps.specs.Terms.{Term, Lit, Var, Bin, Aligned, Unknown, Fact, combine, is_known}
use Rattle.kernel_steps.specs.States.{State, Describes, OneDescribes}
use Rattle.kernel_steps.specs.Successors.{reg, successors}
use Rattle.kernel_steps.specs.Blocks.{Block, test, step_at, Among, OnRun, IsLast, Here, covered, same, has_fact, implies}
use Rattle.kernel_code.specs.Kernel.{kernel, blocks}
use Rattle.proxy_kernel.specs.KernelWords.{kernel_insns}
use Rattle.kernel_code.specs.Calls.{call_blocks}
use Rattle.kernel_code.specs.TrapWords.{trap_blocks}
use Rattle.kernel_code.specs.CounterWords.{counter_blocks}
use Rattle.kernel_code.specs.Shorthand.{cells_0, cells_1, cells_2, cells_3, cells_4, cells_5, cells_6, cells_7, cells_8, cells_9, csrs_0, csrs_1, csrs_2}
use Rattle.kernel_sim.specs.Phases.{kernel_kind}
use Rattle.kernel_steps.proofs.GraphLaws.{covered-enters, then-l, then-r}
use Rattle.kernel_steps.proofs.Rebase.{state_avoids}
use Rattle.kernel_sim.proofs.Decide.{Gives, Posts, Scans, call_tree, decide, same_answer}
use Rattle.kernel_sim.proofs.Text.{trap_terms, counter_terms}
use Rattle.kernel_steps.proofs.Tests.{blocks_all, starts_all, last_test, last_test-at}
use Rattle.kernel_code.specs.Numbers.{v_scanned, v_word0, v_word1, v_word2, v_word3, v_word4, v_word5, v_break, restoring_blocks, v_value, v_length, v_cause, v_first_break, store_gates, counter_store_gates, trap_words, first_byte_gate, scanning_blocks, next_byte_gate, path_gate, starting_blocks, path_end_gate, v_byte, found_blocks, path_long_gate, long_blocks, path_outside_gate, outside_blocks, buffer_gate, no_call_gate, no_call_blocks, break_gate, break_blocks, request_gate, filling_blocks, path_request_gate, answer_gate, v_fromhost, v_result, taking_blocks, taken_gate, no_call_done_gate, outside_done_gate, long_done_gate, break_done_gate, trap_words_gate, counter_words_gate, counter_words, looked_blocks, passed_blocks, full_blocks, boot_tested_blocks, tested_blocks, trap_end_blocks, counter_end_blocks, trap_idle_blocks, counter_idle_blocks, booting_blocks, waiting_blocks, boot_waiting_blocks, boot_taking_blocks, choosing_blocks, trap_last_blocks, counter_last_blocks, leaving_blocks, v_pc, v_entry, saving_blocks}
use Rattle.kernel_code.specs.Places.{break_cell, tohost_cell, request_cell, pc_path_passed, pc_wait, pc_boot_wait, pc_put_done, pc_wait_test, pc_boot_test, pc_close, pc_return, pc_save, pc_leave_return, pc_path_load, pc_path_loaded, fromhost_cell}
use Rattle.fe_base.specs.MemoryMap.{request, frame}

-- a block of this kind covers the state
abbrev pub lands : ℕ → State → Bool
lands k s = covered (λ a b. b == k) 0 blocks s

abbrev pub forget : State → List ℕ → State
forget s [] = s
forget s (n ∷ ns) = forget (record s { regs = set s.regs n Unknown }) ns

abbrev pub set_reg : State → ℕ → Term → State
set_reg s n v = record s { regs = set s.regs n v }

abbrev pub set_cell : State → ℕ → Term → State
set_cell s n v = record s { cells = set s.cells n v }

abbrev pub no_facts : State → State
no_facts s = record s { facts = [] }

abbrev pub fact : Bool → Term → Term → Bool → Fact
fact d a b t = record { below = d; left = a; right = b; truth = t }

-- the place of a path's byte, and the count with it
abbrev pub byte_at : Term
byte_at = Bin op.Add (Var 11) (Var v_scanned)

abbrev pub one_more : Term
one_more = Bin op.Add (Var v_scanned) (Lit 1)

abbrev pub next_first : State → State
next_first s = s

abbrev pub next_again : State → State
next_again s = no_facts (set_reg s 28 Unknown)

abbrev pub found_at : State → State
found_at s = no_facts (set_reg s 28 Unknown)

abbrev pub fill_at : State → State
fill_at s = no_facts (forget s (17 ∷ 10 ∷ 11 ∷ 12 ∷ 13 ∷ 14 ∷ []))

abbrev pub filled : State → State
filled s = set_reg (set_reg (set_reg (set_reg (set_reg (set_reg s 17 (Var v_word0)) 10 (Var v_word1)) 11 (Var v_word2)) 12 (Var v_word3)) 13 (Var v_word4)) 14 (Var v_word5)

abbrev pub restore_at : State → State
restore_at s = no_facts (set_cell (set_cell (set_reg s 10 Unknown) 42 Unknown) break_cell Unknown)

abbrev pub restored : State → State
restored s = set_cell (set_reg s 10 (Var 10)) break_cell (Var v_break)

abbrev pub all_known : List Term → Bool
all_known [] = true
all_known (s ∷ ss) = is_known s && all_known ss

abbrev pub all_avoid6 : State → Bool
all_avoid6 s = state_avoids v_word0 s && state_avoids v_word1 s && state_avoids v_word2 s && state_avoids v_word3 s && state_avoids v_word4 s && state_avoids v_word5 s

abbrev pub restores : State → Bool
restores s = implies s (restore_at s) && state_avoids 10 (restore_at s) && state_avoids v_break (restore_at s) && lands restoring_blocks (restored (restore_at s))

abbrev pub counter_facts : Bool → List Fact
counter_facts t = fact false (Bin op.Srl (Var v_value) (Lit 25)) (Lit 0x60) t ∷ []

-- the request of a path: openat alone has its fourth argument
abbrev pub path_fill : State → Bool
path_fill s = same (reg s 17) (Var 17) && same (reg s 10) (Var 10) && same (reg s 11) (Var 11) && same (reg s 12) (Var v_length) && same (reg s 13) (Var 12)
    && ((same (reg s 14) (Var 13) && has_fact (fact false (Var 17) (Lit 56) true) s.facts) || (same (reg s 14) (Lit 0) && has_fact (fact false (Var 17) (Lit 56) false) s.facts))

-- ---- messages
abbrev pub message_terms : Bool → List Term
message_terms true = counter_terms
message_terms false = trap_terms

abbrev pub word_term : Term → Term
word_term s = combine op.Add s (Lit 0x0101000000000000)

-- the byte of a message was stored
abbrev pub says_at : Bool → ℕ → State → Bool
says_at c t s = same (get_or s.cells tohost_cell Unknown) (word_term (get_or (message_terms c) t Unknown)) && is_known (get_or (message_terms c) t Unknown) && nat_lt t 57

abbrev pub fact_cause : Fact
fact_cause = fact false (Var v_cause) (Lit 2) true

abbrev pub fact_other : Fact
fact_other = fact false (Var v_cause) (Lit 2) false

abbrev pub fact_opcode : Bool → Fact
fact_opcode t = fact false (Bin op.And (Var v_value) (Lit 127)) (Lit 0x73) t

abbrev pub fact_funct3 : Bool → Fact
fact_funct3 t = fact false (Bin op.And (Bin op.Srl (Var v_value) (Lit 12)) (Lit 3)) (Lit 0) t

abbrev pub fact_number : Bool → Fact
fact_number t = fact false (Bin op.Srl (Var v_value) (Lit 25)) (Lit 0x60) t

abbrev pub no_counter : List Fact → Bool
no_counter fs = has_fact fact_other fs || (has_fact (fact_opcode false) fs || (has_fact (fact_funct3 true) fs || has_fact (fact_number false) fs))

-- the break is as it was
abbrev pub keeps_break : State → Bool
keeps_break s = same (get_or s.cells break_cell Unknown) (Var v_break)

-- the answer of brk
abbrev pub below_first : Bool → Fact
below_first t = fact true (Var 10) (Var v_first_break) t

abbrev pub above_top : Bool → Fact
above_top t = fact true (Lit 15728640) (Var 10) t

abbrev pub stays_break : State → Bool
stays_break s = (same (reg s 10) (Var v_break) && keeps_break s) && (has_fact (below_first true) s.facts || (has_fact (below_first false) s.facts && has_fact (above_top true) s.facts))

abbrev pub moves_break : State → Bool
moves_break s = (same (reg s 10) (Var 10) && same (get_or s.cells break_cell Unknown) (Var 10)) && (has_fact (below_first false) s.facts && has_fact (above_top false) s.facts)

abbrev pub break_answer : State → Bool
break_answer s = stays_break s || moves_break s

abbrev pub gate_ok : ℕ → State → Bool
gate_ok g s =
    elim (nat_le store_gates g) [
      | true ↦ (elim (nat_le counter_store_gates g) [ true ↦ says_at true ((g - counter_store_gates) / 2) s | false ↦ says_at false ((g - (store_gates + trap_words)) / 2) s ]) && lands (g - (store_gates - 1)) s
      | false ↦
          elim (g == first_byte_gate) [
            | true ↦ same (reg s 28) (Lit 0) && state_avoids v_scanned s && lands scanning_blocks (set_reg s 28 (Var v_scanned))
            | false ↦
                elim (g == next_byte_gate) [
                  | true ↦ same (reg s 28) one_more && has_fact (fact false one_more (Lit 4096) false) s.facts && implies s (next_again s) && state_avoids v_scanned (next_again s) && lands scanning_blocks (set_reg (next_again s) 28 (Var v_scanned))
                  | false ↦
                      elim (g == path_gate) [
                        | true ↦ same_answer (decide s.facts call_tree) Scans && lands starting_blocks s
                        | false ↦
                            elim (g == path_end_gate) [
                              | true ↦ same (reg s 28) one_more && has_fact (fact false (Var v_byte) (Lit 0) true) s.facts && implies s (found_at s) && state_avoids v_length (found_at s) && lands found_blocks (set_reg (found_at s) 28 (Var v_length))
                              | false ↦
                                  elim (g == path_long_gate) [
                                    | true ↦ has_fact (fact false one_more (Lit 4096) true) s.facts && lands long_blocks s
                                    | false ↦
                                        elim (g == path_outside_gate) [
                                          | true ↦ (has_fact (fact true byte_at (Lit 65536) true) s.facts || has_fact (fact true byte_at (Lit 16842752) false) s.facts) && lands outside_blocks s
                                          | false ↦
                                              elim (g == buffer_gate) [
                                                | true ↦ same_answer (decide s.facts call_tree) (Gives (Lit 18446744073709551602)) && lands outside_blocks s
                                                | false ↦
                                                    elim (g == no_call_gate) [
                                                      | true ↦ same_answer (decide s.facts call_tree) (Gives (Lit 18446744073709551578)) && lands no_call_blocks s
                                                      | false ↦
                                                          elim (g == break_gate) [
                                                            | true ↦ has_fact (fact false (Var 17) (Lit 214) true) s.facts && lands break_blocks s
                                                            | false ↦
                                                                elim (g == request_gate) [
                                                                  | true ↦ same_answer (decide s.facts call_tree) (Posts (reg s 17 ∷ reg s 10 ∷ reg s 11 ∷ reg s 12 ∷ reg s 13 ∷ reg s 14 ∷ Lit 0 ∷ Lit 0 ∷ [])) && all_known (reg s 17 ∷ reg s 10 ∷ reg s 11 ∷ reg s 12 ∷ reg s 13 ∷ reg s 14 ∷ []) && implies s (fill_at s) && all_avoid6 (fill_at s) && lands filling_blocks (filled (fill_at s))
                                                                  | false ↦
                                                                      elim (g == path_request_gate) [
                                                                        | true ↦ path_fill s && implies s (fill_at s) && all_avoid6 (fill_at s) && lands filling_blocks (filled (fill_at s))
                                                                        | false ↦
                                                                            elim (g == answer_gate) [
                                                                              | true ↦ has_fact (fact false (Var v_fromhost) (Lit 0) false) s.facts && state_avoids v_result s && lands taking_blocks (set_cell (no_facts s) request_cell (Var v_result))
                                                                              | false ↦
                                                                                  elim (g == taken_gate) [
                                                                                    | true ↦ (same (reg s 10) (Var v_result) && same (get_or s.cells request_cell Unknown) (Var v_result) && keeps_break s) && restores s
                                                                                    | false ↦
                                                                                        elim (g == no_call_done_gate) [
                                                                                          | true ↦ (same (reg s 10) (Lit 18446744073709551578) && keeps_break s) && restores s
                                                                                          | false ↦
                                                                                              elim (g == outside_done_gate) [
                                                                                                | true ↦ (same (reg s 10) (Lit 18446744073709551602) && keeps_break s) && restores s
                                                                                                | false ↦
                                                                                                    elim (g == long_done_gate) [
                                                                                                      | true ↦ (same (reg s 10) (Lit 18446744073709551580) && keeps_break s) && restores s
                                                                                                      | false ↦
                                                                                                          elim (g == break_done_gate) [
                                                                                                            | true ↦ restores s && break_answer s
                                                                                                            | false ↦
                                                                                                                elim (g == trap_words_gate) [
                                                                                                                  | true ↦ no_counter s.facts && lands trap_words (no_facts s)
                                                                                                                  | false ↦
                                                                                                                      elim (g == counter_words_gate) [
                                                                                                                        | true ↦ has_fact fact_cause s.facts && has_fact (fact_opcode true) s.facts && has_fact (fact_funct3 false) s.facts && has_fact (fact_number true) s.facts && lands counter_words (no_facts s)
                                                                                                                        | false ↦
                                                                                                                            true
                                                                                                                      ]
                                                                                                                ]
                                                                                                          ]
                                                                                                    ]
                                                                                              ]
                                                                                        ]
                                                                                  ]
                                                                            ]
                                                                      ]
                                                                ]
                                                          ]
                                                    ]
                                              ]
                                        ]
                                  ]
                            ]
                      ]
                ]
          ]
    ]

pub gates_right : starts_all gate_ok blocks ≡ true
unfolding kernel kernel_insns blocks call_blocks trap_blocks counter_blocks cells_0 cells_1 cells_2 cells_3 cells_4 cells_5 cells_6 cells_7 cells_8 cells_9 csrs_0 csrs_1 csrs_2 csr_of
gates_right = refl

-- ---- the kind by the place
abbrev pub kind_code : PhaseKind → ℕ
kind_code Boot = 0
kind_code BootWait = 1
kind_code BootTake = 2
kind_code Leave = 3
kind_code User = 4
kind_code Save = 5
kind_code Check = 6
kind_code Scan = 7
kind_code Fill = 8
kind_code Wait = 9
kind_code Take = 10
kind_code Local = 11
kind_code Restore = 12
kind_code Speak = 13
kind_code Closing = 14

-- the code of the kind that a block's number belongs to; 99 where it is a gate's
abbrev pub number_code : ℕ → ℕ
number_code n =
    elim (nat_le trap_words n) [
      | true ↦ 13
      | false ↦ elim (nat_le n 14) [
        | true ↦ n
        | false ↦ elim (n == looked_blocks || n == passed_blocks || n == starting_blocks || n == full_blocks) [
          | true ↦ 7
          | false ↦ elim (n == found_blocks) [
            | true ↦ 8
            | false ↦ elim (n == boot_tested_blocks) [
              | true ↦ 1
              | false ↦ elim (n == tested_blocks) [
                | true ↦ 9
                | false ↦
                    elim (n == outside_blocks || n == long_blocks || n == break_blocks) [ true ↦ 11 | false ↦ elim (n == trap_end_blocks || n == counter_end_blocks || n == trap_idle_blocks || n == counter_idle_blocks) [ true ↦ 14 | false ↦ 99 ] ]
              ]
            ]
          ]
        ]
      ]
    ]

abbrev pub place_ok : ℕ → State → Bool
place_ok n s = elim (number_code n == 99) [ true ↦ true | false ↦ number_code n == kind_code (kernel_kind s.at) ]

pub places_right : blocks_all place_ok kernel blocks ≡ true
unfolding kernel kernel_insns blocks call_blocks trap_blocks counter_blocks cells_0 cells_1 cells_2 cells_3 cells_4 cells_5 cells_6 cells_7 cells_8 cells_9 csrs_0 csrs_1 csrs_2 csr_of kernel_kind
places_right = refl

-- the step that passes a byte of a path leads to one place
abbrev pub passes_ok : ℕ → State → Bool
passes_ok n s = elim (n == scanning_blocks || n == looked_blocks || n == starting_blocks || n == full_blocks) [ true ↦ not (s.at == pc_path_passed) | false ↦ elim (n == passed_blocks) [ true ↦ s.at == pc_path_passed | false ↦ true ] ]

pub passes_right : blocks_all passes_ok kernel blocks ≡ true
unfolding kernel kernel_insns blocks call_blocks trap_blocks counter_blocks cells_0 cells_1 cells_2 cells_3 cells_4 cells_5 cells_6 cells_7 cells_8 cells_9 csrs_0 csrs_1 csrs_2 csr_of
passes_right = refl

-- the break stays
abbrev pub breaks_ok : ℕ → State → Bool
breaks_ok n s = elim (n == no_call_blocks || n == outside_blocks || n == long_blocks) [ true ↦ same (get_or s.cells break_cell Unknown) (Var v_break) | false ↦ true ]

pub breaks_right : blocks_all breaks_ok kernel blocks ≡ true
unfolding kernel kernel_insns blocks call_blocks trap_blocks counter_blocks cells_0 cells_1 cells_2 cells_3 cells_4 cells_5 cells_6 cells_7 cells_8 cells_9 csrs_0 csrs_1 csrs_2 csr_of
breaks_right = refl

-- the break in a call of brk
abbrev pub moved_ok : ℕ → State → Bool
moved_ok n s = elim (n == break_blocks) [ true ↦ same (get_or s.cells break_cell Unknown) (Var v_break) || (same (get_or s.cells break_cell Unknown) (Var 10) && (has_fact (below_first false) s.facts && has_fact (above_top false) s.facts)) | false ↦ true ]

pub moved_right : blocks_all moved_ok kernel blocks ≡ true
unfolding kernel kernel_insns blocks call_blocks trap_blocks counter_blocks cells_0 cells_1 cells_2 cells_3 cells_4 cells_5 cells_6 cells_7 cells_8 cells_9 csrs_0 csrs_1 csrs_2 csr_of
moved_right = refl

-- what a step leads to
abbrev pub all_st : (State → Bool) → List State → Bool
all_st f [] = true
all_st f (t ∷ ts) = elim (f t) [ true ↦ all_st f ts | false ↦ false ]

pub one-st : (user : List ℕ) (env : ℕ → ℕ) (f : State → Bool) (ts : List State) (sys : System) → OneDescribes kernel user env ts sys → all_st f ts ≡ true → (t : State) × (f t ≡ true) × Describes kernel user env t sys
one-st user env f [] sys m e = absurd m
one-st user env f (t ∷ ts) sys (inl m) e = (t, then-l _ _ e, m)
one-st user env f (t ∷ ts) sys (inr m) e = one-st user env f ts sys m (then-r (f t) _ e)

abbrev pub cell_of : State → ℕ → Term
cell_of t c = get_or t.cells c Unknown

abbrev pub has_posted : State → Term → Term → Term → Term → Term → Term → Bool
has_posted t a b c d e f =
    same (cell_of t tohost_cell) (Lit request) && (same (cell_of t request_cell) a && (same (cell_of t (request_cell + 1)) b && (same (cell_of t (request_cell + 2)) c && (same (cell_of t (request_cell + 3)) d && (same (cell_of t (request_cell + 4)) e && (same (cell_of t (request_cell + 5)) f && (same (cell_of t (request_cell + 6)) (Lit 0) && same (cell_of t (request_cell + 7)) (Lit 0))))))))

abbrev pub posts_call : State → Bool
posts_call t = not (t.at == pc_wait) || has_posted t (Var v_word0) (Var v_word1) (Var v_word2) (Var v_word3) (Var v_word4) (Var v_word5)

abbrev pub posts_boot : State → Bool
posts_boot t = not (t.at == pc_boot_wait) || has_posted t (Lit 2011) (Lit 0x1000000) (Lit 65536) (Lit 0) (Lit 0) (Lit 0)

abbrev pub has_come : State → Bool
has_come t = (t.at == pc_boot_wait) || has_fact (fact false (Var v_fromhost) (Lit 0) false) t.facts

abbrev pub posts_ok : ℕ → State → Bool
posts_ok k u =
    elim (k == filling_blocks) [ true ↦ test (successors kernel u) (all_st posts_call) | false ↦ elim (k == booting_blocks) [ true ↦ test (successors kernel u) (all_st posts_boot) | false ↦ elim (k == boot_tested_blocks) [ true ↦ test (successors kernel u) (all_st has_come) | false ↦ true ] ] ]

pub posts_right : blocks_all posts_ok kernel blocks ≡ true
unfolding kernel kernel_insns blocks call_blocks trap_blocks counter_blocks cells_0 cells_1 cells_2 cells_3 cells_4 cells_5 cells_6 cells_7 cells_8 cells_9 csrs_0 csrs_1 csrs_2 csr_of
posts_right = refl

-- where the waits begin, and the place behind the wait of the start
abbrev pub begins_ok : ℕ → State → Bool
begins_ok k s = elim (k == waiting_blocks) [ true ↦ s.at == pc_wait | false ↦ elim (k == boot_waiting_blocks) [ true ↦ s.at == pc_boot_wait | false ↦ elim (k == boot_taking_blocks) [ true ↦ not (s.at == pc_boot_wait) | false ↦ true ] ] ]

pub begins_right : starts_all begins_ok blocks ≡ true
unfolding kernel kernel_insns blocks call_blocks trap_blocks counter_blocks cells_0 cells_1 cells_2 cells_3 cells_4 cells_5 cells_6 cells_7 cells_8 cells_9 csrs_0 csrs_1 csrs_2
begins_right = refl

-- a message's byte was stored at one place, from which the step leads elsewhere
abbrev pub speaks_ok : ℕ → State → Bool
speaks_ok n s = elim (nat_le store_gates n) [ true ↦ true | false ↦ elim (nat_le trap_words n) [ true ↦ elim (n % 2 == 0) [ true ↦ not (s.at == pc_put_done) | false ↦ s.at == pc_put_done ] | false ↦ elim (n == choosing_blocks || n == trap_end_blocks || n == counter_end_blocks) [ true ↦ not (s.at == pc_put_done) | false ↦ elim (n == tested_blocks) [ true ↦ s.at == pc_wait_test | false ↦ elim (n == boot_tested_blocks) [ true ↦ s.at == pc_boot_test | false ↦ true ] ] ] ] ]

pub speaks_right : blocks_all speaks_ok kernel blocks ≡ true
unfolding kernel kernel_insns blocks call_blocks trap_blocks counter_blocks cells_0 cells_1 cells_2 cells_3 cells_4 cells_5 cells_6 cells_7 cells_8 cells_9 csrs_0 csrs_1 csrs_2 csr_of
speaks_right = refl

abbrev pub all_at : (ℕ → Bool) → List State → Bool
all_at f [] = true
all_at f (t ∷ ts) = elim (f t.at) [ true ↦ all_at f ts | false ↦ false ]

-- only the last byte's blocks lead to the end, which stands behind the other places of the messages
abbrev pub ends_here : ℕ → Bool
ends_here k = k == trap_last_blocks || k == counter_last_blocks

abbrev pub closes_ok : ℕ → State → Bool
closes_ok k u =
    elim (nat_le store_gates k) [
      | true ↦ true
      | false ↦ elim (nat_le trap_words k) [ true ↦ elim (ends_here k) [ true ↦ true | false ↦ test (successors kernel u) (all_at (λ a. nat_lt a pc_close)) ] | false ↦ elim (k == trap_end_blocks || k == counter_end_blocks) [ true ↦ not (nat_lt u.at pc_close) | false ↦ true ] ]
    ]

pub closes_right : blocks_all closes_ok kernel blocks ≡ true
unfolding kernel kernel_insns blocks call_blocks trap_blocks counter_blocks cells_0 cells_1 cells_2 cells_3 cells_4 cells_5 cells_6 cells_7 cells_8 cells_9 csrs_0 csrs_1 csrs_2 csr_of
closes_right = refl

-- where a step leads to
abbrev pub leads_ok : ℕ → State → Bool
leads_ok n u =
    elim (nat_le store_gates n) [
      | true ↦ true
      | false ↦ elim (n == passed_blocks) [
        | true ↦ test (successors kernel u) (all_at (λ a. not (a == pc_path_passed)))
        | false ↦ elim (nat_le trap_words n) [ true ↦ elim (n % 2 == 0) [ true ↦ true | false ↦ test (successors kernel u) (all_at (λ a. not (a == pc_put_done))) ] | false ↦ elim (n == tested_blocks) [ true ↦ test (successors kernel u) (all_at (λ a. not (a == pc_wait_test))) | false ↦ elim (n == boot_tested_blocks) [ true ↦ test (successors kernel u) (all_at (λ a. not (a == pc_boot_test))) | false ↦ true ] ] ]
      ]
    ]

pub leads_right : blocks_all leads_ok kernel blocks ≡ true
unfolding kernel kernel_insns blocks call_blocks trap_blocks counter_blocks cells_0 cells_1 cells_2 cells_3 cells_4 cells_5 cells_6 cells_7 cells_8 cells_9 csrs_0 csrs_1 csrs_2 csr_of
leads_right = refl

-- the next pc is that of one of the states that are listed
pub next-pc : (user : List ℕ) (env : ℕ → ℕ) (f : ℕ → Bool) (ts : List State) (sys : System) → OneDescribes kernel user env ts sys → all_at f ts ≡ true → f sys.hart.pc ≡ true
next-pc user env f [] sys m e = absurd m
next-pc user env f (t ∷ ts) sys (inl m) e = subst (λ z. f z ≡ true) (sym m.at) (then-l _ _ e)
next-pc user env f (t ∷ ts) sys (inr m) e = next-pc user env f ts sys m (then-r (f t.at) _ e)

-- which blocks end at a place whose step is left open
abbrev pub is_open : ℕ → Bool
is_open n = elim (nat_le store_gates n || n == leaving_blocks || n == restoring_blocks || n == scanning_blocks || n == waiting_blocks || n == boot_waiting_blocks) [ true ↦ true | false ↦ number_code n == 99 ]

abbrev pub all_closed : List Block → Bool
all_closed [] = true
all_closed (b ∷ bs) = elim (b.checked || is_open b.kind) [ true ↦ all_closed bs | false ↦ false ]

pub closed_right : all_closed blocks ≡ true
unfolding kernel kernel_insns blocks call_blocks trap_blocks counter_blocks cells_0 cells_1 cells_2 cells_3 cells_4 cells_5 cells_6 cells_7 cells_8 cells_9 csrs_0 csrs_1 csrs_2
closed_right = refl

never-open : (bs : List Block) (b : Block) (k : ℕ) → all_closed bs ≡ true → Among b bs → b.kind ≡ k → is_open k ≡ false → b.checked ≡ false → ⊥
never-open [] b k e a i o c = absurd a
never-open (d ∷ bs) b k e (inl q) i o c =
    let t = then-l (d.checked || is_open d.kind) _ e in
    let u = subst (λ z. (z.checked || is_open z.kind) ≡ true) (sym q) t in
    let w : (false || false) ≡ true = subst (λ z. (false || z) ≡ true) o (subst (λ z. (false || is_open z) ≡ true) i (subst (λ z. (z || is_open b.kind) ≡ true) c u)) in
    false≢true w
never-open (d ∷ bs) b k e (inr q) i o c = never-open bs b k (then-r (d.checked || is_open d.kind) _ e) q i o c

pub not-open : (b : Block) (k : ℕ) → Among b blocks → b.kind ≡ k → is_open k ≡ false → b.checked ≡ false → ⊥
not-open b k a i o c = never-open blocks b k closed_right a i o c

-- ---- places whose step is left open: the load of a path's byte, and MRET
abbrev pub at_mret : State
at_mret = record {
  at = pc_return;
  regs = Lit 0 ∷ Var 1 ∷ Var 2 ∷ Var 3 ∷ Var 4 ∷ Var 5 ∷ Var 6 ∷ Var 7 ∷ Var 8 ∷ Var 9 ∷ Var 10 ∷ Var 11 ∷ Var 12 ∷ Var 13 ∷ Var 14 ∷ Var 15 ∷ Var 16 ∷ Var 17 ∷ Var 18 ∷ Var 19 ∷ Var 20 ∷ Var 21 ∷ Var 22 ∷ Var 23 ∷ Var 24 ∷ Var 25 ∷ Var 26 ∷ Var 27 ∷ Var 28 ∷ Var 29 ∷ Var 30 ∷ Var 31 ∷ [];
  csrs = record { scratch = Lit frame; epc = Aligned (Bin op.Add (Var v_pc) (Lit 4)); cause = Unknown; tval = Unknown; tvec = Lit pc_save; pmp = user_fence };
  cells = Unknown ∷ Unknown ∷ Unknown ∷ Unknown ∷ Unknown ∷ Unknown ∷ Unknown ∷ Unknown ∷ Unknown ∷ Unknown ∷ Unknown ∷ Unknown ∷ Unknown ∷ Unknown ∷ Unknown ∷ Unknown ∷ Unknown ∷ Unknown ∷ Unknown ∷ Unknown ∷ Unknown ∷ Unknown ∷ Unknown ∷ Unknown ∷ Unknown ∷ Unknown ∷ Unknown ∷ Unknown ∷ Unknown ∷ Unknown ∷ Unknown ∷ Unknown ∷ Unknown ∷ Unknown ∷ Unknown ∷ Unknown ∷ Unknown ∷ Unknown ∷ Unknown ∷ Unknown ∷ Unknown ∷ Unknown ∷ Unknown ∷ Unknown ∷ Unknown ∷ Unknown ∷ Unknown ∷ Unknown ∷ Unknown ∷ Unknown ∷ Unknown ∷ Unknown ∷ Unknown ∷ Unknown ∷ Unknown ∷ Unknown ∷ Unknown ∷ Unknown ∷ Unknown ∷ Unknown ∷ Unknown ∷ Unknown ∷ Unknown ∷ Unknown ∷ Var v_entry ∷ Var v_first_break ∷ Var v_break ∷ [];
  facts = [];
}

abbrev pub at_leave : State
at_leave = record {
  at = pc_leave_return;
  regs = Lit 0 ∷ Lit 0 ∷ Lit 0x1000000 ∷ Lit 0 ∷ Lit 0 ∷ Lit 0 ∷ Lit 0 ∷ Lit 0 ∷ Lit 0 ∷ Lit 0 ∷ Lit 0 ∷ Lit 0 ∷ Lit 0 ∷ Lit 0 ∷ Lit 0 ∷ Lit 0 ∷ Lit 0 ∷ Lit 0 ∷ Lit 0 ∷ Lit 0 ∷ Lit 0 ∷ Lit 0 ∷ Lit 0 ∷ Lit 0 ∷ Lit 0 ∷ Lit 0 ∷ Lit 0 ∷ Lit 0 ∷ Lit 0 ∷ Lit 0 ∷ Lit 0 ∷ Lit 0 ∷ [];
  csrs = record { scratch = Lit frame; epc = Aligned (Var v_entry); cause = Unknown; tval = Unknown; tvec = Lit pc_save; pmp = user_fence };
  cells = Unknown ∷ Unknown ∷ Unknown ∷ Unknown ∷ Unknown ∷ Unknown ∷ Unknown ∷ Unknown ∷ Unknown ∷ Unknown ∷ Unknown ∷ Unknown ∷ Unknown ∷ Unknown ∷ Unknown ∷ Unknown ∷ Unknown ∷ Unknown ∷ Unknown ∷ Unknown ∷ Unknown ∷ Unknown ∷ Unknown ∷ Unknown ∷ Unknown ∷ Unknown ∷ Unknown ∷ Unknown ∷ Unknown ∷ Unknown ∷ Unknown ∷ Unknown ∷ Unknown ∷ Unknown ∷ Unknown ∷ Unknown ∷ Unknown ∷ Unknown ∷ Unknown ∷ Unknown ∷ Unknown ∷ Unknown ∷ Unknown ∷ Unknown ∷ Unknown ∷ Unknown ∷ Unknown ∷ Unknown ∷ Unknown ∷ Unknown ∷ Unknown ∷ Unknown ∷ Unknown ∷ Unknown ∷ Unknown ∷ Unknown ∷ Unknown ∷ Unknown ∷ Unknown ∷ Unknown ∷ Unknown ∷ Unknown ∷ Unknown ∷ Unknown ∷ Var v_entry ∷ Var v_first_break ∷ Var v_first_break ∷ [];
  facts = [];
}

abbrev pub open_ok : ℕ → State → Bool
open_ok k u =
    elim (k == scanning_blocks) [
      | true ↦ (u.at == pc_path_load) && same (reg u 5) byte_at && has_fact (fact true byte_at (Lit 65536) false) u.facts && has_fact (fact true byte_at (Lit 16842752) true) u.facts && state_avoids v_byte u && lands looked_blocks (record u { at = pc_path_loaded; regs = set u.regs 5 (Var v_byte) })
      | false ↦ elim (k == restoring_blocks) [ true ↦ implies u at_mret | false ↦ elim (k == waiting_blocks) [ true ↦ state_avoids v_fromhost u && test (step_at kernel (set_cell u fromhost_cell (Var v_fromhost))) (λ t. same (get_or t.cells fromhost_cell Unknown) (Var v_fromhost) && lands tested_blocks t) | false ↦ elim (k == boot_waiting_blocks) [ true ↦ state_avoids v_fromhost u && test (step_at kernel (set_cell u fromhost_cell (Var v_fromhost))) (λ t. same (get_or t.cells fromhost_cell Unknown) (Var v_fromhost) && lands boot_tested_blocks t) | false ↦ elim (k == leaving_blocks) [ true ↦ implies u at_leave | false ↦ true ] ] ] ]
    ]

abbrev pub opens_all : List Block → Bool
opens_all [] = true
opens_all (b ∷ bs) = elim b.checked [ true ↦ opens_all bs | false ↦ elim (last_test (open_ok b.kind) kernel b.size b.start) [ true ↦ opens_all bs | false ↦ false ] ]

opens_right : opens_all blocks ≡ true
unfolding kernel kernel_insns blocks call_blocks trap_blocks counter_blocks cells_0 cells_1 cells_2 cells_3 cells_4 cells_5 cells_6 cells_7 cells_8 cells_9 csrs_0 csrs_1 csrs_2 csr_of
opens_right = refl

opens-among : (bs : List Block) (b : Block) (u : State) → opens_all bs ≡ true → Among b bs → b.checked ≡ false → IsLast kernel b.size b.start u → open_ok b.kind u ≡ true
opens-among [] b u e a c i = absurd a
opens-among (d ∷ bs) b u e (inl q) c i = go b.checked c (subst (λ z. ◌≡◌ {A = Bool} (elim z.checked [ true ↦ opens_all bs | false ↦ elim (last_test (open_ok z.kind) kernel z.size z.start) [ true ↦ opens_all bs | false ↦ false ] ]) true) (sym q) e)
  where
    go : (x : Bool) → x ≡ false → ◌≡◌ {A = Bool} (elim x [ true ↦ opens_all bs | false ↦ elim (last_test (open_ok b.kind) kernel b.size b.start) [ true ↦ opens_all bs | false ↦ false ] ]) true → open_ok b.kind u ≡ true
    go true f g = absurd (false≢true (sym f))
    go false f g = last_test-at (open_ok b.kind) kernel b.size b.start u (then-l _ _ g) i
opens-among (d ∷ bs) b u e (inr q) c i = go d.checked e (λ g. opens-among bs b u g q c i)
  where
    go : (x : Bool) → ◌≡◌ {A = Bool} (elim x [ true ↦ opens_all bs | false ↦ elim (last_test (open_ok d.kind) kernel d.size d.start) [ true ↦ opens_all bs | false ↦ false ] ]) true → (opens_all bs ≡ true → open_ok b.kind u ≡ true) → open_ok b.kind u ≡ true
    go true g f = f g
    go false g f = f (then-r (last_test (open_ok d.kind) kernel d.size d.start) _ g)

pub opens-at : (b : Block) (u : State) → Among b blocks → b.checked ≡ false → IsLast kernel b.size b.start u → open_ok b.kind u ≡ true
opens-at b u a c i = opens-among blocks b u opens_right a c i

abbrev pub at_save : State
at_save = record { at = pc_save; regs = at_mret.regs; csrs = record { scratch = Lit frame; epc = Var v_pc; cause = Var v_cause; tval = Var v_value; tvec = Lit pc_save; pmp = user_fence }; cells = at_mret.cells; facts = [] }

pub save_lands : lands saving_blocks at_save ≡ true
unfolding kernel kernel_insns blocks call_blocks trap_blocks counter_blocks cells_0 cells_1 cells_2 cells_3 cells_4 cells_5 cells_6 cells_7 cells_8 cells_9 csrs_0 csrs_1 csrs_2
save_lands = refl

-- ---- landing
on-start : (n : ℕ) (s : State) → OnRun kernel n s s
on-start zero s = refl
on-start (suc n) s = inl refl

pub start-here : (user : List ℕ) (env : ℕ → ℕ) (k : ℕ) (b : Block) (sys : System) → Among b blocks → b.kind ≡ k → Describes kernel user env b.start sys → Here kernel user env blocks k sys
start-here user env k b sys a e m = record { block = b; among = a; kind = e; state = b.start; on = on-start b.size b.start; describes = m }

pub landed : (user : List ℕ) (env : ℕ → ℕ) (k : ℕ) (s : State) (sys : System) → lands k s ≡ true → Describes kernel user env s sys → Here kernel user env blocks k sys
landed user env k s sys e m =
    let n = covered-enters kernel user env (λ a b. b == k) blocks blocks booting_blocks s sys e m in
    start-here user env k n.block sys n.among (eqb-true n.block.kind k n.goes) n.describes
