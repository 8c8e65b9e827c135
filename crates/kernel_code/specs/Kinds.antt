-- Which blocks may follow each other, by their numbers. Written by tools/kernel_blocks.py.
use Rattle.std.specs.Prelude.{ℕ, ◌+◌, ◌%◌, ◌==◌, nat_le, Bool, true, false, List, [], ◌∷◌}
use Rattle.kernel_steps.specs.Blocks.{member}
use Rattle.kernel_code.specs.Numbers.{booting_blocks, boot_waiting_blocks, boot_taking_blocks, leaving_blocks, saving_blocks, checking_blocks, scanning_blocks, filling_blocks, waiting_blocks, taking_blocks, no_call_blocks, choosing_blocks, first_byte_gate, next_byte_gate, path_gate, path_end_gate, path_long_gate, path_outside_gate, buffer_gate, no_call_gate, break_gate, request_gate, path_request_gate, answer_gate, taken_gate, no_call_done_gate, trap_words_gate, counter_words_gate, outside_blocks, long_blocks, break_blocks, outside_done_gate, long_done_gate, break_done_gate, looked_blocks, passed_blocks, found_blocks, trap_end_blocks, counter_end_blocks, trap_idle_blocks, counter_idle_blocks, starting_blocks, full_blocks, tested_blocks, boot_tested_blocks, trap_words, counter_words, store_gates}

-- behind a byte of a message: the wait for TOHOST, the store, or the end; behind its store: the next byte
abbrev pub message_followers : ℕ → List ℕ
message_followers a =
    elim (a % 2 == 0) [
      | true ↦ a ∷ (store_gates + a) ∷ (elim (nat_le counter_words a) [ true ↦ counter_end_blocks | false ↦ trap_end_blocks ]) ∷ []
      | false ↦ (a + 1) ∷ []
    ]

-- these, where the number is this one, or else the others
abbrev pub listed : ℕ → ℕ → List ℕ → List ℕ → List ℕ
listed number a these others = elim (a == number) [ true ↦ these | false ↦ others ]

-- what may follow a block of this number
abbrev pub followers : ℕ → List ℕ
followers a =
    elim (nat_le trap_words a) [
      | true ↦ message_followers a
      | false ↦
          listed booting_blocks a (boot_waiting_blocks ∷ [])
          (listed boot_taking_blocks a (leaving_blocks ∷ [])
          (listed saving_blocks a (checking_blocks ∷ [])
          (listed checking_blocks a (checking_blocks ∷ choosing_blocks ∷ path_gate ∷ buffer_gate ∷ no_call_gate ∷ break_gate ∷ request_gate ∷ [])
          (listed scanning_blocks a (scanning_blocks ∷ path_outside_gate ∷ [])
          (listed filling_blocks a (waiting_blocks ∷ [])
          (listed taking_blocks a (taken_gate ∷ [])
          (listed no_call_blocks a (no_call_done_gate ∷ [])
          (listed choosing_blocks a (choosing_blocks ∷ trap_words_gate ∷ counter_words_gate ∷ [])
          (listed outside_blocks a (outside_done_gate ∷ [])
          (listed long_blocks a (long_done_gate ∷ [])
          (listed break_blocks a (break_blocks ∷ break_done_gate ∷ [])
          (listed looked_blocks a (path_end_gate ∷ passed_blocks ∷ [])
          (listed passed_blocks a (next_byte_gate ∷ full_blocks ∷ [])
          (listed found_blocks a (path_request_gate ∷ found_blocks ∷ [])
          (listed trap_end_blocks a (trap_end_blocks ∷ trap_idle_blocks ∷ [])
          (listed counter_end_blocks a (counter_end_blocks ∷ counter_idle_blocks ∷ [])
          (listed trap_idle_blocks a (trap_idle_blocks ∷ [])
          (listed counter_idle_blocks a (counter_idle_blocks ∷ [])
          (listed starting_blocks a (first_byte_gate ∷ [])
          (listed full_blocks a (path_long_gate ∷ [])
          (listed tested_blocks a (waiting_blocks ∷ answer_gate ∷ [])
          (listed boot_tested_blocks a (boot_waiting_blocks ∷ boot_taking_blocks ∷ []) []))))))))))))))))))))))
    ]

-- a block of the second number may follow one of the first
abbrev pub may_follow : ℕ → ℕ → Bool
may_follow a b = member b (followers a)
