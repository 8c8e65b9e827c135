-- The blocks of the start of the kernel, and calls. Written by tools/kernel_blocks.py.
use Rattle.std.specs.Prelude.{true, false, List, [], ◌∷◌}
use Rattle.rv_alu.specs.declared.arithmetic.AluOp.TheVariants as op
use Rattle.kernel_steps.specs.Terms.{Bin}
use Rattle.kernel_steps.specs.Blocks.{Block}
use Rattle.kernel_code.specs.Numbers.{booting_blocks, boot_waiting_blocks, boot_taking_blocks, leaving_blocks, saving_blocks, checking_blocks, scanning_blocks, filling_blocks, waiting_blocks, taking_blocks, no_call_blocks, restoring_blocks, choosing_blocks, first_byte_gate, next_byte_gate, path_gate, path_end_gate, path_long_gate, path_outside_gate, buffer_gate, no_call_gate, break_gate, request_gate, path_request_gate, answer_gate, taken_gate, no_call_done_gate, trap_words_gate, counter_words_gate, outside_blocks, long_blocks, break_blocks, outside_done_gate, long_done_gate, break_done_gate, looked_blocks, passed_blocks, found_blocks, trap_end_blocks, counter_end_blocks, trap_idle_blocks, counter_idle_blocks, starting_blocks, full_blocks, tested_blocks, boot_tested_blocks}
use Rattle.kernel_code.specs.Shorthand.{A, v, l, f, b, cells_0, cells_1, cells_2, cells_3, cells_4, cells_5, cells_6, cells_7, cells_8, cells_9, csrs_0, csrs_1, csrs_2}

-- by kind, place, what is known there, and size
unfoldable pub call_blocks : List Block
call_blocks =
    b booting_blocks 0x80000000 (l 0 ∷ l 0 ∷ l 0 ∷ l 0 ∷ l 0 ∷ l 0 ∷ l 0 ∷ l 0 ∷ l 0 ∷ l 0 ∷ l 0 ∷ l 0 ∷ l 0 ∷ l 0 ∷ l 0 ∷ l 0 ∷ l 0 ∷ l 0 ∷ l 0 ∷ l 0 ∷ l 0 ∷ l 0 ∷ l 0 ∷ l 0 ∷ l 0 ∷ l 0 ∷ l 0 ∷ l 0 ∷ l 0 ∷ l 0 ∷ l 0 ∷ l 0 ∷ []) csrs_0 cells_0 ([]) 22 true ∷
    b boot_waiting_blocks 0x8000005c (l 0 ∷ A ∷ l 0x1000000 ∷ l 0 ∷ l 0 ∷ l 0 ∷ l 0 ∷ l 0 ∷ l 0 ∷ l 0 ∷ l 0 ∷ l 0 ∷ l 0 ∷ l 0 ∷ l 0 ∷ l 0 ∷ l 0 ∷ l 0 ∷ l 0 ∷ l 0 ∷ l 0 ∷ l 0 ∷ l 0 ∷ l 0 ∷ l 0 ∷ l 0 ∷ l 0 ∷ l 0 ∷ l 0 ∷ l 0 ∷ l 0 ∷ l 0x80008100 ∷ []) csrs_1 cells_1 ([]) 0 false ∷
    b boot_tested_blocks 0x80000060 (l 0 ∷ v 43 ∷ l 0x1000000 ∷ l 0 ∷ l 0 ∷ l 0 ∷ l 0 ∷ l 0 ∷ l 0 ∷ l 0 ∷ l 0 ∷ l 0 ∷ l 0 ∷ l 0 ∷ l 0 ∷ l 0 ∷ l 0 ∷ l 0 ∷ l 0 ∷ l 0 ∷ l 0 ∷ l 0 ∷ l 0 ∷ l 0 ∷ l 0 ∷ l 0 ∷ l 0 ∷ l 0 ∷ l 0 ∷ l 0 ∷ l 0 ∷ l 0x80008100 ∷ []) csrs_1 cells_1 ([]) 0 true ∷
    b boot_taking_blocks 0x80000064 (l 0 ∷ v 43 ∷ l 0x1000000 ∷ l 0 ∷ l 0 ∷ l 0 ∷ l 0 ∷ l 0 ∷ l 0 ∷ l 0 ∷ l 0 ∷ l 0 ∷ l 0 ∷ l 0 ∷ l 0 ∷ l 0 ∷ l 0 ∷ l 0 ∷ l 0 ∷ l 0 ∷ l 0 ∷ l 0 ∷ l 0 ∷ l 0 ∷ l 0 ∷ l 0 ∷ l 0 ∷ l 0 ∷ l 0 ∷ l 0 ∷ l 0 ∷ l 0x80008100 ∷ []) csrs_1 cells_1 (f false (v 43) (l 0) false ∷ []) 0 true ∷
    b leaving_blocks 0x80000068 (l 0 ∷ A ∷ l 0x1000000 ∷ l 0 ∷ l 0 ∷ l 0 ∷ l 0 ∷ l 0 ∷ l 0 ∷ l 0 ∷ l 0 ∷ l 0 ∷ l 0 ∷ l 0 ∷ l 0 ∷ l 0 ∷ l 0 ∷ l 0 ∷ l 0 ∷ l 0 ∷ l 0 ∷ l 0 ∷ l 0 ∷ l 0 ∷ l 0 ∷ l 0 ∷ l 0 ∷ l 0 ∷ l 0 ∷ l 0 ∷ l 0 ∷ l 0x80008100 ∷ []) csrs_1 cells_2 (f false (v 43) (l 0) false ∷ []) 4 false ∷
    b saving_blocks 0x8000007c (l 0 ∷ v 1 ∷ v 2 ∷ v 3 ∷ v 4 ∷ v 5 ∷ v 6 ∷ v 7 ∷ v 8 ∷ v 9 ∷ v 10 ∷ v 11 ∷ v 12 ∷ v 13 ∷ v 14 ∷ v 15 ∷ v 16 ∷ v 17 ∷ v 18 ∷ v 19 ∷ v 20 ∷ v 21 ∷ v 22 ∷ v 23 ∷ v 24 ∷ v 25 ∷ v 26 ∷ v 27 ∷ v 28 ∷ v 29 ∷ v 30 ∷ v 31 ∷ []) csrs_2 cells_3 ([]) 33 true ∷
    b checking_blocks 0x80000104 (l 0 ∷ A ∷ A ∷ A ∷ A ∷ A ∷ A ∷ A ∷ A ∷ A ∷ v 10 ∷ v 11 ∷ v 12 ∷ v 13 ∷ v 14 ∷ v 15 ∷ A ∷ v 17 ∷ A ∷ A ∷ A ∷ A ∷ A ∷ A ∷ A ∷ A ∷ A ∷ A ∷ A ∷ A ∷ A ∷ l 0x80008100 ∷ []) csrs_2 cells_4 ([]) 2 true ∷
    b checking_blocks 0x80000110 (l 0 ∷ A ∷ A ∷ A ∷ A ∷ v 40 ∷ l 8 ∷ A ∷ A ∷ A ∷ v 10 ∷ v 11 ∷ v 12 ∷ v 13 ∷ v 14 ∷ v 15 ∷ A ∷ v 17 ∷ A ∷ A ∷ A ∷ A ∷ A ∷ A ∷ A ∷ A ∷ A ∷ A ∷ A ∷ A ∷ A ∷ l 0x80008100 ∷ []) csrs_2 cells_4 (f false (v 40) (l 8) true ∷ []) 1 true ∷
    b checking_blocks 0x80000118 (l 0 ∷ A ∷ A ∷ A ∷ A ∷ l 64 ∷ l 8 ∷ A ∷ A ∷ A ∷ v 10 ∷ v 11 ∷ v 12 ∷ v 13 ∷ v 14 ∷ v 15 ∷ A ∷ v 17 ∷ A ∷ A ∷ A ∷ A ∷ A ∷ A ∷ A ∷ A ∷ A ∷ A ∷ A ∷ A ∷ A ∷ l 0x80008100 ∷ []) csrs_2 cells_4 (f false (v 17) (l 64) false ∷ f false (v 40) (l 8) true ∷ []) 1 true ∷
    b checking_blocks 0x80000120 (l 0 ∷ A ∷ A ∷ A ∷ A ∷ l 63 ∷ l 8 ∷ A ∷ A ∷ A ∷ v 10 ∷ v 11 ∷ v 12 ∷ v 13 ∷ v 14 ∷ v 15 ∷ A ∷ v 17 ∷ A ∷ A ∷ A ∷ A ∷ A ∷ A ∷ A ∷ A ∷ A ∷ A ∷ A ∷ A ∷ A ∷ l 0x80008100 ∷ []) csrs_2 cells_4 (f false (v 17) (l 63) false ∷ f false (v 17) (l 64) false ∷ f false (v 40) (l 8) true ∷ []) 1 true ∷
    b checking_blocks 0x80000128 (l 0 ∷ A ∷ A ∷ A ∷ A ∷ l 67 ∷ l 8 ∷ A ∷ A ∷ A ∷ v 10 ∷ v 11 ∷ v 12 ∷ v 13 ∷ v 14 ∷ v 15 ∷ A ∷ v 17 ∷ A ∷ A ∷ A ∷ A ∷ A ∷ A ∷ A ∷ A ∷ A ∷ A ∷ A ∷ A ∷ A ∷ l 0x80008100 ∷ []) csrs_2 cells_4 (f false (v 17) (l 67) false ∷ f false (v 17) (l 63) false ∷ f false (v 17) (l 64) false ∷ f false (v 40) (l 8) true ∷ []) 1 true ∷
    b checking_blocks 0x80000130 (l 0 ∷ A ∷ A ∷ A ∷ A ∷ l 68 ∷ l 8 ∷ A ∷ A ∷ A ∷ v 10 ∷ v 11 ∷ v 12 ∷ v 13 ∷ v 14 ∷ v 15 ∷ A ∷ v 17 ∷ A ∷ A ∷ A ∷ A ∷ A ∷ A ∷ A ∷ A ∷ A ∷ A ∷ A ∷ A ∷ A ∷ l 0x80008100 ∷ []) csrs_2 cells_4 (f false (v 17) (l 68) false ∷ f false (v 17) (l 67) false ∷ f false (v 17) (l 63) false ∷ f false (v 17) (l 64) false ∷ f false (v 40) (l 8) true ∷ []) 1 true ∷
    b checking_blocks 0x80000138 (l 0 ∷ A ∷ A ∷ A ∷ A ∷ l 80 ∷ l 8 ∷ A ∷ A ∷ A ∷ v 10 ∷ v 11 ∷ v 12 ∷ v 13 ∷ v 14 ∷ v 15 ∷ A ∷ v 17 ∷ A ∷ A ∷ A ∷ A ∷ A ∷ A ∷ A ∷ A ∷ A ∷ A ∷ A ∷ A ∷ A ∷ l 0x80008100 ∷ []) csrs_2 cells_4 (f false (v 17) (l 80) false ∷ f false (v 17) (l 68) false ∷ f false (v 17) (l 67) false ∷ f false (v 17) (l 63) false ∷ f false (v 17) (l 64) false ∷ f false (v 40) (l 8) true ∷ []) 1 true ∷
    b checking_blocks 0x80000140 (l 0 ∷ A ∷ A ∷ A ∷ A ∷ l 57 ∷ l 8 ∷ A ∷ A ∷ A ∷ v 10 ∷ v 11 ∷ v 12 ∷ v 13 ∷ v 14 ∷ v 15 ∷ A ∷ v 17 ∷ A ∷ A ∷ A ∷ A ∷ A ∷ A ∷ A ∷ A ∷ A ∷ A ∷ A ∷ A ∷ A ∷ l 0x80008100 ∷ []) csrs_2 cells_4 (f false (v 17) (l 57) false ∷ f false (v 17) (l 80) false ∷ f false (v 17) (l 68) false ∷ f false (v 17) (l 67) false ∷ f false (v 17) (l 63) false ∷ f false (v 17) (l 64) false ∷ f false (v 40) (l 8) true ∷ []) 1 true ∷
    b checking_blocks 0x80000148 (l 0 ∷ A ∷ A ∷ A ∷ A ∷ l 62 ∷ l 8 ∷ A ∷ A ∷ A ∷ v 10 ∷ v 11 ∷ v 12 ∷ v 13 ∷ v 14 ∷ v 15 ∷ A ∷ v 17 ∷ A ∷ A ∷ A ∷ A ∷ A ∷ A ∷ A ∷ A ∷ A ∷ A ∷ A ∷ A ∷ A ∷ l 0x80008100 ∷ []) csrs_2 cells_4 (f false (v 17) (l 62) false ∷ f false (v 17) (l 57) false ∷ f false (v 17) (l 80) false ∷ f false (v 17) (l 68) false ∷ f false (v 17) (l 67) false ∷ f false (v 17) (l 63) false ∷ f false (v 17) (l 64) false ∷ f false (v 40) (l 8) true ∷ []) 1 true ∷
    b checking_blocks 0x80000150 (l 0 ∷ A ∷ A ∷ A ∷ A ∷ l 46 ∷ l 8 ∷ A ∷ A ∷ A ∷ v 10 ∷ v 11 ∷ v 12 ∷ v 13 ∷ v 14 ∷ v 15 ∷ A ∷ v 17 ∷ A ∷ A ∷ A ∷ A ∷ A ∷ A ∷ A ∷ A ∷ A ∷ A ∷ A ∷ A ∷ A ∷ l 0x80008100 ∷ []) csrs_2 cells_4 (f false (v 17) (l 46) false ∷ f false (v 17) (l 62) false ∷ f false (v 17) (l 57) false ∷ f false (v 17) (l 80) false ∷ f false (v 17) (l 68) false ∷ f false (v 17) (l 67) false ∷ f false (v 17) (l 63) false ∷ f false (v 17) (l 64) false ∷ f false (v 40) (l 8) true ∷ []) 1 true ∷
    b checking_blocks 0x80000158 (l 0 ∷ A ∷ A ∷ A ∷ A ∷ l 56 ∷ l 8 ∷ A ∷ A ∷ A ∷ v 10 ∷ v 11 ∷ v 12 ∷ v 13 ∷ v 14 ∷ v 15 ∷ A ∷ v 17 ∷ A ∷ A ∷ A ∷ A ∷ A ∷ A ∷ A ∷ A ∷ A ∷ A ∷ A ∷ A ∷ A ∷ l 0x80008100 ∷ []) csrs_2 cells_4 (f false (v 17) (l 56) false ∷ f false (v 17) (l 46) false ∷ f false (v 17) (l 62) false ∷ f false (v 17) (l 57) false ∷ f false (v 17) (l 80) false ∷ f false (v 17) (l 68) false ∷ f false (v 17) (l 67) false ∷ f false (v 17) (l 63) false ∷ f false (v 17) (l 64) false ∷ f false (v 40) (l 8) true ∷ []) 1 true ∷
    b checking_blocks 0x80000160 (l 0 ∷ A ∷ A ∷ A ∷ A ∷ l 34 ∷ l 8 ∷ A ∷ A ∷ A ∷ v 10 ∷ v 11 ∷ v 12 ∷ v 13 ∷ v 14 ∷ v 15 ∷ A ∷ v 17 ∷ A ∷ A ∷ A ∷ A ∷ A ∷ A ∷ A ∷ A ∷ A ∷ A ∷ A ∷ A ∷ A ∷ l 0x80008100 ∷ []) csrs_2 cells_4 (f false (v 17) (l 34) false ∷ f false (v 17) (l 56) false ∷ f false (v 17) (l 46) false ∷ f false (v 17) (l 62) false ∷ f false (v 17) (l 57) false ∷ f false (v 17) (l 80) false ∷ f false (v 17) (l 68) false ∷ f false (v 17) (l 67) false ∷ f false (v 17) (l 63) false ∷ f false (v 17) (l 64) false ∷ f false (v 40) (l 8) true ∷ []) 1 true ∷
    b checking_blocks 0x80000168 (l 0 ∷ A ∷ A ∷ A ∷ A ∷ l 35 ∷ l 8 ∷ A ∷ A ∷ A ∷ v 10 ∷ v 11 ∷ v 12 ∷ v 13 ∷ v 14 ∷ v 15 ∷ A ∷ v 17 ∷ A ∷ A ∷ A ∷ A ∷ A ∷ A ∷ A ∷ A ∷ A ∷ A ∷ A ∷ A ∷ A ∷ l 0x80008100 ∷ []) csrs_2 cells_4 (f false (v 17) (l 35) false ∷ f false (v 17) (l 34) false ∷ f false (v 17) (l 56) false ∷ f false (v 17) (l 46) false ∷ f false (v 17) (l 62) false ∷ f false (v 17) (l 57) false ∷ f false (v 17) (l 80) false ∷ f false (v 17) (l 68) false ∷ f false (v 17) (l 67) false ∷ f false (v 17) (l 63) false ∷ f false (v 17) (l 64) false ∷ f false (v 40) (l 8) true ∷ []) 1 true ∷
    b checking_blocks 0x80000170 (l 0 ∷ A ∷ A ∷ A ∷ A ∷ l 48 ∷ l 8 ∷ A ∷ A ∷ A ∷ v 10 ∷ v 11 ∷ v 12 ∷ v 13 ∷ v 14 ∷ v 15 ∷ A ∷ v 17 ∷ A ∷ A ∷ A ∷ A ∷ A ∷ A ∷ A ∷ A ∷ A ∷ A ∷ A ∷ A ∷ A ∷ l 0x80008100 ∷ []) csrs_2 cells_4 (f false (v 17) (l 48) false ∷ f false (v 17) (l 35) false ∷ f false (v 17) (l 34) false ∷ f false (v 17) (l 56) false ∷ f false (v 17) (l 46) false ∷ f false (v 17) (l 62) false ∷ f false (v 17) (l 57) false ∷ f false (v 17) (l 80) false ∷ f false (v 17) (l 68) false ∷ f false (v 17) (l 67) false ∷ f false (v 17) (l 63) false ∷ f false (v 17) (l 64) false ∷ f false (v 40) (l 8) true ∷ []) 1 true ∷
    b checking_blocks 0x80000178 (l 0 ∷ A ∷ A ∷ A ∷ A ∷ l 214 ∷ l 8 ∷ A ∷ A ∷ A ∷ v 10 ∷ v 11 ∷ v 12 ∷ v 13 ∷ v 14 ∷ v 15 ∷ A ∷ v 17 ∷ A ∷ A ∷ A ∷ A ∷ A ∷ A ∷ A ∷ A ∷ A ∷ A ∷ A ∷ A ∷ A ∷ l 0x80008100 ∷ []) csrs_2 cells_4 (f false (v 17) (l 214) false ∷ f false (v 17) (l 48) false ∷ f false (v 17) (l 35) false ∷ f false (v 17) (l 34) false ∷ f false (v 17) (l 56) false ∷ f false (v 17) (l 46) false ∷ f false (v 17) (l 62) false ∷ f false (v 17) (l 57) false ∷ f false (v 17) (l 80) false ∷ f false (v 17) (l 68) false ∷ f false (v 17) (l 67) false ∷ f false (v 17) (l 63) false ∷ f false (v 17) (l 64) false ∷ f false (v 40) (l 8) true ∷ []) 1 true ∷
    b checking_blocks 0x80000180 (l 0 ∷ A ∷ A ∷ A ∷ A ∷ l 93 ∷ l 8 ∷ A ∷ A ∷ A ∷ v 10 ∷ v 11 ∷ v 12 ∷ v 13 ∷ v 14 ∷ v 15 ∷ A ∷ v 17 ∷ A ∷ A ∷ A ∷ A ∷ A ∷ A ∷ A ∷ A ∷ A ∷ A ∷ A ∷ A ∷ A ∷ l 0x80008100 ∷ []) csrs_2 cells_4 (f false (v 17) (l 93) false ∷ f false (v 17) (l 214) false ∷ f false (v 17) (l 48) false ∷ f false (v 17) (l 35) false ∷ f false (v 17) (l 34) false ∷ f false (v 17) (l 56) false ∷ f false (v 17) (l 46) false ∷ f false (v 17) (l 62) false ∷ f false (v 17) (l 57) false ∷ f false (v 17) (l 80) false ∷ f false (v 17) (l 68) false ∷ f false (v 17) (l 67) false ∷ f false (v 17) (l 63) false ∷ f false (v 17) (l 64) false ∷ f false (v 40) (l 8) true ∷ []) 1 true ∷
    b checking_blocks 0x80000188 (l 0 ∷ A ∷ A ∷ A ∷ A ∷ l 94 ∷ l 8 ∷ A ∷ A ∷ A ∷ v 10 ∷ v 11 ∷ v 12 ∷ v 13 ∷ v 14 ∷ v 15 ∷ A ∷ v 17 ∷ A ∷ A ∷ A ∷ A ∷ A ∷ A ∷ A ∷ A ∷ A ∷ A ∷ A ∷ A ∷ A ∷ l 0x80008100 ∷ []) csrs_2 cells_4 (f false (v 17) (l 94) false ∷ f false (v 17) (l 93) false ∷ f false (v 17) (l 214) false ∷ f false (v 17) (l 48) false ∷ f false (v 17) (l 35) false ∷ f false (v 17) (l 34) false ∷ f false (v 17) (l 56) false ∷ f false (v 17) (l 46) false ∷ f false (v 17) (l 62) false ∷ f false (v 17) (l 57) false ∷ f false (v 17) (l 80) false ∷ f false (v 17) (l 68) false ∷ f false (v 17) (l 67) false ∷ f false (v 17) (l 63) false ∷ f false (v 17) (l 64) false ∷ f false (v 40) (l 8) true ∷ []) 0 true ∷
    b no_call_gate 0x80000214 (l 0 ∷ A ∷ A ∷ A ∷ A ∷ l 94 ∷ l 8 ∷ A ∷ A ∷ A ∷ v 10 ∷ v 11 ∷ v 12 ∷ v 13 ∷ v 14 ∷ v 15 ∷ A ∷ v 17 ∷ A ∷ A ∷ A ∷ A ∷ A ∷ A ∷ A ∷ A ∷ A ∷ A ∷ A ∷ A ∷ A ∷ l 0x80008100 ∷ []) csrs_2 cells_4 (f false (v 17) (l 94) false ∷ f false (v 17) (l 93) false ∷ f false (v 17) (l 214) false ∷ f false (v 17) (l 48) false ∷ f false (v 17) (l 35) false ∷ f false (v 17) (l 34) false ∷ f false (v 17) (l 56) false ∷ f false (v 17) (l 46) false ∷ f false (v 17) (l 62) false ∷ f false (v 17) (l 57) false ∷ f false (v 17) (l 80) false ∷ f false (v 17) (l 68) false ∷ f false (v 17) (l 67) false ∷ f false (v 17) (l 63) false ∷ f false (v 17) (l 64) false ∷ f false (v 40) (l 8) true ∷ []) 0 false ∷
    b checking_blocks 0x8000018c (l 0 ∷ A ∷ A ∷ A ∷ A ∷ l 94 ∷ l 8 ∷ A ∷ A ∷ A ∷ v 10 ∷ v 11 ∷ v 12 ∷ v 13 ∷ v 14 ∷ v 15 ∷ A ∷ v 17 ∷ A ∷ A ∷ A ∷ A ∷ A ∷ A ∷ A ∷ A ∷ A ∷ A ∷ A ∷ A ∷ A ∷ l 0x80008100 ∷ []) csrs_2 cells_4 (f false (v 17) (l 94) true ∷ f false (v 17) (l 93) false ∷ f false (v 17) (l 214) false ∷ f false (v 17) (l 48) false ∷ f false (v 17) (l 35) false ∷ f false (v 17) (l 34) false ∷ f false (v 17) (l 56) false ∷ f false (v 17) (l 46) false ∷ f false (v 17) (l 62) false ∷ f false (v 17) (l 57) false ∷ f false (v 17) (l 80) false ∷ f false (v 17) (l 68) false ∷ f false (v 17) (l 67) false ∷ f false (v 17) (l 63) false ∷ f false (v 17) (l 64) false ∷ f false (v 40) (l 8) true ∷ []) 4 true ∷
    b request_gate 0x80000260 (l 0 ∷ A ∷ A ∷ A ∷ A ∷ l 94 ∷ l 8 ∷ A ∷ A ∷ A ∷ v 10 ∷ l 0 ∷ l 0 ∷ l 0 ∷ l 0 ∷ v 15 ∷ A ∷ v 17 ∷ A ∷ A ∷ A ∷ A ∷ A ∷ A ∷ A ∷ A ∷ A ∷ A ∷ A ∷ A ∷ A ∷ l 0x80008100 ∷ []) csrs_2 cells_4 (f false (v 17) (l 94) true ∷ f false (v 17) (l 93) false ∷ f false (v 17) (l 214) false ∷ f false (v 17) (l 48) false ∷ f false (v 17) (l 35) false ∷ f false (v 17) (l 34) false ∷ f false (v 17) (l 56) false ∷ f false (v 17) (l 46) false ∷ f false (v 17) (l 62) false ∷ f false (v 17) (l 57) false ∷ f false (v 17) (l 80) false ∷ f false (v 17) (l 68) false ∷ f false (v 17) (l 67) false ∷ f false (v 17) (l 63) false ∷ f false (v 17) (l 64) false ∷ f false (v 40) (l 8) true ∷ []) 0 false ∷
    b checking_blocks 0x8000018c (l 0 ∷ A ∷ A ∷ A ∷ A ∷ l 93 ∷ l 8 ∷ A ∷ A ∷ A ∷ v 10 ∷ v 11 ∷ v 12 ∷ v 13 ∷ v 14 ∷ v 15 ∷ A ∷ v 17 ∷ A ∷ A ∷ A ∷ A ∷ A ∷ A ∷ A ∷ A ∷ A ∷ A ∷ A ∷ A ∷ A ∷ l 0x80008100 ∷ []) csrs_2 cells_4 (f false (v 17) (l 93) true ∷ f false (v 17) (l 214) false ∷ f false (v 17) (l 48) false ∷ f false (v 17) (l 35) false ∷ f false (v 17) (l 34) false ∷ f false (v 17) (l 56) false ∷ f false (v 17) (l 46) false ∷ f false (v 17) (l 62) false ∷ f false (v 17) (l 57) false ∷ f false (v 17) (l 80) false ∷ f false (v 17) (l 68) false ∷ f false (v 17) (l 67) false ∷ f false (v 17) (l 63) false ∷ f false (v 17) (l 64) false ∷ f false (v 40) (l 8) true ∷ []) 4 true ∷
    b request_gate 0x80000260 (l 0 ∷ A ∷ A ∷ A ∷ A ∷ l 93 ∷ l 8 ∷ A ∷ A ∷ A ∷ v 10 ∷ l 0 ∷ l 0 ∷ l 0 ∷ l 0 ∷ v 15 ∷ A ∷ v 17 ∷ A ∷ A ∷ A ∷ A ∷ A ∷ A ∷ A ∷ A ∷ A ∷ A ∷ A ∷ A ∷ A ∷ l 0x80008100 ∷ []) csrs_2 cells_4 (f false (v 17) (l 93) true ∷ f false (v 17) (l 214) false ∷ f false (v 17) (l 48) false ∷ f false (v 17) (l 35) false ∷ f false (v 17) (l 34) false ∷ f false (v 17) (l 56) false ∷ f false (v 17) (l 46) false ∷ f false (v 17) (l 62) false ∷ f false (v 17) (l 57) false ∷ f false (v 17) (l 80) false ∷ f false (v 17) (l 68) false ∷ f false (v 17) (l 67) false ∷ f false (v 17) (l 63) false ∷ f false (v 17) (l 64) false ∷ f false (v 40) (l 8) true ∷ []) 0 false ∷
    b break_gate 0x8000022c (l 0 ∷ A ∷ A ∷ A ∷ A ∷ l 214 ∷ l 8 ∷ A ∷ A ∷ A ∷ v 10 ∷ v 11 ∷ v 12 ∷ v 13 ∷ v 14 ∷ v 15 ∷ A ∷ v 17 ∷ A ∷ A ∷ A ∷ A ∷ A ∷ A ∷ A ∷ A ∷ A ∷ A ∷ A ∷ A ∷ A ∷ l 0x80008100 ∷ []) csrs_2 cells_4 (f false (v 17) (l 214) true ∷ f false (v 17) (l 48) false ∷ f false (v 17) (l 35) false ∷ f false (v 17) (l 34) false ∷ f false (v 17) (l 56) false ∷ f false (v 17) (l 46) false ∷ f false (v 17) (l 62) false ∷ f false (v 17) (l 57) false ∷ f false (v 17) (l 80) false ∷ f false (v 17) (l 68) false ∷ f false (v 17) (l 67) false ∷ f false (v 17) (l 63) false ∷ f false (v 17) (l 64) false ∷ f false (v 40) (l 8) true ∷ []) 0 false ∷
    b path_gate 0x800001e4 (l 0 ∷ A ∷ A ∷ A ∷ A ∷ l 48 ∷ l 8 ∷ A ∷ A ∷ A ∷ v 10 ∷ v 11 ∷ v 12 ∷ v 13 ∷ v 14 ∷ v 15 ∷ A ∷ v 17 ∷ A ∷ A ∷ A ∷ A ∷ A ∷ A ∷ A ∷ A ∷ A ∷ A ∷ A ∷ A ∷ A ∷ l 0x80008100 ∷ []) csrs_2 cells_4 (f false (v 17) (l 48) true ∷ f false (v 17) (l 35) false ∷ f false (v 17) (l 34) false ∷ f false (v 17) (l 56) false ∷ f false (v 17) (l 46) false ∷ f false (v 17) (l 62) false ∷ f false (v 17) (l 57) false ∷ f false (v 17) (l 80) false ∷ f false (v 17) (l 68) false ∷ f false (v 17) (l 67) false ∷ f false (v 17) (l 63) false ∷ f false (v 17) (l 64) false ∷ f false (v 40) (l 8) true ∷ []) 0 false ∷
    b path_gate 0x800001e4 (l 0 ∷ A ∷ A ∷ A ∷ A ∷ l 35 ∷ l 8 ∷ A ∷ A ∷ A ∷ v 10 ∷ v 11 ∷ v 12 ∷ v 13 ∷ v 14 ∷ v 15 ∷ A ∷ v 17 ∷ A ∷ A ∷ A ∷ A ∷ A ∷ A ∷ A ∷ A ∷ A ∷ A ∷ A ∷ A ∷ A ∷ l 0x80008100 ∷ []) csrs_2 cells_4 (f false (v 17) (l 35) true ∷ f false (v 17) (l 34) false ∷ f false (v 17) (l 56) false ∷ f false (v 17) (l 46) false ∷ f false (v 17) (l 62) false ∷ f false (v 17) (l 57) false ∷ f false (v 17) (l 80) false ∷ f false (v 17) (l 68) false ∷ f false (v 17) (l 67) false ∷ f false (v 17) (l 63) false ∷ f false (v 17) (l 64) false ∷ f false (v 40) (l 8) true ∷ []) 0 false ∷
    b path_gate 0x800001e4 (l 0 ∷ A ∷ A ∷ A ∷ A ∷ l 34 ∷ l 8 ∷ A ∷ A ∷ A ∷ v 10 ∷ v 11 ∷ v 12 ∷ v 13 ∷ v 14 ∷ v 15 ∷ A ∷ v 17 ∷ A ∷ A ∷ A ∷ A ∷ A ∷ A ∷ A ∷ A ∷ A ∷ A ∷ A ∷ A ∷ A ∷ l 0x80008100 ∷ []) csrs_2 cells_4 (f false (v 17) (l 34) true ∷ f false (v 17) (l 56) false ∷ f false (v 17) (l 46) false ∷ f false (v 17) (l 62) false ∷ f false (v 17) (l 57) false ∷ f false (v 17) (l 80) false ∷ f false (v 17) (l 68) false ∷ f false (v 17) (l 67) false ∷ f false (v 17) (l 63) false ∷ f false (v 17) (l 64) false ∷ f false (v 40) (l 8) true ∷ []) 0 false ∷
    b path_gate 0x800001e4 (l 0 ∷ A ∷ A ∷ A ∷ A ∷ l 56 ∷ l 8 ∷ A ∷ A ∷ A ∷ v 10 ∷ v 11 ∷ v 12 ∷ v 13 ∷ v 14 ∷ v 15 ∷ A ∷ v 17 ∷ A ∷ A ∷ A ∷ A ∷ A ∷ A ∷ A ∷ A ∷ A ∷ A ∷ A ∷ A ∷ A ∷ l 0x80008100 ∷ []) csrs_2 cells_4 (f false (v 17) (l 56) true ∷ f false (v 17) (l 46) false ∷ f false (v 17) (l 62) false ∷ f false (v 17) (l 57) false ∷ f false (v 17) (l 80) false ∷ f false (v 17) (l 68) false ∷ f false (v 17) (l 67) false ∷ f false (v 17) (l 63) false ∷ f false (v 17) (l 64) false ∷ f false (v 40) (l 8) true ∷ []) 0 false ∷
    b checking_blocks 0x80000190 (l 0 ∷ A ∷ A ∷ A ∷ A ∷ l 46 ∷ l 8 ∷ A ∷ A ∷ A ∷ v 10 ∷ v 11 ∷ v 12 ∷ v 13 ∷ v 14 ∷ v 15 ∷ A ∷ v 17 ∷ A ∷ A ∷ A ∷ A ∷ A ∷ A ∷ A ∷ A ∷ A ∷ A ∷ A ∷ A ∷ A ∷ l 0x80008100 ∷ []) csrs_2 cells_4 (f false (v 17) (l 46) true ∷ f false (v 17) (l 62) false ∷ f false (v 17) (l 57) false ∷ f false (v 17) (l 80) false ∷ f false (v 17) (l 68) false ∷ f false (v 17) (l 67) false ∷ f false (v 17) (l 63) false ∷ f false (v 17) (l 64) false ∷ f false (v 40) (l 8) true ∷ []) 3 true ∷
    b request_gate 0x80000260 (l 0 ∷ A ∷ A ∷ A ∷ A ∷ l 46 ∷ l 8 ∷ A ∷ A ∷ A ∷ v 10 ∷ v 11 ∷ l 0 ∷ l 0 ∷ l 0 ∷ v 15 ∷ A ∷ v 17 ∷ A ∷ A ∷ A ∷ A ∷ A ∷ A ∷ A ∷ A ∷ A ∷ A ∷ A ∷ A ∷ A ∷ l 0x80008100 ∷ []) csrs_2 cells_4 (f false (v 17) (l 46) true ∷ f false (v 17) (l 62) false ∷ f false (v 17) (l 57) false ∷ f false (v 17) (l 80) false ∷ f false (v 17) (l 68) false ∷ f false (v 17) (l 67) false ∷ f false (v 17) (l 63) false ∷ f false (v 17) (l 64) false ∷ f false (v 40) (l 8) true ∷ []) 0 false ∷
    b checking_blocks 0x80000194 (l 0 ∷ A ∷ A ∷ A ∷ A ∷ l 62 ∷ l 8 ∷ A ∷ A ∷ A ∷ v 10 ∷ v 11 ∷ v 12 ∷ v 13 ∷ v 14 ∷ v 15 ∷ A ∷ v 17 ∷ A ∷ A ∷ A ∷ A ∷ A ∷ A ∷ A ∷ A ∷ A ∷ A ∷ A ∷ A ∷ A ∷ l 0x80008100 ∷ []) csrs_2 cells_4 (f false (v 17) (l 62) true ∷ f false (v 17) (l 57) false ∷ f false (v 17) (l 80) false ∷ f false (v 17) (l 68) false ∷ f false (v 17) (l 67) false ∷ f false (v 17) (l 63) false ∷ f false (v 17) (l 64) false ∷ f false (v 40) (l 8) true ∷ []) 2 true ∷
    b request_gate 0x80000260 (l 0 ∷ A ∷ A ∷ A ∷ A ∷ l 62 ∷ l 8 ∷ A ∷ A ∷ A ∷ v 10 ∷ v 11 ∷ v 12 ∷ l 0 ∷ l 0 ∷ v 15 ∷ A ∷ v 17 ∷ A ∷ A ∷ A ∷ A ∷ A ∷ A ∷ A ∷ A ∷ A ∷ A ∷ A ∷ A ∷ A ∷ l 0x80008100 ∷ []) csrs_2 cells_4 (f false (v 17) (l 62) true ∷ f false (v 17) (l 57) false ∷ f false (v 17) (l 80) false ∷ f false (v 17) (l 68) false ∷ f false (v 17) (l 67) false ∷ f false (v 17) (l 63) false ∷ f false (v 17) (l 64) false ∷ f false (v 40) (l 8) true ∷ []) 0 false ∷
    b checking_blocks 0x8000018c (l 0 ∷ A ∷ A ∷ A ∷ A ∷ l 57 ∷ l 8 ∷ A ∷ A ∷ A ∷ v 10 ∷ v 11 ∷ v 12 ∷ v 13 ∷ v 14 ∷ v 15 ∷ A ∷ v 17 ∷ A ∷ A ∷ A ∷ A ∷ A ∷ A ∷ A ∷ A ∷ A ∷ A ∷ A ∷ A ∷ A ∷ l 0x80008100 ∷ []) csrs_2 cells_4 (f false (v 17) (l 57) true ∷ f false (v 17) (l 80) false ∷ f false (v 17) (l 68) false ∷ f false (v 17) (l 67) false ∷ f false (v 17) (l 63) false ∷ f false (v 17) (l 64) false ∷ f false (v 40) (l 8) true ∷ []) 4 true ∷
    b request_gate 0x80000260 (l 0 ∷ A ∷ A ∷ A ∷ A ∷ l 57 ∷ l 8 ∷ A ∷ A ∷ A ∷ v 10 ∷ l 0 ∷ l 0 ∷ l 0 ∷ l 0 ∷ v 15 ∷ A ∷ v 17 ∷ A ∷ A ∷ A ∷ A ∷ A ∷ A ∷ A ∷ A ∷ A ∷ A ∷ A ∷ A ∷ A ∷ l 0x80008100 ∷ []) csrs_2 cells_4 (f false (v 17) (l 57) true ∷ f false (v 17) (l 80) false ∷ f false (v 17) (l 68) false ∷ f false (v 17) (l 67) false ∷ f false (v 17) (l 63) false ∷ f false (v 17) (l 64) false ∷ f false (v 40) (l 8) true ∷ []) 0 false ∷
    b checking_blocks 0x800001a0 (l 0 ∷ A ∷ A ∷ A ∷ A ∷ l 80 ∷ l 8 ∷ A ∷ A ∷ A ∷ v 10 ∷ v 11 ∷ v 12 ∷ v 13 ∷ v 14 ∷ v 15 ∷ A ∷ v 17 ∷ A ∷ A ∷ A ∷ A ∷ A ∷ A ∷ A ∷ A ∷ A ∷ A ∷ A ∷ A ∷ A ∷ l 0x80008100 ∷ []) csrs_2 cells_4 (f false (v 17) (l 80) true ∷ f false (v 17) (l 68) false ∷ f false (v 17) (l 67) false ∷ f false (v 17) (l 63) false ∷ f false (v 17) (l 64) false ∷ f false (v 40) (l 8) true ∷ []) 5 true ∷
    b checking_blocks 0x800001cc (l 0 ∷ A ∷ A ∷ A ∷ A ∷ l 0x10000 ∷ l 8 ∷ A ∷ A ∷ A ∷ v 10 ∷ v 11 ∷ l 0 ∷ l 0 ∷ v 14 ∷ v 15 ∷ A ∷ v 17 ∷ A ∷ A ∷ A ∷ A ∷ A ∷ A ∷ A ∷ A ∷ A ∷ A ∷ l 128 ∷ A ∷ A ∷ l 0x80008100 ∷ []) csrs_2 cells_4 (f true (v 11) (l 0x10000) false ∷ f false (v 17) (l 80) true ∷ f false (v 17) (l 68) false ∷ f false (v 17) (l 67) false ∷ f false (v 17) (l 63) false ∷ f false (v 17) (l 64) false ∷ f false (v 40) (l 8) true ∷ []) 1 true ∷
    b checking_blocks 0x800001d4 (l 0 ∷ A ∷ A ∷ A ∷ A ∷ l 0x1010000 ∷ l 8 ∷ A ∷ A ∷ A ∷ v 10 ∷ v 11 ∷ l 0 ∷ l 0 ∷ v 14 ∷ v 15 ∷ A ∷ v 17 ∷ A ∷ A ∷ A ∷ A ∷ A ∷ A ∷ A ∷ A ∷ A ∷ A ∷ l 128 ∷ A ∷ A ∷ l 0x80008100 ∷ []) csrs_2 cells_4 (f true (l 0x1010000) (v 11) false ∷ f true (v 11) (l 0x10000) false ∷ f false (v 17) (l 80) true ∷ f false (v 17) (l 68) false ∷ f false (v 17) (l 67) false ∷ f false (v 17) (l 63) false ∷ f false (v 17) (l 64) false ∷ f false (v 40) (l 8) true ∷ []) 1 true ∷
    b checking_blocks 0x800001dc (l 0 ∷ A ∷ A ∷ A ∷ A ∷ (Bin op.Sub (l 0x1010000) (v 11)) ∷ l 8 ∷ A ∷ A ∷ A ∷ v 10 ∷ v 11 ∷ l 0 ∷ l 0 ∷ v 14 ∷ v 15 ∷ A ∷ v 17 ∷ A ∷ A ∷ A ∷ A ∷ A ∷ A ∷ A ∷ A ∷ A ∷ A ∷ l 128 ∷ A ∷ A ∷ l 0x80008100 ∷ []) csrs_2 cells_4 (f true (Bin op.Sub (l 0x1010000) (v 11)) (l 128) false ∷ f true (l 0x1010000) (v 11) false ∷ f true (v 11) (l 0x10000) false ∷ f false (v 17) (l 80) true ∷ f false (v 17) (l 68) false ∷ f false (v 17) (l 67) false ∷ f false (v 17) (l 63) false ∷ f false (v 17) (l 64) false ∷ f false (v 40) (l 8) true ∷ []) 1 true ∷
    b request_gate 0x80000260 (l 0 ∷ A ∷ A ∷ A ∷ A ∷ (Bin op.Sub (l 0x1010000) (v 11)) ∷ l 8 ∷ A ∷ A ∷ A ∷ v 10 ∷ v 11 ∷ l 0 ∷ l 0 ∷ l 0 ∷ v 15 ∷ A ∷ v 17 ∷ A ∷ A ∷ A ∷ A ∷ A ∷ A ∷ A ∷ A ∷ A ∷ A ∷ l 128 ∷ A ∷ A ∷ l 0x80008100 ∷ []) csrs_2 cells_4 (f true (Bin op.Sub (l 0x1010000) (v 11)) (l 128) false ∷ f true (l 0x1010000) (v 11) false ∷ f true (v 11) (l 0x10000) false ∷ f false (v 17) (l 80) true ∷ f false (v 17) (l 68) false ∷ f false (v 17) (l 67) false ∷ f false (v 17) (l 63) false ∷ f false (v 17) (l 64) false ∷ f false (v 40) (l 8) true ∷ []) 0 false ∷
    b buffer_gate 0x8000021c (l 0 ∷ A ∷ A ∷ A ∷ A ∷ (Bin op.Sub (l 0x1010000) (v 11)) ∷ l 8 ∷ A ∷ A ∷ A ∷ v 10 ∷ v 11 ∷ l 0 ∷ l 0 ∷ v 14 ∷ v 15 ∷ A ∷ v 17 ∷ A ∷ A ∷ A ∷ A ∷ A ∷ A ∷ A ∷ A ∷ A ∷ A ∷ l 128 ∷ A ∷ A ∷ l 0x80008100 ∷ []) csrs_2 cells_4 (f true (Bin op.Sub (l 0x1010000) (v 11)) (l 128) true ∷ f true (l 0x1010000) (v 11) false ∷ f true (v 11) (l 0x10000) false ∷ f false (v 17) (l 80) true ∷ f false (v 17) (l 68) false ∷ f false (v 17) (l 67) false ∷ f false (v 17) (l 63) false ∷ f false (v 17) (l 64) false ∷ f false (v 40) (l 8) true ∷ []) 0 false ∷
    b buffer_gate 0x8000021c (l 0 ∷ A ∷ A ∷ A ∷ A ∷ l 0x1010000 ∷ l 8 ∷ A ∷ A ∷ A ∷ v 10 ∷ v 11 ∷ l 0 ∷ l 0 ∷ v 14 ∷ v 15 ∷ A ∷ v 17 ∷ A ∷ A ∷ A ∷ A ∷ A ∷ A ∷ A ∷ A ∷ A ∷ A ∷ l 128 ∷ A ∷ A ∷ l 0x80008100 ∷ []) csrs_2 cells_4 (f true (l 0x1010000) (v 11) true ∷ f true (v 11) (l 0x10000) false ∷ f false (v 17) (l 80) true ∷ f false (v 17) (l 68) false ∷ f false (v 17) (l 67) false ∷ f false (v 17) (l 63) false ∷ f false (v 17) (l 64) false ∷ f false (v 40) (l 8) true ∷ []) 0 false ∷
    b buffer_gate 0x8000021c (l 0 ∷ A ∷ A ∷ A ∷ A ∷ l 0x10000 ∷ l 8 ∷ A ∷ A ∷ A ∷ v 10 ∷ v 11 ∷ l 0 ∷ l 0 ∷ v 14 ∷ v 15 ∷ A ∷ v 17 ∷ A ∷ A ∷ A ∷ A ∷ A ∷ A ∷ A ∷ A ∷ A ∷ A ∷ l 128 ∷ A ∷ A ∷ l 0x80008100 ∷ []) csrs_2 cells_4 (f true (v 11) (l 0x10000) true ∷ f false (v 17) (l 80) true ∷ f false (v 17) (l 68) false ∷ f false (v 17) (l 67) false ∷ f false (v 17) (l 63) false ∷ f false (v 17) (l 64) false ∷ f false (v 40) (l 8) true ∷ []) 0 false ∷
    b checking_blocks 0x800001b4 (l 0 ∷ A ∷ A ∷ A ∷ A ∷ l 68 ∷ l 8 ∷ A ∷ A ∷ A ∷ v 10 ∷ v 11 ∷ v 12 ∷ v 13 ∷ v 14 ∷ v 15 ∷ A ∷ v 17 ∷ A ∷ A ∷ A ∷ A ∷ A ∷ A ∷ A ∷ A ∷ A ∷ A ∷ A ∷ A ∷ A ∷ l 0x80008100 ∷ []) csrs_2 cells_4 (f false (v 17) (l 68) true ∷ f false (v 17) (l 67) false ∷ f false (v 17) (l 63) false ∷ f false (v 17) (l 64) false ∷ f false (v 40) (l 8) true ∷ []) 1 true ∷
    b checking_blocks 0x800001bc (l 0 ∷ A ∷ A ∷ A ∷ A ∷ l 68 ∷ l 8 ∷ A ∷ A ∷ A ∷ v 10 ∷ v 11 ∷ v 12 ∷ v 13 ∷ v 14 ∷ v 15 ∷ A ∷ v 17 ∷ A ∷ A ∷ A ∷ A ∷ A ∷ A ∷ A ∷ A ∷ A ∷ A ∷ l 0x100000 ∷ A ∷ A ∷ l 0x80008100 ∷ []) csrs_2 cells_4 (f true (l 0x100000) (v 12) false ∷ f false (v 17) (l 68) true ∷ f false (v 17) (l 67) false ∷ f false (v 17) (l 63) false ∷ f false (v 17) (l 64) false ∷ f false (v 40) (l 8) true ∷ []) 3 true ∷
    b checking_blocks 0x800001cc (l 0 ∷ A ∷ A ∷ A ∷ A ∷ l 0x10000 ∷ l 8 ∷ A ∷ A ∷ A ∷ v 10 ∷ v 11 ∷ v 12 ∷ v 13 ∷ v 14 ∷ v 15 ∷ A ∷ v 17 ∷ A ∷ A ∷ A ∷ A ∷ A ∷ A ∷ A ∷ A ∷ A ∷ A ∷ v 12 ∷ A ∷ A ∷ l 0x80008100 ∷ []) csrs_2 cells_4 (f true (v 11) (l 0x10000) false ∷ f true (l 0x100000) (v 12) false ∷ f false (v 17) (l 68) true ∷ f false (v 17) (l 67) false ∷ f false (v 17) (l 63) false ∷ f false (v 17) (l 64) false ∷ f false (v 40) (l 8) true ∷ []) 1 true ∷
    b checking_blocks 0x800001d4 (l 0 ∷ A ∷ A ∷ A ∷ A ∷ l 0x1010000 ∷ l 8 ∷ A ∷ A ∷ A ∷ v 10 ∷ v 11 ∷ v 12 ∷ v 13 ∷ v 14 ∷ v 15 ∷ A ∷ v 17 ∷ A ∷ A ∷ A ∷ A ∷ A ∷ A ∷ A ∷ A ∷ A ∷ A ∷ v 12 ∷ A ∷ A ∷ l 0x80008100 ∷ []) csrs_2 cells_4 (f true (l 0x1010000) (v 11) false ∷ f true (v 11) (l 0x10000) false ∷ f true (l 0x100000) (v 12) false ∷ f false (v 17) (l 68) true ∷ f false (v 17) (l 67) false ∷ f false (v 17) (l 63) false ∷ f false (v 17) (l 64) false ∷ f false (v 40) (l 8) true ∷ []) 1 true ∷
    b checking_blocks 0x800001dc (l 0 ∷ A ∷ A ∷ A ∷ A ∷ (Bin op.Sub (l 0x1010000) (v 11)) ∷ l 8 ∷ A ∷ A ∷ A ∷ v 10 ∷ v 11 ∷ v 12 ∷ v 13 ∷ v 14 ∷ v 15 ∷ A ∷ v 17 ∷ A ∷ A ∷ A ∷ A ∷ A ∷ A ∷ A ∷ A ∷ A ∷ A ∷ v 12 ∷ A ∷ A ∷ l 0x80008100 ∷ []) csrs_2 cells_4 (f true (Bin op.Sub (l 0x1010000) (v 11)) (v 12) false ∷ f true (l 0x1010000) (v 11) false ∷ f true (v 11) (l 0x10000) false ∷ f true (l 0x100000) (v 12) false ∷ f false (v 17) (l 68) true ∷ f false (v 17) (l 67) false ∷ f false (v 17) (l 63) false ∷ f false (v 17) (l 64) false ∷ f false (v 40) (l 8) true ∷ []) 1 true ∷
    b request_gate 0x80000260 (l 0 ∷ A ∷ A ∷ A ∷ A ∷ (Bin op.Sub (l 0x1010000) (v 11)) ∷ l 8 ∷ A ∷ A ∷ A ∷ v 10 ∷ v 11 ∷ v 12 ∷ v 13 ∷ l 0 ∷ v 15 ∷ A ∷ v 17 ∷ A ∷ A ∷ A ∷ A ∷ A ∷ A ∷ A ∷ A ∷ A ∷ A ∷ v 12 ∷ A ∷ A ∷ l 0x80008100 ∷ []) csrs_2 cells_4 (f true (Bin op.Sub (l 0x1010000) (v 11)) (v 12) false ∷ f true (l 0x1010000) (v 11) false ∷ f true (v 11) (l 0x10000) false ∷ f true (l 0x100000) (v 12) false ∷ f false (v 17) (l 68) true ∷ f false (v 17) (l 67) false ∷ f false (v 17) (l 63) false ∷ f false (v 17) (l 64) false ∷ f false (v 40) (l 8) true ∷ []) 0 false ∷
    b buffer_gate 0x8000021c (l 0 ∷ A ∷ A ∷ A ∷ A ∷ (Bin op.Sub (l 0x1010000) (v 11)) ∷ l 8 ∷ A ∷ A ∷ A ∷ v 10 ∷ v 11 ∷ v 12 ∷ v 13 ∷ v 14 ∷ v 15 ∷ A ∷ v 17 ∷ A ∷ A ∷ A ∷ A ∷ A ∷ A ∷ A ∷ A ∷ A ∷ A ∷ v 12 ∷ A ∷ A ∷ l 0x80008100 ∷ []) csrs_2 cells_4 (f true (Bin op.Sub (l 0x1010000) (v 11)) (v 12) true ∷ f true (l 0x1010000) (v 11) false ∷ f true (v 11) (l 0x10000) false ∷ f true (l 0x100000) (v 12) false ∷ f false (v 17) (l 68) true ∷ f false (v 17) (l 67) false ∷ f false (v 17) (l 63) false ∷ f false (v 17) (l 64) false ∷ f false (v 40) (l 8) true ∷ []) 0 false ∷
    b buffer_gate 0x8000021c (l 0 ∷ A ∷ A ∷ A ∷ A ∷ l 0x1010000 ∷ l 8 ∷ A ∷ A ∷ A ∷ v 10 ∷ v 11 ∷ v 12 ∷ v 13 ∷ v 14 ∷ v 15 ∷ A ∷ v 17 ∷ A ∷ A ∷ A ∷ A ∷ A ∷ A ∷ A ∷ A ∷ A ∷ A ∷ v 12 ∷ A ∷ A ∷ l 0x80008100 ∷ []) csrs_2 cells_4 (f true (l 0x1010000) (v 11) true ∷ f true (v 11) (l 0x10000) false ∷ f true (l 0x100000) (v 12) false ∷ f false (v 17) (l 68) true ∷ f false (v 17) (l 67) false ∷ f false (v 17) (l 63) false ∷ f false (v 17) (l 64) false ∷ f false (v 40) (l 8) true ∷ []) 0 false ∷
    b buffer_gate 0x8000021c (l 0 ∷ A ∷ A ∷ A ∷ A ∷ l 0x10000 ∷ l 8 ∷ A ∷ A ∷ A ∷ v 10 ∷ v 11 ∷ v 12 ∷ v 13 ∷ v 14 ∷ v 15 ∷ A ∷ v 17 ∷ A ∷ A ∷ A ∷ A ∷ A ∷ A ∷ A ∷ A ∷ A ∷ A ∷ v 12 ∷ A ∷ A ∷ l 0x80008100 ∷ []) csrs_2 cells_4 (f true (v 11) (l 0x10000) true ∷ f true (l 0x100000) (v 12) false ∷ f false (v 17) (l 68) true ∷ f false (v 17) (l 67) false ∷ f false (v 17) (l 63) false ∷ f false (v 17) (l 64) false ∷ f false (v 40) (l 8) true ∷ []) 0 false ∷
    b checking_blocks 0x800001c0 (l 0 ∷ A ∷ A ∷ A ∷ A ∷ l 68 ∷ l 8 ∷ A ∷ A ∷ A ∷ v 10 ∷ v 11 ∷ v 12 ∷ v 13 ∷ v 14 ∷ v 15 ∷ A ∷ v 17 ∷ A ∷ A ∷ A ∷ A ∷ A ∷ A ∷ A ∷ A ∷ A ∷ A ∷ l 0x100000 ∷ A ∷ A ∷ l 0x80008100 ∷ []) csrs_2 cells_4 (f true (l 0x100000) (v 12) true ∷ f false (v 17) (l 68) true ∷ f false (v 17) (l 67) false ∷ f false (v 17) (l 63) false ∷ f false (v 17) (l 64) false ∷ f false (v 40) (l 8) true ∷ []) 2 true ∷
    b checking_blocks 0x800001cc (l 0 ∷ A ∷ A ∷ A ∷ A ∷ l 0x10000 ∷ l 8 ∷ A ∷ A ∷ A ∷ v 10 ∷ v 11 ∷ l 0x100000 ∷ v 13 ∷ v 14 ∷ v 15 ∷ A ∷ v 17 ∷ A ∷ A ∷ A ∷ A ∷ A ∷ A ∷ A ∷ A ∷ A ∷ A ∷ l 0x100000 ∷ A ∷ A ∷ l 0x80008100 ∷ []) csrs_2 cells_4 (f true (v 11) (l 0x10000) false ∷ f true (l 0x100000) (v 12) true ∷ f false (v 17) (l 68) true ∷ f false (v 17) (l 67) false ∷ f false (v 17) (l 63) false ∷ f false (v 17) (l 64) false ∷ f false (v 40) (l 8) true ∷ []) 1 true ∷
    b checking_blocks 0x800001d4 (l 0 ∷ A ∷ A ∷ A ∷ A ∷ l 0x1010000 ∷ l 8 ∷ A ∷ A ∷ A ∷ v 10 ∷ v 11 ∷ l 0x100000 ∷ v 13 ∷ v 14 ∷ v 15 ∷ A ∷ v 17 ∷ A ∷ A ∷ A ∷ A ∷ A ∷ A ∷ A ∷ A ∷ A ∷ A ∷ l 0x100000 ∷ A ∷ A ∷ l 0x80008100 ∷ []) csrs_2 cells_4 (f true (l 0x1010000) (v 11) false ∷ f true (v 11) (l 0x10000) false ∷ f true (l 0x100000) (v 12) true ∷ f false (v 17) (l 68) true ∷ f false (v 17) (l 67) false ∷ f false (v 17) (l 63) false ∷ f false (v 17) (l 64) false ∷ f false (v 40) (l 8) true ∷ []) 1 true ∷
    b checking_blocks 0x800001dc (l 0 ∷ A ∷ A ∷ A ∷ A ∷ (Bin op.Sub (l 0x1010000) (v 11)) ∷ l 8 ∷ A ∷ A ∷ A ∷ v 10 ∷ v 11 ∷ l 0x100000 ∷ v 13 ∷ v 14 ∷ v 15 ∷ A ∷ v 17 ∷ A ∷ A ∷ A ∷ A ∷ A ∷ A ∷ A ∷ A ∷ A ∷ A ∷ l 0x100000 ∷ A ∷ A ∷ l 0x80008100 ∷ []) csrs_2 cells_4 (f true (Bin op.Sub (l 0x1010000) (v 11)) (l 0x100000) false ∷ f true (l 0x1010000) (v 11) false ∷ f true (v 11) (l 0x10000) false ∷ f true (l 0x100000) (v 12) true ∷ f false (v 17) (l 68) true ∷ f false (v 17) (l 67) false ∷ f false (v 17) (l 63) false ∷ f false (v 17) (l 64) false ∷ f false (v 40) (l 8) true ∷ []) 1 true ∷
    b request_gate 0x80000260 (l 0 ∷ A ∷ A ∷ A ∷ A ∷ (Bin op.Sub (l 0x1010000) (v 11)) ∷ l 8 ∷ A ∷ A ∷ A ∷ v 10 ∷ v 11 ∷ l 0x100000 ∷ v 13 ∷ l 0 ∷ v 15 ∷ A ∷ v 17 ∷ A ∷ A ∷ A ∷ A ∷ A ∷ A ∷ A ∷ A ∷ A ∷ A ∷ l 0x100000 ∷ A ∷ A ∷ l 0x80008100 ∷ []) csrs_2 cells_4 (f true (Bin op.Sub (l 0x1010000) (v 11)) (l 0x100000) false ∷ f true (l 0x1010000) (v 11) false ∷ f true (v 11) (l 0x10000) false ∷ f true (l 0x100000) (v 12) true ∷ f false (v 17) (l 68) true ∷ f false (v 17) (l 67) false ∷ f false (v 17) (l 63) false ∷ f false (v 17) (l 64) false ∷ f false (v 40) (l 8) true ∷ []) 0 false ∷
    b buffer_gate 0x8000021c (l 0 ∷ A ∷ A ∷ A ∷ A ∷ (Bin op.Sub (l 0x1010000) (v 11)) ∷ l 8 ∷ A ∷ A ∷ A ∷ v 10 ∷ v 11 ∷ l 0x100000 ∷ v 13 ∷ v 14 ∷ v 15 ∷ A ∷ v 17 ∷ A ∷ A ∷ A ∷ A ∷ A ∷ A ∷ A ∷ A ∷ A ∷ A ∷ l 0x100000 ∷ A ∷ A ∷ l 0x80008100 ∷ []) csrs_2 cells_4 (f true (Bin op.Sub (l 0x1010000) (v 11)) (l 0x100000) true ∷ f true (l 0x1010000) (v 11) false ∷ f true (v 11) (l 0x10000) false ∷ f true (l 0x100000) (v 12) true ∷ f false (v 17) (l 68) true ∷ f false (v 17) (l 67) false ∷ f false (v 17) (l 63) false ∷ f false (v 17) (l 64) false ∷ f false (v 40) (l 8) true ∷ []) 0 false ∷
    b buffer_gate 0x8000021c (l 0 ∷ A ∷ A ∷ A ∷ A ∷ l 0x1010000 ∷ l 8 ∷ A ∷ A ∷ A ∷ v 10 ∷ v 11 ∷ l 0x100000 ∷ v 13 ∷ v 14 ∷ v 15 ∷ A ∷ v 17 ∷ A ∷ A ∷ A ∷ A ∷ A ∷ A ∷ A ∷ A ∷ A ∷ A ∷ l 0x100000 ∷ A ∷ A ∷ l 0x80008100 ∷ []) csrs_2 cells_4 (f true (l 0x1010000) (v 11) true ∷ f true (v 11) (l 0x10000) false ∷ f true (l 0x100000) (v 12) true ∷ f false (v 17) (l 68) true ∷ f false (v 17) (l 67) false ∷ f false (v 17) (l 63) false ∷ f false (v 17) (l 64) false ∷ f false (v 40) (l 8) true ∷ []) 0 false ∷
    b buffer_gate 0x8000021c (l 0 ∷ A ∷ A ∷ A ∷ A ∷ l 0x10000 ∷ l 8 ∷ A ∷ A ∷ A ∷ v 10 ∷ v 11 ∷ l 0x100000 ∷ v 13 ∷ v 14 ∷ v 15 ∷ A ∷ v 17 ∷ A ∷ A ∷ A ∷ A ∷ A ∷ A ∷ A ∷ A ∷ A ∷ A ∷ l 0x100000 ∷ A ∷ A ∷ l 0x80008100 ∷ []) csrs_2 cells_4 (f true (v 11) (l 0x10000) true ∷ f true (l 0x100000) (v 12) true ∷ f false (v 17) (l 68) true ∷ f false (v 17) (l 67) false ∷ f false (v 17) (l 63) false ∷ f false (v 17) (l 64) false ∷ f false (v 40) (l 8) true ∷ []) 0 false ∷
    b checking_blocks 0x800001b4 (l 0 ∷ A ∷ A ∷ A ∷ A ∷ l 67 ∷ l 8 ∷ A ∷ A ∷ A ∷ v 10 ∷ v 11 ∷ v 12 ∷ v 13 ∷ v 14 ∷ v 15 ∷ A ∷ v 17 ∷ A ∷ A ∷ A ∷ A ∷ A ∷ A ∷ A ∷ A ∷ A ∷ A ∷ A ∷ A ∷ A ∷ l 0x80008100 ∷ []) csrs_2 cells_4 (f false (v 17) (l 67) true ∷ f false (v 17) (l 63) false ∷ f false (v 17) (l 64) false ∷ f false (v 40) (l 8) true ∷ []) 1 true ∷
    b checking_blocks 0x800001bc (l 0 ∷ A ∷ A ∷ A ∷ A ∷ l 67 ∷ l 8 ∷ A ∷ A ∷ A ∷ v 10 ∷ v 11 ∷ v 12 ∷ v 13 ∷ v 14 ∷ v 15 ∷ A ∷ v 17 ∷ A ∷ A ∷ A ∷ A ∷ A ∷ A ∷ A ∷ A ∷ A ∷ A ∷ l 0x100000 ∷ A ∷ A ∷ l 0x80008100 ∷ []) csrs_2 cells_4 (f true (l 0x100000) (v 12) false ∷ f false (v 17) (l 67) true ∷ f false (v 17) (l 63) false ∷ f false (v 17) (l 64) false ∷ f false (v 40) (l 8) true ∷ []) 3 true ∷
    b checking_blocks 0x800001cc (l 0 ∷ A ∷ A ∷ A ∷ A ∷ l 0x10000 ∷ l 8 ∷ A ∷ A ∷ A ∷ v 10 ∷ v 11 ∷ v 12 ∷ v 13 ∷ v 14 ∷ v 15 ∷ A ∷ v 17 ∷ A ∷ A ∷ A ∷ A ∷ A ∷ A ∷ A ∷ A ∷ A ∷ A ∷ v 12 ∷ A ∷ A ∷ l 0x80008100 ∷ []) csrs_2 cells_4 (f true (v 11) (l 0x10000) false ∷ f true (l 0x100000) (v 12) false ∷ f false (v 17) (l 67) true ∷ f false (v 17) (l 63) false ∷ f false (v 17) (l 64) false ∷ f false (v 40) (l 8) true ∷ []) 1 true ∷
    b checking_blocks 0x800001d4 (l 0 ∷ A ∷ A ∷ A ∷ A ∷ l 0x1010000 ∷ l 8 ∷ A ∷ A ∷ A ∷ v 10 ∷ v 11 ∷ v 12 ∷ v 13 ∷ v 14 ∷ v 15 ∷ A ∷ v 17 ∷ A ∷ A ∷ A ∷ A ∷ A ∷ A ∷ A ∷ A ∷ A ∷ A ∷ v 12 ∷ A ∷ A ∷ l 0x80008100 ∷ []) csrs_2 cells_4 (f true (l 0x1010000) (v 11) false ∷ f true (v 11) (l 0x10000) false ∷ f true (l 0x100000) (v 12) false ∷ f false (v 17) (l 67) true ∷ f false (v 17) (l 63) false ∷ f false (v 17) (l 64) false ∷ f false (v 40) (l 8) true ∷ []) 1 true ∷
    b checking_blocks 0x800001dc (l 0 ∷ A ∷ A ∷ A ∷ A ∷ (Bin op.Sub (l 0x1010000) (v 11)) ∷ l 8 ∷ A ∷ A ∷ A ∷ v 10 ∷ v 11 ∷ v 12 ∷ v 13 ∷ v 14 ∷ v 15 ∷ A ∷ v 17 ∷ A ∷ A ∷ A ∷ A ∷ A ∷ A ∷ A ∷ A ∷ A ∷ A ∷ v 12 ∷ A ∷ A ∷ l 0x80008100 ∷ []) csrs_2 cells_4 (f true (Bin op.Sub (l 0x1010000) (v 11)) (v 12) false ∷ f true (l 0x1010000) (v 11) false ∷ f true (v 11) (l 0x10000) false ∷ f true (l 0x100000) (v 12) false ∷ f false (v 17) (l 67) true ∷ f false (v 17) (l 63) false ∷ f false (v 17) (l 64) false ∷ f false (v 40) (l 8) true ∷ []) 1 true ∷
    b request_gate 0x80000260 (l 0 ∷ A ∷ A ∷ A ∷ A ∷ (Bin op.Sub (l 0x1010000) (v 11)) ∷ l 8 ∷ A ∷ A ∷ A ∷ v 10 ∷ v 11 ∷ v 12 ∷ v 13 ∷ l 0 ∷ v 15 ∷ A ∷ v 17 ∷ A ∷ A ∷ A ∷ A ∷ A ∷ A ∷ A ∷ A ∷ A ∷ A ∷ v 12 ∷ A ∷ A ∷ l 0x80008100 ∷ []) csrs_2 cells_4 (f true (Bin op.Sub (l 0x1010000) (v 11)) (v 12) false ∷ f true (l 0x1010000) (v 11) false ∷ f true (v 11) (l 0x10000) false ∷ f true (l 0x100000) (v 12) false ∷ f false (v 17) (l 67) true ∷ f false (v 17) (l 63) false ∷ f false (v 17) (l 64) false ∷ f false (v 40) (l 8) true ∷ []) 0 false ∷
    b buffer_gate 0x8000021c (l 0 ∷ A ∷ A ∷ A ∷ A ∷ (Bin op.Sub (l 0x1010000) (v 11)) ∷ l 8 ∷ A ∷ A ∷ A ∷ v 10 ∷ v 11 ∷ v 12 ∷ v 13 ∷ v 14 ∷ v 15 ∷ A ∷ v 17 ∷ A ∷ A ∷ A ∷ A ∷ A ∷ A ∷ A ∷ A ∷ A ∷ A ∷ v 12 ∷ A ∷ A ∷ l 0x80008100 ∷ []) csrs_2 cells_4 (f true (Bin op.Sub (l 0x1010000) (v 11)) (v 12) true ∷ f true (l 0x1010000) (v 11) false ∷ f true (v 11) (l 0x10000) false ∷ f true (l 0x100000) (v 12) false ∷ f false (v 17) (l 67) true ∷ f false (v 17) (l 63) false ∷ f false (v 17) (l 64) false ∷ f false (v 40) (l 8) true ∷ []) 0 false ∷
    b buffer_gate 0x8000021c (l 0 ∷ A ∷ A ∷ A ∷ A ∷ l 0x1010000 ∷ l 8 ∷ A ∷ A ∷ A ∷ v 10 ∷ v 11 ∷ v 12 ∷ v 13 ∷ v 14 ∷ v 15 ∷ A ∷ v 17 ∷ A ∷ A ∷ A ∷ A ∷ A ∷ A ∷ A ∷ A ∷ A ∷ A ∷ v 12 ∷ A ∷ A ∷ l 0x80008100 ∷ []) csrs_2 cells_4 (f true (l 0x1010000) (v 11) true ∷ f true (v 11) (l 0x10000) false ∷ f true (l 0x100000) (v 12) false ∷ f false (v 17) (l 67) true ∷ f false (v 17) (l 63) false ∷ f false (v 17) (l 64) false ∷ f false (v 40) (l 8) true ∷ []) 0 false ∷
    b buffer_gate 0x8000021c (l 0 ∷ A ∷ A ∷ A ∷ A ∷ l 0x10000 ∷ l 8 ∷ A ∷ A ∷ A ∷ v 10 ∷ v 11 ∷ v 12 ∷ v 13 ∷ v 14 ∷ v 15 ∷ A ∷ v 17 ∷ A ∷ A ∷ A ∷ A ∷ A ∷ A ∷ A ∷ A ∷ A ∷ A ∷ v 12 ∷ A ∷ A ∷ l 0x80008100 ∷ []) csrs_2 cells_4 (f true (v 11) (l 0x10000) true ∷ f true (l 0x100000) (v 12) false ∷ f false (v 17) (l 67) true ∷ f false (v 17) (l 63) false ∷ f false (v 17) (l 64) false ∷ f false (v 40) (l 8) true ∷ []) 0 false ∷
    b checking_blocks 0x800001c0 (l 0 ∷ A ∷ A ∷ A ∷ A ∷ l 67 ∷ l 8 ∷ A ∷ A ∷ A ∷ v 10 ∷ v 11 ∷ v 12 ∷ v 13 ∷ v 14 ∷ v 15 ∷ A ∷ v 17 ∷ A ∷ A ∷ A ∷ A ∷ A ∷ A ∷ A ∷ A ∷ A ∷ A ∷ l 0x100000 ∷ A ∷ A ∷ l 0x80008100 ∷ []) csrs_2 cells_4 (f true (l 0x100000) (v 12) true ∷ f false (v 17) (l 67) true ∷ f false (v 17) (l 63) false ∷ f false (v 17) (l 64) false ∷ f false (v 40) (l 8) true ∷ []) 2 true ∷
    b checking_blocks 0x800001cc (l 0 ∷ A ∷ A ∷ A ∷ A ∷ l 0x10000 ∷ l 8 ∷ A ∷ A ∷ A ∷ v 10 ∷ v 11 ∷ l 0x100000 ∷ v 13 ∷ v 14 ∷ v 15 ∷ A ∷ v 17 ∷ A ∷ A ∷ A ∷ A ∷ A ∷ A ∷ A ∷ A ∷ A ∷ A ∷ l 0x100000 ∷ A ∷ A ∷ l 0x80008100 ∷ []) csrs_2 cells_4 (f true (v 11) (l 0x10000) false ∷ f true (l 0x100000) (v 12) true ∷ f false (v 17) (l 67) true ∷ f false (v 17) (l 63) false ∷ f false (v 17) (l 64) false ∷ f false (v 40) (l 8) true ∷ []) 1 true ∷
    b checking_blocks 0x800001d4 (l 0 ∷ A ∷ A ∷ A ∷ A ∷ l 0x1010000 ∷ l 8 ∷ A ∷ A ∷ A ∷ v 10 ∷ v 11 ∷ l 0x100000 ∷ v 13 ∷ v 14 ∷ v 15 ∷ A ∷ v 17 ∷ A ∷ A ∷ A ∷ A ∷ A ∷ A ∷ A ∷ A ∷ A ∷ A ∷ l 0x100000 ∷ A ∷ A ∷ l 0x80008100 ∷ []) csrs_2 cells_4 (f true (l 0x1010000) (v 11) false ∷ f true (v 11) (l 0x10000) false ∷ f true (l 0x100000) (v 12) true ∷ f false (v 17) (l 67) true ∷ f false (v 17) (l 63) false ∷ f false (v 17) (l 64) false ∷ f false (v 40) (l 8) true ∷ []) 1 true ∷
    b checking_blocks 0x800001dc (l 0 ∷ A ∷ A ∷ A ∷ A ∷ (Bin op.Sub (l 0x1010000) (v 11)) ∷ l 8 ∷ A ∷ A ∷ A ∷ v 10 ∷ v 11 ∷ l 0x100000 ∷ v 13 ∷ v 14 ∷ v 15 ∷ A ∷ v 17 ∷ A ∷ A ∷ A ∷ A ∷ A ∷ A ∷ A ∷ A ∷ A ∷ A ∷ l 0x100000 ∷ A ∷ A ∷ l 0x80008100 ∷ []) csrs_2 cells_4 (f true (Bin op.Sub (l 0x1010000) (v 11)) (l 0x100000) false ∷ f true (l 0x1010000) (v 11) false ∷ f true (v 11) (l 0x10000) false ∷ f true (l 0x100000) (v 12) true ∷ f false (v 17) (l 67) true ∷ f false (v 17) (l 63) false ∷ f false (v 17) (l 64) false ∷ f false (v 40) (l 8) true ∷ []) 1 true ∷
    b request_gate 0x80000260 (l 0 ∷ A ∷ A ∷ A ∷ A ∷ (Bin op.Sub (l 0x1010000) (v 11)) ∷ l 8 ∷ A ∷ A ∷ A ∷ v 10 ∷ v 11 ∷ l 0x100000 ∷ v 13 ∷ l 0 ∷ v 15 ∷ A ∷ v 17 ∷ A ∷ A ∷ A ∷ A ∷ A ∷ A ∷ A ∷ A ∷ A ∷ A ∷ l 0x100000 ∷ A ∷ A ∷ l 0x80008100 ∷ []) csrs_2 cells_4 (f true (Bin op.Sub (l 0x1010000) (v 11)) (l 0x100000) false ∷ f true (l 0x1010000) (v 11) false ∷ f true (v 11) (l 0x10000) false ∷ f true (l 0x100000) (v 12) true ∷ f false (v 17) (l 67) true ∷ f false (v 17) (l 63) false ∷ f false (v 17) (l 64) false ∷ f false (v 40) (l 8) true ∷ []) 0 false ∷
    b buffer_gate 0x8000021c (l 0 ∷ A ∷ A ∷ A ∷ A ∷ (Bin op.Sub (l 0x1010000) (v 11)) ∷ l 8 ∷ A ∷ A ∷ A ∷ v 10 ∷ v 11 ∷ l 0x100000 ∷ v 13 ∷ v 14 ∷ v 15 ∷ A ∷ v 17 ∷ A ∷ A ∷ A ∷ A ∷ A ∷ A ∷ A ∷ A ∷ A ∷ A ∷ l 0x100000 ∷ A ∷ A ∷ l 0x80008100 ∷ []) csrs_2 cells_4 (f true (Bin op.Sub (l 0x1010000) (v 11)) (l 0x100000) true ∷ f true (l 0x1010000) (v 11) false ∷ f true (v 11) (l 0x10000) false ∷ f true (l 0x100000) (v 12) true ∷ f false (v 17) (l 67) true ∷ f false (v 17) (l 63) false ∷ f false (v 17) (l 64) false ∷ f false (v 40) (l 8) true ∷ []) 0 false ∷
    b buffer_gate 0x8000021c (l 0 ∷ A ∷ A ∷ A ∷ A ∷ l 0x1010000 ∷ l 8 ∷ A ∷ A ∷ A ∷ v 10 ∷ v 11 ∷ l 0x100000 ∷ v 13 ∷ v 14 ∷ v 15 ∷ A ∷ v 17 ∷ A ∷ A ∷ A ∷ A ∷ A ∷ A ∷ A ∷ A ∷ A ∷ A ∷ l 0x100000 ∷ A ∷ A ∷ l 0x80008100 ∷ []) csrs_2 cells_4 (f true (l 0x1010000) (v 11) true ∷ f true (v 11) (l 0x10000) false ∷ f true (l 0x100000) (v 12) true ∷ f false (v 17) (l 67) true ∷ f false (v 17) (l 63) false ∷ f false (v 17) (l 64) false ∷ f false (v 40) (l 8) true ∷ []) 0 false ∷
    b buffer_gate 0x8000021c (l 0 ∷ A ∷ A ∷ A ∷ A ∷ l 0x10000 ∷ l 8 ∷ A ∷ A ∷ A ∷ v 10 ∷ v 11 ∷ l 0x100000 ∷ v 13 ∷ v 14 ∷ v 15 ∷ A ∷ v 17 ∷ A ∷ A ∷ A ∷ A ∷ A ∷ A ∷ A ∷ A ∷ A ∷ A ∷ l 0x100000 ∷ A ∷ A ∷ l 0x80008100 ∷ []) csrs_2 cells_4 (f true (v 11) (l 0x10000) true ∷ f true (l 0x100000) (v 12) true ∷ f false (v 17) (l 67) true ∷ f false (v 17) (l 63) false ∷ f false (v 17) (l 64) false ∷ f false (v 40) (l 8) true ∷ []) 0 false ∷
    b checking_blocks 0x800001b0 (l 0 ∷ A ∷ A ∷ A ∷ A ∷ l 63 ∷ l 8 ∷ A ∷ A ∷ A ∷ v 10 ∷ v 11 ∷ v 12 ∷ v 13 ∷ v 14 ∷ v 15 ∷ A ∷ v 17 ∷ A ∷ A ∷ A ∷ A ∷ A ∷ A ∷ A ∷ A ∷ A ∷ A ∷ A ∷ A ∷ A ∷ l 0x80008100 ∷ []) csrs_2 cells_4 (f false (v 17) (l 63) true ∷ f false (v 17) (l 64) false ∷ f false (v 40) (l 8) true ∷ []) 2 true ∷
    b checking_blocks 0x800001bc (l 0 ∷ A ∷ A ∷ A ∷ A ∷ l 63 ∷ l 8 ∷ A ∷ A ∷ A ∷ v 10 ∷ v 11 ∷ v 12 ∷ l 0 ∷ v 14 ∷ v 15 ∷ A ∷ v 17 ∷ A ∷ A ∷ A ∷ A ∷ A ∷ A ∷ A ∷ A ∷ A ∷ A ∷ l 0x100000 ∷ A ∷ A ∷ l 0x80008100 ∷ []) csrs_2 cells_4 (f true (l 0x100000) (v 12) false ∷ f false (v 17) (l 63) true ∷ f false (v 17) (l 64) false ∷ f false (v 40) (l 8) true ∷ []) 3 true ∷
    b checking_blocks 0x800001cc (l 0 ∷ A ∷ A ∷ A ∷ A ∷ l 0x10000 ∷ l 8 ∷ A ∷ A ∷ A ∷ v 10 ∷ v 11 ∷ v 12 ∷ l 0 ∷ v 14 ∷ v 15 ∷ A ∷ v 17 ∷ A ∷ A ∷ A ∷ A ∷ A ∷ A ∷ A ∷ A ∷ A ∷ A ∷ v 12 ∷ A ∷ A ∷ l 0x80008100 ∷ []) csrs_2 cells_4 (f true (v 11) (l 0x10000) false ∷ f true (l 0x100000) (v 12) false ∷ f false (v 17) (l 63) true ∷ f false (v 17) (l 64) false ∷ f false (v 40) (l 8) true ∷ []) 1 true ∷
    b checking_blocks 0x800001d4 (l 0 ∷ A ∷ A ∷ A ∷ A ∷ l 0x1010000 ∷ l 8 ∷ A ∷ A ∷ A ∷ v 10 ∷ v 11 ∷ v 12 ∷ l 0 ∷ v 14 ∷ v 15 ∷ A ∷ v 17 ∷ A ∷ A ∷ A ∷ A ∷ A ∷ A ∷ A ∷ A ∷ A ∷ A ∷ v 12 ∷ A ∷ A ∷ l 0x80008100 ∷ []) csrs_2 cells_4 (f true (l 0x1010000) (v 11) false ∷ f true (v 11) (l 0x10000) false ∷ f true (l 0x100000) (v 12) false ∷ f false (v 17) (l 63) true ∷ f false (v 17) (l 64) false ∷ f false (v 40) (l 8) true ∷ []) 1 true ∷
    b checking_blocks 0x800001dc (l 0 ∷ A ∷ A ∷ A ∷ A ∷ (Bin op.Sub (l 0x1010000) (v 11)) ∷ l 8 ∷ A ∷ A ∷ A ∷ v 10 ∷ v 11 ∷ v 12 ∷ l 0 ∷ v 14 ∷ v 15 ∷ A ∷ v 17 ∷ A ∷ A ∷ A ∷ A ∷ A ∷ A ∷ A ∷ A ∷ A ∷ A ∷ v 12 ∷ A ∷ A ∷ l 0x80008100 ∷ []) csrs_2 cells_4 (f true (Bin op.Sub (l 0x1010000) (v 11)) (v 12) false ∷ f true (l 0x1010000) (v 11) false ∷ f true (v 11) (l 0x10000) false ∷ f true (l 0x100000) (v 12) false ∷ f false (v 17) (l 63) true ∷ f false (v 17) (l 64) false ∷ f false (v 40) (l 8) true ∷ []) 1 true ∷
    b request_gate 0x80000260 (l 0 ∷ A ∷ A ∷ A ∷ A ∷ (Bin op.Sub (l 0x1010000) (v 11)) ∷ l 8 ∷ A ∷ A ∷ A ∷ v 10 ∷ v 11 ∷ v 12 ∷ l 0 ∷ l 0 ∷ v 15 ∷ A ∷ v 17 ∷ A ∷ A ∷ A ∷ A ∷ A ∷ A ∷ A ∷ A ∷ A ∷ A ∷ v 12 ∷ A ∷ A ∷ l 0x80008100 ∷ []) csrs_2 cells_4 (f true (Bin op.Sub (l 0x1010000) (v 11)) (v 12) false ∷ f true (l 0x1010000) (v 11) false ∷ f true (v 11) (l 0x10000) false ∷ f true (l 0x100000) (v 12) false ∷ f false (v 17) (l 63) true ∷ f false (v 17) (l 64) false ∷ f false (v 40) (l 8) true ∷ []) 0 false ∷
    b buffer_gate 0x8000021c (l 0 ∷ A ∷ A ∷ A ∷ A ∷ (Bin op.Sub (l 0x1010000) (v 11)) ∷ l 8 ∷ A ∷ A ∷ A ∷ v 10 ∷ v 11 ∷ v 12 ∷ l 0 ∷ v 14 ∷ v 15 ∷ A ∷ v 17 ∷ A ∷ A ∷ A ∷ A ∷ A ∷ A ∷ A ∷ A ∷ A ∷ A ∷ v 12 ∷ A ∷ A ∷ l 0x80008100 ∷ []) csrs_2 cells_4 (f true (Bin op.Sub (l 0x1010000) (v 11)) (v 12) true ∷ f true (l 0x1010000) (v 11) false ∷ f true (v 11) (l 0x10000) false ∷ f true (l 0x100000) (v 12) false ∷ f false (v 17) (l 63) true ∷ f false (v 17) (l 64) false ∷ f false (v 40) (l 8) true ∷ []) 0 false ∷
    b buffer_gate 0x8000021c (l 0 ∷ A ∷ A ∷ A ∷ A ∷ l 0x1010000 ∷ l 8 ∷ A ∷ A ∷ A ∷ v 10 ∷ v 11 ∷ v 12 ∷ l 0 ∷ v 14 ∷ v 15 ∷ A ∷ v 17 ∷ A ∷ A ∷ A ∷ A ∷ A ∷ A ∷ A ∷ A ∷ A ∷ A ∷ v 12 ∷ A ∷ A ∷ l 0x80008100 ∷ []) csrs_2 cells_4 (f true (l 0x1010000) (v 11) true ∷ f true (v 11) (l 0x10000) false ∷ f true (l 0x100000) (v 12) false ∷ f false (v 17) (l 63) true ∷ f false (v 17) (l 64) false ∷ f false (v 40) (l 8) true ∷ []) 0 false ∷
    b buffer_gate 0x8000021c (l 0 ∷ A ∷ A ∷ A ∷ A ∷ l 0x10000 ∷ l 8 ∷ A ∷ A ∷ A ∷ v 10 ∷ v 11 ∷ v 12 ∷ l 0 ∷ v 14 ∷ v 15 ∷ A ∷ v 17 ∷ A ∷ A ∷ A ∷ A ∷ A ∷ A ∷ A ∷ A ∷ A ∷ A ∷ v 12 ∷ A ∷ A ∷ l 0x80008100 ∷ []) csrs_2 cells_4 (f true (v 11) (l 0x10000) true ∷ f true (l 0x100000) (v 12) false ∷ f false (v 17) (l 63) true ∷ f false (v 17) (l 64) false ∷ f false (v 40) (l 8) true ∷ []) 0 false ∷
    b checking_blocks 0x800001c0 (l 0 ∷ A ∷ A ∷ A ∷ A ∷ l 63 ∷ l 8 ∷ A ∷ A ∷ A ∷ v 10 ∷ v 11 ∷ v 12 ∷ l 0 ∷ v 14 ∷ v 15 ∷ A ∷ v 17 ∷ A ∷ A ∷ A ∷ A ∷ A ∷ A ∷ A ∷ A ∷ A ∷ A ∷ l 0x100000 ∷ A ∷ A ∷ l 0x80008100 ∷ []) csrs_2 cells_4 (f true (l 0x100000) (v 12) true ∷ f false (v 17) (l 63) true ∷ f false (v 17) (l 64) false ∷ f false (v 40) (l 8) true ∷ []) 2 true ∷
    b checking_blocks 0x800001cc (l 0 ∷ A ∷ A ∷ A ∷ A ∷ l 0x10000 ∷ l 8 ∷ A ∷ A ∷ A ∷ v 10 ∷ v 11 ∷ l 0x100000 ∷ l 0 ∷ v 14 ∷ v 15 ∷ A ∷ v 17 ∷ A ∷ A ∷ A ∷ A ∷ A ∷ A ∷ A ∷ A ∷ A ∷ A ∷ l 0x100000 ∷ A ∷ A ∷ l 0x80008100 ∷ []) csrs_2 cells_4 (f true (v 11) (l 0x10000) false ∷ f true (l 0x100000) (v 12) true ∷ f false (v 17) (l 63) true ∷ f false (v 17) (l 64) false ∷ f false (v 40) (l 8) true ∷ []) 1 true ∷
    b checking_blocks 0x800001d4 (l 0 ∷ A ∷ A ∷ A ∷ A ∷ l 0x1010000 ∷ l 8 ∷ A ∷ A ∷ A ∷ v 10 ∷ v 11 ∷ l 0x100000 ∷ l 0 ∷ v 14 ∷ v 15 ∷ A ∷ v 17 ∷ A ∷ A ∷ A ∷ A ∷ A ∷ A ∷ A ∷ A ∷ A ∷ A ∷ l 0x100000 ∷ A ∷ A ∷ l 0x80008100 ∷ []) csrs_2 cells_4 (f true (l 0x1010000) (v 11) false ∷ f true (v 11) (l 0x10000) false ∷ f true (l 0x100000) (v 12) true ∷ f false (v 17) (l 63) true ∷ f false (v 17) (l 64) false ∷ f false (v 40) (l 8) true ∷ []) 1 true ∷
    b checking_blocks 0x800001dc (l 0 ∷ A ∷ A ∷ A ∷ A ∷ (Bin op.Sub (l 0x1010000) (v 11)) ∷ l 8 ∷ A ∷ A ∷ A ∷ v 10 ∷ v 11 ∷ l 0x100000 ∷ l 0 ∷ v 14 ∷ v 15 ∷ A ∷ v 17 ∷ A ∷ A ∷ A ∷ A ∷ A ∷ A ∷ A ∷ A ∷ A ∷ A ∷ l 0x100000 ∷ A ∷ A ∷ l 0x80008100 ∷ []) csrs_2 cells_4 (f true (Bin op.Sub (l 0x1010000) (v 11)) (l 0x100000) false ∷ f true (l 0x1010000) (v 11) false ∷ f true (v 11) (l 0x10000) false ∷ f true (l 0x100000) (v 12) true ∷ f false (v 17) (l 63) true ∷ f false (v 17) (l 64) false ∷ f false (v 40) (l 8) true ∷ []) 1 true ∷
    b request_gate 0x80000260 (l 0 ∷ A ∷ A ∷ A ∷ A ∷ (Bin op.Sub (l 0x1010000) (v 11)) ∷ l 8 ∷ A ∷ A ∷ A ∷ v 10 ∷ v 11 ∷ l 0x100000 ∷ l 0 ∷ l 0 ∷ v 15 ∷ A ∷ v 17 ∷ A ∷ A ∷ A ∷ A ∷ A ∷ A ∷ A ∷ A ∷ A ∷ A ∷ l 0x100000 ∷ A ∷ A ∷ l 0x80008100 ∷ []) csrs_2 cells_4 (f true (Bin op.Sub (l 0x1010000) (v 11)) (l 0x100000) false ∷ f true (l 0x1010000) (v 11) false ∷ f true (v 11) (l 0x10000) false ∷ f true (l 0x100000) (v 12) true ∷ f false (v 17) (l 63) true ∷ f false (v 17) (l 64) false ∷ f false (v 40) (l 8) true ∷ []) 0 false ∷
    b buffer_gate 0x8000021c (l 0 ∷ A ∷ A ∷ A ∷ A ∷ (Bin op.Sub (l 0x1010000) (v 11)) ∷ l 8 ∷ A ∷ A ∷ A ∷ v 10 ∷ v 11 ∷ l 0x100000 ∷ l 0 ∷ v 14 ∷ v 15 ∷ A ∷ v 17 ∷ A ∷ A ∷ A ∷ A ∷ A ∷ A ∷ A ∷ A ∷ A ∷ A ∷ l 0x100000 ∷ A ∷ A ∷ l 0x80008100 ∷ []) csrs_2 cells_4 (f true (Bin op.Sub (l 0x1010000) (v 11)) (l 0x100000) true ∷ f true (l 0x1010000) (v 11) false ∷ f true (v 11) (l 0x10000) false ∷ f true (l 0x100000) (v 12) true ∷ f false (v 17) (l 63) true ∷ f false (v 17) (l 64) false ∷ f false (v 40) (l 8) true ∷ []) 0 false ∷
    b buffer_gate 0x8000021c (l 0 ∷ A ∷ A ∷ A ∷ A ∷ l 0x1010000 ∷ l 8 ∷ A ∷ A ∷ A ∷ v 10 ∷ v 11 ∷ l 0x100000 ∷ l 0 ∷ v 14 ∷ v 15 ∷ A ∷ v 17 ∷ A ∷ A ∷ A ∷ A ∷ A ∷ A ∷ A ∷ A ∷ A ∷ A ∷ l 0x100000 ∷ A ∷ A ∷ l 0x80008100 ∷ []) csrs_2 cells_4 (f true (l 0x1010000) (v 11) true ∷ f true (v 11) (l 0x10000) false ∷ f true (l 0x100000) (v 12) true ∷ f false (v 17) (l 63) true ∷ f false (v 17) (l 64) false ∷ f false (v 40) (l 8) true ∷ []) 0 false ∷
    b buffer_gate 0x8000021c (l 0 ∷ A ∷ A ∷ A ∷ A ∷ l 0x10000 ∷ l 8 ∷ A ∷ A ∷ A ∷ v 10 ∷ v 11 ∷ l 0x100000 ∷ l 0 ∷ v 14 ∷ v 15 ∷ A ∷ v 17 ∷ A ∷ A ∷ A ∷ A ∷ A ∷ A ∷ A ∷ A ∷ A ∷ A ∷ l 0x100000 ∷ A ∷ A ∷ l 0x80008100 ∷ []) csrs_2 cells_4 (f true (v 11) (l 0x10000) true ∷ f true (l 0x100000) (v 12) true ∷ f false (v 17) (l 63) true ∷ f false (v 17) (l 64) false ∷ f false (v 40) (l 8) true ∷ []) 0 false ∷
    b checking_blocks 0x800001b0 (l 0 ∷ A ∷ A ∷ A ∷ A ∷ l 64 ∷ l 8 ∷ A ∷ A ∷ A ∷ v 10 ∷ v 11 ∷ v 12 ∷ v 13 ∷ v 14 ∷ v 15 ∷ A ∷ v 17 ∷ A ∷ A ∷ A ∷ A ∷ A ∷ A ∷ A ∷ A ∷ A ∷ A ∷ A ∷ A ∷ A ∷ l 0x80008100 ∷ []) csrs_2 cells_4 (f false (v 17) (l 64) true ∷ f false (v 40) (l 8) true ∷ []) 2 true ∷
    b checking_blocks 0x800001bc (l 0 ∷ A ∷ A ∷ A ∷ A ∷ l 64 ∷ l 8 ∷ A ∷ A ∷ A ∷ v 10 ∷ v 11 ∷ v 12 ∷ l 0 ∷ v 14 ∷ v 15 ∷ A ∷ v 17 ∷ A ∷ A ∷ A ∷ A ∷ A ∷ A ∷ A ∷ A ∷ A ∷ A ∷ l 0x100000 ∷ A ∷ A ∷ l 0x80008100 ∷ []) csrs_2 cells_4 (f true (l 0x100000) (v 12) false ∷ f false (v 17) (l 64) true ∷ f false (v 40) (l 8) true ∷ []) 3 true ∷
    b checking_blocks 0x800001cc (l 0 ∷ A ∷ A ∷ A ∷ A ∷ l 0x10000 ∷ l 8 ∷ A ∷ A ∷ A ∷ v 10 ∷ v 11 ∷ v 12 ∷ l 0 ∷ v 14 ∷ v 15 ∷ A ∷ v 17 ∷ A ∷ A ∷ A ∷ A ∷ A ∷ A ∷ A ∷ A ∷ A ∷ A ∷ v 12 ∷ A ∷ A ∷ l 0x80008100 ∷ []) csrs_2 cells_4 (f true (v 11) (l 0x10000) false ∷ f true (l 0x100000) (v 12) false ∷ f false (v 17) (l 64) true ∷ f false (v 40) (l 8) true ∷ []) 1 true ∷
    b checking_blocks 0x800001d4 (l 0 ∷ A ∷ A ∷ A ∷ A ∷ l 0x1010000 ∷ l 8 ∷ A ∷ A ∷ A ∷ v 10 ∷ v 11 ∷ v 12 ∷ l 0 ∷ v 14 ∷ v 15 ∷ A ∷ v 17 ∷ A ∷ A ∷ A ∷ A ∷ A ∷ A ∷ A ∷ A ∷ A ∷ A ∷ v 12 ∷ A ∷ A ∷ l 0x80008100 ∷ []) csrs_2 cells_4 (f true (l 0x1010000) (v 11) false ∷ f true (v 11) (l 0x10000) false ∷ f true (l 0x100000) (v 12) false ∷ f false (v 17) (l 64) true ∷ f false (v 40) (l 8) true ∷ []) 1 true ∷
    b checking_blocks 0x800001dc (l 0 ∷ A ∷ A ∷ A ∷ A ∷ (Bin op.Sub (l 0x1010000) (v 11)) ∷ l 8 ∷ A ∷ A ∷ A ∷ v 10 ∷ v 11 ∷ v 12 ∷ l 0 ∷ v 14 ∷ v 15 ∷ A ∷ v 17 ∷ A ∷ A ∷ A ∷ A ∷ A ∷ A ∷ A ∷ A ∷ A ∷ A ∷ v 12 ∷ A ∷ A ∷ l 0x80008100 ∷ []) csrs_2 cells_4 (f true (Bin op.Sub (l 0x1010000) (v 11)) (v 12) false ∷ f true (l 0x1010000) (v 11) false ∷ f true (v 11) (l 0x10000) false ∷ f true (l 0x100000) (v 12) false ∷ f false (v 17) (l 64) true ∷ f false (v 40) (l 8) true ∷ []) 1 true ∷
    b request_gate 0x80000260 (l 0 ∷ A ∷ A ∷ A ∷ A ∷ (Bin op.Sub (l 0x1010000) (v 11)) ∷ l 8 ∷ A ∷ A ∷ A ∷ v 10 ∷ v 11 ∷ v 12 ∷ l 0 ∷ l 0 ∷ v 15 ∷ A ∷ v 17 ∷ A ∷ A ∷ A ∷ A ∷ A ∷ A ∷ A ∷ A ∷ A ∷ A ∷ v 12 ∷ A ∷ A ∷ l 0x80008100 ∷ []) csrs_2 cells_4 (f true (Bin op.Sub (l 0x1010000) (v 11)) (v 12) false ∷ f true (l 0x1010000) (v 11) false ∷ f true (v 11) (l 0x10000) false ∷ f true (l 0x100000) (v 12) false ∷ f false (v 17) (l 64) true ∷ f false (v 40) (l 8) true ∷ []) 0 false ∷
    b buffer_gate 0x8000021c (l 0 ∷ A ∷ A ∷ A ∷ A ∷ (Bin op.Sub (l 0x1010000) (v 11)) ∷ l 8 ∷ A ∷ A ∷ A ∷ v 10 ∷ v 11 ∷ v 12 ∷ l 0 ∷ v 14 ∷ v 15 ∷ A ∷ v 17 ∷ A ∷ A ∷ A ∷ A ∷ A ∷ A ∷ A ∷ A ∷ A ∷ A ∷ v 12 ∷ A ∷ A ∷ l 0x80008100 ∷ []) csrs_2 cells_4 (f true (Bin op.Sub (l 0x1010000) (v 11)) (v 12) true ∷ f true (l 0x1010000) (v 11) false ∷ f true (v 11) (l 0x10000) false ∷ f true (l 0x100000) (v 12) false ∷ f false (v 17) (l 64) true ∷ f false (v 40) (l 8) true ∷ []) 0 false ∷
    b buffer_gate 0x8000021c (l 0 ∷ A ∷ A ∷ A ∷ A ∷ l 0x1010000 ∷ l 8 ∷ A ∷ A ∷ A ∷ v 10 ∷ v 11 ∷ v 12 ∷ l 0 ∷ v 14 ∷ v 15 ∷ A ∷ v 17 ∷ A ∷ A ∷ A ∷ A ∷ A ∷ A ∷ A ∷ A ∷ A ∷ A ∷ v 12 ∷ A ∷ A ∷ l 0x80008100 ∷ []) csrs_2 cells_4 (f true (l 0x1010000) (v 11) true ∷ f true (v 11) (l 0x10000) false ∷ f true (l 0x100000) (v 12) false ∷ f false (v 17) (l 64) true ∷ f false (v 40) (l 8) true ∷ []) 0 false ∷
    b buffer_gate 0x8000021c (l 0 ∷ A ∷ A ∷ A ∷ A ∷ l 0x10000 ∷ l 8 ∷ A ∷ A ∷ A ∷ v 10 ∷ v 11 ∷ v 12 ∷ l 0 ∷ v 14 ∷ v 15 ∷ A ∷ v 17 ∷ A ∷ A ∷ A ∷ A ∷ A ∷ A ∷ A ∷ A ∷ A ∷ A ∷ v 12 ∷ A ∷ A ∷ l 0x80008100 ∷ []) csrs_2 cells_4 (f true (v 11) (l 0x10000) true ∷ f true (l 0x100000) (v 12) false ∷ f false (v 17) (l 64) true ∷ f false (v 40) (l 8) true ∷ []) 0 false ∷
    b checking_blocks 0x800001c0 (l 0 ∷ A ∷ A ∷ A ∷ A ∷ l 64 ∷ l 8 ∷ A ∷ A ∷ A ∷ v 10 ∷ v 11 ∷ v 12 ∷ l 0 ∷ v 14 ∷ v 15 ∷ A ∷ v 17 ∷ A ∷ A ∷ A ∷ A ∷ A ∷ A ∷ A ∷ A ∷ A ∷ A ∷ l 0x100000 ∷ A ∷ A ∷ l 0x80008100 ∷ []) csrs_2 cells_4 (f true (l 0x100000) (v 12) true ∷ f false (v 17) (l 64) true ∷ f false (v 40) (l 8) true ∷ []) 2 true ∷
    b checking_blocks 0x800001cc (l 0 ∷ A ∷ A ∷ A ∷ A ∷ l 0x10000 ∷ l 8 ∷ A ∷ A ∷ A ∷ v 10 ∷ v 11 ∷ l 0x100000 ∷ l 0 ∷ v 14 ∷ v 15 ∷ A ∷ v 17 ∷ A ∷ A ∷ A ∷ A ∷ A ∷ A ∷ A ∷ A ∷ A ∷ A ∷ l 0x100000 ∷ A ∷ A ∷ l 0x80008100 ∷ []) csrs_2 cells_4 (f true (v 11) (l 0x10000) false ∷ f true (l 0x100000) (v 12) true ∷ f false (v 17) (l 64) true ∷ f false (v 40) (l 8) true ∷ []) 1 true ∷
    b checking_blocks 0x800001d4 (l 0 ∷ A ∷ A ∷ A ∷ A ∷ l 0x1010000 ∷ l 8 ∷ A ∷ A ∷ A ∷ v 10 ∷ v 11 ∷ l 0x100000 ∷ l 0 ∷ v 14 ∷ v 15 ∷ A ∷ v 17 ∷ A ∷ A ∷ A ∷ A ∷ A ∷ A ∷ A ∷ A ∷ A ∷ A ∷ l 0x100000 ∷ A ∷ A ∷ l 0x80008100 ∷ []) csrs_2 cells_4 (f true (l 0x1010000) (v 11) false ∷ f true (v 11) (l 0x10000) false ∷ f true (l 0x100000) (v 12) true ∷ f false (v 17) (l 64) true ∷ f false (v 40) (l 8) true ∷ []) 1 true ∷
    b checking_blocks 0x800001dc (l 0 ∷ A ∷ A ∷ A ∷ A ∷ (Bin op.Sub (l 0x1010000) (v 11)) ∷ l 8 ∷ A ∷ A ∷ A ∷ v 10 ∷ v 11 ∷ l 0x100000 ∷ l 0 ∷ v 14 ∷ v 15 ∷ A ∷ v 17 ∷ A ∷ A ∷ A ∷ A ∷ A ∷ A ∷ A ∷ A ∷ A ∷ A ∷ l 0x100000 ∷ A ∷ A ∷ l 0x80008100 ∷ []) csrs_2 cells_4 (f true (Bin op.Sub (l 0x1010000) (v 11)) (l 0x100000) false ∷ f true (l 0x1010000) (v 11) false ∷ f true (v 11) (l 0x10000) false ∷ f true (l 0x100000) (v 12) true ∷ f false (v 17) (l 64) true ∷ f false (v 40) (l 8) true ∷ []) 1 true ∷
    b request_gate 0x80000260 (l 0 ∷ A ∷ A ∷ A ∷ A ∷ (Bin op.Sub (l 0x1010000) (v 11)) ∷ l 8 ∷ A ∷ A ∷ A ∷ v 10 ∷ v 11 ∷ l 0x100000 ∷ l 0 ∷ l 0 ∷ v 15 ∷ A ∷ v 17 ∷ A ∷ A ∷ A ∷ A ∷ A ∷ A ∷ A ∷ A ∷ A ∷ A ∷ l 0x100000 ∷ A ∷ A ∷ l 0x80008100 ∷ []) csrs_2 cells_4 (f true (Bin op.Sub (l 0x1010000) (v 11)) (l 0x100000) false ∷ f true (l 0x1010000) (v 11) false ∷ f true (v 11) (l 0x10000) false ∷ f true (l 0x100000) (v 12) true ∷ f false (v 17) (l 64) true ∷ f false (v 40) (l 8) true ∷ []) 0 false ∷
    b buffer_gate 0x8000021c (l 0 ∷ A ∷ A ∷ A ∷ A ∷ (Bin op.Sub (l 0x1010000) (v 11)) ∷ l 8 ∷ A ∷ A ∷ A ∷ v 10 ∷ v 11 ∷ l 0x100000 ∷ l 0 ∷ v 14 ∷ v 15 ∷ A ∷ v 17 ∷ A ∷ A ∷ A ∷ A ∷ A ∷ A ∷ A ∷ A ∷ A ∷ A ∷ l 0x100000 ∷ A ∷ A ∷ l 0x80008100 ∷ []) csrs_2 cells_4 (f true (Bin op.Sub (l 0x1010000) (v 11)) (l 0x100000) true ∷ f true (l 0x1010000) (v 11) false ∷ f true (v 11) (l 0x10000) false ∷ f true (l 0x100000) (v 12) true ∷ f false (v 17) (l 64) true ∷ f false (v 40) (l 8) true ∷ []) 0 false ∷
    b buffer_gate 0x8000021c (l 0 ∷ A ∷ A ∷ A ∷ A ∷ l 0x1010000 ∷ l 8 ∷ A ∷ A ∷ A ∷ v 10 ∷ v 11 ∷ l 0x100000 ∷ l 0 ∷ v 14 ∷ v 15 ∷ A ∷ v 17 ∷ A ∷ A ∷ A ∷ A ∷ A ∷ A ∷ A ∷ A ∷ A ∷ A ∷ l 0x100000 ∷ A ∷ A ∷ l 0x80008100 ∷ []) csrs_2 cells_4 (f true (l 0x1010000) (v 11) true ∷ f true (v 11) (l 0x10000) false ∷ f true (l 0x100000) (v 12) true ∷ f false (v 17) (l 64) true ∷ f false (v 40) (l 8) true ∷ []) 0 false ∷
    b buffer_gate 0x8000021c (l 0 ∷ A ∷ A ∷ A ∷ A ∷ l 0x10000 ∷ l 8 ∷ A ∷ A ∷ A ∷ v 10 ∷ v 11 ∷ l 0x100000 ∷ l 0 ∷ v 14 ∷ v 15 ∷ A ∷ v 17 ∷ A ∷ A ∷ A ∷ A ∷ A ∷ A ∷ A ∷ A ∷ A ∷ A ∷ l 0x100000 ∷ A ∷ A ∷ l 0x80008100 ∷ []) csrs_2 cells_4 (f true (v 11) (l 0x10000) true ∷ f true (l 0x100000) (v 12) true ∷ f false (v 17) (l 64) true ∷ f false (v 40) (l 8) true ∷ []) 0 false ∷
    b starting_blocks 0x800001e4 (l 0 ∷ A ∷ A ∷ A ∷ A ∷ A ∷ A ∷ A ∷ A ∷ A ∷ v 10 ∷ v 11 ∷ v 12 ∷ v 13 ∷ v 14 ∷ v 15 ∷ A ∷ v 17 ∷ A ∷ A ∷ A ∷ A ∷ A ∷ A ∷ A ∷ A ∷ A ∷ A ∷ A ∷ A ∷ A ∷ l 0x80008100 ∷ []) csrs_2 cells_4 ([]) 3 true ∷
    b first_byte_gate 0x800001f4 (l 0 ∷ A ∷ A ∷ A ∷ A ∷ A ∷ l 0x10000 ∷ l 0x1010000 ∷ A ∷ A ∷ v 10 ∷ v 11 ∷ v 12 ∷ v 13 ∷ v 14 ∷ v 15 ∷ A ∷ v 17 ∷ A ∷ A ∷ A ∷ A ∷ A ∷ A ∷ A ∷ A ∷ A ∷ A ∷ l 0 ∷ l 4096 ∷ A ∷ l 0x80008100 ∷ []) csrs_2 cells_4 ([]) 0 false ∷
    b scanning_blocks 0x800001f4 (l 0 ∷ A ∷ A ∷ A ∷ A ∷ A ∷ l 0x10000 ∷ l 0x1010000 ∷ A ∷ A ∷ v 10 ∷ v 11 ∷ v 12 ∷ v 13 ∷ v 14 ∷ v 15 ∷ A ∷ v 17 ∷ A ∷ A ∷ A ∷ A ∷ A ∷ A ∷ A ∷ A ∷ A ∷ A ∷ v 35 ∷ l 4096 ∷ A ∷ l 0x80008100 ∷ []) csrs_2 cells_4 ([]) 1 true ∷
    b scanning_blocks 0x800001fc (l 0 ∷ A ∷ A ∷ A ∷ A ∷ (Bin op.Add (v 11) (v 35)) ∷ l 0x10000 ∷ l 0x1010000 ∷ A ∷ A ∷ v 10 ∷ v 11 ∷ v 12 ∷ v 13 ∷ v 14 ∷ v 15 ∷ A ∷ v 17 ∷ A ∷ A ∷ A ∷ A ∷ A ∷ A ∷ A ∷ A ∷ A ∷ A ∷ v 35 ∷ l 4096 ∷ A ∷ l 0x80008100 ∷ []) csrs_2 cells_4 (f true (Bin op.Add (v 11) (v 35)) (l 0x10000) false ∷ []) 0 true ∷
    b path_outside_gate 0x8000021c (l 0 ∷ A ∷ A ∷ A ∷ A ∷ (Bin op.Add (v 11) (v 35)) ∷ l 0x10000 ∷ l 0x1010000 ∷ A ∷ A ∷ v 10 ∷ v 11 ∷ v 12 ∷ v 13 ∷ v 14 ∷ v 15 ∷ A ∷ v 17 ∷ A ∷ A ∷ A ∷ A ∷ A ∷ A ∷ A ∷ A ∷ A ∷ A ∷ v 35 ∷ l 4096 ∷ A ∷ l 0x80008100 ∷ []) csrs_2 cells_4 (f true (Bin op.Add (v 11) (v 35)) (l 0x1010000) false ∷ f true (Bin op.Add (v 11) (v 35)) (l 0x10000) false ∷ []) 0 false ∷
    b scanning_blocks 0x80000200 (l 0 ∷ A ∷ A ∷ A ∷ A ∷ (Bin op.Add (v 11) (v 35)) ∷ l 0x10000 ∷ l 0x1010000 ∷ A ∷ A ∷ v 10 ∷ v 11 ∷ v 12 ∷ v 13 ∷ v 14 ∷ v 15 ∷ A ∷ v 17 ∷ A ∷ A ∷ A ∷ A ∷ A ∷ A ∷ A ∷ A ∷ A ∷ A ∷ v 35 ∷ l 4096 ∷ A ∷ l 0x80008100 ∷ []) csrs_2 cells_4 (f true (Bin op.Add (v 11) (v 35)) (l 0x1010000) true ∷ f true (Bin op.Add (v 11) (v 35)) (l 0x10000) false ∷ []) 0 false ∷
    b path_outside_gate 0x8000021c (l 0 ∷ A ∷ A ∷ A ∷ A ∷ (Bin op.Add (v 11) (v 35)) ∷ l 0x10000 ∷ l 0x1010000 ∷ A ∷ A ∷ v 10 ∷ v 11 ∷ v 12 ∷ v 13 ∷ v 14 ∷ v 15 ∷ A ∷ v 17 ∷ A ∷ A ∷ A ∷ A ∷ A ∷ A ∷ A ∷ A ∷ A ∷ A ∷ v 35 ∷ l 4096 ∷ A ∷ l 0x80008100 ∷ []) csrs_2 cells_4 (f true (Bin op.Add (v 11) (v 35)) (l 0x10000) true ∷ []) 0 false ∷
    b looked_blocks 0x80000204 (l 0 ∷ A ∷ A ∷ A ∷ A ∷ v 37 ∷ l 0x10000 ∷ l 0x1010000 ∷ A ∷ A ∷ v 10 ∷ v 11 ∷ v 12 ∷ v 13 ∷ v 14 ∷ v 15 ∷ A ∷ v 17 ∷ A ∷ A ∷ A ∷ A ∷ A ∷ A ∷ A ∷ A ∷ A ∷ A ∷ v 35 ∷ l 4096 ∷ A ∷ l 0x80008100 ∷ []) csrs_2 cells_4 ([]) 1 true ∷
    b passed_blocks 0x8000020c (l 0 ∷ A ∷ A ∷ A ∷ A ∷ v 37 ∷ l 0x10000 ∷ l 0x1010000 ∷ A ∷ A ∷ v 10 ∷ v 11 ∷ v 12 ∷ v 13 ∷ v 14 ∷ v 15 ∷ A ∷ v 17 ∷ A ∷ A ∷ A ∷ A ∷ A ∷ A ∷ A ∷ A ∷ A ∷ A ∷ (Bin op.Add (v 35) (l 1)) ∷ l 4096 ∷ A ∷ l 0x80008100 ∷ []) csrs_2 cells_4 (f false (v 37) (l 0) false ∷ []) 0 true ∷
    b next_byte_gate 0x800001f4 (l 0 ∷ A ∷ A ∷ A ∷ A ∷ v 37 ∷ l 0x10000 ∷ l 0x1010000 ∷ A ∷ A ∷ v 10 ∷ v 11 ∷ v 12 ∷ v 13 ∷ v 14 ∷ v 15 ∷ A ∷ v 17 ∷ A ∷ A ∷ A ∷ A ∷ A ∷ A ∷ A ∷ A ∷ A ∷ A ∷ (Bin op.Add (v 35) (l 1)) ∷ l 4096 ∷ A ∷ l 0x80008100 ∷ []) csrs_2 cells_4 (f false (Bin op.Add (v 35) (l 1)) (l 4096) false ∷ f false (v 37) (l 0) false ∷ []) 0 false ∷
    b full_blocks 0x80000210 (l 0 ∷ A ∷ A ∷ A ∷ A ∷ v 37 ∷ l 0x10000 ∷ l 0x1010000 ∷ A ∷ A ∷ v 10 ∷ v 11 ∷ v 12 ∷ v 13 ∷ v 14 ∷ v 15 ∷ A ∷ v 17 ∷ A ∷ A ∷ A ∷ A ∷ A ∷ A ∷ A ∷ A ∷ A ∷ A ∷ (Bin op.Add (v 35) (l 1)) ∷ l 4096 ∷ A ∷ l 0x80008100 ∷ []) csrs_2 cells_4 (f false (Bin op.Add (v 35) (l 1)) (l 4096) true ∷ f false (v 37) (l 0) false ∷ []) 0 true ∷
    b path_long_gate 0x80000224 (l 0 ∷ A ∷ A ∷ A ∷ A ∷ v 37 ∷ l 0x10000 ∷ l 0x1010000 ∷ A ∷ A ∷ v 10 ∷ v 11 ∷ v 12 ∷ v 13 ∷ v 14 ∷ v 15 ∷ A ∷ v 17 ∷ A ∷ A ∷ A ∷ A ∷ A ∷ A ∷ A ∷ A ∷ A ∷ A ∷ (Bin op.Add (v 35) (l 1)) ∷ l 4096 ∷ A ∷ l 0x80008100 ∷ []) csrs_2 cells_4 (f false (Bin op.Add (v 35) (l 1)) (l 4096) true ∷ f false (v 37) (l 0) false ∷ []) 0 false ∷
    b path_end_gate 0x80000248 (l 0 ∷ A ∷ A ∷ A ∷ A ∷ v 37 ∷ l 0x10000 ∷ l 0x1010000 ∷ A ∷ A ∷ v 10 ∷ v 11 ∷ v 12 ∷ v 13 ∷ v 14 ∷ v 15 ∷ A ∷ v 17 ∷ A ∷ A ∷ A ∷ A ∷ A ∷ A ∷ A ∷ A ∷ A ∷ A ∷ (Bin op.Add (v 35) (l 1)) ∷ l 4096 ∷ A ∷ l 0x80008100 ∷ []) csrs_2 cells_4 (f false (v 37) (l 0) true ∷ []) 0 false ∷
    b no_call_blocks 0x80000214 (l 0 ∷ A ∷ A ∷ A ∷ A ∷ A ∷ A ∷ A ∷ A ∷ A ∷ A ∷ A ∷ A ∷ A ∷ A ∷ A ∷ A ∷ A ∷ A ∷ A ∷ A ∷ A ∷ A ∷ A ∷ A ∷ A ∷ A ∷ A ∷ A ∷ A ∷ A ∷ l 0x80008100 ∷ []) csrs_2 cells_4 ([]) 1 true ∷
    b no_call_done_gate 0x80000298 (l 0 ∷ A ∷ A ∷ A ∷ A ∷ A ∷ A ∷ A ∷ A ∷ A ∷ l 0xffffffffffffffda ∷ A ∷ A ∷ A ∷ A ∷ A ∷ A ∷ A ∷ A ∷ A ∷ A ∷ A ∷ A ∷ A ∷ A ∷ A ∷ A ∷ A ∷ A ∷ A ∷ A ∷ l 0x80008100 ∷ []) csrs_2 cells_4 ([]) 0 false ∷
    b outside_blocks 0x8000021c (l 0 ∷ A ∷ A ∷ A ∷ A ∷ A ∷ A ∷ A ∷ A ∷ A ∷ A ∷ A ∷ A ∷ A ∷ A ∷ A ∷ A ∷ A ∷ A ∷ A ∷ A ∷ A ∷ A ∷ A ∷ A ∷ A ∷ A ∷ A ∷ A ∷ A ∷ A ∷ l 0x80008100 ∷ []) csrs_2 cells_4 ([]) 1 true ∷
    b outside_done_gate 0x80000298 (l 0 ∷ A ∷ A ∷ A ∷ A ∷ A ∷ A ∷ A ∷ A ∷ A ∷ l 0xfffffffffffffff2 ∷ A ∷ A ∷ A ∷ A ∷ A ∷ A ∷ A ∷ A ∷ A ∷ A ∷ A ∷ A ∷ A ∷ A ∷ A ∷ A ∷ A ∷ A ∷ A ∷ A ∷ l 0x80008100 ∷ []) csrs_2 cells_4 ([]) 0 false ∷
    b long_blocks 0x80000224 (l 0 ∷ A ∷ A ∷ A ∷ A ∷ A ∷ A ∷ A ∷ A ∷ A ∷ A ∷ A ∷ A ∷ A ∷ A ∷ A ∷ A ∷ A ∷ A ∷ A ∷ A ∷ A ∷ A ∷ A ∷ A ∷ A ∷ A ∷ A ∷ A ∷ A ∷ A ∷ l 0x80008100 ∷ []) csrs_2 cells_4 ([]) 1 true ∷
    b long_done_gate 0x80000298 (l 0 ∷ A ∷ A ∷ A ∷ A ∷ A ∷ A ∷ A ∷ A ∷ A ∷ l 0xffffffffffffffdc ∷ A ∷ A ∷ A ∷ A ∷ A ∷ A ∷ A ∷ A ∷ A ∷ A ∷ A ∷ A ∷ A ∷ A ∷ A ∷ A ∷ A ∷ A ∷ A ∷ A ∷ l 0x80008100 ∷ []) csrs_2 cells_4 ([]) 0 false ∷
    b break_blocks 0x8000022c (l 0 ∷ A ∷ A ∷ A ∷ A ∷ A ∷ A ∷ A ∷ A ∷ A ∷ v 10 ∷ A ∷ A ∷ A ∷ A ∷ A ∷ A ∷ A ∷ A ∷ A ∷ A ∷ A ∷ A ∷ A ∷ A ∷ A ∷ A ∷ A ∷ A ∷ A ∷ A ∷ l 0x80008100 ∷ []) csrs_2 cells_4 ([]) 1 true ∷
    b break_blocks 0x80000234 (l 0 ∷ A ∷ A ∷ A ∷ A ∷ v 34 ∷ A ∷ A ∷ A ∷ A ∷ v 10 ∷ A ∷ A ∷ A ∷ A ∷ A ∷ A ∷ A ∷ A ∷ A ∷ A ∷ A ∷ A ∷ A ∷ A ∷ A ∷ A ∷ A ∷ A ∷ A ∷ A ∷ l 0x80008100 ∷ []) csrs_2 cells_4 (f true (v 10) (v 34) false ∷ []) 1 true ∷
    b break_blocks 0x8000023c (l 0 ∷ A ∷ A ∷ A ∷ A ∷ l 0xf00000 ∷ A ∷ A ∷ A ∷ A ∷ v 10 ∷ A ∷ A ∷ A ∷ A ∷ A ∷ A ∷ A ∷ A ∷ A ∷ A ∷ A ∷ A ∷ A ∷ A ∷ A ∷ A ∷ A ∷ A ∷ A ∷ A ∷ l 0x80008100 ∷ []) csrs_2 cells_4 (f true (l 0xf00000) (v 10) false ∷ f true (v 10) (v 34) false ∷ []) 2 true ∷
    b break_done_gate 0x80000298 (l 0 ∷ A ∷ A ∷ A ∷ A ∷ l 0xf00000 ∷ A ∷ A ∷ A ∷ A ∷ v 10 ∷ A ∷ A ∷ A ∷ A ∷ A ∷ A ∷ A ∷ A ∷ A ∷ A ∷ A ∷ A ∷ A ∷ A ∷ A ∷ A ∷ A ∷ A ∷ A ∷ A ∷ l 0x80008100 ∷ []) csrs_2 cells_5 (f true (l 0xf00000) (v 10) false ∷ f true (v 10) (v 34) false ∷ []) 0 false ∷
    b break_blocks 0x80000240 (l 0 ∷ A ∷ A ∷ A ∷ A ∷ l 0xf00000 ∷ A ∷ A ∷ A ∷ A ∷ v 10 ∷ A ∷ A ∷ A ∷ A ∷ A ∷ A ∷ A ∷ A ∷ A ∷ A ∷ A ∷ A ∷ A ∷ A ∷ A ∷ A ∷ A ∷ A ∷ A ∷ A ∷ l 0x80008100 ∷ []) csrs_2 cells_4 (f true (l 0xf00000) (v 10) true ∷ f true (v 10) (v 34) false ∷ []) 1 true ∷
    b break_done_gate 0x80000298 (l 0 ∷ A ∷ A ∷ A ∷ A ∷ l 0xf00000 ∷ A ∷ A ∷ A ∷ A ∷ v 33 ∷ A ∷ A ∷ A ∷ A ∷ A ∷ A ∷ A ∷ A ∷ A ∷ A ∷ A ∷ A ∷ A ∷ A ∷ A ∷ A ∷ A ∷ A ∷ A ∷ A ∷ l 0x80008100 ∷ []) csrs_2 cells_4 (f true (l 0xf00000) (v 10) true ∷ f true (v 10) (v 34) false ∷ []) 0 false ∷
    b break_blocks 0x80000240 (l 0 ∷ A ∷ A ∷ A ∷ A ∷ v 34 ∷ A ∷ A ∷ A ∷ A ∷ v 10 ∷ A ∷ A ∷ A ∷ A ∷ A ∷ A ∷ A ∷ A ∷ A ∷ A ∷ A ∷ A ∷ A ∷ A ∷ A ∷ A ∷ A ∷ A ∷ A ∷ A ∷ l 0x80008100 ∷ []) csrs_2 cells_4 (f true (v 10) (v 34) true ∷ []) 1 true ∷
    b break_done_gate 0x80000298 (l 0 ∷ A ∷ A ∷ A ∷ A ∷ v 34 ∷ A ∷ A ∷ A ∷ A ∷ v 33 ∷ A ∷ A ∷ A ∷ A ∷ A ∷ A ∷ A ∷ A ∷ A ∷ A ∷ A ∷ A ∷ A ∷ A ∷ A ∷ A ∷ A ∷ A ∷ A ∷ A ∷ l 0x80008100 ∷ []) csrs_2 cells_4 (f true (v 10) (v 34) true ∷ []) 0 false ∷
    b found_blocks 0x80000248 (l 0 ∷ A ∷ A ∷ A ∷ A ∷ A ∷ A ∷ A ∷ A ∷ A ∷ v 10 ∷ v 11 ∷ v 12 ∷ v 13 ∷ v 14 ∷ v 15 ∷ A ∷ v 17 ∷ A ∷ A ∷ A ∷ A ∷ A ∷ A ∷ A ∷ A ∷ A ∷ A ∷ v 39 ∷ A ∷ A ∷ l 0x80008100 ∷ []) csrs_2 cells_4 ([]) 2 true ∷
    b found_blocks 0x80000254 (l 0 ∷ A ∷ A ∷ A ∷ A ∷ l 56 ∷ A ∷ A ∷ A ∷ A ∷ v 10 ∷ v 11 ∷ v 12 ∷ v 13 ∷ v 13 ∷ v 15 ∷ A ∷ v 17 ∷ A ∷ A ∷ A ∷ A ∷ A ∷ A ∷ A ∷ A ∷ A ∷ A ∷ v 39 ∷ A ∷ A ∷ l 0x80008100 ∷ []) csrs_2 cells_4 (f false (v 17) (l 56) false ∷ []) 2 true ∷
    b path_request_gate 0x80000260 (l 0 ∷ A ∷ A ∷ A ∷ A ∷ l 56 ∷ A ∷ A ∷ A ∷ A ∷ v 10 ∷ v 11 ∷ v 39 ∷ v 12 ∷ l 0 ∷ v 15 ∷ A ∷ v 17 ∷ A ∷ A ∷ A ∷ A ∷ A ∷ A ∷ A ∷ A ∷ A ∷ A ∷ v 39 ∷ A ∷ A ∷ l 0x80008100 ∷ []) csrs_2 cells_4 (f false (v 17) (l 56) false ∷ []) 0 false ∷
    b found_blocks 0x80000258 (l 0 ∷ A ∷ A ∷ A ∷ A ∷ l 56 ∷ A ∷ A ∷ A ∷ A ∷ v 10 ∷ v 11 ∷ v 12 ∷ v 13 ∷ v 13 ∷ v 15 ∷ A ∷ v 17 ∷ A ∷ A ∷ A ∷ A ∷ A ∷ A ∷ A ∷ A ∷ A ∷ A ∷ v 39 ∷ A ∷ A ∷ l 0x80008100 ∷ []) csrs_2 cells_4 (f false (v 17) (l 56) true ∷ []) 1 true ∷
    b path_request_gate 0x80000260 (l 0 ∷ A ∷ A ∷ A ∷ A ∷ l 56 ∷ A ∷ A ∷ A ∷ A ∷ v 10 ∷ v 11 ∷ v 39 ∷ v 12 ∷ v 13 ∷ v 15 ∷ A ∷ v 17 ∷ A ∷ A ∷ A ∷ A ∷ A ∷ A ∷ A ∷ A ∷ A ∷ A ∷ v 39 ∷ A ∷ A ∷ l 0x80008100 ∷ []) csrs_2 cells_4 (f false (v 17) (l 56) true ∷ []) 0 false ∷
    b filling_blocks 0x80000260 (l 0 ∷ A ∷ A ∷ A ∷ A ∷ A ∷ A ∷ A ∷ A ∷ A ∷ v 51 ∷ v 52 ∷ v 53 ∷ v 54 ∷ v 55 ∷ A ∷ A ∷ v 50 ∷ A ∷ A ∷ A ∷ A ∷ A ∷ A ∷ A ∷ A ∷ A ∷ A ∷ A ∷ A ∷ A ∷ l 0x80008100 ∷ []) csrs_2 cells_4 ([]) 9 true ∷
    b waiting_blocks 0x80000288 (l 0 ∷ A ∷ A ∷ A ∷ A ∷ A ∷ A ∷ A ∷ A ∷ A ∷ A ∷ A ∷ A ∷ A ∷ A ∷ A ∷ A ∷ A ∷ A ∷ A ∷ A ∷ A ∷ A ∷ A ∷ A ∷ A ∷ A ∷ A ∷ A ∷ A ∷ A ∷ l 0x80008100 ∷ []) csrs_2 cells_6 ([]) 0 false ∷
    b tested_blocks 0x8000028c (l 0 ∷ A ∷ A ∷ A ∷ A ∷ v 43 ∷ A ∷ A ∷ A ∷ A ∷ A ∷ A ∷ A ∷ A ∷ A ∷ A ∷ A ∷ A ∷ A ∷ A ∷ A ∷ A ∷ A ∷ A ∷ A ∷ A ∷ A ∷ A ∷ A ∷ A ∷ A ∷ l 0x80008100 ∷ []) csrs_2 cells_6 ([]) 0 true ∷
    b answer_gate 0x80000290 (l 0 ∷ A ∷ A ∷ A ∷ A ∷ v 43 ∷ A ∷ A ∷ A ∷ A ∷ A ∷ A ∷ A ∷ A ∷ A ∷ A ∷ A ∷ A ∷ A ∷ A ∷ A ∷ A ∷ A ∷ A ∷ A ∷ A ∷ A ∷ A ∷ A ∷ A ∷ A ∷ l 0x80008100 ∷ []) csrs_2 cells_6 (f false (v 43) (l 0) false ∷ []) 0 false ∷
    b taking_blocks 0x80000290 (l 0 ∷ A ∷ A ∷ A ∷ A ∷ A ∷ A ∷ A ∷ A ∷ A ∷ A ∷ A ∷ A ∷ A ∷ A ∷ A ∷ A ∷ A ∷ A ∷ A ∷ A ∷ A ∷ A ∷ A ∷ A ∷ A ∷ A ∷ A ∷ A ∷ A ∷ A ∷ l 0x80008100 ∷ []) csrs_2 cells_7 ([]) 1 true ∷
    b taken_gate 0x80000298 (l 0 ∷ A ∷ A ∷ A ∷ A ∷ A ∷ A ∷ A ∷ A ∷ A ∷ v 41 ∷ A ∷ A ∷ A ∷ A ∷ A ∷ A ∷ A ∷ A ∷ A ∷ A ∷ A ∷ A ∷ A ∷ A ∷ A ∷ A ∷ A ∷ A ∷ A ∷ A ∷ l 0x80008100 ∷ []) csrs_2 cells_8 ([]) 0 false ∷
    b restoring_blocks 0x80000298 (l 0 ∷ A ∷ A ∷ A ∷ A ∷ A ∷ A ∷ A ∷ A ∷ A ∷ v 10 ∷ A ∷ A ∷ A ∷ A ∷ A ∷ A ∷ A ∷ A ∷ A ∷ A ∷ A ∷ A ∷ A ∷ A ∷ A ∷ A ∷ A ∷ A ∷ A ∷ A ∷ l 0x80008100 ∷ []) csrs_2 cells_9 ([]) 33 false ∷
    b choosing_blocks 0x80000320 (l 0 ∷ A ∷ A ∷ A ∷ A ∷ v 40 ∷ A ∷ A ∷ A ∷ A ∷ A ∷ A ∷ A ∷ A ∷ A ∷ A ∷ A ∷ A ∷ A ∷ A ∷ A ∷ A ∷ A ∷ A ∷ A ∷ A ∷ A ∷ A ∷ A ∷ A ∷ A ∷ l 0x80008100 ∷ []) csrs_2 cells_3 (f false (v 40) (l 8) false ∷ []) 5 true ∷
    b trap_words_gate 0x80000410 (l 0 ∷ A ∷ A ∷ A ∷ A ∷ v 40 ∷ l 2 ∷ A ∷ A ∷ A ∷ A ∷ A ∷ A ∷ A ∷ A ∷ A ∷ A ∷ A ∷ A ∷ A ∷ A ∷ v 32 ∷ v 42 ∷ A ∷ A ∷ A ∷ A ∷ A ∷ A ∷ A ∷ l 0x101000000000000 ∷ l 0x80008100 ∷ []) csrs_2 cells_3 (f false (v 40) (l 2) false ∷ f false (v 40) (l 8) false ∷ []) 0 false ∷
    b choosing_blocks 0x80000338 (l 0 ∷ A ∷ A ∷ A ∷ A ∷ v 40 ∷ l 2 ∷ A ∷ A ∷ A ∷ A ∷ A ∷ A ∷ A ∷ A ∷ A ∷ A ∷ A ∷ A ∷ A ∷ A ∷ v 32 ∷ v 42 ∷ A ∷ A ∷ A ∷ A ∷ A ∷ A ∷ A ∷ l 0x101000000000000 ∷ l 0x80008100 ∷ []) csrs_2 cells_3 (f false (v 40) (l 2) true ∷ f false (v 40) (l 8) false ∷ []) 2 true ∷
    b trap_words_gate 0x80000410 (l 0 ∷ A ∷ A ∷ A ∷ A ∷ v 40 ∷ (Bin op.And (v 42) (l 127)) ∷ l 115 ∷ A ∷ A ∷ A ∷ A ∷ A ∷ A ∷ A ∷ A ∷ A ∷ A ∷ A ∷ A ∷ A ∷ v 32 ∷ v 42 ∷ A ∷ A ∷ A ∷ A ∷ A ∷ A ∷ A ∷ l 0x101000000000000 ∷ l 0x80008100 ∷ []) csrs_2 cells_3 (f false (Bin op.And (v 42) (l 127)) (l 115) false ∷ f false (v 40) (l 2) true ∷ f false (v 40) (l 8) false ∷ []) 0 false ∷
    b choosing_blocks 0x80000344 (l 0 ∷ A ∷ A ∷ A ∷ A ∷ v 40 ∷ (Bin op.And (v 42) (l 127)) ∷ l 115 ∷ A ∷ A ∷ A ∷ A ∷ A ∷ A ∷ A ∷ A ∷ A ∷ A ∷ A ∷ A ∷ A ∷ v 32 ∷ v 42 ∷ A ∷ A ∷ A ∷ A ∷ A ∷ A ∷ A ∷ l 0x101000000000000 ∷ l 0x80008100 ∷ []) csrs_2 cells_3 (f false (Bin op.And (v 42) (l 127)) (l 115) true ∷ f false (v 40) (l 2) true ∷ f false (v 40) (l 8) false ∷ []) 2 true ∷
    b choosing_blocks 0x80000350 (l 0 ∷ A ∷ A ∷ A ∷ A ∷ v 40 ∷ (Bin op.And (Bin op.Srl (v 42) (l 12)) (l 3)) ∷ l 115 ∷ A ∷ A ∷ A ∷ A ∷ A ∷ A ∷ A ∷ A ∷ A ∷ A ∷ A ∷ A ∷ A ∷ v 32 ∷ v 42 ∷ A ∷ A ∷ A ∷ A ∷ A ∷ A ∷ A ∷ l 0x101000000000000 ∷ l 0x80008100 ∷ []) csrs_2 cells_3 (f false (Bin op.And (Bin op.Srl (v 42) (l 12)) (l 3)) (l 0) false ∷ f false (Bin op.And (v 42) (l 127)) (l 115) true ∷ f false (v 40) (l 2) true ∷ f false (v 40) (l 8) false ∷ []) 2 true ∷
    b trap_words_gate 0x80000410 (l 0 ∷ A ∷ A ∷ A ∷ A ∷ v 40 ∷ (Bin op.Srl (v 42) (l 25)) ∷ l 96 ∷ A ∷ A ∷ A ∷ A ∷ A ∷ A ∷ A ∷ A ∷ A ∷ A ∷ A ∷ A ∷ A ∷ v 32 ∷ v 42 ∷ A ∷ A ∷ A ∷ A ∷ A ∷ A ∷ A ∷ l 0x101000000000000 ∷ l 0x80008100 ∷ []) csrs_2 cells_3 (f false (Bin op.Srl (v 42) (l 25)) (l 96) false ∷ f false (Bin op.And (Bin op.Srl (v 42) (l 12)) (l 3)) (l 0) false ∷ f false (Bin op.And (v 42) (l 127)) (l 115) true ∷ f false (v 40) (l 2) true ∷ f false (v 40) (l 8) false ∷ []) 0 false ∷
    b counter_words_gate 0x8000035c (l 0 ∷ A ∷ A ∷ A ∷ A ∷ v 40 ∷ (Bin op.Srl (v 42) (l 25)) ∷ l 96 ∷ A ∷ A ∷ A ∷ A ∷ A ∷ A ∷ A ∷ A ∷ A ∷ A ∷ A ∷ A ∷ A ∷ v 32 ∷ v 42 ∷ A ∷ A ∷ A ∷ A ∷ A ∷ A ∷ A ∷ l 0x101000000000000 ∷ l 0x80008100 ∷ []) csrs_2 cells_3 (f false (Bin op.Srl (v 42) (l 25)) (l 96) true ∷ f false (Bin op.And (Bin op.Srl (v 42) (l 12)) (l 3)) (l 0) false ∷ f false (Bin op.And (v 42) (l 127)) (l 115) true ∷ f false (v 40) (l 2) true ∷ f false (v 40) (l 8) false ∷ []) 0 false ∷
    b trap_words_gate 0x80000410 (l 0 ∷ A ∷ A ∷ A ∷ A ∷ v 40 ∷ (Bin op.And (Bin op.Srl (v 42) (l 12)) (l 3)) ∷ l 115 ∷ A ∷ A ∷ A ∷ A ∷ A ∷ A ∷ A ∷ A ∷ A ∷ A ∷ A ∷ A ∷ A ∷ v 32 ∷ v 42 ∷ A ∷ A ∷ A ∷ A ∷ A ∷ A ∷ A ∷ l 0x101000000000000 ∷ l 0x80008100 ∷ []) csrs_2 cells_3 (f false (Bin op.And (Bin op.Srl (v 42) (l 12)) (l 3)) (l 0) true ∷ f false (Bin op.And (v 42) (l 127)) (l 115) true ∷ f false (v 40) (l 2) true ∷ f false (v 40) (l 8) false ∷ []) 0 false ∷
    b counter_end_blocks 0x80000528 (l 0 ∷ A ∷ A ∷ A ∷ A ∷ A ∷ A ∷ A ∷ A ∷ A ∷ A ∷ A ∷ A ∷ A ∷ A ∷ A ∷ A ∷ A ∷ A ∷ A ∷ A ∷ A ∷ A ∷ l 124 ∷ A ∷ A ∷ A ∷ A ∷ A ∷ A ∷ A ∷ l 0x80008100 ∷ []) csrs_2 cells_3 ([]) 1 true ∷
    b counter_end_blocks 0x80000530 (l 0 ∷ A ∷ A ∷ A ∷ A ∷ A ∷ A ∷ A ∷ A ∷ A ∷ l 249 ∷ A ∷ A ∷ A ∷ A ∷ A ∷ A ∷ A ∷ A ∷ A ∷ A ∷ A ∷ A ∷ l 124 ∷ A ∷ A ∷ A ∷ A ∷ A ∷ A ∷ A ∷ l 0x80008100 ∷ []) csrs_2 cells_3 ([]) 1 true ∷
    b counter_end_blocks 0x80000538 (l 0 ∷ A ∷ A ∷ A ∷ A ∷ A ∷ A ∷ A ∷ A ∷ A ∷ l 249 ∷ A ∷ A ∷ A ∷ A ∷ A ∷ A ∷ A ∷ A ∷ A ∷ A ∷ A ∷ A ∷ l 124 ∷ A ∷ A ∷ A ∷ A ∷ A ∷ A ∷ A ∷ l 0x80008100 ∷ []) csrs_2 cells_3 ([]) 0 true ∷
    b counter_idle_blocks 0x8000053c (l 0 ∷ A ∷ A ∷ A ∷ A ∷ A ∷ A ∷ A ∷ A ∷ A ∷ l 249 ∷ A ∷ A ∷ A ∷ A ∷ A ∷ A ∷ A ∷ A ∷ A ∷ A ∷ A ∷ A ∷ l 124 ∷ A ∷ A ∷ A ∷ A ∷ A ∷ A ∷ A ∷ l 0x80008100 ∷ []) csrs_2 cells_3 ([]) 0 true ∷
    b trap_end_blocks 0x80000528 (l 0 ∷ A ∷ A ∷ A ∷ A ∷ A ∷ A ∷ A ∷ A ∷ A ∷ A ∷ A ∷ A ∷ A ∷ A ∷ A ∷ A ∷ A ∷ A ∷ A ∷ A ∷ A ∷ A ∷ (Bin op.Add (v 40) (l 128)) ∷ A ∷ A ∷ A ∷ A ∷ A ∷ A ∷ A ∷ l 0x80008100 ∷ []) csrs_2 cells_3 ([]) 1 true ∷
    b trap_end_blocks 0x80000530 (l 0 ∷ A ∷ A ∷ A ∷ A ∷ A ∷ A ∷ A ∷ A ∷ A ∷ (Bin op.Add (Bin op.Sll (Bin op.Add (v 40) (l 128)) (l 1)) (l 1)) ∷ A ∷ A ∷ A ∷ A ∷ A ∷ A ∷ A ∷ A ∷ A ∷ A ∷ A ∷ A ∷ (Bin op.Add (v 40) (l 128)) ∷ A ∷ A ∷ A ∷ A ∷ A ∷ A ∷ A ∷ l 0x80008100 ∷ []) csrs_2 cells_3 ([]) 1 true ∷
    b trap_end_blocks 0x80000538 (l 0 ∷ A ∷ A ∷ A ∷ A ∷ A ∷ A ∷ A ∷ A ∷ A ∷ (Bin op.Add (Bin op.Sll (Bin op.Add (v 40) (l 128)) (l 1)) (l 1)) ∷ A ∷ A ∷ A ∷ A ∷ A ∷ A ∷ A ∷ A ∷ A ∷ A ∷ A ∷ A ∷ (Bin op.Add (v 40) (l 128)) ∷ A ∷ A ∷ A ∷ A ∷ A ∷ A ∷ A ∷ l 0x80008100 ∷ []) csrs_2 cells_3 ([]) 0 true ∷
    b trap_idle_blocks 0x8000053c (l 0 ∷ A ∷ A ∷ A ∷ A ∷ A ∷ A ∷ A ∷ A ∷ A ∷ (Bin op.Add (Bin op.Sll (Bin op.Add (v 40) (l 128)) (l 1)) (l 1)) ∷ A ∷ A ∷ A ∷ A ∷ A ∷ A ∷ A ∷ A ∷ A ∷ A ∷ A ∷ A ∷ (Bin op.Add (v 40) (l 128)) ∷ A ∷ A ∷ A ∷ A ∷ A ∷ A ∷ A ∷ l 0x80008100 ∷ []) csrs_2 cells_3 ([]) 0 true ∷
    []
